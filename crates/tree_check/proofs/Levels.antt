-- How many buffers are left level by level.
use Rattle.std.proofs.Common.{◌≡◌, ℕ, suc, ◌+◌, ◌-◌, ◌*◌, ◌≤◌, sym, subst, arith}
use Rattle.std.proofs.Math.Nat.{suc-mul}

pub level_room : (level size n : ℕ) → level ≤ 41 → (42 - level) * size ≤ n → size + (41 - level) * size ≤ n
level_room level size n low room =
    let e : 42 - level ≡ suc (41 - level) = omega (arith, low) in
    let there : suc (41 - level) * size ≤ n = subst (λ (m : ℕ). m * size ≤ n) e room in
    omega (arith, there, suc-mul (41 - level) size)

pub level_one : (level size n : ℕ) → level ≤ 40 → (41 - level) * size ≤ n → size ≤ n
level_one level size n low room =
    let e : 41 - level ≡ suc (40 - level) = omega (arith, low) in
    let there : suc (40 - level) * size ≤ n = subst (λ (m : ℕ). m * size ≤ n) e room in
    omega (arith, there, suc-mul (40 - level) size)

pub level_below : (level size n : ℕ) → (41 - level) * size ≤ n → (42 - (level + 1)) * size ≤ n
level_below level size n room = subst (λ (m : ℕ). m * size ≤ n) (let e : 41 - level ≡ 42 - (level + 1) = omega arith in e) room

-- the first buffer, and those behind it
pub level_first : (level size n : ℕ) → level ≤ 41 → (42 - level) * size ≤ n → size ≤ n
level_first level size n low room = omega (arith, level_room level size n low room)

pub level_rest : (level size all rest : ℕ) → level ≤ 41 → (42 - level) * size ≤ all → rest + size ≡ all → (41 - level) * size ≤ rest
level_rest level size all rest low room split = omega (arith, level_room level size all low room, split)

-- buffers of the same size
pub same_room : (buffers size now n now_n : ℕ) → now ≡ size → now_n ≡ n → buffers * size ≤ n → buffers * now ≤ now_n
same_room buffers size now n now_n size_is n_is room =
    subst (λ (m : ℕ). buffers * m ≤ now_n) (sym size_is) (subst (λ (m : ℕ). buffers * size ≤ m) (sym n_is) room)
