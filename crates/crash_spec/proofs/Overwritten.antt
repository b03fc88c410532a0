-- What a write leaves before its place, and how long a file is after it.
use Rattle.std.proofs.Common.{sym, ◌∙◌, ap, ◌-◌, ◌≡◌, ℕ, ◌+◌, ◌≤◌, List, ◌++◌, length, take, drop, arith, length-append}
use Rattle.std.proofs.lemmas.List.{drop-drop, drop_at, length-take-le, length-drop, take-append-le, take-take}
use Rattle.disk_face.specs.Files.{overwritten}

pub overwritten-front : (n at : ℕ) (bytes before : List ℕ) → n ≤ at → at ≤ length before → take n (overwritten at bytes before) ≡ take n before
overwritten-front n at bytes before le inside =
    let long = length-take-le at before inside in
    take-append-le n (take at before ++ bytes) (drop (at + length bytes) before) (omega (arith, length-append (take at before) bytes))
    ∙ take-append-le n (take at before) bytes (omega arith)
    ∙ take-take n at before le

pub overwritten-length : (at : ℕ) (bytes before : List ℕ) → at ≤ length before → length before ≤ length (overwritten at bytes before)
overwritten-length at bytes before inside =
    omega (arith, length-append (take at before ++ bytes) (drop (at + length bytes) before), length-append (take at before) bytes, length-take-le at before inside, length-drop (at + length bytes) before)

pub overwritten-back : (at n : ℕ) (bytes before : List ℕ) → at ≤ length before → at + length bytes ≤ n → drop n (overwritten at bytes before) ≡ drop n before
overwritten-back at n bytes before inside past =
    let front : length (take at before ++ bytes) ≡ at + length bytes = length-append (take at before) bytes ∙ omega (arith, length-take-le at before inside) in
    let more : ℕ = n - (at + length bytes) in
    let split : n ≡ (at + length bytes) + more = omega arith in
    ap (λ (k : ℕ). drop k (overwritten at bytes before)) split
    ∙ sym (drop-drop more (at + length bytes) (overwritten at bytes before))
    ∙ ap (λ (xs : List ℕ). drop more xs) (drop_at (take at before ++ bytes) (drop (at + length bytes) before) (at + length bytes) front)
    ∙ drop-drop more (at + length bytes) before
    ∙ ap (λ (k : ℕ). drop k before) (sym split)
