-- The freelist: numbers one behind the other, trunks that follow one another, and the list that they hold. A view has one freelist from a trunk on
-- at most, of pages in range, and another view that agrees on its pages has the same.
use Rattle.std.proofs.Common.{◌≡◌, ℕ, zero, suc, ◌+◌, ◌*◌, ◌<◌, ◌≤◌, List, [], ◌∷◌, ◌++◌, length, get_or, refl, sym, subst, ap, ap₂, ◌∙◌, arith, append_assoc, eq-eqb}
use Rattle.std.specs.Prelude.{Contains}
use Rattle.page_spec.specs.Bytes.{u32_at}
use Rattle.page_spec.specs.View.{View}
use Rattle.tree_spec.specs.Layout.{times, Each}
use Rattle.tree_spec.specs.Freelist.{numbers_at, Trunk, trunk_in, IsTrunk, AreTrunks, held_by, IsFreelist}
use Rattle.tree_spec.proofs.Lists.{each-append, times-append}

pub length-numbers_at : (bytes : List ℕ) (at count : ℕ) → length (numbers_at bytes at count) ≡ count
length-numbers_at bytes at zero = refl
length-numbers_at bytes at (suc count) = ap (λ (n : ℕ). suc n) (length-numbers_at bytes (at + 4) count)

-- the number at a place
pub number_at : (bytes : List ℕ) (at count k d : ℕ) → k < count → get_or (numbers_at bytes at count) k d ≡ u32_at bytes (at + 4 * k)
number_at bytes at zero k d less = absurd (omega (arith, less))
number_at bytes at (suc count) zero d less = ap (λ (n : ℕ). u32_at bytes n) (let e : at ≡ at + 4 * 0 = omega arith in e)
number_at bytes at (suc count) (suc k) d less =
    number_at bytes (at + 4) count k d (omega (arith, less)) ∙ ap (λ (n : ℕ). u32_at bytes n) (let e : (at + 4) + 4 * k ≡ at + 4 * suc k = omega arith in e)

-- one number more
pub numbers_more : (bytes : List ℕ) (at count : ℕ) → numbers_at bytes at (count + 1) ≡ numbers_at bytes at count ++ u32_at bytes (at + 4 * count) ∷ []
numbers_more bytes at zero = ap (λ (n : ℕ). u32_at bytes n ∷ []) (let e : at ≡ at + 4 * 0 = omega arith in e)
numbers_more bytes at (suc count) =
    ap (λ (n : ℕ). numbers_at bytes at n) (let e : suc count + 1 ≡ suc (count + 1) = omega arith in e)
    ∙ ap (λ (l : List ℕ). u32_at bytes at ∷ l) (numbers_more bytes (at + 4) count
    ∙ ap (λ (n : ℕ). numbers_at bytes (at + 4) count ++ u32_at bytes n ∷ []) (let e : (at + 4) + 4 * count ≡ at + 4 * suc count = omega arith in e))

-- what holds of each number
pub each_number : (P : ℕ → Type 0) (bytes : List ℕ) (at count : ℕ) → ((k : ℕ) → k < count → P (u32_at bytes (at + 4 * k))) → Each P (numbers_at bytes at count)
each_number P bytes at zero each = tt
each_number P bytes at (suc count) each = (
  subst (λ (n : ℕ). P (u32_at bytes n)) (let e : at + 4 * 0 ≡ at = omega arith in e) (each 0 (omega arith)),
  each_number P bytes (at + 4) count (λ k less.
      subst (λ (n : ℕ). P (u32_at bytes n)) (let e : at + 4 * suc k ≡ (at + 4) + 4 * k = omega arith in e) (each (suc k) (omega (arith, less)))),
)

-- each element of a list is one of which it holds
pub each_there : (P : ℕ → Type 0) (xs : List ℕ) (x : ℕ) → Each P xs → Contains xs x → P x
each_there P [] x each there = absurd (omega (arith, there.1))
each_there P (y ∷ ys) x each (zero, less, is) = subst P is each.0
each_there P (y ∷ ys) x each (suc k, less, is) = each_there P ys x each.1 (k, omega (arith, less), is)

-- one trunk more
pub trunks_more : (usable last : ℕ) (view : View) (first : ℕ) (done : List ℕ) (page : ℕ) → 2 ≤ page → page ≤ last → IsTrunk usable last (trunk_in (view page))
    → AreTrunks usable last view first done page → AreTrunks usable last view first (done ++ page ∷ []) (trunk_in (view page)).next
trunks_more usable last view first [] page low high trunk follow = (follow, low, high, trunk, refl)
trunks_more usable last view first (p ∷ ps) page low high trunk follow =
    (follow.0, follow.1, follow.2, follow.3, trunks_more usable last view (trunk_in (view p)).next ps page low high trunk follow.4)

pub held_by-append : (view : View) (a b : List ℕ) → held_by view (a ++ b) ≡ held_by view a ++ held_by view b
held_by-append view [] b = refl
held_by-append view (p ∷ ps) b =
    ap (λ (l : List ℕ). p ∷ (trunk_in (view p)).leaves ++ l) (held_by-append view ps b)
    ∙ ap (λ (l : List ℕ). p ∷ l) (sym (append_assoc (trunk_in (view p)).leaves (held_by view ps) (held_by view b)))

-- trunks go on from where following them comes to
pub trunks_rest : (usable last bound : ℕ) (view : View) (first : ℕ) (done : List ℕ) (next : ℕ) (list : List ℕ) (end : ℕ) → end < 2
    → AreTrunks usable last view first done next → AreTrunks usable bound view first list end
    → (rest : List ℕ) × (list ≡ done ++ rest) × AreTrunks usable bound view next rest end
trunks_rest usable last bound view first [] next list end none leads follow = (list, refl, subst (λ (n : ℕ). AreTrunks usable bound view n list end) (sym leads) follow)
trunks_rest usable last bound view first (p ∷ ps) next [] end none leads follow = absurd (omega (arith, leads.0, leads.1, follow, none))
trunks_rest usable last bound view first (p ∷ ps) next (q ∷ qs) end none leads follow =
    let same : q ≡ p = follow.0 ∙ sym leads.0 in
    let found = trunks_rest usable last bound view (trunk_in (view p)).next ps next qs end none leads.4
    (subst (λ (n : ℕ). AreTrunks usable bound view (trunk_in (view n)).next qs end) same follow.4) in
    (found.0, ap₂ ◌∷◌ same found.1, found.2)

-- a list of trunks that ends is determined
pub trunks_once : (usable last bound : ℕ) (view : View) (first : ℕ) (one two : List ℕ) → AreTrunks usable last view first one 0 → AreTrunks usable bound view first two 0 → one ≡ two
trunks_once usable last bound view first [] [] p q = refl
trunks_once usable last bound view first [] (page ∷ pages) p q = absurd (omega (arith, p, q.0, q.1))
trunks_once usable last bound view first (page ∷ pages) [] p q = absurd (omega (arith, q, p.0, p.1))
trunks_once usable last bound view first (page ∷ pages) (other ∷ others) p q =
    let same : page ≡ other = p.0 ∙ sym q.0 in
    ap₂ ◌∷◌ same (trunks_once usable last bound view (trunk_in (view other)).next pages others
    (subst (λ (n : ℕ). AreTrunks usable last view (trunk_in (view n)).next pages 0) same p.4) q.4)

-- A view has one freelist from a trunk on at most.
pub freelist_once : (usable last bound : ℕ) (view : View) (first count others : ℕ) (one two : List ℕ)
    → IsFreelist usable last view first count one → IsFreelist usable bound view first others two → one ≡ two
freelist_once usable last bound view first count others one two p q =
    p.held ∙ ap (λ (l : List ℕ). held_by view l) (trunks_once usable last bound view first p.trunks q.trunks p.follow q.follow) ∙ sym q.held

-- a list with pages has its first trunk
pub first_there : (usable last : ℕ) (view : View) (first count : ℕ) (list : List ℕ) → 0 < count → IsFreelist usable last view first count list → 1 ≤ times list first
first_there usable last view first count list some is =
    subst (λ (l : List ℕ). 1 ≤ times l first) (sym is.held) (by_trunks is.trunks is.follow (let many = ap length is.held in omega (arith, some, is.counted, many)))
  where
    by_trunks : (trunks : List ℕ) → AreTrunks usable last view first trunks 0 → 0 < length (held_by view trunks) → 1 ≤ times (held_by view trunks) first
    by_trunks [] follow more = absurd (omega (arith, more))
    by_trunks (p ∷ ps) follow more = rw (eq-eqb p first follow.0) (omega arith)

-- its pages are in range
held_range : (usable last : ℕ) (view : View) (first : ℕ) (trunks : List ℕ) (next : ℕ) → AreTrunks usable last view first trunks next
    → Each (λ page. (2 ≤ page) × (page ≤ last)) (held_by view trunks)
held_range usable last view first [] next follow = tt
held_range usable last view first (p ∷ ps) next follow = (
  (follow.1, follow.2),
  each-append (λ page. (2 ≤ page) × (page ≤ last)) (trunk_in (view p)).leaves (held_by view ps) follow.3.range
      (held_range usable last view (trunk_in (view p)).next ps next follow.4),
)

pub freelist_range : (usable last : ℕ) (view : View) (first count : ℕ) (list : List ℕ) → IsFreelist usable last view first count list
    → Each (λ page. (2 ≤ page) × (page ≤ last)) list
freelist_range usable last view first count list is =
    subst (λ (l : List ℕ). Each (λ page. (2 ≤ page) × (page ≤ last)) l) (sym is.held) (held_range usable last view first is.trunks 0 is.follow)

-- what is asked of numbers up to one bound is so up to a greater one
range_wider : (last last_then : ℕ) (xs : List ℕ) → last ≤ last_then → Each (λ page. (2 ≤ page) × (page ≤ last)) xs → Each (λ page. (2 ≤ page) × (page ≤ last_then)) xs
range_wider last last_then [] more each = tt
range_wider last last_then (x ∷ xs) more each = ((each.0.0, omega (arith, more, each.0.1)), range_wider last last_then xs more each.1)

pub trunk_wider : (usable last last_then : ℕ) (trunk : Trunk) → last ≤ last_then → IsTrunk usable last trunk → IsTrunk usable last_then trunk
trunk_wider usable last last_then trunk more is = record { room = is.room; range = range_wider last last_then trunk.leaves more is.range }

-- Trunks that two views show alike follow one another, and hold the same, in both.
pub trunks_local : (usable last last_then : ℕ) (view view_then : View) (first : ℕ) (trunks : List ℕ) (next : ℕ) → last ≤ last_then
    → ((n : ℕ) → 1 ≤ times trunks n → view_then n ≡ view n) → AreTrunks usable last view first trunks next
    → AreTrunks usable last_then view_then first trunks next × (held_by view_then trunks ≡ held_by view trunks)
trunks_local usable last last_then view view_then first [] next more same follow = (follow, refl)
trunks_local usable last last_then view view_then first (p ∷ ps) next more same follow =
    let here : view_then p ≡ view p = same p (rw (eq-eqb p p refl) (omega arith)) in
    let rest = trunks_local usable last last_then view view_then (trunk_in (view p)).next ps next more (λ n there. same n (omega (arith, there))) follow.4 in (
      (
        follow.0,
        follow.1,
        omega (arith, more, follow.2),
        subst (λ (bytes : List ℕ). IsTrunk usable last_then (trunk_in bytes)) (sym here) (trunk_wider usable last last_then (trunk_in (view p)) more follow.3),
        subst (λ (bytes : List ℕ). AreTrunks usable last_then view_then (trunk_in bytes).next ps next) (sym here) rest.0,
      ),
      ap₂ (λ (bytes : List ℕ) (l : List ℕ). p ∷ (trunk_in bytes).leaves ++ l) here rest.1,
    )

-- a page stands among what trunks hold as often as among the trunks at least
pub times-held_by : (view : View) (trunks : List ℕ) (n : ℕ) → times trunks n ≤ times (held_by view trunks) n
times-held_by view [] n = omega arith
times-held_by view (p ∷ ps) n = omega (arith, times-held_by view ps n, times-append (trunk_in (view p)).leaves (held_by view ps) n)

-- The freelist stays where its pages do.
pub freelist_local : (usable last last_then : ℕ) (view view_then : View) (first count : ℕ) (list : List ℕ) → last ≤ last_then
    → ((n : ℕ) → 1 ≤ times list n → view_then n ≡ view n) → IsFreelist usable last view first count list
    → IsFreelist usable last_then view_then first count list
freelist_local usable last last_then view view_then first count list more same is =
    let moved = trunks_local usable last last_then view view_then first is.trunks 0 more
    (λ n there. same n (subst (λ (l : List ℕ). 1 ≤ times l n) (sym is.held) (omega (arith, there, times-held_by view is.trunks n)))) is.follow in
    record {
      trunks = is.trunks;
      follow = moved.0;
      held = is.held ∙ sym moved.1;
      counted = is.counted;
    }
