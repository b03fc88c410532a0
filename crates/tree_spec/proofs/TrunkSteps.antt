-- What becomes of a freelist where its first trunk loses a leaf, gets one, goes out of the list, or a new one goes before it.
use Rattle.std.proofs.Common.{◌≡◌, ◌≢◌, ℕ, zero, suc, ◌+◌, ◌*◌, ◌<◌, ◌≤◌, List, [], ◌∷◌, ◌++◌, length, replicate, ne_eqb, Bool, refl, sym, subst, ap, ap₂, ◌∙◌, arith, inl, inr, append_assoc, length-append}
use Rattle.std.proofs.lemmas.Bool.{cases_eq}
use Rattle.std.specs.Prelude.{slice_index, if◌then◌else◌}
use Rattle.page_spec.specs.Bytes.{u32_at, DiffersOnlyWithin}
use Rattle.page_spec.specs.View.{View}
use Rattle.page_spec.proofs.BytesLaws.{u32_at-below, u32_at-above, differs-trans}
use Rattle.tree_spec.specs.Layout.{times, Each}
use Rattle.tree_spec.specs.Freelist.{numbers_at, Trunk, trunk_in, IsTrunk, AreTrunks, held_by, IsFreelist}
use Rattle.tree_spec.specs.Trunks.{leaves_put, LosesLeaf, GetsLeaf, IsNewTrunk}
use Rattle.tree_spec.proofs.Lists.{each-append}
use Rattle.tree_spec.proofs.Freelists.{length-numbers_at, numbers_more, trunks_once, trunks_local, times-held_by}

-- numbers above changed bytes, and below them, are the same
numbers_above : {old new : List ℕ} {from to : ℕ} → DiffersOnlyWithin old new from to → (at count : ℕ) → to ≤ at → numbers_at new at count ≡ numbers_at old at count
numbers_above d at zero above = refl
numbers_above d at (suc count) above = ap₂ ◌∷◌ (u32_at-above d at above) (numbers_above d (at + 4) count (omega (arith, above)))

numbers_below : {old new : List ℕ} {from to : ℕ} → DiffersOnlyWithin old new from to → (at count : ℕ) → at + 4 * count ≤ from → numbers_at new at count ≡ numbers_at old at count
numbers_below d at zero below = refl
numbers_below d at (suc count) below = ap₂ ◌∷◌ (u32_at-below d at (omega (arith, below))) (numbers_below d (at + 4) count (omega (arith, below)))

trunk_is : (trunk : Trunk) (next : ℕ) (leaves : List ℕ) → trunk.next ≡ next → trunk.leaves ≡ leaves → trunk ≡ record { next = next; leaves = leaves }
trunk_is trunk next leaves next_is leaves_are = λ i. record { next = next_is i; leaves = leaves_are i }

-- the count of a trunk's leaves is lowered
pub loses : (bytes bytes_then : List ℕ) (count leaf : ℕ) → u32_at bytes 4 ≡ count + 1 → leaf ≡ u32_at bytes (8 + 4 * count) → u32_at bytes_then 4 ≡ count
    → DiffersOnlyWithin bytes bytes_then 4 8 → LosesLeaf bytes bytes_then leaf
loses bytes bytes_then count leaf had leaf_is has differs = record {
  others = numbers_at bytes 8 count;
  had = ap (λ (n : ℕ). numbers_at bytes 8 n) had ∙ numbers_more bytes 8 count ∙ ap (λ (n : ℕ). numbers_at bytes 8 count ++ n ∷ []) (sym leaf_is);
  has = trunk_is (trunk_in bytes_then) (u32_at bytes 0) (numbers_at bytes 8 count) (u32_at-below differs 0 (omega arith))
      (ap (λ (n : ℕ). numbers_at bytes_then 8 n) has ∙ numbers_above differs 8 count (omega arith));
  rest = differs;
}

-- a leaf is written behind the others, and their count raised
pub gets : (bytes between bytes_then : List ℕ) (count leaf : ℕ) → u32_at bytes 4 ≡ count → u32_at between 4 ≡ count + 1 → DiffersOnlyWithin bytes between 4 8
    → u32_at bytes_then (8 + 4 * count) ≡ leaf → DiffersOnlyWithin between bytes_then (8 + 4 * count) (12 + 4 * count) → GetsLeaf bytes bytes_then leaf
gets bytes between bytes_then count leaf had has first leaf_is second =
    let more : u32_at bytes_then 4 ≡ count + 1 = u32_at-below second 4 (omega arith) ∙ has in
    let same : numbers_at bytes_then 8 count ≡ numbers_at bytes 8 (u32_at bytes 4) =
    numbers_below second 8 count (omega arith) ∙ numbers_above first 8 count (omega arith) ∙ ap (λ (n : ℕ). numbers_at bytes 8 n) (sym had) in
    let len : length (numbers_at bytes 8 (u32_at bytes 4)) ≡ count = length-numbers_at bytes 8 (u32_at bytes 4) ∙ had in
    record {
      has = trunk_is (trunk_in bytes_then) (u32_at bytes 0) (numbers_at bytes 8 (u32_at bytes 4) ++ leaf ∷ [])
          (u32_at-below second 0 (omega arith) ∙ u32_at-below first 0 (omega arith))
          (ap (λ (n : ℕ). numbers_at bytes_then 8 n) more ∙ numbers_more bytes_then 8 count ∙ ap₂ (λ (l : List ℕ) (n : ℕ). l ++ n ∷ []) same leaf_is);
      rest = differs-trans first second 4 (12 + 4 * length (numbers_at bytes 8 (u32_at bytes 4))) (omega arith) (omega arith) (omega (arith, len)) (omega (arith, len));
    }

-- a page of zeros but for the next number has no leaves
zero_there : (size k : ℕ) → slice_index (replicate size 0) k ≡ 0
zero_there zero k = refl
zero_there (suc size) zero = refl
zero_there (suc size) (suc k) = zero_there size k

zero_at : (size at : ℕ) → u32_at (replicate size 0) at ≡ 0
unfolding u32_at
zero_at size at = rw (zero_there size at, zero_there size (at + 1), zero_there size (at + 2), zero_there size (at + 3)) refl

pub new_trunk : (size next : ℕ) (bytes : List ℕ) → IsNewTrunk size next bytes → trunk_in bytes ≡ record { next = next; leaves = [] }
new_trunk size next bytes is = trunk_is (trunk_in bytes) next [] is.next_is
    (ap (λ (n : ℕ). numbers_at bytes 8 n) (u32_at-above is.rest 4 (omega arith) ∙ zero_at size 4))

-- from a trunk on that stands among trunks they go on to their end
from_there : (usable last : ℕ) (view : View) (first : ℕ) (trunks : List ℕ) (page : ℕ) → AreTrunks usable last view first trunks 0 → 1 ≤ times trunks page
    → (rest : List ℕ) × AreTrunks usable last view page (page ∷ rest) 0 × (length rest < length trunks)
from_there usable last view first [] page follow there = absurd (omega (arith, there))
from_there usable last view first (p ∷ ps) page follow there = elim (cases_eq p page) [
  | inl same ↦ (
    ps,
    subst (λ (n : ℕ). AreTrunks usable last view page (n ∷ ps) 0) same
        (same, follow.1, follow.2, follow.3, follow.4),
    omega arith,
  )
  | inr other ↦
      (let gone = subst (λ (b : Bool). 1 ≤ (if b then 1 else 0) + times ps page) (ne_eqb p page other) there in
      let behind : 1 ≤ times ps page = omega (arith, gone) in
      let found = from_there usable last view (trunk_in (view p)).next ps page follow.4 behind in
      (found.0, found.1, omega (arith, found.2)))
]

-- the first trunk isn't one of those behind it
pub first_apart : (usable last : ℕ) (view : View) (first page : ℕ) (pages : List ℕ) → AreTrunks usable last view first (page ∷ pages) 0 → (n : ℕ) → 1 ≤ times pages n → n ≢ page
first_apart usable last view first page pages follow n there same =
    let found = from_there usable last view (trunk_in (view page)).next pages page follow.4 (subst (λ (m : ℕ). 1 ≤ times pages m) same there) in
    let whole : AreTrunks usable last view page (page ∷ pages) 0 = (refl, follow.1, follow.2, follow.3, follow.4) in
    let equal : page ∷ found.0 ≡ page ∷ pages = trunks_once usable last last view page (page ∷ found.0) (page ∷ pages) found.1 whole in
    omega (arith, ap length equal, found.2)

-- The list that begins with a trunk which changes, where it and nothing else does: the trunks behind it are the same.
behind_first : (usable bound : ℕ) (view view_then : View) (first page : ℕ) (pages : List ℕ) → ((n : ℕ) → n ≢ page → view_then n ≡ view n)
    → AreTrunks usable bound view first (page ∷ pages) 0
    → AreTrunks usable bound view_then (trunk_in (view page)).next pages 0 × (held_by view_then pages ≡ held_by view pages)
behind_first usable bound view view_then first page pages others follow =
    trunks_local usable bound bound view view_then (trunk_in (view page)).next pages 0 (omega arith)
    (λ n there. others n (first_apart usable bound view first page pages follow n there)) follow.4

each_front : (P : ℕ → Type 0) (a b : List ℕ) → Each P (a ++ b) → Each P a
each_front P [] b each = tt
each_front P (x ∷ xs) b each = (each.0, each_front P xs b each.1)

-- The list after its first trunk lost its last leaf: the one before without that page.
pub after_leaf : (usable bound : ℕ) (view view_then : View) (first count leaf : ℕ) (list : List ℕ) → ((n : ℕ) → n ≢ first → view_then n ≡ view n)
    → LosesLeaf (view first) (view_then first) leaf → IsFreelist usable bound view first (count + 1) list
    → (front back : List ℕ) × (list ≡ front ++ leaf ∷ back) × IsFreelist usable bound view_then first count (front ++ back)
after_leaf usable bound view view_then first count leaf list others loses is = by_trunks is.trunks is.follow is.held
  where
    by_trunks : (trunks : List ℕ) → AreTrunks usable bound view first trunks 0 → list ≡ held_by view trunks
        → (front back : List ℕ) × (list ≡ front ++ leaf ∷ back) × IsFreelist usable bound view_then first count (front ++ back)
    by_trunks [] follow held = absurd (omega (arith, is.counted, ap length held))
    by_trunks (p ∷ ps) follow held =
        let same : p ≡ first = follow.0 in
        let before : (trunk_in (view p)).leaves ≡ loses.others ++ leaf ∷ [] = subst (λ (n : ℕ). (trunk_in (view n)).leaves ≡ loses.others ++ leaf ∷ []) (sym same) loses.had in
        let after : trunk_in (view_then p) ≡ record { next = (trunk_in (view p)).next; leaves = loses.others } =
        subst (λ (n : ℕ). trunk_in (view_then n) ≡ record { next = (trunk_in (view n)).next; leaves = loses.others }) (sym same) loses.has in
        let behind = behind_first usable bound view view_then first p ps (λ n other. others n (λ e. other (e ∙ sym same))) follow in
        let split : list ≡ (p ∷ loses.others) ++ leaf ∷ held_by view ps =
        held ∙ ap (λ (l : List ℕ). p ∷ l ++ held_by view ps) before ∙ ap (λ (l : List ℕ). p ∷ l) (append_assoc loses.others (leaf ∷ []) (held_by view ps)) in (
          p ∷ loses.others,
          held_by view ps,
          split,
          record {
            trunks = p ∷ ps;
            follow = (
              same,
              follow.1,
              follow.2,
              subst (λ (t : Trunk). IsTrunk usable bound t) (sym after) (record {
                room = omega (arith, follow.3.room, ap length before, length-append loses.others (leaf ∷ []));
                range = each_front (λ page. (2 ≤ page) × (page ≤ bound)) loses.others (leaf ∷ [])
                    (subst (λ (l : List ℕ). Each (λ page. (2 ≤ page) × (page ≤ bound)) l) before follow.3.range);
              }),
              subst (λ (n : ℕ). AreTrunks usable bound view_then n ps 0) (sym (ap (λ (t : Trunk). t.next) after)) behind.0,
            );
            held = sym (ap₂ (λ (l m : List ℕ). p ∷ l ++ m) (ap (λ (t : Trunk). t.leaves) after) behind.1);
            counted = omega (arith, is.counted, ap length split, length-append (p ∷ loses.others) (leaf ∷ held_by view ps), length-append (p ∷ loses.others) (held_by view ps));
          },
        )

-- The list after its first trunk, which lists no leaf, went out of it: it begins at the next one.
pub after_trunk : (usable bound : ℕ) (view view_then : View) (first count : ℕ) (list : List ℕ) → ((n : ℕ) → view_then n ≡ view n)
    → (trunk_in (view first)).leaves ≡ [] → IsFreelist usable bound view first (count + 1) list
    → (back : List ℕ) × (list ≡ first ∷ back) × IsFreelist usable bound view_then (trunk_in (view first)).next count back
after_trunk usable bound view view_then first count list others none is = by_trunks is.trunks is.follow is.held
  where
    by_trunks : (trunks : List ℕ) → AreTrunks usable bound view first trunks 0 → list ≡ held_by view trunks
        → (back : List ℕ) × (list ≡ first ∷ back) × IsFreelist usable bound view_then (trunk_in (view first)).next count back
    by_trunks [] follow held = absurd (omega (arith, is.counted, ap length held))
    by_trunks (p ∷ ps) follow held =
        let same : p ≡ first = follow.0 in
        let before : (trunk_in (view p)).leaves ≡ [] = subst (λ (n : ℕ). (trunk_in (view n)).leaves ≡ []) (sym same) none in
        let moved = trunks_local usable bound bound view view_then (trunk_in (view p)).next ps 0 (omega arith) (λ n there. others n) follow.4 in
        let split : list ≡ first ∷ held_by view ps = held ∙ ap₂ (λ (n : ℕ) (l : List ℕ). n ∷ l ++ held_by view ps) same before in (
          held_by view ps,
          split,
          record {
            trunks = ps;
            follow = subst (λ (n : ℕ). AreTrunks usable bound view_then (trunk_in (view n)).next ps 0) same moved.0;
            held = sym moved.1;
            counted = omega (arith, is.counted, ap length split);
          },
        )

-- The list after its first trunk got a leaf: the one before with that page.
pub with_leaf : (usable bound : ℕ) (view view_then : View) (first count leaf : ℕ) (list : List ℕ) → 0 < count → 2 ≤ leaf → leaf ≤ bound
    → length (trunk_in (view first)).leaves < leaves_put usable → ((n : ℕ) → n ≢ first → view_then n ≡ view n)
    → GetsLeaf (view first) (view_then first) leaf → IsFreelist usable bound view first count list
    → (front back : List ℕ) × (list ≡ front ++ back) × IsFreelist usable bound view_then first (count + 1) (front ++ leaf ∷ back)
with_leaf usable bound view view_then first count leaf list some low high room others gets is = by_trunks is.trunks is.follow is.held
  where
    by_trunks : (trunks : List ℕ) → AreTrunks usable bound view first trunks 0 → list ≡ held_by view trunks
        → (front back : List ℕ) × (list ≡ front ++ back) × IsFreelist usable bound view_then first (count + 1) (front ++ leaf ∷ back)
    by_trunks [] follow held = absurd (omega (arith, some, is.counted, ap length held))
    by_trunks (p ∷ ps) follow held =
        let same : p ≡ first = follow.0 in
        let leaves = (trunk_in (view p)).leaves in
        let after : trunk_in (view_then p) ≡ record { next = (trunk_in (view p)).next; leaves = leaves ++ leaf ∷ [] } =
        subst (λ (n : ℕ). trunk_in (view_then n) ≡ record { next = (trunk_in (view n)).next; leaves = (trunk_in (view n)).leaves ++ leaf ∷ [] }) (sym same) gets.has in
        let few : length leaves < leaves_put usable = subst (λ (n : ℕ). length (trunk_in (view n)).leaves < leaves_put usable) (sym same) room in
        let behind = behind_first usable bound view view_then first p ps (λ n other. others n (λ e. other (e ∙ sym same))) follow in (
          p ∷ leaves,
          held_by view ps,
          held,
          record {
            trunks = p ∷ ps;
            follow = (
              same,
              follow.1,
              follow.2,
              subst (λ (t : Trunk). IsTrunk usable bound t) (sym after) (record {
                room = omega (arith, few, length-append leaves (leaf ∷ []));
                range = each-append (λ page. (2 ≤ page) × (page ≤ bound)) leaves (leaf ∷ []) follow.3.range ((low, high), tt);
              }),
              subst (λ (n : ℕ). AreTrunks usable bound view_then n ps 0) (sym (ap (λ (t : Trunk). t.next) after)) behind.0,
            );
            held = ap (λ (l : List ℕ). p ∷ l) (sym (append_assoc leaves (leaf ∷ []) (held_by view ps)))
                ∙ sym (ap₂ (λ (l m : List ℕ). p ∷ l ++ m) (ap (λ (t : Trunk). t.leaves) after) behind.1);
            counted = omega (arith, is.counted, ap length held, length-append leaves (held_by view ps), length-append (p ∷ leaves) (leaf ∷ held_by view ps));
          },
        )

-- The list after a new trunk went before it: the one before with that page at its front.
pub with_trunk : (usable bound : ℕ) (view view_then : View) (size first count page : ℕ) (list : List ℕ) → 2 ≤ page → page ≤ bound
    → times list page ≡ 0 → ((n : ℕ) → n ≢ page → view_then n ≡ view n)
    → IsNewTrunk size first (view_then page) → IsFreelist usable bound view first count list
    → IsFreelist usable bound view_then page (count + 1) (page ∷ list)
with_trunk usable bound view view_then size first count page list low high apart others new is =
    let after = new_trunk size first (view_then page) new in
    let none : times is.trunks page ≡ 0 =
    (let most = subst (λ (l : List ℕ). times l page ≡ 0) is.held apart in omega (arith, most, times-held_by view is.trunks page)) in
    let moved = trunks_local usable bound bound view view_then first is.trunks 0 (omega arith)
    (λ n there. others n (λ e. let gone = subst (λ (m : ℕ). 1 ≤ times is.trunks m) e there in omega (arith, gone, none))) is.follow in
    record {
      trunks = page ∷ is.trunks;
      follow = (
        refl,
        low,
        high,
        subst (λ (t : Trunk). IsTrunk usable bound t) (sym after) (record { room = omega arith; range = tt }),
        subst (λ (n : ℕ). AreTrunks usable bound view_then n is.trunks 0) (sym (ap (λ (t : Trunk). t.next) after)) moved.0,
      );
      held = ap (λ (l : List ℕ). page ∷ l) is.held ∙ sym (ap₂ (λ (l m : List ℕ). page ∷ l ++ m) (ap (λ (t : Trunk). t.leaves) after) moved.1);
      counted = omega (arith, is.counted);
    }
