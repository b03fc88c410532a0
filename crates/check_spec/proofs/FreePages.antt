-- What the walk of the freelist says: trunks that follow one another, each with its leaves.
use Rattle.std.proofs.Common.{◌≡◌, ℕ, zero, suc, ◌+◌, ◌*◌, ◌≤◌, nat_le, List, [], ◌∷◌, ◌++◌, map, Option, None, refl, sym, subst, inl, inr, arith}
use Rattle.std.specs.Prelude.{◌⊎◌}
use Rattle.std.proofs.lemmas.Bool.{leb-true}
use Rattle.page_spec.specs.Bytes.{u32_at}
use Rattle.node_spec.specs.Faults.{unless, or_else, first_fault}
use Rattle.node_spec.proofs.FaultLaws.{unless_none, or_none, first_none}
use Rattle.tree_spec.specs.Freelist.{trunk_in, most_leaves, IsTrunk, held_by}
use Rattle.tree_spec.proofs.Freelists.{length-numbers_at, each_number}
use Rattle.check_spec.specs.Forms.{is_inside, is_inside_or_none, trunk_fault}
use Rattle.check_spec.specs.Walk.{Database, Place, Past, trunk_places, with_met}
use Rattle.check_spec.proofs.CellsFit.{IsNumberOf, inside_is, inside_or_none_is}
use Rattle.check_spec.proofs.Told.{AddsPages, adds_join, adds_end, none_both, HasTrunks, SayAll, say_split}

-- a page that is met
pub adds_page : (past : Past) (page : ℕ) → AddsPages past (with_met past page) (page ∷ [])
adds_page past page = record { met_is = refl; leaves_are = refl }

leaves_say : (db : Database) (leaves : List ℕ) (before after : Past) (named : List ℕ) → SayAll db (map Place.AtLeaf leaves) before after named
    → AddsPages before after leaves × (named ≡ [])
leaves_say db [] before after named said = said
leaves_say db (leaf ∷ leaves) before after named (mid, first, behind, here, more, is) =
    let rest = leaves_say db leaves mid after behind more in
    (adds_join before mid after (leaf ∷ []) leaves here.0 rest.0, none_both named first behind is here.1 rest.1)

-- the trunks from a number on
pub trunks_say : (db : Database) (first : ℕ) (before after : Past) (named : List ℕ) → (first ≡ 0) ⊎ IsNumberOf db.last first
    → SayAll db (trunk_places first) before after named → HasTrunks db first before after × (named ≡ [])
trunks_say db zero before after named fits said = (record { trunks = []; follow = refl; adds = said.0 }, said.1)
trunks_say db (suc n) before after named fits (mid, first, behind, here, more, is) =
    let range : IsNumberOf db.last (suc n) = elim fits [
      | inl none ↦ absurd (omega (arith, none))
      | inr range ↦ range
    ] in
    let trunks = here range in (
      record {
        trunks = trunks.0.trunks;
        follow = trunks.0.follow;
        adds = adds_end before mid after (held_by db.view trunks.0.trunks) trunks.0.adds more.0;
      },
      none_both named first behind is trunks.1 more.1,
    )

-- a page without a fault is a trunk, and names the next one or none
pub trunk_is : (usable last : ℕ) (page : List ℕ) → trunk_fault usable last page ≡ None
    → ((u32_at page 0 ≡ 0) ⊎ IsNumberOf last (u32_at page 0)) × IsTrunk usable last (trunk_in page)
unfolding trunk_fault
trunk_is usable last page none =
    let leaves : Option ℕ = first_fault (u32_at page 4) (λ i. unless (is_inside last (u32_at page (8 + 4 * i))) (8 + 4 * i)) in
    let one = or_none (unless (is_inside_or_none last (u32_at page 0)) 0) (or_else (unless (nat_le (u32_at page 4) (most_leaves usable)) 4) leaves) none in
    let two = or_none (unless (nat_le (u32_at page 4) (most_leaves usable)) 4) leaves one.1 in (
      inside_or_none_is last (u32_at page 0) (unless_none (is_inside_or_none last (u32_at page 0)) 0 one.0),
      record {
        room = subst (λ (n : ℕ). n ≤ most_leaves usable) (sym (length-numbers_at page 8 (u32_at page 4)))
            (leb-true (u32_at page 4) (most_leaves usable) (unless_none (nat_le (u32_at page 4) (most_leaves usable)) 4 two.0));
        range = each_number (λ (leaf : ℕ). (2 ≤ leaf) × (leaf ≤ last)) page 8 (u32_at page 4)
            (λ k less. inside_is last (u32_at page (8 + 4 * k))
            (unless_none (is_inside last (u32_at page (8 + 4 * k))) (8 + 4 * k)
            (first_none (u32_at page 4) (λ i. unless (is_inside last (u32_at page (8 + 4 * i))) (8 + 4 * i)) two.1 k less)));
      },
    )

-- A trunk in order, with its leaves and the trunks behind it.
pub trunk_says : (db : Database) (page : ℕ) (past after : Past) (named : List ℕ) → trunk_fault db.usable db.last (db.view page) ≡ None
    → SayAll db (map Place.AtLeaf (trunk_in (db.view page)).leaves ++ trunk_places (trunk_in (db.view page)).next) (with_met past page) after named
    → IsNumberOf db.last page → HasTrunks db page past after × (named ≡ [])
trunk_says db page past after named none said range =
    let trunk = trunk_in (db.view page) in
    let is = trunk_is db.usable db.last (db.view page) none in
    let both = say_split db (map Place.AtLeaf trunk.leaves) (trunk_places trunk.next) (with_met past page) after named said in
    let leaves = leaves_say db trunk.leaves (with_met past page) both.mid both.first both.front in
    let rest = trunks_say db trunk.next both.mid after both.behind is.0 both.back in (
      record {
        trunks = page ∷ rest.0.trunks;
        follow = (refl, range.0, range.1, is.1, rest.0.follow);
        adds = adds_join past (with_met past page) after (page ∷ []) (trunk.leaves ++ held_by db.view rest.0.trunks) (adds_page past page)
            (adds_join (with_met past page) both.mid after trunk.leaves (held_by db.view rest.0.trunks) leaves.0 rest.0.adds);
      },
      none_both named both.first both.behind both.named_is leaves.1 rest.1,
    )
