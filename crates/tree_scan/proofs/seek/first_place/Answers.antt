use Rattle.std.proofs.Common.{◌≡◌, Bool, ℕ, ℤ, List, Option, None, Some, refl, sym, subst, ap, ◌∙◌, arith, w64}
use Rattle.std.proofs.lemmas.Int.{to_z-of_z, ints}
use Rattle.value_form.specs.declared.value.Value.{Value}
use Rattle.page_form.specs.Reading.{IsReadPage}
use Rattle.tree_read.specs.Ways.{StandsAt}
use Rattle.tree_scan.specs.declared.bounds.Bounds.TheVariants.{Rows, Entries}
use Rattle.tree_scan.specs.Placing.{IsPlaced}
use Rattle.tree_scan.proofs.Places.{placed_still, is_placed, not_both}
use Rattle.tree_scan.proofs.seek.first_place.Goals as goal

pub returns-then-not-seek-clause-placed : goal.returns-then-not-seek-clause-placed
returns-then-not-seek-clause-placed g c = λ shown read.
    placed_still g.P.PagesTells c.args.pages.now c.args.seek c.args.bounds.now shown c.args.level.now.page 0 (omega arith) (λ is. refl)
    (λ usable last s. subst (λ (b : Bool). IsPlaced b usable last s c.args.bounds.now shown 0) (sym c.if-not-seek.true) refl)

pub returns-in-None-clause-placed : goal.returns-in-None-clause-placed
returns-in-None-clause-placed g c = λ shown read.
    let low_is : c.in-Rows.low ≡ None = c.in-None.is in
    let bounds_are : c.args.bounds.now ≡ Rows None c.in-Rows.high = c.in-Rows.is ∙ ap (λ (low : Option ℤ). Rows low c.in-Rows.high) low_is in
    placed_still g.P.PagesTells c.args.pages.now c.args.seek c.args.bounds.now shown c.args.level.now.page 0 (omega arith) (λ is. refl)
    (λ usable last s. is_placed c.args.seek usable last s c.args.bounds.now (Rows None c.in-Rows.high) shown 0 c.if-not-seek.false bounds_are refl)

pub returns-in-Some-clause-placed : goal.returns-in-Some-clause-placed
returns-in-Some-clause-placed g c = λ shown read.
    let arm = c.in-Rows in
    let level = c.args.level.now in
    let low_is : arm.low ≡ Some c.in-Some.rowid = c.in-Some.is in
    let bounds_are : c.args.bounds.now ≡ Rows (Some c.in-Some.rowid) arm.high = arm.is ∙ ap (λ (low : Option ℤ). Rows low arm.high) low_is in
    let again : IsReadPage c.usable_of.result c.as_slice.result.now level.node shown = subst (λ (b : List ℕ). IsReadPage c.usable_of.result b level.node shown) (sym c.as_slice.ensures.value)
    (subst (λ (u : ℕ). IsReadPage u level.bytes.items level.node shown) (sym c.usable_of.ensures.value) read) in
    let back = to_z-of_z w64 c.in-Some.rowid (omega (arith, ints)) in
    let stands = subst (λ (z : ℤ). StandsAt shown.cells z c.place_of.result) back (c.place_of.ensures shown again) in
    placed_still g.P.PagesTells c.args.pages.now c.args.seek c.args.bounds.now shown level.page c.place_of.result stands.most (λ is. absurd (not_both c.args.seek c.if-not-seek.false is))
    (λ usable last s. is_placed c.args.seek usable last s c.args.bounds.now (Rows (Some c.in-Some.rowid) arm.high) shown c.place_of.result c.if-not-seek.false bounds_are stands)

pub returns-in-None-low-clause-placed : goal.returns-in-None-low-clause-placed
returns-in-None-low-clause-placed g c = λ shown read.
    let low_is : c.in-Entries.low ≡ None = c.in-None-low.is in
    let bounds_are : c.args.bounds.now ≡ Entries None c.in-Entries.high = c.in-Entries.is ∙ ap (λ (low : Option (List Value)). Entries low c.in-Entries.high) low_is in
    placed_still g.P.PagesTells c.args.pages.now c.args.seek c.args.bounds.now shown c.args.level.now.page 0 (omega arith) (λ is. refl)
    (λ usable last s. is_placed c.args.seek usable last s c.args.bounds.now (Entries None c.in-Entries.high) shown 0 c.if-not-seek.false bounds_are refl)
