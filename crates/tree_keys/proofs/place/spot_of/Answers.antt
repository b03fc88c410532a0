use Rattle.std.proofs.Common.{ℤ, Ok, refl, sym, subst, arith, w64, to_z, of_z}
use Rattle.std.proofs.lemmas.Int.{to_z-of_z, ints}
use Rattle.tree_read.proofs.Descents.{page_again}
use Rattle.tree_keys.specs.declared.key.Key.{Key}
use Rattle.tree_keys.specs.Keys.{sought_by}
use Rattle.tree_keys.specs.Spots.{IsRowSpot, HasSpot}
use Rattle.tree_keys.proofs.Found.{row_within}
use Rattle.tree_keys.proofs.place.spot_of.Goals as goal

pub returns-in-Rowid-clause-spot : goal.returns-in-Rowid-clause-spot
returns-in-Rowid-clause-spot g c = λ shown read.
    let p = g.P.PagesTells in
    subst (λ (k : Key). HasSpot p c.args.pages.now (sought_by k) shown c.args.page (Ok c.spot_of_row.result) c.args.pages.now) (sym c.in-Rowid.is) (
      refl,
      subst (λ (z : ℤ). IsRowSpot shown z c.spot_of_row.result) (to_z-of_z w64 c.in-Rowid.rowid (omega (arith, ints)))
          (c.spot_of_row.ensures shown (page_again _ _ _ _ _ c.usable_of-usable.ensures.value read)),
    )

pub returns-in-Rowid-clause-within : goal.returns-in-Rowid-clause-within
returns-in-Rowid-clause-within g c = λ shown read.
    row_within shown (to_z w64 (of_z w64 c.in-Rowid.rowid)) c.spot_of_row.result (c.spot_of_row.ensures shown (page_again _ _ _ _ _ c.usable_of-usable.ensures.value read))
