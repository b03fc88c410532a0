use Rattle.std.proofs.Common.{ℤ, subst, arith, w64}
use Rattle.std.proofs.lemmas.Int.{to_z-of_z, ints}
use Rattle.tree_read.specs.Looking.{HasLooked}
use Rattle.tree_read.proofs.Trees.{if_found, if_failed}
use Rattle.tree_read.proofs.find.find_row.Goals as goal

pub returns-clause-found : goal.returns-clause-found
returns-clause-found g c = if_found g.P.PagesTells c.args.pages.now c.args.root c.args.rowid c.look_up.result c.look_up.new.pages
    (subst (λ (z : ℤ). HasLooked g.P.PagesTells c.args.pages.now c.args.root z c.look_up.result c.look_up.new.pages)
    (to_z-of_z w64 c.args.rowid (omega (arith, ints, c.ranges.rowid.sfits))) c.look_up.ensures.looked)

pub returns-clause-sound : goal.returns-clause-sound
returns-clause-sound g c = if_failed g.P.PagesTells c.args.pages.now c.args.root c.args.rowid c.look_up.result c.look_up.new.pages
    (subst (λ (z : ℤ). HasLooked g.P.PagesTells c.args.pages.now c.args.root z c.look_up.result c.look_up.new.pages)
    (to_z-of_z w64 c.args.rowid (omega (arith, ints, c.ranges.rowid.sfits))) c.look_up.ensures.looked)
