use Rattle.std.proofs.Common.{◌≡◌, ◌≤◌, [], ◌∷◌, ℕ, List, Bool, length, refl, subst, arith}
use Rattle.std.specs.Prelude.{◌⊎◌}
use Rattle.std.proofs.lemmas.Grind.{common_steps}
use Rattle.std.proofs.lemmas.Bool.Decides.{nat_tests}
use Rattle.overflow.specs.Writing.{BarsWriting}
use Rattle.tree_edit.specs.Roots.{RaisesRoot, ShowsNoRoot}
use Rattle.tree_keys.specs.Keys.{sought_by}
use Rattle.tree_insert.specs.Inserting.{PutsUnder}
use Rattle.tree_insert.proofs.Rooted.{puts_whole, puts_raised, bars_raised}
use Rattle.tree_insert.proofs.root.insert_and_raise.Goals as goal

none_of : (texts : List (List ℕ)) → length texts ≡ 0 → texts ≡ []
none_of [] none = refl
none_of (text ∷ texts) none = cc

pub returns-then-is_empty-clause-inserted : goal.returns-then-is_empty-clause-inserted
returns-then-is_empty-clause-inserted g c = λ world told height own items stands.
    let p = g.P.PagesTells in
    let old = c.args.pages.now in
    let new = c.insert_from.new.pages in
    let sought = sought_by c.args.key in
    let payload = c.args.payload.now in
    let none : length c.in-Ok.news.items ≡ 0 = grind (arith, common_steps, nat_tests, c.if-is_empty.true) in
    puts_whole p old new world sought payload c.args.root height own items
    (subst (λ (l : List (List ℕ)). PutsUnder p old sought payload 0 c.args.root height own items l new world) (none_of c.in-Ok.news.items none)
    (c.in-Ok.ensures.inserted world told height own items stands))

pub returns-in-Ok-raise_root-clause-inserted : goal.returns-in-Ok-raise_root-clause-inserted
returns-in-Ok-raise_root-clause-inserted g c = λ world told height own items stands.
    let p = g.P.PagesTells in
    let old = c.args.pages.now in
    let mid = c.insert_from.new.pages in
    let new = c.raise_root.new.pages in
    let sought = sought_by c.args.key in
    let one = c.insert_from.ensures.edits in
    let two = c.raise_root.ensures.edits in
    let news = c.in-Ok.news.items in
    let child = c.in-Ok-raise_root.field-0 in
    let some : 1 ≤ length news = grind (arith, common_steps, nat_tests, c.if-is_empty.false) in
    puts_raised p old mid new world sought c.args.payload.now c.args.root child height own items news c.requires.root.0 one.usable two.usable two.last some
    c.in-Ok-raise_root.ensures.range.0 c.in-Ok-raise_root.ensures.range.1 stands (c.in-Ok.ensures.inserted world (two.narrows world told) height own items stands)
    (λ neat used.
    subst (λ (b : Bool). RaisesRoot p mid b c.args.root child news new world) c.is_rowid.ensures
    (subst (λ (l : List (List ℕ)). RaisesRoot p mid c.is_rowid.result c.args.root child l new world) c.as_slice.ensures.value (c.in-Ok-raise_root.ensures.raised world told neat used)))

pub returns-clause-refused : goal.returns-clause-refused
returns-clause-refused g c =
    let p = g.P.PagesTells in
    let old = c.args.pages.now in
    let mid = c.insert_from.new.pages in
    let new = c.raise_root.new.pages in
    let sought = sought_by c.args.key in
    let two = c.raise_root.ensures.edits in
    let news = c.in-Ok.news.items in
    let why = c.in-Err-raise_root.why in
    let some : 1 ≤ length news = grind (arith, common_steps, nat_tests, c.if-is_empty.false) in
    bars_raised p old mid new sought c.args.payload.now c.args.root news why c.insert_from.ensures.edits two.narrows c.in-Ok.ensures.inserted some
    (subst (λ (b : Bool). BarsWriting p mid why new ⊎ ShowsNoRoot p mid b c.args.root why new) c.is_rowid.ensures c.in-Err-raise_root.ensures.stopped)
