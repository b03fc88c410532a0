use Rattle.std.proofs.Common.{◌≡◌, [], ◌∷◌, ◌++◌, ◌-◌, ap, sym, subst, ◌∙◌, arith, length, ◌<◌}
use Rattle.std.specs.Prelude.{slice_set}
use Rattle.tree_scan.specs.declared.level.Level.{Level}
use Rattle.tree_scan.specs.Coming.{gone_past}
use Rattle.tree_scan.proofs.Lasts.{at_last, put_last, count_last}
use Rattle.tree_scan.proofs.path.step_on.Goals as goal

pub go_past-requires : goal.go_past-requires
go_past-requires c =
    let r = c.requires in
    let at : c.len-at.result - 1 ≡ length r.0 = omega (arith, count_last c.args.levels.now.items r.0 r.1.0 r.1.1.0, c.len-at.ensures) in
    let same : c.index_mut.result.now ≡ r.1.0 = c.index_mut.ensures.value ∙ at_last c.args.levels.now.items r.0 r.1.0 _ [] (c.len-at.result - 1) r.1.1.0 at in
    subst (λ (l : Level). l.place < 9223372036854775808) (sym same) r.1.1.1

pub returns : goal.returns
returns c = λ above top are.
    let at : c.len-at.result - 1 ≡ length above = omega (arith, count_last c.args.levels.now.items above top are, c.len-at.ensures) in
    let same : c.index_mut.result.now ≡ top = c.index_mut.ensures.value ∙ at_last c.args.levels.now.items above top _ [] (c.len-at.result - 1) are at in
    ap (λ (l : Level). slice_set c.args.levels.now.items (c.len-at.result - 1) l) c.go_past.ensures
    ∙ put_last c.args.levels.now.items above top (gone_past c.index_mut.result.now) [] (c.len-at.result - 1) are at
    ∙ ap (λ (l : Level). above ++ gone_past l ∷ []) same
