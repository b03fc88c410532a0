use Rattle.std.proofs.Common.{◌≡◌, ◌∙◌, arith, drop, length, length-take}
use Rattle.std.proofs.lemmas.List.{take-append-le, take_all}
use Rattle.std.proofs.lemmas.Slice.{drop-append-drop}
use Rattle.tree_edit.proofs.lay.keep_head.Goals as goal

pub returns-clause-head : goal.returns-clause-head
returns-clause-head c =
    let size : length c.copy_from_slice.new.self ≡ 100 = omega (arith, c.copy_from_slice.ensures.len, length-take 100 c.args.bytes.now, c.requires.0) in
    take-append-le 100 c.copy_from_slice.new.self (drop 100 c.args.bytes.now) (omega (arith, size)) ∙ (take_all 100 c.copy_from_slice.new.self (omega (arith, size)) ∙ c.copy_from_slice.ensures.after)

pub returns-clause-rest : goal.returns-clause-rest
returns-clause-rest c = drop-append-drop 100 c.args.bytes.now c.copy_from_slice.new.self 100 (omega arith) (omega (arith, c.copy_from_slice.ensures.len, length-take 100 c.args.bytes.now, c.requires.0))
