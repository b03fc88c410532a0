use Rattle.std.proofs.Common.{◌-◌, length, drop, arith, length-drop}
use Rattle.std.proofs.lemmas.List.{take_all}
use Rattle.memory_engine.proofs.lay.tree_part.Goals as goal

pub returns-then-tail-clause-bytes : goal.returns-then-tail-clause-bytes
returns-then-tail-clause-bytes c =
    rw c.if-tail.true
    (take_all (length c.args.new.now - 100) (drop 100 c.args.new.now) (omega (arith, length-drop 100 c.args.new.now)))

pub returns-else-tail-clause-bytes : goal.returns-else-tail-clause-bytes
returns-else-tail-clause-bytes c =
    rw c.if-tail.false
    (take_all (length c.args.old.now - 100) (drop 100 c.args.old.now) (omega (arith, length-drop 100 c.args.old.now)))
