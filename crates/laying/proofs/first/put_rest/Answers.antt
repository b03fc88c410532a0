use Rattle.std.proofs.Common.{refl, sym}
use Rattle.std.proofs.lemmas.List.{take-append-drop}
use Rattle.laying.proofs.Putting.{put_end}
use Rattle.laying.proofs.first.put_rest.Goals as goal

pub returns-then-tail-clause-put : goal.returns-then-tail-clause-put
returns-then-tail-clause-put c =
    rw c.if-tail.true
    (put_end 100 c.args.first.now c.copy_from_slice.new.self _ c.args.new.now c.requires.room c.requires.same c.copy_from_slice.ensures.after refl)

pub returns-else-tail-clause-put : goal.returns-else-tail-clause-put
returns-else-tail-clause-put c = rw c.if-tail.false (sym (take-append-drop 100 c.args.first.now))
