use Rattle.std.proofs.Common.{[]}
use Rattle.store_tests.proofs.trial.opens.Goals as goal

pub returns-in-Ok : goal.returns-in-Ok
returns-in-Ok c = record { attached = rw (c.close-disk.ensures.disk, c.into_store.ensures) ((c.in_ok-told-in-Ok.ensures.live [] (c.new-solo.ensures.live (c.in-Ok.ensures.live tt))).able.attached) }
