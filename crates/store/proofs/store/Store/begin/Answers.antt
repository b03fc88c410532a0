use Rattle.std.proofs.Common.{◌∙◌, ap}
use Rattle.store.proofs.store.Store.begin.Goals as goal
use Rattle.log_pair.specs.Pair.{log_of}
use Rattle.store_spec.specs.Store.{two_logs}
use Rattle.store_spec.proofs.Pinning.{pin_is}
use Rattle.store.specs.Kept.{kept_of}

pub returns-clause-pin : goal.returns-clause-pin
returns-clause-pin g c =
    pin_is (kept_of c.args.self.now) c.requires c.len.result c.generation.result c.frames.result c.lock_of.result c.len.ensures.count c.generation.ensures.value
    (c.frames.ensures ∙ ap (λ n. (log_of c.args.self.now.pair n).frames) c.current-log.ensures.value) (c.lock_of.ensures (two_logs (kept_of c.args.self.now)))
