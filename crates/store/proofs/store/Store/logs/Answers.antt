use Rattle.std.proofs.Common.{◌≡◌, ◌∙◌, ap, length}
use Rattle.store.proofs.store.Store.logs.Goals as goal
use Rattle.engine_spec.specs.TwoLogs.{current_frames}
use Rattle.log_pair.specs.Pair.{log_of}
use Rattle.store_spec.specs.Store.{two_logs}
use Rattle.store_spec.proofs.Pinning.{frames_count}
use Rattle.store.specs.Kept.{kept_of}

pub returns : goal.returns
returns g c =
    let counted : c.frames.result ≡ length (current_frames (two_logs (kept_of c.args.self.now)) c.args.self.now.commits.commits) =
    c.frames.ensures ∙ ap (λ n. (log_of c.args.self.now.pair n).frames) c.current-log.ensures.value ∙ frames_count (kept_of c.args.self.now) c.requires in
    λ i. record { current = c.current-log.ensures.value i; frames = counted i; done = c.args.self.now.state.done }
