use Rattle.std.proofs.Common.{◌≡◌, ◌∙◌, sym, ap, length}
use Rattle.store.proofs.store.Store.goes_over.Goals as goal
use Rattle.engine_spec.specs.TwoLogs.{TwoLogs, may_switch, current_frames}
use Rattle.wal_rules.specs.Rules.{logs_within}
use Rattle.log_pair.specs.Pair.{log_of}
use Rattle.store_spec.specs.Store.{two_logs}
use Rattle.store_spec.proofs.Pinning.{frames_count, state_within}
use Rattle.store.specs.Kept.{kept_of}

pub returns : goal.returns
returns g c =
    let logs_is : logs_within c.args.self.now.state c.args.self.now.limit c.generation.result (two_logs (kept_of c.args.self.now)) ≡ two_logs (kept_of c.args.self.now) =
    ap (λ n. logs_within c.args.self.now.state c.args.self.now.limit n (two_logs (kept_of c.args.self.now))) c.generation.ensures.value ∙ state_within (kept_of c.args.self.now) c.requires in
    let frames_are : c.frames-frames.result ≡ length (current_frames (two_logs (kept_of c.args.self.now)) c.args.self.now.commits.commits) =
    c.frames-frames.ensures ∙ ap (λ n. (log_of c.args.self.now.pair n).frames) c.current.ensures.value ∙ frames_count (kept_of c.args.self.now) c.requires in
    c.may_switch.ensures (two_logs (kept_of c.args.self.now)) c.args.self.now.commits.commits
    (ap (λ (logs : TwoLogs). length (current_frames logs c.args.self.now.commits.commits)) logs_is ∙ sym frames_are)
    ∙ ap (λ (logs : TwoLogs). may_switch logs c.args.readers.now c.args.self.now.commits.commits) logs_is
