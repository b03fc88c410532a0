-- What becomes of a transaction that is handed in to an engine which is alone, has no disk, and meets no page of the freelist.
use Rattle.std.proofs.Common.{◌≡◌, [], true, inl, inr, Result, Ok, Err}
use Rattle.std.specs.Prelude.{MatchOption, IfSome}
use Rattle.page_spec.specs.PageMap.{PageMap}
use Rattle.disk_face.specs.Faults.{Rose}
use Rattle.engine_spec.specs.declared.pins.Pin.{Pin}
use Rattle.engine_spec.specs.declared.commits.Who.{Who}
use Rattle.engine_spec.specs.declared.commits.Receipt.{Receipt}
use Rattle.engine_spec.specs.declared.commits.Receipt.TheVariants.{At, ReadOnly}
use Rattle.engine_spec.specs.declared.commits.CommitFault.{CommitFault}
use Rattle.engine_spec.specs.declared.commits.CommitFault.TheVariants as fault
use Rattle.engine_spec.specs.Written.{Submitted}
use Rattle.engine_spec.specs.Events.{IsCommitted, AcceptsCommit, RefusesCommit}
use Rattle.engine_spec.proofs.Here.{at_once}
use Rattle.page_face.specs.declared.prepared.Prepared.{Prepared}
use Rattle.page_face.specs.declared.means.Means.{Ghosts as Meaning}
use Rattle.page_face.specs.declared.engine_tells.EngineTells.{Ghosts}
use Rattle.page_face.specs.Prepared.{submitted, IsGood}
use Rattle.page_face.specs.Calls.{CommitAnswers, CommitKeepsRuns, IsLaidOnEach, StandsForSome}
use Rattle.witnesses.specs.Shared.{number_in}

module _ {E M : Type 0} (means : Meaning M) (told : Ghosts E M) (old : E) (pin : Pin) (prepared : Prepared M) (who : Who) (new : E) where
  -- a refusal left everything, where the disk can't fail and no page of the freelist is read
  refused_same : (why : CommitFault) → (Rose (told.state old).faults (told.state new).faults → ⊥) → prepared.fresh ≡ [] → prepared.freed ≡ []
      → RefusesCommit (told.opened old) (StandsForSome told old) (told.state old) (submitted prepared who) why (told.state new)
      → told.state new ≡ told.state old
  refused_same (fault.Stopped log at) none fresh freed r = r.2
  refused_same (fault.BusySnapshot page number) none fresh freed r = r.3
  refused_same (fault.SizeLimit pages frames) none fresh freed r = r.6
  refused_same fault.Memory none fresh freed r = r.1
  refused_same fault.Disk none fresh freed r = absurd (none r.1)
  refused_same (fault.Corrupt page) none fresh freed r =
      absurd (elim r.1.needed [ inl some ↦ some freed | inr some ↦ some fresh ])

  -- it became a commit, or the engine tells what it told
  pub became : (result : Result Receipt (CommitFault × Prepared M)) → (told.state old).alone ≡ true
      → (Rose (told.state old).faults (told.state new).faults → ⊥) → prepared.fresh ≡ [] → prepared.freed ≡ []
      → CommitAnswers means told old pin prepared who result (told.state new)
      → MatchOption (number_in result) (told.state new ≡ told.state old)
      (λ number. (asked : Submitted) × IsCommitted (told.opened old) (told.state old) asked number (told.state new))
  became (Ok (At number)) alone none fresh freed answer = (
    submitted prepared who,
    (at_once (told.state old) (λ mid. AcceptsCommit (told.opened old) mid (submitted prepared who) (At number) (told.state new)
        × IsLaidOnEach means told old pin prepared (At number) mid) alone answer).0,
  )
  became (Ok (ReadOnly n)) alone none fresh freed answer =
      (at_once (told.state old) (λ mid. AcceptsCommit (told.opened old) mid (submitted prepared who) (ReadOnly n) (told.state new)
      × IsLaidOnEach means told old pin prepared (ReadOnly n) mid) alone answer).0.2
  became (Err refusal) alone none fresh freed answer =
      refused_same refusal.0 none fresh freed
      (at_once (told.state old) (λ mid. RefusesCommit (told.opened old) (StandsForSome told old) mid (submitted prepared who) refusal.0 (told.state new))
      alone answer.1)

  -- the runs for which the change is good go on
  pub runs_on : (result : Result Receipt (CommitFault × Prepared M)) → CommitKeepsRuns means told old pin prepared result new
      → (first : PageMap) → told.stands_from old first
      → IfSome (told.map_at old pin) (λ snapshot. IsGood (means.sound first) (means.leads first) snapshot prepared)
      → told.stands_from new first
  runs_on (Ok (At number)) keeps first stands good = keeps first stands good
  runs_on (Ok (ReadOnly n)) keeps first stands good = keeps first stands
  runs_on (Err refusal) keeps first stands good = keeps first stands
