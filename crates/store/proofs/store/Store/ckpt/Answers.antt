use Rattle.std.proofs.Common.{◌≡◌, ◌∙◌, ℕ, ◌-◌, ◌*◌, List, ap, subst, sym, length, Result, Ok, Err}
use Rattle.std.specs.Prelude.{IfOk, OnErr}
use Rattle.store.proofs.store.Store.ckpt.Goals as goal
use Rattle.disk_face.specs.declared.Failed.{Failed}
use Rattle.disk_face.specs.declared.disk.File.TheVariants.{Main}
use Rattle.disk_face.specs.Told.{IsInside}
use Rattle.engine_spec.specs.declared.pins.Ckpt.{Ckpt}
use Rattle.checkpoint.specs.Steps.{DoesStep, FailsIn, pages_behind, log_behind}
use Rattle.wal_index.specs.Index.{Indexed, log_in}
use Rattle.wal_index.specs.Frames.{IsNextPage}
use Rattle.wal_rules.specs.declared.state.LogState.{LogState}
use Rattle.store_spec.specs.Store.{two_logs}
use Rattle.wal_rules.specs.Indexing.{IsIndexOf}
use Rattle.store_spec.proofs.Pinning.{state_is}
use Rattle.log_pair.specs.Pair.{log_of, other_number}
use Rattle.store_spec.proofs.Taken.{behind_is, counted_log, other_which}
use Rattle.store_spec.proofs.Stepping.{next_reached, steps_told}
use Rattle.store.specs.Kept.{kept_of, bare}
use Rattle.store.proofs.Bare.{bare_pages, index_bare}

-- the page that was copied stands in the buffer
with_bytes : (result : Result Ckpt Failed) (bytes : List ℕ) (P : Ckpt → List ℕ → Type 0) → IfOk result (λ answer. P answer bytes) → IfOk result (λ answer. (bytes : List ℕ) × P answer bytes)
with_bytes (Ok answer) bytes P is = (bytes, is)
with_bytes (Err why) bytes P is = tt

-- the pages of the other log in the index are those that are kept
kept_pages : (index : Indexed) (state : LogState) → pages_behind (bare index) state ≡ pages_behind index state
kept_pages index state = bare_pages index (log_behind state)

pub step-requires-clause-frames : goal.step-requires-clause-frames
step-requires-clause-frames g c =
    ap (λ (pages : List ℕ). length pages) (sym (kept_pages c.args.self.now.index c.args.self.now.state))
    ∙ subst (λ (n : ℕ). length (log_in (bare c.args.self.now.index) n).pages ≡ (log_of c.args.self.now.pair n).frames) (sym (behind_is (kept_of c.args.self.now) c.requires.1.live.whole))
    (counted_log (kept_of c.args.self.now) c.requires.1.live.whole (other_number c.args.self.now.pair.current) (other_which (kept_of c.args.self.now) c.requires.1.live.whole)).counted

pub step-requires-clause-reached : goal.step-requires-clause-reached
step-requires-clause-reached g c = λ page next.
    subst (λ (n : ℕ). IsInside (g.D.DiskTells.told c.args.self.now.disk) Main ((page - 1) * n) 0)
    (sym (ap (λ (bytes : List ℕ). length bytes) c.as_mut_slice.ensures.value ∙ c.requires.1.able.room))
    (next_reached (kept_of c.args.self.now) (g.D.DiskTells.told c.args.self.now.disk) c.requires.1.live.whole c.requires.1.live.readable page
    (subst (λ (pages : List ℕ). IsNextPage pages c.args.self.now.state.copied page) (sym (kept_pages c.args.self.now.index c.args.self.now.state)) next))

pub returns-clause-taken : goal.returns-clause-taken
returns-clause-taken g c = record {
  does = with_bytes c.step.result c.step.new.buf
      (λ answer bytes. DoesStep c.args.self.now.pair (pages_behind (bare c.args.self.now.index) c.args.self.now.state) c.args.self.now.state c.args.readers.now answer c.step.new.state bytes
      (g.D.DiskTells.told c.args.self.now.disk) (g.D.DiskTells.told c.step.new.disk))
      (subst (λ (pages : List ℕ). IfOk c.step.result (λ answer. DoesStep c.args.self.now.pair pages c.args.self.now.state c.args.readers.now answer c.step.new.state c.step.new.buf
      (g.D.DiskTells.told c.args.self.now.disk) (g.D.DiskTells.told c.step.new.disk))) (sym (kept_pages c.args.self.now.index c.args.self.now.state)) c.step.ensures.does);
  refused = c.step.ensures.refused;
  fails = subst (λ (n : ℕ). OnErr c.step.result (FailsIn (pages_behind (bare c.args.self.now.index) c.args.self.now.state) c.args.self.now.state n
      (g.D.DiskTells.told c.args.self.now.disk) (g.D.DiskTells.told c.step.new.disk))) (ap (λ (bytes : List ℕ). length bytes) c.as_mut_slice.ensures.value ∙ c.requires.1.able.room)
      (subst (λ (pages : List ℕ). OnErr c.step.result (FailsIn pages c.args.self.now.state (length c.as_mut_slice.result.now)
      (g.D.DiskTells.told c.args.self.now.disk) (g.D.DiskTells.told c.step.new.disk))) (sym (kept_pages c.args.self.now.index c.args.self.now.state)) c.step.ensures.fails);
  unheld = c.step.ensures.unheld;
  moments = λ opening view since size pages. c.step.ensures.moments opening view since (size ∙ sym (ap (λ (bytes : List ℕ). length bytes) c.as_mut_slice.ensures.value ∙ c.requires.1.able.room))
      (pages ∙ kept_pages c.args.self.now.index c.args.self.now.state);
}

pub returns-clause-logs : goal.returns-clause-logs
returns-clause-logs g c = steps_told (kept_of c.args.self.now) c.args.readers.now c.step.new.state c.step.result c.requires.1.live.whole
    (c.step.ensures.logs (two_logs (kept_of c.args.self.now)) c.args.self.now.commits.commits
    (index_bare c.args.self.now.index _ c.args.self.now.commits.commits (subst (λ logs. IsIndexOf (bare c.args.self.now.index) logs c.args.self.now.commits.commits) (sym (state_is (kept_of c.args.self.now) c.requires.1.live.whole)) c.requires.1.live.whole.index)))
