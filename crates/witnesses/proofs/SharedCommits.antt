-- What a commit of the engine in memory tells, told by a view of it.
use Rattle.std.proofs.Common.{◌≡◌, ◌∙◌, ℕ, ◌+◌, ◌≤◌, List, [], ◌∷◌, ◌++◌, length, drop, refl, sym, ap, inl, inr, arith}
use Rattle.std.specs.Prelude.{All, Option, Some}
use Rattle.crash_spec.specs.Opening.{Opening}
use Rattle.engine_spec.specs.declared.commits.Commit.{Commit}
use Rattle.engine_spec.specs.declared.commits.Receipt.{Receipt}
use Rattle.engine_spec.specs.declared.commits.Receipt.TheVariants.{At, ReadOnly}
use Rattle.engine_spec.specs.declared.commits.CommitFault.{CommitFault}
use Rattle.engine_spec.specs.declared.commits.CommitFault.TheVariants as fault
use Rattle.engine_spec.specs.Change.{Change}
use Rattle.engine_spec.specs.TwoLogs.{TwoLogs, frames_of}
use Rattle.engine_spec.specs.State.{EngineState, Later}
use Rattle.engine_spec.specs.Written.{Submitted, commit_of}
use Rattle.engine_spec.specs.Events.{frames_now, frames_after, logs_to_write, pages_after, map_after, IsClear, IsOver, AcceptsCommit, RefusesCommit}
use Rattle.memory_engine.specs.Plain.{PlainState, state_of}
use Rattle.witnesses.specs.Shared.{viewed, log_since, numbers_but, SomeCommitted}
use Rattle.witnesses.proofs.OwnNumbers.{numbers_after}

-- nothing stands behind the end
pub drop_end : {X : Type 0} (xs : List X) → drop (length xs) xs ≡ []
drop_end [] = refl
drop_end (x ∷ xs) = drop_end xs

-- a log that begins at the end of the history has no frames
pub no_frames : (since : ℕ) (history : List Commit) → since ≡ length history → frames_now (Some (log_since since)) history ≡ 0
no_frames since history at =
    ap (λ (s : ℕ). length (frames_of (drop s history))) at ∙ ap (λ (commits : List Commit). length (frames_of commits)) (drop_end history)

module _ (theirs : List ℕ) (since readers : ℕ) (plain : PlainState) (at : since ≡ length plain.history) where
  abbrev view : EngineState → EngineState
  view = viewed theirs since readers

  -- so the next commit goes to it
  pub stays_log : logs_to_write (view (state_of plain)) ≡ Some (log_since since)
  stays_log = rw (no_frames since plain.history at) refl

  -- and it could come to have as many frames as the engine in memory says
  pub same_frames : (change : Change) → frames_after (view (state_of plain)) change ≡ frames_after (state_of plain) change
  same_frames change =
      ap (λ (logs : Option TwoLogs). frames_now logs plain.history + length change.changed + length change.fresh + length change.freed + 2)
      stays_log
      ∙ ap (λ (n : ℕ). n + length change.changed + length change.fresh + length change.freed + 2) (no_frames since plain.history at)

  -- nothing bars what nothing barred
  pub clear_viewed : (asked : Submitted) → IsClear (state_of plain) asked → IsClear (view (state_of plain)) asked
  clear_viewed asked clear = record {
    wrote = clear.wrote;
    running = clear.running;
    free = clear.free;
    fits = record { pages = clear.fits.pages; frames = rw (same_frames asked.change) clear.fits.frames };
  }

  -- COMMIT is answered well
  pub accepts_viewed : (asked : Submitted) (receipt : Receipt) (new : PlainState) → All (λ t. t ≤ length plain.history) theirs
      → AcceptsCommit (λ (opening : Opening). Unit {0}) (state_of plain) asked receipt (state_of new)
      → AcceptsCommit (λ (opening : Opening). Unit {0}) (view (state_of plain)) asked receipt (view (state_of new))
  accepts_viewed asked (ReadOnly n) new all a = (a.0, a.1, ap view a.2)
  accepts_viewed asked (At number) new all a =
      let history = plain.history ++ commit_of asked a.pages ∷ [] in
      let own = (numbers_after theirs plain.history (commit_of asked a.pages) number a.number_is all).0 in
      record {
        clear = clear_viewed asked a.clear;
        number_is = a.number_is;
        pages = a.pages;
        wrote = a.wrote;
        moments = λ opening is. tt;
        after_is = ap view a.after_is
            ∙ ap (λ (numbers : List ℕ). record (view (state_of plain)) {
              history = history;
              own = numbers;
              newest = map_after (state_of plain) asked.change;
              size = pages_after (state_of plain) asked.change;
            }) own
            ∙ ap (λ (logs : Option TwoLogs). record (view (state_of plain)) {
              history = history;
              own = numbers_but theirs (length plain.history) ++ number ∷ [];
              newest = map_after (state_of plain) asked.change;
              size = pages_after (state_of plain) asked.change;
              logs = logs;
            }) (sym stays_log);
      }

  -- each limit that is passed still is
  over_viewed : (change : Change) → IsOver (state_of plain) change → IsOver (view (state_of plain)) change
  over_viewed change (inl large) = inl large
  over_viewed change (inr long) = inr (rw (same_frames change) long)

  -- COMMIT is refused; neither does its disk fail nor is a page corrupt
  pub refuses_viewed : (stands stands' : Type 0) (asked : Submitted) (why : CommitFault) (new : PlainState)
      → asked.change.fresh ≡ [] → asked.change.freed ≡ []
      → RefusesCommit (λ (opening : Opening). Unit {0}) stands (state_of plain) asked why (state_of new)
      → RefusesCommit (λ (opening : Opening). Unit {0}) stands' (view (state_of plain)) asked why (view (state_of new))
  refuses_viewed stands stands' asked (fault.Stopped log at) new fresh freed r = (r.0, r.1, ap view r.2)
  refuses_viewed stands stands' asked (fault.BusySnapshot page number) new fresh freed r = (r.0, r.1, r.2, ap view r.3)
  refuses_viewed stands stands' asked (fault.SizeLimit pages frames) new fresh freed r =
      (r.0, r.1, r.2, over_viewed asked.change r.3, r.4, r.5 ∙ sym (same_frames asked.change), ap view r.6)
  refuses_viewed stands stands' asked fault.Memory new fresh freed r = (clear_viewed asked r.0, ap view r.1)
  refuses_viewed stands stands' asked fault.Disk new fresh freed r =
      absurd (elim r.1.counted [ inl more ↦ omega arith | inr last ↦ omega (arith, last) ])
  refuses_viewed stands stands' asked (fault.Corrupt page) new fresh freed r =
      absurd (elim r.1.needed [ inl some ↦ some freed | inr some ↦ some fresh ])

-- a commit of theirs leaves one's own as they were
pub later_theirs : (theirs : List ℕ) (since readers since' readers' : ℕ) (old : PlainState) (number : ℕ) (new : PlainState)
    → All (λ t. t ≤ length old.history) theirs → SomeCommitted old number new
    → Later (viewed theirs since readers (state_of old)) (viewed (theirs ++ number ∷ []) since' readers' (state_of new))
later_theirs theirs since readers since' readers' old number new all came =
    let commit = commit_of came.0 came.1.pages in
    let history : new.history ≡ old.history ++ commit ∷ [] = ap (λ (s : EngineState). s.history) came.1.after_is in
    record {
      more = commit ∷ [];
      grown = history;
      own = rw history (numbers_after theirs old.history commit number came.1.number_is all).1;
      told = refl;
      size = omega (arith, ap (λ (s : EngineState). s.size) came.1.after_is);
      stopped = tt;
      faults = omega arith;
      page_size = ap (λ (s : EngineState). s.page_size) came.1.after_is;
      usable = ap (λ (s : EngineState). s.usable) came.1.after_is;
      always_begins = refl;
      alone = refl;
      keeps_logs = refl;
      logs = λ always. absurd cc;
      readers = λ always. absurd cc;
      disk = refl;
      nobody = λ alone. absurd cc;
    }
