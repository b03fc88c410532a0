-- What COMMIT of an open transaction does in a world that keeps two logs, by what bars it.
use Rattle.std.proofs.Common.{◌≡◌, ◌∙◌, ℕ, Bool, true, false, cond, ltb, length, ap}
use Rattle.std.specs.Prelude.{Some, None}
use Rattle.engine_spec.specs.declared.commits.Mode.TheVariants.{Concurrent}
use Rattle.engine_spec.specs.declared.commits.Receipt.TheVariants.{ReadOnly}
use Rattle.engine_spec.specs.History.{conflict}
use Rattle.engine_spec.specs.State.{Stop}
use Rattle.engine_spec.specs.TwoLogs.{frame_limit}
use Rattle.page_lines.specs.declared.lines.Told.TheVariants as reply
use Rattle.page_lines.specs.World.{PageTransaction, Out, Open, Refused, moved, newest_map}
use Rattle.page_lines.specs.Logged.{LoggedWorld, in_world, unchanged, without_reader, frames_with, logged_commit, logged_written, logged_decided, logged_clear, logged_committed}

module _ (logged : LoggedWorld) (s : ℕ) (transaction : PageTransaction) where
  -- of one that wrote nothing
  pub reads_only : transaction.wrote ≡ false
      → logged_commit logged s (Open transaction)
      ≡ in_world (without_reader logged s) (moved logged.world s Out (reply.Done (ReadOnly transaction.snap)))
  reads_only wrote = ap (λ (test : Bool). cond test (logged_written logged s transaction logged.stopped)
      (in_world (without_reader logged s) (moved logged.world s Out (reply.Done (ReadOnly transaction.snap))))) wrote

  -- of one that wrote
  writes : transaction.wrote ≡ true → logged_commit logged s (Open transaction) ≡ logged_written logged s transaction logged.stopped
  writes wrote = ap (λ (test : Bool). cond test (logged_written logged s transaction logged.stopped)
      (in_world (without_reader logged s) (moved logged.world s Out (reply.Done (ReadOnly transaction.snap))))) wrote

  -- where a write of a log failed before
  pub finds_stop : (stop : Stop) → transaction.wrote ≡ true → logged.stopped ≡ Some stop
      → logged_commit logged s (Open transaction) ≡ unchanged logged (reply.Stopped stop.log stop.at)
  finds_stop stop wrote stopped = writes wrote ∙ ap (logged_written logged s transaction) stopped

  -- where none failed
  decides : transaction.wrote ≡ true → logged.stopped ≡ None
      → logged_commit logged s (Open transaction)
      ≡ logged_decided logged s transaction (conflict Concurrent transaction.reads transaction.snap logged.world.history)
  decides wrote running = writes wrote ∙ ap (logged_written logged s transaction) running

  -- where a later commit bars it
  pub finds_conflict : (page number : ℕ) → transaction.wrote ≡ true → logged.stopped ≡ None
      → conflict Concurrent transaction.reads transaction.snap logged.world.history ≡ Some (page, number)
      → logged_commit logged s (Open transaction) ≡ in_world logged (moved logged.world s (Refused transaction) (reply.Busy page number))
  finds_conflict page number wrote running found = decides wrote running ∙ ap (logged_decided logged s transaction) found

  -- where no later commit bars it
  free : transaction.wrote ≡ true → logged.stopped ≡ None
      → conflict Concurrent transaction.reads transaction.snap logged.world.history ≡ None
      → logged_commit logged s (Open transaction) ≡ logged_clear logged s transaction
  free wrote running none = decides wrote running ∙ ap (logged_decided logged s transaction) none

  -- where the log could come to have too many frames
  pub finds_no_room : transaction.wrote ≡ true → logged.stopped ≡ None
      → conflict Concurrent transaction.reads transaction.snap logged.world.history ≡ None
      → ltb frame_limit (frames_with logged transaction) ≡ true
      → logged_commit logged s (Open transaction) ≡ unchanged logged (reply.Size (length (newest_map logged.world)))
  finds_no_room wrote running none over = free wrote running none
      ∙ ap (λ (test : Bool). cond test (unchanged logged (reply.Size (length (newest_map logged.world)))) (logged_committed logged s transaction)) over

  -- where nothing bars it
  pub finds_nothing : transaction.wrote ≡ true → logged.stopped ≡ None
      → conflict Concurrent transaction.reads transaction.snap logged.world.history ≡ None
      → ltb frame_limit (frames_with logged transaction) ≡ false
      → logged_commit logged s (Open transaction) ≡ logged_committed logged s transaction
  finds_nothing wrote running none fits = free wrote running none
      ∙ ap (λ (test : Bool). cond test (unchanged logged (reply.Size (length (newest_map logged.world)))) (logged_committed logged s transaction)) fits
