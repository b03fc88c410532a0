-- Worlds in which page lines may go on, since their newest map is a page store: each act leads to such a world again.
use Rattle.std.proofs.Common.{◌≡◌, ℕ, ◌+◌, ◌≤◌, Bool, true, false, cond, eqb, List, [], ◌∷◌, ◌++◌, length, replicate, get_or, Option, Some, None, sym, subst, ◌∙◌, arith, length-append}
use Rattle.std.specs.Prelude.{slice_index}
use Rattle.std.proofs.lemmas.List.{get_or_push, length-replicate}
use Rattle.page_spec.specs.PageMap.{PageMap, page_size_of}
use Rattle.engine_spec.specs.declared.commits.Commit.{Commit}
use Rattle.engine_spec.specs.declared.commits.Mode.TheVariants.{Concurrent}
use Rattle.engine_spec.specs.declared.commits.Receipt.TheVariants.{ReadOnly}
use Rattle.page_lines.specs.declared.lines.Act.{Act}
use Rattle.page_lines.specs.declared.lines.Act.TheVariants as act
use Rattle.page_lines.specs.declared.lines.Told.{Told}
use Rattle.page_lines.specs.declared.lines.Told.TheVariants as told
use Rattle.page_lines.specs.PageLines.{AreImages}
use Rattle.engine_spec.specs.Change.{laid}
use Rattle.engine_spec.specs.History.{conflict}
use Rattle.page_lines.specs.Range.{IsInRange}
use Rattle.page_lines.specs.World.{World, SessionState, Out, Open, Refused, PageTransaction, changed_at, newest_map, shown, change_of, commit_in, moved, committed, decided, commit, begin_step, read_step, write_step, commit_step, rollback_step, step}
use Rattle.page_lines.specs.Exchanges.{Exchange, AcceptedStatement, snapshot_of, transaction_of}
use Rattle.page_lines.proofs.Transactions.{none_are, with_image-are}
use Rattle.page_lines.proofs.Alone.{IsStore}
use Rattle.page_lines.proofs.SerialLaw.{IsHeld, IsWorld, laid_is_store, newest_store}

-- what a session's open transaction wrote are whole pages of s bytes
abbrev pub HasImages : ℕ → SessionState → Type 0
HasImages s Out = Unit {0}
HasImages s (Open transaction) = AreImages s transaction.changed
HasImages s (Refused transaction) = Unit {0}

-- Page lines may go on in this world: it has one map more than commits, the newest map is a page store with pages of s bytes, and
-- each open transaction wrote such pages. Nothing is asked of the older maps.
pub record MayGoOn (s : ℕ) (world : World) : Type 0 where
  pub count : length world.maps ≡ length world.history + 1
  pub newest : IsStore s (newest_map world)
  pub images : (session : ℕ) → HasImages s (world.sessions session)

-- the newest map after a commit
pub newest_is : (maps : List PageMap) (history : List Commit) (next : PageMap) (commit : Commit) → length maps ≡ length history + 1
    → get_or (maps ++ next ∷ []) (length (history ++ commit ∷ [])) [] ≡ next
newest_is maps history next commit count =
    get_or_push maps next [] (length (history ++ commit ∷ [])) (omega (arith, count, length-append history (commit ∷ [])))

-- with one session's state changed, what each wrote are whole pages
images_changed : (s : ℕ) (sessions : ℕ → SessionState) (session : ℕ) (state : SessionState) → HasImages s state
    → ((number : ℕ) → HasImages s (sessions number)) → (number : ℕ) → HasImages s (changed_at sessions session state number)
images_changed s sessions session state here others number = by_test (eqb number session)
  where
    by_test : (test : Bool) → HasImages s (cond test state (sessions number))
    by_test true = here
    by_test false = others number

-- page lines may go on where a session's state changed
moved_may : (s : ℕ) (world : World) (session : ℕ) (state : SessionState) (answer : Told) → HasImages s state → MayGoOn s world
    → MayGoOn s (moved world session state answer).world
moved_may s world session state answer here may = record {
  count = may.count;
  newest = may.newest;
  images = images_changed s world.sessions session state here may.images;
}

-- BEGIN
begin_may : (s : ℕ) (world : World) (session : ℕ) (state : SessionState) → MayGoOn s world
    → MayGoOn s (begin_step world session state).world
begin_may s world session Out may = record {
  count = may.count;
  newest = may.newest;
  images = images_changed s world.sessions session
      (Open (record { snap = length world.history; reads = []; changed = []; said = []; wrote = false }))
      (none_are s) may.images;
}
begin_may s world session (Open transaction) may = may
begin_may s world session (Refused transaction) may = may

-- READ
read_may : (s : ℕ) (world : World) (session page : ℕ) (state : SessionState) → HasImages s state → MayGoOn s world
    → MayGoOn s (read_step world session page state).world
read_may s world session page Out here may = may
read_may s world session page (Open transaction) here may =
    moved_may s world session _ (told.Byte (slice_index (shown world transaction page) 0)) here may
read_may s world session page (Refused transaction) here may = may

-- WRITE
write_may : (s : ℕ) (world : World) (session page byte : ℕ) (state : SessionState) → 2 ≤ page → page ≤ 16 → HasImages s state
    → MayGoOn s world → MayGoOn s (write_step world session page byte state).world
write_may s world session page byte Out low high here may = may
write_may s world session page byte (Open transaction) low high here may =
    let size = page_size_of (newest_map world) in
    moved_may s world session _ told.Ok
    (with_image-are transaction.changed page (replicate size byte) s low high (length-replicate size byte ∙ may.newest.size) here) may
write_may s world session page byte (Refused transaction) low high here may = may

-- COMMIT that nothing bars
committed_may : (s : ℕ) (world : World) (session : ℕ) (transaction : PageTransaction) → AreImages s transaction.changed
    → MayGoOn s world → MayGoOn s (committed world session transaction).world
committed_may s world session transaction images may =
    let next = laid (newest_map world) (change_of world transaction) in
    let one = commit_in world session transaction in
    record {
      count = omega (arith, may.count, length-append world.maps (next ∷ []), length-append world.history (one ∷ []));
      newest = subst (IsStore s) (sym (newest_is world.maps world.history next one may.count))
          (laid_is_store s world transaction (newest_map world) images may.newest);
      images = images_changed s world.sessions session Out tt may.images;
    }

-- COMMIT of a transaction that wrote
decided_may : (s : ℕ) (world : World) (session : ℕ) (transaction : PageTransaction) (found : Option (ℕ × ℕ))
    → AreImages s transaction.changed → MayGoOn s world → MayGoOn s (decided world session transaction found).world
decided_may s world session transaction None images may = committed_may s world session transaction images may
decided_may s world session transaction (Some found) images may =
    moved_may s world session (Refused transaction) (told.Busy found.0 found.1) tt may

-- COMMIT
commit_may : (s : ℕ) (world : World) (session : ℕ) (state : SessionState) → HasImages s state → MayGoOn s world
    → MayGoOn s (commit_step world session state).world
commit_may s world session Out here may = may
commit_may s world session (Open transaction) here may = by_wrote transaction.wrote
  where
    by_wrote : (wrote : Bool) → MayGoOn s (cond wrote
        (decided world session transaction (conflict Concurrent transaction.reads transaction.snap world.history))
        (moved world session Out (told.Done (ReadOnly transaction.snap)))).world
    by_wrote true =
        decided_may s world session transaction (conflict Concurrent transaction.reads transaction.snap world.history) here may
    by_wrote false = moved_may s world session Out (told.Done (ReadOnly transaction.snap)) tt may
commit_may s world session (Refused transaction) here may = may

-- ROLLBACK
rollback_may : (s : ℕ) (world : World) (session : ℕ) (state : SessionState) → MayGoOn s world
    → MayGoOn s (rollback_step world session state).world
rollback_may s world session Out may = may
rollback_may s world session (Open transaction) may = moved_may s world session Out told.Ok tt may
rollback_may s world session (Refused transaction) may = moved_may s world session Out told.Ok tt may

-- page lines may go on after each act
pub step_may : (s : ℕ) (world : World) (asked : Act) → IsInRange asked → MayGoOn s world → MayGoOn s (step world asked).world
step_may s world (act.Begin session) range may = begin_may s world session (world.sessions session) may
step_may s world (act.Read session page) range may = read_may s world session page (world.sessions session) (may.images session) may
step_may s world (act.Write session page byte) range may =
    write_may s world session page byte (world.sessions session) range.0 range.1 (may.images session) may
step_may s world (act.Commit session) range may = commit_may s world session (world.sessions session) (may.images session) may
step_may s world (act.Rollback session) range may = rollback_may s world session (world.sessions session) may
step_may s world act.Copy range may = may
step_may s world act.Step range may = may
step_may s world act.Logs range may = may

-- page lines may go on in a world in which no session is in a transaction
pub out_may : (s : ℕ) (world : World) → length world.maps ≡ length world.history + 1 → IsStore s (newest_map world)
    → ((session : ℕ) → world.sessions session ≡ Out) → MayGoOn s world
out_may s world count newest out = record {
  count = count;
  newest = newest;
  images = λ session. subst (HasImages s) (sym (out session)) tt;
}

-- what a session that is held wrote are whole pages
held_images : (s : ℕ) (maps : List PageMap) (snap : ℕ) (done : List AcceptedStatement) (state : SessionState) → IsHeld s maps snap done state
    → HasImages s state
held_images s maps snap done Out held = tt
held_images s maps snap done (Open transaction) held = held.2.images
held_images s maps snap done (Refused transaction) held = tt

-- page lines may go on in each world that they led to
pub world_may : (s : ℕ) (first : PageMap) (world : World) (past : List Exchange) → IsWorld s first world past → MayGoOn s world
world_may s first world past whole = record {
  count = whole.maps_count;
  newest = newest_store s first world past whole;
  images = λ session. held_images s world.maps (snapshot_of session past) (transaction_of session past) (world.sessions session)
      (whole.held session);
}
