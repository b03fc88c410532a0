-- The next page of the other log, its last frame, and where that stands.
use Rattle.std.proofs.Common.{◌≡◌, ◌∙◌, ℕ, ◌+◌, ◌-◌, ◌*◌, ◌<◌, ◌≤◌, List, length, Option, Some, None, sym, ap, subst, arith, slice_index, get_or, zero, suc, [], ◌∷◌}
use Rattle.std.specs.Prelude.{Contains, true, false, Result, Ok, Err, IfOk, OnErr}
use Rattle.disk_face.specs.declared.disk.File.TheVariants.{Main}
use Rattle.disk_face.specs.declared.step.Step.TheVariants.{Synced}
use Rattle.disk_face.specs.declared.disk.File.{File}
use Rattle.disk_face.specs.Steps.{History, after}
use Rattle.disk_face.specs.Told.{IsInside}
use Rattle.log_spec.specs.LogHeader.{LogFields}
use Rattle.log_spec.specs.Frames.{frame_place, frame_size}
use Rattle.engine_spec.specs.declared.commits.Commit.{Commit}
use Rattle.engine_spec.specs.declared.pins.Readers.{Readers}
use Rattle.engine_spec.specs.declared.pins.Ckpt.{Ckpt}
use Rattle.engine_spec.specs.declared.pins.Ckpt.TheVariants.{Copied, Finished, Idle, Held}
use Rattle.engine_spec.specs.TwoLogs.{TwoLogs, holders, Steps}
use Rattle.wal_index.specs.Index.{Indexed}
use Rattle.wal_index.specs.Frames.{IsFrameOf, IsLastFrame, FindsLast, IsNextPage, FindsNext}
use Rattle.log_pair.specs.Pair.{PairView}
use Rattle.wal_rules.specs.declared.state.LogState.{LogState}
use Rattle.wal_rules.specs.Rules.{logs_with, MayCopy}
use Rattle.wal_rules.specs.Indexing.{IsIndexOf}
use Rattle.checkpoint.specs.Steps.{pages_behind, readers_behind, DoesStep}

-- a frame that is there lies in the log's file
pub frame_inside : (told : Option History) (log : File) (header : LogFields) (count frame : ℕ) → 1 ≤ frame → frame ≤ count
    → IsInside told log (frame_place header count) 0 → IsInside told log (frame_place header (frame - 1)) (frame_size header)
frame_inside None log header count frame some within inside = tt
frame_inside (Some told) log header count frame some within inside =
    omega (arith, inside, up (24 + header.page_size) frame count some within)
  where
    up : (size frame count : ℕ) → 1 ≤ frame → frame ≤ count → (frame - 1) * size + size ≤ count * size
    up size frame count some within = below size (frame - 1) count (omega arith)
      where
        below : (size before count : ℕ) → before + 1 ≤ count → before * size + size ≤ count * size
        below size before count less = grind arith

-- a page that is there has a frame
pub has_frame : (pages : List ℕ) (page mark : ℕ) (found : Option ℕ) → Contains pages page → length pages ≤ mark → FindsLast pages page mark found
    → found ≡ None → ⊥
has_frame pages page mark found (place, within, is) marked finds none =
    let no : (other : ℕ) → other ≤ mark → IsFrameOf pages page other → ⊥ = subst (λ (f : Option ℕ). FindsLast pages page mark f) none finds in
    no (place + 1) (omega arith) (record {
      counted = omega arith;
      there = omega (arith, within);
      page_is = ap (slice_index pages) (back place) ∙ here pages place page within is;
    })
  where
    back : (place : ℕ) → place + 1 - 1 ≡ place
    back place = omega arith

    here : (xs : List ℕ) (place x : ℕ) → place < length xs → get_or xs place x ≡ x → slice_index xs place ≡ x
    here [] place x within is = absurd (omega arith)
    here (y ∷ xs) zero x within is = is
    here (y ∷ xs) (suc place) x within is = here xs place x (omega arith) is

-- the frame that was found
pub found_frame : (pages : List ℕ) (page mark : ℕ) (found : Option ℕ) (frame : ℕ) → found ≡ Some frame → FindsLast pages page mark found
    → IsLastFrame pages page mark frame
found_frame pages page mark found frame is finds = subst (λ (f : Option ℕ). FindsLast pages page mark f) is finds

-- whatever else two logs are, where their state is this one
some_logs : TwoLogs
some_logs = record { current = 1; generation = 1; since = 0; other_since = 0; done = true; copied = 0; limit = 1 }

-- nobody holds what a copy would change
pub none_holds : (state : LogState) (readers : Readers) (result : Result Unit ℕ) (done : Unit {0}) → result ≡ Ok done
    → ((rest : TwoLogs) → MayCopy (holders (logs_with state rest) readers) result) → readers_behind state readers ≡ 0
none_holds state readers result done is may =
    subst (λ (r : Result Unit ℕ). MayCopy (holders (logs_with state some_logs) readers) r) is (may some_logs)

-- so many do
pub some_hold : (state : LogState) (readers : Readers) (result : Result Unit ℕ) (count : ℕ) → result ≡ Err count
    → ((rest : TwoLogs) → MayCopy (holders (logs_with state rest) readers) result) → (count ≡ readers_behind state readers) × (0 < count)
some_hold state readers result count is may =
    subst (λ (r : Result Unit ℕ). MayCopy (holders (logs_with state some_logs) readers) r) is (may some_logs)

-- the next page that the index finds, and that it finds none
pub next_found : (pages : List ℕ) (copied : ℕ) (found : Option ℕ) (page : ℕ) → found ≡ Some page → FindsNext pages copied found
    → IsNextPage pages copied page
next_found pages copied found page is finds = subst (λ (f : Option ℕ). FindsNext pages copied f) is finds

pub none_left : (pages : List ℕ) (copied : ℕ) (found : Option ℕ) → found ≡ None → FindsNext pages copied found
    → (page : ℕ) → Contains pages page → page ≤ copied
none_left pages copied found is finds = subst (λ (f : Option ℕ). FindsNext pages copied f) is finds

-- what holds of an answer that went well
pub of_ok : {A E : Type 0} (result : Result A E) (P Q : A → Type 0) → ((answer : A) → P answer → Q answer) → IfOk result P → IfOk result Q
of_ok (Ok answer) P Q more is = more answer is
of_ok (Err why) P Q more is = tt

-- what holds anyway holds where a call failed
pub on_err : {A E : Type 0} (result : Result A E) (P : Type 0) → P → OnErr result P
on_err (Ok answer) P is = tt
on_err (Err why) P is = is

-- all pages were copied, and the database was synced
pub finishes : (pair : PairView) (pages : List ℕ) (state : LogState) (readers : Readers) (bytes : List ℕ) (old told : Option History) (new : LogState)
    → state.done ≡ false → readers_behind state readers ≡ 0 → ((page : ℕ) → Contains pages page → page ≤ state.copied) → (answer : Ckpt)
    → (answer ≡ Finished) × (new ≡ record state { done = true }) × (told ≡ after (Synced Main) old)
    → DoesStep pair pages state readers answer new bytes old told
finishes pair pages state readers bytes old told new pending free left answer (is, same, synced) =
    subst (λ (a : Ckpt). DoesStep pair pages state readers a new bytes old told) (sym is) (pending, free, left, same, synced)

-- A step by the index is one of the two logs, whatever history the index holds.
pub is_step : (pair : PairView) (index : Indexed) (state : LogState) (readers : Readers) (rest : TwoLogs) (history : List Commit) (bytes : List ℕ)
    (old told : Option History) (new : LogState) → IsIndexOf index (logs_with state rest) history → (answer : Ckpt)
    → DoesStep pair (pages_behind index state) state readers answer new bytes old told
    → Steps (logs_with state rest) readers history answer (logs_with new rest)
is_step pair index state readers rest history bytes old told new is Idle does = (does.0, ap (λ (s : LogState). logs_with s rest) does.1)
is_step pair index state readers rest history bytes old told new is (Held count) does =
    (does.0, does.1, does.2, ap (λ (s : LogState). logs_with s rest) does.3)
is_step pair index state readers rest history bytes old told new is (Copied page) does = (
  does.0,
  does.1,
  record {
    there = subst (λ (xs : List ℕ). Contains xs page) is.other.pages does.2.there;
    above = does.2.above;
    least = λ q there above. does.2.least q (subst (λ (xs : List ℕ). Contains xs q) (sym is.other.pages) there) above;
  },
  ap (λ (s : LogState). logs_with s rest) does.3,
)
is_step pair index state readers rest history bytes old told new is Finished does = (
  does.0,
  does.1,
  λ q there. does.2 q (subst (λ (xs : List ℕ). Contains xs q) (sym is.other.pages) there),
  ap (λ (s : LogState). logs_with s rest) does.3,
)
