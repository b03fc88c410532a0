-- The first commit of a new database, or of one whose versions aren't this program's.
use Rattle.std.specs.Prelude.{◌≡◌, ◌≢◌, ℕ, ◌+◌, ◌*◌, max, true, ◌≤◌, ◌<◌, ◌^◌, Bool, List, [], ◌∷◌, length, Option, None, IfSome}
use Rattle.disk_face.specs.declared.disk.File.TheVariants.{Log1, Log2}
use Rattle.disk_face.specs.Steps.{History, reads}
use Rattle.page_spec.specs.PageMap.{PageMap}
use Rattle.log_spec.specs.LogHeader.{log_fields}
use Rattle.log_spec.specs.Accept.{Frame, page_number, page_of, last_size}
use Rattle.crash_spec.specs.Opening.{Since}
use Rattle.crash_spec.specs.Passes.{Passes, WhereDone}
use Rattle.crash_spec.specs.Recovered.{overlaid}
use Rattle.crash_spec.specs.Store.{named_size}
use Rattle.opening_spec.specs.Found.{FoundLog, OpeningView, IsNextHeader, next_log}
use Rattle.opening_spec.specs.States.{AreSynced, IsFounding, IsResetting, LeavesEither}
use Rattle.log_pair.specs.Pair.{PairView, current_header}
use Rattle.log_pair.specs.Appending.{LogStands}
use Rattle.recover.specs.NewPages.{migrated}

-- the frames hold these pages, one each, in rising order from this number on
abbrev pub HoldFrom : (ℕ → List ℕ) → ℕ → List Frame → Type 0
HoldFrom page number [] = Unit {0}
HoldFrom page number (frame ∷ rest) = (page_number frame ≡ number) × (page_of frame ≡ page number) × HoldFrom page (number + 1) rest

-- Frames of so many pages, the last of which ends a commit of this size, make this map over Main with pages of this size, whatever their
-- salts and checksums are.
abbrev pub MakesMap : (main : List ℕ) (page_size : ℕ) (later : PageMap) (page : ℕ → List ℕ) (count size : ℕ) → Type 0
MakesMap main page_size later page count size =
    (frames : List Frame) → HoldFrom page 1 frames → length frames ≡ count → last_size frames ≡ size
    → (overlaid main [] frames ≡ later) × (named_size main [] frames ≡ page_size)

-- The first commit is under way: log 1 is the pair's current one and has its new header, and these frames stand behind it.
pub record IsCommitting (view : OpeningView) (later : PageMap) (main : List ℕ) (pair : PairView) (one two : FoundLog) (frames : List Frame) (told : History) : Type 0 where
  pub founding : IsFounding view later (current_header pair) frames one two told
  pub stands : LogStands view.opening pair [] frames told
  pub main_is : (reads told).main ≡ main
  pub small : one.salt < 2 ^ 32

-- what an opening goes by once the commit is made: the map with it, and Main as long as it is then
abbrev pub later_view : OpeningView → PageMap → (main : List ℕ) → OpeningView
later_view view later main = record { opening = view.opening; size = view.size; long = length main; map = later; own = true }

-- log 1 with these frames
abbrev pub with_first : FoundLog → List Frame → FoundLog
with_first one frames = record { frames = frames; salt = one.salt; most = one.most }

-- The first commit is on the medium.
pub record HasFirstCommit (view : OpeningView) (later : PageMap) (main : List ℕ) (one two : FoundLog) (frames : List Frame) (told : History) : Type 0 where
  pub synced : AreSynced (later_view view later main) (with_first one frames) two told
  pub main_is : (reads told).main ≡ main
  pub none : two.frames ≡ []

-- from a state of the first commit to another one
abbrev pub Commits : PairView → (page : ℕ → List ℕ) (count size : ℕ) → (OpeningView → PageMap → List ℕ → FoundLog → FoundLog → History → Type 0) → Option History → Option History → Type 0
Commits pair page count size Then old new =
    (view : OpeningView) (later : PageMap) (main : List ℕ) (one two : FoundLog) → (size ≢ 0 → MakesMap main view.size later page count size)
    → Since view.opening.start (IsCommitting view later main pair one two []) old
    → Passes view.opening (LeavesEither view later) (Then view later main one two) old new

-- Frames of so many pages were appended.
abbrev pub AppendsPages : (pair later : PairView) (page : ℕ → List ℕ) (count size : ℕ) → Option History → Option History → Type 0
AppendsPages pair later page count size old new =
    (frames : List Frame) × HoldFrom page 1 frames × (length frames ≡ count) × (last_size frames ≡ size)
    × Commits pair page count size (λ view map main one two. IsCommitting view map main later one two frames) old new

-- They were appended and sealed.
abbrev pub CommitsPages : (pair : PairView) (page : ℕ → List ℕ) (count size : ℕ) → Option History → Option History → Type 0
CommitsPages pair page count size old new =
    (frames : List Frame) × HoldFrom page 1 frames × (length frames ≡ count)
    × Commits pair page count size (λ view map main one two. HasFirstCommit view map main one two frames) old new

-- A call of it failed.
abbrev pub FailsToCommit : (pair : PairView) (page : ℕ → List ℕ) (count size : ℕ) → Option History → Option History → Type 0
FailsToCommit pair page count size old new = Commits pair page count size (λ view map main one two told. Unit {0}) old new

-- From the third state, where log 1 may get this header, whose salts are the next ones and which has the page size, log 2 has no frame, and Main
-- has these bytes, no more than it had at first or than the later map has: what a crash leaves is the map before or the later one.
abbrev pub Founds : (bytes : List ℕ) → Bool → (OpeningView → PageMap → List ℕ → FoundLog → FoundLog → History → Type 0) → Option History → Option History → Type 0
Founds bytes ok Then old new =
    (view : OpeningView) (later : PageMap) (main : List ℕ) (one two : FoundLog) → Since view.opening.start (IsResetting view Log1 one two None) old
    → IsNextHeader Log1 one bytes → two.frames ≡ [] → IfSome old (λ told. ((reads told).main ≡ main) × (100 ≤ view.size) × ((log_fields bytes).page_size ≡ view.size)
    × (length main ≤ max (length (reads view.opening.start).main) (length later * view.size)))
    → Passes view.opening (LeavesEither view later) (WhereDone ok (Then view later main (next_log one) two)) old new

-- the same, where so many pages make the later map
abbrev pub FoundsMap : (bytes : List ℕ) (page : ℕ → List ℕ) (count size : ℕ) → (OpeningView → PageMap → List ℕ → FoundLog → FoundLog → History → Type 0) → Option History → Option History → Type 0
FoundsMap bytes page count size Then old new =
    (view : OpeningView) (later : PageMap) (main : List ℕ) (one two : FoundLog) → MakesMap main view.size later page count size
    → Since view.opening.start (IsResetting view Log1 one two None) old
    → IsNextHeader Log1 one bytes → two.frames ≡ [] → IfSome old (λ told. ((reads told).main ≡ main) × (100 ≤ view.size) × ((log_fields bytes).page_size ≡ view.size)
    × (length main ≤ max (length (reads view.opening.start).main) (length later * view.size)))
    → Passes view.opening (LeavesEither view later) (Then view later main (next_log one) two) old new

-- The commit of so many pages was made.
abbrev pub FoundsPages : (bytes : List ℕ) (page : ℕ → List ℕ) (count size : ℕ) → Option History → Option History → Type 0
FoundsPages bytes page count size old new =
    (frames : List Frame) × HoldFrom page 1 frames × (length frames ≡ count)
    × FoundsMap bytes page count size (λ view map main one two. HasFirstCommit view map main one two frames) old new

-- A call of it failed.
abbrev pub FailsToFound : (bytes : List ℕ) (page : ℕ → List ℕ) (count size : ℕ) → Option History → Option History → Type 0
FailsToFound bytes page count size old new = FoundsMap bytes page count size (λ view map main one two told. Unit {0}) old new

-- The commit is in Main too: both logs may get their new headers, log 2 first.
pub record HasFounded (view : OpeningView) (later : PageMap) (main : List ℕ) (one two : FoundLog) (told : History) : Type 0 where
  pub frames : List Frame
  pub resetting : IsResetting (later_view view later main) Log2 (with_first one frames) two None told

-- what is left of that for a database that was there, whatever Main holds
abbrev pub HasMigrated : OpeningView → FoundLog → FoundLog → History → Type 0
HasMigrated view one two told = (main : List ℕ) × HasFounded view (migrated view.map) main one two told
