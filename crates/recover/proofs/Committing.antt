-- The first commit, frame by frame, and sealed.
use Rattle.std.proofs.Common.{◌≡◌, ◌≢◌, ◌⊎◌, ℕ, ◌+◌, ◌-◌, ◌≤◌, Bool, true, false, inl, inr, List, [], ◌∷◌, ◌++◌, length, length-append, Option, Some, refl, sym, ◌∙◌, ap, subst, arith}
use Rattle.std.proofs.lemmas.Grind.{fold-append}
use Rattle.disk_face.specs.declared.disk.File.{File}
use Rattle.disk_face.specs.declared.disk.File.TheVariants.{Log1}
use Rattle.disk_face.specs.declared.step.Piece.{Piece}
use Rattle.disk_face.specs.declared.step.Step.{Step}
use Rattle.disk_face.specs.declared.step.Step.TheVariants.{Wrote, Refused, Synced}
use Rattle.disk_face.specs.Files.{Files, content}
use Rattle.disk_face.specs.Steps.{History, reads, further, after}
use Rattle.disk_face.specs.Image.{MayLeave}
use Rattle.page_spec.specs.PageMap.{PageMap}
use Rattle.log_spec.specs.Checksum.{Sum}
use Rattle.log_spec.specs.Accept.{Frame, IsValidFrame, AreCommitted, sum_of_frames, last_size, commit_size}
use Rattle.log_spec.specs.Frames.{end_of}
use Rattle.crash_spec.specs.Opening.{Since, grown, rebased}
use Rattle.crash_spec.specs.Passes.{Passes, WhereDone}
use Rattle.crash_spec.specs.Recovered.{overlaid}
use Rattle.crash_spec.specs.Store.{named_size}
use Rattle.crash_spec.proofs.Passing.{passes_still, passes_step, passes_refused, passes_join, passes_weaker}
use Rattle.crash_spec.proofs.Since.{since_is_one}
use Rattle.wal_frames.specs.Found.{log_file}
use Rattle.log_pair.specs.Pair.{PairView, current_file, current_header, next_place, next_piece, with_frame}
use Rattle.log_pair.specs.Appending.{LogStands, WritesPiece, SyncsFile, AppendsFrame, SealsFrames}
use Rattle.log_pair.proofs.Standing.{append_passes, place_is, all_committed}
use Rattle.opening_spec.specs.Found.{OpeningView, FoundLog}
use Rattle.opening_spec.specs.States.{AreSynced, IsFounding, LeavesEither}
use Rattle.opening_spec.proofs.Founding.{founding_images, founding_wrote, founding_refused, founded}
use Rattle.opening_spec.proofs.Synced.{synced_images}
use Rattle.recover.specs.Founding.{HoldFrom, IsCommitting, HasFirstCommit, AppendsPages, CommitsPages, FailsToCommit, later_view, with_first}
use Rattle.recover.proofs.FirstPages.{hold_push, once_more}

last_push : (frames : List Frame) (frame : Frame) → last_size (frames ++ frame ∷ []) ≡ commit_size frame
last_push frames frame = fold-append (λ (size : ℕ) (f : Frame). commit_size f) 0 frames (frame ∷ [])

-- what holds since an opening holds of the steps since it
at_since : (start : History) (P : History → Type 0) (since : List Step) → Since start P (Some (grown since start)) → P (rebased start since)
at_since start P since (steps, is, holds) =
    subst (λ (xs : List Step). P (rebased start xs)) (sym (since_is_one start since steps is)) holds

-- log 1 is the current one
first_file : (pair : PairView) → pair.current ≡ 1 → current_file pair ≡ Log1
first_file pair is = ap log_file is

abbrev piece_at : File → ℕ → Frame → Piece
piece_at file at frame = record { file = file; at = at; bytes = frame }

module _ (view : OpeningView) (later : PageMap) (main : List ℕ) (pair : PairView) (one two : FoundLog) (frames : List Frame) (frame : Frame)
    (valid : IsValidFrame (current_header pair) pair.sum frame) (open_end : last_size frames ≡ 0) (first : pair.current ≡ 1)
    (lies : last_size (frames ++ frame ∷ []) ≢ 0 → (overlaid main [] (frames ++ frame ∷ []) ≡ later) × (named_size main [] (frames ++ frame ∷ []) ≡ view.size)) where
  abbrev all : List Frame
  all = frames ++ frame ∷ []

  abbrev Before : History → Type 0
  Before told = IsCommitting view later main pair one two frames told

  abbrev After : History → Type 0
  After told = IsCommitting view later main (with_frame pair frame) one two all told

  abbrev Tried : History → Type 0
  Tried told = Before told ⊎ IsFounding view later (current_header pair) all one two told

  abbrev Leaves : History → Files → Type 0
  Leaves told image = LeavesEither view later told image

  before_images : (told : History) → Before told → (image : Files) → MayLeave view.opening.before told image → Leaves told image
  before_images told b = founding_images view later (current_header pair) frames one two told b.founding

  after_images : (told : History) → After told → (image : Files) → MayLeave view.opening.before told image → Leaves told image
  after_images told b = founding_images view later (current_header pair) all one two told b.founding

  tried_images : (told : History) → Tried told → (image : Files) → MayLeave view.opening.before told image → Leaves told image
  tried_images told (inl b) = before_images told b
  tried_images told (inr f) = founding_images view later (current_header pair) all one two told f

  piece_is : (told : History) → Before told → (record { file = Log1; at = end_of frames; bytes = frame }) ≡ next_piece pair frame
  piece_is told b =
      sym (ap (λ (file : File). piece_at file (next_place pair) frame) (first_file pair first) ∙ ap (λ (at : ℕ). piece_at Log1 at frame) (place_is view.opening pair [] frames told b.stands))

  next_valid : (told : History) → Before told → IsValidFrame (current_header pair) (sum_of_frames (current_header pair) (current_header pair).sum frames) frame
  next_valid told b = subst (λ (s : Sum). IsValidFrame (current_header pair) s frame) b.stands.summed valid

  reached : (told : History) → Before told → end_of frames ≤ length (reads told).log1
  reached told b = subst (λ (file : File). end_of frames ≤ length (content (reads told) file)) (first_file pair first) b.stands.long

  lies_now : (told : History) → Before told → last_size all ≢ 0 → (overlaid (reads told).main [] all ≡ later) × (named_size (reads told).main [] all ≡ view.size)
  lies_now told b ends = subst (λ (bytes : List ℕ). (overlaid bytes [] all ≡ later) × (named_size bytes [] all ≡ view.size)) (sym b.main_is) (lies ends)

  wrote : (since : List Step) → Before (rebased view.opening.start since) → After (further (Wrote (next_piece pair frame)) (rebased view.opening.start since))
  wrote since b =
      let told : History = rebased view.opening.start since in
      let piece = piece_is told b in
      record {
        founding = subst (λ (p : Piece). IsFounding view later (current_header pair) all one two (further (Wrote p) told)) piece
            (founding_wrote view later (current_header pair) frames one two told b.founding frame (next_valid told b) open_end b.small (reached told b) (lies_now told b));
        stands = at_since view.opening.start (λ told. LogStands view.opening (with_frame pair frame) [] all told) (Wrote (next_piece pair frame) ∷ since)
            (append_passes view.opening pair [] frames frame valid open_end true (Some (grown since view.opening.start)) (Some (further (Wrote (next_piece pair frame)) (grown since view.opening.start))) refl
            (since, refl, b.stands)).holds;
        main_is = subst (λ (p : Piece). (reads (further (Wrote p) told)).main ≡ main) piece b.main_is;
        small = b.small;
      }

  refused : (left : List ℕ) (since : List Step) → Before (rebased view.opening.start since) → Tried (further (Refused (next_piece pair frame) left) (rebased view.opening.start since))
  refused left since b =
      let told : History = rebased view.opening.start since in
      inr (subst (λ (p : Piece). IsFounding view later (current_header pair) all one two (further (Refused p left) told)) (piece_is told b)
      (founding_refused view later (current_header pair) frames one two told b.founding frame (next_valid told b) open_end b.small (reached told b) (lies_now told b) left))

  pub goes_on : (ok : Bool) (old new : Option History) → WritesPiece ok (next_piece pair frame) old new → Since view.opening.start Before old → Passes view.opening Leaves (WhereDone ok After) old new
  goes_on true old new step h =
      subst (λ (told : Option History). Passes view.opening Leaves After old told) (sym step)
      (passes_step view.opening Leaves Before After (Wrote (next_piece pair frame)) before_images after_images old (λ since grew b. wrote since b) h)
  goes_on false old new step h =
      passes_weaker view.opening Leaves Leaves Tried (λ told. Unit {0}) (λ told image leaves. leaves) (λ told t. tt) old new
      (passes_refused view.opening Leaves Before Tried (next_piece pair frame) before_images tried_images old new (λ told b. inl b) (λ left within since grew b. refused left since b) h step)

-- nothing was appended yet
pub appends_none : (pair : PairView) (page : ℕ → List ℕ) (old : Option History) → AppendsPages pair pair page 0 0 old old
appends_none pair page old = (
  [],
  tt,
  refl,
  refl,
  λ view later main one two makes h.
      passes_still view.opening (LeavesEither view later) (λ told. IsCommitting view later main pair one two [] told)
      (λ told b. founding_images view later (current_header pair) [] one two told b.founding) old h,
)

-- one page more
pub appends_more : (pair mid later_pair : PairView) (page : ℕ → List ℕ) (count size : ℕ) (old near new : Option History) (frame : Frame) → mid.current ≡ 1 → AppendsPages pair mid page count 0 old near
    → AppendsFrame true mid later_pair (count + 1) size (page (count + 1)) near new frame → AppendsPages pair later_pair page (count + 1) size old new
appends_more pair mid later_pair page count size old near new frame first (frames, hold, long, ends, commits) appends =
    let all : List Frame = frames ++ frame ∷ [] in
    let number : count + 1 ≡ 1 + length frames = omega (arith, long) in
    let hold' : HoldFrom page 1 all = hold_push page 1 frames frame hold (appends.is.numbered ∙ number) (appends.is.holds ∙ ap page number) in
    let long' : length all ≡ count + 1 = omega (arith, length-append frames (frame ∷ []), long) in
    let ends' : last_size all ≡ size = last_push frames frame ∙ appends.is.sized in (
      all,
      hold',
      long',
      ends',
      λ view later main one two makes h.
          let before = commits view later main one two (λ some. absurd (some refl)) h in
          subst (λ (p : PairView). Passes view.opening (LeavesEither view later) (λ told. IsCommitting view later main p one two all told) old new) (sym appends.becomes)
          (passes_join view.opening (LeavesEither view later) (λ told. IsCommitting view later main mid one two frames told) (λ told. IsCommitting view later main (with_frame mid frame) one two all told)
          old near new before
          (goes_on view later main mid one two frames frame appends.is.valid ends first (λ some. makes (λ none. some (ends' ∙ none)) all hold' long' ends') true near new appends.step before.holds)),
    )

-- a page that wasn't the last failed
pub fails_open : (pair mid later_pair : PairView) (page : ℕ → List ℕ) (count total size : ℕ) (old near new : Option History) (frame : Frame) → mid.current ≡ 1 → AppendsPages pair mid page count 0 old near
    → AppendsFrame false mid later_pair (count + 1) 0 (page (count + 1)) near new frame → FailsToCommit pair page total size old new
fails_open pair mid later_pair page count total size old near new frame first (frames, hold, long, ends, commits) appends view later main one two makes h =
    let before = commits view later main one two (λ some. absurd (some refl)) h in
    passes_join view.opening (LeavesEither view later) (λ told. IsCommitting view later main mid one two frames told) (λ told. Unit {0}) old near new before
    (goes_on view later main mid one two frames frame appends.is.valid ends first (λ some. absurd (some (last_push frames frame ∙ appends.is.sized))) false near new appends.step before.holds)

-- the last one failed
pub fails_last : (pair mid later_pair : PairView) (page : ℕ → List ℕ) (count size : ℕ) (old near new : Option History) (frame : Frame) → mid.current ≡ 1 → AppendsPages pair mid page count 0 old near
    → AppendsFrame false mid later_pair (count + 1) size (page (count + 1)) near new frame → FailsToCommit pair page (count + 1) size old new
fails_last pair mid later_pair page count size old near new frame first (frames, hold, long, ends, commits) appends view later main one two makes h =
    let all : List Frame = frames ++ frame ∷ [] in
    let number : count + 1 ≡ 1 + length frames = omega (arith, long) in
    let hold' : HoldFrom page 1 all = hold_push page 1 frames frame hold (appends.is.numbered ∙ number) (appends.is.holds ∙ ap page number) in
    let long' : length all ≡ count + 1 = omega (arith, length-append frames (frame ∷ []), long) in
    let ends' : last_size all ≡ size = last_push frames frame ∙ appends.is.sized in
    let before = commits view later main one two (λ some. absurd (some refl)) h in
    passes_join view.opening (LeavesEither view later) (λ told. IsCommitting view later main mid one two frames told) (λ told. Unit {0}) old near new before
    (goes_on view later main mid one two frames frame appends.is.valid ends first (λ some. makes (λ none. some (ends' ∙ none)) all hold' long' ends') false near new appends.step before.holds)

-- the same by the page's number
abbrev Appended : (ok : Bool) (mid later_pair : PairView) (page : ℕ → List ℕ) (size : ℕ) → Option History → Option History → Frame → ℕ → Type 0
Appended ok mid later_pair page size near new frame n = AppendsFrame ok mid later_pair n size (page n) near new frame

by_number : (ok : Bool) (mid later_pair : PairView) (page : ℕ → List ℕ) (number size : ℕ) (bytes : List ℕ) (near new : Option History) (frame : Frame) → 1 ≤ number → bytes ≡ page number
    → AppendsFrame ok mid later_pair number size bytes near new frame → Appended ok mid later_pair page size near new frame (number - 1 + 1)
by_number ok mid later_pair page number size bytes near new frame from is appends =
    subst (λ (n : ℕ). Appended ok mid later_pair page size near new frame n) (sym (once_more number from))
    (subst (λ (bs : List ℕ). AppendsFrame ok mid later_pair number size bs near new frame) is appends)

pub appends_at : (pair mid later_pair : PairView) (page : ℕ → List ℕ) (number size : ℕ) (bytes : List ℕ) (old near new : Option History) (frame : Frame) → 1 ≤ number → mid.current ≡ 1 → bytes ≡ page number
    → AppendsPages pair mid page (number - 1) 0 old near → AppendsFrame true mid later_pair number size bytes near new frame → AppendsPages pair later_pair page (number - 1 + 1) size old new
appends_at pair mid later_pair page number size bytes old near new frame from first is before appends =
    appends_more pair mid later_pair page (number - 1) size old near new frame first before (by_number true mid later_pair page number size bytes near new frame from is appends)

pub fails_at : (pair mid later_pair : PairView) (page : ℕ → List ℕ) (number total size : ℕ) (bytes : List ℕ) (old near new : Option History) (frame : Frame) → 1 ≤ number → mid.current ≡ 1 → bytes ≡ page number
    → AppendsPages pair mid page (number - 1) 0 old near → AppendsFrame false mid later_pair number 0 bytes near new frame → FailsToCommit pair page total size old new
fails_at pair mid later_pair page number total size bytes old near new frame from first is before appends =
    fails_open pair mid later_pair page (number - 1) total size old near new frame first before (by_number false mid later_pair page number 0 bytes near new frame from is appends)

pub fails_last_at : (pair mid later_pair : PairView) (page : ℕ → List ℕ) (number size : ℕ) (bytes : List ℕ) (old near new : Option History) (frame : Frame) → 1 ≤ number → mid.current ≡ 1 → bytes ≡ page number
    → AppendsPages pair mid page (number - 1) 0 old near → AppendsFrame false mid later_pair number size bytes near new frame → FailsToCommit pair page (number - 1 + 1) size old new
fails_last_at pair mid later_pair page number size bytes old near new frame from first is before appends =
    fails_last pair mid later_pair page (number - 1) size old near new frame first before (by_number false mid later_pair page number size bytes near new frame from is appends)

-- the same state, for a view of another length
pub as_long : (view : OpeningView) (long : ℕ) (one two : FoundLog) (told : History) → AreSynced view one two told
    → AreSynced (record { opening = view.opening; size = view.size; long = long; map = view.map; own = view.own }) one two told
as_long view long one two told s = record {
  opened = record { log1 = s.opened.log1; log2 = s.opened.log2; main = s.opened.main; fits = s.opened.fits; is = s.opened.is; sizes = s.opened.sizes; keeps = s.opened.keeps };
  whole1 = s.whole1;
  whole2 = s.whole2;
}

-- all are sealed
module _ (view : OpeningView) (later : PageMap) (main : List ℕ) (pair : PairView) (one two : FoundLog) (frames : List Frame) (ends : last_size frames ≢ 0) (first : pair.current ≡ 1) where
  abbrev Open : History → Type 0
  Open told = IsCommitting view later main pair one two frames told

  abbrev Sealed : History → Type 0
  Sealed told = HasFirstCommit view later main one two frames told

  abbrev LeavesSome : History → Files → Type 0
  LeavesSome told image = LeavesEither view later told image

  open_images : (told : History) → Open told → (image : Files) → MayLeave view.opening.before told image → LeavesSome told image
  open_images told b = founding_images view later (current_header pair) frames one two told b.founding

  sealed_images : (told : History) → Sealed told → (image : Files) → MayLeave view.opening.before told image → LeavesSome told image
  sealed_images told s image left chance =
      let leaves = synced_images (later_view view later main) (with_first one frames) two told s.synced image left chance in (inr leaves.0, leaves.1)

  seals : (told : History) → Open told → Sealed (further (Synced Log1) told)
  seals told b =
      let file = first_file pair first in
      record {
        synced = as_long (record view { map = later; own = true }) (length main) (with_first one frames) two (further (Synced Log1) told)
            (founded view later (current_header pair) frames one two told b.founding ends
            (subst (λ (f : File). AreCommitted (content (reads told) f) frames) file (all_committed view.opening pair [] frames told b.stands ends))
            (subst (λ (f : File). end_of frames ≤ length (content (reads told) f)) file b.stands.long));
        main_is = b.main_is;
        none = b.founding.none;
      }

  pub seal_goes : (ok : Bool) (old new : Option History) → SyncsFile ok (current_file pair) old new → Since view.opening.start Open old → Passes view.opening LeavesSome (WhereDone ok Sealed) old new
  seal_goes true old new step h =
      subst (λ (told : Option History). Passes view.opening LeavesSome Sealed old told) (sym (step ∙ ap (λ (file : File). after (Synced file) old) (first_file pair first)))
      (passes_step view.opening LeavesSome Open Sealed (Synced Log1) open_images sealed_images old (λ since grew b. seals _ b) h)
  seal_goes false old new step h =
      subst (λ (told : Option History). Passes view.opening LeavesSome (λ t. Unit {0}) old told) (sym step)
      (passes_weaker view.opening LeavesSome LeavesSome Open (λ told. Unit {0}) (λ told image leaves. leaves) (λ told t. tt) old old
      (passes_still view.opening LeavesSome Open open_images old h))

pub commits_all : (pair later_pair sealed : PairView) (page : ℕ → List ℕ) (count size : ℕ) (old near new : Option History) → size ≢ 0 → later_pair.current ≡ 1 → AppendsPages pair later_pair page count size old near
    → SealsFrames true later_pair sealed near new → CommitsPages pair page count size old new
commits_all pair later_pair sealed page count size old near new some first (frames, hold, long, ends, commits) is = (
  frames,
  hold,
  long,
  λ view later main one two makes h.
      let before = commits view later main one two makes h in
      passes_join view.opening (LeavesEither view later) (λ told. IsCommitting view later main later_pair one two frames told) (λ told. HasFirstCommit view later main one two frames told) old near new before
      (seal_goes view later main later_pair one two frames (λ none. some (sym ends ∙ none)) first true near new is.step before.holds),
)

pub not_sealed : (pair later_pair sealed : PairView) (page : ℕ → List ℕ) (count size : ℕ) (old near new : Option History) → size ≢ 0 → later_pair.current ≡ 1 → AppendsPages pair later_pair page count size old near
    → SealsFrames false later_pair sealed near new → FailsToCommit pair page count size old new
not_sealed pair later_pair sealed page count size old near new some first (frames, hold, long, ends, commits) is view later main one two makes h =
    let before = commits view later main one two makes h in
    passes_join view.opening (LeavesEither view later) (λ told. IsCommitting view later main later_pair one two frames told) (λ told. Unit {0}) old near new before
    (seal_goes view later main later_pair one two frames (λ none. some (sym ends ∙ none)) first false near new is.step before.holds)
