-- A store on a disk, from one appended frame to the next, and as they are sealed.
use Rattle.std.proofs.Common.{◌≡◌, ◌≢◌, ◌∙◌, inl, inr, ℕ, Bool, true, false, List, [], ◌∷◌, ◌++◌, ◌≤◌, ◌==◌, if◌then◌else◌, length, refl, sym, ap, subst, Option, Some, None}
use Rattle.disk_face.specs.declared.disk.File.{File}
use Rattle.disk_face.specs.declared.disk.File.TheVariants.{Main}
use Rattle.disk_face.specs.declared.step.Step.{Step}
use Rattle.disk_face.specs.declared.step.Step.TheVariants.{Wrote, Refused, Synced}
use Rattle.disk_face.specs.Files.{Files}
use Rattle.disk_face.specs.Steps.{History, reads, further, after}
use Rattle.disk_face.specs.Told.{Refuses}
use Rattle.disk_face.specs.Image.{MayLeave, same_file}
use Rattle.page_spec.specs.PageMap.{PageMap}
use Rattle.log_spec.specs.LogHeader.{LogFields}
use Rattle.log_spec.specs.Accept.{Frame, IsValidFrame, last_size}
use Rattle.crash_spec.specs.Marks.{other_of}
use Rattle.crash_spec.specs.Opening.{Opening, Since, grown, rebased}
use Rattle.crash_spec.specs.Passes.{Passes, ByAnswer}
use Rattle.crash_spec.specs.Recovered.{overlaid}
use Rattle.crash_spec.specs.Elsewhere.{IsElsewhere}
use Rattle.crash_spec.specs.Logs.{IsOnDisk}
use Rattle.crash_spec.specs.Store.{StoreView, Holds, AreOnDisk, named_size}
use Rattle.crash_spec.proofs.Since.{since_is_one}
use Rattle.crash_spec.proofs.Passing.{passes_still, passes_step}
use Rattle.crash_spec.proofs.StoreMoments.{holds_images}
use Rattle.crash_spec.proofs.StoreSteps.{are_on_current, log_apart}
use Rattle.crash_spec.proofs.Elsewhere.{content_elsewhere}
use Rattle.log_pair.specs.Pair.{PairView, current_file, current_header, written_frames, next_piece, with_frame, sealed_pair}
use Rattle.log_pair.specs.Appending.{LogStands, IsUnderWay, WritesPiece, SyncsFile}
use Rattle.log_pair.proofs.Standing.{append_passes, seal_passes, since_weaker}
use Rattle.log_commit.specs.Commit.{with_pending, with_frames, LeavesEither, IsCommittedTo, MayCome, StandsAs}
use Rattle.log_commit.specs.Appended.{IsGrowing}

-- what holds since an opening holds of the steps since it
at_since : (start : History) (P : History → Type 0) (since : List Step) → Since start P (Some (grown since start)) → P (rebased start since)
at_since start P since (steps, is, holds) =
    subst (λ (xs : List Step). P (rebased start xs)) (sym (since_is_one start since steps is)) holds

-- what the frames behind those of the log make of the map, whatever Main holds below it
abbrev pub LiesOver : StoreView → List Frame → PageMap → Type 0
LiesOver view more later =
    (main : List ℕ) → named_size main view.other view.frames ≡ view.size → view.map ≡ overlaid main view.other view.frames → last_size more ≢ 0
    → (named_size main view.other (view.frames ++ more) ≡ view.size) × (later ≡ overlaid main view.other (view.frames ++ more))

-- where no commit ends, which map is on its way says nothing
pub other_later : (opening : Opening) (view : StoreView) (more : List Frame) (one other : PageMap) (told : History) → last_size more ≡ 0
    → Holds opening (with_pending view more one) told → Holds opening (with_pending view more other) told
other_later opening view more one other told none h = record {
  on = h.on;
  sized = h.sized;
  sized_later = h.sized_later;
  is = h.is;
  is_later = λ some. absurd (some none);
}

-- the store with other pending frames, at the same moment or after a step on the current log
with_others : (opening : Opening) (view : StoreView) (few more : List Frame) (map later : PageMap) (told new : History)
    → Holds opening (with_pending view few map) told
    → AreOnDisk opening new view.current view.header view.older view.frames more view.other view.size → (reads new).main ≡ (reads told).main
    → LiesOver view more later → Holds opening (with_pending view more later) new
with_others opening view few more map later told new h on same lies = record {
  on = on;
  sized = ap (λ (main : List ℕ). named_size main view.other view.frames) same ∙ h.sized;
  sized_later = λ some. ap (λ (main : List ℕ). named_size main view.other (view.frames ++ more)) same ∙ (lies (reads told).main h.sized h.is some).0;
  is = h.is ∙ ap (λ (main : List ℕ). overlaid main view.other view.frames) (sym same);
  is_later = λ some. (lies (reads told).main h.sized h.is some).1 ∙ ap (λ (main : List ℕ). overlaid main view.other (view.frames ++ more)) (sym same);
}

-- what a crash leaves of it
pub either_images : (opening : Opening) (view : StoreView) (more : List Frame) (later : PageMap) (told : History) → Holds opening (with_pending view more later) told
    → (image : Files) → MayLeave opening.before told image → LeavesEither opening view.map later told image
either_images opening view more later told h image left chance = elim (holds_images opening (with_pending view more later) told h image left chance) [
  | inl same ↦ inl same
  | inr (some, same) ↦ inr same
]

module _ (opening : Opening) (view : StoreView) (pair : PairView) (more : List Frame) (frame : Frame) (later : PageMap)
    (file : view.current ≡ current_file pair) (header : view.header ≡ current_header pair) (none : last_size more ≡ 0)
    (valid : IsValidFrame (current_header pair) pair.sum frame) (lies : LiesOver view (more ++ frame ∷ []) later) where
  abbrev all : List Frame
  all = more ++ frame ∷ []

  abbrev LeavesSome : History → Files → Type 0
  LeavesSome told image = LeavesEither opening view.map later told image

  abbrev Growing : History → Type 0
  Growing told = IsGrowing opening view pair more told

  abbrev Wider : History → Type 0
  Wider told = Holds opening (with_pending view all later) told

  abbrev Grown : History → Type 0
  Grown told = Wider told × LogStands opening (with_frame pair frame) view.frames all told

  as_view : (told : History) → IsOnDisk opening told (current_file pair) (current_header pair) view.frames all
      → IsOnDisk opening told view.current view.header view.frames all
  as_view told on = rw (file, header) on

  log_passes : (ok : Bool) (old new : Option History) → WritesPiece ok (next_piece pair frame) old new
      → Since opening.start (λ told. LogStands opening pair view.frames more told) old
      → Since opening.start (ByAnswer ok (λ told. LogStands opening (with_frame pair frame) view.frames all told) (λ told. IsUnderWay opening pair view.frames all told)) new
  log_passes ok old new step h = (append_passes opening pair view.frames more frame valid none ok old new step h).holds

  -- the log after the write, after one that was refused, and as it is before
  written : (since : List Step) → LogStands opening pair view.frames more (rebased opening.start since)
      → LogStands opening (with_frame pair frame) view.frames all (further (Wrote (next_piece pair frame)) (rebased opening.start since))
  written since stands =
      at_since opening.start (λ told. LogStands opening (with_frame pair frame) view.frames all told) (Wrote (next_piece pair frame) ∷ since)
      (log_passes true (Some (grown since opening.start)) (Some (further (Wrote (next_piece pair frame)) (grown since opening.start))) refl (since, refl, stands))

  refused : (left : List ℕ) → length left ≤ length frame → (since : List Step) → LogStands opening pair view.frames more (rebased opening.start since)
      → IsUnderWay opening pair view.frames all (further (Refused (next_piece pair frame) left) (rebased opening.start since))
  refused left within since stands =
      at_since opening.start (λ told. IsUnderWay opening pair view.frames all told) (Refused (next_piece pair frame) left ∷ since)
      (log_passes false (Some (grown since opening.start)) (Some (further (Refused (next_piece pair frame) left) (grown since opening.start))) (inr (left, within, refl)) (since, refl, stands))

  still : (since : List Step) → LogStands opening pair view.frames more (rebased opening.start since) → IsUnderWay opening pair view.frames all (rebased opening.start since)
  still since stands =
      at_since opening.start (λ told. IsUnderWay opening pair view.frames all told) since
      (log_passes false (Some (grown since opening.start)) (Some (grown since opening.start)) (inl refl) (since, refl, stands))

  -- the store with the frame on its way
  apart : (told : History) → Growing told → (same_file (current_file pair) (other_of view.current) ≡ false) × (same_file (current_file pair) Main ≡ false)
  apart told growing =
      subst (λ (log : File). (same_file log (other_of view.current) ≡ false) × (same_file log Main ≡ false)) file (log_apart view.current growing.0.on.newest.is_log)

  wider_still : (since : List Step) → Growing (rebased opening.start since) → Wider (rebased opening.start since)
  wider_still since growing =
      let told = rebased opening.start since in
      let h = growing.0 in
      with_others opening view more all view.map later told told h
      (record { newest = as_view told (still since growing.1); oldest = h.on.oldest; rising = h.on.rising; main = h.on.main; some_size = h.on.some_size }) refl lies

  wider_after : (step : Step) (since : List Step) → IsElsewhere (other_of view.current) step → IsElsewhere Main step → Growing (rebased opening.start since)
      → IsOnDisk opening (further step (rebased opening.start since)) (current_file pair) (current_header pair) view.frames all
      → Wider (further step (rebased opening.start since))
  wider_after step since other main growing on =
      let told = rebased opening.start since in
      let h = growing.0 in
      with_others opening view more all view.map later told (further step told) h
      (are_on_current opening told view.current view.header view.older view.frames more view.other view.size step view.frames all h.on other main
      (as_view (further step told) on)) (content_elsewhere Main step told main) lies

  grown_after : (since : List Step) → Growing (rebased opening.start since) → Grown (further (Wrote (next_piece pair frame)) (rebased opening.start since))
  grown_after since growing =
      let stands = written since growing.1 in
      let away = apart (rebased opening.start since) growing in
      (wider_after (Wrote (next_piece pair frame)) since away.0 away.1 growing stands.on, stands)

  refused_after : (left : List ℕ) → length left ≤ length frame → (since : List Step) → Growing (rebased opening.start since) → Wider (further (Refused (next_piece pair frame) left) (rebased opening.start since))
  refused_after left within since growing =
      let away = apart (rebased opening.start since) growing in
      wider_after (Refused (next_piece pair frame) left) since away.0 away.1 growing (refused left within since growing.1)

  growing_images : (told : History) → Growing told → (image : Files) → MayLeave opening.before told image → LeavesSome told image
  growing_images told growing = either_images opening view more later told (other_later opening view more view.map later told none growing.0)

  grown_images : (told : History) → Grown told → (image : Files) → MayLeave opening.before told image → LeavesSome told image
  grown_images told is = either_images opening view all later told is.0

  wider_images : (told : History) → Wider told → (image : Files) → MayLeave opening.before told image → LeavesSome told image
  wider_images told h = either_images opening view all later told h

  -- one write that was done
  pub one_more : (old new : Option History) → new ≡ after (Wrote (next_piece pair frame)) old → Since opening.start Growing old
      → Passes opening LeavesSome Grown old new
  one_more old new step h =
      subst (λ (told : Option History). Passes opening LeavesSome Grown old told) (sym step)
      (passes_step opening LeavesSome Growing Grown (Wrote (next_piece pair frame)) growing_images grown_images old (λ since is growing. grown_after since growing) h)

  -- and one that was refused
  pub one_refused : (old new : Option History) → Refuses (next_piece pair frame) old new → Since opening.start Growing old
      → Passes opening LeavesSome Wider old new
  one_refused None new (inl same) h = subst (λ (told : Option History). Passes opening LeavesSome Wider None told) (sym same) (record { each_moment = tt; holds = tt })
  one_refused (Some told) new (inl same) (since, is, growing) =
      subst (λ (t : Option History). Passes opening LeavesSome Wider (Some told) t) (sym same)
      (passes_still opening LeavesSome Wider wider_images (Some told) (since, is, wider_still since growing))
  one_refused old new (inr (left, within, same)) h =
      subst (λ (told : Option History). Passes opening LeavesSome Wider old told) (sym same)
      (passes_step opening LeavesSome Growing Wider (Refused (next_piece pair frame) left) growing_images wider_images old
      (λ since is growing. refused_after left within since growing) h)

-- at the beginning nothing is on its way
pub grows_none : (opening : Opening) (view : StoreView) (pair : PairView) (told : History) → view.pending ≡ [] → StandsAs opening view pair told
    → IsGrowing opening view pair [] told
grows_none opening view pair told none (h, stands) = (
  record {
    on = subst (λ (fs : List Frame). AreOnDisk opening told view.current view.header view.older view.frames fs view.other view.size) none h.on;
    sized = h.sized;
    sized_later = λ some. absurd (some refl);
    is = h.is;
    is_later = λ some. absurd (some refl);
  },
  stands,
)

-- the frames are sealed
module _ (opening : Opening) (view : StoreView) (pair : PairView) (more : List Frame) (later : PageMap)
    (file : view.current ≡ current_file pair) (header : view.header ≡ current_header pair) (ends : last_size more ≢ 0) where
  abbrev Ended : History → Type 0
  Ended told = Holds opening (with_pending view more later) told × LogStands opening pair view.frames more told

  abbrev Sealed : History → Type 0
  Sealed told = IsCommittedTo opening view (sealed_pair pair) more later told

  abbrev LeavesOne : History → Files → Type 0
  LeavesOne told image = LeavesEither opening view.map later told image

  sealed_log : (since : List Step) → LogStands opening pair view.frames more (rebased opening.start since)
      → LogStands opening (sealed_pair pair) (view.frames ++ more) [] (further (Synced (current_file pair)) (rebased opening.start since))
  sealed_log since stands =
      at_since opening.start (λ told. LogStands opening (sealed_pair pair) (view.frames ++ more) [] told) (Synced (current_file pair) ∷ since)
      (seal_passes opening pair view.frames more ends true (Some (grown since opening.start)) (Some (further (Synced (current_file pair)) (grown since opening.start))) refl (since, refl, stands)).holds

  sealed_after : (since : List Step) → Ended (rebased opening.start since) → Sealed (further (Synced (current_file pair)) (rebased opening.start since))
  sealed_after since (h, stands) =
      let told = rebased opening.start since in
      let log = sealed_log since stands in
      let newest : IsOnDisk opening (further (Synced (current_file pair)) told) view.current view.header (view.frames ++ more) [] =
      subst (λ (f : File). IsOnDisk opening (further (Synced (current_file pair)) told) f view.header (view.frames ++ more) []) (sym (file ∙ same_file_sealed pair))
      (subst (λ (hd : LogFields). IsOnDisk opening (further (Synced (current_file pair)) told) (current_file (sealed_pair pair)) hd (view.frames ++ more) [])
      (sym (header ∙ same_header_sealed pair)) log.on) in (
        record {
          on = are_on_current opening told view.current view.header view.older view.frames more view.other view.size (Synced (current_file pair))
              (view.frames ++ more) [] h.on tt tt newest;
          sized = h.sized_later ends;
          sized_later = λ some. absurd (some refl);
          is = h.is_later ends;
          is_later = λ some. absurd (some refl);
        },
        log,
      )
    where
      same_file_sealed : (pair : PairView) → current_file pair ≡ current_file (sealed_pair pair)
      same_file_sealed pair = refl

      same_header_sealed : (pair : PairView) → current_header pair ≡ current_header (sealed_pair pair)
      same_header_sealed pair = by (pair.current == 1)
        where
          by : (first : Bool) → current_header pair ≡ (if first then (if first then (record { header = current_header pair; frames = written_frames pair }) else pair.one) else (if first then pair.two else (record { header = current_header pair; frames = written_frames pair }))).header
          by true = refl
          by false = refl

  ended_images : (told : History) → Ended told → (image : Files) → MayLeave opening.before told image → LeavesOne told image
  ended_images told is = either_images opening view more later told is.0

  sealed_images : (told : History) → Sealed told → (image : Files) → MayLeave opening.before told image → LeavesOne told image
  sealed_images told is image left chance = elim (holds_images opening (with_frames view more later) told is.0 image left chance) [
    | inl same ↦ inr same
    | inr (some, same) ↦ absurd (some refl)
  ]

  pub seals_all : (ok : Bool) (old new : Option History) → SyncsFile ok (current_file pair) old new → Since opening.start Ended old
      → Passes opening LeavesOne (ByAnswer ok Sealed (MayCome opening view later)) old new
  seals_all true old new step h =
      subst (λ (told : Option History). Passes opening LeavesOne Sealed old told) (sym step)
      (passes_step opening LeavesOne Ended Sealed (Synced (current_file pair)) ended_images sealed_images old (λ since is ended. sealed_after since ended) h)
  seals_all false old new step h =
      subst (λ (told : Option History). Passes opening LeavesOne (MayCome opening view later) old told) (sym step)
      (passes_still opening LeavesOne (MayCome opening view later) (λ told is. either_images opening view is.0 later told is.1) old
      (since_weaker opening.start Ended (MayCome opening view later) (λ told is. (more, is.0)) old h))
