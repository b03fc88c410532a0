-- Frames of pages, appended one by one.
use Rattle.std.proofs.Common.{take, get_or, ◌≡◌, ◌≢◌, ◌∙◌, ℕ, ◌+◌, if◌then◌else◌, Bool, true, false, List, [], ◌∷◌, ◌++◌, length, length-append, refl, sym, ap, subst, arith, Option}
use Rattle.std.proofs.lemmas.Grind.{fold-append}
use Rattle.disk_face.specs.Steps.{History}
use Rattle.page_spec.specs.PageMap.{PageMap}
use Rattle.log_spec.specs.Accept.{Frame, last_size, commit_size}
use Rattle.log_spec.specs.LogHeader.{LogFields}
use Rattle.log_spec.specs.Checksum.{Sum}
use Rattle.log_spec.specs.Written.{IsFrameOf}
use Rattle.crash_spec.specs.Opening.{Opening}
use Rattle.crash_spec.specs.Passes.{Passes, ByAnswer}
use Rattle.crash_spec.specs.Store.{StoreView, Holds}
use Rattle.crash_spec.proofs.Passing.{passes_still, passes_join}
use Rattle.engine_spec.specs.declared.commits.PageImage.{PageImage}
use Rattle.log_pair.specs.Pair.{PairView, current_file, current_header, with_frame, sealed_pair}
use Rattle.log_pair.specs.Appending.{AppendsFrame, SealsFrames, SyncsFile, LogStands}
use Rattle.log_pair.proofs.Standing.{since_weaker}
use Rattle.log_commit.specs.Commit.{AreFramesOf, StandsAs, LeavesEither, IsCommittedTo, MayCome, WritesCommit, map_under, with_pending, with_more, with_appended, no_image}
use Rattle.log_commit.specs.Pages.{images_of}
use Rattle.log_commit.specs.Appended.{IsGrowing, HasAppended, FailsToAppend, AppendsImage}
use Rattle.log_commit.specs.declared.commit.CommitPages.{CommitPages}
use Rattle.log_commit.proofs.Order.{all_images, length_front}
use Rattle.log_commit.proofs.Growing.{LiesOver, one_more, one_refused, grows_none, seals_all, other_later, either_images}
use Rattle.log_commit.proofs.Lying.{lies_over}

-- one frame more holds one page more
frames_push : (images : List PageImage) (frames : List Frame) (image : PageImage) (header : LogFields) (sum : Sum) (size : ℕ) (frame : Frame)
    → AreFramesOf images frames → IsFrameOf header sum image.page size image.bytes frame → AreFramesOf (images ++ image ∷ []) (frames ++ frame ∷ [])
frames_push [] [] image header sum size frame are is = (is.numbered, is.holds, tt)
frames_push [] (f ∷ frames) image header sum size frame are is = absurd are
frames_push (p ∷ images) [] image header sum size frame are is = absurd are
frames_push (p ∷ images) (f ∷ frames) image header sum size frame (number, bytes, are) is =
    (number, bytes, frames_push images frames image header sum size frame are is)

-- the size behind one frame more is that frame's
last_push : (frames : List Frame) (frame : Frame) → last_size (frames ++ frame ∷ []) ≡ commit_size frame
last_push frames frame = fold-append (λ (size : ℕ) (f : Frame). commit_size f) 0 frames (frame ∷ [])

-- a pair to which frames were appended
pub appended_again : (pair mid later : PairView) (frame : Frame) → mid ≡ with_appended pair mid → later ≡ with_frame mid frame → later ≡ with_appended pair later
appended_again pair mid later frame is next =
    let e : later ≡ with_frame (with_appended pair mid) frame = next ∙ ap (λ (p : PairView). with_frame p frame) is in
    e ∙ ap (λ (p : PairView). with_appended pair p) (sym e)

-- at the beginning
pub appended_none : (pair : PairView) (old : Option History) → HasAppended pair pair [] old old
appended_none pair old = (
  [],
  refl,
  tt,
  λ opening view after of h.
      passes_still opening (LeavesEither opening view.map after) (IsGrowing opening view pair [])
      (λ told growing. either_images opening view [] after told (other_later opening view [] view.map after told refl growing.0)) old
      (since_weaker opening.start (StandsAs opening view pair) (IsGrowing opening view pair []) (λ told stands. grows_none opening view pair told of.sealed stands) old h),
)

-- one page more
pub appended_more : (pair mid_pair later : PairView) (images : List PageImage) (image : PageImage) (old mid new : Option History) (frame : Frame)
    → mid_pair ≡ with_appended pair mid_pair → HasAppended pair mid_pair images old mid
    → AppendsFrame true mid_pair later image.page 0 image.bytes mid new frame → HasAppended pair later (images ++ image ∷ []) old new
appended_more pair mid_pair later images image old mid new frame same (more, none, are, grows) appends =
    let ends : last_size (more ++ frame ∷ []) ≡ 0 = last_push more frame ∙ appends.is.sized in
    let header : current_header mid_pair ≡ current_header pair = ap (λ (p : PairView). current_header p) same in
    let file : current_file mid_pair ≡ current_file pair = ap (λ (p : PairView). current_file p) same in (
      more ++ frame ∷ [],
      ends,
      frames_push images more image (current_header mid_pair) mid_pair.sum 0 frame are appends.is,
      λ opening view after of h.
          let first = grows opening view after of h in
          let next = one_more opening view mid_pair more frame after (of.current ∙ sym file) (of.header ∙ sym header) none appends.is.valid
          (λ main sized is some. absurd (some ends)) mid new appends.step first.holds in
          subst (λ (p : PairView). Passes opening (LeavesEither opening view.map after) (IsGrowing opening view p (more ++ frame ∷ [])) old new) (sym appends.becomes)
          (record {
            each_moment = (passes_join opening (LeavesEither opening view.map after) (IsGrowing opening view mid_pair more)
                (λ told. Holds opening (with_pending view (more ++ frame ∷ []) after) told × LogStands opening (with_frame mid_pair frame) view.frames (more ++ frame ∷ []) told)
                old mid new first next).each_moment;
            holds = since_weaker opening.start
                (λ told. Holds opening (with_pending view (more ++ frame ∷ []) after) told × LogStands opening (with_frame mid_pair frame) view.frames (more ++ frame ∷ []) told)
                (IsGrowing opening view (with_frame mid_pair frame) (more ++ frame ∷ []))
                (λ told is. (other_later opening view (more ++ frame ∷ []) after view.map told ends is.0, is.1)) new next.holds;
          }),
    )

-- a page that failed
pub fails_more : (pair mid_pair later : PairView) (images : List PageImage) (image : PageImage) (old mid new : Option History) (frame : Frame)
    → mid_pair ≡ with_appended pair mid_pair → HasAppended pair mid_pair images old mid
    → AppendsFrame false mid_pair later image.page 0 image.bytes mid new frame → FailsToAppend pair old new
fails_more pair mid_pair later images image old mid new frame same (more, none, are, grows) appends = λ opening view after of h.
    let ends : last_size (more ++ frame ∷ []) ≡ 0 = last_push more frame ∙ appends.is.sized in
    let header : current_header mid_pair ≡ current_header pair = ap (λ (p : PairView). current_header p) same in
    let file : current_file mid_pair ≡ current_file pair = ap (λ (p : PairView). current_file p) same in
    let first = grows opening view after of h in
    let next = one_refused opening view mid_pair more frame after (of.current ∙ sym file) (of.header ∙ sym header) none appends.is.valid
    (λ main sized is some. absurd (some ends)) mid new appends.step first.holds in
    record {
      each_moment = (passes_join opening (LeavesEither opening view.map after) (IsGrowing opening view mid_pair more)
          (λ told. Holds opening (with_pending view (more ++ frame ∷ []) after) told) old mid new first next).each_moment;
      holds = since_weaker opening.start (λ told. Holds opening (with_pending view (more ++ frame ∷ []) after) told) (MayCome opening view after)
          (λ told is. (more ++ frame ∷ [], is)) new next.holds;
    }

-- the last page, which ends the commit, and the seal
pub commits : (ok : Bool) (pair mid_pair later sealed : PairView) (front : List PageImage) (last : PageImage) (size : ℕ) (old mid near new : Option History) (frame : Frame)
    → size ≢ 0 → mid_pair ≡ with_appended pair mid_pair → mid_pair.appended ≡ length front → HasAppended pair mid_pair front old mid
    → AppendsFrame true mid_pair later last.page size last.bytes mid near frame → SealsFrames ok later sealed near new
    → (more : List Frame) × WritesCommit ok pair sealed (front ++ last ∷ []) size more old new
commits ok pair mid_pair later sealed front last size old mid near new frame some same counted (more, none, are, grows) appends seals =
    let images : List PageImage = front ++ last ∷ [] in
    let all : List Frame = more ++ frame ∷ [] in
    let frames : AreFramesOf images all = frames_push front more last (current_header mid_pair) mid_pair.sum size frame are appends.is in
    let last_is : last_size all ≡ size = last_push more frame ∙ appends.is.sized in
    let header : current_header mid_pair ≡ current_header pair = ap (λ (p : PairView). current_header p) same in
    let file : current_file mid_pair ≡ current_file pair = ap (λ (p : PairView). current_file p) same in (
      all,
      record {
        frames = λ done. frames;
        becomes = becomes ok pair mid_pair later sealed front last frame same counted appends.becomes seals.becomes;
        moments = λ opening view of fits h.
            let after : PageMap = map_under view.map images size in
            let lies : LiesOver view all after = lies_over view images all size frames last_is fits in
            let first = grows opening view after of h in
            let next = one_more opening view mid_pair more frame after (of.current ∙ sym file) (of.header ∙ sym header) none appends.is.valid lies mid near appends.step first.holds in
            let ends : last_size all ≢ 0 = λ zero_size. some (sym last_is ∙ zero_size) in
            let third = seals_all opening view (with_frame mid_pair frame) all after (of.current ∙ sym file) (of.header ∙ sym header) ends ok near new
            (subst (λ (p : PairView). SyncsFile ok (current_file p) near new) appends.becomes seals.step) next.holds in
            let joined = passes_join opening (LeavesEither opening view.map after) (IsGrowing opening view mid_pair more)
            (ByAnswer ok (IsCommittedTo opening view (sealed_pair (with_frame mid_pair frame)) all after) (MayCome opening view after)) old mid new first
            (passes_join opening (LeavesEither opening view.map after)
            (λ told. Holds opening (with_pending view all after) told × LogStands opening (with_frame mid_pair frame) view.frames all told)
            (ByAnswer ok (IsCommittedTo opening view (sealed_pair (with_frame mid_pair frame)) all after) (MayCome opening view after)) mid near new next third) in
            sealed_so ok opening view all after later sealed (with_frame mid_pair frame) old new appends.becomes seals.becomes joined;
      },
    )
  where
    sealed_so : (ok : Bool) (opening : Opening) (view : StoreView) (all : List Frame) (after : PageMap) (later sealed framed : PairView) (old new : Option History)
        → later ≡ framed → sealed ≡ (if ok then sealed_pair later else later)
        → Passes opening (LeavesEither opening view.map after) (ByAnswer ok (IsCommittedTo opening view (sealed_pair framed) all after) (MayCome opening view after)) old new
        → Passes opening (LeavesEither opening view.map after) (ByAnswer ok (IsCommittedTo opening view sealed all after) (MayCome opening view after)) old new
    sealed_so true opening view all after later sealed framed old new one two passes =
        subst (λ (p : PairView). Passes opening (LeavesEither opening view.map after) (IsCommittedTo opening view p all after) old new)
        (sym (two ∙ ap sealed_pair one)) passes
    sealed_so false opening view all after later sealed framed old new one two passes = passes

    becomes : (ok : Bool) (pair mid_pair later sealed : PairView) (front : List PageImage) (last : PageImage) (frame : Frame) → mid_pair ≡ with_appended pair mid_pair
        → mid_pair.appended ≡ length front → later ≡ with_frame mid_pair frame → sealed ≡ (if ok then sealed_pair later else later)
        → sealed ≡ (if ok then with_more pair (length (front ++ last ∷ [])) sealed else with_appended pair sealed)
    becomes true pair mid_pair later sealed front last frame same counted framed is =
        let again : later ≡ with_appended pair later = appended_again pair mid_pair later frame same framed in
        let many : later.appended ≡ length (front ++ last ∷ []) =
        ap (λ (p : PairView). p.appended) framed ∙ ap (λ (n : ℕ). n + 1) counted ∙ omega (arith, length-append front (last ∷ [])) in
        let whole : sealed ≡ with_more pair (length (front ++ last ∷ [])) later =
        is ∙ ap sealed_pair again ∙ ap (λ (n : ℕ). with_more pair n later) many in
        whole ∙ ap (λ (p : PairView). with_more pair (length (front ++ last ∷ [])) p) (sym whole)
    becomes false pair mid_pair later sealed front last frame same counted framed is =
        let again : later ≡ with_appended pair later = appended_again pair mid_pair later frame same framed in
        is ∙ again ∙ ap (λ (p : PairView). with_appended pair p) (sym is)

-- nothing came of it: the last page failed
pub last_fails : (pair mid_pair later : PairView) (front : List PageImage) (last : PageImage) (size : ℕ) (old mid new : Option History) (frame : Frame)
    → size ≢ 0 → mid_pair ≡ with_appended pair mid_pair → HasAppended pair mid_pair front old mid
    → AppendsFrame false mid_pair later last.page size last.bytes mid new frame
    → (more : List Frame) × WritesCommit false pair later (front ++ last ∷ []) size more old new
last_fails pair mid_pair later front last size old mid new frame some same (more, none, are, grows) appends =
    let images : List PageImage = front ++ last ∷ [] in
    let all : List Frame = more ++ frame ∷ [] in
    let frames : AreFramesOf images all = frames_push front more last (current_header mid_pair) mid_pair.sum size frame are appends.is in
    let last_is : last_size all ≡ size = last_push more frame ∙ appends.is.sized in
    let header : current_header mid_pair ≡ current_header pair = ap (λ (p : PairView). current_header p) same in
    let file : current_file mid_pair ≡ current_file pair = ap (λ (p : PairView). current_file p) same in (
      [],
      record {
        frames = λ done. absurd cc;
        becomes = appends.becomes ∙ same ∙ ap (λ (p : PairView). with_appended pair p) (sym appends.becomes);
        moments = λ opening view of fits h.
            let after : PageMap = map_under view.map images size in
            let first = grows opening view after of h in
            let next = one_refused opening view mid_pair more frame after (of.current ∙ sym file) (of.header ∙ sym header) none appends.is.valid
            (lies_over view images all size frames last_is fits) mid new appends.step first.holds in
            record {
              each_moment = (passes_join opening (LeavesEither opening view.map after) (IsGrowing opening view mid_pair more)
                  (λ told. Holds opening (with_pending view all after) told) old mid new first next).each_moment;
              holds = since_weaker opening.start (λ told. Holds opening (with_pending view all after) told) (MayCome opening view after) (λ told is. (all, is)) new next.holds;
            };
      },
    )

-- or one before it
pub front_fails : (pair later : PairView) (images : List PageImage) (size : ℕ) (old new : Option History) → later ≡ with_appended pair later → FailsToAppend pair old new
    → (more : List Frame) × WritesCommit false pair later images size more old new
front_fails pair later images size old new same fails = (
  [],
  record {
    frames = λ done. absurd cc;
    becomes = same;
    moments = λ opening view of fits h. fails opening view (map_under view.map images size) of h;
  },
)

-- the same of the pages that a commit is handed
pub commits_all : (ok : Bool) (pair mid_pair later sealed : PairView) (pages : CommitPages) (size : ℕ) (old mid near new : Option History) → size ≢ 0
    → mid_pair ≡ with_appended pair mid_pair → mid_pair.appended ≡ length pages.order.now → HasAppended pair mid_pair (take (length pages.order.now) (images_of pages)) old mid
    → AppendsImage true mid_pair later (get_or (images_of pages) (length pages.order.now) no_image) size mid near → SealsFrames ok later sealed near new
    → (more : List Frame) × WritesCommit ok pair sealed (images_of pages) size more old new
commits_all ok pair mid_pair later sealed pages size old mid near new some same counted appended (frame, appends) seals =
    subst (λ (images : List PageImage). (more : List Frame) × WritesCommit ok pair sealed images size more old new) (sym (all_images pages))
    (commits ok pair mid_pair later sealed (take (length pages.order.now) (images_of pages)) (get_or (images_of pages) (length pages.order.now) no_image) size old mid near new frame
    some same (counted ∙ sym (length_front pages)) appended appends seals)

pub last_fails_all : (pair mid_pair later : PairView) (pages : CommitPages) (size : ℕ) (old mid new : Option History) → size ≢ 0
    → mid_pair ≡ with_appended pair mid_pair → HasAppended pair mid_pair (take (length pages.order.now) (images_of pages)) old mid
    → AppendsImage false mid_pair later (get_or (images_of pages) (length pages.order.now) no_image) size mid new
    → (more : List Frame) × WritesCommit false pair later (images_of pages) size more old new
last_fails_all pair mid_pair later pages size old mid new some same appended (frame, appends) =
    subst (λ (images : List PageImage). (more : List Frame) × WritesCommit false pair later images size more old new) (sym (all_images pages))
    (last_fails pair mid_pair later (take (length pages.order.now) (images_of pages)) (get_or (images_of pages) (length pages.order.now) no_image) size old mid new frame
    some same appended appends)
