-- What a scan of a log's frames knows after some of them, how one more frame changes it, and what it has found at its end.
use Rattle.std.proofs.Common.{◌≡◌, ◌≢◌, ℕ, ◌+◌, ◌≤◌, ◌<◌, List, [], ◌∷◌, ◌++◌, length, take, drop, refl, sym, ◌∙◌, ap, arith, length-append, append-nil, inl, inr}
use Rattle.std.specs.List.{concat}
use Rattle.std.proofs.lemmas.List.{take-append-le, take_all, drop-drop}
use Rattle.std.proofs.lemmas.List.Folds.{concat-append}
use Rattle.std.proofs.lemmas.Grind.{fold-append}
use Rattle.std.proofs.Math.Seq.{take-add}
use Rattle.std.proofs.lemmas.Bool.{cases_lt}
use Rattle.log_spec.specs.Checksum.{Sum}
use Rattle.log_spec.specs.LogHeader.{LogFields, log_fields, IsOurs, header_size}
use Rattle.log_spec.specs.Accept.{Frame, IsValidFrame, AreValidFrames, AreThere, Accepted, sum_after, sum_of_frames, last_size, commit_size}
use Rattle.log_spec.proofs.AcceptLaws.{valid_push, accepted_from_scan}

-- Behind these frames, which are valid, the scan is at this place with this checksum. It keeps so many of them, and knows the
-- size and the checksum after the last one that it keeps.
pub record Scanned (bytes : List ℕ) (header : LogFields) (frames : List Frame) (at : ℕ) (sum : Sum) (kept size : ℕ) (kept_sum : Sum) : Type 0 where
  pub there : AreThere bytes frames
  pub place : at ≡ header_size + length (concat frames)
  pub valid : AreValidFrames header header.sum frames
  pub summed : sum ≡ sum_of_frames header header.sum frames
  pub within : kept ≤ length frames
  pub kept_size : size ≡ last_size (take kept frames)
  pub kept_summed : kept_sum ≡ sum_of_frames header header.sum (take kept frames)
  pub ends : 0 < kept → size ≢ 0
  pub others : (n : ℕ) → kept < n → n ≤ length frames → last_size (take n frames) ≡ 0

pub scanned_none : (bytes : List ℕ) (header : LogFields) → Scanned bytes header [] header_size header.sum 0 0 header.sum
scanned_none bytes header = record {
  there = refl;
  place = refl;
  valid = tt;
  summed = refl;
  within = omega arith;
  kept_size = refl;
  kept_summed = refl;
  ends = λ some. absurd (omega arith);
  others = λ n more less. absurd (omega arith);
}

-- one frame more at the end of some that are there
pub there_push : (bytes : List ℕ) (frames : List Frame) (frame : Frame) → AreThere bytes frames
    → take (length frame) (drop (header_size + length (concat frames)) bytes) ≡ frame → AreThere bytes (frames ++ frame ∷ [])
there_push bytes frames frame there next =
    let row = drop header_size bytes in
    let xs = concat frames in
    let joined : concat (frames ++ frame ∷ []) ≡ xs ++ frame = concat-append frames (frame ∷ []) ∙ ap (λ (ys : List ℕ). xs ++ ys) (append-nil frame) in
    let after : take (length frame) (drop (length xs) row) ≡ frame =
    ap (λ (ys : List ℕ). take (length frame) ys) (drop-drop (length xs) header_size bytes) ∙ next in
    let whole : take (length (xs ++ frame)) row ≡ xs ++ frame =
    ap (λ (n : ℕ). take n row) (length-append xs frame) ∙ take-add (length xs) (length frame) row
    ∙ ap (λ (ys : List ℕ). ys ++ take (length frame) (drop (length xs) row)) there ∙ ap (λ (ys : List ℕ). xs ++ ys) after in
    rw joined whole

length-push : (frames : List Frame) (frame : Frame) → length (frames ++ frame ∷ []) ≡ length frames + 1
length-push frames frame = length-append frames (frame ∷ [])

place_push : (frames : List Frame) (frame : Frame) (at : ℕ) → at ≡ header_size + length (concat frames)
    → at + length frame ≡ header_size + length (concat (frames ++ frame ∷ []))
place_push frames frame at place =
    let joined : concat (frames ++ frame ∷ []) ≡ concat frames ++ frame = concat-append frames (frame ∷ []) ∙ ap (λ (ys : List ℕ). concat frames ++ ys) (append-nil frame) in
    let long = ap (λ (ys : List ℕ). length ys) joined ∙ length-append (concat frames) frame in
    omega (arith, long, place)

-- a valid frame that ends no commit
pub scanned_more : (bytes : List ℕ) (header : LogFields) (frames : List Frame) (at : ℕ) (sum : Sum) (kept size : ℕ) (kept_sum : Sum) (frame : Frame)
    → Scanned bytes header frames at sum kept size kept_sum → IsValidFrame header sum frame → take (length frame) (drop at bytes) ≡ frame
    → commit_size frame ≡ 0
    → Scanned bytes header (frames ++ frame ∷ []) (at + length frame) (sum_after header sum frame) kept size kept_sum
scanned_more bytes header frames at sum kept size kept_sum frame s valid next none =
    let front : take kept (frames ++ frame ∷ []) ≡ take kept frames = take-append-le kept frames (frame ∷ []) s.within in
    record {
      there = there_push bytes frames frame s.there (rw s.place at next);
      place = place_push frames frame at s.place;
      valid = valid_push header header.sum frames frame s.valid (rw s.summed at valid);
      summed = ap (λ (w : Sum). sum_after header w frame) s.summed ∙ sym (fold-append (sum_after header) header.sum frames (frame ∷ []));
      within = omega (arith, s.within, length-push frames frame);
      kept_size = s.kept_size ∙ ap last_size (sym front);
      kept_summed = s.kept_summed ∙ ap (sum_of_frames header header.sum) (sym front);
      ends = s.ends;
      others = λ n more less.
          elim (cases_lt (length frames) n) [
            | inl past ↦
                let all : take n (frames ++ frame ∷ []) ≡ frames ++ frame ∷ [] = take_all n (frames ++ frame ∷ []) (omega (arith, length-push frames frame)) in
                ap last_size all ∙ fold-append (λ (size : ℕ) (f : Frame). commit_size f) 0 frames (frame ∷ []) ∙ none
            | inr few ↦ ap last_size (take-append-le n frames (frame ∷ []) few) ∙ s.others n more few
          ];
    }

-- a valid frame that ends a commit
pub scanned_commit : (bytes : List ℕ) (header : LogFields) (frames : List Frame) (at : ℕ) (sum : Sum) (kept size : ℕ) (kept_sum : Sum) (frame : Frame)
    → Scanned bytes header frames at sum kept size kept_sum → IsValidFrame header sum frame → take (length frame) (drop at bytes) ≡ frame
    → commit_size frame ≢ 0
    → Scanned bytes header (frames ++ frame ∷ []) (at + length frame) (sum_after header sum frame) (length frames + 1) (commit_size frame) (sum_after header sum frame)
scanned_commit bytes header frames at sum kept size kept_sum frame s valid next some =
    let all : take (length frames + 1) (frames ++ frame ∷ []) ≡ frames ++ frame ∷ [] = take_all (length frames + 1) (frames ++ frame ∷ []) (omega (arith, length-push frames frame)) in
    let summed = ap (λ (w : Sum). sum_after header w frame) s.summed ∙ sym (fold-append (sum_after header) header.sum frames (frame ∷ [])) in
    record {
      there = there_push bytes frames frame s.there (rw s.place at next);
      place = place_push frames frame at s.place;
      valid = valid_push header header.sum frames frame s.valid (rw s.summed at valid);
      summed = summed;
      within = omega (arith, length-push frames frame);
      kept_size = sym (ap last_size all ∙ fold-append (λ (size : ℕ) (f : Frame). commit_size f) 0 frames (frame ∷ []));
      kept_summed = summed ∙ ap (sum_of_frames header header.sum) (sym all);
      ends = λ more. some;
      others = λ n more less. absurd (omega (arith, length-push frames frame));
    }

-- at the end, where no valid frame follows, the kept frames are the accepted ones
pub scanned_end : (log : ℕ) (bytes : List ℕ) (frames : List Frame) (at : ℕ) (sum : Sum) (kept size : ℕ) (kept_sum : Sum)
    → Scanned bytes (log_fields bytes) frames at sum kept size kept_sum → IsOurs log bytes
    → ((frame : Frame) → take (length frame) (drop at bytes) ≡ frame → IsValidFrame (log_fields bytes) sum frame → ⊥)
    → Accepted log bytes (take kept frames)
scanned_end log bytes frames at sum kept size kept_sum s ours stops =
    accepted_from_scan log bytes frames kept ours s.there s.valid
    (λ frame next valid. stops frame
    (ap (λ (ys : List ℕ). take (length frame) ys) (ap (λ (n : ℕ). drop n bytes) s.place ∙ sym (drop-drop (length (concat frames)) header_size bytes)) ∙ next)
    (rw s.summed valid))
    s.within (λ some none. s.ends some (s.kept_size ∙ none)) s.others
