-- Where frames stand.
use Rattle.std.proofs.Common.{◌≡◌, ℕ, suc, ◌+◌, ◌*◌, ◌≤◌, List, [], ◌∷◌, ◌++◌, length, take, ◌∙◌, ap, arith, length-append}
use Rattle.std.specs.List.{concat}
use Rattle.std.proofs.lemmas.List.{append-nil, length-take-le}
use Rattle.std.proofs.lemmas.List.Folds.{concat-append}
use Rattle.log_spec.specs.Checksum.{Sum}
use Rattle.log_spec.specs.LogHeader.{LogFields, header_size}
use Rattle.log_spec.specs.Accept.{Frame, AreValidFrames, sum_after}
use Rattle.log_spec.specs.Frames.{frame_size, frame_place, end_of}
use Rattle.log_spec.proofs.AcceptLaws.{valid_take}

pub end-push : (frames : List Frame) (frame : Frame) → end_of (frames ++ frame ∷ []) ≡ end_of frames + length frame
end-push frames frame =
    let joined : concat (frames ++ frame ∷ []) ≡ concat frames ++ frame = concat-append frames (frame ∷ []) ∙ ap (λ (ys : List ℕ). concat frames ++ ys) (append-nil frame) in
    omega (arith, ap (λ (ys : List ℕ). length ys) joined, length-append (concat frames) frame)

pub end-append : (frames more : List Frame) → end_of (frames ++ more) ≡ end_of frames + length (concat more)
end-append frames more = omega (arith, ap (λ (ys : List ℕ). length ys) (concat-append frames more), length-append (concat frames) (concat more))

valid-length : (header : LogFields) (sum : Sum) (frames : List Frame) → AreValidFrames header sum frames → length (concat frames) ≡ length frames * frame_size header
valid-length header sum [] valid = omega arith
valid-length header sum (frame ∷ rest) (first, others) =
    length-append frame (concat rest) ∙ more (frame_size header) (length rest) (length frame) (length (concat rest)) first.whole (valid-length header (sum_after header sum frame) rest others)
  where
    more : (size count here behind : ℕ) → here ≡ size → behind ≡ count * size → here + behind ≡ suc count * size
    more size count here behind one all = grind arith

-- valid frames stand one behind the other, each in its place
pub end_is_place : (header : LogFields) (sum : Sum) (frames : List Frame) → AreValidFrames header sum frames → end_of frames ≡ frame_place header (length frames)
end_is_place header sum frames valid = ap (λ (n : ℕ). header_size + n) (valid-length header sum frames valid)

-- the frame that has so many before it
pub frame_stands : (header : LogFields) (sum : Sum) (frames : List Frame) (count : ℕ) → count ≤ length frames → AreValidFrames header sum frames
    → end_of (take count frames) ≡ frame_place header count
frame_stands header sum frames count within valid =
    end_is_place header sum (take count frames) (valid_take header sum frames count valid) ∙ ap (frame_place header) (length-take-le count frames within)
