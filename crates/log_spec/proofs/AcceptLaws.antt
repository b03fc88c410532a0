-- Of two lists of frames that a log's bytes go on with, one is a front of the other. So there is one accepted list.
use Rattle.std.proofs.Common.{◌≡◌, ◌≢◌, ℕ, ◌+◌, ◌≤◌, ◌<◌, zero, suc, List, [], ◌∷◌, ◌++◌, length, take, drop, refl, sym, ◌∙◌, ap, arith, length-append, take_all, get_or, drop-cons, inl, inr}
use Rattle.std.proofs.lemmas.Bool.{cases_lt}
use Rattle.std.specs.List.{concat}
use Rattle.std.proofs.lemmas.List.{take_at, drop_at, take-take, drop-take, take-append-drop, length-take-le}
use Rattle.std.proofs.lemmas.List.Folds.{concat-append}
use Rattle.log_spec.specs.Checksum.{Sum}
use Rattle.log_spec.specs.LogHeader.{LogFields, log_fields, IsOurs, header_size}
use Rattle.log_spec.specs.Accept.{Frame, AreValidFrames, AreThere, Accepted, sum_after, sum_of_frames, last_size, IsValidFrame}

-- where a row begins with two pieces, it begins with the first, and goes on with the second
first_piece : (x xs rest : List ℕ) → take (length (x ++ xs)) rest ≡ x ++ xs → take (length x) rest ≡ x
first_piece x xs rest h =
    sym (take-take (length x) (length (x ++ xs)) rest (omega (arith, length-append x xs)))
    ∙ ap (λ (row : List ℕ). take (length x) row) h ∙ take_at x xs (length x) refl

second_piece : (x xs rest : List ℕ) → take (length (x ++ xs)) rest ≡ x ++ xs → take (length xs) (drop (length x) rest) ≡ xs
second_piece x xs rest h =
    sym (drop-take (length x) (length xs) rest)
    ∙ ap (λ (row : List ℕ). drop (length x) row) (rw length-append at h) ∙ drop_at x xs (length x) refl

-- each piece has so many bytes
abbrev AreLong : ℕ → List Frame → Type 0
AreLong size [] = Unit {0}
AreLong size (frame ∷ rest) = (length frame ≡ size) × AreLong size rest

front_of : (size : ℕ) (rest : List ℕ) (few more : List Frame) → AreLong size few → AreLong size more
    → take (length (concat few)) rest ≡ concat few → take (length (concat more)) rest ≡ concat more → length few ≤ length more
    → few ≡ take (length few) more
front_of size rest [] more a b p q h = refl
front_of size rest (x ∷ xs) [] a b p q h = absurd (omega arith)
front_of size rest (x ∷ xs) (y ∷ ys) (a, few_long) (b, more_long) p q h =
    let same : x ≡ y = sym (first_piece x (concat xs) rest p) ∙ ap (λ (n : ℕ). take n rest) (a ∙ sym b) ∙ first_piece y (concat ys) rest q in
    let others : take (length (concat ys)) (drop (length x) rest) ≡ concat ys =
    ap (λ (n : ℕ). take (length (concat ys)) (drop n rest)) (a ∙ sym b) ∙ second_piece y (concat ys) rest q in
    let tail = front_of size (drop (length x) rest) xs ys few_long more_long (second_piece x (concat xs) rest p) others (omega arith) in
    cc

valid_are_long : (header : LogFields) (sum : Sum) (frames : List Frame) → AreValidFrames header sum frames → AreLong (24 + header.page_size) frames
valid_are_long header sum [] v = tt
valid_are_long header sum (frame ∷ rest) (v, vs) = (v.whole, valid_are_long header (sum_after header sum frame) rest vs)

-- of two lists of valid frames that are there, the shorter is a front of the longer
pub valid_front : (bytes : List ℕ) (few more : List Frame) → AreThere bytes few → AreThere bytes more
    → AreValidFrames (log_fields bytes) (log_fields bytes).sum few → AreValidFrames (log_fields bytes) (log_fields bytes).sum more
    → length few ≤ length more → few ≡ take (length few) more
valid_front bytes few more here there v w h =
    front_of (24 + (log_fields bytes).page_size) (drop header_size bytes) few more
    (valid_are_long (log_fields bytes) (log_fields bytes).sum few v) (valid_are_long (log_fields bytes) (log_fields bytes).sum more w)
    here there h

take_none : (frames : List Frame) (n : ℕ) → length frames ≡ n → take n frames ≡ frames
take_none frames n h = take_all n frames (omega arith)

-- the bytes of a log have one accepted list
pub accepted_is_one : (log : ℕ) (bytes : List ℕ) (one other : List Frame) → Accepted log bytes one → Accepted log bytes other → one ≡ other
accepted_is_one log bytes [] [] a b = refl
accepted_is_one log bytes [] (y ∷ ys) a b =
    let longer = a.longest (y ∷ ys) (b.ours (λ no. cc)) b.committed in absurd (omega arith)
accepted_is_one log bytes (x ∷ xs) [] a b =
    let longer = b.longest (x ∷ xs) (a.ours (λ no. cc)) a.committed in absurd (omega arith)
accepted_is_one log bytes (x ∷ xs) (y ∷ ys) a b =
    let ours = a.ours (λ no. cc) in
    let first = a.committed in
    let second = b.committed in
    let more = b.longest (x ∷ xs) ours first in
    let less = a.longest (y ∷ ys) ours second in
    valid_front bytes (x ∷ xs) (y ∷ ys) first.there second.there first.valid second.valid more ∙ take_none (y ∷ ys) (length (x ∷ xs)) (omega arith)

-- one more valid frame
pub valid_push : (header : LogFields) (sum : Sum) (frames : List Frame) (frame : Frame) → AreValidFrames header sum frames
    → IsValidFrame header (sum_of_frames header sum frames) frame → AreValidFrames header sum (frames ++ frame ∷ [])
valid_push header sum [] frame v next = (next, tt)
valid_push header sum (first ∷ rest) frame (v, vs) next = (v, valid_push header (sum_after header sum first) rest frame vs next)

-- the frame after some of them is valid after them
pub valid_next : (header : LogFields) (sum : Sum) (frames : List Frame) (frame : Frame) (rest : List Frame)
    → AreValidFrames header sum (frames ++ frame ∷ rest) → IsValidFrame header (sum_of_frames header sum frames) frame
valid_next header sum [] frame rest (v, vs) = v
valid_next header sum (first ∷ others) frame rest (v, vs) = valid_next header (sum_after header sum first) others frame rest vs

-- some of the frames, from the front, are valid and are there
pub valid_take : (header : LogFields) (sum : Sum) (frames : List Frame) (n : ℕ) → AreValidFrames header sum frames → AreValidFrames header sum (take n frames)
valid_take header sum frames zero v = tt
valid_take header sum [] (suc n) v = tt
valid_take header sum (frame ∷ rest) (suc n) (v, vs) = (v, valid_take header (sum_after header sum frame) rest n vs)

there_append : (row : List ℕ) (frames more : List Frame) → take (length (concat (frames ++ more))) row ≡ concat (frames ++ more)
    → take (length (concat frames)) row ≡ concat frames
there_append row frames more h =
    let joined = concat-append frames more in
    first_piece (concat frames) (concat more) row (rw joined at h)

pub there_take : (bytes : List ℕ) (frames : List Frame) (n : ℕ) → AreThere bytes frames → AreThere bytes (take n frames)
there_take bytes frames n h = there_append (drop header_size bytes) (take n frames) (drop n frames) (rw (take-append-drop n frames) h)

-- the frame after some of them stands after their bytes
pub there_next : (bytes : List ℕ) (frames : List Frame) (frame : Frame) (rest : List Frame) → AreThere bytes (frames ++ frame ∷ rest)
    → take (length frame) (drop (length (concat frames)) (drop header_size bytes)) ≡ frame
there_next bytes frames frame rest h =
    let joined = concat-append frames (frame ∷ rest) in
    first_piece frame (concat rest) (drop (length (concat frames)) (drop header_size bytes))
    (second_piece (concat frames) (frame ++ concat rest) (drop header_size bytes) (rw joined at h))

some_kept : (n : ℕ) (frames : List Frame) → (take n frames ≡ [] → ⊥) → 0 < n
some_kept zero frames h = absurd (h refl)
some_kept (suc n) frames h = omega arith

-- frames that begin with others go on with one more
goes_on : (frames longer : List Frame) → frames ≡ take (length frames) longer → length frames < length longer
    → longer ≡ frames ++ (get_or longer (length frames) [] ∷ drop (suc (length frames)) longer)
goes_on frames longer same less =
    sym (take-append-drop (length frames) longer)
    ∙ ap (λ (xs : List Frame). xs ++ drop (length frames) longer) (sym same)
    ∙ ap (λ (xs : List Frame). frames ++ xs) (drop-cons longer (length frames) [] less)

-- What a scan finds is what is accepted: it stops behind valid frames where no valid frame follows, and keeps those up to the
-- last that ends a commit.
pub accepted_from_scan : (log : ℕ) (bytes : List ℕ) (frames : List Frame) (kept : ℕ) → IsOurs log bytes
    → AreThere bytes frames → AreValidFrames (log_fields bytes) (log_fields bytes).sum frames
    → ((frame : Frame) → take (length frame) (drop (length (concat frames)) (drop header_size bytes)) ≡ frame
    → IsValidFrame (log_fields bytes) (sum_of_frames (log_fields bytes) (log_fields bytes).sum frames) frame → ⊥)
    → kept ≤ length frames → (0 < kept → last_size (take kept frames) ≢ 0)
    → ((n : ℕ) → kept < n → n ≤ length frames → last_size (take n frames) ≡ 0)
    → Accepted log bytes (take kept frames)
accepted_from_scan log bytes frames kept ours there valid stops within ends others =
    let header = log_fields bytes in
    let count : length (take kept frames) ≡ kept = length-take-le kept frames within in
    record {
      ours = λ some. ours;
      committed = record {
        there = there_take bytes frames kept there;
        valid = valid_take header header.sum frames kept valid;
        committed = λ some. ends (some_kept kept frames some);
      };
      longest = λ longer own is.
          elim (cases_lt (length frames) (length longer)) [
            | inl more ↦
                let same = valid_front bytes frames longer there is.there valid is.valid (omega arith) in
                let whole = goes_on frames longer same more in
                let next = get_or longer (length frames) [] in
                let after = drop (suc (length frames)) longer in
                absurd (stops next (there_next bytes frames next after (rw whole at is.there)) (valid_next header header.sum frames next after (rw whole at is.valid)))
            | inr few ↦
                elim (cases_lt kept (length longer)) [
                  | inl past ↦
                      let same = valid_front bytes longer frames is.there there is.valid valid few in
                      let none = others (length longer) past few in
                      absurd (is.committed (λ empty. not_empty longer past empty) (ap last_size same ∙ none))
                  | inr enough ↦ omega arith
                ]
          ];
    }
  where
    not_empty : (longer : List Frame) → kept < length longer → longer ≡ [] → ⊥
    not_empty [] past empty = omega arith
    not_empty (frame ∷ rest) past empty = cc
