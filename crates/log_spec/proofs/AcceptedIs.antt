-- The accepted frames as a function are those that are accepted.
use Rattle.std.proofs.Common.{◌≡◌, ◌≢◌, ℕ, zero, suc, ◌+◌, ◌≤◌, ◌<◌, ◌==◌, Bool, true, false, not, if◌then◌else◌, List, [], ◌∷◌, ◌++◌, length, take, drop, refl, sym, ◌∙◌, ap, arith, length-append, Option, Some, None}
use Rattle.std.specs.Bool.{Decides}
use Rattle.std.specs.List.{concat}
use Rattle.std.proofs.lemmas.Bool.Decides.{Decides-eqb, Decides-and, Decides-not, Decides-like, not_from_Decides}
use Rattle.std.proofs.lemmas.List.{length-take, length-drop, drop-drop}
use Rattle.std.proofs.Math.Seq.{take-add}
use Rattle.page_spec.specs.Bytes.{u32_at}
use Rattle.log_spec.specs.Checksum.{Sum}
use Rattle.log_spec.specs.LogHeader.{LogFields, log_fields, same_sum, is_signed, foreign_at, IsOurs, header_size}
use Rattle.log_spec.specs.Accept.{Frame, IsValidFrame, AreValidFrames, Accepted, page_number, commit_size, sum_after, sum_of_frames, last_size}
use Rattle.log_spec.proofs.AcceptLaws.{accepted_from_scan}
use Rattle.log_spec.specs.Frames.{is_valid_frame, valid_frames, kept_before, up_to_commit, is_ours, accepted_frames}
use Rattle.std.specs.Prelude.{is_none}

-- a frame's test
same_sums : (a b : Sum) → Decides (same_sum a b) (a ≡ b)
same_sums a b =
    Decides-like (same_sum a b) (λ both i. (both.0 i, both.1 i)) (λ same. (ap (λ (w : Sum). w.0) same, ap (λ (w : Sum). w.1) same))
    (Decides-and (a.0 == b.0) (a.1 == b.1) (Decides-eqb a.0 b.0) (Decides-eqb a.1 b.1))

pub frame_decided : (header : LogFields) (sum : Sum) (frame : Frame) → Decides (is_valid_frame header sum frame) (IsValidFrame header sum frame)
unfolding is_valid_frame
frame_decided header sum frame =
    Decides-like _ (λ p. record { whole = p.0.0.0.0; numbered = p.0.0.0.1; same_salt1 = p.0.0.1; same_salt2 = p.0.1; summed = p.1 })
    (λ v. ((((v.whole, v.numbered), v.same_salt1), v.same_salt2), v.summed))
    (Decides-and _ _
    (Decides-and _ _
    (Decides-and _ _
    (Decides-and _ _ (Decides-eqb (length frame) (24 + header.page_size)) (Decides-not (page_number frame == 0) (Decides-eqb (page_number frame) 0)))
    (Decides-eqb (u32_at frame 8) header.salt1))
    (Decides-eqb (u32_at frame 12) header.salt2))
    (same_sums (u32_at frame 16, u32_at frame 20) (sum_after header sum frame)))

-- The valid frames at the front of some bytes: they are there, they are valid, and behind them stands no valid one.
pub record IsScanOf (header : LogFields) (sum : Sum) (bytes : List ℕ) (frames : List Frame) : Type 0 where
  pub there : take (length (concat frames)) bytes ≡ concat frames
  pub valid : AreValidFrames header sum frames
  pub stops : (frame : Frame) → take (length frame) (drop (length (concat frames)) bytes) ≡ frame
      → IsValidFrame header (sum_of_frames header sum frames) frame → ⊥

none_valid : (header : LogFields) (sum : Sum) (bytes : List ℕ) → (IsValidFrame header sum (take (24 + header.page_size) bytes) → ⊥) → IsScanOf header sum bytes []
none_valid header sum bytes none = record {
  there = refl;
  valid = tt;
  stops = λ frame is valid.
      let same : take (24 + header.page_size) bytes ≡ frame = ap (λ (n : ℕ). take n bytes) (sym valid.whole) ∙ is in
      none (rw same valid);
}

one_valid : (header : LogFields) (sum : Sum) (bytes : List ℕ) (frame : Frame) (rest : List Frame) → frame ≡ take (24 + header.page_size) bytes
    → IsValidFrame header sum frame → IsScanOf header (sum_after header sum frame) (drop (24 + header.page_size) bytes) rest
    → IsScanOf header sum bytes (frame ∷ rest)
one_valid header sum bytes frame rest is valid behind =
    let long = valid.whole in
    let next : List ℕ = drop (24 + header.page_size) bytes in
    let first : take (length frame) bytes ≡ frame = ap (λ (n : ℕ). take n bytes) long ∙ sym is in
    let past : drop (length frame) bytes ≡ drop (24 + header.page_size) bytes = ap (λ (n : ℕ). drop n bytes) long in
    record {
      there =
          ap (λ (n : ℕ). take n bytes) (length-append frame (concat rest))
          ∙ take-add (length frame) (length (concat rest)) bytes
          ∙ ap (λ (xs : List ℕ). xs ++ take (length (concat rest)) (drop (length frame) bytes)) first
          ∙ ap (λ (xs : List ℕ). frame ++ take (length (concat rest)) xs) past
          ∙ ap (λ (xs : List ℕ). frame ++ xs) behind.there;
      valid = (valid, behind.valid);
      stops = λ other there fits.
          let place : drop (length (concat (frame ∷ rest))) bytes ≡ drop (length (concat rest)) (drop (24 + header.page_size) bytes) =
          ap (λ (n : ℕ). drop n bytes) (length-append frame (concat rest)) ∙ sym (drop-drop (length (concat rest)) (length frame) bytes) ∙ ap (λ (xs : List ℕ). drop (length (concat rest)) xs) past in
          behind.stops other (ap (λ (xs : List ℕ). take (length other) xs) (sym place) ∙ there) fits;
    }

no_bytes_valid : (header : LogFields) (sum : Sum) (bytes : List ℕ) → length bytes ≡ 0 → IsValidFrame header sum (take (24 + header.page_size) bytes) → ⊥
no_bytes_valid header sum bytes none valid = omega (arith, valid.whole, length-take (24 + header.page_size) bytes)

scan_step : (header : LogFields) (sum : Sum) (bytes : List ℕ) (valid : Bool) (rest : List Frame) {Small : Type 0}
    → Decides valid (IsValidFrame header sum (take (24 + header.page_size) bytes))
    → (Small → IsScanOf header (sum_after header sum (take (24 + header.page_size) bytes)) (drop (24 + header.page_size) bytes) rest)
    → (length (take (24 + header.page_size) bytes) ≡ 24 + header.page_size → Small)
    → IsScanOf header sum bytes (if valid then take (24 + header.page_size) bytes ∷ rest else [])
scan_step header sum bytes true rest decides behind small =
    one_valid header sum bytes (take (24 + header.page_size) bytes) rest refl (decides.0 refl) (behind (small (decides.0 refl).whole))
scan_step header sum bytes false rest decides behind small = none_valid header sum bytes (not_from_Decides false decides refl)

pub scan_of : (most : ℕ) (header : LogFields) (sum : Sum) (bytes : List ℕ) → length bytes ≤ most → IsScanOf header sum bytes (valid_frames most header sum bytes)
unfolding valid_frames
scan_of zero header sum bytes within = none_valid header sum bytes (no_bytes_valid header sum bytes (omega arith))
scan_of (suc most) header sum bytes within =
    let frame : Frame = take (24 + header.page_size) bytes in
    let rest : List Frame = valid_frames most header (sum_after header sum frame) (drop (24 + header.page_size) bytes) in
    scan_step header sum bytes (is_valid_frame header sum frame) rest (frame_decided header sum frame)
    (scan_of most header (sum_after header sum frame) (drop (24 + header.page_size) bytes))
    (λ whole. omega (arith, length-drop (24 + header.page_size) bytes))

-- The frames up to the last that ends a commit: they are a front, they end a commit, and no longer front does.
pub record IsKept (frames kept : List Frame) : Type 0 where
  pub within : length kept ≤ length frames
  pub front : take (length kept) frames ≡ kept
  pub ends : 0 < length kept → last_size kept ≢ 0
  pub others : (n : ℕ) → length kept < n → n ≤ length frames → last_size (take n frames) ≡ 0

last_of_more : (frame : Frame) (frames : List Frame) → 0 < length frames → last_size (frame ∷ frames) ≡ last_size frames
last_of_more frame [] some = absurd (omega arith)
last_of_more frame (next ∷ rest) some = refl

-- what the test of a commit size tells
ends_tells : (n : ℕ) → (not (n == 0) ≡ true → n ≢ 0) × (not (n == 0) ≡ false → n ≡ 0)
ends_tells zero = (λ is. absurd (cc), λ is. refl)
ends_tells (suc n) = (
  λ is. λ none. omega arith,
  λ is. absurd (not_from_Decides (not (suc n == 0)) (Decides-not (suc n == 0) (Decides-eqb (suc n) 0)) is (λ none. omega arith)),
)

kept_step : (frame : Frame) (rest kept : List Frame) (ends : Bool) → (ends ≡ true → commit_size frame ≢ 0) × (ends ≡ false → commit_size frame ≡ 0)
    → IsKept rest kept → IsKept (frame ∷ rest) (kept_before ends frame kept)
kept_step frame rest [] true tells k = record {
  within = omega arith;
  front = refl;
  ends = λ some. tells.0 refl;
  others = λ n more less. later n more less;
}
  where
    later : (n : ℕ) → 1 < n → n ≤ length (frame ∷ rest) → last_size (take n (frame ∷ rest)) ≡ 0
    later zero more less = absurd (omega arith)
    later (suc n) more less =
        last_of_more frame (take n rest) (omega (arith, length-take n rest)) ∙ k.others n (omega arith) (omega arith)
kept_step frame rest [] false tells k = record {
  within = omega arith;
  front = refl;
  ends = λ some. absurd (omega arith);
  others = λ n more less. later n more less;
}
  where
    later : (n : ℕ) → 0 < n → n ≤ length (frame ∷ rest) → last_size (take n (frame ∷ rest)) ≡ 0
    later zero more less = absurd (omega arith)
    later (suc zero) more less = tells.1 refl
    later (suc (suc n)) more less =
        last_of_more frame (take (suc n) rest) (omega (arith, length-take (suc n) rest)) ∙ k.others (suc n) (omega arith) (omega arith)
kept_step frame rest (next ∷ kept) ends tells k = kept_more ends
  where
    later : (n : ℕ) → suc (length (next ∷ kept)) < n → n ≤ length (frame ∷ rest) → last_size (take n (frame ∷ rest)) ≡ 0
    later zero more less = absurd (omega arith)
    later (suc n) more less =
        last_of_more frame (take n rest) (omega (arith, length-take n rest)) ∙ k.others n (omega arith) (omega arith)

    all : IsKept (frame ∷ rest) (frame ∷ next ∷ kept)
    all = record {
      within = omega (arith, k.within);
      front = ap (λ (xs : List Frame). frame ∷ xs) k.front;
      ends = λ some. k.ends (omega arith);
      others = λ n more less. later n more less;
    }

    kept_more : (ends : Bool) → IsKept (frame ∷ rest) (kept_before ends frame (next ∷ kept))
    kept_more true = all
    kept_more false = all

pub kept_of : (frames : List Frame) → IsKept frames (up_to_commit frames)
kept_of [] = record {
  within = omega arith;
  front = refl;
  ends = λ some. absurd (omega arith);
  others = λ n more less. absurd (omega arith);
}
kept_of (frame ∷ rest) = kept_step frame rest (up_to_commit rest) (not (commit_size frame == 0)) (ends_tells (commit_size frame)) (kept_of rest)

-- a header's test
none_tells : (at : Option ℕ) → Decides (is_none at) (at ≡ None)
none_tells None = (λ is. refl, λ is. refl)
none_tells (Some at) = (λ is. cc, λ is. cc)

pub ours_decided : (log : ℕ) (bytes : List ℕ) → Decides (is_ours log bytes) (IsOurs log bytes)
ours_decided log bytes =
    Decides-like (is_ours log bytes) (λ both. record { signed = both.0; own = both.1 }) (λ ours. (ours.signed, ours.own))
    (Decides-and (is_signed bytes) (is_none (foreign_at log (log_fields bytes))) (λ is. is, λ is. is) (none_tells (foreign_at log (log_fields bytes))))

pub accepted_is : (log : ℕ) (bytes : List ℕ) → Accepted log bytes (accepted_frames log bytes)
unfolding accepted_frames
accepted_is log bytes = by (is_ours log bytes) (ours_decided log bytes)
  where
    header : LogFields
    header = log_fields bytes

    frames : List Frame
    frames = valid_frames (length bytes) header header.sum (drop header_size bytes)

    by : (ours : Bool) → Decides ours (IsOurs log bytes) → Accepted log bytes (if ours then up_to_commit (valid_frames (length bytes) (log_fields bytes) (log_fields bytes).sum (drop header_size bytes)) else [])
    by true decides =
        let scan = scan_of (length bytes) (log_fields bytes) (log_fields bytes).sum (drop header_size bytes) (omega (arith, length-drop header_size bytes)) in
        let found : List Frame = valid_frames (length bytes) (log_fields bytes) (log_fields bytes).sum (drop header_size bytes) in
        let kept = kept_of found in
        rw (sym kept.front) (accepted_from_scan log bytes found (length (up_to_commit found)) (decides.0 refl) scan.there scan.valid
        (λ frame there valid. scan.stops frame there valid)
        kept.within (λ some. rw kept.front (kept.ends some)) kept.others)
    by false decides = record {
      ours = λ some. absurd (some refl);
      committed = record { there = refl; valid = tt; committed = λ some. absurd (some refl) };
      longest = λ longer own is. absurd (not_from_Decides false decides refl own);
    }
