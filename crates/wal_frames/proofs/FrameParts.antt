-- A frame, from its bytes and the checksum over them.
use Rattle.std.proofs.Common.{◌≡◌, ℕ, ◌+◌, ◌-◌, ◌%◌, ◌==◌, Bool, true, false, List, length, take, drop, refl, ◌∙◌, arith, if◌then◌else◌, length-drop}
use Rattle.std.proofs.lemmas.List.{take_all}
use Rattle.std.proofs.lemmas.Bool.Decides.{nat_tests}
use Rattle.page_spec.specs.Header.{is_page_size}
use Rattle.log_spec.specs.Checksum.{Sum as Words, checksum}
use Rattle.log_spec.specs.LogHeader.{is_big, big_magic, little_magic}
use Rattle.log_spec.specs.Accept.{Frame, IsValidFrame, sum_after}
use Rattle.wal_frames.specs.Front.{fields_for}
use Rattle.wal_frames.specs.Scan.{FitsHead}
use Rattle.wal_frames.specs.declared.header.LogHeader.{LogHeader}

pub page_size_whole : (size : ℕ) → is_page_size size ≡ true → size % 8 ≡ 0
unfolding is_page_size
page_size_whole size h = grind (arith, nat_tests)

pub big_told : (header : LogHeader) → is_big (fields_for header) ≡ header.big
big_told header = by (header.big)
  where
    by : (big : Bool) → ((if big then big_magic else little_magic) == big_magic) ≡ big
    by true = refl
    by false = refl

-- the rest of some bytes, as a slice from a place to their end
pub rest_is : (n : ℕ) (bytes : List ℕ) → take (length bytes - n) (drop n bytes) ≡ drop n bytes
rest_is n bytes = take_all (length bytes - n) (drop n bytes) (omega (arith, length-drop n bytes))

abbrev pub frame_at : List ℕ → ℕ → LogHeader → Frame
frame_at content at header = take (24 + header.page_size) (drop at content)

-- the bytes of a frame, and the checksum over it, taken in two steps
pub record SummedFrame (frame : Frame) (header : LogHeader) (sum middle after : Words) : Type 0 where
  pub long : length frame ≡ 24 + header.page_size
  pub head_summed : middle ≡ checksum header.big sum (take 8 frame)
  pub page_summed : after ≡ checksum header.big middle (drop 24 frame)

pub summed_of : (frame : Frame) (header : LogHeader) (sum middle after : Words) → SummedFrame frame header sum middle after
    → after ≡ sum_after (fields_for header) sum frame
summed_of frame header sum middle after s = rw (big_told header) (s.page_summed ∙ rw s.head_summed refl)

pub valid_from_head : (frame : Frame) (header : LogHeader) (sum middle after : Words) → SummedFrame frame header sum middle after
    → FitsHead frame header after → IsValidFrame (fields_for header) sum frame
valid_from_head frame header sum middle after s fits = record {
  whole = s.long;
  numbered = fits.numbered;
  same_salt1 = fits.same_salt1;
  same_salt2 = fits.same_salt2;
  summed = pair fits.first_word fits.second_word ∙ summed_of frame header sum middle after s;
}
  where
    pair : {a b : ℕ} → a ≡ after.0 → b ≡ after.1 → (a, b) ≡ after
    pair p q = rw (p, q) refl
