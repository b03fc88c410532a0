-- What two rows of bytes with the same front have in common as logs.
use Rattle.std.proofs.Common.{◌≡◌, ℕ, ◌+◌, ◌≤◌, ◌&&◌, Bool, true, false, List, [], length, take, drop, refl, sym, ◌∙◌, ap, arith, get_or-take}
use Rattle.std.specs.List.{concat}
use Rattle.std.proofs.lemmas.List.{length-take-le, take-take, drop-take}
use Rattle.std.proofs.lemmas.Bool.Decides.{nat_tests}
use Rattle.std.specs.Prelude.{nat_le}
use Rattle.page_spec.specs.Bytes.{u32_at}
use Rattle.log_spec.specs.LogHeader.{log_fields, is_signed, IsOurs, header_size}
use Rattle.log_spec.specs.Accept.{Frame, AreThere, AreCommitted}
use Rattle.log_spec.specs.Frames.{end_of, accepted_frames}

pub u32_at-take : (n : ℕ) (bytes : List ℕ) (at : ℕ) → at + 4 ≤ n → u32_at (take n bytes) at ≡ u32_at bytes at
unfolding u32_at
u32_at-take n bytes at within =
    rw (
      get_or-take n bytes at 0 (omega arith),
      get_or-take n bytes (at + 1) 0 (omega arith),
      get_or-take n bytes (at + 2) 0 (omega arith),
      get_or-take n bytes (at + 3) 0 (omega arith),
    ) refl

pub fields-take : (bytes : List ℕ) → log_fields (take header_size bytes) ≡ log_fields bytes
unfolding log_fields
fields-take bytes =
    rw (
      u32_at-take header_size bytes 0 (omega arith),
      u32_at-take header_size bytes 4 (omega arith),
      u32_at-take header_size bytes 8 (omega arith),
      u32_at-take header_size bytes 12 (omega arith),
      u32_at-take header_size bytes 16 (omega arith),
      u32_at-take header_size bytes 20 (omega arith),
      u32_at-take header_size bytes 24 (omega arith),
      u32_at-take header_size bytes 28 (omega arith),
    ) refl

le_true : (m n : ℕ) → m ≤ n → nat_le m n ≡ true
le_true m n h = grind (arith, nat_tests)

pub signed-take : (bytes : List ℕ) → header_size ≤ length bytes → is_signed (take header_size bytes) ≡ is_signed bytes
unfolding is_signed
signed-take bytes long =
    rw (fields-take bytes, take-take 24 header_size bytes (omega arith), le_true header_size (length (take header_size bytes)) (omega (arith, length-take-le header_size bytes long)), le_true header_size (length bytes) long) refl

pub fields_front : (a b : List ℕ) → take header_size a ≡ take header_size b → log_fields a ≡ log_fields b
fields_front a b same = sym (fields-take a) ∙ ap log_fields same ∙ fields-take b

pub signed_front : (a b : List ℕ) → header_size ≤ length a → header_size ≤ length b → take header_size a ≡ take header_size b → is_signed a ≡ is_signed b
signed_front a b here there same = sym (signed-take a here) ∙ ap is_signed same ∙ signed-take b there

pub ours_front : (log : ℕ) (a b : List ℕ) → header_size ≤ length a → header_size ≤ length b → take header_size a ≡ take header_size b → IsOurs log a → IsOurs log b
ours_front log a b here there same ours = record {
  signed = sym (signed_front a b here there same) ∙ ours.signed;
  own = rw (sym (fields_front a b same)) ours.own;
}

pub there_front : (a b : List ℕ) (frames : List Frame) → take (end_of frames) a ≡ take (end_of frames) b → AreThere a frames → AreThere b frames
there_front a b frames same there =
    sym (drop-take header_size (length (concat frames)) b) ∙ ap (λ (row : List ℕ). drop header_size row) (sym same)
    ∙ drop-take header_size (length (concat frames)) a ∙ there

pub committed_front : (a b : List ℕ) (frames : List Frame) → take (end_of frames) a ≡ take (end_of frames) b → AreCommitted a frames → AreCommitted b frames
committed_front a b frames same is =
    let fields = fields_front a b (sym (take-take header_size (end_of frames) a (omega arith)) ∙ ap (λ (row : List ℕ). take header_size row) same ∙ take-take header_size (end_of frames) b (omega arith)) in
    record {
      there = there_front a b frames same is.there;
      valid = rw (sym fields) is.valid;
      committed = is.committed;
    }

le_of : (m n : ℕ) → nat_le m n ≡ true → m ≤ n
le_of m n is = grind (arith, nat_tests)

-- bytes that are signed have a whole header
pub signed_long : (bytes : List ℕ) → is_signed bytes ≡ true → header_size ≤ length bytes
unfolding is_signed
signed_long bytes is = le_of header_size (length bytes) (and_first _ _ (and_first _ _ is))
  where
    and_first : (a b : Bool) → (a && b) ≡ true → a ≡ true
    and_first true b is = refl
    and_first false b is = is

-- a log whose front isn't signed has no frames
pub unsigned_has_none : (log : ℕ) (bytes : List ℕ) → is_signed bytes ≡ false → accepted_frames log bytes ≡ []
unfolding accepted_frames
unsigned_has_none log bytes not_signed = rw not_signed refl
