-- What a log without a foreign header begins with, and which faults of the files it has not.
use Rattle.std.proofs.Common.{◌≡◌, ◌⊎◌, inl, inr, ℕ, ◌&&◌, Bool, true, false, if◌then◌else◌, List, [], ◌∷◌, Option, Some, None, refl, ◌∙◌, ap}
use Rattle.std.specs.Prelude.{is_none}
use Rattle.std.proofs.lemmas.Bool.Decides.{Decides-eqb}
use Rattle.disk_face.specs.declared.disk.File.{File}
use Rattle.log_spec.specs.Accept.{Frame}
use Rattle.log_spec.specs.Frames.{is_ours}
use Rattle.log_spec.specs.LogHeader.{log_fields, is_signed, foreign_at, IsOurs}
use Rattle.wal_frames.specs.Front.{front_of, signed_front, header_in}
use Rattle.wal_frames.specs.declared.header.Front.{Front}
use Rattle.wal_frames.specs.declared.header.Front.TheVariants.{Nothing, Ours}
use Rattle.recover.specs.Seeing.{of_legacy, foreign_fault, size_fault, is_front_ours}

-- nothing, or a header of ours
abbrev pub IsFamiliar : List ℕ → Front → Type 0
IsFamiliar bytes front = (front ≡ Nothing) ⊎ (front ≡ Ours (header_in bytes))

pub front_familiar : (log : ℕ) (bytes : List ℕ) → (is_signed bytes ≡ true → IsOurs log bytes) → IsFamiliar bytes (front_of log bytes)
unfolding front_of
front_familiar log bytes own = by (is_signed bytes) (λ is. own is)
  where
    by : (signed : Bool) → (signed ≡ true → IsOurs log bytes) → IsFamiliar bytes (if signed then signed_front bytes (foreign_at log (log_fields bytes)) else Nothing)
    by true own = inr (ap (λ (at : Option ℕ). signed_front bytes at) (own refl).own)
    by false own = inl refl

-- such a front is no fault
pub not_legacy : (bytes : List ℕ) (front : Front) → IsFamiliar bytes front → of_legacy front ≡ None
not_legacy bytes front (inl is) = ap of_legacy is
not_legacy bytes front (inr is) = ap of_legacy is

pub not_foreign : (bytes : List ℕ) (front : Front) (log : File) → IsFamiliar bytes front → foreign_fault front log ≡ None
not_foreign bytes front log (inl is) = ap (λ (f : Front). foreign_fault f log) is
not_foreign bytes front log (inr is) = ap (λ (f : Front). foreign_fault f log) is

pub size_fits : (bytes : List ℕ) (front : Front) (frames : List Frame) (size : ℕ) (log : File) → IsFamiliar bytes front → ((frames ≡ [] → ⊥) → (header_in bytes).page_size ≡ size)
    → size_fault front frames size log ≡ None
size_fits bytes front [] size log familiar fits = refl
size_fits bytes front (frame ∷ rest) size log (inl is) fits = ap (λ (f : Front). size_fault f (frame ∷ rest) size log) is
size_fits bytes front (frame ∷ rest) size log (inr is) fits =
    let same = (Decides-eqb (header_in bytes).page_size size).1 (fits (λ none. cc)) in
    ap (λ (f : Front). size_fault f (frame ∷ rest) size log) is ∙ rw same refl

-- a log without a header of ours begins with none
pub not_ours : (log : ℕ) (bytes : List ℕ) → is_ours log bytes ≡ false → is_front_ours (front_of log bytes) ≡ false
unfolding front_of
not_ours log bytes is = by (is_signed bytes) (foreign_at log (log_fields bytes)) is
  where
    by : (signed : Bool) (at : Option ℕ) → (signed && is_none at) ≡ false → is_front_ours (if signed then signed_front bytes at else Nothing) ≡ false
    by true None is = cc
    by true (Some at) is = refl
    by false at is = refl

-- either way nothing
pub none_either : {X : Type 0} (b : Bool) (o : Option X) → o ≡ None → (if b then o else None) ≡ None
none_either true o is = is
none_either false o is = refl

pub none_unless : {X : Type 0} (b : Bool) (o : Option X) → o ≡ None → (if b then None else o) ≡ None
none_unless true o is = refl
none_unless false o is = is

-- a front tells the page size that the log's header has
pub size_read : (bytes : List ℕ) (size : ℕ) → (log_fields bytes).page_size ≡ size → (header_in bytes).page_size ≡ size
unfolding header_in
size_read bytes size is = is
