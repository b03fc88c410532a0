-- Where each known header is ours and has the store's page size, no image has a foreign log or one of another page size; and so it stays at
-- each moment where the steps write such headers alone.
use Rattle.std.proofs.Common.{◌≡◌, ℕ, zero, suc, ◌≤◌, Bool, true, false, List, [], ◌∷◌, ◌++◌, length, refl, sym, ◌∙◌, ap, subst, arith}
use Rattle.std.specs.Prelude.{All, Contains}
use Rattle.std.proofs.lemmas.Bool.{true≢false}
use Rattle.std.proofs.lemmas.List.Elements.{All-cons, All-head, All-tail, All-contains, All-contains_itself, All-filter, All-weaker}
use Rattle.disk_face.specs.declared.disk.File.{File}
use Rattle.disk_face.specs.declared.disk.File.TheVariants.{Main, Log1, Log2}
use Rattle.disk_face.specs.declared.step.Piece.{Piece}
use Rattle.disk_face.specs.declared.step.Step.{Step}
use Rattle.disk_face.specs.declared.step.Step.TheVariants.{Wrote, Refused, Synced}
use Rattle.disk_face.specs.Files.{Files, content}
use Rattle.disk_face.specs.Steps.{History, now}
use Rattle.disk_face.specs.Image.{back, same_file}
use Rattle.log_spec.specs.LogHeader.{LogFields, log_fields, header_bytes, is_signed}
use Rattle.log_spec.proofs.HeaderLaws.{fields_front, fields-take, signed-take, signed_long, unsigned_has_none}
use Rattle.log_spec.specs.Frames.{accepted_frames}
use Rattle.crash_spec.specs.Marks.{IsLog, number_of, header_piece}
use Rattle.crash_spec.specs.Opening.{Opening, grown}
use Rattle.crash_spec.specs.Known.{known_after, known_pieces, outlasts, IsWithoutChance}
use Rattle.crash_spec.specs.Elsewhere.{IsElsewhere}
use Rattle.crash_spec.specs.Logs.{HasHeader, IsOnlyHeader, IsOursAt, NoneForeign, HaveSize, HaveOwnLogs, IsSizedAt, IsOwnAt, Hands}
use Rattle.crash_spec.specs.Recovered.{recovered, size_of_first}
use Rattle.crash_spec.proofs.Headers.{none_foreign}
use Rattle.crash_spec.proofs.MarkLaws.{marked_header}
use Rattle.disk_face.proofs.Images.{same_file-refl}

-- what holds of the known pieces and of all that the steps hand to writes, holds of what is known after them
known_more : (P : Piece → Type 0) (at_first : List Piece) (first : Files) (steps more : List Step) → All P (known_after at_first first steps) → All (Hands P) more
    → All P (known_after at_first first (more ++ steps))
known_more P at_first first steps [] known all = known
known_more P at_first first steps (Wrote piece ∷ more) known all =
    All-cons P piece _ (All-head (Hands P) (Wrote piece) more all) (known_more P at_first first steps more known (All-tail (Hands P) (Wrote piece) more all))
known_more P at_first first steps (Refused piece left ∷ more) known all =
    All-cons P piece _ (All-head (Hands P) (Refused piece left) more all) (known_more P at_first first steps more known (All-tail (Hands P) (Refused piece left) more all))
known_more P at_first first steps (Synced file ∷ more) known all =
    All-filter (outlasts file (now first (more ++ steps))) P (known_after at_first first (more ++ steps))
    (known_more P at_first first steps more known (All-tail (Hands P) (Synced file) more all))

-- and at each moment between
pub known_at : (P : Piece → Type 0) (opening : Opening) (told : History) (more : List Step) (ago : ℕ) → ago ≤ length more → All P (known_pieces opening told) → All (Hands P) more
    → All P (known_pieces opening (back ago (grown more told)))
known_at P opening told more zero fits known all = known_more P opening.pieces told.first told.steps more known all
known_at P opening told [] (suc ago) fits known all = absurd (omega arith)
known_at P opening told (step ∷ more) (suc ago) fits known all = known_at P opening told more ago (omega arith) known (All-tail (Hands P) step more all)

module _ (opening : Opening) (told : History) (size : ℕ) (image : Files) (chance : IsWithoutChance opening told image) where
  -- a signed header in an image is a known one
  front_sized : (log : File) → IsLog log → All (IsSizedAt log size) (known_pieces opening told) → is_signed (content image log) ≡ true → (log_fields (content image log)).page_size ≡ size
  front_sized log is sized signed =
      let bytes : List ℕ = content image log in
      let c = marked_header (Contains (known_pieces opening told)) log bytes signed (chance log is) in
      let here = signed-take bytes (signed_long bytes signed) ∙ signed in
      sym (ap (λ (f : LogFields). f.page_size) (fields-take bytes)) ∙ All-contains (IsSizedAt log size) (known_pieces opening told) (header_piece log bytes) sized c refl refl here

  -- and a log without one has no accepted frame
  has_size : (log : File) → IsLog log → All (IsSizedAt log size) (known_pieces opening told) → (accepted_frames (number_of log) (content image log) ≡ [] → ⊥)
      → (log_fields (content image log)).page_size ≡ size
  has_size log is sized some = by (is_signed (content image log)) refl
    where
      by : (signed : Bool) → is_signed (content image log) ≡ signed → (log_fields (content image log)).page_size ≡ size
      by true signed = front_sized log is sized signed
      by false none = absurd (some (unsigned_has_none (number_of log) (content image log) none))

  pub sizes_known : All (IsSizedAt Log1 size) (known_pieces opening told) → All (IsSizedAt Log2 size) (known_pieces opening told) → HaveSize size image
  sizes_known one two Main is some = absurd is
  sizes_known one two Log1 is some = has_size Log1 is one some
  sizes_known one two Log2 is some = has_size Log2 is two some

  pub fronts_known : All (IsOursAt Log1) (known_pieces opening told) → All (IsOursAt Log2) (known_pieces opening told) → NoneForeign image
  fronts_known one two = none_foreign opening told image one two chance

-- where the header that stands at a log's front is the only one known there, each has its page size
pub only_sized : (known : List Piece) (log : File) (bytes : List ℕ) (size : ℕ) → IsOnlyHeader known log (header_bytes bytes) → (log_fields bytes).page_size ≡ size → All (IsSizedAt log size) known
only_sized known log bytes size only is =
    All-weaker (HasHeader log (header_bytes bytes)) (IsSizedAt log size)
    (λ piece has file at signed. ap (λ (f : LogFields). f.page_size) (fields_front piece.bytes bytes (has file at signed)) ∙ is) known only

-- each is both ours and of this size
pub own_known : (known : List Piece) (size : ℕ) → ((log : File) → IsLog log → All (IsOursAt log) known) → ((log : File) → IsLog log → All (IsSizedAt log size) known)
    → All (IsOwnAt size) known
own_known known size ours sized =
    All-weaker (Contains known) (IsOwnAt size)
    (λ piece c log is. (All-contains (IsOursAt log) known piece (ours log is) c, All-contains (IsSizedAt log size) known piece (sized log is) c)) known (All-contains_itself known)

-- then no log of an image whose map names that size bars an opening
pub own_logs : (opening : Opening) (told : History) (size : ℕ) (image : Files) → All (IsOwnAt size) (known_pieces opening told) → IsWithoutChance opening told image
    → (1 ≤ length (recovered image) → size_of_first (recovered image) ≡ size) → HaveOwnLogs image
own_logs opening told size image own chance named = (
  fronts_known opening told size image chance (ours Log1 tt) (ours Log2 tt),
  λ some. subst (λ (n : ℕ). HaveSize n image) (sym (named some)) (sizes_known opening told size image chance (sized Log1 tt) (sized Log2 tt)),
)
  where
    ours : (log : File) → IsLog log → All (IsOursAt log) (known_pieces opening told)
    ours log is = All-weaker (IsOwnAt size) (IsOursAt log) (λ piece both. (both log is).0) (known_pieces opening told) own

    sized : (log : File) → IsLog log → All (IsSizedAt log size) (known_pieces opening told)
    sized log is = All-weaker (IsOwnAt size) (IsSizedAt log size) (λ piece both. (both log is).1) (known_pieces opening told) own

-- a piece of neither log
not_there : (size : ℕ) (piece : Piece) → same_file piece.file Log1 ≡ false → same_file piece.file Log2 ≡ false → IsOwnAt size piece
not_there size piece one two log is = (λ file at signed. absurd (apart log is file), λ file at signed. absurd (apart log is file))
  where
    apart : (log : File) → IsLog log → piece.file ≡ log → ⊥
    apart Main is file = is
    apart Log1 is file = true≢false (sym (same_file-refl Log1) ∙ sym (ap (λ (f : File). same_file f Log1) file) ∙ one)
    apart Log2 is file = true≢false (sym (same_file-refl Log2) ∙ sym (ap (λ (f : File). same_file f Log2) file) ∙ two)

-- a step that writes to neither log hands only such pieces to a write
pub own_elsewhere : (size : ℕ) (step : Step) → IsElsewhere Log1 step → IsElsewhere Log2 step → Hands (IsOwnAt size) step
own_elsewhere size (Wrote piece) one two = not_there size piece one two
own_elsewhere size (Refused piece left) one two = not_there size piece one two
own_elsewhere size (Synced file) one two = tt
