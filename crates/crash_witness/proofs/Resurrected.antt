-- Worked cases of what a crash may leave.
--
-- A log had a header before an opening, got a new one that was synced, and is getting the next one. A disk that keeps what a sync
-- promised can't bring back the first, though it was accepted at the opening and lies in a range that is unsure now. Were each piece
-- that was ever known allowed, an image with it would meet the premise, with its old frames behind it, and what they overwrote would
-- be lost.
use Rattle.std.proofs.Common.{refl, subst, Bool, false, [], slice_index, ◌≡◌, ℕ, ◌+◌, ◌≤◌, ◌<◌, true, List, ◌∷◌, length, inl, inr, arith, sym, ◌∙◌, ap}
use Rattle.std.specs.Prelude.{Contains}
use Rattle.std.proofs.lemmas.Bool.{cases_lt}
use Rattle.std.proofs.lemmas.List.Elements.{All-weaker, All-head}
use Rattle.disk_face.specs.declared.disk.File.{File}
use Rattle.disk_face.specs.declared.step.Piece.{Piece}
use Rattle.disk_face.specs.declared.step.Step.{Step}
use Rattle.disk_face.specs.declared.step.Step.TheVariants.{Wrote, Refused, Synced}
use Rattle.disk_face.specs.Files.{Files, content, overwritten}
use Rattle.disk_face.specs.Steps.{History, reads, further}
use Rattle.disk_face.specs.Image.{Range, range_of, unsure, IsSure, IsOutside, IsFileImage, MayLeave, same_file}
use Rattle.disk_face.proofs.Contents.{content-put, content-put-other, length-overwritten, overwritten-ahead, overwritten-behind}
use Rattle.disk_face.proofs.Images.{same_file-true}
use Rattle.log_spec.specs.LogHeader.{is_signed, header_bytes, header_size}
use Rattle.crash_spec.specs.Marks.{IsLog, marks}
use Rattle.crash_spec.specs.Opening.{Opening}
use Rattle.crash_spec.specs.Known.{known_pieces, IsWithoutChance}
use Rattle.crash_spec.proofs.Headers.{only_header}
use Rattle.crash_spec.proofs.Pieces.{contains_tail}
use Rattle.crash_spec.proofs.Switching.{new_or_old}

-- a header for the front of a log
abbrev pub front_piece : File → List ℕ → Piece
front_piece log bytes = record { file = log; at = 0; bytes = bytes }

-- After a sync of a log, while its next header is on its way, an image meets the premise only with that one or the one that was synced.
pub resurrected_is_refused : (opening : Opening) (told : History) (log : File) (next : List ℕ) (image : Files) → IsLog log → length next ≡ header_size → is_signed (content image log) ≡ true
    → (header_bytes (content image log) ≡ header_bytes (content (reads told) log) → ⊥) → (header_bytes (content image log) ≡ next → ⊥)
    → IsWithoutChance opening (further (Wrote (front_piece log next)) (further (Synced log) told)) image → ⊥
resurrected_is_refused opening told log next image is long signed not_old not_next chance =
    elim (new_or_old (known_pieces opening (further (Synced log) told)) log next (header_bytes (content (reads told) log)) (content image log) (only_header opening told log) long signed (chance log is)) [
      | inl new ↦ not_next new
      | inr old ↦ not_old old
    ]

-- all pieces that were ever known or handed to a write
abbrev pub ever_known : List Piece → List Step → List Piece
ever_known at_first [] = at_first
ever_known at_first (Wrote piece ∷ steps) = piece ∷ ever_known at_first steps
ever_known at_first (Refused piece left ∷ steps) = piece ∷ ever_known at_first steps
ever_known at_first (Synced file ∷ steps) = ever_known at_first steps

-- among them is each of the opening, also one that was written over
pub careless_allows : (at_first : List Piece) (steps : List Step) (piece : Piece) → Contains at_first piece → Contains (ever_known at_first steps) piece
careless_allows at_first [] piece c = c
careless_allows at_first (Wrote other ∷ steps) piece c = contains_tail other (ever_known at_first steps) piece (careless_allows at_first steps piece c)
careless_allows at_first (Refused other left ∷ steps) piece c = contains_tail other (ever_known at_first steps) piece (careless_allows at_first steps piece c)
careless_allows at_first (Synced file ∷ steps) piece c = careless_allows at_first steps piece c

-- An image that met the premise before the write, as the one with the bytes that stood there, goes on to.
pub true_bytes_are_not : (opening : Opening) (told : History) (piece : Piece) (image : Files) → IsWithoutChance opening told image → IsWithoutChance opening (further (Wrote piece) told) image
true_bytes_are_not opening told piece image chance log is =
    All-weaker (Contains (known_pieces opening told)) (Contains (piece ∷ known_pieces opening told)) (λ mark c. contains_tail piece (known_pieces opening told) mark c) (marks log (content image log)) (chance log is)

-- A write may be lost whole, the length that it gave its file included: then an image is shorter than a read gives.
pub write_may_be_lost : (before : List Range) (told : History) (piece : Piece) → piece.at ≤ length (content (reads told) piece.file) → MayLeave before (further (Wrote piece) told) (reads told)
write_may_be_lost before told piece inside file = by (same_file piece.file file) refl
  where
    own : IsFileImage (range_of piece ∷ unsure before told.steps) piece.file (content (reads (further (Wrote piece) told)) piece.file) (content (reads told) piece.file)
    own =
        let old : List ℕ = content (reads told) piece.file in
        let is : content (reads (further (Wrote piece) told)) piece.file ≡ overwritten piece.at piece.bytes old = content-put piece.file piece.at piece.bytes (reads told) in
        let long = length-overwritten piece.at piece.bytes old inside in
        let outside : (place : ℕ) → IsSure (range_of piece ∷ unsure before told.steps) piece.file place → piece.at ≤ place → place < piece.at + length piece.bytes → ⊥ =
        λ place sure. All-head (IsOutside piece.file place) (range_of piece) (unsure before told.steps) sure refl in
        record {
          no_longer = omega (arith, ap (λ (xs : List ℕ). length xs) is, long);
          reaches = λ place within sure.
              elim (cases_lt place (length old)) [
                | inl there ↦ there
                | inr past ↦ absurd (outside place sure (omega arith) (omega (arith, ap (λ (xs : List ℕ). length xs) is, long)))
              ];
          sure = λ place within sure.
              sym (ap (λ (xs : List ℕ). slice_index xs place) is
              ∙ (elim (cases_lt place piece.at) [
                | inl ahead ↦ overwritten-ahead piece.at piece.bytes old place inside ahead
                | inr from ↦ elim (cases_lt place (piece.at + length piece.bytes)) [
                  | inl within ↦ absurd (outside place sure from within)
                  | inr behind ↦ overwritten-behind piece.at piece.bytes old place inside behind
                ]
              ]));
        }

    by : (same : Bool) → same_file piece.file file ≡ same → IsFileImage (range_of piece ∷ unsure before told.steps) file (content (reads (further (Wrote piece) told)) file) (content (reads told) file)
    by false apart =
        let is = content-put-other piece.file file piece.at piece.bytes (reads told) apart in
        record {
          no_longer = omega (arith, ap (λ (xs : List ℕ). length xs) is);
          reaches = λ place within sure. omega (arith, ap (λ (xs : List ℕ). length xs) is);
          sure = λ place within sure. ap (λ (xs : List ℕ). slice_index xs place) (sym is);
        }
    by true here =
        let one : piece.file ≡ file = same_file-true piece.file file here in
        subst (λ (f : File). IsFileImage (range_of piece ∷ unsure before told.steps) f (content (reads (further (Wrote piece) told)) f) (content (reads told) f)) one own
