-- A step that writes nothing to a file leaves what it holds, and what of it is on the medium.
use Rattle.std.proofs.Common.{◌≡◌, ℕ, false, not, List, ◌∷◌, length, take, refl, ap, arith}
use Rattle.std.proofs.lemmas.List.Elements.{All-cons, All-filter}
use Rattle.std.proofs.lemmas.Bool.{true≢false}
use Rattle.disk_face.specs.declared.disk.File.{File}
use Rattle.disk_face.specs.declared.disk.File.TheVariants.{Main, Log1, Log2}
use Rattle.disk_face.specs.declared.step.Piece.{Piece}
use Rattle.disk_face.specs.declared.step.Step.{Step}
use Rattle.disk_face.specs.declared.step.Step.TheVariants.{Wrote, Refused, Synced}
use Rattle.disk_face.specs.Files.{Files, content}
use Rattle.disk_face.proofs.Images.{synced_is_sure, file_is_sure}
use Rattle.disk_face.specs.Steps.{History, reads, further}
use Rattle.disk_face.specs.Image.{Range, unsure, range_of, IsSure, IsOutside, MayLeave, same_file}
use Rattle.disk_face.proofs.Contents.{content-put-other}
use Rattle.crash_spec.specs.Opening.{Opening}
use Rattle.log_spec.specs.LogHeader.{LogFields}
use Rattle.log_spec.specs.Accept.{Frame}
use Rattle.crash_spec.specs.Elsewhere.{IsElsewhere}
use Rattle.crash_spec.specs.Known.{known_pieces, outlasts}
use Rattle.log_spec.specs.Frames.{end_of}
use Rattle.crash_spec.specs.Logs.{IsWhole, IsOnDisk, IsOneOf, IsFresh, HasHeader, IsOnlyHeader, IsBehind, AreBehind, IsOursAt}
use Rattle.std.specs.Prelude.{All}
use Rattle.crash_spec.proofs.LogSteps.{goes_on}

pub not_same : (one other : File) → same_file one other ≡ false → one ≡ other → ⊥
not_same Main Main apart is = absurd (true≢false apart)
not_same Log1 Log1 apart is = absurd (true≢false apart)
not_same Log2 Log2 apart is = absurd (true≢false apart)
not_same Main Log1 apart is = cc
not_same Main Log2 apart is = cc
not_same Log1 Main apart is = cc
not_same Log1 Log2 apart is = cc
not_same Log2 Main apart is = cc
not_same Log2 Log1 apart is = cc

pub content_elsewhere : (file : File) (step : Step) (told : History) → IsElsewhere file step → content (reads (further step told)) file ≡ content (reads told) file
content_elsewhere file (Wrote piece) told apart = content-put-other piece.file file piece.at piece.bytes (reads told) apart
content_elsewhere file (Refused piece left) told apart = content-put-other piece.file file piece.at left (reads told) apart
content_elsewhere file (Synced other) told apart = refl

pub sure_elsewhere : (before : List Range) (file : File) (step : Step) (told : History) (place : ℕ) → IsElsewhere file step → IsSure (unsure before told.steps) file place
    → IsSure (unsure before (step ∷ told.steps)) file place
sure_elsewhere before file (Wrote piece) told place apart sure =
    All-cons (IsOutside file place) (range_of piece) (unsure before told.steps)
    (λ is from below. not_same piece.file file apart is) sure
sure_elsewhere before file (Refused piece left) told place apart sure =
    All-cons (IsOutside file place) (range_of piece) (unsure before told.steps)
    (λ is from below. not_same piece.file file apart is) sure
sure_elsewhere before file (Synced other) told place apart sure =
    All-filter (λ range. not (same_file range.file other)) (IsOutside file place) (unsure before told.steps) sure

-- what holds of the known pieces of a log, and of all pieces elsewhere, goes on to hold
pub known_elsewhere : (P : Piece → Type 0) (opening : Opening) (log : File) (step : Step) (told : History) → IsElsewhere log step → ((piece : Piece) → (piece.file ≡ log → ⊥) → P piece)
    → All P (known_pieces opening told) → All P (known_pieces opening (further step told))
known_elsewhere P opening log (Wrote piece) told apart others all = All-cons P piece (known_pieces opening told) (others piece (not_same piece.file log apart)) all
known_elsewhere P opening log (Refused piece left) told apart others all = All-cons P piece (known_pieces opening told) (others piece (not_same piece.file log apart)) all
known_elsewhere P opening log (Synced other) told apart others all = All-filter (outlasts other (reads told)) P (known_pieces opening told) all

pub fresh_elsewhere : (opening : Opening) (log : File) (header : LogFields) (end : ℕ) (pending : List Frame) (step : Step) (told : History) → IsElsewhere log step
    → IsFresh (known_pieces opening told) log header end pending → IsFresh (known_pieces opening (further step told)) log header end pending
fresh_elsewhere opening log header end pending step told apart fresh =
    known_elsewhere (IsOneOf log header end pending) opening log step told apart (λ piece other is. absurd (other is)) fresh

pub only_elsewhere : (opening : Opening) (log : File) (header : List ℕ) (step : Step) (told : History) → IsElsewhere log step
    → IsOnlyHeader (known_pieces opening told) log header → IsOnlyHeader (known_pieces opening (further step told)) log header
only_elsewhere opening log header step told apart only =
    known_elsewhere (HasHeader log header) opening log step told apart (λ piece other is. absurd (other is)) only

pub behind_elsewhere : (opening : Opening) (log : File) (salt most : ℕ) (step : Step) (told : History) → IsElsewhere log step
    → AreBehind (known_pieces opening told) log salt most → AreBehind (known_pieces opening (further step told)) log salt most
behind_elsewhere opening log salt most step told apart behind =
    known_elsewhere (IsBehind log salt most) opening log step told apart (λ piece other is. absurd (other is)) behind

pub ours_elsewhere : (opening : Opening) (log : File) (step : Step) (told : History) → IsElsewhere log step
    → All (IsOursAt log) (known_pieces opening told) → All (IsOursAt log) (known_pieces opening (further step told))
ours_elsewhere opening log step told apart ours =
    known_elsewhere (IsOursAt log) opening log step told apart (λ piece other is. absurd (other is)) ours

-- a log on a disk stays so
pub on_elsewhere : (opening : Opening) (told : History) (log : File) (header : LogFields) (frames pending : List Frame) (step : Step)
    → IsOnDisk opening told log header frames pending → IsElsewhere log step → IsOnDisk opening (further step told) log header frames pending
on_elsewhere opening told log header frames pending step on apart =
    let same = content_elsewhere log step told apart in
    goes_on opening told (further step told) log header frames pending pending on
    (ap (λ (bytes : List ℕ). take (end_of frames) bytes) same)
    (omega (arith, ap (λ (bytes : List ℕ). length bytes) same))
    (λ place near. sure_elsewhere opening.before log step told place apart (on.sure place near))
    on.valid on.one_commit
    (fresh_elsewhere opening log header (end_of frames) pending step told apart on.fresh)

-- and a file that is on the medium stays so
pub whole_elsewhere : (opening : Opening) (file : File) (step : Step) (told : History) → IsElsewhere file step → IsWhole opening told file → IsWhole opening (further step told) file
whole_elsewhere opening file step told apart whole place inside =
    let same = content_elsewhere file step told apart in
    sure_elsewhere opening.before file step told place apart (whole place (omega (arith, ap (λ (bytes : List ℕ). length bytes) same)))

-- after a sync of it all of a file is on the medium
pub whole_synced : (opening : Opening) (file : File) (told : History) → IsWhole opening (further (Synced file) told) file
whole_synced opening file told place inside = synced_is_sure file (unsure opening.before told.steps) place

-- what a crash leaves of such a file is what reads give
pub whole_file : (opening : Opening) (told : History) (file : File) (image : Files) → IsWhole opening told file → MayLeave opening.before told image
    → content image file ≡ content (reads told) file
whole_file opening told file image whole left = file_is_sure (unsure opening.before told.steps) file (reads told) image whole left
