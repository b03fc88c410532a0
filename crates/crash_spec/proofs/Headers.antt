-- Once a log was synced, one header alone is known at its front; and a signed header in an image is a known one.
use Rattle.std.proofs.Common.{◌≡◌, ℕ, Bool, true, false, not, List, ◌++◌, length, take, drop, refl, sym, ◌∙◌, ap, arith}
use Rattle.std.specs.Prelude.{All, Contains, ◌||◌, nat_eq}
use Rattle.std.proofs.lemmas.Bool.{true≢false}
use Rattle.std.proofs.lemmas.Bool.Decides.{Decides-eqb}
use Rattle.std.proofs.lemmas.List.{take-append-le, take-take, length-take-le}
use Rattle.std.proofs.lemmas.List.Elements.{All-weaker, All-contains, All-filter, All-contains_itself, filter_passes}
use Rattle.std.proofs.lemmas.Slice.Eq.{starts_is}
use Rattle.disk_face.specs.declared.disk.File.{File}
use Rattle.disk_face.specs.declared.disk.File.TheVariants.{Main, Log1, Log2}
use Rattle.disk_face.specs.declared.step.Piece.{Piece}
use Rattle.disk_face.specs.declared.step.Step.TheVariants.{Synced}
use Rattle.disk_face.specs.Files.{Files, content}
use Rattle.disk_face.specs.Steps.{History, reads, further}
use Rattle.disk_face.specs.Image.{same_file, MayLeave}
use Rattle.disk_face.proofs.Images.{same_file-refl, synced_leaves_fewer}
use Rattle.log_spec.specs.LogHeader.{is_signed, IsOurs, header_size, header_bytes}
use Rattle.log_spec.proofs.HeaderLaws.{signed_long, signed-take, ours_front}
use Rattle.crash_spec.specs.Marks.{IsLog, number_of, header_piece, marks}
use Rattle.crash_spec.specs.Opening.{Opening}
use Rattle.crash_spec.specs.Known.{known_pieces, stands, outlasts, IsWithoutChance}
use Rattle.crash_spec.specs.Logs.{HasHeader, IsOnlyHeader, IsOursAt, NoneForeign}
use Rattle.crash_spec.proofs.MarkLaws.{marked_header}

stands_at_front : (files : Files) (log : File) (piece : Piece) → outlasts log files piece ≡ true → HasHeader log (header_bytes (content files log)) piece
stands_at_front files log piece passes file at signed =
    let same : same_file piece.file log ≡ true = ap (λ (f : File). same_file f log) file ∙ same_file-refl log in
    let whole : stands piece files ≡ true = it_stands (same_file piece.file log) (stands piece files) same passes in
    let row : List ℕ = drop piece.at (content files piece.file) in
    let is : row ≡ piece.bytes ++ drop (length piece.bytes) row = (starts_is {E = nat_eq} Decides-eqb row piece.bytes (stands piece files) refl).0 whole in
    let front : take header_size row ≡ take header_size piece.bytes =
    ap (λ (xs : List ℕ). take header_size xs) is ∙ take-append-le header_size piece.bytes (drop (length piece.bytes) row) (signed_long piece.bytes signed) in
    let place : row ≡ content files log = ap (λ (n : ℕ). drop n (content files piece.file)) at ∙ ap (λ (f : File). content files f) file in
    sym front ∙ ap (λ (xs : List ℕ). take header_size xs) place
  where
    it_stands : (same stands : Bool) → same ≡ true → (not same || stands) ≡ true → stands ≡ true
    it_stands true stands is passes = passes
    it_stands false stands is passes = absurd (true≢false (sym is))

-- after a sync of a log the header that stands there is the only one that is known at its front
pub only_header : (opening : Opening) (told : History) (log : File) → IsOnlyHeader (known_pieces opening (further (Synced log) told)) log (header_bytes (content (reads told) log))
only_header opening told log =
    All-weaker (λ piece. outlasts log (reads told) piece ≡ true) (HasHeader log (header_bytes (content (reads told) log)))
    (stands_at_front (reads told) log) (known_pieces opening (further (Synced log) told))
    (filter_passes (outlasts log (reads told)) (known_pieces opening told))

-- what is known after a sync was known before it
pub known_before : (opening : Opening) (told : History) (file : File) (piece : Piece) → Contains (known_pieces opening (further (Synced file) told)) piece → Contains (known_pieces opening told) piece
known_before opening told file piece c =
    All-contains (Contains (known_pieces opening told)) (known_pieces opening (further (Synced file) told)) piece
    (All-filter (outlasts file (reads told)) (Contains (known_pieces opening told)) (known_pieces opening told) (All-contains_itself (known_pieces opening told))) c

-- so an image that meets the premise after a sync met it before
pub chance_before_sync : (opening : Opening) (told : History) (file : File) (image : Files) → IsWithoutChance opening (further (Synced file) told) image → IsWithoutChance opening told image
chance_before_sync opening told file image chance log is =
    All-weaker (Contains (known_pieces opening (further (Synced file) told))) (Contains (known_pieces opening told)) (known_before opening told file) (marks log (content image log)) (chance log is)

-- and what a crash may leave after a sync, it might have left before it
pub leaves_before_sync : (opening : Opening) (told : History) (file : File) (image : Files) → MayLeave opening.before (further (Synced file) told) image → MayLeave opening.before told image
leaves_before_sync opening told file image left = synced_leaves_fewer opening.before file told image left

-- a log that an image begins with a signed header has one of the known ones
pub front_known : (opening : Opening) (told : History) (log : File) (header : List ℕ) (image : Files) → IsOnlyHeader (known_pieces opening told) log header → IsLog log → IsWithoutChance opening told image
    → is_signed (content image log) ≡ true → header_bytes (content image log) ≡ header
front_known opening told log header image only is chance signed =
    let bytes : List ℕ = content image log in
    let c = marked_header (Contains (known_pieces opening told)) log bytes signed (chance log is) in
    let here = signed-take bytes (signed_long bytes signed) ∙ signed in
    sym (take-take header_size header_size bytes (omega arith)) ∙ All-contains (HasHeader log header) (known_pieces opening told) (header_piece log bytes) only c refl refl here

-- where each known one is ours, so is that of the image
pub front_ours : (opening : Opening) (told : History) (log : File) (image : Files) → All (IsOursAt log) (known_pieces opening told) → IsLog log → IsWithoutChance opening told image
    → is_signed (content image log) ≡ true → IsOurs (number_of log) (content image log)
front_ours opening told log image ours is chance signed =
    let bytes : List ℕ = content image log in
    let long = signed_long bytes signed in
    let c = marked_header (Contains (known_pieces opening told)) log bytes signed (chance log is) in
    let here = signed-take bytes long ∙ signed in
    ours_front (number_of log) (take header_size bytes) bytes (omega (arith, length-take-le header_size bytes long)) long (take-take header_size header_size bytes (omega arith))
    (All-contains (IsOursAt log) (known_pieces opening told) (header_piece log bytes) ours c refl refl here)

pub none_foreign : (opening : Opening) (told : History) (image : Files) → All (IsOursAt Log1) (known_pieces opening told) → All (IsOursAt Log2) (known_pieces opening told) → IsWithoutChance opening told image → NoneForeign image
none_foreign opening told image one two chance Main is signed = absurd is
none_foreign opening told image one two chance Log1 is signed = front_ours opening told Log1 image one tt chance signed
none_foreign opening told image one two chance Log2 is signed = front_ours opening told Log2 image two tt chance signed
