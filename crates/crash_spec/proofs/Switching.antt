-- What a crash leaves while the other log's new header is written.
use Rattle.std.proofs.Common.{◌≡◌, ◌⊎◌, inl, inr, ℕ, ◌-◌, ◌≤◌, ◌<◌, max, Bool, true, false, if◌then◌else◌, List, [], ◌∷◌, length, take, refl, sym, ◌∙◌, ap, subst, arith}
use Rattle.std.specs.Prelude.{All, Contains, nat_lt, slice_index}
use Rattle.std.proofs.lemmas.Grind.{same_number_lists}
use Rattle.std.proofs.lemmas.Bool.{cases_lt}
use Rattle.std.proofs.lemmas.List.{length-take, length-take-le, take_all, get_or-take, take-take}
use Rattle.std.proofs.lemmas.List.Elements.{All-contains, All-cons}
use Rattle.disk_face.specs.declared.disk.File.{File}
use Rattle.disk_face.specs.declared.disk.File.TheVariants.{Main, Log1, Log2}
use Rattle.disk_face.specs.declared.step.Piece.{Piece}
use Rattle.disk_face.specs.declared.step.Step.{Step}
use Rattle.disk_face.specs.declared.step.Step.TheVariants.{Wrote, Refused}
use Rattle.disk_face.specs.Files.{Files, content, overwritten}
use Rattle.disk_face.specs.Steps.{History, reads, further}
use Rattle.disk_face.specs.Image.{Range, unsure, IsSure, MayLeave, same_file}
use Rattle.disk_face.proofs.Contents.{content-put, length-overwritten, overwritten-behind}
use Rattle.disk_face.proofs.Images.{sure_outside}
use Rattle.page_spec.specs.Header.{fields_of, page_size_in, pages_in}
use Rattle.log_spec.specs.LogHeader.{LogFields, log_fields, is_signed, header_size, header_bytes, IsOurs}
use Rattle.log_spec.specs.Accept.{Frame, AreCommitted, page_numbers}
use Rattle.log_spec.specs.Frames.{accepted_frames, end_of}
use Rattle.log_spec.proofs.HeaderLaws.{fields_front, ours_front, signed-take, signed_long, unsigned_has_none}
use Rattle.crash_spec.specs.Marks.{IsLog, number_of, other_of, header_piece, marks}
use Rattle.crash_spec.specs.Opening.{Opening}
use Rattle.crash_spec.specs.Known.{known_pieces, IsWithoutChance}
use Rattle.crash_spec.specs.Logs.{IsWhole, IsFresh, IsOneOf, HasHeader, IsOnlyHeader}
use Rattle.crash_spec.specs.Recovered.{page_after_frames, overlaid, laid_over, first_bytes, size_after, recovered}
use Rattle.crash_spec.specs.Store.{named_size, AreOnDisk, IsCopied, MaySwitch}
use Rattle.crash_spec.specs.Elsewhere.{IsElsewhere}
use Rattle.crash_spec.proofs.Elsewhere.{content_elsewhere, whole_elsewhere, whole_file, on_elsewhere}
use Rattle.crash_spec.proofs.LogImages.{accepted_front, image_frames, image_header}
use Rattle.crash_spec.proofs.MarkLaws.{marked_frames, marked_header}
use Rattle.crash_spec.proofs.Overlaid.{held_or_not, same_pages}
use Rattle.crash_spec.proofs.Pieces.{contains_cons}
use Rattle.crash_spec.proofs.StoreImages.{recovered_is}
use Rattle.crash_spec.proofs.StoreSteps.{log_apart, apart_back}

-- the header in a log that is found: a new one that was handed to a write, or the only one known before
pub new_or_old : (known : List Piece) (log : File) (new_bytes header found : List ℕ) → IsOnlyHeader known log header → length new_bytes ≡ header_size
    → is_signed found ≡ true → All (Contains ((record { file = log; at = 0; bytes = new_bytes }) ∷ known)) (marks log found)
    → (header_bytes found ≡ new_bytes) ⊎ (header_bytes found ≡ header)
new_or_old known log new_bytes header found only long signed all =
    elim (contains_cons new_piece known (header_piece log found) (marked_header (Contains (new_piece ∷ known)) log found signed all)) [
      | inl same ↦ inl (ap (λ (piece : Piece). piece.bytes) (sym same))
      | inr older ↦
          inr (sym (take-take header_size header_size found (omega arith))
          ∙ All-contains (HasHeader log header) known (header_piece log found) only older refl refl (signed-take found (signed_long found signed) ∙ signed))
    ]
  where
    new_piece : Piece
    new_piece = record { file = log; at = 0; bytes = new_bytes }

-- Of bytes that begin with a header whose salts no known piece behind it has, no frame is accepted.
pub fresh_has_none : (known : List Piece) (log : File) (header found : List ℕ) → length header ≡ header_size → IsOurs (number_of log) header → IsFresh known log (log_fields header) header_size []
    → header_bytes found ≡ header → header_size ≤ length found → All (Contains known) (marks log found) → accepted_frames (number_of log) found ≡ []
fresh_has_none known log header found long own fresh is enough all =
    let front : take header_size header ≡ take header_size found = take_all header_size header (omega arith) ∙ sym is in
    elim (accepted_front known log (log_fields header) [] [] found found
    (ours_front (number_of log) header found (omega arith) enough front own)
    (sym (fields_front header found front))
    (record { there = refl; valid = tt; committed = λ some. absurd (some refl) })
    enough tt (λ n less. absurd (omega arith)) fresh refl (marked_frames (Contains known) log found all)) [
      | inl same ↦ same
      | inr (some, same) ↦ absurd (some refl)
    ]

-- The old header stands at the front of the log, or another one, or none. Where behind the front all is as it was, the old frames
-- are accepted, or none.
pub torn_header : (known : List Piece) (log : File) (header : LogFields) (new_bytes : List ℕ) (frames : List Frame) (read found : List ℕ)
    → IsOurs (number_of log) read → log_fields read ≡ header → AreCommitted read frames → end_of frames ≤ length read
    → IsFresh known log header (end_of frames) [] → IsOnlyHeader known log (header_bytes read)
    → length new_bytes ≡ header_size → IsOurs (number_of log) new_bytes
    → IsFresh ((record { file = log; at = 0; bytes = new_bytes }) ∷ known) log (log_fields new_bytes) header_size []
    → (header_bytes found ≡ header_bytes read → take (end_of frames) found ≡ take (end_of frames) read)
    → All (Contains ((record { file = log; at = 0; bytes = new_bytes }) ∷ known)) (marks log found)
    → ((accepted_frames (number_of log) found ≡ frames) × (log_fields found ≡ header)) ⊎ (accepted_frames (number_of log) found ≡ [])
torn_header known log header new_bytes frames read found own same_header committed reached fresh only long new_own new_fresh front all_known =
    by (is_signed found) refl
  where
    new_piece : Piece
    new_piece = record { file = log; at = 0; bytes = new_bytes }

    as_old : take header_size found ≡ take header_size read → accepted_frames (number_of log) found ≡ frames
    as_old is =
        elim (accepted_front (new_piece ∷ known) log header frames [] read found own same_header committed reached tt (λ n less. absurd (omega arith))
        (All-cons (IsOneOf log header (end_of frames) []) new_piece known (λ file behind salts. absurd (omega arith)) fresh)
        (front is) (marked_frames (Contains (new_piece ∷ known)) log found all_known)) [
          | inl same ↦ same
          | inr (some, same) ↦ absurd (some refl)
        ]

    by : (signed : Bool) → is_signed found ≡ signed → ((accepted_frames (number_of log) found ≡ frames) × (log_fields found ≡ header)) ⊎ (accepted_frames (number_of log) found ≡ [])
    by false is = inr (unsigned_has_none (number_of log) found is)
    by true is =
        elim (new_or_old known log new_bytes (header_bytes read) found only long is all_known) [
          | inl new ↦ inr (fresh_has_none (new_piece ∷ known) log new_bytes found long new_own new_fresh new (signed_long found is) all_known)
          | inr old ↦ inl (as_old old, fields_front found read old ∙ same_header)
        ]

-- Of a log whose front alone is unsure, a crash leaves it as it was, or no frame is accepted of it.
pub torn_log : (known : List Piece) (log : File) (new_bytes read found : List ℕ)
    → IsOnlyHeader known log (header_bytes read) → length new_bytes ≡ header_size → IsOurs (number_of log) new_bytes
    → IsFresh ((record { file = log; at = 0; bytes = new_bytes }) ∷ known) log (log_fields new_bytes) header_size []
    → (header_size ≤ length found → header_bytes found ≡ header_bytes read → found ≡ read)
    → All (Contains ((record { file = log; at = 0; bytes = new_bytes }) ∷ known)) (marks log found)
    → (found ≡ read) ⊎ (accepted_frames (number_of log) found ≡ [])
torn_log known log new_bytes read found only long own fresh same all_known = by (is_signed found) refl
  where
    by : (signed : Bool) → is_signed found ≡ signed → (found ≡ read) ⊎ (accepted_frames (number_of log) found ≡ [])
    by false is = inr (unsigned_has_none (number_of log) found is)
    by true is =
        elim (new_or_old known log new_bytes (header_bytes read) found only long is all_known) [
          | inl new ↦ inr (fresh_has_none ((record { file = log; at = 0; bytes = new_bytes }) ∷ known) log new_bytes found long own fresh new (signed_long found is) all_known)
          | inr old ↦ inl (same (signed_long found is) old)
        ]

size_of_newer : (newer : List Frame) (number : ℕ) → Contains (page_numbers newer) number → (m n : ℕ) → size_after newer m ≡ size_after newer n
size_of_newer [] number (k, less, is) m n = absurd (omega arith)
size_of_newer (frame ∷ rest) number held m n = refl

-- Where the old frames were all copied to Main, they needn't lie over it.
pub copied_away : (size : ℕ) (main : List ℕ) (older newer : List Frame) → Contains (page_numbers newer) 1 → IsCopied size main older → named_size main older newer ≡ size
    → overlaid main [] newer ≡ overlaid main older newer
copied_away size main older newer first copied sized =
    let firsts : first_bytes main [] newer ≡ first_bytes main older newer =
    elim (held_or_not newer 1) [ inl held ↦ held (take 100 main) (page_after_frames older 1 (take 100 main)) | inr (none, leaves) ↦ absurd (none first) ] in
    ap (λ (bytes : List ℕ). laid_over (size_after newer (pages_in bytes (length main))) (page_size_in (fields_of bytes)) main [] newer) firsts
    ∙ go (first_bytes main older newer) sized
  where
    same : (count : ℕ) → laid_over count size main [] newer ≡ laid_over count size main older newer
    same count = same_pages _ _ 1 count (λ number from. ap (λ (bytes : List ℕ). page_after_frames newer number bytes) (sym (copied number from)))

    go : (bytes : List ℕ) → page_size_in (fields_of bytes) ≡ size
        → laid_over (size_after newer (pages_in bytes (length main))) (page_size_in (fields_of bytes)) main [] newer
        ≡ laid_over (size_after newer (size_after older (pages_in bytes (length main)))) (page_size_in (fields_of bytes)) main older newer
    go bytes is =
        let count : ℕ = size_after newer (pages_in bytes (length main)) in
        ap (λ (n : ℕ). laid_over count n main [] newer) is ∙ same count ∙ ap (λ (n : ℕ). laid_over count n main older newer) (sym is)
        ∙ ap (λ (n : ℕ). laid_over n (page_size_in (fields_of bytes)) main older newer) (size_of_newer newer 1 first _ _)

-- an empty log lies over another as it lies below it
pub empty_either : (main : List ℕ) (frames : List Frame) → overlaid main frames [] ≡ overlaid main [] frames
empty_either main [] = refl
empty_either main (frame ∷ rest) = refl

-- With an empty other log the order of the logs doesn't matter.
by_either : (earlier : Bool) (main : List ℕ) (frames : List Frame) → (if earlier then overlaid main frames [] else overlaid main [] frames) ≡ overlaid main [] frames
by_either true main frames = empty_either main frames
by_either false main frames = refl

by_other : (earlier : Bool) (main : List ℕ) (frames : List Frame) → (if earlier then overlaid main [] frames else overlaid main frames []) ≡ overlaid main [] frames
by_other true main frames = refl
by_other false main frames = empty_either main frames

pub recovered_alone : (current : File) (image : Files) (frames : List Frame) → IsLog current → accepted_frames (number_of (other_of current)) (content image (other_of current)) ≡ []
    → accepted_frames (number_of current) (content image current) ≡ frames → recovered image ≡ overlaid image.main [] frames
recovered_alone Main image frames is none some = absurd is
recovered_alone Log1 image frames is none some = rw (none, some) (by_either (nat_lt (log_fields image.log1).generation (log_fields image.log2).generation) image.main frames)
recovered_alone Log2 image frames is none some = rw (none, some) (by_other (nat_lt (log_fields image.log1).generation (log_fields image.log2).generation) image.main frames)

-- Bytes that are as others behind a header's place, and have the same header, have any front of them.
pub rest_front : (read found : List ℕ) (count : ℕ) → count ≤ length read
    → ((place : ℕ) → header_size ≤ place → place < length read → (place < length found) × (slice_index found place ≡ slice_index read place))
    → header_bytes found ≡ header_bytes read → take count found ≡ take count read
rest_front read found count within behind front =
    let long : count ≤ length found =
    elim (cases_lt header_size count) [
      | inl past ↦ let there = (behind (count - 1) (omega arith) (omega arith)).0 in omega arith
      | inr few ↦ let same = ap (λ (xs : List ℕ). length xs) front in omega (arith, same, length-take header_size found, length-take header_size read)
    ] in
    same_number_lists (take count found) (take count read) (length-take-le count found long ∙ sym (length-take-le count read within))
    (λ place inside.
    let near : place < count = omega (arith, length-take count found) in
    rw (get_or-take count found place 0 near, get_or-take count read place 0 near)
    (elim (cases_lt place header_size) [
      | inl few ↦ sym (get_or-take header_size found place 0 few) ∙ ap (λ (xs : List ℕ). slice_index xs place) front ∙ get_or-take header_size read place 0 few
      | inr past ↦ (behind place past (omega arith)).1
    ]))

-- A step has written to the front of a log, or was refused and has left something there.
pub record WritesFront (opening : Opening) (told : History) (log : File) (new_bytes left : List ℕ) (step : Step) : Type 0 where
  pub few : length left ≤ header_size
  pub read : content (reads (further step told)) log ≡ overwritten 0 left (content (reads told) log)
  pub unsure : unsure opening.before (step ∷ told.steps) ≡ (record { file = log; from = 0; count = header_size }) ∷ unsure opening.before told.steps
  pub known : known_pieces opening (further step told) ≡ (record { file = log; at = 0; bytes = new_bytes }) ∷ known_pieces opening told
  pub elsewhere : (file : File) → same_file log file ≡ false → IsElsewhere file step

pub front_written : (opening : Opening) (told : History) (log : File) (new_bytes : List ℕ) → length new_bytes ≡ header_size
    → WritesFront opening told log new_bytes new_bytes (Wrote (record { file = log; at = 0; bytes = new_bytes }))
front_written opening told log new_bytes long = record {
  few = omega arith;
  read = content-put log 0 new_bytes (reads told);
  unsure = ap (λ (n : ℕ). (record { file = log; from = 0; count = n }) ∷ unsure opening.before told.steps) long;
  known = refl;
  elsewhere = λ file apart. apart;
}

pub front_refused : (opening : Opening) (told : History) (log : File) (new_bytes left : List ℕ) → length new_bytes ≡ header_size → length left ≤ length new_bytes
    → WritesFront opening told log new_bytes left (Refused (record { file = log; at = 0; bytes = new_bytes }) left)
front_refused opening told log new_bytes left long within = record {
  few = omega arith;
  read = content-put log 0 left (reads told);
  unsure = ap (λ (n : ℕ). (record { file = log; from = 0; count = n }) ∷ unsure opening.before told.steps) long;
  known = refl;
  elsewhere = λ file apart. apart;
}

module _ (opening : Opening) (told : History) (log : File) (new_bytes left : List ℕ) (step : Step) (writes : WritesFront opening told log new_bytes left step)
    (whole : IsWhole opening told log) (image : Files) (leaves : MayLeave opening.before (further step told) image) where
  -- the log as it was before the step, and as it is after it
  abbrev before : List ℕ
  before = content (reads told) log

  after_length : length (content (reads (further step told)) log) ≡ max (length before) (length left)
  after_length = omega (arith, ap (λ (xs : List ℕ). length xs) writes.read, length-overwritten 0 left before (omega arith))

  -- behind the front an image has what was there
  torn_behind : (place : ℕ) → header_size ≤ place → place < length before → (place < length (content image log)) × (slice_index (content image log) place ≡ slice_index before place)
  torn_behind place past inside =
      let few = writes.few in
      let there : place < length (content (reads (further step told)) log) = omega (arith, after_length) in
      let sure : IsSure (unsure opening.before (step ∷ told.steps)) log place =
      subst (λ (ranges : List Range). IsSure ranges log place) (sym writes.unsure)
      (sure_outside (record { file = log; from = 0; count = header_size }) (unsure opening.before told.steps) log place (λ from below. omega arith) (whole place inside)) in (
        (leaves log).reaches place there sure,
        (leaves log).sure place there sure ∙ ap (λ (xs : List ℕ). slice_index xs place) writes.read ∙ overwritten-behind 0 left before place (omega arith) (omega arith),
      )

  -- and with the same header any front of it
  pub torn_front : (count : ℕ) → count ≤ length before → header_bytes (content image log) ≡ header_bytes before → take count (content image log) ≡ take count before
  torn_front count within front = rest_front before (content image log) count within torn_behind front

  -- and all of it
  pub torn_same : header_size ≤ length (content image log) → header_bytes (content image log) ≡ header_bytes before → content image log ≡ before
  torn_same enough front =
      let few = writes.few in
      let same = ap (λ (xs : List ℕ). length xs) front in
      let long : header_size ≤ length before = omega (arith, same, length-take-le header_size (content image log) enough, length-take header_size before) in
      let no_longer : length (content image log) ≤ length before = omega (arith, (leaves log).no_longer, after_length) in
      sym (take_all (length before) (content image log) no_longer) ∙ torn_front (length before) (omega arith) front ∙ take_all (length before) before (omega arith)

  -- a mark of the log in an image is known, or it is the new header
  pub torn_known : IsLog log → IsWithoutChance opening (further step told) image
      → All (Contains ((record { file = log; at = 0; bytes = new_bytes }) ∷ known_pieces opening told)) (marks log (content image log))
  torn_known is chance = subst (λ (known : List Piece). All (Contains known) (marks log (content image log))) writes.known (chance log is)

-- While the new header is written, a crash leaves the newest map.
pub switch_images : (opening : Opening) (told : History) (current : File) (header older : LogFields) (frames other : List Frame) (size : ℕ) (new_bytes left : List ℕ) (step : Step)
    → AreOnDisk opening told current header older frames [] other size → MaySwitch opening told current frames other size new_bytes → named_size (reads told).main other frames ≡ size
    → WritesFront opening told (other_of current) new_bytes left step
    → (image : Files) → MayLeave opening.before (further step told) image → IsWithoutChance opening (further step told) image → recovered image ≡ overlaid (reads told).main other frames
switch_images opening told current header older frames other size new_bytes left step on may sized writes image leaves chance =
    let log : File = other_of current in
    let newest = on_elsewhere opening told current header frames [] step on.newest (writes.elsewhere current (apart_back current on.newest.is_log)) in
    let main_elsewhere : IsElsewhere Main step = writes.elsewhere Main (log_apart (other_of current) on.oldest.is_log).1 in
    let frames_is : accepted_frames (number_of current) (content image current) ≡ frames =
    elim (image_frames opening (further step told) current header frames [] newest image leaves chance) [ inl same ↦ same | inr (some, same) ↦ absurd (some refl) ] in
    let header_is = image_header opening (further step told) current header frames [] newest image leaves in
    let main_is : image.main ≡ (reads told).main =
    whole_file opening (further step told) Main image (whole_elsewhere opening Main step told main_elsewhere may.main) leaves ∙ content_elsewhere Main step told main_elsewhere in
    let old = on.oldest in
    elim (torn_header (known_pieces opening told) (other_of current) older new_bytes other (content (reads told) (other_of current)) (content image (other_of current))
    old.ours old.same_header old.committed old.long old.fresh may.only may.long may.ours may.fresh
    (torn_front opening told (other_of current) new_bytes left step writes may.other_log image leaves (end_of other) old.long)
    (torn_known opening told (other_of current) new_bytes left step writes may.other_log image leaves old.is_log chance)) [
      | inl (other_is, fields) ↦
          let less : (log_fields (content image (other_of current))).generation < (log_fields (content image current)).generation = rw (fields, header_is) on.rising in
          recovered_is current image on.newest.is_log less
          ∙ ap (λ (fs : List Frame). overlaid image.main fs (accepted_frames (number_of current) (content image current))) other_is
          ∙ ap (λ (fs : List Frame). overlaid image.main other fs) frames_is
          ∙ ap (λ (main : List ℕ). overlaid main other frames) main_is
      | inr none ↦
          recovered_alone current image frames on.newest.is_log none frames_is
          ∙ ap (λ (main : List ℕ). overlaid main [] frames) main_is
          ∙ copied_away size (reads told).main other frames may.page_1 may.copied sized
    ]

-- A torn header that is signed is ours, so an opening doesn't refuse it as foreign.
pub torn_is_ours : (known : List Piece) (log : File) (new_bytes read found : List ℕ) → IsOurs (number_of log) read → IsOurs (number_of log) new_bytes → IsOnlyHeader known log (header_bytes read)
    → length new_bytes ≡ header_size → header_size ≤ length read → is_signed found ≡ true
    → All (Contains ((record { file = log; at = 0; bytes = new_bytes }) ∷ known)) (marks log found) → IsOurs (number_of log) found
torn_is_ours known log new_bytes read found own new_own only long reached signed all =
    elim (new_or_old known log new_bytes (header_bytes read) found only long signed all) [
      | inl new ↦ ours_front (number_of log) new_bytes found (omega arith) (signed_long found signed) (take_all header_size new_bytes (omega arith) ∙ sym new) new_own
      | inr old ↦ ours_front (number_of log) read found reached (signed_long found signed) (sym old) own
    ]
