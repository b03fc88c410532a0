-- What a crash leaves of a log.
use Rattle.std.proofs.Common.{◌≡◌, ◌≢◌, ◌⊎◌, inl, inr, ℕ, ◌≤◌, ◌<◌, List, [], ◌∷◌, ◌++◌, length, take, drop, refl, sym, ◌∙◌, ap, arith, take_all}
use Rattle.std.specs.Prelude.{All, Contains}
use Rattle.std.proofs.lemmas.Bool.{cases_lt}
use Rattle.std.proofs.lemmas.Grind.{fold-append}
use Rattle.std.proofs.lemmas.List.{take-take, take-append-drop, append-nil}
use Rattle.disk_face.specs.declared.disk.File.{File}
use Rattle.disk_face.specs.declared.step.Piece.{Piece}
use Rattle.disk_face.specs.Files.{Files, content}
use Rattle.disk_face.specs.Steps.{History, reads}
use Rattle.disk_face.specs.Image.{unsure, MayLeave}
use Rattle.log_spec.specs.Checksum.{Sum}
use Rattle.log_spec.specs.LogHeader.{LogFields, log_fields, IsOurs}
use Rattle.log_spec.specs.Accept.{Frame, AreValidFrames, AreCommitted, sum_after, sum_of_frames, last_size, commit_size}
use Rattle.log_spec.proofs.AcceptLaws.{valid_front}
use Rattle.disk_face.proofs.Images.{reads_may_stay, front_is_sure}
use Rattle.log_spec.specs.Frames.{accepted_frames}
use Rattle.crash_spec.specs.Marks.{number_of, accepted_pieces, pieces_from}
use Rattle.crash_spec.specs.Known.{known_pieces, IsWithoutChance}
use Rattle.log_spec.specs.Frames.{end_of}
use Rattle.crash_spec.specs.Logs.{IsOnDisk, IsFresh, LeavesFrames}
use Rattle.log_spec.proofs.AcceptedIs.{accepted_is}
use Rattle.log_spec.proofs.HeaderLaws.{fields_front, ours_front, committed_front}
use Rattle.crash_spec.specs.Opening.{Opening}
use Rattle.log_spec.specs.LogHeader.{header_size}
use Rattle.crash_spec.proofs.MarkLaws.{marked_frames}
use Rattle.std.proofs.lemmas.List.{length-take, length-take-le}
use Rattle.crash_spec.proofs.Pieces.{all_right, pieces-append, known_are_pending, front_of_pieces}

pub valid_drop : (header : LogFields) (sum : Sum) (frames more : List Frame) → AreValidFrames header sum (frames ++ more) → AreValidFrames header (sum_of_frames header sum frames) more
valid_drop header sum [] more v = v
valid_drop header sum (frame ∷ rest) more (v, vs) = valid_drop header (sum_after header sum frame) rest more vs

-- the size after more frames is that after the last of these
pub last_of_both : (frames : List Frame) (frame : Frame) (more : List Frame) → last_size (frames ++ frame ∷ more) ≡ last_size (frame ∷ more)
last_of_both frames frame more = fold-append (λ (size : ℕ) (f : Frame). commit_size f) 0 frames (frame ∷ more)

-- bytes with a front of others are as long as that front
pub front_reaches : (count : ℕ) (found read : List ℕ) → take count found ≡ take count read → count ≤ length read → count ≤ length found
front_reaches count found read same within =
    omega (arith, ap (λ (xs : List ℕ). length xs) same, length-take count found, length-take-le count read within)

-- a committed front of the pending frames is none of them, or all
none_or_all : (frames pending more : List Frame) → more ≡ take (length more) pending → length more ≤ length pending
    → ((n : ℕ) → n < length pending → last_size (take n pending) ≡ 0) → (frames ++ more ≢ [] → last_size (frames ++ more) ≢ 0)
    → (frames ++ more ≡ frames) ⊎ ((last_size pending ≢ 0) × (frames ++ more ≡ frames ++ pending))
none_or_all frames pending [] front within one ends = inl (append-nil frames)
none_or_all frames pending (m ∷ ms) front within one ends =
    let last : last_size (m ∷ ms) ≢ 0 = λ none. ends (not_none frames) (last_of_both frames m ms ∙ none) in
    elim (cases_lt (length (m ∷ ms)) (length pending)) [
      | inl less ↦ absurd (last (ap last_size front ∙ one (length (m ∷ ms)) less))
      | inr all ↦
          let same : m ∷ ms ≡ pending = front ∙ take_all (length (m ∷ ms)) pending all in
          inr (λ none. last (ap last_size same ∙ none), ap (λ (xs : List Frame). frames ++ xs) same)
    ]
  where
    not_none : (xs : List Frame) → xs ++ m ∷ ms ≡ [] → ⊥
    not_none [] is = cc
    not_none (x ∷ xs) is = cc

-- Bytes that begin as a log does, with its header and frames, where the accepted frames are known, and behind them only pending ones are fresh.
pub accepted_front : (known : List Piece) (log : File) (header : LogFields) (frames pending : List Frame) (read found : List ℕ)
    → IsOurs (number_of log) read → log_fields read ≡ header → AreCommitted read frames → end_of frames ≤ length read
    → AreValidFrames header (sum_of_frames header header.sum frames) pending → ((n : ℕ) → n < length pending → last_size (take n pending) ≡ 0)
    → IsFresh known log header (end_of frames) pending
    → take (end_of frames) found ≡ take (end_of frames) read → All (Contains known) (accepted_pieces log found)
    → (accepted_frames (number_of log) found ≡ frames) ⊎ ((last_size pending ≢ 0) × (accepted_frames (number_of log) found ≡ frames ++ pending))
accepted_front known log header frames pending read found own same_header is_committed reached pending_valid one_commit fresh front all_known =
    let long_found : end_of frames ≤ length found = front_reaches (end_of frames) found read front reached in
    let accepted : List Frame = accepted_frames (number_of log) found in
    let front32 : take header_size found ≡ take header_size read = sym (take-take header_size (end_of frames) found (omega arith)) ∙ ap (λ (row : List ℕ). take header_size row) front ∙ take-take header_size (end_of frames) read (omega arith) in
    let long : header_size ≤ length read = omega arith in
    let ours = ours_front (number_of log) read found long (omega arith) (sym front32) own in
    let fields : log_fields found ≡ header = fields_front found read front32 ∙ same_header in
    let committed = committed_front read found frames (sym front) is_committed in
    let by = accepted_is (number_of log) found in
    let fewer = by.longest frames ours committed in
    let same = valid_front found frames accepted committed.there by.committed.there committed.valid by.committed.valid fewer in
    let more : List Frame = drop (length frames) accepted in
    let whole : accepted ≡ frames ++ more = sym (take-append-drop (length frames) accepted) ∙ ap (λ (xs : List Frame). xs ++ drop (length frames) accepted) (sym same) in
    let valid : AreValidFrames header (sum_of_frames header header.sum frames) more =
    valid_drop header header.sum frames more (rw (whole, fields) at by.committed.valid) in
    let pieces_known : All (Contains known) (pieces_from log (end_of frames) more) =
    all_right (Contains known) (pieces_from log header_size frames) (pieces_from log (end_of frames) more) (rw (whole, pieces-append log header_size frames more) at all_known) in
    let pending_pieces = known_are_pending known log header (end_of frames) pending fresh (end_of frames) (sum_of_frames header header.sum frames) more (omega arith) valid pieces_known in
    let fits = front_of_pieces log header (end_of frames) (sum_of_frames header header.sum frames) pending more pending_valid pending_pieces in
    rw whole (none_or_all frames pending more fits.0 fits.1 one_commit (rw whole at by.committed.committed))

-- Whatever a crash leaves of a log, its accepted frames are those on the medium, or these and the pending ones.
pub image_frames : (opening : Opening) (told : History) (log : File) (header : LogFields) (frames pending : List Frame)
    → IsOnDisk opening told log header frames pending → (image : Files) → MayLeave opening.before told image → LeavesFrames opening log frames pending told image
image_frames opening told log header frames pending on image left chance =
    let is = left log in
    accepted_front (known_pieces opening told) log header frames pending (content (reads told) log) (content image log) on.ours on.same_header on.committed on.long on.valid on.one_commit on.fresh
    (front_is_sure (unsure opening.before told.steps) log (content (reads told) log) (content image log) (end_of frames) on.long on.sure is)
    (marked_frames (Contains (known_pieces opening told)) log (content image log) (chance log on.is_log))

-- What is accepted of a log as it reads, where nothing is pending, is what is on the medium.
pub accepted_now : (opening : Opening) (told : History) (log : File) (header : LogFields) (frames : List Frame)
    → IsOnDisk opening told log header frames [] → IsWithoutChance opening told (reads told) → accepted_frames (number_of log) (content (reads told) log) ≡ frames
accepted_now opening told log header frames on chance =
    elim (image_frames opening told log header frames [] on (reads told) (reads_may_stay opening.before told) chance) [ inl same ↦ same | inr (some, same) ↦ absurd (some refl) ]

-- and its header is in each image
pub image_header : (opening : Opening) (told : History) (log : File) (header : LogFields) (frames pending : List Frame)
    → IsOnDisk opening told log header frames pending → (image : Files) → MayLeave opening.before told image → log_fields (content image log) ≡ header
image_header opening told log header frames pending on image left =
    let front : take header_size (content image log) ≡ take header_size (content (reads told) log) =
    front_is_sure (unsure opening.before told.steps) log (content (reads told) log) (content image log) header_size (omega (arith, on.long)) (λ place near. on.sure place (omega arith)) (left log) in
    fields_front (content image log) (content (reads told) log) front ∙ on.same_header

-- and it is ours there, so that an opening doesn't refuse it as foreign
pub image_ours : (opening : Opening) (told : History) (log : File) (header : LogFields) (frames pending : List Frame)
    → IsOnDisk opening told log header frames pending → (image : Files) → MayLeave opening.before told image → IsOurs (number_of log) (content image log)
image_ours opening told log header frames pending on image left =
    let front : take header_size (content image log) ≡ take header_size (content (reads told) log) =
    front_is_sure (unsure opening.before told.steps) log (content (reads told) log) (content image log) header_size (omega (arith, on.long)) (λ place near. on.sure place (omega arith)) (left log) in
    ours_front (number_of log) (content (reads told) log) (content image log) (omega (arith, on.long)) (front_reaches header_size (content image log) (content (reads told) log) front (omega (arith, on.long))) (sym front) on.ours
