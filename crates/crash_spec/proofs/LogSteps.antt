-- How a log on a disk goes on from step to step.
use Rattle.std.proofs.Common.{◌≡◌, inl, inr, ℕ, ◌+◌, ◌≤◌, ◌<◌, List, [], ◌∷◌, ◌++◌, length, take, refl, sym, ◌∙◌, ap, arith, length-append, take_all}
use Rattle.std.specs.Prelude.{Contains}
use Rattle.std.specs.List.{concat}
use Rattle.std.proofs.lemmas.Bool.{cases_lt}
use Rattle.std.proofs.lemmas.Grind.{fold-append}
use Rattle.std.proofs.lemmas.List.{take-take, take-append-le}
use Rattle.std.proofs.lemmas.List.Elements.{All-cons, All-weaker, All-filter, All-contains, Contains-append_left, Contains-append_right}
use Rattle.disk_face.specs.declared.disk.File.{File}
use Rattle.disk_face.specs.declared.step.Piece.{Piece}
use Rattle.disk_face.specs.declared.step.Step.TheVariants.{Wrote, Refused, Synced}
use Rattle.disk_face.specs.Files.{content, put}
use Rattle.disk_face.specs.Steps.{History, reads, further}
use Rattle.disk_face.specs.Image.{unsure, range_of, IsSure, IsOutside}
use Rattle.disk_face.proofs.Contents.{content-put}
use Rattle.disk_face.proofs.Images.{synced_is_sure}
use Rattle.crash_spec.specs.Opening.{Opening}
use Rattle.log_spec.specs.LogHeader.{LogFields, header_size}
use Rattle.log_spec.specs.Accept.{Frame, AreValidFrames, IsValidFrame, AreCommitted, sum_after, sum_of_frames, last_size}
use Rattle.log_spec.proofs.AcceptLaws.{valid_push}
use Rattle.crash_spec.specs.Marks.{number_of, pieces_from}
use Rattle.crash_spec.specs.Known.{known_pieces, outlasts}
use Rattle.log_spec.specs.Frames.{end_of}
use Rattle.crash_spec.specs.Logs.{IsOnDisk, IsOneOf, IsFresh}
use Rattle.log_spec.proofs.HeaderLaws.{fields_front, ours_front, committed_front}
use Rattle.crash_spec.proofs.Pieces.{pieces-append, pieces_before, pieces_some, contains_head}
use Rattle.crash_spec.proofs.Overwritten.{overwritten-front, overwritten-length}
use Rattle.log_spec.proofs.PlaceLaws.{end-append}

-- no commit ends before the last of one frame more, where none ended before
one_more_commit : (pending : List Frame) (frame : Frame) → ((n : ℕ) → n < length pending → last_size (take n pending) ≡ 0) → last_size pending ≡ 0
    → (n : ℕ) → n < length (pending ++ frame ∷ []) → last_size (take n (pending ++ frame ∷ [])) ≡ 0
one_more_commit pending frame one none n less =
    let within : n ≤ length pending = omega (arith, length-append pending (frame ∷ [])) in
    let front : take n (pending ++ frame ∷ []) ≡ take n pending = take-append-le n pending (frame ∷ []) within in
    elim (cases_lt n (length pending)) [
      | inl few ↦ ap last_size front ∙ one n few
      | inr all ↦ ap last_size front ∙ ap last_size (take_all n pending all) ∙ none
    ]

-- a row of bytes that begins as another does, at least as far as a log's frames go, and is as long at least
module _ (opening : Opening) (told later : History) (log : File) (header : LogFields) (frames pending next : List Frame)
    (on : IsOnDisk opening told log header frames pending)
    (front : take (end_of frames) (content (reads later) log) ≡ take (end_of frames) (content (reads told) log))
    (longer : length (content (reads told) log) ≤ length (content (reads later) log)) where
  pub goes_on : ((place : ℕ) → place < end_of frames → IsSure (unsure opening.before later.steps) log place)
      → AreValidFrames header (sum_of_frames header header.sum frames) next
      → ((n : ℕ) → n < length next → last_size (take n next) ≡ 0)
      → IsFresh (known_pieces opening later) log header (end_of frames) next
      → IsOnDisk opening later log header frames next
  goes_on sure valid one fresh =
      let new : List ℕ = content (reads later) log in
      let old : List ℕ = content (reads told) log in
      let front32 : take header_size new ≡ take header_size old = sym (take-take header_size (end_of frames) new (omega arith)) ∙ ap (λ (row : List ℕ). take header_size row) front ∙ take-take header_size (end_of frames) old (omega arith) in
      let long = on.long in
      record {
        is_log = on.is_log;
        ours = ours_front (number_of log) old new (omega arith) (omega arith) (sym front32) on.ours;
        same_header = fields_front new old front32 ∙ on.same_header;
        committed = committed_front old new frames (sym front) on.committed;
        long = omega arith;
        sure = sure;
        valid = valid;
        one_commit = one;
        fresh = fresh;
      }

-- one more frame is handed to a write: whatever the write leaves in its range, the log is on the disk with one more pending frame
module _ (opening : Opening) (told : History) (log : File) (header : LogFields) (frames pending : List Frame) (frame : Frame)
    (on : IsOnDisk opening told log header frames pending)
    (valid : IsValidFrame header (sum_of_frames header header.sum (frames ++ pending)) frame)
    (open_end : last_size pending ≡ 0) (reached : end_of (frames ++ pending) ≤ length (content (reads told) log)) where
  abbrev piece : Piece
  piece = record { file = log; at = end_of (frames ++ pending); bytes = frame }

  abbrev more : List Frame
  more = pending ++ frame ∷ []

  place_is : end_of frames + length (concat pending) ≡ end_of (frames ++ pending)
  place_is = sym (end-append frames pending)

  valid_more : AreValidFrames header (sum_of_frames header header.sum frames) more
  valid_more =
      valid_push header (sum_of_frames header header.sum frames) pending frame on.valid
      (rw (fold-append (sum_after header) header.sum frames pending) at valid)

  fresh_more : IsFresh (piece ∷ known_pieces opening told) log header (end_of frames) more
  fresh_more =
      let all = pieces-append log (end_of frames) pending (frame ∷ []) in
      All-cons (IsOneOf log header (end_of frames) more) piece (known_pieces opening told)
      (λ is behind salts. rw (all, place_is) (Contains-append_right (pieces_from log (end_of frames) pending) (piece ∷ []) piece (contains_head piece [])))
      (All-weaker (IsOneOf log header (end_of frames) pending) (IsOneOf log header (end_of frames) more)
      (λ other is file behind salts. rw all (Contains-append_left (pieces_from log (end_of frames) pending) (pieces_from log (end_of frames + length (concat pending)) (frame ∷ [])) other (is file behind salts)))
      (known_pieces opening told) on.fresh)

  -- a pending frame more that nobody tried to write does no harm
  pub on_more : IsOnDisk opening told log header frames more
  on_more =
      goes_on opening told told log header frames pending more on refl (omega arith) on.sure valid_more (one_more_commit pending frame on.one_commit open_end)
      (All-weaker (IsOneOf log header (end_of frames) pending) (IsOneOf log header (end_of frames) more)
      (λ other is file behind salts. rw (pieces-append log (end_of frames) pending (frame ∷ [])) (Contains-append_left (pieces_from log (end_of frames) pending) (pieces_from log (end_of frames + length (concat pending)) (frame ∷ [])) other (is file behind salts)))
      (known_pieces opening told) on.fresh)

  sure_more : (place : ℕ) → place < end_of frames → IsSure (range_of piece ∷ unsure opening.before told.steps) log place
  sure_more place near =
      All-cons (IsOutside log place) (range_of piece) (unsure opening.before told.steps)
      (λ file from below. omega (arith, place_is)) (on.sure place near)

  written_front : (bytes : List ℕ) → take (end_of frames) (content (put log (end_of (frames ++ pending)) bytes (reads told)) log) ≡ take (end_of frames) (content (reads told) log)
  written_front bytes =
      ap (λ (row : List ℕ). take (end_of frames) row) (content-put log (end_of (frames ++ pending)) bytes (reads told))
      ∙ overwritten-front (end_of frames) (end_of (frames ++ pending)) bytes (content (reads told) log) (omega (arith, place_is)) reached

  written_longer : (bytes : List ℕ) → length (content (reads told) log) ≤ length (content (put log (end_of (frames ++ pending)) bytes (reads told)) log)
  written_longer bytes =
      rw (content-put log (end_of (frames ++ pending)) bytes (reads told)) (overwritten-length (end_of (frames ++ pending)) bytes (content (reads told) log) reached)

  pub on_written : IsOnDisk opening (further (Wrote piece) told) log header frames more
  on_written =
      goes_on opening told (further (Wrote piece) told) log header frames pending more on (written_front frame) (written_longer frame)
      sure_more valid_more (one_more_commit pending frame on.one_commit open_end) fresh_more

  pub on_refused : (left : List ℕ) → IsOnDisk opening (further (Refused piece left) told) log header frames more
  on_refused left =
      goes_on opening told (further (Refused piece left) told) log header frames pending more on (written_front left) (written_longer left)
      sure_more valid_more (one_more_commit pending frame on.one_commit open_end) fresh_more

-- the pending frames are on the medium once their log was synced
pub on_synced : (opening : Opening) (told : History) (log : File) (header : LogFields) (frames pending : List Frame)
    → IsOnDisk opening told log header frames pending
    → AreCommitted (content (reads told) log) (frames ++ pending) → end_of (frames ++ pending) ≤ length (content (reads told) log)
    → IsOnDisk opening (further (Synced log) told) log header (frames ++ pending) []
on_synced opening told log header frames pending on committed long = record {
  is_log = on.is_log;
  ours = on.ours;
  same_header = on.same_header;
  committed = committed;
  long = long;
  sure = λ place near. synced_is_sure log (unsure opening.before told.steps) place;
  valid = tt;
  one_commit = λ n less. absurd (omega arith);
  fresh = All-filter (outlasts log (reads told)) (IsOneOf log header (end_of (frames ++ pending)) []) (known_pieces opening told)
      (All-weaker (IsOneOf log header (end_of frames) pending) (IsOneOf log header (end_of (frames ++ pending)) [])
      (λ piece is file behind salts. absurd (none_behind piece (is file (omega (arith, end-append frames pending)) salts) behind))
      (known_pieces opening told) on.fresh);
}
  where
    none_behind : (piece : Piece) → Contains (pieces_from log (end_of frames) pending) piece → end_of (frames ++ pending) ≤ piece.at → ⊥
    none_behind piece c behind =
        let ends = All-contains (λ (p : Piece). p.at + length p.bytes ≤ end_of frames + length (concat pending)) _ piece (pieces_before log (end_of frames) pending) c in
        let long = All-contains (λ (p : Piece). 0 < length p.bytes) _ piece (pieces_some log (end_of frames) header (sum_of_frames header header.sum frames) pending on.valid) c in
        omega (arith, end-append frames pending)
