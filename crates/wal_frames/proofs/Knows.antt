-- What the scan of a disk's log knows, in the types of this crate.
use Rattle.std.proofs.Common.{◌≡◌, ◌≢◌, ℕ, ◌+◌, List, [], ◌∷◌, ◌++◌, length, take, drop, sym, ◌∙◌, ap, arith}
use Rattle.std.proofs.lemmas.List.{take-map, map_push, length-map}
use Rattle.log_spec.specs.Checksum.{Sum as Words}
use Rattle.log_spec.specs.Accept.{Frame, IsValidFrame, page_numbers, page_number}
use Rattle.log_spec.proofs.ScanLaws.{Scanned, scanned_more, scanned_commit, scanned_end}
use Rattle.wal_frames.specs.Front.{words_of, fields_for}
use Rattle.wal_frames.specs.Scan.{TellsFrame}
use Rattle.wal_frames.specs.Found.{FindsFrames}
use Rattle.wal_frames.specs.declared.header.LogHeader.{LogHeader}
use Rattle.wal_frames.specs.declared.scan.FrameTold.{FrameTold}
use Rattle.wal_frames.specs.declared.found.Accepted.{Accepted}
use Rattle.wal_frames.proofs.FrameParts.{frame_at}

abbrev pub Knows : List ℕ → LogHeader → ℕ → Words → ℕ → ℕ → Words → List ℕ → Type 0
Knows bytes header at sum kept size kept_sum pages =
    (frames : List Frame) × Scanned bytes (fields_for header) frames at sum kept size kept_sum × (pages ≡ page_numbers frames)

frame_there : (bytes : List ℕ) (at : ℕ) (header : LogHeader) (sum : Words) → IsValidFrame (fields_for header) sum (frame_at bytes at header)
    → take (length (frame_at bytes at header)) (drop at bytes) ≡ frame_at bytes at header
frame_there bytes at header sum valid = ap (λ (n : ℕ). take n (drop at bytes)) valid.whole

pages_more : (pages : List ℕ) (page : ℕ) (frames : List Frame) (frame : Frame) → pages ≡ page_numbers frames → page ≡ page_number frame
    → pages ++ page ∷ [] ≡ page_numbers (frames ++ frame ∷ [])
pages_more pages page frames frame numbers is = rw (numbers, is) (sym (map_push page_number frames frame))

pub knows_more : (bytes : List ℕ) (header : LogHeader) (at : ℕ) (sum : Words) (kept size : ℕ) (kept_sum : Words) (pages : List ℕ) (told : FrameTold)
    → Knows bytes header at sum kept size kept_sum pages → TellsFrame header sum (frame_at bytes at header) told → told.size ≡ 0
    → Knows bytes header (at + (24 + header.page_size)) (words_of told.sum) kept size kept_sum (pages ++ told.page ∷ [])
knows_more bytes header at sum kept size kept_sum pages told (frames, s, numbers) tells none =
    let frame = frame_at bytes at header in
    let more = scanned_more bytes (fields_for header) frames at sum kept size kept_sum frame s tells.valid
    (frame_there bytes at header sum tells.valid) (sym tells.size ∙ none) in
    (frames ++ frame ∷ [], rw (tells.valid.whole, ← tells.summed) at more, pages_more pages told.page frames frame numbers tells.page)

pub knows_commit : (bytes : List ℕ) (header : LogHeader) (at : ℕ) (sum : Words) (kept size : ℕ) (kept_sum : Words) (pages : List ℕ) (told : FrameTold) (count : ℕ)
    → Knows bytes header at sum kept size kept_sum pages → TellsFrame header sum (frame_at bytes at header) told → told.size ≢ 0
    → count ≡ length pages + 1
    → Knows bytes header (at + (24 + header.page_size)) (words_of told.sum) count told.size (words_of told.sum) (pages ++ told.page ∷ [])
knows_commit bytes header at sum kept size kept_sum pages told count (frames, s, numbers) tells some is =
    let frame = frame_at bytes at header in
    let more = scanned_commit bytes (fields_for header) frames at sum kept size kept_sum frame s tells.valid
    (frame_there bytes at header sum tells.valid) (λ none. some (tells.size ∙ none)) in
    let all : length frames + 1 ≡ count = omega (arith, ap length numbers, length-map frames page_number, is) in
    (frames ++ frame ∷ [], rw (tells.valid.whole, ← tells.summed, ← tells.size, all) at more, pages_more pages told.page frames frame numbers tells.page)

pub found_at_end : (bytes : List ℕ) (header : LogHeader) (at : ℕ) (sum : Words) (kept size : ℕ) (kept_sum : Words) (pages : List ℕ) (found : Accepted)
    → Knows bytes header at sum kept size kept_sum pages
    → ((frame : Frame) → take (length frame) (drop at bytes) ≡ frame → IsValidFrame (fields_for header) sum frame → ⊥)
    → found.pages.items ≡ take kept pages → found.size ≡ size → words_of found.sum ≡ kept_sum
    → FindsFrames header bytes found
found_at_end bytes header at sum kept size kept_sum pages found (frames, s, numbers) stops items size_is sum_is log ours same =
    let scanned = rw same at s in (
      take kept frames,
      scanned_end log bytes frames at sum kept size kept_sum scanned ours (rw same at stops),
      items ∙ ap (λ (xs : List ℕ). take kept xs) numbers ∙ take-map page_number kept frames,
      size_is ∙ s.kept_size,
      sum_is ∙ scanned.kept_summed,
    )
