-- The page sizes of the logs of an image, by what was found of the logs; and what it keeps of Main's length and of log 2's header.
use Rattle.std.proofs.Common.{◌≡◌, ◌∙◌, ◌≤◌, ℕ, Bool, true, List, [], length, sym, ap, subst, arith}
use Rattle.disk_face.specs.declared.disk.File.{File}
use Rattle.disk_face.specs.declared.disk.File.TheVariants.{Main, Log1, Log2}
use Rattle.disk_face.specs.Files.{Files, content}
use Rattle.log_spec.specs.LogHeader.{LogFields, log_fields}
use Rattle.log_spec.specs.Accept.{Frame}
use Rattle.log_spec.specs.Frames.{accepted_frames, is_ours}
use Rattle.page_spec.specs.PageMap.{PageMap}
use Rattle.crash_spec.specs.Opening.{Opening}
use Rattle.crash_spec.specs.Logs.{HaveSize}
use Rattle.crash_spec.specs.Marks.{IsLog, number_of, other_of}
use Rattle.opening_spec.specs.Found.{FoundLog, AreSized, frames_in}
use Rattle.opening_spec.specs.States.{KeepsTo}

-- one log that is as it was
one_sized : (size : ℕ) (bytes read : List ℕ) (frames accepted : List Frame) → bytes ≡ read → accepted ≡ frames → ((frames ≡ [] → ⊥) → (log_fields read).page_size ≡ size)
    → (accepted ≡ [] → ⊥) → (log_fields bytes).page_size ≡ size
one_sized size bytes read frames accepted same is sized some =
    ap (λ (xs : List ℕ). (log_fields xs).page_size) same ∙ sized (λ none. some (is ∙ none))

-- both are as they were
pub both_sized : (size : ℕ) (one two : FoundLog) (image read : Files) → image.log1 ≡ read.log1 → image.log2 ≡ read.log2
    → accepted_frames 1 image.log1 ≡ one.frames → accepted_frames 2 image.log2 ≡ two.frames → AreSized size one two read → HaveSize size image
both_sized size one two image read same1 same2 is1 is2 sized Main is some = absurd is
both_sized size one two image read same1 same2 is1 is2 sized Log1 is some = one_sized size image.log1 read.log1 one.frames (accepted_frames 1 image.log1) same1 is1 sized.0 some
both_sized size one two image read same1 same2 is1 is2 sized Log2 is some = one_sized size image.log2 read.log2 two.frames (accepted_frames 2 image.log2) same2 is2 sized.1 some

-- one has no accepted frame, and the other is as it was
pub other_sized : (size : ℕ) (log : File) (one two : FoundLog) (image read : Files) → IsLog log → accepted_frames (number_of log) (content image log) ≡ []
    → content image (other_of log) ≡ content read (other_of log) → accepted_frames (number_of (other_of log)) (content image (other_of log)) ≡ frames_in (other_of log) one two
    → AreSized size one two read → HaveSize size image
other_sized size Main one two image read is_log none same is sized log here some = absurd is_log
other_sized size Log1 one two image read is_log none same is sized Main here some = absurd here
other_sized size Log1 one two image read is_log none same is sized Log1 here some = absurd (some none)
other_sized size Log1 one two image read is_log none same is sized Log2 here some = one_sized size image.log2 read.log2 two.frames (accepted_frames 2 image.log2) same is sized.1 some
other_sized size Log2 one two image read is_log none same is sized Main here some = absurd here
other_sized size Log2 one two image read is_log none same is sized Log1 here some = one_sized size image.log1 read.log1 one.frames (accepted_frames 1 image.log1) same is sized.0 some
other_sized size Log2 one two image read is_log none same is sized Log2 here some = absurd (some none)

-- log 1 has a header of that size, and log 2 has no accepted frame
pub first_sized : (size : ℕ) (image : Files) → (log_fields image.log1).page_size ≡ size → accepted_frames 2 image.log2 ≡ [] → HaveSize size image
first_sized size image sized none Main is some = absurd is
first_sized size image sized none Log1 is some = sized
first_sized size image sized none Log2 is some = absurd (some none)

-- Main no longer than it was, and log 2 as it was
pub kept_image : (opening : Opening) (size : ℕ) (own : Bool) (map : PageMap) (files image : Files) → length image.main ≤ length files.main → image.log2 ≡ files.log2
    → KeepsTo opening size own map files → KeepsTo opening size own map image
kept_image opening size own map files image shorter same keeps = (omega (arith, keeps.0), λ ours. keeps.1 (ap (λ (bytes : List ℕ). is_ours 2 bytes) (sym same) ∙ ours))
