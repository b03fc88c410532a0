-- Laws of contents: what a write leaves of a file and of the others.
use Rattle.std.proofs.Common.{◌≡◌, ℕ, ◌+◌, ◌-◌, ◌<◌, ◌≤◌, max, false, List, [], ◌++◌, length, take, drop, refl, arith}
use Rattle.std.proofs.Math.ListN.{get_or}
use Rattle.std.proofs.lemmas.Grind.{common_steps}
use Rattle.std.proofs.lemmas.List.{length-append, length-take, length-drop, take-append-drop}
use Rattle.disk_face.specs.declared.disk.File.{File}
use Rattle.disk_face.specs.declared.disk.File.TheVariants.{Main, Log1, Log2}
use Rattle.disk_face.specs.Files.{Files, content, overwritten, put}
use Rattle.disk_face.specs.Image.{same_file}

-- a write that starts inside a file leaves it as long as it was, or ends it at the range's end
pub length-overwritten : (at : ℕ) (bytes before : List ℕ) → at ≤ length before → length (overwritten at bytes before) ≡ max (length before) (at + length bytes)
length-overwritten at bytes before inside = omega (arith, length-append (take at before ++ bytes) (drop (at + length bytes) before), length-append (take at before) bytes, length-take at before, length-drop (at + length bytes) before)

-- nothing written changes nothing
pub overwritten-none : (at : ℕ) (before : List ℕ) → overwritten at [] before ≡ before
overwritten-none at before = grind (arith, common_steps, take-append-drop)

-- what was written is read
pub overwritten-reads : (at : ℕ) (bytes before : List ℕ) → at ≤ length before → take (length bytes) (drop at (overwritten at bytes before)) ≡ bytes
overwritten-reads at bytes before inside = grind (arith, common_steps)

-- before the range all stays
pub overwritten-ahead : (at : ℕ) (bytes before : List ℕ) (place : ℕ) → at ≤ length before → place < at → get_or (overwritten at bytes before) place 0 ≡ get_or before place 0
overwritten-ahead at bytes before place inside ahead = grind (arith, common_steps)

-- in the range there are the bytes
pub overwritten-inside : (at : ℕ) (bytes before : List ℕ) (place : ℕ) → at ≤ length before → at ≤ place → place < at + length bytes
    → get_or (overwritten at bytes before) place 0 ≡ get_or bytes (place - at) 0
overwritten-inside at bytes before place inside from below = grind (arith, common_steps)

-- behind the range all stays
pub overwritten-behind : (at : ℕ) (bytes before : List ℕ) (place : ℕ) → at ≤ length before → at + length bytes ≤ place
    → get_or (overwritten at bytes before) place 0 ≡ get_or before place 0
overwritten-behind at bytes before place inside behind = grind (arith, common_steps)

-- the file that was written
pub content-put : (file : File) (at : ℕ) (bytes : List ℕ) (files : Files) → content (put file at bytes files) file ≡ overwritten at bytes (content files file)
content-put Main at bytes files = refl
content-put Log1 at bytes files = refl
content-put Log2 at bytes files = refl

-- the other files
pub content-put-other : (file other : File) (at : ℕ) (bytes : List ℕ) (files : Files) → same_file file other ≡ false → content (put file at bytes files) other ≡ content files other
content-put-other Main Main at bytes files apart = cc
content-put-other Main Log1 at bytes files apart = refl
content-put-other Main Log2 at bytes files apart = refl
content-put-other Log1 Main at bytes files apart = refl
content-put-other Log1 Log1 at bytes files apart = cc
content-put-other Log1 Log2 at bytes files apart = refl
content-put-other Log2 Main at bytes files apart = refl
content-put-other Log2 Log1 at bytes files apart = refl
content-put-other Log2 Log2 at bytes files apart = cc
