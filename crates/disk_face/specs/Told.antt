-- What the answers of a disk say, where it tells its bytes.
use Rattle.std.specs.Prelude.{◌≡◌, ◌⊎◌, ℕ, ◌+◌, ◌≤◌, Bool, List, Option, length, take, drop, IfSome}
use Rattle.disk_face.specs.declared.disk.File.{File}
use Rattle.disk_face.specs.declared.step.Piece.{Piece}
use Rattle.disk_face.specs.declared.step.Step.TheVariants.{Refused}
use Rattle.disk_face.specs.Files.{content}
use Rattle.disk_face.specs.Steps.{History, reads, after}

-- the file is this long
abbrev pub IsSize : Option History → File → ℕ → Type 0
IsSize told file size = IfSome told (λ told. size ≡ length (content (reads told) file))

-- so many bytes from this place on are inside the file
abbrev pub IsInside : Option History → File → ℕ → ℕ → Type 0
IsInside told file at count = IfSome told (λ told. at + count ≤ length (content (reads told) file))

-- the file has these bytes from this place on
abbrev pub IsRead : Option History → File → ℕ → List ℕ → Type 0
IsRead told file at bytes = IfSome told (λ told. bytes ≡ take (length bytes) (drop at (content (reads told) file)))

-- A write of the piece was refused. Either nothing of it came to the file, or at most its range may have changed, and
-- the file is as long as before or ends inside the range.
abbrev pub Refuses : Piece → Option History → Option History → Type 0
Refuses piece before later = (later ≡ before) ⊎ ((left : List ℕ) × (length left ≤ length piece.bytes) × (later ≡ after (Refused piece left) before))

-- the journal's answer is this one
abbrev pub IsAnswer : Option Bool → Bool → Type 0
IsAnswer told hot = IfSome told (λ answer. hot ≡ answer)

-- the files were named by this path
abbrev pub IsNamed : Option (List ℕ) → List ℕ → Type 0
IsNamed told path = IfSome told (λ name. name ≡ path)
