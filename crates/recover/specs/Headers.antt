-- The first salts and the generations of a log's headers.
use Rattle.std.specs.Prelude.{ℕ, ◌+◌, ◌%◌, nat_lt, if◌then◌else◌}
use Rattle.disk_face.specs.declared.disk.File.{File}
use Rattle.disk_face.specs.declared.disk.File.TheVariants.{Log1, Log2}
use Rattle.wal_frames.specs.declared.header.Front.{Front}
use Rattle.wal_frames.specs.declared.header.Front.TheVariants.{Nothing, Foreign, Ours}

-- the last first salt of a log, 0 where it has no header of ours
abbrev pub last_salt : Front → ℕ
last_salt Nothing = 0
last_salt (Foreign version at) = 0
last_salt (Ours header) = header.salt1

-- its generation, likewise
abbrev pub generation_in : Front → ℕ
generation_in Nothing = 0
generation_in (Foreign version at) = 0
generation_in (Ours header) = header.generation

-- the least even number from two more than this one on
abbrev pub next_even : ℕ → ℕ
next_even newest = newest + 2 + newest % 2

-- the log that is begun anew first: the one of lower generation, log 2 where both have none
abbrev pub first_of : Front → Front → File
first_of one two = if nat_lt (generation_in one) (generation_in two) then Log1 else Log2
