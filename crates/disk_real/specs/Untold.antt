-- What is told of bytes where nothing is: the traits' clauses on bytes say nothing there.
use Rattle.std.specs.Prelude.{ℕ, List, Option, None}
use Rattle.disk_face.specs.Steps.{History}

-- of the bytes of a disk
abbrev pub untold : Option History
untold = None

-- of the bytes of a source or a sink
abbrev pub untold_bytes : Option (List ℕ)
untold_bytes = None
