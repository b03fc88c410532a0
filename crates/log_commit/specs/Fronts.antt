-- What is known of a log's headers and of what stands behind them.
use Rattle.std.specs.Prelude.{ℕ, All}
use Rattle.disk_face.specs.declared.disk.File.{File}
use Rattle.disk_face.specs.Files.{content}
use Rattle.disk_face.specs.Steps.{History, reads}
use Rattle.log_spec.specs.LogHeader.{header_bytes}
use Rattle.crash_spec.specs.Opening.{Opening}
use Rattle.crash_spec.specs.Known.{known_pieces}
use Rattle.crash_spec.specs.Logs.{IsOnlyHeader, AreBehind, IsOursAt}

-- Only the header that stands at the log's front is known there, each that is known there is ours, and what is known behind it has this
-- first salt, or one that is at most so many behind.
pub record HasFront (opening : Opening) (told : History) (log : File) (salt most : ℕ) : Type 0 where
  pub only : IsOnlyHeader (known_pieces opening told) log (header_bytes (content (reads told) log))
  pub behind : AreBehind (known_pieces opening told) log salt most
  pub ours : All (IsOursAt log) (known_pieces opening told)
