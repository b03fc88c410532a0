-- A log header that is written.
use Rattle.std.specs.Prelude.{ℕ, IsTrue}
use Rattle.page_spec.specs.Header.{is_page_size}
use Rattle.log_spec.specs.LogHeader.{is_generation}
use Rattle.log_spec.specs.Written.{IsHeaderOf}
use Rattle.wal_frames.specs.Front.{fields_for}
use Rattle.log_pair.specs.declared.header.NewHeader.{NewHeader}

-- In a log in which its generation is one, the bytes are those of the header.
abbrev pub IsSigned : NewHeader → Type 0
IsSigned new = (log : ℕ) → IsTrue (is_page_size new.header.page_size) → IsTrue (is_generation log new.header.generation) → IsHeaderOf log (fields_for new.header) new.bytes
