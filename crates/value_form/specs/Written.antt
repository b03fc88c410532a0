-- The record of a row as it is written: each integer in the shortest of the types 1 to 6, each varint in its shortest
-- spelling. The choice of the types 1 to 6 for 0 and 1 too is this project's own: SQLite writes 8 and 9 there.
use Rattle.std.specs.Prelude.{ℕ, ◌+◌, List, ◌++◌, length}
use Rattle.std.specs.List.{flat_map}
use Rattle.page_spec.specs.Varint.{shortest_varint, shortest_size}
use Rattle.value_form.specs.declared.value.Value.{Value}
use Rattle.value_form.specs.Serial.{type_of, body_of}

-- the serial types of a row
abbrev pub types_text : List Value → List ℕ
types_text row = flat_map (λ value. shortest_varint (type_of value)) row

-- the bytes of a row's values
abbrev pub bodies_text : List Value → List ℕ
bodies_text row = flat_map body_of row

-- The size of a header with so many bytes of serial types: these and the bytes of the size's own varint, which may be one
-- more than the bytes of serial types alone would ask for.
unfoldable pub header_size : ℕ → ℕ
header_size types = types + shortest_size (types + shortest_size types)

-- the record of a row
unfoldable pub record_text : List Value → List ℕ
record_text row = shortest_varint (header_size (length (types_text row))) ++ (types_text row ++ bodies_text row)
