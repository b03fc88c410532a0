-- What a schema row's payload tells.
use Rattle.std.specs.Prelude.{ℕ, List, Option, Some, None}
use Rattle.value_form.specs.declared.value.Value.{Value}
use Rattle.value_form.specs.Record.{IsRecord}
use Rattle.sound_spec.specs.Schema.{IsSchemaRow}

-- What is told of a schema row's payload: the root that it names, 0 for none, or that it is no schema row.
abbrev pub TellsRoot : (last : ℕ) → List ℕ → Option ℕ → Type 0
TellsRoot last bytes (Some root) = (row : List Value) × IsRecord bytes row × IsSchemaRow last row root
TellsRoot last bytes None = (row : List Value) → IsRecord bytes row → (root : ℕ) → IsSchemaRow last row root → ⊥
