-- What is said of a writer on its way.
use Rattle.std.specs.Prelude.{◌≡◌, ℕ, ◌^◌, ◌<◌, List, ◌++◌, FitsSigned}
use Rattle.std.specs.Int.{w64}
use Rattle.value_form.specs.declared.value.Value.{Value}
use Rattle.value_form.specs.Order.{integer}
use Rattle.value_form.specs.Serial.{type_of}

-- the value's serial type fits a varint, and an integer fits 64 bits
pub record IsWritable (value : Value) : Type 0 where
  pub type_fits : type_of value < 2 ^ 64
  pub integer_fits : FitsSigned w64 (integer value)

-- bytes were appended at most
abbrev pub Extends : List ℕ → List ℕ → Type 0
Extends old new = (more : List ℕ) × (new ≡ old ++ more)
