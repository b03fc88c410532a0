-- What is said of a reader on its way through a record.
use Rattle.std.specs.Prelude.{◌≡◌, ℕ, ◌-◌, ◌^◌, ◌<◌, ◌≤◌, min, List, length, Some, None}
use Rattle.value_form.specs.declared.fault.RecordFault.{RecordFault}
use Rattle.value_form.specs.declared.fault.RecordFault.TheVariants.{BadHeader, Short, Float, Memory}
use Rattle.value_form.specs.declared.read.Taken.{Taken}
use Rattle.value_form.specs.Record.{bodies_size, first_float, values_of}

-- what the values of these types gave
pub record IsTakenOf (taken : Taken) (types bodies : List ℕ) : Type 0 where
  pub need_is : taken.need ≡ min (bodies_size types) (2 ^ 64 - 1)
  pub float_is : bodies_size types ≤ length bodies → taken.float ≡ first_float types
  pub row_is : bodies_size types ≤ length bodies → first_float types ≡ None → taken.row ≡ values_of types bodies

-- the fault that is left once all serial types are taken
abbrev pub IsLeft : Taken → List ℕ → RecordFault → Type 0
IsLeft taken bodies (BadHeader at) = ⊥
IsLeft taken bodies (Short need) = (length bodies < taken.need) × (need ≡ taken.need)
IsLeft taken bodies (Float column) = (taken.need ≤ length bodies) × (taken.float ≡ Some column)
IsLeft taken bodies Memory = ⊥
