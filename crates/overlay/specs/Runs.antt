-- A run of items, as it grows or as it was handed back.
use Rattle.std.specs.Prelude.{ℕ, ◌-◌, Bool, true, false, List, length, vec_capacity}
use Rattle.overlay.specs.declared.run.Run.{Run}
use Rattle.overlay.specs.declared.run.Run.TheVariants.{Open, Frozen}

-- all its items
abbrev pub items_in : {T : Type 0} → Run T → List T
items_in (Open items) = items.items
items_in (Frozen items) = items

-- for how many items more it has room
abbrev pub room_in : {T : Type 0} → Run T → ℕ
room_in (Open items) = vec_capacity items - length items.items
room_in (Frozen items) = 0

-- items can be put between the others
abbrev pub run_is_open : {T : Type 0} → Run T → Bool
run_is_open (Open items) = true
run_is_open (Frozen items) = false
