-- The record of the calls that were made.
use Rattle.std.specs.Prelude.{◌≡◌, ◌⊎◌, List, [], ◌∷◌, ◌++◌}
use Rattle.disk_mem.specs.declared.plan.Made.{Made}

-- The record with one call more at its end.
abbrev pub with_call : Made → List Made → List Made
with_call call made = made ++ call ∷ []

-- The record has one call more, or there was no memory to note it.
abbrev pub NotesIfAble : Made → List Made → List Made → Type 0
NotesIfAble call before after = (after ≡ with_call call before) ⊎ (after ≡ before)
