-- What is laid on page 1.
use Rattle.std.specs.Prelude.{◌≡◌, ℕ, Bool, List, [], Option, Some, None}
use Rattle.engine_spec.specs.declared.commits.Mode.{Mode}
use Rattle.engine_spec.specs.declared.commits.PageImage.{PageImage}
use Rattle.engine_spec.specs.Change.{Change, laid_first}

-- a change of these pages, which makes and frees none
pub record IsChangeOf (mode : Mode) (tail : Bool) (changed : List PageImage) (change : Change) : Type 0 where
  pub is_mode : change.mode ≡ mode
  pub is_tail : change.tail ≡ tail
  pub is_changed : change.changed ≡ changed
  pub fresh : change.fresh ≡ []
  pub freed : change.freed ≡ []

-- page 1 after a change of it, if there is one
abbrev pub put_first : Mode → Bool → Option (List ℕ) → List ℕ → List ℕ
put_first mode tail None old = old
put_first mode tail (Some new) old = laid_first mode tail old new
