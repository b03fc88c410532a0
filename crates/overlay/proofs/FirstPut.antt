-- Page 1 put as it is.
use Rattle.std.proofs.Common.{◌≡◌, ◌∙◌, ℕ, ◌≤◌, List, Some, true, sym, ap, inl, inr, eq-eqb}
use Rattle.std.specs.Prelude.{is_some}
use Rattle.std.proofs.lemmas.Bool.{cases_eq, le-ltb}
use Rattle.page_spec.specs.View.{View, view_with}
use Rattle.engine_spec.specs.Change.{image_of}
use Rattle.overlay.specs.Overlay.{OverlayState, own_image, first_in_overlay}
use Rattle.overlay.proofs.ImageLaws.{image_put}
use Rattle.overlay.proofs.FreeOver.{other_than}

pub same_first : (view : View) (bytes : List ℕ) (number : ℕ) → bytes ≡ view 1 → view_with view 1 bytes number ≡ view number
same_first view bytes number is = elim (cases_eq number 1) [
  | inl same ↦ rw (eq-eqb number 1 same) (is ∙ ap view (sym same))
  | inr apart ↦ other_than view 1 bytes number apart
]

pub own_first : (overlay : OverlayState) (bytes : List ℕ) → 1 ≤ overlay.change.base → own_image (first_in_overlay overlay bytes).change 1 ≡ Some bytes
own_first overlay bytes some = rw (le-ltb overlay.change.base 1 some) (image_put overlay.change.changed 1 bytes)

pub since_first : (overlay : OverlayState) (bytes : List ℕ) → is_some (image_of (first_in_overlay overlay bytes).since 1) ≡ true
since_first overlay bytes = ap is_some (image_put overlay.since 1 bytes)
