-- A transaction that has just begun is ready.
use Rattle.std.proofs.Common.{◌≡◌, ℕ, length, refl, sym, subst}
use Rattle.std.proofs.lemmas.List.Elements.{All-nil}
use Rattle.engine_spec.specs.declared.commits.Mode.{Mode}
use Rattle.engine_spec.specs.declared.commits.PageImage.{PageImage}
use Rattle.engine_spec.specs.declared.pins.Pin.{Pin}
use Rattle.page_face.specs.declared.engine_tells.EngineTells.{Ghosts}
use Rattle.page_face.specs.Pins.{IsLive}
use Rattle.overlay.specs.Overlay.{OverlayState, overlay_begun, no_change}
use Rattle.overlay.specs.Live.{AreWhole, IsOfPin}

bare : (size : ℕ) (mode : Mode) (base : ℕ) → AreWhole size (no_change mode base)
bare size mode base = record { changed = All-nil (λ (image : PageImage). length image.bytes ≡ size); fresh = All-nil (λ (image : PageImage). length image.bytes ≡ size) }

pub begun_ready : {E M : Type 0} (told : Ghosts E M) (engine : E) (pin : Pin) (mode : Mode) (overlay : OverlayState) → IsLive told.live engine pin
    → overlay ≡ overlay_begun pin mode → IsOfPin told engine pin overlay
begun_ready told engine pin mode overlay live is =
    subst (IsOfPin told engine pin) (sym is) (record {
      hold = live;
      snap = refl;
      base = refl;
      whole = bare (told.state engine).page_size mode pin.size;
      marked = tt;
    })
