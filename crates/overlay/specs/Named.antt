-- Page 1 as a transaction has it, and the freelist that it names.
use Rattle.std.specs.Prelude.{◌≡◌, ℕ, ◌<◌, ◌≤◌, true, is_some, List, Some}
use Rattle.page_spec.specs.Bytes.{u32_at}
use Rattle.engine_spec.specs.Change.{image_of}
use Rattle.freelist.specs.declared.free.Free.{Free}
use Rattle.overlay.specs.Overlay.{OverlayState, own_image, last_page}
use Rattle.overlay.specs.FreeNumbers.{trunk_field, count_field}

-- A transaction has put page 1 since the mark, with these bytes; they name a freelist that has a page, from a trunk in range on.
pub record IsNamedIn (overlay : OverlayState) (first : List ℕ) (free : Free) : Type 0 where
  pub base : 1 ≤ overlay.change.base
  pub own : own_image overlay.change 1 ≡ Some first
  pub since : is_some (image_of overlay.since 1) ≡ true
  pub trunk : u32_at first trunk_field ≡ free.trunk
  pub count : u32_at first count_field ≡ free.count
  pub some : 0 < free.count
  pub low : 2 ≤ free.trunk
  pub high : free.trunk ≤ last_page overlay.change
