-- Which pages were met, told by a bit for each.
use Rattle.std.specs.Prelude.{◌≡◌, ℕ, zero, suc, ◌+◌, ◌/◌, ◌%◌, ◌^◌, ◌≤◌, ◌==◌, if◌then◌else◌, Bool, true, false, List, length, slice_index}
use Rattle.std.specs.Int.RustNames.{bit_and}
use Rattle.tree_spec.specs.Layout.{times}

-- the bit of a page is set: bit p % 8 of byte p / 8
unfoldable pub is_met : (bits : List ℕ) → (page : ℕ) → Bool
is_met bits page = if bit_and (slice_index bits (page / 8)) (2 ^ (page % 8)) == 0 then false else true

-- how many pages from 1 to a number have theirs set
abbrev pub met_up_to : (bits : List ℕ) → (number : ℕ) → ℕ
met_up_to bits zero = 0
met_up_to bits (suc n) = (if is_met bits (suc n) then 1 else 0) + met_up_to bits n

-- The bits are those of the pages up to the last one, and those of the pages in this list are set, which has each page once.
pub record ShowMet (bits : List ℕ) (last : ℕ) (met : List ℕ) : Type 0 where
  pub set : (page : ℕ) → page ≤ last → is_met bits page ≡ true → 1 ≤ times met page
  pub unset : (page : ℕ) → page ≤ last → is_met bits page ≡ false → times met page ≡ 0
  pub counted : met_up_to bits last ≡ length met
