-- What a transaction keeps of the pages of its snapshot: those that it read, and what it changed.
use Rattle.std.specs.Prelude.{◌≡◌, ℕ, ◌+◌, ◌^◌, ◌<◌, ◌≤◌, ◌==◌, ◌||◌, if◌then◌else◌, nat_lt, Bool, false, is_some, List, [], ◌∷◌, length, replicate, Contains, All, Option, None, IfSome, unwrap_or}
use Rattle.page_spec.specs.View.{View}
use Rattle.engine_spec.specs.declared.pins.Pin.{Pin}
use Rattle.engine_spec.specs.declared.commits.Mode.{Mode}
use Rattle.engine_spec.specs.declared.commits.Mode.TheVariants.{Plain, Concurrent}
use Rattle.engine_spec.specs.declared.commits.PageImage.{PageImage}
use Rattle.engine_spec.specs.Change.{Change, image_of}
use Rattle.engine_spec.specs.PageSet.{with_page}
use Rattle.page_face.specs.declared.prepared.Prepared.{Prepared}
use Rattle.page_face.specs.Prepared.{change_in}
use Rattle.overlay.specs.Places.{image_numbers, RisesFrom, AreNumbered}
use Rattle.overlay.specs.Images.{with_put}

-- The snapshot, the pages of it that were read, what was changed, what had been changed at a mark, where one is open, the pages of the
-- snapshot that were put since the last mark, of which each can be put again without memory, and whether an accepted statement changed
-- anything.
pub record OverlayState : Type 0 where
  pub snap : ℕ
  pub reads : List ℕ
  pub change : Change
  pub marked : Option Change
  pub since : List PageImage
  pub wrote : Bool

-- how a transaction reads from the start: a plain one has read page 1, which every commit writes
abbrev pub first_reads : Mode → List ℕ
first_reads Plain = 1 ∷ []
first_reads Concurrent = []

-- nothing was changed yet
abbrev pub no_change : Mode → ℕ → Change
no_change mode base = record { mode = mode; base = base; changed = []; fresh = []; freed = []; tail = false }

-- a transaction that begins
abbrev pub overlay_begun : Pin → Mode → OverlayState
overlay_begun pin mode = record { snap = pin.n; reads = first_reads mode; change = no_change mode pin.size; marked = None; since = []; wrote = false }

-- the number of the last page
abbrev pub last_page : Change → ℕ
last_page change = change.base + length change.fresh

-- the bytes of a page that was changed or made
abbrev pub own_image : Change → ℕ → Option (List ℕ)
own_image change number = if nat_lt change.base number then image_of change.fresh number else image_of change.changed number

-- whether a page was changed or made
abbrev pub has_own_image : Change → ℕ → Bool
has_own_image change number = is_some (own_image change number)

-- what stands over a world
abbrev pub over_change : Change → View → View
over_change change world number = unwrap_or (own_image change number) (world number)

-- the change with bytes put in the place of a page; whoever puts page 1 changes it from byte 100 on
abbrev pub with_own : Change → ℕ → List ℕ → Change
with_own change page bytes =
    if nat_lt change.base page then record change { fresh = with_put change.fresh page bytes }
    else record change { changed = with_put change.changed page bytes; tail = change.tail || page == 1 }

-- a transaction with bytes put in the place of a page
abbrev pub put_in_overlay : OverlayState → ℕ → List ℕ → OverlayState
put_in_overlay overlay page bytes = record overlay {
  change = with_own overlay.change page bytes;
  since = if nat_lt overlay.change.base page then overlay.since else with_put overlay.since page bytes;
}

-- a transaction with page 1 put as it is but for its freelist fields, which is no change of it from byte 100 on
abbrev pub first_in_overlay : OverlayState → List ℕ → OverlayState
first_in_overlay overlay bytes = record overlay {
  change = record overlay.change { changed = with_put overlay.change.changed 1 bytes };
  since = with_put overlay.since 1 bytes;
}

-- with a new page of so many zero bytes behind the last one
abbrev pub with_new : Change → ℕ → Change
with_new change size = record change { fresh = with_put change.fresh (last_page change + 1) (replicate size 0) }

-- with a page that was given up
abbrev pub with_freed_page : Change → ℕ → Change
with_freed_page change page = record change { freed = with_page change.freed page }

-- The changed pages are of the snapshot, the new ones are numbered on from its end, and those that were given up are among both, page 1
-- aside; each list rises.
pub record IsChangeInOrder (change : Change) : Type 0 where
  pub changed : RisesFrom 0 (image_numbers change.changed)
  pub within : All (λ image. image.page ≤ change.base) change.changed
  pub fresh : AreNumbered change.base (image_numbers change.fresh)
  pub freed : RisesFrom 1 change.freed
  pub there : All (λ page. page ≤ last_page change) change.freed
  pub few : last_page change < 2 ^ 32

-- So is what is kept, and what was at the mark; and a plain transaction has read page 1.
pub record IsOverlayKept (overlay : OverlayState) : Type 0 where
  pub change : IsChangeInOrder overlay.change
  pub marked : IfSome overlay.marked IsChangeInOrder
  pub first : overlay.change.mode ≡ Plain → Contains overlay.reads 1

-- what a transaction that was handed in had kept
abbrev pub overlay_in : {M : Type 0} → Prepared M → OverlayState
overlay_in prepared = record {
  snap = prepared.snap;
  reads = prepared.reads;
  change = change_in prepared;
  marked = None;
  since = [];
  wrote = prepared.wrote;
}
