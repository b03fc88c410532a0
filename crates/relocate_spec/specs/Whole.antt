-- The map that a commit leaves of the current map and a transaction's change, and the pages that it writes.
--
-- In steps: new pages get their numbers; pointers to them are renumbered; the changed and the new pages are put over the map; the freed pages
-- join the freelist; and page 1's header fields are set.
use Rattle.std.specs.Prelude.{ℕ, zero, suc, ◌+◌, ◌-◌, nat_lt, if◌then◌else◌, Bool, List, [], ◌∷◌, ◌++◌, length, replicate}
use Rattle.page_spec.specs.PageMap.{PageMap, page_at, page_size_of, reserved_of}
use Rattle.page_spec.specs.View.{View, view_of, view_with}
use Rattle.engine_spec.specs.declared.commits.Mode.{Mode}
use Rattle.engine_spec.specs.declared.commits.Mode.TheVariants.{Plain, Concurrent}
use Rattle.engine_spec.specs.declared.commits.PageImage.{PageImage}
use Rattle.engine_spec.specs.Change.{Change, laid_page}
use Rattle.relocate_spec.specs.Numbers.{numbers_given, new_number, without, numbers_of}
use Rattle.relocate_spec.specs.Renumbered.{renumbered}
use Rattle.relocate_spec.specs.Joining.{Joining, free_in, pages_joined, headed}

-- how many bytes of each page are in use
abbrev pub usable_of : PageMap → ℕ
usable_of pages = page_size_of pages - reserved_of pages

-- The new pages that are laid: those that weren't freed again. A plain transaction's keep their numbers, those freed again too.
abbrev pub laid_new : Change → List PageImage
laid_new change = without change.freed change.fresh

-- the numbers that the new pages get
abbrev pub given_by : Mode → (last : ℕ) (own : List ℕ) → List ℕ
given_by Plain last own = own
given_by Concurrent last own = numbers_given last (length own)

-- the number that each page has after the commit
abbrev pub names : PageMap → Change → ℕ → ℕ
names pages change = new_number (numbers_of (laid_new change)) (given_by change.mode (length pages) (numbers_of (laid_new change)))

-- How many new pages there are after the commit: a plain transaction's that were freed again are there, as free ones.
abbrev pub made_by : Mode → Change → ℕ
made_by Plain change = length change.fresh
made_by Concurrent change = length (laid_new change)

-- the number of the last page after the commit
abbrev pub last_laid : PageMap → Change → ℕ
last_laid pages change = length pages + made_by change.mode change

-- a view with these pages put over it: of page 1 only what the transaction sets there
abbrev pub put_over : Mode → (tail : Bool) → View → List PageImage → View
put_over mode tail view [] = view
put_over mode tail view (image ∷ images) =
    put_over mode tail (view_with view image.page (laid_page mode tail image.page (view image.page) image.bytes)) images

-- the pages that are put over the map: the changed ones, and then the new ones, with their pointers renumbered
abbrev pub pages_put : PageMap → Change → List PageImage
pages_put pages change =
    renumbered (names pages change) (usable_of pages) change.changed ++ renumbered (names pages change) (usable_of pages) (laid_new change)

-- the view with these pages cleared: a new page that was freed again isn't on the disk yet
abbrev pub cleared : (size : ℕ) → View → List ℕ → View
cleared size view [] = view
cleared size view (page ∷ pages) = cleared size (view_with view page (replicate size 0)) pages

-- the freed pages that are new, and those that are old
abbrev pub freed_new : (base : ℕ) → List ℕ → List ℕ
freed_new base [] = []
freed_new base (page ∷ pages) = if nat_lt base page then page ∷ freed_new base pages else freed_new base pages

abbrev pub freed_old : (base : ℕ) → List ℕ → List ℕ
freed_old base [] = []
freed_old base (page ∷ pages) = if nat_lt base page then freed_old base pages else page ∷ freed_old base pages

-- which of the freed pages join the freelist: a plain transaction's new ones too
abbrev pub freed_by : Mode → (base : ℕ) → List ℕ → List ℕ
freed_by Plain base freed = freed
freed_by Concurrent base freed = freed_old base freed

abbrev pub cleared_by : Mode → (base : ℕ) → List ℕ → List ℕ
cleared_by Plain base freed = freed_new base freed
cleared_by Concurrent base freed = []

-- The view once the pages are put. Its page 1 names the freelist: the current map's, or as the takes of a plain transaction left it.
abbrev pub placed_on : PageMap → Change → View
placed_on pages change =
    cleared (page_size_of pages) (put_over change.mode change.tail (view_of pages) (pages_put pages change)) (cleared_by change.mode change.base change.freed)

-- the view with the freed pages in its freelist
abbrev pub joined_on : PageMap → Change → Joining
joined_on pages change =
    pages_joined (page_size_of pages) (usable_of pages) (free_in (placed_on pages change)) (freed_by change.mode change.base change.freed)

-- the view that the commit leaves
abbrev pub view_laid : PageMap → Change → View
view_laid pages change = headed (last_laid pages change) (joined_on pages change)

-- so many pages of a view, from this one on
abbrev pub pages_from : View → (number count : ℕ) → PageMap
pages_from view number zero = []
pages_from view number (suc count) = view number ∷ pages_from view (number + 1) count

-- The map that the commit leaves.
abbrev pub laid_on : PageMap → Change → PageMap
laid_on pages change = pages_from (view_laid pages change) 1 (last_laid pages change)

-- The pages that the commit writes, in any order: page 1, the changed pages, the laid new ones, a plain transaction's that were freed again, and
-- the trunks that were changed or made. A page may stand here more than once; it is written once.
abbrev pub written_on : PageMap → Change → List ℕ
written_on pages change =
    1 ∷ (numbers_of (pages_put pages change) ++ (cleared_by change.mode change.base change.freed ++ (joined_on pages change).trunks))
