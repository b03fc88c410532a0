-- What a caller keeps of a cursor while pages are only read, and what is to come of a new one.
use Rattle.std.proofs.Common.{ℕ, Bool, true, List, [], ◌++◌, ◌∷◌, ◌<ℤ◌, subst, sym, arith}
use Rattle.page_spec.specs.View.{View}
use Rattle.page_face.specs.declared.pages_tells.PagesTells.{Ghosts}
use Rattle.page_face.specs.Pages.{ReadsAtMost}
use Rattle.tree_spec.specs.Layout.{Item, KeysRise}
use Rattle.tree_spec.specs.Shown.{Shown}
use Rattle.tree_spec.specs.Trees.{IsTree}
use Rattle.tree_spec.proofs.Rising.{tree_rises}
use Rattle.tree_read.proofs.Around.{each_first}
use Rattle.overflow.specs.Following.{shown_over}
use Rattle.tree_scan.specs.declared.bounds.Bounds.{Bounds}
use Rattle.tree_scan.specs.declared.cursor.Cursor.{Cursor}
use Rattle.tree_scan.specs.Bounded.{of_table, AreFrom, AreUpTo}
use Rattle.tree_scan.specs.Coming.{ToCome, AreToCome, IsNewCursor}
use Rattle.tree_scan.specs.Scanning.{AreLevels, Fits}
use Rattle.tree_scan.proofs.Shows.{levels_later, to_now}

-- a new cursor fits any pages
pub fits_new : {P : Type 0} (pages : Ghosts P) (now : P) (root : ℕ) (bounds : Bounds) (cursor : Cursor) → IsNewCursor root bounds cursor → Fits pages now cursor
fits_new pages now root bounds cursor new = subst (AreLevels (of_table cursor.bounds) pages now) (sym new.levels) (tt, omega arith)

-- where its root has a tree, the items in the bounds are to come
pub to_come_new : (usable last : ℕ) (shown : Shown) (height root : ℕ) (bounds : Bounds) (cursor : Cursor) (own : List ℕ) (items ahead some : List Item) → IsNewCursor root bounds cursor
    → IsTree (of_table bounds) usable last shown height root own items → AreFrom bounds items ahead → AreUpTo bounds ahead some
    → AreToCome usable last shown height cursor ahead some
to_come_new usable last shown height root bounds cursor own items ahead some new tree from up_to =
    subst (λ (b : Bool). ToCome b usable last shown height cursor ahead some) (sym new.begun) (record {
      own = own;
      items = items;
      tree = subst (λ (d : Bounds). IsTree (of_table d) usable last shown height cursor.root own items) (sym new.bounds_are)
          (subst (λ (p : ℕ). IsTree (of_table bounds) usable last shown height p own items) (sym new.root_is) tree);
      from = subst (λ (d : Bounds). AreFrom d items ahead) (sym new.bounds_are) from;
      up_to = subst (λ (d : Bounds). AreUpTo d ahead some) (sym new.bounds_are) up_to;
    })

-- it fits them still where they were only read
pub fits_later : {P : Type 0} (pages : Ghosts P) (old now : P) (cursor : Cursor) → ReadsAtMost pages old now → Fits pages old cursor → Fits pages now cursor
fits_later pages old now cursor reading fits = levels_later (of_table cursor.bounds) pages old now cursor.levels.items reading fits

-- and the same is to come
pub to_come_later : {P : Type 0} (pages : Ghosts P) (old now : P) (cursor : Cursor) (world : View) (bound height : ℕ) (ahead some : List Item)
    → ReadsAtMost pages old now → pages.tells now world → AreToCome (pages.usable old) bound (shown_over pages old world) height cursor ahead some
    → AreToCome (pages.usable now) bound (shown_over pages now world) height cursor ahead some
to_come_later pages old now cursor world bound height ahead some reading told coming =
    to_now pages old now (λ (u : ℕ) (s : Shown). AreToCome u bound s height cursor ahead some) world reading told coming

rise_first : (a b : List Item) → KeysRise (a ++ b) → KeysRise a
rise_first [] b rise = tt
rise_first (item ∷ a) b rise = (each_first (λ (other : Item). item.key <ℤ other.key) a b rise.0, rise_first a b rise.1)

rise_last : (a b : List Item) → KeysRise (a ++ b) → KeysRise b
rise_last [] b rise = rise
rise_last (item ∷ a) b rise = rise_last a b rise.1

-- of a table what is in the bounds has rising keys
pub rises : (usable last : ℕ) (shown : Shown) (height root : ℕ) (bounds : Bounds) (own : List ℕ) (items ahead some : List Item) → IsTree true usable last shown height root own items
    → AreFrom bounds items ahead → AreUpTo bounds ahead some → KeysRise some
rises usable last shown height root bounds own items ahead some tree from up_to =
    rise_first some up_to.back (subst KeysRise up_to.items_are (rise_last from.front ahead (subst KeysRise from.items_are (tree_rises usable last shown height root own items tree))))
