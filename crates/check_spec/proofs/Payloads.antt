-- What the walk of chains says, and with them the items of cells: their payloads are whole, and those of page 1's tree name their roots.
use Rattle.std.proofs.Common.{◌≡◌, ℕ, zero, suc, ◌-◌, ◌<◌, ◌≤◌, ◌==◌, nat_lt, if◌then◌else◌, Bool, true, false, List, [], ◌∷◌, ◌++◌, length, None, refl, subst, ap, ap₂, ◌∙◌, arith}
use Rattle.std.proofs.lemmas.Bool.{eqb-true}
use Rattle.std.proofs.lemmas.Bool.Decides.{nat_tests}
use Rattle.std.proofs.lemmas.Grind.{common_steps}
use Rattle.std.proofs.lemmas.List.{append-nil}
use Rattle.page_spec.specs.Bytes.{u32_at}
use Rattle.node_spec.specs.Cells.{NodeCell}
use Rattle.node_spec.proofs.FaultLaws.{unless_none}
use Rattle.tree_spec.specs.Layout.{Each, Item, chains}
use Rattle.tree_spec.specs.Shown.{Shown}
use Rattle.tree_spec.specs.Chains.{chain_bytes}
use Rattle.tree_spec.specs.Trees.{IsItem}
use Rattle.tree_spec.proofs.Once.{chain_once}
use Rattle.sound_spec.specs.Schema.{NamesRoot, with_root, NameRoots}
use Rattle.check_spec.specs.Forms.{is_inside, link_fault}
use Rattle.check_spec.specs.Walk.{Database, Place, Past, link_places, payload_places, leaf_places, with_met}
use Rattle.check_spec.proofs.CellsFit.{IsNumberOf, inside_is, CellFits}
use Rattle.check_spec.proofs.Told.{shown_of, AddsPages, adds_join, adds_end, none_both, HasLinks, SayAll, say_split}
use Rattle.check_spec.proofs.FreePages.{adds_page}

-- the pages of a chain of so many bytes
pub links_say : (db : Database) (first size : ℕ) (before after : Past) (named : List ℕ) → (size ≡ 0 → first ≡ 0) → (0 < size → IsNumberOf db.last first)
    → SayAll db (link_places first size) before after named → HasLinks db first size before after × (named ≡ [])
links_say db first zero before after named none some said = (record { pages = []; chain = (refl, none refl); adds = said.0 }, said.1)
links_say db first (suc n) before after named none some (mid, one, behind, here, more, is) =
    let links = here (some (omega arith)) (omega arith) in (
      record { pages = links.0.pages; chain = links.0.chain; adds = adds_end before mid after links.0.pages links.0.adds more.0 },
      none_both named one behind is links.1 more.1,
    )

-- a page without a fault names a next one just where bytes are to come
link_is : (usable last left : ℕ) (page : List ℕ) → link_fault usable last left page ≡ None
    → (left - (usable - 4) ≡ 0 → u32_at page 0 ≡ 0) × (0 < left - (usable - 4) → IsNumberOf last (u32_at page 0))
unfolding link_fault
link_is usable last left page none =
    let is = unless_none (if nat_lt (usable - 4) left then is_inside last (u32_at page 0) else (u32_at page 0 == 0)) 0 none in (
      λ over.
          let less : left ≤ usable - 4 = omega (arith, over) in
          let test : nat_lt (usable - 4) left ≡ false = grind (arith, common_steps, nat_tests) in
          let there = rw test at is in eqb-true (u32_at page 0) 0 there,
      λ more.
          let less : usable - 4 < left = omega (arith, more) in
          let test : nat_lt (usable - 4) left ≡ true = grind (arith, common_steps, nat_tests) in
          let there = rw test at is in inside_is last (u32_at page 0) there,
    )

-- A page of a chain in order, with those behind it.
pub link_says : (db : Database) (page left : ℕ) (past after : Past) (named : List ℕ) → link_fault db.usable db.last left (db.view page) ≡ None
    → SayAll db (link_places (u32_at (db.view page) 0) (left - (db.usable - 4))) (with_met past page) after named
    → IsNumberOf db.last page → 0 < left → HasLinks db page left past after × (named ≡ [])
link_says db page left past after named none said range some =
    let is = link_is db.usable db.last left (db.view page) none in
    let rest = links_say db (u32_at (db.view page) 0) (left - (db.usable - 4)) (with_met past page) after named is.0 is.1 said in (
      record {
        pages = page ∷ rest.0.pages;
        chain = (some, refl, range.0, range.1, rest.0.chain);
        adds = adds_join past (with_met past page) after (page ∷ []) rest.0.pages (adds_page past page) rest.0.adds;
      },
      rest.1,
    )

-- an item of page 1's tree names its root, and another none
abbrev pub ItemNames : (schema : Bool) (last : ℕ) → Item → (named : List ℕ) → Type 0
ItemNames false last item named = named ≡ []
ItemNames true last item named = (root : ℕ) × NamesRoot last item root × (named ≡ with_root root [])

abbrev pub ItemsName : (schema : Bool) (last : ℕ) → List Item → (named : List ℕ) → Type 0
ItemsName false last items named = named ≡ []
ItemsName true last items named = NameRoots last items named

-- A cell's item, whose chain was met.
pub record HasPayload (db : Database) (schema : Bool) (cell : NodeCell) (before after : Past) (named : List ℕ) : Type 0 where
  pub item : Item
  pub is_item : IsItem db.usable db.last (shown_of db) cell item
  pub adds : AddsPages before after item.chain
  pub names : ItemNames schema db.last item named

pub payload_says : (db : Database) (schema leaf : Bool) (cell : NodeCell) (before after : Past) (named : List ℕ) → CellFits db.last leaf cell
    → SayAll db (payload_places schema cell) before after named → HasPayload db schema cell before after named
payload_says db false leaf cell before after named fits said =
    let size = cell.payload - length cell.local in
    let links = links_say db cell.overflow size before after named fits.none fits.chain said in
    record {
      item = record { key = cell.rowid; bytes = cell.local ++ chain_bytes db.usable (shown_of db) links.0.pages size; chain = links.0.pages };
      is_item = record { key = refl; chain = links.0.chain; bytes = refl };
      adds = links.0.adds;
      names = links.1;
    }
payload_says db true leaf cell before after named fits said =
    let size = cell.payload - length cell.local in
    let both = say_split db (link_places cell.overflow size) (Place.AtRow cell ∷ []) before after named said in
    let links = links_say db cell.overflow size before both.mid both.first fits.none fits.chain both.front in
    let (mid, first, behind, row, more, is) = both.back in
    let (item, root, is_item, names, adds, is_named) = row in
    let same = chain_once db.usable db.last (shown_of db) cell.overflow size links.0.pages item.chain links.0.chain is_item.chain in
    record {
      item = item;
      is_item = is_item;
      adds = subst (λ (l : List ℕ). AddsPages before after l) same
          (adds_end before mid after links.0.pages (adds_end before both.mid mid links.0.pages links.0.adds adds) more.0);
      names = (
        root,
        names,
        both.named_is ∙ ap₂ (λ (a : List ℕ) (b : List ℕ). a ++ b) links.1
            (is ∙ ap₂ (λ (a : List ℕ) (b : List ℕ). a ++ b) is_named more.1 ∙ append-nil (with_root root [])),
      );
    }

-- these items are what these cells hold, in order
abbrev pub AreHeld : (usable last : ℕ) → Shown → List NodeCell → List Item → Type 0
AreHeld usable last shown [] [] = Unit {0}
AreHeld usable last shown [] (item ∷ items) = ⊥
AreHeld usable last shown (cell ∷ cells) [] = ⊥
AreHeld usable last shown (cell ∷ cells) (item ∷ items) = IsItem usable last shown cell item × AreHeld usable last shown cells items

none_named : (schema : Bool) (last : ℕ) (named : List ℕ) → named ≡ [] → ItemsName schema last [] named
none_named false last named none = none
none_named true last named none = none

root_behind : (root : ℕ) (others : List ℕ) → with_root root [] ++ others ≡ with_root root others
root_behind zero others = refl
root_behind (suc n) others = refl

more_named : (schema : Bool) (last : ℕ) (item : Item) (items : List Item) (named first behind : List ℕ) → named ≡ first ++ behind
    → ItemNames schema last item first → ItemsName schema last items behind → ItemsName schema last (item ∷ items) named
more_named false last item items named first behind is one more = none_both named first behind is one more
more_named true last item items named first behind is (root, names, first_is) more =
    (root, behind, names, is ∙ ap (λ (l : List ℕ). l ++ behind) first_is ∙ root_behind root behind, more)

-- The items of a leaf's cells, whose chains were met.
pub record HasPayloads (db : Database) (schema : Bool) (cells : List NodeCell) (before after : Past) (named : List ℕ) : Type 0 where
  pub items : List Item
  pub are : AreHeld db.usable db.last (shown_of db) cells items
  pub adds : AddsPages before after (chains items)
  pub names : ItemsName schema db.last items named

pub payloads_say : (db : Database) (schema leaf : Bool) (cells : List NodeCell) (before after : Past) (named : List ℕ) → Each (CellFits db.last leaf) cells
    → SayAll db (leaf_places schema cells) before after named → HasPayloads db schema cells before after named
payloads_say db schema leaf [] before after named fit said = record { items = []; are = tt; adds = said.0; names = none_named schema db.last named said.1 }
payloads_say db schema leaf (cell ∷ cells) before after named fit said =
    let both = say_split db (payload_places schema cell) (leaf_places schema cells) before after named said in
    let one = payload_says db schema leaf cell before both.mid both.first fit.0 both.front in
    let rest = payloads_say db schema leaf cells both.mid after both.behind fit.1 both.back in
    record {
      items = one.item ∷ rest.items;
      are = (one.is_item, rest.are);
      adds = adds_join before both.mid after one.item.chain (chains rest.items) one.adds rest.adds;
      names = more_named schema db.last one.item rest.items named both.first both.behind both.named_is one.names rest.names;
    }
