-- The way down: what is refused below a child, and what was put in and refused since a page was read and a place was sought there.
use Rattle.std.proofs.Common.{◌≡◌, ℕ, suc, ◌≤◌, false, List, [], ◌∷◌, drop, Result, Some, subst}
use Rattle.std.specs.Prelude.{Contains}
use Rattle.page_spec.specs.View.{View}
use Rattle.engine_spec.specs.declared.commits.FetchFault.{FetchFault}
use Rattle.page_face.specs.declared.pages_tells.PagesTells.{Ghosts}
use Rattle.page_face.specs.Pages.{Editing, ReadsAtMost}
use Rattle.node_spec.specs.Kinds.{is_leaf}
use Rattle.node_spec.specs.Nodes.{Node}
use Rattle.page_form.specs.declared.page.Page.{Page}
use Rattle.tree_spec.specs.Layout.{times, Item}
use Rattle.overflow.specs.Following.{shown_over}
use Rattle.overflow.specs.Writing.{BarsWriting}
use Rattle.edit_spec.specs.Places.{first_child}
use Rattle.edit_spec.proofs.Opening.{child_tree}
use Rattle.tree_read.specs.declared.entry.Spot.{Spot}
use Rattle.tree_read.specs.Looking.{HasNode}
use Rattle.tree_keys.specs.Keys.{Sought, is_row}
use Rattle.tree_keys.specs.Spots.{HasSpot}
use Rattle.tree_keys.specs.Standing.{Stands, ThereStands, BarsEdit}
use Rattle.tree_keys.proofs.Since.{reads_all, stands_then, path_begins, of_path}
use Rattle.tree_keys.proofs.Children.{child_in, key_among, there_child, bars_above}
use Rattle.tree_keys.proofs.Refused.{bars_after, bars_first, bars_since}
use Rattle.tree_keys.proofs.Found.{reads_place}
use Rattle.edit_spec.proofs.Lists.{the_page}
use Rattle.tree_insert.specs.declared.fault.InsertFault.{InsertFault}
use Rattle.tree_insert.specs.declared.fault.InsertFault.TheVariants as insert
use Rattle.tree_insert.specs.Inserting.{HadKey, RefusesInsert, PutsUnder}
use Rattle.tree_insert.proofs.Since.{puts_since}

-- a key that is there below a child is there below its page
had_above : {P : Type 0} (pages : Ghosts P) (old new : P) (sought : Sought) (page place : ℕ) (node : Node)
    → ((world : View) → pages.tells new world → (shown_over pages old world).node page ≡ Some node) → is_leaf node.kind ≡ false
    → HadKey pages old sought (first_child (drop place node.cells) node.right) new → HadKey pages old sought page new
had_above pages old new sought page place node holds inner had = record {
  reading = had.reading;
  there = λ world told bound height own items tree.
      let u = pages.usable old in
      let shown = shown_over pages old world in
      let child = first_child (drop place node.cells) node.right in
      let c = child_in (is_row sought) u bound shown height page node place own items (holds world told) inner tree in
      key_among sought c.mine items c.among
      (had.there world told bound c.below c.mine_own c.mine (child_tree (is_row sought) u bound shown c.below child c.mine_own c.mine c.sub));
}

-- What was refused below a child was refused below its page.
pub refused_above : {P : Type 0} (pages : Ghosts P) (old new : P) (sought : Sought) (level page place : ℕ) (node : Node) (why : InsertFault)
    → ((world : View) → pages.tells new world → (shown_over pages old world).node page ≡ Some node) → is_leaf node.kind ≡ false
    → RefusesInsert pages old sought (suc level) (first_child (drop place node.cells) node.right) new why → RefusesInsert pages old sought level page new why
refused_above pages old new sought level page place node insert.Exists holds inner had = had_above pages old new sought page place node holds inner had
refused_above pages old new sought level page place node (insert.Fetch why) holds inner bars = bars_above pages old new sought level page place node why holds inner bars

-- A page couldn't take its child's new siblings.
pub bars_passed : {P : Type 0} (pages : Ghosts P) (old mid new : P) (sought : Sought) (payload : List ℕ) (level page place : ℕ) (node : Node) (news : List (List ℕ)) (why : FetchFault)
    → Editing pages old mid → Editing pages mid new
    → ((world : View) → pages.tells new world → (shown_over pages old world).node page ≡ Some node) → is_leaf node.kind ≡ false
    → ((world : View) → pages.tells mid world → (height : ℕ) (own : List ℕ) (items : List Item)
    → Stands pages old world (is_row sought) height (first_child (drop place node.cells) node.right) own items
    → PutsUnder pages old sought payload (suc level) (first_child (drop place node.cells) node.right) height own items news mid world)
    → BarsWriting pages mid why new → BarsEdit pages old sought level page new why
bars_passed pages old mid new sought payload level page place node news why first second holds inner under bars = bars_after pages old mid new sought level page why first neat bars
  where
    neat : (items : List Item) (there : ThereStands pages old sought level page items new) → pages.neat mid there.world
    neat items there =
        let c = there_child pages old new sought level page place node items holds inner there in
        subst (λ (w : View). pages.neat mid w) c.world_is
        (under c.there.world (second.narrows c.there.world c.there.told) c.there.height c.there.own c.mine c.there.stands).edits.neat

-- A page couldn't be changed, after its place was sought.
pub bars_then : {P : Type 0} (pages : Ghosts P) (old mid new : P) (sought : Sought) (level page : ℕ) (why : FetchFault) → ReadsAtMost pages old mid → Editing pages mid new
    → BarsWriting pages mid why new → BarsEdit pages old sought level page new why
bars_then pages old mid new sought level page why only edits bars = bars_since pages old mid new sought level page why only edits (bars_first pages mid new sought level page why bars)

-- A key was put in after its place was sought on a page.
pub puts_sought : {P : Type 0} (pages : Ghosts P) (old mid new : P) (sought : Sought) (payload : List ℕ) (level page : ℕ) (node : Node) (spot : Result Spot FetchFault) (texts : List (List ℕ))
    (world : View) (height : ℕ) (own : List ℕ) (items : List Item) → ReadsAtMost pages old mid → Editing pages mid new → pages.tells new world
    → HasSpot pages old sought node page spot mid → ((world : View) → pages.tells old world → (shown_over pages old world).node page ≡ Some node)
    → ((height : ℕ) (own : List ℕ) (items : List Item) → Stands pages mid world (is_row sought) height page own items → PutsUnder pages mid sought payload level page height own items texts new world)
    → Stands pages old world (is_row sought) height page own items → PutsUnder pages old sought payload level page height own items texts new world
puts_sought pages old mid new sought payload level page node spot texts world height own items only edits told has holds puts stands =
    let told_mid = edits.narrows world told in
    let reads = reads_place pages old mid sought page node spot has (λ w there. holds w (only.edits.narrows w there)) in
    puts_since pages old mid new sought payload level page height own items texts world reads.list only told_mid stands.neat reads.few (λ path is. reads.along world told_mid level path is)
    (puts height own items (stands_then pages old mid only world told_mid (is_row sought) height page own items stands))

-- A key was put in after a page was read.
pub puts_read : {P : Type 0} (pages : Ghosts P) (old mid new : P) (sought : Sought) (payload : List ℕ) (level page : ℕ) (bytes : List ℕ) (told_page : Page) (texts : List (List ℕ))
    (world : View) (height : ℕ) (own : List ℕ) (items : List Item) → ReadsAtMost pages old mid → Editing pages mid new → pages.tells new world
    → HasNode pages old (is_row sought) page level bytes told_page mid
    → ((height : ℕ) (own : List ℕ) (items : List Item) → Stands pages mid world (is_row sought) height page own items → PutsUnder pages mid sought payload level page height own items texts new world)
    → Stands pages old world (is_row sought) height page own items → PutsUnder pages old sought payload level page height own items texts new world
puts_read pages old mid new sought payload level page bytes told_page texts world height own items only edits told has puts stands =
    let told_mid = edits.narrows world told in
    let u = pages.usable old in
    let last = pages.last_page old in
    let shown = shown_over pages old world in
    puts_since pages old mid new sought payload level page height own items texts world (page ∷ []) only told_mid stands.neat
    (λ n there. reads_all (pages.has old) (pages.reads old) (page ∷ []) n (subst (λ (l : List ℕ). Contains l n) has.read there))
    (λ path is n there. of_path sought u last shown path n (subst (λ (k : ℕ). 1 ≤ times path k) (the_page page n there) (path_begins sought u last shown level page path is)))
    (puts height own items (stands_then pages old mid only world told_mid (is_row sought) height page own items stands))
