-- The root's page says whether a tree that stands there is a table's or an index's.
use Rattle.std.proofs.Common.{◌≡◌, ℕ, zero, suc, ◌+◌, ◌≤◌, Bool, true, false, List, length, Some, sym, subst, ap, ◌∙◌, arith, inl, inr}
use Rattle.page_spec.specs.View.{View}
use Rattle.engine_spec.specs.declared.commits.FetchFault.{FetchFault}
use Rattle.engine_spec.specs.declared.commits.FetchFault.TheVariants as fault
use Rattle.page_face.specs.declared.pages_tells.PagesTells.{Ghosts}
use Rattle.node_spec.specs.Kinds.{is_leaf, is_table}
use Rattle.node_spec.specs.Nodes.{Node}
use Rattle.tree_spec.specs.Layout.{Item}
use Rattle.tree_spec.specs.Shown.{Shown}
use Rattle.tree_spec.specs.Trees.{Content, root_least}
use Rattle.overflow.specs.Following.{shown_over}
use Rattle.tree_read.proofs.Levels.{one_node}
use Rattle.tree_edit.specs.Settling.{HoldsNone}
use Rattle.tree_drop.specs.Parts.{DropsOn, BarsOn, IsTreePart}

content_table : (table : Bool) (usable last : ℕ) (shown : Shown) (height : ℕ) (node : Node) (below : List ℕ) (items : List Item)
    → Content table usable last shown height node below items → is_table node.kind ≡ table
content_table table usable last shown zero node below items is = is.table_is
content_table table usable last shown (suc height) node below items is = is.table_is

-- a tree is of the kind that its page says
part_table : (table : Bool) (most level page usable last : ℕ) (shown : Shown) (own : List ℕ) (node : Node) → shown.node page ≡ Some node
    → IsTreePart table most level page usable last shown own → is_table node.kind ≡ table
part_table table most level page usable last shown own node here part =
    ap (λ (n : Node). is_table n.kind) (one_node shown page node part.holds.node here part.holds.holds)
    ∙ content_table table usable last shown part.height part.holds.node part.holds.below part.items part.holds.content

-- each world that is told then shows this node at a page
abbrev pub ShowsThere : {P : Type 0} → Ghosts P → P → P → ℕ → Node → Type 0
ShowsThere pages old new page node = (world : View) → pages.tells new world → (shown_over pages old world).node page ≡ Some node

-- So what is said of trees of that kind is said of each tree.
pub drops_kind : {P : Type 0} (pages : Ghosts P) (old new : P) (page : ℕ) (node : Node) (told : Bool) → ShowsThere pages old new page node → is_table node.kind ≡ told
    → ((most : ℕ) → DropsOn pages old (IsTreePart told most 0 page) new) → (table : Bool) (most : ℕ) → DropsOn pages old (IsTreePart table most 0 page) new
drops_kind pages old new page node told shows is drops table most = λ world tells own neat part held.
    let same : told ≡ table = sym is ∙ part_table table most 0 page (pages.usable old) (pages.last_page old) (shown_over pages old world) own node (shows world tells) part in
    drops most world tells own neat (subst (λ (t : Bool). IsTreePart t most 0 page (pages.usable old) (pages.last_page old) (shown_over pages old world) own) (sym same) part) held

pub bars_kind : {P : Type 0} (pages : Ghosts P) (old new : P) (page : ℕ) (node : Node) (told : Bool) (why : FetchFault) → ShowsThere pages old new page node → is_table node.kind ≡ told
    → BarsOn pages old (IsTreePart told 40 0 page) new why → (table : Bool) → BarsOn pages old (IsTreePart table 40 0 page) new why
bars_kind pages old new page node told fault.Disk shows is bars table = bars
bars_kind pages old new page node told (fault.Corrupt named) shows is bars table = λ world tells own neat part held.
    let same : told ≡ table = sym is ∙ part_table table 40 0 page (pages.usable old) (pages.last_page old) (shown_over pages old world) own node (shows world tells) part in
    bars world tells own neat (subst (λ (t : Bool). IsTreePart t 40 0 page (pages.usable old) (pages.last_page old) (shown_over pages old world) own) (sym same) part) held
bars_kind pages old new page node told (fault.Size count) shows is bars table = bars
bars_kind pages old new page node told fault.Memory shows is bars table = tt
