-- There is one way at most to take a view for a sound database: its rows, roots, used pages and free pages are determined.
use Rattle.std.proofs.Common.{◌≡◌, ℕ, zero, suc, pos, Bool, true, List, [], ◌∷◌, ◌++◌, sym, subst, ap, ap₂, ◌∙◌, Some}
use Rattle.page_spec.specs.View.{View}
use Rattle.page_spec.specs.Header.{fields_of}
use Rattle.node_spec.specs.Kinds.{is_table}
use Rattle.node_spec.specs.Nodes.{Node}
use Rattle.tree_spec.specs.Layout.{Item}
use Rattle.tree_spec.specs.Shown.{Shown, shown_by}
use Rattle.tree_spec.specs.Trees.{Content, IsTree}
use Rattle.tree_spec.proofs.Once.{tree_once}
use Rattle.tree_spec.proofs.Freelists.{freelist_once}
use Rattle.value_form.specs.declared.value.Value.{Value}
use Rattle.value_form.specs.declared.value.Value.TheVariants.{Null, Int, Text, Blob}
use Rattle.value_form.proofs.ReadingLaws.{record_once}
use Rattle.sound_spec.specs.Schema.{column, IsRootNumber, NamesRoot, NameRoots, with_root}
use Rattle.sound_spec.specs.Sound.{IsRooted, AreRooted, IsSound}

content_kind : (table : Bool) (usable last : ℕ) (shown : Shown) (height : ℕ) (node : Node) (below : List ℕ) (items : List Item)
    → Content table usable last shown height node below items → is_table node.kind ≡ table
content_kind table usable last shown zero node below items is = is.table_is
content_kind table usable last shown (suc height) node below items is = is.table_is

-- a page roots trees of one kind alone
pub kind_once : (table other : Bool) (usable last : ℕ) (shown : Shown) (height level page : ℕ) (own more : List ℕ) (items list : List Item)
    → IsTree table usable last shown height page own items → IsTree other usable last shown level page more list → table ≡ other
kind_once table other usable last shown height level page own more items list p q =
    let both : Some p.node ≡ Some q.node = sym p.holds ∙ q.holds in
    let node : p.node ≡ q.node = cc in
    sym (content_kind table usable last shown height p.node p.below items p.content)
    ∙ ap (λ (n : Node). is_table n.kind) node ∙ content_kind other usable last shown level q.node q.below list q.content

pub rooted_once : (usable last : ℕ) (shown : Shown) (root : ℕ) (own other : List ℕ) → IsRooted usable last shown root own → IsRooted usable last shown root other → own ≡ other
rooted_once usable last shown root own other p q =
    let kind = kind_once p.table q.table usable last shown p.height q.height root own other p.items q.items p.tree q.tree in
    (tree_once q.table usable last shown p.height q.height root own other p.items q.items
    (subst (λ (table : Bool). IsTree table usable last shown p.height root own p.items) kind p.tree) q.tree).own_is

pub are_rooted_once : (usable last : ℕ) (shown : Shown) (roots own other : List ℕ) → AreRooted usable last shown roots own → AreRooted usable last shown roots other → own ≡ other
are_rooted_once usable last shown [] own other p q = p ∙ sym q
are_rooted_once usable last shown (root ∷ roots) own other (first, others, own_is, one, more) (second, rest, other_is, two, some) =
    own_is ∙ ap₂ ◌++◌ (rooted_once usable last shown root first second one two) (are_rooted_once usable last shown roots others rest more some) ∙ sym other_is

root_once : (last : ℕ) (value : Value) (root other : ℕ) → IsRootNumber last value root → IsRootNumber last value other → root ≡ other
root_once last Null root other p q = p ∙ sym q
root_once last (Int n) root other p q = let same : pos root ≡ pos other = sym p.0 ∙ q.0 in cc
root_once last (Text t) root other p q = absurd p
root_once last (Blob b) root other p q = absurd p

pub names_once : (last : ℕ) (item : Item) (root other : ℕ) → NamesRoot last item root → NamesRoot last item other → root ≡ other
names_once last item root other p q =
    let row = record_once item.bytes p.row q.row p.record_is q.record_is in
    root_once last (column q.row 3) root other (subst (λ (values : List Value). IsRootNumber last (column values 3) root) row p.names.root_is) q.names.root_is

pub roots_once : (last : ℕ) (items : List Item) (roots others : List ℕ) → NameRoots last items roots → NameRoots last items others → roots ≡ others
roots_once last [] roots others p q = p ∙ sym q
roots_once last (item ∷ items) roots others (root, behind, name, is, more) (other, rest, called, was, some) =
    is ∙ ap₂ with_root (names_once last item root other name called) (roots_once last items behind rest more some) ∙ sym was

-- two ways to take a view for a sound database
pub record AlikeSound (roots_one roots_two used_one used_two free_one free_two : List ℕ) (rows_one rows_two : List Item) : Type 0 where
  pub roots : roots_one ≡ roots_two
  pub used : used_one ≡ used_two
  pub free : free_one ≡ free_two
  pub rows : rows_one ≡ rows_two

pub sound_once : (page_size usable last : ℕ) (view : View) (roots_one roots_two used_one used_two free_one free_two : List ℕ) (rows_one rows_two : List Item)
    → IsSound page_size usable last view roots_one used_one free_one rows_one → IsSound page_size usable last view roots_two used_two free_two rows_two
    → AlikeSound roots_one roots_two used_one used_two free_one free_two rows_one rows_two
sound_once page_size usable last view roots_one roots_two used_one used_two free_one free_two rows_one rows_two p q =
    let shown : Shown = shown_by usable view in
    let schema = tree_once true usable last shown p.trees.height q.trees.height 1 p.trees.first q.trees.first rows_one rows_two p.trees.schema q.trees.schema in
    let roots = roots_once last rows_two roots_one roots_two (subst (λ (rows : List Item). NameRoots last rows roots_one) schema.items_are p.named) q.named in
    let others = are_rooted_once usable last shown roots_two p.trees.others q.trees.others
    (subst (λ (roots : List ℕ). AreRooted usable last shown roots p.trees.others) roots p.trees.rooted) q.trees.rooted in
    record {
      roots = roots;
      used = p.trees.used_is ∙ ap₂ ◌++◌ schema.own_is others ∙ sym q.trees.used_is;
      free = freelist_once usable last last view (fields_of (view 1)).first_trunk (fields_of (view 1)).free_pages (fields_of (view 1)).free_pages free_one free_two p.freelist q.freelist;
      rows = schema.items_are;
    }
