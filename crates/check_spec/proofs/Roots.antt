-- What the trees of roots say, one after another, and that the roots which rows name are in range.
use Rattle.std.proofs.Common.{◌≡◌, ℕ, zero, suc, ◌≤◌, Bool, List, [], ◌∷◌, ◌++◌, length, refl, sym, subst, ap, ◌∙◌, append_assoc, inl, inr, arith}
use Rattle.std.specs.Prelude.{◌⊎◌}
use Rattle.std.proofs.lemmas.Bool.{true≢false}
use Rattle.value_form.specs.declared.value.Value.{Value}
use Rattle.value_form.specs.declared.value.Value.TheVariants.{Null, Int, Text, Blob}
use Rattle.node_spec.specs.Nodes.{Node}
use Rattle.tree_spec.specs.Layout.{Each, Item}
use Rattle.tree_spec.specs.Trees.{Content, root_least}
use Rattle.sound_spec.specs.Schema.{IsRootNumber, column, with_root, NameRoots}
use Rattle.sound_spec.specs.Sound.{IsRooted, AreRooted}
use Rattle.check_spec.specs.Walk.{Database, Past, root_spot, root_places}
use Rattle.check_spec.proofs.CellsFit.{IsNumberOf}
use Rattle.check_spec.proofs.Told.{shown_of, HasEnough, HasSubtree, SayAll}

root_number : (last : ℕ) (value : Value) (root : ℕ) → IsRootNumber last value root → (root ≡ 0) ⊎ IsNumberOf last root
root_number last Null root is = inl is
root_number last (Int n) root is = is.1
root_number last (Text t) root is = absurd is
root_number last (Blob b) root is = absurd is

with_range : (last root : ℕ) (others : List ℕ) → (root ≡ 0) ⊎ IsNumberOf last root → Each (IsNumberOf last) others → Each (IsNumberOf last) (with_root root others)
with_range last zero others fits each = each
with_range last (suc n) others fits each = (
  elim fits [
    | inl none ↦ absurd (omega (arith, none))
    | inr range ↦ range
  ],
  each,
)

-- the roots that rows name are pages from 2 to the last one
pub named_range : (last : ℕ) (rows : List Item) (roots : List ℕ) → NameRoots last rows roots → Each (IsNumberOf last) roots
named_range last [] roots is = subst (λ (l : List ℕ). Each (IsNumberOf last) l) (sym is) tt
named_range last (row ∷ rows) roots (root, others, names, is, more) =
    subst (λ (l : List ℕ). Each (IsNumberOf last) l) (sym is)
    (with_range last root others (root_number last (column names.row 3) root names.names.root_is) (named_range last rows others more))

-- a root has the cells that one has, by its height
root_enough : (table : Bool) (db : Database) (height page : ℕ) (node : Node) (below : List ℕ) (items : List Item)
    → Content table db.usable db.last (shown_of db) height node below items → HasEnough 0 page node → (page ≡ 1) ⊎ (root_least height ≤ length node.cells)
root_enough table db zero page node below items content enough = inr (omega arith)
root_enough table db (suc height) page node below items content (inl first) = inl first
root_enough table db (suc height) page node below items content (inr (inl root)) = absurd (true≢false (sym root.1 ∙ content.inner))
root_enough table db (suc height) page node below items content (inr (inr some)) = inr some

root_says : (db : Database) (root : ℕ) (before after : Past) (named : List ℕ) → IsNumberOf db.last root → (tree : HasSubtree db root_spot root before after named)
    → IsRooted db.usable db.last (shown_of db) root (root ∷ tree.below)
root_says db root before after named range tree = record {
  least = range.0;
  most = range.1;
  table = tree.table;
  height = tree.height;
  low = omega (arith, tree.low, tree.depth_is);
  items = tree.items;
  tree = record {
    node = tree.node;
    holds = tree.shows;
    enough = root_enough tree.table db tree.height root tree.node tree.below tree.items tree.content tree.enough;
    below = tree.below;
    content = tree.content;
    own_is = refl;
  };
}

-- The trees of these roots were met, tree by tree.
pub record HasRoots (db : Database) (roots : List ℕ) (before after : Past) : Type 0 where
  pub own : List ℕ
  pub rooted : AreRooted db.usable db.last (shown_of db) roots own
  pub met_is : after.met ≡ before.met ++ own

pub roots_say : (db : Database) (roots : List ℕ) (before after : Past) (named : List ℕ) → Each (IsNumberOf db.last) roots → SayAll db (root_places roots) before after named
    → HasRoots db roots before after
roots_say db [] before after named range said = record { own = []; rooted = refl; met_is = said.0.met_is }
roots_say db (root ∷ roots) before after named range (mid, first, behind, tree, more, is) =
    let rest = roots_say db roots mid after behind range.1 more in
    let one = root ∷ tree.below in
    record {
      own = one ++ rest.own;
      rooted = (one, rest.own, refl, root_says db root before mid first range.0 tree, rest.rooted);
      met_is = rest.met_is ∙ ap (λ (l : List ℕ). l ++ rest.own) tree.met_is ∙ append_assoc before.met one rest.own;
    }
