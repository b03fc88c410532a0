-- Roots raised and lowered.
use Rattle.std.proofs.Common.{◌≡◌, ℕ, ◌≤◌, List, [], ◌∷◌, Bool, true, false, Some, refl, sym, subst, ap, ◌∙◌, arith, inl, inr}
use Rattle.std.specs.Prelude.{◌⊎◌, Contains}
use Rattle.page_spec.specs.View.{View}
use Rattle.engine_spec.specs.declared.commits.FetchFault.{FetchFault}
use Rattle.engine_spec.specs.declared.commits.FetchFault.TheVariants as fault
use Rattle.node_spec.specs.declared.kinds.Kind.{Kind}
use Rattle.node_spec.specs.Kinds.{is_leaf, is_table}
use Rattle.node_spec.specs.Cells.{NodeCell}
use Rattle.node_spec.specs.Nodes.{Node, node_of}
use Rattle.page_face.specs.declared.pages_tells.PagesTells.{Ghosts}
use Rattle.page_face.specs.Pages.{ReadsAtMost, IsFromOutside}
use Rattle.tree_spec.specs.Layout.{times}
use Rattle.overflow.specs.Following.{shown_over}
use Rattle.overflow.specs.Writing.{BarsWriting}
use Rattle.tree_read.specs.Looking.{BarsNode}
use Rattle.node_edit.specs.Editing.{inner_node}
use Rattle.node_edit.specs.Runs.{spelled_by}
use Rattle.tree_edit.specs.Editing.{lists_joined, EditsPages, reading, making, storing}
use Rattle.tree_edit.specs.Roots.{inner_kind, RaisesRoot, ShowsNoRoot, MovesUp, LowersRoot}
use Rattle.tree_edit.specs.Settling.{HoldsNone}
use Rattle.tree_edit.proofs.Edits.{edits_join, edits_told, edits_read, alike, was_free, still_used, page_apart, page_there, the_page}
use Rattle.tree_edit.proofs.Storing.{fault_since}
use Rattle.tree_edit.proofs.Settled.{made_was, one_of}

kind_inner : (table : Bool) → is_leaf (inner_kind table) ≡ false
kind_inner true = refl
kind_inner false = refl

kind_table : (table : Bool) → is_table (inner_kind table) ≡ table
kind_table true = refl
kind_table false = refl

-- why the root's page wasn't read
pub root_barred : {P : Type 0} (pages : Ghosts P) (old new : P) (table : Bool) (root : ℕ) (why : FetchFault) → BarsNode pages old table root 0 new why
    → BarsWriting pages old why new ⊎ ShowsNoRoot pages old table root why new
root_barred pages old new table root fault.Disk rose = inl (record { cause = rose; exact = λ world told neat. tt })
root_barred pages old new table root (fault.Corrupt named) bars = inr (ap fault.Corrupt bars.0, bars.2)
root_barred pages old new table root (fault.Size count) never = absurd never
root_barred pages old new table root fault.Memory is = inl (record { cause = tt; exact = λ world told neat. tt })

-- A root was read, its node copied to a page that was made, and other bytes were stored in its place.
pub raises : {P : Type 0} (pages : Ghosts P) (old a b new : P) (world : View) (table : Bool) (root child : ℕ) (texts : List (List ℕ)) (node : Node) → ReadsAtMost pages old a
    → pages.tells a world → pages.neat old world → ((n : ℕ) → Contains (pages.reads a) n → Contains (pages.reads old) n ⊎ (1 ≤ times (root ∷ []) n))
    → (pages.free old world root → ⊥) → pages.usable new ≡ pages.usable b → 2 ≤ child
    → (shown_over pages old world).node root ≡ Some node → (shown_over pages b world).node child ≡ Some node
    → (pages.neat a world → EditsPages pages (making (child ∷ [])) a b world) → (pages.neat b world → (pages.free b world root → ⊥) → EditsPages pages (storing root []) b new world)
    → (shown_over pages new world).node root ≡ Some (record { kind = inner_kind table; cells = spelled_by (inner_kind table) (pages.usable old) texts; right = child })
    → RaisesRoot pages old table root child texts new world
raises pages old a b new world table root child texts node reads told neat few used then_usable least held copied make store leads =
    let one = edits_read pages (root ∷ []) old a world reads told neat few in
    let two = make one.neat in
    let used_a = still_used pages (reading (root ∷ [])) old a world one root used refl in
    let three = store two.neat (λ free. used_a (was_free pages (making (child ∷ [])) a b world two root refl free)) in
    let was = made_was (times (child ∷ []) child) 0 (one_of child) refl (two.free child) in
    let stays = alike pages (storing root []) b new world three then_usable child (omega (arith, least)) was.1
    (page_apart root child (λ same. used_a (subst (λ (n : ℕ). pages.free a world n) (sym same) was.0))) refl in
    record {
      raised = record {
        copied = stays.node ∙ (copied ∙ sym held);
        node = record { kind = inner_kind table; cells = spelled_by (inner_kind table) (pages.usable old) texts; right = child };
        holds = leads;
        inner = kind_inner table;
        table_is = kind_table table;
        cells = refl;
        right = refl;
      };
      edits = edits_told pages (lists_joined (reading (root ∷ [])) (lists_joined (making (child ∷ [])) (storing root []))) (storing root (child ∷ [])) old new world (λ n. refl) (λ n. refl) (λ uses. uses)
          (λ n there. inl there) (λ n there. inl (page_there root n (the_root n there)))
          (edits_join pages (reading (root ∷ [])) (lists_joined (making (child ∷ [])) (storing root [])) old a new world one
          (edits_join pages (making (child ∷ [])) (storing root []) a b new world two three));
    }
  where
    the_root : (n : ℕ) → 1 ≤ times (root ∷ (root ∷ [])) n → root ≡ n
    the_root n there = the_page root n (omega (arith, there))

-- A child was read, and its node stored in the root's place.
pub moves_up : {P : Type 0} (pages : Ghosts P) (old mid new : P) (world : View) (root child : ℕ) (node : Node) → ReadsAtMost pages old mid → pages.tells mid world → pages.neat old world
    → ((n : ℕ) → Contains (pages.reads mid) n → Contains (pages.reads old) n ⊎ (1 ≤ times (child ∷ []) n)) → (pages.free old world root → ⊥)
    → (shown_over pages old world).node child ≡ Some node → (shown_over pages new world).node root ≡ Some node
    → (pages.neat mid world → (pages.free mid world root → ⊥) → EditsPages pages (storing root []) mid new world) → MovesUp pages old root child new world
moves_up pages old mid new world root child node reads told neat few used held holds store =
    let one = edits_read pages (child ∷ []) old mid world reads told neat few in
    let two = store one.neat (still_used pages (reading (child ∷ [])) old mid world one root used refl) in
    record { same = holds ∙ sym held; edits = edits_join pages (reading (child ∷ [])) (storing root []) old mid new world one two }

-- a fault from outside gave no node
pub outside_none : {P : Type 0} (pages : Ghosts P) (old new : P) (page before : ℕ) (why : FetchFault) → pages.faults old ≤ before → IsFromOutside before (pages.faults new) why
    → HoldsNone pages old page new why
outside_none pages old new page before fault.Disk least rose = fault_since (pages.faults old) before (pages.faults new) fault.Disk least rose
outside_none pages old new page before (fault.Corrupt named) least never = absurd never
outside_none pages old new page before (fault.Size count) least never = absurd never
outside_none pages old new page before fault.Memory least is = tt

pub by_fit : {P : Type 0} (pages : Ghosts P) (old new : P) (root child : ℕ) (fits : Bool) → (fits ≡ true → LowersRoot pages old root child new true)
    → (fits ≡ false → LowersRoot pages old root child new false) → LowersRoot pages old root child new fits
by_fit pages old new root child true yes_fits no_fits = yes_fits refl
by_fit pages old new root child false yes_fits no_fits = no_fits refl

inner_is : (table : Bool) (cells : List NodeCell) (child : ℕ) → inner_node (inner_kind table) cells child ≡ record { kind = inner_kind table; cells = cells; right = child }
inner_is true cells child = refl
inner_is false cells child = refl

-- the interior page that was begun
pub inner_shows : (table first : Bool) (u v : ℕ) (kind : Kind) (bytes : List ℕ) (texts : List (List ℕ)) (child : ℕ) → u ≡ v → kind ≡ inner_kind table
    → node_of u first bytes ≡ Some (inner_node kind (spelled_by kind u texts) child)
    → node_of v first bytes ≡ Some (record { kind = inner_kind table; cells = spelled_by (inner_kind table) v texts; right = child })
inner_shows table first u v kind bytes texts child usable is shows =
    subst (λ (n : ℕ). node_of n first bytes ≡ Some (record { kind = inner_kind table; cells = spelled_by (inner_kind table) n texts; right = child })) usable
    (subst (λ (k : Kind). node_of u first bytes ≡ Some (inner_node k (spelled_by k u texts) child)) is shows ∙ ap (λ (n : Node). Some n) (inner_is table (spelled_by (inner_kind table) u texts) child))
