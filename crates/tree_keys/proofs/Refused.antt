-- Why an edit was refused: what a page's fault says of a tree that stands, and what a child's says of its page.
use Rattle.std.proofs.Common.{◌≡◌, ℕ, zero, suc, ◌+◌, ◌≤◌, ◌*◌, ◌<◌, List, length, sym, subst, ap, ◌∙◌, arith, inl, inr}
use Rattle.std.specs.Prelude.{◌⊎◌}
use Rattle.page_spec.specs.Header.{database_limit}
use Rattle.engine_spec.specs.declared.commits.FetchFault.{FetchFault}
use Rattle.engine_spec.specs.declared.commits.FetchFault.TheVariants as fault
use Rattle.page_face.specs.declared.pages_tells.PagesTells.{Ghosts}
use Rattle.page_face.specs.Pages.{Editing, ReadsAtMost}
use Rattle.node_spec.specs.Nodes.{Node}
use Rattle.tree_spec.specs.Layout.{Item}
use Rattle.tree_spec.specs.Shown.{Shown}
use Rattle.tree_spec.specs.Trees.{IsTree}
use Rattle.overflow.specs.Following.{shown_over}
use Rattle.overflow.specs.Writing.{BarsWriting}
use Rattle.tree_read.specs.Ways.{MayStand}
use Rattle.tree_read.specs.Looking.{BarsNode}
use Rattle.tree_read.proofs.Descents.{same_shown, rose_before}
use Rattle.tree_read.proofs.Levels.{one_node}
use Rattle.tree_keys.specs.Keys.{Sought, is_row}
use Rattle.tree_keys.specs.Standing.{ThereStands, HasNoRow, BarsEdit}
use Rattle.tree_keys.proofs.Since.{stands_then}

-- a page that couldn't be made or put, where the freelist is in order still over a tree that stood
pub bars_after : {P : Type 0} (pages : Ghosts P) (old mid new : P) (sought : Sought) (level page : ℕ) (why : FetchFault) → Editing pages old mid
    → ((items : List Item) (there : ThereStands pages old sought level page items new) → pages.neat mid there.world) → BarsWriting pages mid why new
    → BarsEdit pages old sought level page new why
bars_after pages old mid new sought level page fault.Disk edits neat bars = rose_before _ _ _ edits.faults bars.cause
bars_after pages old mid new sought level page (fault.Corrupt named) edits neat bars = λ items there. absurd (bars.exact there.world there.told (neat items there))
bars_after pages old mid new sought level page (fault.Size count) edits neat bars = (
  (bars.cause.0, subst (λ (s : ℕ). database_limit < count * s) edits.page_size bars.cause.1),
  λ items there spare. bars.exact there.world there.told (neat items there) spare,
)
bars_after pages old mid new sought level page fault.Memory edits neat bars = tt

-- the first call failed
pub bars_first : {P : Type 0} (pages : Ghosts P) (old new : P) (sought : Sought) (level page : ℕ) (why : FetchFault) → BarsWriting pages old why new → BarsEdit pages old sought level page new why
bars_first pages old new sought level page fault.Disk bars = bars.cause
bars_first pages old new sought level page (fault.Corrupt named) bars = λ items there. absurd (bars.exact there.world there.told there.stands.neat)
bars_first pages old new sought level page (fault.Size count) bars = (bars.cause, λ items there spare. bars.exact there.world there.told there.stands.neat spare)
bars_first pages old new sought level page fault.Memory bars = tt

-- the node of a tree that stands may stand where it stands
pub may_stand : {P : Type 0} (pages : Ghosts P) (old new : P) (sought : Sought) (level page : ℕ) (items : List Item) → (there : ThereStands pages old sought level page items new)
    → MayStand (is_row sought) page level there.stands.tree.node
may_stand pages old new sought level page items there = by_height there.height there.low there.stands.tree there.some
  where
    by_height : (height : ℕ) → level + height ≤ 40
        → (tree : IsTree (is_row sought) (pages.usable old) (pages.last_page old) (shown_over pages old there.world) height page there.own items)
        → (page ≡ 1) ⊎ ((level ≡ 0) ⊎ (1 ≤ length tree.node.cells)) → MayStand (is_row sought) page level tree.node
    by_height zero low tree some = record {
      table_is = tree.content.table_is;
      depth = omega (arith, low);
      enough = elim some [ inl first ↦ inl first | inr (inl top) ↦ inr (inl (top, tree.content.leaf)) | inr (inr many) ↦ inr (inr many) ];
    }
    by_height (suc height) low tree some = record {
      table_is = tree.content.table_is;
      depth = omega (arith, low);
      enough = elim tree.enough [ inl first ↦ inl first | inr many ↦ inr (inr many) ];
    }

-- a page that gave no node
pub bars_node : {P : Type 0} (pages : Ghosts P) (old new : P) (sought : Sought) (level page : ℕ) (why : FetchFault) → BarsNode pages old (is_row sought) page level new why
    → BarsEdit pages old sought level page new why
bars_node pages old new sought level page fault.Disk bars = bars
bars_node pages old new sought level page (fault.Corrupt named) bars = λ items there.
    absurd (bars.2 there.world there.told there.stands.tree.node (record { holds = there.stands.tree.holds; may = may_stand pages old new sought level page items there }))
bars_node pages old new sought level page (fault.Size count) never = absurd never
bars_node pages old new sought level page fault.Memory bars = tt

-- a root out of range roots no tree
pub bars_outside : {P : Type 0} (pages : Ghosts P) (old new : P) (sought : Sought) (root : ℕ) → (root < 1) ⊎ (pages.last_page old < root) → BarsEdit pages old sought 0 root new (fault.Corrupt root)
bars_outside pages old new sought root outside = λ items there. elim outside [
  | inl less ↦ absurd (omega (arith, less, there.least))
  | inr more ↦ absurd (omega (arith, more, there.most))
]

-- a buffer that couldn't be had
pub bars_memory : {P : Type 0} (pages : Ghosts P) (old new : P) (sought : Sought) (level page : ℕ) (why : FetchFault) → why ≡ fault.Memory → BarsEdit pages old sought level page new why
bars_memory pages old new sought level page why is = subst (λ (w : FetchFault). BarsEdit pages old sought level page new w) (sym is) tt

-- A tree that stood before pages were read stands then.
there_then : {P : Type 0} (pages : Ghosts P) (old mid new : P) → ReadsAtMost pages old mid → Editing pages mid new → (sought : Sought) (level page : ℕ) (items : List Item)
    → ThereStands pages old sought level page items new → ThereStands pages mid sought level page items new
there_then pages old mid new only edits sought level page items there =
    let told = edits.narrows there.world there.told in
    let stands = stands_then pages old mid only there.world told (is_row sought) there.height page there.own items there.stands in
    record {
      world = there.world;
      told = there.told;
      least = there.least;
      most = omega (arith, there.most, only.last);
      height = there.height;
      low = there.low;
      own = there.own;
      stands = stands;
      some = subst (λ (n : Node). (page ≡ 1) ⊎ ((level ≡ 0) ⊎ (1 ≤ length n.cells)))
          (one_node (shown_over pages mid there.world) page there.stands.tree.node stands.tree.node
          (ap (λ (s : Shown). s.node page) (same_shown pages old mid only there.world told) ∙ there.stands.tree.holds) stands.tree.holds) there.some;
    }

-- An edit that was refused after pages were read was refused since before.
pub bars_since : {P : Type 0} (pages : Ghosts P) (old mid new : P) (sought : Sought) (level page : ℕ) (why : FetchFault) → ReadsAtMost pages old mid → Editing pages mid new
    → BarsEdit pages mid sought level page new why → BarsEdit pages old sought level page new why
unfolding there_then
bars_since pages old mid new sought level page fault.Disk only edits bars = rose_before _ _ _ only.edits.faults bars
bars_since pages old mid new sought level page (fault.Corrupt named) only edits bars = λ items there.
    let told = edits.narrows there.world there.told in
    subst (λ (u : ℕ). HasNoRow sought u (pages.last_page old) (shown_over pages old there.world) items) only.edits.usable
    (subst (λ (l : ℕ). HasNoRow sought (pages.usable mid) l (shown_over pages old there.world) items) only.last
    (subst (λ (s : Shown). HasNoRow sought (pages.usable mid) (pages.last_page mid) s items) (same_shown pages old mid only there.world told)
    (bars items (there_then pages old mid new only edits sought level page items there))))
bars_since pages old mid new sought level page (fault.Size count) only edits bars = (
  (bars.0.0, subst (λ (s : ℕ). database_limit < count * s) only.edits.page_size bars.0.1),
  λ items there spare. bars.1 items (there_then pages old mid new only edits sought level page items there) spare,
)
bars_since pages old mid new sought level page fault.Memory only edits bars = tt
