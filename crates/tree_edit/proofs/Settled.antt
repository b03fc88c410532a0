-- Pages that take cells, and pages that are divided.
use Rattle.std.proofs.Common.{◌≡◌, ℕ, ◌<◌, ◌≤◌, List, [], ◌∷◌, length, Some, refl, sym, subst, ap, ◌∙◌, arith, eq-eqb, true}
use Rattle.std.specs.Prelude.{◌==◌, ◌&&◌, All, Bool, false, Result, Ok, Err, IfOk}
use Rattle.std.proofs.lemmas.List.Elements.{All-nil, All-cons}
use Rattle.page_spec.specs.View.{View}
use Rattle.node_spec.specs.declared.kinds.Kind.{Kind}
use Rattle.node_spec.specs.Kinds.{is_leaf, is_table}
use Rattle.node_spec.specs.Cells.{NodeCell, IsOneCell, cell_in}
use Rattle.node_spec.specs.Nodes.{Node, free_of}
use Rattle.page_face.specs.declared.pages_tells.PagesTells.{Ghosts}
use Rattle.tree_spec.specs.Layout.{times}
use Rattle.overflow.specs.Following.{shown_over}
use Rattle.edit_spec.specs.Nodes.{Divides, DividesRows, DividesBetween, ByLeafOfTable, ShowTogether}
use Rattle.edit_spec.specs.Edits.{lefts, LeadInRange}
use Rattle.node_edit.specs.Keys.{kind_above, LeadsTo}
use Rattle.node_edit.specs.Runs.{spelled_by, weight_of}
use Rattle.node_edit.specs.Dividing.{KeyDivides, IsCrowded}
use Rattle.tree_edit.specs.Editing.{EditsPages, IsFreeBy, kept, taken, given, making, storing}
use Rattle.tree_edit.specs.Settling.{cells_above, SettlesNode, AreSiblings, MayTake}
use Rattle.tree_edit.proofs.Edits.{edits_join, alike, page_apart}

-- a page is asked to take two cells at most
pub take_few : (rows : Bool) (first : Bool) (count : ℕ) → ByLeafOfTable rows ((first ≡ false) × (count ≡ 1)) (count ≤ 2) → count ≤ 2
take_few true first count few = omega (arith, few.1)
take_few false first count few = few

-- a page that lacks room for cells that it may be asked to take is crowded
pub crowded : (usable : ℕ) (first : Bool) (node : Node) (at : ℕ) (news : List (List ℕ)) → MayTake usable first node at news
    → free_of usable first node < weight_of (spelled_by node.kind usable news) → IsCrowded usable first node at news
crowded usable first node at news may lacks = record { place = may.place; cells = may.cells; lacks = lacks; few = may.few }

-- what is left of a node that is divided is of its kind
pub kind_of_rest : (whole left rest : Node) (up : NodeCell) → Divides whole up left rest → rest.kind ≡ whole.kind
kind_of_rest whole left rest up divides = by_case (is_leaf whole.kind && is_table whole.kind) divides
  where
    by_case : (rows : Bool) → ByLeafOfTable rows (DividesRows whole up left rest) (DividesBetween whole up left rest) → rest.kind ≡ whole.kind
    by_case true one = one.rest_kind
    by_case false one = one.rest_kind

-- none, one and two siblings are few enough
few_none : (rows : Bool) → ByLeafOfTable rows (0 ≤ 2) (0 ≤ 1)
few_none true = omega arith
few_none false = omega arith

pub few_one : (rows : Bool) → ByLeafOfTable rows (1 ≤ 2) (1 ≤ 1)
few_one true = omega arith
few_one false = omega arith

pub few_two : (rows : Bool) (count : ℕ) → rows ≡ true → count ≤ 2 → ByLeafOfTable rows (count ≤ 2) (count ≤ 1)
few_two true count is few = few
few_two false count is few = cc

pub siblings_none : (usable last : ℕ) (whole : Node) → AreSiblings usable last whole []
siblings_none usable last whole = record { few = few_none (is_leaf whole.kind && is_table whole.kind); cells = All-nil (IsOneCell (kind_above whole.kind) usable); range = tt }

pub siblings_more : (usable made last : ℕ) (key text : List ℕ) (texts : List (List ℕ)) (whole part rest : Node) → LeadsTo made key text → KeyDivides usable whole part rest key
    → 2 ≤ made → made ≤ last → ByLeafOfTable (is_leaf whole.kind && is_table whole.kind) (length (text ∷ texts) ≤ 2) (length (text ∷ texts) ≤ 1)
    → AreSiblings usable last rest texts → AreSiblings usable last whole (text ∷ texts)
siblings_more usable made last key text texts whole part rest leads cut low high few are =
    let is = cut.one made text leads in
    let kind = kind_of_rest whole part rest (cell_in (kind_above whole.kind) usable text) (cut.divides made text leads) in
    record {
      few = few;
      cells = All-cons (IsOneCell (kind_above whole.kind) usable) text texts is.one (subst (λ (k : Kind). All (IsOneCell (kind_above k) usable) texts) kind are.cells);
      range = ((omega (arith, is.left, low), omega (arith, is.left, high)), subst (λ (k : Kind). LeadInRange last (spelled_by (kind_above k) usable texts)) kind are.range);
    }

-- a page that was made isn't free any more, and was
pub made_was : {A B : Type 0} (m g : ℕ) → m ≡ 1 → g ≡ 0 → IsFreeBy A B m g → A × (B → ⊥)
made_was m g one none (kept e on back) = absurd (omega (arith, e, one, none))
made_was m g one none (taken e was not) = (was, not)
made_was m g one none (given e not is) = absurd (omega (arith, e, one, none))

pub one_of : (page : ℕ) → times (page ∷ []) page ≡ 1
one_of page = rw (refl_test page) refl
  where
    refl_test : (n : ℕ) → (n == n) ≡ true
    refl_test n = eq-eqb n n refl

-- A sibling was made, and what is left of the node was settled.
pub settled_more : {P : Type 0} (pages : Ghosts P) (old mid new : P) (world : View) (page made : ℕ) (key text : List ℕ) (texts : List (List ℕ)) (whole part rest : Node)
    → pages.usable mid ≡ pages.usable old → pages.usable new ≡ pages.usable mid → 2 ≤ made → LeadsTo made key text → KeyDivides (pages.usable old) whole part rest key
    → (pages.free old world page → ⊥) → EditsPages pages (making (made ∷ [])) old mid world
    → (shown_over pages mid world).node made ≡ Some part → SettlesNode pages mid page rest texts new world → SettlesNode pages old page whole (text ∷ texts) new world
settled_more pages old mid new world page made key text texts whole part rest same_usable then_usable low leads cut used one shown settled =
    let u = pages.usable old in
    let up = cell_in (kind_above whole.kind) u text in
    let is = cut.one made text leads in
    let divides = cut.divides made text leads in
    let kind = kind_of_rest whole part rest up divides in
    let was = made_was (times (made ∷ []) made) 0 (one_of made) refl (one.free made) in
    let cells : cells_above (pages.usable mid) rest texts ≡ cells_above u whole texts =
    ap (λ (k : ℕ). cells_above k rest texts) same_usable ∙ ap (λ (k : Kind). spelled_by (kind_above k) u texts) kind in
    let stays = alike pages (storing page (lefts (cells_above (pages.usable mid) rest texts))) mid new world settled.edits then_usable made (omega (arith, low)) was.1
    (page_apart page made (λ same. used (subst (λ (n : ℕ). pages.free old world n) (sym same) was.0))) refl in
    record {
      shows = record {
        left = part;
        rest = rest;
        holds = ap (λ (n : ℕ). (shown_over pages new world).node n) is.left ∙ (stays.node ∙ shown);
        divides = divides;
        others = subst (λ (l : List NodeCell). ShowTogether (shown_over pages new world).node l page rest) cells settled.shows;
      };
      edits = subst (λ (l : List NodeCell). EditsPages pages (storing page (up.left ∷ lefts l)) old new world) cells
          (subst (λ (n : ℕ). EditsPages pages (storing page (n ∷ lefts (cells_above (pages.usable mid) rest texts))) old new world) (sym is.left)
          (edits_join pages (making (made ∷ [])) (storing page (lefts (cells_above (pages.usable mid) rest texts))) old mid new world one settled.edits));
    }

-- the same texts beside another node of the kind
pub siblings_of : (usable last : ℕ) (node whole : Node) (texts : List (List ℕ)) → whole.kind ≡ node.kind → AreSiblings usable last whole texts → AreSiblings usable last node texts
siblings_of usable last node whole texts kind are = record {
  few = subst (λ (k : Kind). ByLeafOfTable (is_leaf k && is_table k) (length texts ≤ 2) (length texts ≤ 1)) kind are.few;
  cells = subst (λ (k : Kind). All (IsOneCell (kind_above k) usable) texts) kind are.cells;
  range = subst (λ (k : Kind). LeadInRange last (spelled_by (kind_above k) usable texts)) kind are.range;
}

-- what an answer says, by what it says otherwise
pub ok_says : {T E : Type 0} (Said Says : T → Type 0) (answer : Result T E) → ((x : T) → Said x → Says x) → IfOk answer Said → IfOk answer Says
ok_says Said Says (Ok x) on said = on x said
ok_says Said Says (Err why) on said = said
