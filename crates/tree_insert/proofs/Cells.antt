-- A cell that was made is an item, whose chain was made for it.
use Rattle.std.proofs.Common.{◌≡◌, ℕ, ℤ, ◌-◌, ◌≤◌, ◌<◌, max, nat_le, Bool, true, false, cond, List, [], ◌∷◌, ◌++◌, length, take, drop, Option, Ok, refl, sym, subst, ap, ◌∙◌, arith}
use Rattle.std.proofs.lemmas.List.{length-take-le, length-drop, take_all, take-append-drop}
use Rattle.std.proofs.lemmas.Grind.{common_steps}
use Rattle.std.proofs.lemmas.Bool.Decides.{nat_tests}
use Rattle.page_spec.specs.View.{View}
use Rattle.page_face.specs.declared.pages_tells.PagesTells.{Ghosts}
use Rattle.node_spec.specs.Kinds.{is_table}
use Rattle.node_spec.specs.Cells.{NodeCell, most_local, least_local, fitted_local, local_size, spills}
use Rattle.tree_spec.specs.Shown.{Shown}
use Rattle.tree_spec.specs.Chains.{IsChain, chain_bytes}
use Rattle.tree_spec.specs.Trees.{IsItem}
use Rattle.overflow.specs.Following.{shown_over}
use Rattle.overflow.specs.Editing.{MakesPages}
use Rattle.overflow.specs.Writing.{HasWrittenChain}
use Rattle.node_edit.specs.Payloads.{leaf_kind, key_of, cell_of, IsLeafCell}
use Rattle.tree_edit.specs.Editing.{EditsPages, making}
use Rattle.tree_edit.proofs.Edits.{edits_makes, edits_none}
use Rattle.tree_keys.specs.Keys.{Sought, OfRow, OfEntry, is_row, rowid_of}
use Rattle.tree_insert.specs.Inserting.{MakesCell}

pub kind_is : (sought : Sought) → is_table (leaf_kind (rowid_of sought)) ≡ is_row sought
kind_is (OfRow rowid) = refl
kind_is (OfEntry entry) = refl

-- a payload that is stored whole
whole_local : (table : Bool) (usable payload : ℕ) → spills table usable payload ≡ false → local_size table usable payload ≡ payload
unfolding local_size
whole_local table usable payload is = rw is refl

above_most : (table : Bool) (usable payload : ℕ) → spills table usable payload ≡ true → most_local table usable < payload
unfolding spills
above_most table usable payload is = grind (arith, common_steps, nat_tests)

least_most : (table : Bool) (usable : ℕ) → least_local usable ≤ most_local table usable
unfolding least_local most_local
least_most true usable = omega arith
least_most false usable = omega arith

-- no cell stores more of a payload than there is
pub local_within : (table : Bool) (usable payload : ℕ) → local_size table usable payload ≤ payload
unfolding local_size
local_within table usable payload = by_spill (spills table usable payload) refl
  where
    by_fitted : spills table usable payload ≡ true → most_local table usable < payload → (fits : Bool) → nat_le (fitted_local usable payload) (most_local table usable) ≡ fits
        → local_size table usable payload ≤ payload
    by_fitted large less true is =
        let most : fitted_local usable payload ≤ most_local table usable = grind (arith, common_steps, nat_tests) in rw (large, is) (omega (arith, most, less))
    by_fitted large less false is = rw (large, is) (omega (arith, least_most table usable, less))

    by_spill : (large : Bool) → spills table usable payload ≡ large → local_size table usable payload ≤ payload
    by_spill true is = by_fitted is (above_most table usable payload is) (nat_le (fitted_local usable payload) (most_local table usable)) refl
    by_spill false is = rw is (omega arith)

-- the rest of some bytes, as a slice from a place to their end
pub rest_is : (bytes : List ℕ) (n : ℕ) → take (length bytes - n) (drop n bytes) ≡ drop n bytes
rest_is bytes n = take_all (length bytes - n) (drop n bytes) (omega (arith, length-drop n bytes))

-- what a cell stores and what its chain has are the payload
made_item : (usable last : ℕ) (shown : Shown) (rowid : Option ℤ) (payload chain : List ℕ) (first size : ℕ)
    → (length (drop (local_size (is_table (leaf_kind rowid)) usable (length payload)) payload) ≡ 0 → first ≡ 0)
    → IsChain usable last shown first (length (drop (local_size (is_table (leaf_kind rowid)) usable (length payload)) payload)) chain
    → chain_bytes usable shown chain (length (drop (local_size (is_table (leaf_kind rowid)) usable (length payload)) payload))
    ≡ drop (local_size (is_table (leaf_kind rowid)) usable (length payload)) payload
    → IsItem usable last shown (cell_of usable rowid payload first size) (record { key = key_of rowid; bytes = payload; chain = chain })
made_item usable last shown rowid payload chain first size none is_chain holds =
    let local = local_size (is_table (leaf_kind rowid)) usable (length payload) in
    let left : length payload - length (take local payload) ≡ length (drop local payload) =
    omega (arith, length-take-le local payload (local_within (is_table (leaf_kind rowid)) usable (length payload)), length-drop local payload) in
    record {
      key = refl;
      chain = subst (λ (n : ℕ). IsChain usable last shown (cond (spills (is_table (leaf_kind rowid)) usable (length payload)) first 0) n chain) (sym left)
          (subst (λ (f : ℕ). IsChain usable last shown f (length (drop local payload)) chain)
          (by_spill (spills (is_table (leaf_kind rowid)) usable (length payload)) refl) is_chain);
      bytes = sym (ap (λ (l : List ℕ). take local payload ++ l) (ap (λ (n : ℕ). chain_bytes usable shown chain n) left ∙ holds) ∙ take-append-drop local payload);
    }
  where
    by_spill : (large : Bool) → spills (is_table (leaf_kind rowid)) usable (length payload) ≡ large → first ≡ cond large first 0
    by_spill true is = refl
    by_spill false is =
        none (omega (arith, length-drop (local_size (is_table (leaf_kind rowid)) usable (length payload)) payload, whole_local (is_table (leaf_kind rowid)) usable (length payload) is))

pub makes_cell : {P : Type 0} (pages : Ghosts P) (old new : P) (sought : Sought) (payload rest text : List ℕ) (first : ℕ)
    → rest ≡ drop (local_size (is_row sought) (pages.usable old) (length payload)) payload
    → IsLeafCell (pages.usable old) (rowid_of sought) payload first text → HasWrittenChain pages old rest (Ok first) new
    → (length rest ≡ 0 → (first ≡ 0) × (new ≡ old)) → MakesCell pages old sought payload text new
makes_cell {P = P} pages old new sought payload rest text first is made written none =
    let usable = pages.usable old in
    let rest_is : rest ≡ drop (local_size (is_table (leaf_kind (rowid_of sought))) usable (length payload)) payload =
    is ∙ ap (λ (b : Bool). drop (local_size b usable (length payload)) payload) (sym (kind_is sought)) in
    record {
      one = made.one;
      rowid = ap (λ (c : NodeCell). c.rowid) made.spells;
      chain = written.list;
      holds = λ world told neat.
          subst (λ (c : NodeCell). IsItem usable (pages.last_page new) (shown_over pages new world) c (record { key = key_of (rowid_of sought); bytes = payload; chain = written.list })) (sym made.spells)
          (made_item usable (pages.last_page new) (shown_over pages new world) (rowid_of sought) payload written.list first (max 4 (length text))
          (λ empty. (none (ap length rest_is ∙ empty)).0)
          (subst (λ (l : List ℕ). IsChain usable (pages.last_page new) (shown_over pages new world) first (length l) written.list) rest_is (written.written.chain world told neat))
          (subst (λ (l : List ℕ). chain_bytes usable (shown_over pages new world) written.list (length l) ≡ l) rest_is (written.written.holds world told neat)));
      edits = λ world told neat. by_list world told neat written.list (written.written.chain world told neat) (written.makes world told neat);
    }
  where
    by_list : (world : View) → pages.tells new world → pages.neat old world → (list : List ℕ) → IsChain (pages.usable old) (pages.last_page new) (shown_over pages new world) first (length rest) list
        → MakesPages pages list old new world → EditsPages pages (making list) old new world
    by_list world told neat [] chain makes =
        subst (λ (p : P). EditsPages pages (making []) old p world) (sym (none chain.0).1) (edits_none pages old world neat)
    by_list world told neat (page ∷ list) chain makes = edits_makes pages (page ∷ list) old new world (omega arith) makes
