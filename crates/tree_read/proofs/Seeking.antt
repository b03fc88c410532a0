-- An entry among the cells of one page.
use Rattle.std.proofs.Common.{◌≡◌, ℕ, suc, ◌+◌, ◌<◌, ◌≤◌, List, [], ◌∷◌, ◌++◌, length, Result, Ok, Err, refl, sym, subst, arith, append_assoc, inl, inr}
use Rattle.std.specs.Prelude.{◌⊎◌, IfErr}
use Rattle.std.specs.declared.cmp.Ordering.{Ordering}
use Rattle.std.specs.declared.cmp.Ordering.TheVariants.{Less, Equal, Greater}
use Rattle.page_spec.specs.View.{View}
use Rattle.engine_spec.specs.declared.commits.FetchFault.{FetchFault}
use Rattle.engine_spec.specs.declared.commits.FetchFault.TheVariants as fault
use Rattle.page_face.specs.declared.pages_tells.PagesTells.{Ghosts}
use Rattle.page_face.specs.Pages.{ReadsAtMost}
use Rattle.node_spec.specs.Cells.{NodeCell}
use Rattle.node_spec.specs.Nodes.{Node, cell_at}
use Rattle.tree_spec.specs.Shown.{Shown}
use Rattle.tree_spec.specs.Layout.{Each}
use Rattle.tree_spec.proofs.Lists.{each-append}
use Rattle.value_form.specs.declared.value.Value.{Value}
use Rattle.value_form.specs.Order.{row_order}
use Rattle.overflow.specs.Following.{last_met, shown_over, all_read}
use Rattle.tree_read.specs.declared.entry.Spot.TheVariants.{At, Before}
use Rattle.tree_read.specs.Payloads.{AreOfChain, BreaksPayload, IsCause, HasReadRow}
use Rattle.tree_read.specs.Entries.{Compares, IsOfCells, EndsSeek, HasSought, IsOneOf, EndsCompare, HasCompared}
use Rattle.tree_read.proofs.Payloads.{of_chain}
use Rattle.tree_read.proofs.Descents.{same_shown, read_both, cause_before}

-- a row that was read is compared
pub compared : {P : Type 0} (pages : Ghosts P) (old new : P) (cell : NodeCell) (below : ℕ) (entry row : List Value) (order : Ordering) → HasReadRow pages old cell below (Ok row) new
    → order ≡ row_order row entry → HasCompared pages old cell below entry (Ok order) new
compared pages old new cell below entry row order read is = record {
  chain = read.chain;
  read = read.read;
  ends = λ world told. (row, (read.ends world told, is));
  cause = tt;
}

pub not_compared : {P : Type 0} (pages : Ghosts P) (old new : P) (cell : NodeCell) (below : ℕ) (entry : List Value) (why : FetchFault) → HasReadRow pages old cell below (Err why) new
    → HasCompared pages old cell below entry (Err why) new
not_compared pages old new cell below entry why read = record {
  chain = read.chain;
  read = read.read;
  ends = read.ends;
  cause = read.cause;
}

-- The search as far as it came.
pub record SoFarIn {P : Type 0} (pages : Ghosts P) (old now : P) (node : Node) (entry : List Value) (low high : ℕ) : Type 0 where
  pub list : List ℕ
  pub read : pages.reads now ≡ all_read (pages.has old) (pages.reads old) list
  pub are : (world : View) → pages.tells now world → Each (IsOfCells (pages.usable old) (pages.last_page old) (shown_over pages old world) node) list
  pub most : high ≤ length node.cells
  pub above : (world : View) → pages.tells now world → (k : ℕ) → low ≡ suc k → Compares (pages.usable old) (pages.last_page old) (shown_over pages old world) node k entry Less
  pub below : (world : View) → pages.tells now world → high < length node.cells
      → Compares (pages.usable old) (pages.last_page old) (shown_over pages old world) node high entry Greater

pub none_sought : {P : Type 0} (pages : Ghosts P) (old : P) (node : Node) (entry : List Value) (high : ℕ) → high ≡ length node.cells → SoFarIn pages old old node entry 0 high
none_sought pages old node entry high is = record {
  list = [];
  read = refl;
  are = λ world told. tt;
  most = omega (arith, is);
  above = λ world told k none. absurd (omega (arith, none));
  below = λ world told inside. absurd (omega (arith, inside, is));
}

-- the pages of a cell's chain are of the cells
of_cells : (usable last : ℕ) (shown : Shown) (node : Node) (k : ℕ) (front chain : List ℕ) → k < length node.cells → AreOfChain usable last shown (cell_at node k) (front ++ chain)
    → Each (IsOfCells usable last shown node) chain
of_cells usable last shown node k front [] inside are = tt
of_cells usable last shown node k front (p ∷ ps) inside are = (
  record { k = k; inside = inside; front = front; rest = ps; are = are },
  of_cells usable last shown node k (front ++ p ∷ []) ps inside (subst (AreOfChain usable last shown (cell_at node k)) (sym (append_assoc front (p ∷ []) ps)) are),
)

chain_of : (usable last : ℕ) (shown : Shown) (cell : NodeCell) (below : ℕ) (entry : List Value) (chain : List ℕ) (result : Result Ordering FetchFault)
    → EndsCompare usable last shown cell below entry chain result → AreOfChain usable last shown cell chain
chain_of usable last shown cell below entry chain (Ok order) ends = of_chain usable last shown cell chain ends.1.0.0 0 ends.1.0.1.0
chain_of usable last shown cell below entry chain (Err fault.Disk) ends = ends
chain_of usable last shown cell below entry chain (Err (fault.Corrupt page)) ends = chain_of_broken ends
  where
    chain_of_broken : BreaksPayload usable last shown cell below chain page → AreOfChain usable last shown cell chain
    chain_of_broken (BreaksPayload.TooLarge none is large) = subst (AreOfChain usable last shown cell) (sym none) tt
    chain_of_broken (BreaksPayload.BreaksOff next left followed is some outside) = of_chain usable last shown cell chain next left followed
    chain_of_broken (BreaksPayload.NoRecord next followed is none) = of_chain usable last shown cell chain next 0 followed
chain_of usable last shown cell below entry chain (Err (fault.Size count)) ends = absurd ends
chain_of usable last shown cell below entry chain (Err fault.Memory) ends = ends

-- One comparison more, said of the first state.
pub record OneMore {P : Type 0} (pages : Ghosts P) (old then : P) (node : Node) (k below : ℕ) (entry : List Value) (result : Result Ordering FetchFault) (before : List ℕ) : Type 0 where
  pub chain : List ℕ
  pub read : pages.reads then ≡ all_read (pages.has old) (pages.reads old) (before ++ chain)
  pub are : (world : View) → pages.tells then world → Each (IsOfCells (pages.usable old) (pages.last_page old) (shown_over pages old world) node) chain
  pub ends : (world : View) → pages.tells then world
      → EndsCompare (pages.usable old) (pages.last_page old) (shown_over pages old world) (cell_at node k) below entry chain result
  pub cause : IfErr result (IsCause (pages.faults old) (pages.faults then))

pub one_compared : {P : Type 0} (pages : Ghosts P) (old now then : P) (node : Node) (k below : ℕ) (entry : List Value) (result : Result Ordering FetchFault) (before : List ℕ)
    → k < length node.cells → ReadsAtMost pages old now → ReadsAtMost pages now then → pages.reads now ≡ all_read (pages.has old) (pages.reads old) before
    → HasCompared pages now (cell_at node k) below entry result then → OneMore pages old then node k below entry result before
one_compared pages old now then node k below entry result before inside reading more now_is compared =
    let ends = λ (world : View) (told : pages.tells then world).
    subst (λ (u : ℕ). EndsCompare u (pages.last_page old) (shown_over pages old world) (cell_at node k) below entry compared.chain result) reading.edits.usable
    (subst (λ (n : ℕ). EndsCompare (pages.usable now) n (shown_over pages old world) (cell_at node k) below entry compared.chain result) reading.last
    (subst (λ (s : Shown). EndsCompare (pages.usable now) (pages.last_page now) s (cell_at node k) below entry compared.chain result)
    (same_shown pages old now reading world (more.edits.narrows world told)) (compared.ends world told))) in
    record {
      chain = compared.chain;
      read = read_both (pages.has old) (pages.has now) (pages.reads old) (pages.reads now) (pages.reads then) before compared.chain reading.has now_is compared.read;
      are = λ world told. of_cells (pages.usable old) (pages.last_page old) (shown_over pages old world) node k [] compared.chain inside
          (chain_of (pages.usable old) (pages.last_page old) (shown_over pages old world) (cell_at node k) below entry compared.chain result (ends world told));
      ends = ends;
      cause = if_cause result compared.cause;
    }
  where
    if_cause : (result : Result Ordering FetchFault) → IfErr result (IsCause (pages.faults now) (pages.faults then)) → IfErr result (IsCause (pages.faults old) (pages.faults then))
    if_cause (Ok order) cause = tt
    if_cause (Err why) cause = cause_before _ _ _ why reading.edits.faults cause

-- what one comparison says
compares : (usable last : ℕ) (shown : Shown) (node : Node) (k below : ℕ) (entry : List Value) (order : Ordering) (chain : List ℕ) → k < length node.cells
    → EndsCompare usable last shown (cell_at node k) below entry chain (Ok order) → Compares usable last shown node k entry order
compares usable last shown node k below entry order chain inside ends = record {
  inside = inside;
  chain = chain;
  next = ends.1.0.0;
  row = ends.0;
  followed = ends.1.0.1.0;
  is_record = ends.1.0.1.1;
  order_is = ends.1.1;
}

pub goes_up : {P : Type 0} (pages : Ghosts P) (old now then : P) (node : Node) (below : ℕ) (entry : List Value) (low high middle : ℕ)
    → middle < length node.cells → ReadsAtMost pages now then → (so_far : SoFarIn pages old now node entry low high)
    → OneMore pages old then node middle below entry (Ok Less) so_far.list → SoFarIn pages old then node entry (middle + 1) high
goes_up pages old now then node below entry low high middle inside more so_far one = record {
  list = so_far.list ++ one.chain;
  read = one.read;
  are = λ world told. each-append _ so_far.list one.chain (so_far.are world (more.edits.narrows world told)) (one.are world told);
  most = so_far.most;
  above = λ world told k is.
      let same : middle ≡ k = omega (arith, is) in
      subst (λ (n : ℕ). Compares (pages.usable old) (pages.last_page old) (shown_over pages old world) node n entry Less) same
      (compares (pages.usable old) (pages.last_page old) (shown_over pages old world) node middle below entry Less one.chain inside (one.ends world told));
  below = λ world told within. so_far.below world (more.edits.narrows world told) within;
}

pub goes_down : {P : Type 0} (pages : Ghosts P) (old now then : P) (node : Node) (below : ℕ) (entry : List Value) (low high middle : ℕ)
    → middle < length node.cells → ReadsAtMost pages now then → (so_far : SoFarIn pages old now node entry low high)
    → OneMore pages old then node middle below entry (Ok Greater) so_far.list → SoFarIn pages old then node entry low middle
goes_down pages old now then node below entry low high middle inside more so_far one = record {
  list = so_far.list ++ one.chain;
  read = one.read;
  are = λ world told. each-append _ so_far.list one.chain (so_far.are world (more.edits.narrows world told)) (one.are world told);
  most = omega (arith, inside);
  above = λ world told k is. so_far.above world (more.edits.narrows world told) k is;
  below = λ world told within. compares (pages.usable old) (pages.last_page old) (shown_over pages old world) node middle below entry Greater one.chain inside (one.ends world told);
}

pub is_there : {P : Type 0} (pages : Ghosts P) (old now then : P) (node : Node) (below : ℕ) (entry : List Value) (low high middle : ℕ)
    → middle < length node.cells → ReadsAtMost pages now then → (so_far : SoFarIn pages old now node entry low high)
    → OneMore pages old then node middle below entry (Ok Equal) so_far.list → HasSought pages old node below entry (Ok At) then
is_there pages old now then node below entry low high middle inside more so_far one = record {
  list = so_far.list ++ one.chain;
  read = one.read;
  are = λ world told. each-append _ so_far.list one.chain (so_far.are world (more.edits.narrows world told)) (one.are world told);
  ends = λ world told. (middle, compares (pages.usable old) (pages.last_page old) (shown_over pages old world) node middle below entry Equal one.chain inside (one.ends world told));
  cause = tt;
}

pub one_second : (pages more : List ℕ) (page : ℕ) → IsOneOf more page → IsOneOf (pages ++ more) page
one_second [] more page one = one
one_second (p ∷ ps) more page one = inr (one_second ps more page one)

-- the page that was met last
met_among : (below : ℕ) (chain : List ℕ) → (last_met below chain ≡ below) ⊎ IsOneOf chain (last_met below chain)
met_among below [] = inl refl
met_among below (p ∷ ps) = elim (met_among p ps) [ inl same ↦ inr (inl same) | inr one ↦ inr (inr one) ]

named_one : (usable last : ℕ) (shown : Shown) (cell : NodeCell) (below : ℕ) (chain : List ℕ) (page : ℕ) → BreaksPayload usable last shown cell below chain page
    → (page ≡ below) ⊎ IsOneOf chain page
named_one usable last shown cell below chain page (BreaksPayload.TooLarge none is large) = inl is
named_one usable last shown cell below chain page (BreaksPayload.BreaksOff next left followed is some outside) =
    subst (λ (n : ℕ). (n ≡ below) ⊎ IsOneOf chain n) (sym is) (met_among below chain)
named_one usable last shown cell below chain page (BreaksPayload.NoRecord next followed is none) = inl is

seek_end : (usable last : ℕ) (shown : Shown) (node : Node) (k below : ℕ) (entry : List Value) (before chain : List ℕ) (why : FetchFault) → k < length node.cells
    → EndsCompare usable last shown (cell_at node k) below entry chain (Err why) → EndsSeek usable last shown node below entry (before ++ chain) (Err why)
seek_end usable last shown node k below entry before chain fault.Disk inside ends = tt
seek_end usable last shown node k below entry before chain (fault.Corrupt page) inside ends = (
  record { k = k; inside = inside; chain = chain; breaks = ends },
  elim (named_one usable last shown (cell_at node k) below chain page ends) [ inl own ↦ inl own | inr one ↦ inr (one_second before chain page one) ],
)
seek_end usable last shown node k below entry before chain (fault.Size count) inside ends = ends
seek_end usable last shown node k below entry before chain fault.Memory inside ends = tt

pub seek_fails : {P : Type 0} (pages : Ghosts P) (old now then : P) (node : Node) (below : ℕ) (entry : List Value) (low high middle : ℕ) (why : FetchFault)
    → middle < length node.cells → ReadsAtMost pages now then → (so_far : SoFarIn pages old now node entry low high)
    → OneMore pages old then node middle below entry (Err why) so_far.list → HasSought pages old node below entry (Err why) then
seek_fails pages old now then node below entry low high middle why inside more so_far one = record {
  list = so_far.list ++ one.chain;
  read = one.read;
  are = λ world told. each-append _ so_far.list one.chain (so_far.are world (more.edits.narrows world told)) (one.are world told);
  ends = λ world told. seek_end (pages.usable old) (pages.last_page old) (shown_over pages old world) node middle below entry so_far.list one.chain why inside (one.ends world told);
  cause = one.cause;
}

pub is_between : {P : Type 0} (pages : Ghosts P) (old now : P) (node : Node) (below : ℕ) (entry : List Value) (low high : ℕ) → low ≤ high → high ≤ low
    → SoFarIn pages old now node entry low high → HasSought pages old node below entry (Ok (Before low)) now
is_between pages old now node below entry low high order met so_far = record {
  list = so_far.list;
  read = so_far.read;
  are = so_far.are;
  ends = λ world told. record {
    most = omega (arith, so_far.most, order);
    above = so_far.above world told;
    below = λ inside. subst (λ (n : ℕ). Compares (pages.usable old) (pages.last_page old) (shown_over pages old world) node n entry Greater) (omega (arith, order, met))
        (so_far.below world told (omega (arith, inside, order, met)));
  };
  cause = tt;
}
