-- A payload as it is read, and the row in it.
use Rattle.std.proofs.Common.{◌≡◌, ℕ, ◌^◌, ◌<◌, ◌≤◌, List, [], ◌∷◌, length, Result, Ok, Err, inl, inr, refl, sym, subst, ap, ◌∙◌, arith}
use Rattle.std.specs.Prelude.{◌⊎◌}
use Rattle.engine_spec.specs.declared.commits.FetchFault.{FetchFault}
use Rattle.engine_spec.specs.declared.commits.FetchFault.TheVariants as fault
use Rattle.page_face.specs.declared.pages_tells.PagesTells.{Ghosts}
use Rattle.node_spec.specs.declared.kinds.Kind.{Kind}
use Rattle.node_spec.specs.Cells.{NodeCell, left_size}
use Rattle.page_form.specs.declared.cells.Cell.{Cell}
use Rattle.page_form.specs.Reading.{TellsCell}
use Rattle.page_form.proofs.CellReads.{local_here}
use Rattle.tree_spec.specs.Shown.{Shown}
use Rattle.value_form.specs.declared.value.Value.{Value}
use Rattle.value_form.specs.declared.fault.RecordFault.{RecordFault}
use Rattle.value_form.specs.declared.fault.RecordFault.TheVariants as refusal
use Rattle.value_form.specs.Record.{IsRecord, IsOrMemory}
use Rattle.overflow.specs.Following.{Leads, last_met, shown_over, Bars, HasFollowed}
use Rattle.tree_read.specs.Payloads.{chain_size, IsFollowed, AreOfChain, BreaksPayload, EndsPayload, EndsWithRow, IsCause, IsRecordCause, HasReadPayload, HasReadRow}

-- what a cell stores fits in its page
pub local_small : (usable : ℕ) (kind : Kind) (bytes : List ℕ) (told : Cell) (cell : NodeCell) → TellsCell usable kind bytes told cell → length cell.local ≤ usable
local_small usable kind bytes told cell t =
    let here = local_here usable kind bytes told cell (left_size kind) t refl in
    omega (arith, here.local_fits _ refl, t.inside, t.local)

pub of_chain : (usable last : ℕ) (shown : Shown) (cell : NodeCell) (chain : List ℕ) (next left : ℕ) → IsFollowed usable last shown cell chain next left
    → AreOfChain usable last shown cell chain
of_chain usable last shown cell [] next left followed = tt
of_chain usable last shown cell (p ∷ ps) next left followed = (next, (left, followed))

-- a payload that is too large
pub too_large : {P : Type 0} (pages : Ghosts P) (old : P) (cell : NodeCell) (below : ℕ) (bytes : List ℕ) → 2 ^ 32 ≤ cell.payload
    → HasReadPayload pages old cell below (Err (fault.Corrupt below)) bytes old
too_large pages old cell below bytes large = record {
  chain = [];
  read = refl;
  bytes_are = λ world told. tt;
  ends = λ world told. BreaksPayload.TooLarge refl refl large;
  cause = tt;
}

-- no memory for what the cell stores
pub row_no_memory : {P : Type 0} (pages : Ghosts P) (old : P) (cell : NodeCell) (below : ℕ) (why : FetchFault) → why ≡ fault.Memory
    → HasReadRow pages old cell below (Err why) old
row_no_memory pages old cell below why is = subst (λ (w : FetchFault). HasReadRow pages old cell below (Err w) old) (sym is) (record {
  chain = [];
  read = refl;
  ends = λ world told. tt;
  cause = tt;
})

-- a chain that begins out of range
pub begins_outside : {P : Type 0} (pages : Ghosts P) (old : P) (cell : NodeCell) (below : ℕ) (bytes : List ℕ) → cell.payload < 2 ^ 32
    → 0 < chain_size cell → (cell.overflow < 2) ⊎ (pages.last_page old < cell.overflow) → HasReadPayload pages old cell below (Err (fault.Corrupt below)) bytes old
begins_outside pages old cell below bytes small some outside = record {
  chain = [];
  read = refl;
  bytes_are = λ world told. tt;
  ends = λ world told. BreaksPayload.BreaksOff cell.overflow (chain_size cell) (small, (refl, refl)) refl some outside;
  cause = tt;
}

-- a chain that was followed
pub all_followed : {P : Type 0} (pages : Ghosts P) (old new : P) (cell : NodeCell) (below first size : ℕ) (before bytes : List ℕ)
    → first ≡ cell.overflow → size ≡ chain_size cell → before ≡ cell.local → cell.payload < 2 ^ 32
    → HasFollowed pages old first size before (Ok tt) bytes new → HasReadPayload pages old cell below (Ok tt) bytes new
all_followed pages old new cell below first size before bytes first_is size_is before_is small followed =
    let f : HasFollowed pages old cell.overflow (chain_size cell) cell.local (Ok tt) bytes new =
    subst (λ (n : ℕ). HasFollowed pages old n (chain_size cell) cell.local (Ok tt) bytes new) first_is
    (subst (λ (n : ℕ). HasFollowed pages old first n cell.local (Ok tt) bytes new) size_is
    (subst (λ (l : List ℕ). HasFollowed pages old first size l (Ok tt) bytes new) before_is followed)) in
    record {
      chain = f.list;
      read = f.read;
      bytes_are = f.bytes;
      ends = λ world told. (
        f.next,
        (
          small,
          subst (λ (n : ℕ). Leads (pages.usable old) (pages.last_page old) (shown_over pages old world) cell.overflow (chain_size cell) f.list f.next n)
              f.whole (f.leads world told),
        ),
      );
      cause = tt;
    }

-- the page that was met last is that of the chain where there is one
named : (last first size : ℕ) (usable : ℕ) (shown : Shown) (below : ℕ) (list : List ℕ) (next left : ℕ) → Leads usable last shown first size list next left
    → (0 < size → (2 ≤ first) × (first ≤ last)) → 0 < left → (next < 2) ⊎ (last < next) → last_met first list ≡ last_met below list
named last first size usable shown below [] next left leads inside some outside =
    let range = inside (omega (arith, some, leads.1)) in
    absurd (elim outside [ inl low ↦ omega (arith, low, leads.0, range.0) | inr high ↦ omega (arith, high, leads.0, range.1) ])
named last first size usable shown below (p ∷ ps) next left leads inside some outside = refl

breaks_off : (usable last : ℕ) (shown : Shown) (cell : NodeCell) (below : ℕ) (before after : ℕ) (list : List ℕ) (next left : ℕ) (why : FetchFault)
    → cell.payload < 2 ^ 32 → (0 < chain_size cell → (2 ≤ cell.overflow) × (cell.overflow ≤ last))
    → Leads usable last shown cell.overflow (chain_size cell) list next left → Bars last before after (last_met cell.overflow list) next left why
    → EndsPayload usable last shown cell below list (Err why)
breaks_off usable last shown cell below before after list next left fault.Disk small inside leads bars = of_chain usable last shown cell list next left (small, leads)
breaks_off usable last shown cell below before after list next left (fault.Corrupt page) small inside leads bars =
    BreaksPayload.BreaksOff next left (small, leads)
    (bars.0 ∙ named last cell.overflow (chain_size cell) usable shown below list next left leads inside bars.1 bars.2) bars.1 bars.2
breaks_off usable last shown cell below before after list next left (fault.Size count) small inside leads bars = absurd bars
breaks_off usable last shown cell below before after list next left fault.Memory small inside leads bars = of_chain usable last shown cell list next left (small, leads)

bars_cause : (last before after met next left : ℕ) (why : FetchFault) → Bars last before after met next left why → IsCause before after why
bars_cause last before after met next left fault.Disk bars = bars
bars_cause last before after met next left (fault.Corrupt page) bars = tt
bars_cause last before after met next left (fault.Size count) bars = absurd bars
bars_cause last before after met next left fault.Memory bars = tt

pub part_followed : {P : Type 0} (pages : Ghosts P) (old new : P) (cell : NodeCell) (below first size : ℕ) (before bytes bytes_then : List ℕ) (why : FetchFault)
    → first ≡ cell.overflow → size ≡ chain_size cell → cell.payload < 2 ^ 32 → (0 < size → (2 ≤ first) × (first ≤ pages.last_page old))
    → HasFollowed pages old first size before (Err why) bytes new → HasReadPayload pages old cell below (Err why) bytes_then new
part_followed pages old new cell below first size before bytes bytes_then why first_is size_is small inside followed =
    let f : HasFollowed pages old cell.overflow (chain_size cell) before (Err why) bytes new =
    subst (λ (n : ℕ). HasFollowed pages old n (chain_size cell) before (Err why) bytes new) first_is
    (subst (λ (n : ℕ). HasFollowed pages old first n before (Err why) bytes new) size_is followed) in
    let range : 0 < chain_size cell → (2 ≤ cell.overflow) × (cell.overflow ≤ pages.last_page old) =
    subst (λ (n : ℕ). 0 < chain_size cell → (2 ≤ n) × (n ≤ pages.last_page old)) first_is
    (subst (λ (n : ℕ). 0 < n → (2 ≤ first) × (first ≤ pages.last_page old)) size_is inside) in
    record {
      chain = f.list;
      read = f.read;
      bytes_are = λ world told. tt;
      ends = λ world told. breaks_off (pages.usable old) (pages.last_page old) (shown_over pages old world) cell below (pages.faults old) (pages.faults new)
          f.list f.next f.left why small range (f.leads world told) f.cause;
      cause = bars_cause (pages.last_page old) (pages.faults old) (pages.faults new) _ f.next f.left why f.cause;
    }

-- The row in a payload.
pub row_read : {P : Type 0} (pages : Ghosts P) (old new : P) (cell : NodeCell) (below : ℕ) (bytes : List ℕ) (row : List Value)
    → HasReadPayload pages old cell below (Ok tt) bytes new → IsRecord bytes row → HasReadRow pages old cell below (Ok row) new
row_read pages old new cell below bytes row payload is = record {
  chain = payload.chain;
  read = payload.read;
  ends = λ world told. ((payload.ends world told).0, ((payload.ends world told).1, subst (λ (b : List ℕ). IsRecord b row) (payload.bytes_are world told) is));
  cause = tt;
}

row_refused : {P : Type 0} (pages : Ghosts P) (old new : P) (cell : NodeCell) (below : ℕ) (bytes : List ℕ)
    → HasReadPayload pages old cell below (Ok tt) bytes new → ((row : List Value) → IsRecord bytes row → ⊥)
    → HasReadRow pages old cell below (Err (fault.Corrupt below)) new
row_refused pages old new cell below bytes payload none = record {
  chain = payload.chain;
  read = payload.read;
  ends = λ world told. BreaksPayload.NoRecord (payload.ends world told).0 (payload.ends world told).1 refl
      (subst (λ (b : List ℕ). (row : List Value) → IsRecord b row → ⊥) (payload.bytes_are world told) none);
  cause = tt;
}

pub row_memory : {P : Type 0} (pages : Ghosts P) (old new : P) (cell : NodeCell) (below : ℕ) (bytes : List ℕ)
    → HasReadPayload pages old cell below (Ok tt) bytes new → HasReadRow pages old cell below (Err fault.Memory) new
row_memory pages old new cell below bytes payload = record {
  chain = payload.chain;
  read = payload.read;
  ends = λ world told. of_chain (pages.usable old) (pages.last_page old) (shown_over pages old world) cell payload.chain _ _ (payload.ends world told).1;
  cause = tt;
}

row_end : (usable last : ℕ) (shown : Shown) (cell : NodeCell) (below : ℕ) (chain : List ℕ) (why : FetchFault) → EndsPayload usable last shown cell below chain (Err why)
    → EndsWithRow usable last shown cell below chain (Err why)
row_end usable last shown cell below chain fault.Disk ends = ends
row_end usable last shown cell below chain (fault.Corrupt page) ends = ends
row_end usable last shown cell below chain (fault.Size count) ends = ends
row_end usable last shown cell below chain fault.Memory ends = ends

pub row_unread : {P : Type 0} (pages : Ghosts P) (old new : P) (cell : NodeCell) (below : ℕ) (bytes : List ℕ) (why : FetchFault)
    → HasReadPayload pages old cell below (Err why) bytes new → HasReadRow pages old cell below (Err why) new
row_unread pages old new cell below bytes why payload = record {
  chain = payload.chain;
  read = payload.read;
  ends = λ world told. row_end (pages.usable old) (pages.last_page old) (shown_over pages old world) cell below payload.chain why (payload.ends world told);
  cause = payload.cause;
}

abbrev fault_in : Result (List Value) RecordFault → RecordFault
fault_in (Ok row) = refusal.Memory
fault_in (Err why) = why

refused_as : {P : Type 0} (pages : Ghosts P) (old new : P) (cell : NodeCell) (below : ℕ) (bytes : List ℕ) (why : RecordFault) (told : FetchFault)
    → HasReadPayload pages old cell below (Ok tt) bytes new → told ≡ fault.Corrupt below → (why ≡ refusal.Memory → ⊥)
    → ((row : List Value) → IsRecord bytes row → IsOrMemory (Err why) (Ok row)) → HasReadRow pages old cell below (Err told) new
refused_as pages old new cell below bytes why told payload is never each =
    subst (λ (f : FetchFault). HasReadRow pages old cell below (Err f) new) (sym is)
    (row_refused pages old new cell below bytes payload (λ row is_row. elim (each row is_row) [ inl same ↦ cc | inr none ↦ absurd (never (ap fault_in none)) ]))

pub no_row : {P : Type 0} (pages : Ghosts P) (old new : P) (cell : NodeCell) (below : ℕ) (bytes : List ℕ) (why : RecordFault) (told : FetchFault)
    → HasReadPayload pages old cell below (Ok tt) bytes new → ((row : List Value) → IsRecord bytes row → IsOrMemory (Err why) (Ok row))
    → IsRecordCause why below told → HasReadRow pages old cell below (Err told) new
no_row pages old new cell below bytes (refusal.BadHeader at) told payload each is =
    refused_as pages old new cell below bytes (refusal.BadHeader at) told payload is (λ e. cc) each
no_row pages old new cell below bytes (refusal.Short need) told payload each is =
    refused_as pages old new cell below bytes (refusal.Short need) told payload is (λ e. cc) each
no_row pages old new cell below bytes (refusal.Float column) told payload each is =
    refused_as pages old new cell below bytes (refusal.Float column) told payload is (λ e. cc) each
no_row pages old new cell below bytes refusal.Memory told payload each is =
    subst (λ (f : FetchFault). HasReadRow pages old cell below (Err f) new) (sym is) (row_memory pages old new cell below bytes payload)
