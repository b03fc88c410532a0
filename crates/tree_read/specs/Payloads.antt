-- A cell's payload as it is read: what the cell stores, and then the chain as far as it was followed.
use Rattle.std.specs.Prelude.{◌≡◌, ◌⊎◌, ℕ, ◌-◌, ◌^◌, ◌<◌, ◌≤◌, List, [], ◌∷◌, ◌++◌, length, Result, Ok, Err, IfErr, OnOk}
use Rattle.disk_face.specs.Faults.{Rose}
use Rattle.page_spec.specs.View.{View}
use Rattle.engine_spec.specs.declared.commits.FetchFault.{FetchFault}
use Rattle.engine_spec.specs.declared.commits.FetchFault.TheVariants as fault
use Rattle.page_face.specs.declared.pages_tells.PagesTells.{Ghosts}
use Rattle.node_spec.specs.Cells.{NodeCell}
use Rattle.page_form.specs.declared.cells.Cell.{Cell}
use Rattle.tree_spec.specs.Shown.{Shown}
use Rattle.tree_spec.specs.Chains.{chain_bytes}
use Rattle.value_form.specs.declared.value.Value.{Value}
use Rattle.value_form.specs.declared.fault.RecordFault.{RecordFault}
use Rattle.value_form.specs.declared.fault.RecordFault.TheVariants as refusal
use Rattle.value_form.specs.Record.{IsRecord}
use Rattle.overflow.specs.Following.{Leads, last_met, all_read, shown_over}

-- how many bytes of a payload its chain has
abbrev pub chain_size : NodeCell → ℕ
chain_size cell = cell.payload - length cell.local

-- the payload, by the pages of its chain
abbrev pub payload_bytes : (usable : ℕ) → Shown → NodeCell → List ℕ → List ℕ
payload_bytes usable shown cell chain = cell.local ++ chain_bytes usable shown chain (chain_size cell)

-- Whoever follows the chain of a payload of fewer than 2^32 bytes meets these pages and comes to the next number, with what is left to come.
abbrev pub IsFollowed : (usable last : ℕ) → Shown → NodeCell → List ℕ → (next left : ℕ) → Type 0
IsFollowed usable last shown cell chain next left =
    (cell.payload < 2 ^ 32) × Leads usable last shown cell.overflow (chain_size cell) chain next left

-- no page of a chain was read, or these
abbrev pub AreOfChain : (usable last : ℕ) → Shown → NodeCell → List ℕ → Type 0
AreOfChain usable last shown cell [] = Unit {0}
AreOfChain usable last shown cell (p ∷ ps) = (next : ℕ) × ((left : ℕ) × IsFollowed usable last shown cell (p ∷ ps) next left)

-- Why the payload of a cell of a page is corrupt: it is too large, and then no page of its chain was read; bytes are to come and the page
-- that was read last names a number out of range; or it is no record without a float.
pub data BreaksPayload (usable last : ℕ) (shown : Shown) (cell : NodeCell) (below : ℕ) (chain : List ℕ) (page : ℕ) : Type 0 where
  TooLarge : chain ≡ [] → page ≡ below → 2 ^ 32 ≤ cell.payload → BreaksPayload usable last shown cell below chain page
  BreaksOff : (next left : ℕ) → IsFollowed usable last shown cell chain next left → page ≡ last_met below chain → 0 < left
      → (next < 2) ⊎ (last < next) → BreaksPayload usable last shown cell below chain page
  NoRecord : (next : ℕ) → IsFollowed usable last shown cell chain next 0 → page ≡ below
      → ((row : List Value) → IsRecord (payload_bytes usable shown cell chain) row → ⊥) → BreaksPayload usable last shown cell below chain page

-- How reading the payload of a cell of a page ended.
abbrev pub EndsPayload : (usable last : ℕ) → Shown → NodeCell → (below : ℕ) → List ℕ → Result Unit FetchFault → Type 0
EndsPayload usable last shown cell below chain (Ok done) = (next : ℕ) × IsFollowed usable last shown cell chain next 0
EndsPayload usable last shown cell below chain (Err fault.Disk) = AreOfChain usable last shown cell chain
EndsPayload usable last shown cell below chain (Err (fault.Corrupt page)) = BreaksPayload usable last shown cell below chain page
EndsPayload usable last shown cell below chain (Err (fault.Size pages)) = ⊥
EndsPayload usable last shown cell below chain (Err fault.Memory) = AreOfChain usable last shown cell chain

-- why a record that was refused makes its page corrupt: for each cause but want of memory
abbrev pub IsRecordCause : RecordFault → (page : ℕ) → FetchFault → Type 0
IsRecordCause (refusal.BadHeader at) page why = why ≡ fault.Corrupt page
IsRecordCause (refusal.Short need) page why = why ≡ fault.Corrupt page
IsRecordCause (refusal.Float column) page why = why ≡ fault.Corrupt page
IsRecordCause refusal.Memory page why = why ≡ fault.Memory

-- How reading the row of a cell of a page ended.
abbrev pub EndsWithRow : (usable last : ℕ) → Shown → NodeCell → (below : ℕ) → List ℕ → Result (List Value) FetchFault → Type 0
EndsWithRow usable last shown cell below chain (Ok row) =
    (next : ℕ) × (IsFollowed usable last shown cell chain next 0 × IsRecord (payload_bytes usable shown cell chain) row)
EndsWithRow usable last shown cell below chain (Err fault.Disk) = AreOfChain usable last shown cell chain
EndsWithRow usable last shown cell below chain (Err (fault.Corrupt page)) = BreaksPayload usable last shown cell below chain page
EndsWithRow usable last shown cell below chain (Err (fault.Size pages)) = ⊥
EndsWithRow usable last shown cell below chain (Err fault.Memory) = AreOfChain usable last shown cell chain

-- the disk is blamed only where it failed, and the size never
abbrev pub IsCause : (before after : ℕ) → FetchFault → Type 0
IsCause before after fault.Disk = Rose before after
IsCause before after (fault.Corrupt page) = Unit {0}
IsCause before after (fault.Size pages) = ⊥
IsCause before after fault.Memory = Unit {0}

-- what was told of a cell, and the bytes that it stores
pub record IsCopied (told : Cell) (cell : NodeCell) (bytes : List ℕ) : Type 0 where
  pub payload : told.payload ≡ cell.payload
  pub local : told.local ≡ length cell.local
  pub overflow : told.overflow ≡ cell.overflow
  pub bytes_are : bytes ≡ cell.local
  pub few : length bytes ≤ 65536

-- A payload was read: these pages of its chain were read and no others, and over each world that is still told they are those that it leads
-- to. It went well only where no bytes are left, and then these are its bytes.
pub record HasReadPayload {P : Type 0} (pages : Ghosts P) (old : P) (cell : NodeCell) (below : ℕ) (result : Result Unit FetchFault) (bytes : List ℕ) (new : P) : Type 0 where
  pub chain : List ℕ
  pub read : pages.reads new ≡ all_read (pages.has old) (pages.reads old) chain
  pub bytes_are : (world : View) → pages.tells new world → OnOk result (bytes ≡ payload_bytes (pages.usable old) (shown_over pages old world) cell chain)
  pub ends : (world : View) → pages.tells new world
      → EndsPayload (pages.usable old) (pages.last_page old) (shown_over pages old world) cell below chain result
  pub cause : IfErr result (IsCause (pages.faults old) (pages.faults new))

-- The row of a cell was read: these pages of its chain were read and no others, and over each world that is still told it ended so.
pub record HasReadRow {P : Type 0} (pages : Ghosts P) (old : P) (cell : NodeCell) (below : ℕ) (result : Result (List Value) FetchFault) (new : P) : Type 0 where
  pub chain : List ℕ
  pub read : pages.reads new ≡ all_read (pages.has old) (pages.reads old) chain
  pub ends : (world : View) → pages.tells new world
      → EndsWithRow (pages.usable old) (pages.last_page old) (shown_over pages old world) cell below chain result
  pub cause : IfErr result (IsCause (pages.faults old) (pages.faults new))
