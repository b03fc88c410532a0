-- What a transaction that is handed in has to be.
use Rattle.std.specs.Prelude.{Contains, ◌≡◌, ℕ, ◌≤◌, List, [], length, All, map}
use Rattle.page_spec.specs.PageMap.{PageMap}
use Rattle.engine_spec.specs.PageSet.{AreDifferent}
use Rattle.engine_spec.specs.declared.pins.Pin.{Pin}
use Rattle.engine_spec.specs.declared.commits.Who.{Who}
use Rattle.engine_spec.specs.declared.commits.CommitFault.{CommitFault}
use Rattle.engine_spec.specs.declared.commits.Mode.TheVariants.{Plain}
use Rattle.engine_spec.specs.Change.{Change}
use Rattle.engine_spec.specs.State.{EngineState}
use Rattle.engine_spec.specs.Written.{Submitted}
use Rattle.engine_spec.specs.Good.{Good}
use Rattle.page_face.specs.declared.prepared.Prepared.{Prepared}

-- what the transaction changed
abbrev pub change_in : {M : Type 0} → Prepared M → Change
change_in prepared = record {
  mode = prepared.mode;
  base = prepared.base;
  changed = prepared.changed;
  fresh = prepared.fresh;
  freed = prepared.freed;
  tail = prepared.tail;
}

-- the transaction as a commit sees it
abbrev pub submitted : {M : Type 0} → Prepared M → Who → Submitted
submitted prepared who = record {
  snap = prepared.snap;
  reads = prepared.reads;
  change = change_in prepared;
  said = prepared.said;
  wrote = prepared.wrote;
  session = who.session;
  ordinal = who.ordinal;
}

-- What a commit asks of a transaction: it is of the pin's snapshot; the pages that it changed are different and of the snapshot,
-- with all bytes of a page; a plain one has read page 1; and it makes and frees no page yet.
pub record IsFit {M : Type 0} (state : EngineState) (pin : Pin) (prepared : Prepared M) : Type 0 where
  pub snap : prepared.snap ≡ pin.n
  pub base : prepared.base ≡ pin.size
  pub different : AreDifferent (map (λ image. image.page) prepared.changed)
  pub in_range : All (λ image. (1 ≤ image.page) × (image.page ≤ pin.size)) prepared.changed
  pub whole : All (λ image. length image.bytes ≡ state.page_size) prepared.changed
  pub first_page : prepared.mode ≡ Plain → Contains prepared.reads 1
  pub fresh : prepared.fresh ≡ []
  pub freed : prepared.freed ≡ []

-- the transaction's change is good over its snapshot's map
abbrev pub IsGood : {M : Type 0} → (PageMap → Type 0) → (PageMap → List (List ℕ) → PageMap → Type 0) → PageMap → Prepared M → Type 0
IsGood sound leads snapshot prepared = Good sound leads snapshot prepared.reads (change_in prepared) prepared.said

-- a transaction that is refused is handed back as it was
abbrev pub IsHandedBack : {M : Type 0} → Prepared M → CommitFault × Prepared M → Type 0
IsHandedBack prepared refusal = refusal.1 ≡ prepared
