-- The payload of a cell: its chain, and in page 1's tree the schema row.
use Rattle.std.proofs.Common.{◌≡◌, ℕ, ℤ, zero, suc, ◌+◌, ◌-◌, ◌^◌, ◌<◌, ◌≤◌, Bool, true, false, List, [], ◌∷◌, ◌++◌, length, drop, slice_range, Option, Some, None, refl, sym, subst, ap, ◌∙◌, arith, append-nil, inl, inr}
use Rattle.std.specs.Prelude.{◌⊎◌, Result, Ok, Err, OnOk}
use Rattle.std.proofs.lemmas.List.{length-append}
use Rattle.node_spec.specs.declared.kinds.Kind.{Kind}
use Rattle.node_spec.specs.Kinds.{is_table}
use Rattle.node_spec.specs.Cells.{NodeCell, local_size, spills, left_size, payload_in, payload_at, cell_in}
use Rattle.tree_spec.specs.Layout.{Each, Item}
use Rattle.tree_spec.specs.Shown.{shown_by}
use Rattle.tree_spec.specs.Chains.{chain_bytes}
use Rattle.value_form.specs.declared.value.Value.{Value}
use Rattle.value_form.specs.declared.value.Value.TheVariants.{Null, Int, Text, Blob}
use Rattle.value_form.specs.Record.{IsRecord}
use Rattle.sound_spec.specs.Schema.{column, IsRootNumber, IsSchemaRow, NamesRoot, with_root}
use Rattle.page_form.specs.Reading.{TellsCell}
use Rattle.page_form.specs.declared.cells.Cell.{Cell}
use Rattle.page_face.specs.declared.pages_tells.PagesTells.{Ghosts}
use Rattle.page_face.specs.Pages.{ReadsAtMost}
use Rattle.page_face.proofs.PageLaws.{reading_same}
use Rattle.check_spec.specs.declared.fault.CheckFault.{CheckFault}
use Rattle.check_spec.specs.declared.fault.CheckFault.TheVariants as fault
use Rattle.check_spec.specs.Walk.{Place, Past, link_places, payload_places}
use Rattle.check_spec.proofs.CellsFit.{local_less, take_short}
use Rattle.tree_check.specs.Checking.{database_over}
use Rattle.tree_check.specs.declared.walk.Walk.{Walk}
use Rattle.tree_check.specs.Walking.{KeepsPast, SuitsPages, ComesTo, WalksTo, HasVisited, BarsVisit}
use Rattle.tree_check.specs.Chained.{Gathers}
use Rattle.tree_check.specs.Rows.{TellsRoot}
use Rattle.tree_check.specs.Visiting.{HasContent, TellsKept, HasNamed, BarsName}
use Rattle.tree_check.proofs.Reaching.{begins, walks_on, walks_inside, stops_at}
use Rattle.tree_check.proofs.Chaining.{paid_suits}

-- a cell stores no more than its payload
local_most : (table : Bool) (usable payload : ℕ) → local_size table usable payload ≤ payload
unfolding local_size
local_most table usable payload = by_size (spills table usable payload) refl
  where
    by_size : (large : Bool) → spills table usable payload ≡ large → local_size table usable payload ≤ payload
    by_size true is = let less = local_less table usable payload is in omega (arith, less)
    by_size false is = rw is (omega arith)

local_in : (kind : Kind) (usable : ℕ) (text : List ℕ) → length (cell_in kind usable text).local ≤ (cell_in kind usable text).payload
unfolding cell_in
local_in kind usable text =
    let payload = payload_in kind (drop (left_size kind) text) in
    let at = payload_at kind text in
    let end = at + local_size (is_table kind) usable payload in
    let short : length (slice_range text at end) ≤ end - at = take_short (end - at) (drop at text) in
    omega (arith, short, local_most (is_table kind) usable payload)

pub local_fits : (usable : ℕ) (kind : Kind) (bytes : List ℕ) (read : Cell) (told : NodeCell) → TellsCell usable kind bytes read told → length told.local ≤ told.payload
local_fits usable kind bytes read told tells =
    subst (λ (c : NodeCell). length c.local ≤ c.payload) tells.spells (local_in kind usable (slice_range bytes read.start (read.start + read.len)))

-- the payload says nothing of what was met
begun_keeps : (before begun : Walk) (past : Past) → begun ≡ record before { payload = begun.payload } → KeepsPast before past → KeepsPast begun past
begun_keeps before begun past same keeps =
    subst (λ (w : Walk). KeepsPast w past) (sym same) (record { marks = keeps.marks; leaves = keeps.leaves })

pub begun_suits : {P : Type 0} (pages : Ghosts P) (at : P) (before begun : Walk) → begun ≡ record before { payload = begun.payload } → SuitsPages pages at before
    → SuitsPages pages at begun
begun_suits pages at before begun same suits = paid_suits pages at before begun same suits

pub begun_visited : {P : Type 0} (pages : Ghosts P) (old new : P) (before begun walk : Walk) (all : List Place) → begun ≡ record before { payload = begun.payload }
    → HasVisited pages old begun all new walk → HasVisited pages old before all new walk
begun_visited pages old new before begun walk all same visited = record {
  walks = λ world told past keeps.
      subst (λ (l : List ℕ). ComesTo (database_over pages old world) walk l past all []) (ap (λ (w : Walk). w.roots.items) same)
      (visited.walks world told past (begun_keeps before begun past same keeps));
  suits = visited.suits;
}

pub begun_bars : {P : Type 0} (pages : Ghosts P) (old new : P) (before begun : Walk) (all : List Place) (why : CheckFault) → begun ≡ record before { payload = begun.payload }
    → BarsVisit pages old new begun all why → BarsVisit pages old new before all why
begun_bars pages old new before begun all (fault.Page page at) same bars = λ world told past keeps. bars world told past (begun_keeps before begun past same keeps)
begun_bars pages old new before begun all (fault.Schema rowid) same bars = λ world told past keeps. bars world told past (begun_keeps before begun past same keeps)
begun_bars pages old new before begun all (fault.Order page cell) same bars = λ world told past keeps. bars world told past (begun_keeps before begun past same keeps)
begun_bars pages old new before begun all (fault.Twice page) same bars = λ world told past keeps. bars world told past (begun_keeps before begun past same keeps)
begun_bars pages old new before begun all (fault.Lost page) same bars = absurd bars
begun_bars pages old new before begun all fault.Disk same bars = bars
begun_bars pages old new before begun all fault.Memory same bars = tt

-- a cell's bytes and its chain's are its item
pub content_walked : {P : Type 0} (pages : Ghosts P) (old new : P) (before begun walk : Walk) (keep : Bool) (told : NodeCell)
    → begun ≡ record before { payload = begun.payload } → (keep ≡ true → begun.payload.items ≡ told.local) → length told.local ≤ told.payload
    → HasVisited pages old begun (link_places told.overflow (told.payload - length told.local)) new walk
    → Gathers pages old told.overflow (told.payload - length told.local) keep begun.payload.items new walk.payload.items
    → (keep ≡ true → length walk.payload.items ≡ length begun.payload.items + (told.payload - length told.local))
    → HasContent pages old before keep told new walk
content_walked pages old new before begun walk keep told same begins_with most visited gathers grown =
    let size = told.payload - length told.local in
    let all = begun_visited pages old new before begun walk (link_places told.overflow size) same visited in
    record {
      walks = all.walks;
      suits = all.suits;
      kept = λ kept.
          let local_is : length begun.payload.items ≡ length told.local = ap (λ (l : List ℕ). length l) (begins_with kept) in
          omega (arith, grown kept, local_is, most);
      item = λ world tells.
          let g = gathers world tells in
          let bytes = chain_bytes (pages.usable old) (shown_by (pages.usable old) (pages.over old world)) g.0 size in (
            record { key = told.rowid; bytes = told.local ++ bytes; chain = g.0 },
            record { key = refl; chain = g.1; bytes = refl },
            omega (arith, length-append told.local bytes, g.3, most),
            λ kept. g.2 kept ∙ ap (λ (l : List ℕ). l ++ bytes) (begins_with kept),
          );
    }

-- of a payload of which nothing is read the chain is all
pub content_visited : {P : Type 0} (pages : Ghosts P) (old new : P) (before walk : Walk) (keep : Bool) (told : NodeCell) → HasContent pages old before keep told new walk
    → HasVisited pages old before (payload_places false told) new walk
content_visited pages old new before walk keep told content = record { walks = content.walks; suits = content.suits }

-- the row comes behind its chain
row_next : {P : Type 0} (pages : Ghosts P) (old new : P) (before walk : Walk) (keep : Bool) (told : NodeCell) → SuitsPages pages old before → ReadsAtMost pages old new
    → HasContent pages old before keep told new walk → WalksTo pages old new before walk (payload_places true told) (Place.AtRow told ∷ [])
row_next pages old new before walk keep told suits reading content =
    walks_on pages old old new before before walk (payload_places true told) (link_places told.overflow (told.payload - length told.local)) (Place.AtRow told ∷ [])
    (reading_same pages old suits.ready (pages.follows_itself old)) reading (begins pages old before (payload_places true told)) content.walks

-- a root that a row names is in range
root_range : (last : ℕ) (value : Value) (root : ℕ) → IsRootNumber last value root → (root ≡ 0) ⊎ ((2 ≤ root) × (root ≤ last))
root_range last Null root is = inl is
root_range last (Int n) root is = is.1
root_range last (Text t) root is = absurd is
root_range last (Blob b) root is = absurd is

one_more : (P : ℕ → Type 0) (roots : List ℕ) (root : ℕ) → Each P roots → P root → Each P (roots ++ root ∷ [])
one_more P [] root each last = (last, tt)
one_more P (first ∷ roots) root each last = (each.0, one_more P roots root each.1 last)

roots_range : (last : ℕ) (roots : List ℕ) (root : ℕ) → Each (λ root. (2 ≤ root) × (root ≤ last)) roots → (root ≡ 0) ⊎ ((2 ≤ root) × (root ≤ last))
    → Each (λ root. (2 ≤ root) × (root ≤ last)) (roots ++ with_root root [])
roots_range last roots zero each range = subst (λ (l : List ℕ). Each (λ root. (2 ≤ root) × (root ≤ last)) l) (sym (append-nil roots)) each
roots_range last roots (suc n) each (inl never) = absurd (omega (arith, never))
roots_range last roots (suc n) each (inr range) = one_more (λ root. (2 ≤ root) × (root ≤ last)) roots (suc n) each range

-- what is told of a row that was kept, and named a root
kept_row : (keep : Bool) (last : ℕ) (bytes : List ℕ) (root : Option ℕ) (named : ℕ) → root ≡ Some named → TellsKept keep last bytes root
    → (keep ≡ true) × ((row : List Value) × IsRecord bytes row × IsSchemaRow last row named)
kept_row true last bytes root named is tells = (refl, subst (λ (r : Option ℕ). TellsRoot last bytes r) is tells)
kept_row false last bytes root named is tells = let never = sym is ∙ tells in cc

named_suits : {P : Type 0} (pages : Ghosts P) (at : P) (walk later : Walk) (root : ℕ) → SuitsPages pages at walk → later.roots.items ≡ walk.roots.items ++ with_root root []
    → later ≡ record walk { roots = later.roots } → (root ≡ 0) ⊎ ((2 ≤ root) × (root ≤ walk.last)) → SuitsPages pages at later
named_suits pages at walk later root suits roots same range =
    subst (λ (w : Walk). SuitsPages pages at w) (sym same) (record {
      ready = suits.ready;
      page_size = suits.page_size;
      usable = suits.usable;
      last = suits.last;
      least = suits.least;
      fits = suits.fits;
      most = suits.most;
      room = suits.room;
      roots = subst (λ (l : List ℕ). Each (λ root. (2 ≤ root) × (root ≤ walk.last)) l) (sym roots)
          (roots_range walk.last walk.roots.items root suits.roots range);
    })

-- A schema row was read, and its root kept.
pub row_visited : {P : Type 0} (pages : Ghosts P) (old new : P) (before walk later : Walk) (keep : Bool) (told : NodeCell) (root : Option ℕ)
    → SuitsPages pages old before → ReadsAtMost pages old new → (keep ≡ true → told.payload < 2 ^ 32) → HasContent pages old before keep told new walk
    → TellsKept keep walk.last walk.payload.items root → HasNamed walk root later → HasVisited pages old before (payload_places true told) new later
row_visited pages old new before walk later keep told root suits reading short content tells names =
    let kept = kept_row keep walk.last walk.payload.items root names.named names.is tells in
    let last_is : walk.last ≡ pages.last_page old = content.suits.last ∙ reading.last in
    record {
      walks = walks_inside pages old new new before walk later (payload_places true told) (Place.AtRow told) [] (with_root names.named []) (λ world tells. tells) names.roots
          (row_next pages old new before walk keep told suits reading content)
          (λ world tells mid keeps.
          let item = content.item world tells in (
            mid,
            (
              item.0,
              names.named,
              item.1,
              record {
                short = omega (arith, item.2, short kept.0);
                row = kept.1.0;
                record_is = subst (λ (l : List ℕ). IsRecord l kept.1.0) (item.3 kept.0) kept.1.1;
                names = subst (λ (n : ℕ). IsSchemaRow n kept.1.0 names.named) last_is kept.1.2;
              },
              refl,
            ),
            subst (λ (w : Walk). KeepsPast w mid) (sym names.same) (record { marks = keeps.marks; leaves = keeps.leaves }),
          ));
      suits = named_suits pages new walk later names.named content.suits names.roots names.same (root_range walk.last (column kept.1.0 3) names.named kept.1.2.root_is);
    }

-- a payload that names no root
no_root : (keep : Bool) (last : ℕ) (bytes : List ℕ) (item : Item) (payload : ℕ) (root : Option ℕ) → TellsKept keep last bytes root → root ≡ None
    → length item.bytes ≡ payload → (keep ≡ false → 2 ^ 32 ≤ payload) → (keep ≡ true → bytes ≡ item.bytes) → (named : ℕ) → NamesRoot last item named → ⊥
no_root true last bytes item payload root tells none size long kept named names =
    let never = subst (λ (r : Option ℕ). TellsRoot last bytes r) none tells in
    never names.row (subst (λ (l : List ℕ). IsRecord l names.row) (sym (kept refl)) names.record_is) named names.names
no_root false last bytes item payload root tells none size long kept named names = absurd (omega (arith, long refl, size, names.short))

-- A row that names no root, or that couldn't be kept.
pub row_bars : {P : Type 0} (pages : Ghosts P) (old new : P) (before walk : Walk) (keep : Bool) (told : NodeCell) (root : Option ℕ) (rowid : ℤ) (why : CheckFault)
    → SuitsPages pages old before → ReadsAtMost pages old new → (keep ≡ false → 2 ^ 32 ≤ told.payload) → HasContent pages old before keep told new walk
    → TellsKept keep walk.last walk.payload.items root → rowid ≡ told.rowid → BarsName root rowid why → BarsVisit pages old new before (payload_places true told) why
row_bars pages old new before walk keep told root rowid (fault.Schema row) suits reading long content tells rowid_is bars =
    let last_is : walk.last ≡ pages.last_page old = content.suits.last ∙ reading.last in
    stops_at pages old new new before walk (payload_places true told) (Place.AtRow told) [] (fault.Schema row) (λ world tells. tells)
    (row_next pages old new before walk keep told suits reading content)
    (λ world shown mid keeps.
    let item = content.item world shown in (
      item.0,
      item.1,
      λ named names. no_root keep walk.last walk.payload.items item.0 told.payload root tells bars.1 item.2 long item.3 named
          (subst (λ (n : ℕ). NamesRoot n item.0 named) (sym last_is) names),
      ap (λ (n : ℤ). fault.Schema n) (bars.0 ∙ rowid_is),
    ))
row_bars pages old new before walk keep told root rowid (fault.Page page at) suits reading long content tells rowid_is bars = absurd bars
row_bars pages old new before walk keep told root rowid (fault.Order page cell) suits reading long content tells rowid_is bars = absurd bars
row_bars pages old new before walk keep told root rowid (fault.Twice page) suits reading long content tells rowid_is bars = absurd bars
row_bars pages old new before walk keep told root rowid (fault.Lost page) suits reading long content tells rowid_is bars = absurd bars
row_bars pages old new before walk keep told root rowid fault.Disk suits reading long content tells rowid_is bars = absurd bars
row_bars pages old new before walk keep told root rowid fault.Memory suits reading long content tells rowid_is bars = tt

-- a root that is none adds none
pub no_root_more : (roots : List ℕ) (root : ℕ) → root ≡ 0 → roots ≡ roots ++ with_root root []
no_root_more roots root is = subst (λ (n : ℕ). roots ≡ roots ++ with_root n []) (sym is) (sym (append-nil roots))

pub root_more : (root : ℕ) → (root ≡ 0 → ⊥) → root ∷ [] ≡ with_root root []
root_more zero some = absurd (some refl)
root_more (suc n) some = refl

pub content_read : {P : Type 0} (pages : Ghosts P) (old new : P) (before begun walk : Walk) (keep : Bool) (told : NodeCell) (first size : ℕ)
    → begun ≡ record before { payload = begun.payload } → (keep ≡ true → begun.payload.items ≡ told.local) → length told.local ≤ told.payload
    → first ≡ told.overflow → size ≡ told.payload - length told.local → HasVisited pages old begun (link_places first size) new walk
    → Gathers pages old first size keep begun.payload.items new walk.payload.items
    → (keep ≡ true → length walk.payload.items ≡ length begun.payload.items + size) → HasContent pages old before keep told new walk
content_read pages old new before begun walk keep told first size same begins_with most first_is size_is visited gathers grown =
    content_walked pages old new before begun walk keep told same begins_with most
    (subst (λ (n : ℕ). HasVisited pages old begun (link_places told.overflow n) new walk) size_is
    (subst (λ (n : ℕ). HasVisited pages old begun (link_places n size) new walk) first_is visited))
    (subst (λ (n : ℕ). Gathers pages old told.overflow n keep begun.payload.items new walk.payload.items) size_is
    (subst (λ (n : ℕ). Gathers pages old n size keep begun.payload.items new walk.payload.items) first_is gathers))
    (λ kept. grown kept ∙ ap (λ (n : ℕ). length begun.payload.items + n) size_is)

pub bars_links : {P : Type 0} (pages : Ghosts P) (old new : P) (before begun : Walk) (told : NodeCell) (first size : ℕ) (why : CheckFault)
    → begun ≡ record before { payload = begun.payload } → first ≡ told.overflow → size ≡ told.payload - length told.local
    → BarsVisit pages old new begun (link_places first size) why → BarsVisit pages old new before (link_places told.overflow (told.payload - length told.local)) why
bars_links pages old new before begun told first size why same first_is size_is bars =
    begun_bars pages old new before begun (link_places told.overflow (told.payload - length told.local)) why same
    (subst (λ (n : ℕ). BarsVisit pages old new begun (link_places told.overflow n) why) size_is
    (subst (λ (n : ℕ). BarsVisit pages old new begun (link_places n size) why) first_is bars))

pub on_ok_three : {T E A B C Q : Type 0} (r : Result T E) → (A → B → C → Q) → OnOk r A → OnOk r B → OnOk r C → OnOk r Q
on_ok_three (Ok x) f a b c = f a b c
on_ok_three (Err e) f a b c = tt
