-- A way down, as far as it was gone, and how it ends.
use Rattle.std.proofs.Common.{◌≡◌, ℕ, ℤ, suc, ◌+◌, ◌<◌, ◌≤◌, ◌==◌, true, false, Bool, cond, List, [], ◌∷◌, ◌++◌, length, Option, Result, Ok, Err, Some, None, inl, inr, refl, sym, subst, ap, ◌∙◌, arith, append_assoc, append-nil}
use Rattle.std.specs.Prelude.{◌⊎◌}
use Rattle.page_spec.specs.View.{View}
use Rattle.engine_spec.specs.declared.commits.FetchFault.{FetchFault}
use Rattle.engine_spec.specs.declared.commits.FetchFault.TheVariants as fault
use Rattle.engine_spec.specs.PageSet.{with_page}
use Rattle.page_face.specs.declared.pages_tells.PagesTells.{Ghosts}
use Rattle.page_face.specs.Pages.{ReadsAtMost, pages_read}
use Rattle.disk_face.specs.Faults.{Rose, last_count}
use Rattle.node_spec.specs.Kinds.{is_leaf}
use Rattle.node_spec.specs.Cells.{NodeCell}
use Rattle.node_spec.specs.Nodes.{Node}
use Rattle.page_form.specs.declared.page.Page.{Page}
use Rattle.page_form.specs.Reading.{IsReadPage, Tells, TellsCell}
use Rattle.page_form.specs.declared.cells.Cell.{Cell}
use Rattle.node_spec.specs.declared.kinds.Kind.{Kind}
use Rattle.tree_spec.specs.Shown.{Shown, shown_by}
use Rattle.value_form.specs.declared.value.Value.{Value}
use Rattle.overflow.specs.Following.{shown_over, all_read}
use Rattle.overflow.proofs.Chains.{read_step}
use Rattle.tree_read.specs.declared.way.Leaf.{Leaf}
use Rattle.tree_read.specs.declared.place.Aim.{Aim}
use Rattle.tree_read.specs.declared.place.Aim.TheVariants.{Rowid, Last}
use Rattle.tree_read.specs.Ways.{ShowsNode, IsAimed, HasRowid, LacksRowid, NamesChild, GoesOn, IsWay, BreaksWay}
use Rattle.tree_read.specs.Payloads.{EndsWithRow, IsCause, HasReadRow}
use Rattle.tree_read.specs.Looking.{BarsNode, HasNode, HasCell, AreReadAt, AreReadBelow, EndsLookUp, HasLooked, HasDescended, EndsBefore, IsBarred, IsLastRowid, HasLookedLast}

-- pages that were only read show the same
pub same_shown : {P : Type 0} (pages : Ghosts P) (old now : P) → ReadsAtMost pages old now → (world : View) → pages.tells now world
    → shown_over pages now world ≡ shown_over pages old world
same_shown pages old now reading world told = λ i. shown_by ((reading.edits.usable) i) (λ page. ((reading.each world told).each page) i)

-- a failure that rose since a later moment rose since an earlier one
pub rose_before : (first before after : ℕ) → first ≤ before → Rose before after → Rose first after
rose_before first before after least rose = record { later = omega (arith, least, rose.later); counted = by_count rose.counted }
  where
    by_count : (before < after) ⊎ (after ≡ last_count) → (first < after) ⊎ (after ≡ last_count)
    by_count (inl more) = inl (omega (arith, least, more))
    by_count (inr last) = inr last

pub cause_before : (first before after : ℕ) (why : FetchFault) → first ≤ before → IsCause before after why → IsCause first after why
cause_before first before after fault.Disk least rose = rose_before first before after least rose
cause_before first before after (fault.Corrupt page) least is = tt
cause_before first before after (fault.Size pages) least is = is
cause_before first before after fault.Memory least is = tt

-- lists of pages read, one behind the other
pub read_join : (has : ℕ → Bool) (reads one two : List ℕ) → all_read has reads (one ++ two) ≡ all_read has (all_read has reads one) two
read_join has reads [] two = refl
read_join has reads (p ∷ ps) two = read_join has (cond (has p) reads (with_page reads p)) ps two

pub read_both : (has has_then : ℕ → Bool) (reads now then one two : List ℕ) → ((page : ℕ) → has_then page ≡ has page) → now ≡ all_read has reads one
    → then ≡ all_read has_then now two → then ≡ all_read has reads (one ++ two)
read_both has has_then reads now then one two same now_is then_is =
    let functions : has_then ≡ has = λ i page. (same page) i in
    then_is ∙ (ap (λ (h : ℕ → Bool). all_read h now two) functions ∙ (ap (λ (l : List ℕ). all_read has l two) now_is ∙ sym (read_join has reads one two)))

-- The pages of the way were read, and over each world that is still told they lead to here.
pub record SoFar {P : Type 0} (pages : Ghosts P) (old now : P) (Names : Shown → (level page child : ℕ) → Type 0) (root : ℕ) (way : List ℕ) (page : ℕ) : Type 0 where
  pub read : pages.reads now ≡ all_read (pages.has old) (pages.reads old) way
  pub leads : (world : View) → pages.tells now world → IsWay (GoesOn (pages.last_page old) (Names (shown_over pages old world))) 0 root way page

pub nothing_yet : {P : Type 0} (pages : Ghosts P) (old : P) (Names : Shown → (level page child : ℕ) → Type 0) (root : ℕ) → SoFar pages old old Names root [] root
nothing_yet pages old Names root = record { read = refl; leads = λ world told. refl }

pub way_more : (Goes : (level page child : ℕ) → Type 0) (level page : ℕ) (way : List ℕ) (below child deep : ℕ) → deep ≡ level + length way
    → IsWay Goes level page way below → Goes deep below child → IsWay Goes level page (way ++ below ∷ []) child
way_more Goes level page [] below child deep is leads goes =
    (leads, (child, subst (λ (p : ℕ). Goes level p child) leads (subst (λ (l : ℕ). Goes l below child) (omega (arith, is)) goes), refl))
way_more Goes level page (p ∷ ps) below child deep is leads goes =
    (leads.0, (leads.1.0, leads.1.1, way_more Goes (suc level) leads.1.0 ps below child deep (omega (arith, is)) leads.1.2 goes))

pub one_more : {P : Type 0} (pages : Ghosts P) (old now then : P) (Names : Shown → (level page child : ℕ) → Type 0) (root : ℕ) (way : List ℕ) (page child : ℕ)
    → ReadsAtMost pages old now → ReadsAtMost pages now then → pages.reads then ≡ pages_read pages now page
    → ((world : View) → pages.tells then world → Names (shown_over pages old world) (length way) page child) → 2 ≤ child → child ≤ pages.last_page old
    → SoFar pages old now Names root way page → SoFar pages old then Names root (way ++ page ∷ []) child
one_more pages old now then Names root way page child reading more read names low high so_far = record {
  read = read_step (pages.has old) (pages.has now) (pages.reads old) (pages.reads now) (pages.reads then) way page (reading.has page) so_far.read read;
  leads = λ world told. way_more (GoesOn (pages.last_page old) (Names (shown_over pages old world))) 0 root way page child (length way) (omega arith)
      (so_far.leads world (more.edits.narrows world told)) (names world told, low, high);
}

-- a node that a page shows, in the pages before the way
pub shows_before : {P : Type 0} (pages : Ghosts P) (old now then : P) (table : Bool) (level page : ℕ) (bytes : List ℕ) (told : Page) → ReadsAtMost pages old now
    → ReadsAtMost pages now then → (has : HasNode pages now table page level bytes told then) → (world : View) → pages.tells then world
    → ShowsNode table (shown_over pages old world) level page has.node
shows_before pages old now then table level page bytes told reading more has world there = record {
  holds = ap (λ (s : Shown). s.node page) (sym (same_shown pages old now reading world (more.edits.narrows world there))) ∙ has.shown world there;
  may = has.may;
}

-- How a way down ends.

-- a page gave no node
none_read : {P : Type 0} (pages : Ghosts P) (old now then : P) (root : ℕ) (aim : Aim) (way : List ℕ) (page : ℕ) (why : FetchFault)
    → ReadsAtMost pages old now → ReadsAtMost pages now then → SoFar pages old now (λ shown. NamesChild shown aim) root way page
    → ((world : View) → pages.tells then world → EndsBefore (pages.last_page old) root aim (shown_over pages old world) way page [] why)
    → IsCause (pages.faults old) (pages.faults then) why → pages.reads then ≡ pages.reads now → IsBarred pages old root aim why then
none_read pages old now then root aim way page why reading more so_far ends cause read = record {
  way = way;
  below = page;
  after = [];
  read = read ∙ so_far.read ∙ ap (λ (l : List ℕ). all_read (pages.has old) (pages.reads old) l) (sym (append-nil way));
  leads = λ world told. so_far.leads world (more.edits.narrows world told);
  ends = ends;
  cause = cause;
}

one_read : {P : Type 0} (pages : Ghosts P) (old now then : P) (root : ℕ) (aim : Aim) (way : List ℕ) (page : ℕ) (why : FetchFault)
    → ReadsAtMost pages old now → ReadsAtMost pages now then → SoFar pages old now (λ shown. NamesChild shown aim) root way page
    → ((world : View) → pages.tells then world → EndsBefore (pages.last_page old) root aim (shown_over pages old world) way page (page ∷ []) why)
    → IsCause (pages.faults old) (pages.faults then) why → pages.reads then ≡ pages_read pages now page → IsBarred pages old root aim why then
one_read pages old now then root aim way page why reading more so_far ends cause read = record {
  way = way;
  below = page;
  after = page ∷ [];
  read = read_step (pages.has old) (pages.has now) (pages.reads old) (pages.reads now) (pages.reads then) way page (reading.has page) so_far.read read;
  leads = λ world told. so_far.leads world (more.edits.narrows world told);
  ends = ends;
  cause = cause;
}

pub no_node : {P : Type 0} (pages : Ghosts P) (old now then : P) (root : ℕ) (aim : Aim) (way : List ℕ) (page : ℕ) (why : FetchFault)
    → ReadsAtMost pages old now → ReadsAtMost pages now then → SoFar pages old now (λ shown. NamesChild shown aim) root way page
    → BarsNode pages now true page (length way) then why
    → (pages.reads then ≡ pages.reads now) ⊎ (pages.reads then ≡ pages_read pages now page) → IsBarred pages old root aim why then
no_node pages old now then root aim way page fault.Disk reading more so_far bars (inl none) =
    none_read pages old now then root aim way page fault.Disk reading more so_far (λ world told. inl refl) (rose_before _ _ _ reading.edits.faults bars) none
no_node pages old now then root aim way page fault.Disk reading more so_far bars (inr one) =
    one_read pages old now then root aim way page fault.Disk reading more so_far (λ world told. inr refl) (rose_before _ _ _ reading.edits.faults bars) one
no_node pages old now then root aim way page (fault.Corrupt named) reading more so_far bars which =
    one_read pages old now then root aim way page (fault.Corrupt named) reading more so_far
    (λ world told. BreaksWay.ShowsNone refl bars.0 (λ node shows. bars.2 world told node (record {
      holds = ap (λ (s : Shown). s.node page) (same_shown pages old now reading world (more.edits.narrows world told)) ∙ shows.holds;
      may = shows.may;
    }))) tt bars.1
no_node pages old now then root aim way page (fault.Size count) reading more so_far bars which = absurd bars
no_node pages old now then root aim way page fault.Memory reading more so_far bars (inl none) =
    none_read pages old now then root aim way page fault.Memory reading more so_far (λ world told. inl refl) tt none
no_node pages old now then root aim way page fault.Memory reading more so_far bars (inr one) =
    one_read pages old now then root aim way page fault.Memory reading more so_far (λ world told. inr refl) tt one

-- a page names a child out of range
pub child_outside : {P : Type 0} (pages : Ghosts P) (old now then : P) (root : ℕ) (aim : Aim) (way : List ℕ) (page child : ℕ)
    → ReadsAtMost pages old now → ReadsAtMost pages now then → SoFar pages old now (λ shown. NamesChild shown aim) root way page
    → ((world : View) → pages.tells then world → NamesChild (shown_over pages old world) aim (length way) page child)
    → pages.reads then ≡ pages_read pages now page → (child < 2) ⊎ (pages.last_page old < child)
    → IsBarred pages old root aim (fault.Corrupt page) then
child_outside pages old now then root aim way page child reading more so_far names read outside =
    one_read pages old now then root aim way page (fault.Corrupt page) reading more so_far
    (λ world told. BreaksWay.ChildOutside child refl refl (names world told) outside) tt read

pub root_outside : {P : Type 0} (pages : Ghosts P) (old : P) (root : ℕ) (aim : Aim) → (root < 1) ⊎ (pages.last_page old < root)
    → IsBarred pages old root aim (fault.Corrupt root) old
root_outside pages old root aim outside = record {
  way = [];
  below = root;
  after = [];
  read = refl;
  leads = λ world told. refl;
  ends = λ world told. BreaksWay.RootOutside refl refl refl outside;
  cause = tt;
}

pub no_buffer : {P : Type 0} (pages : Ghosts P) (old : P) (root : ℕ) (aim : Aim) (why : FetchFault) → why ≡ fault.Memory → IsBarred pages old root aim why old
no_buffer pages old root aim why is = subst (λ (w : FetchFault). IsBarred pages old root aim w old) (sym is) (record {
  way = [];
  below = root;
  after = [];
  read = refl;
  leads = λ world told. refl;
  ends = λ world told. inl refl;
  cause = tt;
})

read_at : (usable last : ℕ) (shown : Shown) (level below : ℕ) (rowid : ℤ) (after : List ℕ) → AreReadAt below after → AreReadBelow usable last shown level below rowid after
read_at usable last shown level below rowid after (inl none) = subst (AreReadBelow usable last shown level below rowid) (sym none) tt
read_at usable last shown level below rowid after (inr one) = subst (AreReadBelow usable last shown level below rowid) (sym one) refl

-- said of a whole look-up
before_row : (usable last : ℕ) (shown : Shown) (root : ℕ) (rowid : ℤ) (way : List ℕ) (below : ℕ) (after : List ℕ) (why : FetchFault)
    → EndsBefore last root (Rowid rowid) shown way below after why → EndsLookUp usable last shown root rowid way below after (Err why)
before_row usable last shown root rowid way below after fault.Disk ends = read_at usable last shown (length way) below rowid after ends
before_row usable last shown root rowid way below after (fault.Corrupt page) ends = inl ends
before_row usable last shown root rowid way below after (fault.Size count) ends = ends
before_row usable last shown root rowid way below after fault.Memory ends = read_at usable last shown (length way) below rowid after ends

pub barred_row : {P : Type 0} (pages : Ghosts P) (old new : P) (root : ℕ) (rowid : ℤ) (why : FetchFault) → IsBarred pages old root (Rowid rowid) why new
    → HasLooked pages old root rowid (Err why) new
barred_row pages old new root rowid why barred = record {
  way = barred.way;
  below = barred.below;
  after = barred.after;
  read = barred.read;
  leads = barred.leads;
  ends = λ world told. before_row (pages.usable old) (pages.last_page old) (shown_over pages old world) root rowid barred.way barred.below barred.after why (barred.ends world told);
  cause = barred.cause;
}

pub barred_last : {P : Type 0} (pages : Ghosts P) (old new : P) (root : ℕ) (why : FetchFault) → IsBarred pages old root Last why new
    → HasLookedLast pages old root (Err why) new
barred_last pages old new root why barred = record {
  way = barred.way;
  below = barred.below;
  after = barred.after;
  read = barred.read;
  leads = barred.leads;
  ends = barred.ends;
  cause = barred.cause;
}

-- the leaf
pub at_leaf : {P : Type 0} (pages : Ghosts P) (old now then : P) (root : ℕ) (aim : Aim) (way : List ℕ) (page : ℕ) (bytes : List ℕ) (told : Page)
    → ReadsAtMost pages old now → ReadsAtMost pages now then → SoFar pages old now (λ shown. NamesChild shown aim) root way page
    → (has : HasNode pages now true page (length way) bytes told then) → is_leaf has.node.kind ≡ true
    → HasDescended pages old root aim bytes (record { page = page; node = told }) then
at_leaf pages old now then root aim way page bytes told reading more so_far has leaf = record {
  way = way;
  node = has.node;
  tells = record { first = page == 1; tells = subst (λ (u : ℕ). Tells u (page == 1) bytes told has.node) reading.edits.usable has.tells };
  is_leaf = leaf;
  read = read_step (pages.has old) (pages.has now) (pages.reads old) (pages.reads now) (pages.reads then) way page (reading.has page) so_far.read has.read;
  leads = λ world there. so_far.leads world (more.edits.narrows world there);
  shows = shows_before pages old now then true (length way) page bytes told reading more has;
}

-- What a leaf has of the rowid.
pub lacks_row : {P : Type 0} (pages : Ghosts P) (old now : P) (root : ℕ) (rowid : ℤ) (bytes : List ℕ) (leaf : Leaf)
    → (done : HasDescended pages old root (Rowid rowid) bytes leaf now) → LacksRowid done.node rowid → HasLooked pages old root rowid (Ok None) now
lacks_row pages old now root rowid bytes leaf done lacks = record {
  way = done.way;
  below = leaf.page;
  after = leaf.page ∷ [];
  read = done.read;
  leads = done.leads;
  ends = λ world told. (refl, record { node = done.node; shows = done.shows world told; leaf = done.is_leaf; lacks = lacks });
  cause = tt;
}

reads_after : {P : Type 0} (pages : Ghosts P) (old now then : P) (way : List ℕ) (page : ℕ) (chain : List ℕ) → ReadsAtMost pages old now
    → pages.reads now ≡ all_read (pages.has old) (pages.reads old) (way ++ page ∷ []) → pages.reads then ≡ all_read (pages.has now) (pages.reads now) chain
    → pages.reads then ≡ all_read (pages.has old) (pages.reads old) (way ++ page ∷ chain)
reads_after pages old now then way page chain reading now_is then_is =
    read_both (pages.has old) (pages.has now) (pages.reads old) (pages.reads now) (pages.reads then) (way ++ page ∷ []) chain reading.has now_is then_is
    ∙ ap (λ (l : List ℕ). all_read (pages.has old) (pages.reads old) l) (append_assoc way (page ∷ []) chain)

ends_before : {P : Type 0} (pages : Ghosts P) (old now then : P) (cell : NodeCell) (below : ℕ) (chain : List ℕ) (result : Result (List Value) FetchFault)
    → ReadsAtMost pages old now → ReadsAtMost pages now then
    → ((world : View) → pages.tells then world → EndsWithRow (pages.usable now) (pages.last_page now) (shown_over pages now world) cell below chain result)
    → (world : View) → pages.tells then world → EndsWithRow (pages.usable old) (pages.last_page old) (shown_over pages old world) cell below chain result
ends_before pages old now then cell below chain result reading more ends world told =
    subst (λ (u : ℕ). EndsWithRow u (pages.last_page old) (shown_over pages old world) cell below chain result) reading.edits.usable
    (subst (λ (n : ℕ). EndsWithRow (pages.usable now) n (shown_over pages old world) cell below chain result) reading.last
    (subst (λ (s : Shown). EndsWithRow (pages.usable now) (pages.last_page now) s cell below chain result)
    (same_shown pages old now reading world (more.edits.narrows world told)) (ends world told)))

-- the pages behind the way, where a row was read
row_after : (usable last : ℕ) (shown : Shown) (root : ℕ) (rowid : ℤ) (way : List ℕ) (below : ℕ) (cell : NodeCell) (chain : List ℕ) (why : FetchFault)
    → HasCell shown (length way) below rowid cell → EndsWithRow usable last shown cell below chain (Err why)
    → EndsLookUp usable last shown root rowid way below (below ∷ chain) (Err why)
row_after usable last shown root rowid way below cell [] fault.Disk has ends = refl
row_after usable last shown root rowid way below cell (p ∷ ps) fault.Disk has ends = (refl, (cell, (has, ends)))
row_after usable last shown root rowid way below cell chain (fault.Corrupt page) has ends =
    inr (record { cell = cell; chain = chain; are = refl; has = has; breaks = ends })
row_after usable last shown root rowid way below cell chain (fault.Size count) has ends = ends
row_after usable last shown root rowid way below cell [] fault.Memory has ends = refl
row_after usable last shown root rowid way below cell (p ∷ ps) fault.Memory has ends = (refl, (cell, (has, ends)))

pub looked_row : {P : Type 0} (pages : Ghosts P) (old now then : P) (root : ℕ) (rowid : ℤ) (bytes : List ℕ) (leaf : Leaf) (cell : NodeCell) (row : List Value)
    → ReadsAtMost pages old now → ReadsAtMost pages now then → (done : HasDescended pages old root (Rowid rowid) bytes leaf now) → HasRowid done.node rowid cell
    → HasReadRow pages now cell leaf.page (Ok row) then → HasLooked pages old root rowid (Ok (Some row)) then
looked_row pages old now then root rowid bytes leaf cell row reading more done has read = record {
  way = done.way;
  below = leaf.page;
  after = leaf.page ∷ read.chain;
  read = reads_after pages old now then done.way leaf.page read.chain reading done.read read.read;
  leads = λ world told. done.leads world (more.edits.narrows world told);
  ends = λ world told. (
    cell,
    (
      read.chain,
      (
        refl,
        (
          record { node = done.node; shows = done.shows world (more.edits.narrows world told); leaf = done.is_leaf; has = has },
          ends_before pages old now then cell leaf.page read.chain (Ok row) reading more read.ends world told,
        ),
      ),
    ),
  );
  cause = tt;
}

pub looked_fault : {P : Type 0} (pages : Ghosts P) (old now then : P) (root : ℕ) (rowid : ℤ) (bytes : List ℕ) (leaf : Leaf) (cell : NodeCell) (why : FetchFault)
    → ReadsAtMost pages old now → ReadsAtMost pages now then → (done : HasDescended pages old root (Rowid rowid) bytes leaf now) → HasRowid done.node rowid cell
    → HasReadRow pages now cell leaf.page (Err why) then → HasLooked pages old root rowid (Err why) then
looked_fault pages old now then root rowid bytes leaf cell why reading more done has read = record {
  way = done.way;
  below = leaf.page;
  after = leaf.page ∷ read.chain;
  read = reads_after pages old now then done.way leaf.page read.chain reading done.read read.read;
  leads = λ world told. done.leads world (more.edits.narrows world told);
  ends = λ world told. row_after (pages.usable old) (pages.last_page old) (shown_over pages old world) root rowid done.way leaf.page cell read.chain why
      (record { node = done.node; shows = done.shows world (more.edits.narrows world told); leaf = done.is_leaf; has = has })
      (ends_before pages old now then cell leaf.page read.chain (Err why) reading more read.ends world told);
  cause = cause_before _ _ _ why reading.edits.faults read.cause;
}

-- a page names a child
pub names_child : {P : Type 0} (pages : Ghosts P) (old now then : P) (aim : Aim) (level page usable child : ℕ) (bytes : List ℕ) (told : Page) → ReadsAtMost pages old now
    → ReadsAtMost pages now then → (has : HasNode pages now true page level bytes told then) → is_leaf has.node.kind ≡ false → usable ≡ pages.usable old
    → ((node : Node) → IsReadPage usable bytes told node → IsAimed node aim child)
    → (world : View) → pages.tells then world → NamesChild (shown_over pages old world) aim level page child
names_child pages old now then aim level page usable child bytes told reading more has inner is next world there = record {
  node = has.node;
  shows = shows_before pages old now then true level page bytes told reading more has world there;
  inner = inner;
  next = next has.node (record {
    first = page == 1;
    tells = subst (λ (u : ℕ). Tells u (page == 1) bytes told has.node) (reading.edits.usable ∙ sym is) has.tells;
  });
}

-- a cell that was told, of the same bytes
pub cell_again : (usable other : ℕ) (kind other_kind : Kind) (bytes : List ℕ) (told : Cell) (cell : NodeCell) → usable ≡ other → other_kind ≡ kind
    → TellsCell usable kind bytes told cell → TellsCell other other_kind bytes told cell
cell_again usable other kind other_kind bytes told cell is same tells =
    subst (λ (u : ℕ). TellsCell u other_kind bytes told cell) is (subst (λ (k : Kind). TellsCell usable k bytes told cell) (sym same) tells)

pub page_again : (usable other : ℕ) (bytes : List ℕ) (told : Page) (node : Node) → other ≡ usable → IsReadPage usable bytes told node → IsReadPage other bytes told node
page_again usable other bytes told node is read = subst (λ (u : ℕ). IsReadPage u bytes told node) (sym is) read

-- the last rowid of a leaf
pub looked_last : {P : Type 0} (pages : Ghosts P) (old now : P) (root : ℕ) (bytes : List ℕ) (leaf : Leaf) (found : Option ℤ)
    → (done : HasDescended pages old root Last bytes leaf now) → IsLastRowid done.node.cells found → HasLookedLast pages old root (Ok found) now
looked_last pages old now root bytes leaf found done is_last = record {
  way = done.way;
  below = leaf.page;
  after = leaf.page ∷ [];
  read = done.read;
  leads = done.leads;
  ends = λ world told. (refl, record { node = done.node; shows = done.shows world told; leaf = done.is_leaf; is_last = is_last });
  cause = tt;
}
