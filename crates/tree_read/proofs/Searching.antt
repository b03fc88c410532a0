-- The way down towards an entry, as far as it was gone, and how it ends.
use Rattle.std.proofs.Common.{◌≡◌, ℕ, ◌<◌, ◌≤◌, true, false, List, [], ◌∷◌, ◌++◌, length, Result, Ok, Err, inl, inr, refl, sym, subst, ap, ◌∙◌, arith}
use Rattle.std.specs.Prelude.{◌⊎◌, IfErr}
use Rattle.page_spec.specs.View.{View}
use Rattle.engine_spec.specs.declared.commits.FetchFault.{FetchFault}
use Rattle.engine_spec.specs.declared.commits.FetchFault.TheVariants as fault
use Rattle.page_face.specs.declared.pages_tells.PagesTells.{Ghosts}
use Rattle.page_face.specs.Pages.{ReadsAtMost, pages_read}
use Rattle.node_spec.specs.Kinds.{is_leaf}
use Rattle.node_spec.specs.Nodes.{Node}
use Rattle.page_form.specs.declared.page.Page.{Page}
use Rattle.tree_spec.specs.Shown.{Shown}
use Rattle.tree_spec.specs.Layout.{Each}
use Rattle.tree_spec.proofs.Lists.{each-append}
use Rattle.value_form.specs.declared.value.Value.{Value}
use Rattle.overflow.specs.Following.{shown_over, all_read}
use Rattle.overflow.proofs.Chains.{read_step}
use Rattle.tree_read.specs.declared.entry.Spot.{Spot}
use Rattle.tree_read.specs.declared.entry.Spot.TheVariants.{At, Before}
use Rattle.tree_read.specs.Ways.{ShowsNode, GoesOn, IsWay, BreaksWay, child_at}
use Rattle.tree_read.specs.Payloads.{IsCause}
use Rattle.tree_read.specs.Looking.{BarsNode, HasNode}
use Rattle.tree_read.specs.Entries.{IsOfCells, EndsSeek, HasSought, NamesEntryChild, IsOneOf, IsChainPage, EndsSearch, HasSearched}
use Rattle.tree_read.proofs.Around.{weaker}
use Rattle.tree_read.proofs.Seeking.{one_second}
use Rattle.tree_read.proofs.Descents.{same_shown, read_both, cause_before, rose_before, way_more}

-- a page that is read on a way over these pages
abbrev pub IsVisited : (usable last : ℕ) → Shown → List ℕ → ℕ → Type 0
IsVisited usable last shown pages page = IsOneOf pages page ⊎ IsChainPage usable last shown pages page

one_first : (pages more : List ℕ) (page : ℕ) → IsOneOf pages page → IsOneOf (pages ++ more) page
one_first [] more page never = absurd never
one_first (p ∷ ps) more page (inl is) = inl is
one_first (p ∷ ps) more page (inr one) = inr (one_first ps more page one)

one_last : (pages : List ℕ) (page : ℕ) → IsOneOf (pages ++ page ∷ []) page
one_last [] page = inl refl
one_last (p ∷ ps) page = inr (one_last ps page)

visited_more : (usable last : ℕ) (shown : Shown) (pages more : List ℕ) (page : ℕ) → IsVisited usable last shown pages page → IsVisited usable last shown (pages ++ more) page
visited_more usable last shown pages more page (inl one) = inl (one_first pages more page one)
visited_more usable last shown pages more page (inr chain) = inr (record {
  owner = chain.owner;
  among = one_first pages more chain.owner chain.among;
  node = chain.node;
  holds = chain.holds;
  of = chain.of;
})

-- The pages of the way were read, and over each world that is still told they lead to here.
pub record EntrySoFar {P : Type 0} (pages : Ghosts P) (old now : P) (root : ℕ) (entry : List Value) (way : List ℕ) (page : ℕ) : Type 0 where
  pub list : List ℕ
  pub read : pages.reads now ≡ all_read (pages.has old) (pages.reads old) list
  pub leads : (world : View) → pages.tells now world
      → IsWay (GoesOn (pages.last_page old) (NamesEntryChild (pages.usable old) (pages.last_page old) (shown_over pages old world) entry)) 0 root way page
  pub visits : (world : View) → pages.tells now world → Each (IsVisited (pages.usable old) (pages.last_page old) (shown_over pages old world) way) list

pub nothing_searched : {P : Type 0} (pages : Ghosts P) (old : P) (root : ℕ) (entry : List Value) → EntrySoFar pages old old root entry [] root
nothing_searched pages old root entry = record { list = []; read = refl; leads = λ world told. refl; visits = λ world told. tt }

-- A page of the way was read, and the entry sought in it.
pub record AtPage {P : Type 0} (pages : Ghosts P) (old then : P) (root : ℕ) (entry : List Value) (way : List ℕ) (page : ℕ) (node : Node) (result : Result Spot FetchFault) : Type 0 where
  pub list : List ℕ
  pub sub : List ℕ
  pub within : (number : ℕ) → IsOneOf sub number → IsOneOf list number
  pub here : IsOneOf list page
  pub read : pages.reads then ≡ all_read (pages.has old) (pages.reads old) list
  pub leads : (world : View) → pages.tells then world
      → IsWay (GoesOn (pages.last_page old) (NamesEntryChild (pages.usable old) (pages.last_page old) (shown_over pages old world) entry)) 0 root way page
  pub visits : (world : View) → pages.tells then world → Each (IsVisited (pages.usable old) (pages.last_page old) (shown_over pages old world) (way ++ page ∷ [])) list
  pub shows : (world : View) → pages.tells then world → ShowsNode false (shown_over pages old world) (length way) page node
  pub ends : (world : View) → pages.tells then world → EndsSeek (pages.usable old) (pages.last_page old) (shown_over pages old world) node page entry sub result
  pub cause : IfErr result (IsCause (pages.faults old) (pages.faults then))

pub at_page : {P : Type 0} (pages : Ghosts P) (old now mid then : P) (root : ℕ) (entry : List Value) (way : List ℕ) (page : ℕ) (bytes : List ℕ) (told : Page) (result : Result Spot FetchFault)
    → ReadsAtMost pages old now → ReadsAtMost pages now mid → ReadsAtMost pages old mid → ReadsAtMost pages mid then
    → (so_far : EntrySoFar pages old now root entry way page)
    → (has : HasNode pages now false page (length way) bytes told mid) → HasSought pages mid has.node page entry result then
    → AtPage pages old then root entry way page has.node result
at_page pages old now mid then root entry way page bytes told result first second both third so_far has sought =
    let usable = pages.usable old in
    let last = pages.last_page old in
    let shows = λ (world : View) (there : pages.tells then world).
    ap (λ (s : Shown). s.node page) (sym (same_shown pages old now first world (second.edits.narrows world (third.edits.narrows world there))))
    ∙ has.shown world (third.edits.narrows world there) in
    record {
      list = (so_far.list ++ page ∷ []) ++ sought.list;
      sub = sought.list;
      within = λ number one. one_second (so_far.list ++ page ∷ []) sought.list number one;
      here = one_first (so_far.list ++ page ∷ []) sought.list page (one_last so_far.list page);
      read = read_both (pages.has old) (pages.has mid) (pages.reads old) (pages.reads mid) (pages.reads then) (so_far.list ++ page ∷ []) sought.list both.has
          (read_step (pages.has old) (pages.has now) (pages.reads old) (pages.reads now) (pages.reads mid) so_far.list page (first.has page) so_far.read has.read) sought.read;
      leads = λ world there. so_far.leads world (second.edits.narrows world (third.edits.narrows world there));
      visits = λ world there.
          let shown = shown_over pages old world in
          let before = weaker (IsVisited usable last shown way) (IsVisited usable last shown (way ++ page ∷ [])) so_far.list
          (λ p visited. visited_more usable last shown way (page ∷ []) p visited) (so_far.visits world (second.edits.narrows world (third.edits.narrows world there))) in
          let cells : Each (IsOfCells usable last shown has.node) sought.list =
          subst (λ (u : ℕ). Each (IsOfCells u last shown has.node) sought.list) both.edits.usable
          (subst (λ (n : ℕ). Each (IsOfCells (pages.usable mid) n shown has.node) sought.list) both.last
          (subst (λ (s : Shown). Each (IsOfCells (pages.usable mid) (pages.last_page mid) s has.node) sought.list)
          (same_shown pages old mid both world (third.edits.narrows world there)) (sought.are world there))) in
          let chains = weaker (IsOfCells usable last shown has.node) (IsVisited usable last shown (way ++ page ∷ [])) sought.list
          (λ p of. inr (record { owner = page; among = one_last way page; node = has.node; holds = shows world there; of = of })) cells in
          each-append (IsVisited usable last shown (way ++ page ∷ [])) (so_far.list ++ page ∷ []) sought.list
          (each-append (IsVisited usable last shown (way ++ page ∷ [])) so_far.list (page ∷ []) before (inl (one_last way page), tt)) chains;
      shows = λ world there. record { holds = shows world there; may = has.may };
      ends = λ world there.
          subst (λ (u : ℕ). EndsSeek u last (shown_over pages old world) has.node page entry sought.list result) both.edits.usable
          (subst (λ (n : ℕ). EndsSeek (pages.usable mid) n (shown_over pages old world) has.node page entry sought.list result) both.last
          (subst (λ (s : Shown). EndsSeek (pages.usable mid) (pages.last_page mid) s has.node page entry sought.list result)
          (same_shown pages old mid both world (third.edits.narrows world there)) (sought.ends world there)));
      cause = if_cause result sought.cause;
    }
  where
    if_cause : (result : Result Spot FetchFault) → IfErr result (IsCause (pages.faults mid) (pages.faults then)) → IfErr result (IsCause (pages.faults old) (pages.faults then))
    if_cause (Ok order) cause = tt
    if_cause (Err why) cause = cause_before _ _ _ why both.edits.faults cause

-- How a look-up ends at a page.
pub is_found : {P : Type 0} (pages : Ghosts P) (old then : P) (root : ℕ) (entry : List Value) (way : List ℕ) (page : ℕ) (node : Node)
    → AtPage pages old then root entry way page node (Ok At) → HasSearched pages old root entry (Ok true) then
is_found pages old then root entry way page node at = record {
  way = way;
  below = page;
  list = at.list;
  read = at.read;
  leads = at.leads;
  visits = at.visits;
  ends = λ world told. record { node = node; shows = at.shows world told; k = (at.ends world told).0; compares = (at.ends world told).1 };
  cause = tt;
}

pub is_missing : {P : Type 0} (pages : Ghosts P) (old then : P) (root : ℕ) (entry : List Value) (way : List ℕ) (page : ℕ) (node : Node) (place : ℕ)
    → is_leaf node.kind ≡ true → AtPage pages old then root entry way page node (Ok (Before place)) → HasSearched pages old root entry (Ok false) then
is_missing pages old then root entry way page node place leaf at = record {
  way = way;
  below = page;
  list = at.list;
  read = at.read;
  leads = at.leads;
  visits = at.visits;
  ends = λ world told. record { node = node; shows = at.shows world told; leaf = leaf; place = place; stands = at.ends world told };
  cause = tt;
}

search_end : (usable last : ℕ) (shown : Shown) (root : ℕ) (entry : List Value) (way : List ℕ) (page : ℕ) (node : Node) (sub list : List ℕ) (why : FetchFault)
    → ShowsNode false shown (length way) page node → ((number : ℕ) → IsOneOf sub number → IsOneOf list number) → IsOneOf list page
    → EndsSeek usable last shown node page entry sub (Err why) → EndsSearch usable last shown root entry way page list (Err why)
search_end usable last shown root entry way page node sub list fault.Disk shows within here ends = tt
search_end usable last shown root entry way page node sub list (fault.Corrupt named) shows within here ends = inr (
  elim ends.1 [ inl own ↦ subst (IsOneOf list) (sym own) here | inr one ↦ within named one ],
  inr (record { node = node; shows = shows; cell = ends.0 }),
)
search_end usable last shown root entry way page node sub list (fault.Size count) shows within here ends = ends
search_end usable last shown root entry way page node sub list fault.Memory shows within here ends = tt

pub is_broken : {P : Type 0} (pages : Ghosts P) (old then : P) (root : ℕ) (entry : List Value) (way : List ℕ) (page : ℕ) (node : Node) (why : FetchFault)
    → AtPage pages old then root entry way page node (Err why) → HasSearched pages old root entry (Err why) then
is_broken pages old then root entry way page node why at = record {
  way = way;
  below = page;
  list = at.list;
  read = at.read;
  leads = at.leads;
  visits = at.visits;
  ends = λ world told. search_end (pages.usable old) (pages.last_page old) (shown_over pages old world) root entry way page node at.sub at.list why (at.shows world told) at.within at.here (at.ends world told);
  cause = at.cause;
}

-- the child that is named
pub names_entry_child : {P : Type 0} (pages : Ghosts P) (old then : P) (root : ℕ) (entry : List Value) (way : List ℕ) (page : ℕ) (node : Node) (place child : ℕ)
    → is_leaf node.kind ≡ false → child ≡ child_at node.cells node.right place → AtPage pages old then root entry way page node (Ok (Before place))
    → (world : View) → pages.tells then world → NamesEntryChild (pages.usable old) (pages.last_page old) (shown_over pages old world) entry (length way) page child
names_entry_child pages old then root entry way page node place child inner is at world told = record {
  node = node;
  shows = at.shows world told;
  inner = inner;
  place = place;
  stands = at.ends world told;
  child_is = is;
}

pub entry_child_outside : {P : Type 0} (pages : Ghosts P) (old then : P) (root : ℕ) (entry : List Value) (way : List ℕ) (page : ℕ) (node : Node) (place child : ℕ)
    → is_leaf node.kind ≡ false → child ≡ child_at node.cells node.right place → (child < 2) ⊎ (pages.last_page old < child)
    → AtPage pages old then root entry way page node (Ok (Before place)) → HasSearched pages old root entry (Err (fault.Corrupt page)) then
entry_child_outside pages old then root entry way page node place child inner is outside at = record {
  way = way;
  below = page;
  list = at.list;
  read = at.read;
  leads = at.leads;
  visits = at.visits;
  ends = λ world told. inr (at.here, inl (BreaksWay.ChildOutside child refl refl (names_entry_child pages old then root entry way page node place child inner is at world told) outside));
  cause = tt;
}

pub entry_more : {P : Type 0} (pages : Ghosts P) (old then : P) (root : ℕ) (entry : List Value) (way : List ℕ) (page : ℕ) (node : Node) (place child : ℕ)
    → is_leaf node.kind ≡ false → child ≡ child_at node.cells node.right place → 2 ≤ child → child ≤ pages.last_page old
    → AtPage pages old then root entry way page node (Ok (Before place)) → EntrySoFar pages old then root entry (way ++ page ∷ []) child
entry_more pages old then root entry way page node place child inner is low high at = record {
  list = at.list;
  read = at.read;
  leads = λ world told. way_more (GoesOn (pages.last_page old) (NamesEntryChild (pages.usable old) (pages.last_page old) (shown_over pages old world) entry)) 0 root way page child
      (length way) (omega arith) (at.leads world told) (names_entry_child pages old then root entry way page node place child inner is at world told, low, high);
  visits = at.visits;
}

-- a page gave no node
unseen : {P : Type 0} (pages : Ghosts P) (old now then : P) (root : ℕ) (entry : List Value) (way : List ℕ) (page : ℕ) (why : FetchFault)
    → ReadsAtMost pages old now → ReadsAtMost pages now then → (so_far : EntrySoFar pages old now root entry way page)
    → ((list : List ℕ) (world : View) → pages.tells then world → EndsSearch (pages.usable old) (pages.last_page old) (shown_over pages old world) root entry way page list (Err why))
    → IsCause (pages.faults old) (pages.faults then) why
    → (pages.reads then ≡ pages.reads now) ⊎ (pages.reads then ≡ pages_read pages now page) → HasSearched pages old root entry (Err why) then
unseen pages old now then root entry way page why reading more so_far ends cause (inl none) = record {
  way = way;
  below = page;
  list = so_far.list;
  read = none ∙ so_far.read;
  leads = λ world told. so_far.leads world (more.edits.narrows world told);
  visits = λ world told. weaker _ (IsVisited (pages.usable old) (pages.last_page old) (shown_over pages old world) (way ++ page ∷ [])) so_far.list
      (λ p visited. visited_more (pages.usable old) (pages.last_page old) (shown_over pages old world) way (page ∷ []) p visited) (so_far.visits world (more.edits.narrows world told));
  ends = ends so_far.list;
  cause = cause;
}
unseen pages old now then root entry way page why reading more so_far ends cause (inr one) = record {
  way = way;
  below = page;
  list = so_far.list ++ page ∷ [];
  read = read_step (pages.has old) (pages.has now) (pages.reads old) (pages.reads now) (pages.reads then) so_far.list page (reading.has page) so_far.read one;
  leads = λ world told. so_far.leads world (more.edits.narrows world told);
  visits = λ world told. each-append (IsVisited (pages.usable old) (pages.last_page old) (shown_over pages old world) (way ++ page ∷ [])) so_far.list (page ∷ [])
      (weaker _ (IsVisited (pages.usable old) (pages.last_page old) (shown_over pages old world) (way ++ page ∷ [])) so_far.list
      (λ p visited. visited_more (pages.usable old) (pages.last_page old) (shown_over pages old world) way (page ∷ []) p visited) (so_far.visits world (more.edits.narrows world told)))
      (inl (one_last way page), tt);
  ends = ends (so_far.list ++ page ∷ []);
  cause = cause;
}

pub no_index_node : {P : Type 0} (pages : Ghosts P) (old now then : P) (root : ℕ) (entry : List Value) (way : List ℕ) (page : ℕ) (why : FetchFault)
    → ReadsAtMost pages old now → ReadsAtMost pages now then → EntrySoFar pages old now root entry way page → BarsNode pages now false page (length way) then why
    → (pages.reads then ≡ pages.reads now) ⊎ (pages.reads then ≡ pages_read pages now page) → HasSearched pages old root entry (Err why) then
no_index_node pages old now then root entry way page fault.Disk reading more so_far bars which =
    unseen pages old now then root entry way page fault.Disk reading more so_far (λ list world told. tt) (rose_before _ _ _ reading.edits.faults bars) which
no_index_node pages old now then root entry way page (fault.Corrupt named) reading more so_far bars which = record {
  way = way;
  below = page;
  list = so_far.list ++ page ∷ [];
  read = read_step (pages.has old) (pages.has now) (pages.reads old) (pages.reads now) (pages.reads then) so_far.list page (reading.has page) so_far.read bars.1;
  leads = λ world told. so_far.leads world (more.edits.narrows world told);
  visits = λ world told. each-append (IsVisited (pages.usable old) (pages.last_page old) (shown_over pages old world) (way ++ page ∷ [])) so_far.list (page ∷ [])
      (weaker _ (IsVisited (pages.usable old) (pages.last_page old) (shown_over pages old world) (way ++ page ∷ [])) so_far.list
      (λ p visited. visited_more (pages.usable old) (pages.last_page old) (shown_over pages old world) way (page ∷ []) p visited) (so_far.visits world (more.edits.narrows world told)))
      (inl (one_last way page), tt);
  ends = λ world told. inr (
    subst (IsOneOf (so_far.list ++ page ∷ [])) (sym bars.0) (one_last so_far.list page),
    inl (BreaksWay.ShowsNone refl bars.0 (λ node shows.
        bars.2 world told node (record {
          holds = ap (λ (s : Shown). s.node page) (same_shown pages old now reading world (more.edits.narrows world told)) ∙ shows.holds;
          may = shows.may;
        }))),
  );
  cause = tt;
}
no_index_node pages old now then root entry way page (fault.Size count) reading more so_far bars which = absurd bars
no_index_node pages old now then root entry way page fault.Memory reading more so_far bars which =
    unseen pages old now then root entry way page fault.Memory reading more so_far (λ list world told. tt) tt which

pub index_outside : {P : Type 0} (pages : Ghosts P) (old : P) (root : ℕ) (entry : List Value) → (root < 1) ⊎ (pages.last_page old < root)
    → HasSearched pages old root entry (Err (fault.Corrupt root)) old
index_outside pages old root entry outside = record {
  way = [];
  below = root;
  list = [];
  read = refl;
  leads = λ world told. refl;
  visits = λ world told. tt;
  ends = λ world told. inl (refl, BreaksWay.RootOutside refl refl refl outside);
  cause = tt;
}

pub no_buffers : {P : Type 0} (pages : Ghosts P) (old : P) (root : ℕ) (entry : List Value) (why : FetchFault) → why ≡ fault.Memory → HasSearched pages old root entry (Err why) old
no_buffers pages old root entry why is = subst (λ (w : FetchFault). HasSearched pages old root entry (Err w) old) (sym is) (record {
  way = [];
  below = root;
  list = [];
  read = refl;
  leads = λ world told. refl;
  visits = λ world told. tt;
  ends = λ world told. tt;
  cause = tt;
})
