-- A chain whose pages are given up, as far as they were.
use Rattle.std.proofs.Common.{◌≡◌, ◌≢◌, ℕ, ◌+◌, ◌-◌, ◌<◌, ◌≤◌, List, [], ◌∷◌, ◌++◌, Ok, Err, refl, sym, subst, ap, ◌∙◌, arith, inl, inr, append-nil, eq-eqb, ne_eqb}
use Rattle.std.specs.Prelude.{◌⊎◌, Result, IfErr, OnOk}
use Rattle.page_spec.specs.Bytes.{u32_at}
use Rattle.page_spec.specs.View.{View}
use Rattle.engine_spec.specs.declared.commits.FetchFault.{FetchFault}
use Rattle.engine_spec.specs.declared.commits.FetchFault.TheVariants as fault
use Rattle.page_face.specs.declared.pages_tells.PagesTells.{Ghosts}
use Rattle.page_face.specs.Pages.{Editing, IsFromOutside}
use Rattle.page_face.specs.PageCalls.{HasRead, HasGivenUp}
use Rattle.page_face.proofs.PageLaws.{editing_join, reading_same}
use Rattle.tree_spec.specs.Layout.{times}
use Rattle.tree_spec.specs.Shown.{Shown}
use Rattle.tree_spec.specs.Chains.{IsChain}
use Rattle.tree_spec.proofs.Lists.{head_there, tail_there}
use Rattle.overflow.specs.Following.{shown_over, last_met, Bars}
use Rattle.overflow.specs.Editing.{AreInUse, GivesPages, TouchesOnly}
use Rattle.overflow.specs.Freeing.{LeadsWhile, LeadsOver, HasFreedChain, FreesChain, ThereIsChainInUse}
use Rattle.overflow.proofs.Chains.{met_more}
use Rattle.overflow.proofs.Links.{outside_bars}
use Rattle.overflow.proofs.Written.{GoesOn}
use Rattle.overflow.proofs.Giving.{gives_none, gives_kept, front_in_use, gives_more, touches_none, touches_fetched, touches_kept, touches_more}

-- one page more, that leads to the number it named where it is met for the first time and stays
pub while_more : (usable last : ℕ) (shown : Shown) (Stays : ℕ → Type 0) (first size : ℕ) (done : List ℕ) (page left number : ℕ) → 0 < left → 2 ≤ page → page ≤ last
    → (times done page ≡ 0 → Stays page → number ≡ (shown.link page).next) → LeadsWhile usable last shown Stays first size done page left
    → LeadsWhile usable last shown Stays first size (done ++ page ∷ []) number (left - (usable - 4))
while_more usable last shown Stays first size [] page left number some low high names leads =
    (omega (arith, some, leads.1), leads.0, low, high, number, names refl, (refl, ap (λ (n : ℕ). n - (usable - 4)) leads.1))
while_more usable last shown Stays first size (p ∷ ps) page left number some low high names leads = (
  leads.0,
  leads.1,
  leads.2,
  leads.3,
  leads.4,
  leads.5,
  while_more usable last shown (λ other. Stays other × (other ≢ p)) leads.4 (size - (usable - 4)) ps page left number some low high
      (λ none stays. names (count none stays.1) stays.0) leads.6,
)
  where
    count : times ps page ≡ 0 → page ≢ p → times (p ∷ ps) page ≡ 0
    count none apart = let less : times (p ∷ ps) page ≡ 0 + times ps page = rw (ne_eqb p page (λ same. apart (sym same))) refl in omega (arith, less, none)

-- a chain, whose pages stay and stand in it once each, goes on from where it leads to
pub while_rest : (usable last bound : ℕ) (shown : Shown) (Stays : ℕ → Type 0) (first size : ℕ) (done : List ℕ) (next left : ℕ) (list : List ℕ)
    → LeadsWhile usable last shown Stays first size done next left → IsChain usable bound shown first size list
    → ((n : ℕ) → 1 ≤ times list n → (times list n ≤ 1) × Stays n)
    → (rest : List ℕ) × (list ≡ done ++ rest) × IsChain usable bound shown next left rest
while_rest usable last bound shown Stays first size [] next left list leads chain once = (list, refl, rw (leads.0, leads.1) chain)
while_rest usable last bound shown Stays first size (p ∷ ps) next left [] leads chain once = absurd (omega (arith, leads.0, chain.0))
while_rest usable last bound shown Stays first size (p ∷ ps) next left (q ∷ qs) leads chain once =
    let same : q ≡ p = chain.1 ∙ sym leads.1 in
    let stays : Stays p = subst Stays same (once q (head_there q qs (q ∷ qs) refl)).1 in
    let names : (shown.link q).next ≡ leads.4 = ap (λ (n : ℕ). (shown.link n).next) same ∙ sym (leads.5 stays) in
    let rest : IsChain usable bound shown leads.4 (size - (usable - 4)) qs = subst (λ (n : ℕ). IsChain usable bound shown n (size - (usable - 4)) qs) names chain.4 in
    let found = while_rest usable last bound shown (λ other. Stays other × (other ≢ p)) leads.4 (size - (usable - 4)) ps next left qs leads.6 rest (again same) in
    (found.0, ap (λ (n : ℕ). n ∷ qs) same ∙ ap (λ (l : List ℕ). p ∷ l) found.1, found.2)
  where
    again : q ≡ p → (n : ℕ) → 1 ≤ times qs n → (times qs n ≤ 1) × (Stays n × (n ≢ p))
    again same n there =
        let found = once n (tail_there q qs (q ∷ qs) refl n there) in
        (omega (arith, found.0), (found.1, λ is. (let here : times (q ∷ qs) n ≡ 1 + times qs n = rw (eq-eqb q n (same ∙ sym is)) refl in omega (arith, found.0, here, there))))

pub whole_while : (usable last bound : ℕ) (shown : Shown) (Stays : ℕ → Type 0) (first size : ℕ) (done : List ℕ) (next left : ℕ) (list : List ℕ) → left ≡ 0
    → LeadsWhile usable last shown Stays first size done next left → IsChain usable bound shown first size list
    → ((n : ℕ) → 1 ≤ times list n → (times list n ≤ 1) × Stays n) → list ≡ done
whole_while usable last bound shown Stays first size done next left list none leads chain once =
    let found = while_rest usable last bound shown Stays first size done next left list leads chain once in
    by_rest found.0 found.1 found.2
  where
    by_rest : (rest : List ℕ) → list ≡ done ++ rest → IsChain usable bound shown next left rest → list ≡ done
    by_rest [] is chain = is ∙ append-nil done
    by_rest (p ∷ ps) is chain = absurd (omega (arith, none, chain.0))

pub no_while : (usable last : ℕ) (shown : Shown) (Stays : ℕ → Type 0) (first size : ℕ) (done : List ℕ) (next left : ℕ) (list : List ℕ) → 0 < left → (next < 2) ⊎ (last < next)
    → LeadsWhile usable last shown Stays first size done next left → IsChain usable last shown first size list
    → ((n : ℕ) → 1 ≤ times list n → (times list n ≤ 1) × Stays n) → ⊥
no_while usable last shown Stays first size done next left list some out leads chain once =
    let found = while_rest usable last last shown Stays first size done next left list leads chain once in
    by_rest found.0 found.2
  where
    by_rest : (rest : List ℕ) → IsChain usable last shown next left rest → ⊥
    by_rest [] chain = omega (arith, some, chain.0)
    by_rest (p ∷ ps) chain = elim out [ inl low ↦ omega (arith, low, chain.1, chain.2) | inr high ↦ omega (arith, high, chain.1, chain.3) ]

-- The pages done were given up, and over each world that is still told they lead to here.
pub record FreedSoFar {P : Type 0} (pages : Ghosts P) (old now : P) (first size : ℕ) (done : List ℕ) (met next left : ℕ) : Type 0 where
  pub met_is : met ≡ last_met first done
  pub leads : (world : View) → pages.tells now world → LeadsOver pages old world first size done next left
  pub gives : (world : View) → pages.tells now world → GivesPages pages done old now world
  pub touches : (world : View) → pages.tells now world → AreInUse pages old world done → pages.neat old world → TouchesOnly pages done old now world
  pub last : pages.last_page now ≡ pages.last_page old
  pub edits : Editing pages old now

pub freed_none : {P : Type 0} (pages : Ghosts P) (old : P) (first size : ℕ) → pages.ready old → pages.follows old old → FreedSoFar pages old old first size [] first first size
freed_none pages old first size ready follows = record {
  met_is = refl;
  leads = λ world told. (refl, refl);
  gives = λ world told. gives_none pages old world;
  touches = λ world told used neat. touches_none pages old world;
  last = refl;
  edits = (reading_same pages old ready follows).edits;
}

-- a page was fetched and given up
pub freed_more : {P : Type 0} (pages : Ghosts P) (old now mid then : P) (first size : ℕ) (done : List ℕ) (met page left next_then left_then : ℕ) (buf : List ℕ) → GoesOn pages
    → 0 < left → 2 ≤ page → page ≤ pages.last_page old → HasRead pages now page (Ok tt) buf mid → HasGivenUp pages mid page (Ok tt) then
    → next_then ≡ u32_at buf 0 → left_then ≡ left - (pages.usable old - 4) → FreedSoFar pages old now first size done met page left
    → FreedSoFar pages old then first size (done ++ page ∷ []) page next_then left_then
freed_more pages old now mid then first size done met page left next_then left_then buf on some low high fetch up next_is left_is so_far =
    let told_mid : (world : View) → pages.tells then world → pages.tells mid world = up.edits.narrows in
    let told_now : (world : View) → pages.tells mid world → pages.tells now world = fetch.reading.edits.narrows in
    let gives_mid : (world : View) → pages.tells mid world → GivesPages pages done old mid world =
    λ world told. gives_kept pages done old now mid world (so_far.gives world (told_now world told)) (fetch.reading.each world told) in
    record {
      met_is = sym (met_more first done page);
      leads = λ world told.
          let before = told_now world (told_mid world told) in
          let usable = pages.usable old in
          rw (left_is) (while_more usable (pages.last_page old) (shown_over pages old world) (λ n. pages.free old world n → ⊥) first size done page left next_then some low high
          (λ none used. next_is ∙ ap (λ (b : List ℕ). u32_at b 0) (fetch.page_is world (told_mid world told) ∙ (so_far.gives world before).each page none used))
          (so_far.leads world before));
      gives = λ world told. gives_more pages done old mid then page world (gives_mid world (told_mid world told)) (up.given world told);
      touches = λ world told used neat.
          let gives = gives_mid world (told_mid world told) in
          let front = front_in_use pages old world done page used in
          let order = gives.neat front neat in
          touches_more pages done old mid then page world gives
          (touches_fetched pages done old now mid page world (so_far.touches world (told_now world (told_mid world told)) front neat) fetch.reading.has fetch.read)
          (up.changed world told order) (up.read world told order);
      last = up.last ∙ fetch.reading.last ∙ so_far.last;
      edits = editing_join pages old mid then (editing_join pages old now mid so_far.edits fetch.reading.edits on) up.edits on;
    }

-- no further page was given up, since the next number is out of range
pub freed_bars : {P : Type 0} (pages : Ghosts P) (old now : P) (first size : ℕ) (done : List ℕ) (met next left : ℕ) (why : FetchFault)
    → Bars (pages.last_page old) (pages.faults old) (pages.faults now) (last_met first done) next left why
    → FreedSoFar pages old now first size done met next left → HasFreedChain pages old first size (Err why) now
freed_bars pages old now first size done met next left why bars so_far = record {
  list = done;
  fetched = done;
  next = next;
  left = left;
  leads = so_far.leads;
  gives = so_far.gives;
  touches = so_far.touches;
  fetched_are = inl refl;
  whole = tt;
  cause = bars;
  last = so_far.last;
  edits = so_far.edits;
}

-- since the next page couldn't be fetched
pub fetch_fails : {P : Type 0} (pages : Ghosts P) (old now then : P) (first size : ℕ) (done : List ℕ) (met next left : ℕ) (buf : List ℕ) (why : FetchFault) → GoesOn pages
    → HasRead pages now next (Err why) buf then → FreedSoFar pages old now first size done met next left → HasFreedChain pages old first size (Err why) then
fetch_fails pages old now then first size done met next left buf why on fetch so_far =
    let told_now : (world : View) → pages.tells then world → pages.tells now world = fetch.reading.edits.narrows in
    record {
      list = done;
      fetched = done;
      next = next;
      left = left;
      leads = λ world told. so_far.leads world (told_now world told);
      gives = λ world told. gives_kept pages done old now then world (so_far.gives world (told_now world told)) (fetch.reading.each world told);
      touches = λ world told used neat.
          touches_kept pages done old now then world (so_far.touches world (told_now world told) used neat) fetch.reading.has fetch.unread;
      fetched_are = inl refl;
      whole = tt;
      cause = outside_bars (pages.last_page old) (pages.faults old) (pages.faults now) (pages.faults then) (last_met first done) next left why so_far.edits.faults fetch.cause;
      last = fetch.reading.last ∙ so_far.last;
      edits = editing_join pages old now then so_far.edits fetch.reading.edits on;
    }

-- or couldn't be given up
pub give_fails : {P : Type 0} (pages : Ghosts P) (old now mid then : P) (first size : ℕ) (done : List ℕ) (met next left : ℕ) (buf : List ℕ) (why : FetchFault) → GoesOn pages
    → 0 < left → HasRead pages now next (Ok tt) buf mid → HasGivenUp pages mid next (Err why) then → FreedSoFar pages old now first size done met next left
    → HasFreedChain pages old first size (Err why) then
give_fails pages old now mid then first size done met next left buf why on some fetch up so_far =
    let told_mid : (world : View) → pages.tells then world → pages.tells mid world = up.edits.narrows in
    let told_now : (world : View) → pages.tells mid world → pages.tells now world = fetch.reading.edits.narrows in
    let gives_mid : (world : View) → pages.tells mid world → GivesPages pages done old mid world =
    λ world told. gives_kept pages done old now mid world (so_far.gives world (told_now world told)) (fetch.reading.each world told) in
    record {
      list = done;
      fetched = done ++ next ∷ [];
      next = next;
      left = left;
      leads = λ world told. so_far.leads world (told_now world (told_mid world told));
      gives = λ world told. gives_kept pages done old mid then world (gives_mid world (told_mid world told)) (up.refused world told);
      touches = λ world told used neat.
          let gives = gives_mid world (told_mid world told) in
          let order = gives.neat used neat in
          touches_more pages done old mid then next world gives
          (touches_fetched pages done old now mid next world (so_far.touches world (told_now world (told_mid world told)) used neat) fetch.reading.has fetch.read)
          (up.changed world told order) (up.read world told order);
      fetched_are = inr (some, refl);
      whole = tt;
      cause = outside_bars (pages.last_page old) (pages.faults old) (pages.faults mid) (pages.faults then) (last_met first done) next left why
          (omega (arith, so_far.edits.faults, fetch.reading.edits.faults)) up.cause;
      last = up.last ∙ fetch.reading.last ∙ so_far.last;
      edits = editing_join pages old mid then (editing_join pages old now mid so_far.edits fetch.reading.edits on) up.edits on;
    }

-- how giving them up ends well
pub freed_all : {P : Type 0} (pages : Ghosts P) (old now : P) (first size : ℕ) (done : List ℕ) (met next left : ℕ) → left ≡ 0
    → FreedSoFar pages old now first size done met next left → HasFreedChain pages old first size (Ok tt) now
freed_all pages old now first size done met next left none so_far = record {
  list = done;
  fetched = done;
  next = next;
  left = left;
  leads = so_far.leads;
  gives = so_far.gives;
  touches = so_far.touches;
  fetched_are = inl refl;
  whole = (none, refl);
  cause = tt;
  last = so_far.last;
  edits = so_far.edits;
}

-- what is said of the pages that were met, said of a chain
pub frees_chain : {P : Type 0} (pages : Ghosts P) (old : P) (first size : ℕ) (done : Unit {0}) (new : P) → HasFreedChain pages old first size (Ok done) new → FreesChain pages old first size new
frees_chain pages old first size done new freed = λ world told bound list chain used.
    let same : list ≡ freed.list =
    whole_while (pages.usable old) (pages.last_page old) bound (shown_over pages old world) (λ n. pages.free old world n → ⊥) first size freed.list freed.next freed.left list
    freed.whole.0 (freed.leads world told) chain used in
    let mine : AreInUse pages old world freed.list = subst (λ (l : List ℕ). AreInUse pages old world l) same used in
    record {
      gives = subst (λ (l : List ℕ). GivesPages pages l old new world) (sym same) (freed.gives world told);
      touches = λ neat. subst (λ (l : List ℕ). TouchesOnly pages l old new world) (freed.whole.1 ∙ sym same) (freed.touches world told mine neat);
    }

pub frees_none : {P : Type 0} (pages : Ghosts P) (old : P) (first size : ℕ) (new : P) (why : FetchFault) → HasFreedChain pages old first size (Err why) new
    → ThereIsChainInUse pages old first size new → IsFromOutside (pages.faults old) (pages.faults new) why
frees_none pages old first size new fault.Disk freed is = freed.cause
frees_none pages old first size new (fault.Corrupt page) freed is =
    absurd (no_while (pages.usable old) (pages.last_page old) (shown_over pages old is.there.world) (λ n. pages.free old is.there.world n → ⊥) first size freed.list freed.next freed.left is.there.list
    freed.cause.1 freed.cause.2 (freed.leads is.there.world is.there.told) is.there.chain is.used)
frees_none pages old first size new (fault.Size n) freed is = absurd freed.cause
frees_none pages old first size new fault.Memory freed is = tt

-- both, by the answer
pub frees_on : {P : Type 0} (pages : Ghosts P) (old : P) (first size : ℕ) (result : Result Unit FetchFault) (new : P) → HasFreedChain pages old first size result new
    → OnOk result (FreesChain pages old first size new)
frees_on pages old first size (Ok done) new freed = frees_chain pages old first size done new freed
frees_on pages old first size (Err why) new freed = tt

pub sound_on : {P : Type 0} (pages : Ghosts P) (old : P) (first size : ℕ) (result : Result Unit FetchFault) (new : P) → HasFreedChain pages old first size result new
    → IfErr result (λ why. ThereIsChainInUse pages old first size new → IsFromOutside (pages.faults old) (pages.faults new) why)
sound_on pages old first size (Ok done) new freed = tt
sound_on pages old first size (Err why) new freed = λ is. frees_none pages old first size new why freed is
