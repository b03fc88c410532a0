-- A chain that is written page by page, as far as it was.
use Rattle.std.proofs.Common.{◌≡◌, ℕ, ◌+◌, ◌-◌, ◌*◌, ◌<◌, ◌≤◌, List, [], ◌∷◌, ◌++◌, Bool, true, false, Ok, Err, refl, sym, subst, ap, ◌∙◌, arith, inl, inr, min, take, drop, length, length-append, append_assoc, append-nil, eq-eqb, ne_eqb}
use Rattle.std.proofs.lemmas.Bool.{cases_eq, cases_lt}
use Rattle.std.specs.Prelude.{◌⊎◌, ◌==◌, ◌||◌, Contains}
use Rattle.disk_face.specs.Faults.{last_count}
use Rattle.page_spec.specs.Bytes.{u32_at}
use Rattle.page_spec.specs.Header.{database_limit}
use Rattle.page_spec.specs.View.{View}
use Rattle.engine_spec.specs.declared.commits.FetchFault.{FetchFault}
use Rattle.engine_spec.specs.declared.commits.FetchFault.TheVariants as fault
use Rattle.page_face.specs.declared.pages_tells.PagesTells.{Ghosts}
use Rattle.page_face.specs.Pages.{Editing, IsFromOutside, BarsFresh, BarsNeat}
use Rattle.page_face.specs.PageCalls.{HasMade, HasPut}
use Rattle.page_face.proofs.PageLaws.{editing_join, reading_same}
use Rattle.tree_spec.specs.Layout.{times, Each}
use Rattle.tree_spec.specs.Shown.{Shown, shown_by, link_in}
use Rattle.tree_spec.specs.Chains.{IsChain, chain_bytes}
use Rattle.tree_spec.proofs.Lists.{times-append, head_there, tail_there, each-append}
use Rattle.overflow.specs.Following.{Leads}
use Rattle.overflow.specs.Editing.{MakesPages}
use Rattle.overflow.specs.Writing.{HasWrittenChain}
use Rattle.overflow.proofs.Chains.{lead_more, bytes_more, take_least}
use Rattle.overflow.proofs.Making.{end_here, makes_none, takes_more, makes_kept, puts_made}

-- the law that what stands behind pages stays over two calls
abbrev pub GoesOn : {P : Type 0} → Ghosts P → Type 0
GoesOn {P} pages = (first second third : P) → pages.follows first second → pages.follows second third → pages.follows first third

-- what holds of each element, where something weaker follows
pub each_weaker : (P Q : ℕ → Type 0) (xs : List ℕ) → ((x : ℕ) → P x → Q x) → Each P xs → Each Q xs
each_weaker P Q [] less each = tt
each_weaker P Q (x ∷ xs) less each = (less x each.0, each_weaker P Q xs less each.1)

-- what holds of each element holds of one that is there
pub each_there : (P : ℕ → Type 0) (xs : List ℕ) (x : ℕ) → Each P xs → 1 ≤ times xs x → P x
each_there P [] x each there = absurd (omega (arith, there))
each_there P (y ∷ ys) x each there = elim (cases_eq y x) [
  | inl same ↦ subst P same each.0
  | inr apart ↦
      each_there P ys x each.1
      (let less : times (y ∷ ys) x ≡ 0 + times ys x = rw (ne_eqb y x apart) refl in omega (arith, there, less))
]

-- a chain leads on as before where its pages name the same
leads_moves : (usable last last_then : ℕ) (shown shown_then : Shown) (first size : ℕ) (list : List ℕ) (next left : ℕ) → last ≤ last_then
    → ((n : ℕ) → 1 ≤ times list n → shown_then.link n ≡ shown.link n) → Leads usable last shown first size list next left
    → Leads usable last_then shown_then first size list next left
leads_moves usable last last_then shown shown_then first size [] next left more same leads = leads
leads_moves usable last last_then shown shown_then first size (page ∷ pages) next left more same leads = (
  leads.0,
  leads.1,
  leads.2,
  omega (arith, more, leads.3),
  subst (λ link. Leads usable last_then shown_then link.next (size - (usable - 4)) pages next left) (sym (same page (head_there page pages (page ∷ pages) refl)))
      (leads_moves usable last last_then shown shown_then (shown.link page).next (size - (usable - 4)) pages next left more
      (λ n there. same n (tail_there page pages (page ∷ pages) refl n there)) leads.4),
)

bytes_move : (usable : ℕ) (shown shown_then : Shown) (list : List ℕ) (size : ℕ) → ((n : ℕ) → 1 ≤ times list n → shown_then.link n ≡ shown.link n)
    → chain_bytes usable shown_then list size ≡ chain_bytes usable shown list size
bytes_move usable shown shown_then [] size same = refl
bytes_move usable shown shown_then (page ∷ pages) size same =
    ap (λ link. take size link.bytes ++ chain_bytes usable shown_then pages (size - (usable - 4))) (same page (head_there page pages (page ∷ pages) refl))
    ∙ ap (λ (l : List ℕ). take size (shown.link page).bytes ++ l)
    (bytes_move usable shown shown_then pages (size - (usable - 4)) (λ n there. same n (tail_there page pages (page ∷ pages) refl n there)))

-- what leads to no page with no bytes left is a chain
leads_chain : (usable last : ℕ) (shown : Shown) (first size : ℕ) (list : List ℕ) (next left : ℕ) → next ≡ 0 → left ≡ 0
    → Leads usable last shown first size list next left → IsChain usable last shown first size list
leads_chain usable last shown first size [] next left no_next none leads = (sym leads.1 ∙ none, sym leads.0 ∙ no_next)
leads_chain usable last shown first size (page ∷ pages) next left no_next none leads =
    (leads.0, leads.1, leads.2, leads.3, leads_chain usable last shown (shown.link page).next (size - (usable - 4)) pages next left no_next none leads.4)

-- Pages were made, of which these were put, and over each world that is still told whose freelist was in order they lead on, with the bytes up to the rest.
pub record PutSoFar {P : Type 0} (pages : Ghosts P) (old now : P) (bytes : List ℕ) (first : ℕ) (made done : List ℕ) (next : ℕ) (rest : List ℕ) : Type 0 where
  pub held : (n : ℕ) → times done n ≤ times made n
  pub range : Each (λ page. (2 ≤ page) × (page ≤ pages.last_page now)) made
  pub makes : (world : View) → pages.tells now world → pages.neat old world → MakesPages pages made old now world
  pub leads : (world : View) → pages.tells now world → pages.neat old world
      → Leads (pages.usable old) (pages.last_page now) (shown_by (pages.usable old) (pages.over now world)) first (length bytes) done next (length rest)
  pub bytes_are : (world : View) → pages.tells now world → pages.neat old world
      → bytes ≡ chain_bytes (pages.usable old) (shown_by (pages.usable old) (pages.over now world)) done (length bytes) ++ rest
  pub has : Each (λ page. pages.has now page ≡ true) done
  pub fits : pages.last_page old < pages.last_page now → pages.last_page now * pages.page_size old ≤ database_limit
  pub edits : Editing pages old now

pub put_none : {P : Type 0} (pages : Ghosts P) (old : P) (bytes : List ℕ) (first : ℕ) → pages.ready old → pages.follows old old
    → PutSoFar pages old old bytes first [] [] first bytes
put_none pages old bytes first ready follows = record {
  held = λ n. omega arith;
  range = tt;
  makes = λ world told neat. makes_none pages old world neat;
  leads = λ world told neat. (refl, refl);
  bytes_are = λ world told neat. refl;
  has = tt;
  fits = λ more. absurd (omega (arith, more));
  edits = (reading_same pages old ready follows).edits;
}

-- a page of those made is in use, and past page 1, so `fresh` leaves it
made_stays : {P : Type 0} (pages : Ghosts P) (old now then : P) (bytes : List ℕ) (first : ℕ) (made done : List ℕ) (page : ℕ) (rest : List ℕ) (world : View)
    → PutSoFar pages old now bytes first made done page rest → pages.tells now world → pages.neat old world
    → ((n : ℕ) → 1 < n → (pages.free now world n → ⊥) → pages.over then world n ≡ pages.over now world n)
    → (n : ℕ) → 1 ≤ times done n → pages.over then world n ≡ pages.over now world n
made_stays pages old now then bytes first made done page rest world so_far told neat each n there =
    let in_made : 1 ≤ times made n = omega (arith, there, so_far.held n) in
    let low = (each_there (λ page. (2 ≤ page) × (page ≤ pages.last_page now)) made n so_far.range in_made).0 in
    each n (omega (arith, low)) ((so_far.makes world told neat).taken n in_made)

-- one page more was made
pub made_more : {P : Type 0} (pages : Ghosts P) (old now then : P) (bytes : List ℕ) (first : ℕ) (made done : List ℕ) (page : ℕ) (rest : List ℕ) (next : ℕ)
    → GoesOn pages → HasMade pages now (Ok next) then → PutSoFar pages old now bytes first made done page rest
    → PutSoFar pages old then bytes first (made ++ next ∷ []) done page rest
made_more pages old now then bytes first made done page rest next on call so_far =
    let gives = call.made in
    let grows : pages.last_page now ≤ pages.last_page then = call.edits.last in
    let size : pages.page_size now ≡ pages.page_size old = so_far.edits.page_size in
    record {
      held = λ n. omega (arith, times-append made (next ∷ []) n, so_far.held n);
      range =
          each-append (λ (n : ℕ). (2 ≤ n) × (n ≤ pages.last_page then)) made (next ∷ [])
          (each_weaker (λ (n : ℕ). (2 ≤ n) × (n ≤ pages.last_page now)) (λ (n : ℕ). (2 ≤ n) × (n ≤ pages.last_page then)) made
          (λ n is. (is.0, omega (arith, is.1, grows))) so_far.range)
          ((omega (arith, gives.above), omega (arith, gives.last)), tt);
      makes = λ world told neat.
          let before = call.edits.narrows world told in
          let makes = so_far.makes world before neat in
          takes_more pages made old now then next world makes (gives.taken world told makes.neat) (call.changed world told makes.neat) (call.read world told makes.neat);
      leads = λ world told neat.
          let before = call.edits.narrows world told in
          let makes = so_far.makes world before neat in
          let usable = pages.usable old in
          let same = made_stays pages old now then bytes first made done page rest world so_far before neat (gives.taken world told makes.neat).each in
          leads_moves usable (pages.last_page now) (pages.last_page then) (shown_by usable (pages.over now world)) (shown_by usable (pages.over then world))
          first (length bytes) done page (length rest) grows (λ n there. ap (λ (b : List ℕ). link_in usable b) (same n there))
          (so_far.leads world before neat);
      bytes_are = λ world told neat.
          let before = call.edits.narrows world told in
          let makes = so_far.makes world before neat in
          let usable = pages.usable old in
          let same = made_stays pages old now then bytes first made done page rest world so_far before neat (gives.taken world told makes.neat).each in
          so_far.bytes_are world before neat
          ∙ ap (λ (l : List ℕ). l ++ rest) (sym (bytes_move usable (shown_by usable (pages.over now world)) (shown_by usable (pages.over then world)) done (length bytes)
          (λ n there. ap (link_in usable) (same n there))));
      has = each_weaker (λ (n : ℕ). pages.has now n ≡ true) (λ (n : ℕ). pages.has then n ≡ true) done (λ n has. call.edits.has n has) so_far.has;
      fits = λ more. elim (cases_lt (pages.last_page now) next) [
        | inl past ↦
            (let found = gives.fits past in
            let last : pages.last_page then ≡ next = omega (arith, past, gives.last) in
            rw (last, ← size) found.1)
        | inr within ↦
            (let last : pages.last_page then ≡ pages.last_page now = omega (arith, within, gives.last) in
            rw (last) (so_far.fits (omega (arith, more, last))))
      ];
      edits = editing_join pages old now then so_far.edits call.edits on;
    }

-- the page that comes next is one of those that were made, so it is in range
pub next_there : {P : Type 0} (pages : Ghosts P) (old now : P) (bytes : List ℕ) (first : ℕ) (made done : List ℕ) (page : ℕ) (rest : List ℕ)
    → ((n : ℕ) → times (done ++ page ∷ []) n ≤ times made n) → PutSoFar pages old now bytes first made done page rest
    → (1 ≤ page) × (page ≤ pages.last_page now)
next_there pages old now bytes first made done page rest held so_far =
    let found = each_there (λ (n : ℕ). (2 ≤ n) × (n ≤ pages.last_page now)) made page so_far.range (omega (arith, held page, end_here done page page refl)) in
    (omega (arith, found.0), found.1)

pub held_more : (pages : List ℕ) (page n : ℕ) → times pages n ≤ times (pages ++ page ∷ []) n
held_more pages page n = omega (arith, times-append pages (page ∷ []) n)

-- one page more was put
pub put_more : {P : Type 0} (pages : Ghosts P) (old now then : P) (bytes : List ℕ) (first : ℕ) (made done : List ℕ) (page : ℕ) (rest : List ℕ) (next : ℕ) (piece behind buf : List ℕ)
    → GoesOn pages → ((n : ℕ) → times (done ++ page ∷ []) n ≤ times made n) → 0 < length rest
    → u32_at buf 0 ≡ next → take (length piece) (drop 4 buf) ≡ piece → length piece ≡ min (length rest) (pages.usable old - 4) → rest ≡ piece ++ behind
    → HasPut pages now page buf (Ok tt) then → PutSoFar pages old now bytes first made done page rest
    → PutSoFar pages old then bytes first made (done ++ page ∷ []) next behind
put_more pages old now then bytes first made done page rest next piece behind buf on held some next_is piece_is size parts call so_far =
    let usable = pages.usable old in
    let there : 1 ≤ times made page = omega (arith, held page, end_here done page page refl) in
    let range = each_there (λ (n : ℕ). (2 ≤ n) × (n ≤ pages.last_page now)) made page so_far.range there in
    let high : page ≤ pages.last_page then = omega (arith, range.1, call.last) in
    let none_left : length behind ≡ length rest - (usable - 4) = omega (arith, ap length parts, length-append piece behind, size) in
    let apart : (world : View) → pages.tells now world → pages.neat old world → (n : ℕ) → 1 ≤ times done n → n ≡ page → ⊥ =
    λ world told neat n here same.
    omega (arith, held page, end_here done page page refl, (so_far.makes world told neat).once page, subst (λ (m : ℕ). 1 ≤ times done m) same here) in
    let others : (world : View) → pages.tells then world → pages.neat old world → (n : ℕ) → 1 ≤ times done n → pages.over then world n ≡ pages.over now world n =
    λ world told neat n here. (call.put world told).each n ∙ rw (ne_eqb n page (apart world (call.edits.narrows world told) neat n here)) refl in
    let here : (world : View) → pages.tells then world → pages.over then world page ≡ buf =
    λ world told. (call.put world told).each page ∙ rw (eq-eqb page page refl) refl in
    let moved : (world : View) → pages.tells then world → pages.neat old world
    → Leads usable (pages.last_page then) (shown_by usable (pages.over then world)) first (length bytes) done page (length rest) =
    λ world told neat.
    leads_moves usable (pages.last_page now) (pages.last_page then) (shown_by usable (pages.over now world)) (shown_by usable (pages.over then world))
    first (length bytes) done page (length rest) (omega (arith, call.last)) (λ n is. ap (link_in usable) (others world told neat n is))
    (so_far.leads world (call.edits.narrows world told) neat) in
    record {
      held = held;
      range = each_weaker (λ (n : ℕ). (2 ≤ n) × (n ≤ pages.last_page now)) (λ (n : ℕ). (2 ≤ n) × (n ≤ pages.last_page then)) made
          (λ n is. (is.0, omega (arith, is.1, call.last))) so_far.range;
      makes = λ world told neat.
          puts_made pages made old now then page buf world (so_far.makes world (call.edits.narrows world told) neat) (omega (arith, range.0)) there
          (call.put world told) call.has call.reads;
      leads = λ world told neat.
          let shown = shown_by usable (pages.over then world) in
          let one = lead_more usable (pages.last_page then) shown first (length bytes) done page (length rest) some range.0 high (moved world told neat) in
          let names : (shown.link page).next ≡ next = ap (λ (b : List ℕ). u32_at b 0) (here world told) ∙ next_is in
          subst (λ (n : ℕ). Leads usable (pages.last_page then) shown first (length bytes) (done ++ page ∷ []) n (length behind)) names
          (subst (λ (n : ℕ). Leads usable (pages.last_page then) shown first (length bytes) (done ++ page ∷ []) (shown.link page).next n) (sym none_left) one);
      bytes_are = λ world told neat.
          let shown = shown_by usable (pages.over then world) in
          let shown_now = shown_by usable (pages.over now world) in
          let content : take (length rest) (shown.link page).bytes ≡ piece =
          ap (λ (b : List ℕ). take (length rest) (take (usable - 4) (drop 4 b))) (here world told) ∙ take_least (length rest) (usable - 4) (drop 4 buf)
          ∙ ap (λ (n : ℕ). take n (drop 4 buf)) (sym size) ∙ piece_is in
          let same : chain_bytes usable shown done (length bytes) ≡ chain_bytes usable shown_now done (length bytes) =
          bytes_move usable shown_now shown done (length bytes) (λ n is. ap (link_in usable) (others world told neat n is)) in
          let more : chain_bytes usable shown (done ++ page ∷ []) (length bytes) ≡ chain_bytes usable shown_now done (length bytes) ++ piece =
          bytes_more usable (pages.last_page then) shown first (length bytes) done page (length rest) (moved world told neat)
          ∙ ap (λ (l : List ℕ). chain_bytes usable shown done (length bytes) ++ l) content ∙ ap (λ (l : List ℕ). l ++ piece) same in
          so_far.bytes_are world (call.edits.narrows world told) neat
          ∙ ap (λ (l : List ℕ). chain_bytes usable shown_now done (length bytes) ++ l) parts
          ∙ sym (append_assoc (chain_bytes usable shown_now done (length bytes)) piece behind)
          ∙ ap (λ (l : List ℕ). l ++ behind) (sym more);
      has =
          each-append (λ (n : ℕ). pages.has then n ≡ true) done (page ∷ [])
          (each_weaker (λ (n : ℕ). pages.has now n ≡ true) (λ (n : ℕ). pages.has then n ≡ true) done (λ n has. call.edits.has n has) so_far.has)
          (call.has page ∙ was_put (pages.has now page) page, tt);
      fits = λ more. rw (call.last) (so_far.fits (omega (arith, more, call.last)));
      edits = editing_join pages old now then so_far.edits call.edits on;
    }
  where
    was_put : (had : Bool) (n : ℕ) → (had || (n == n)) ≡ true
    was_put true n = refl
    was_put false n = eq-eqb n n refl

-- how writing ends well
pub put_all : {P : Type 0} (pages : Ghosts P) (old now : P) (bytes : List ℕ) (first : ℕ) (list : List ℕ) → PutSoFar pages old now bytes first list list 0 []
    → HasWrittenChain pages old bytes (Ok first) now
put_all pages old now bytes first list so_far = record {
  list = list;
  range = so_far.range;
  makes = so_far.makes;
  fits = so_far.fits;
  written = record {
    chain = λ world told neat.
        subst (λ (u : ℕ). IsChain (pages.usable old) (pages.last_page now) (shown_by u (pages.over now world)) first (length bytes) list) (sym so_far.edits.usable)
        (leads_chain (pages.usable old) (pages.last_page now) (shown_by (pages.usable old) (pages.over now world)) first (length bytes) list 0 0 refl refl (so_far.leads world told neat));
    holds = λ world told neat.
        subst (λ (u : ℕ). chain_bytes (pages.usable old) (shown_by u (pages.over now world)) list (length bytes) ≡ bytes) (sym so_far.edits.usable)
        (sym (so_far.bytes_are world told neat ∙ append-nil (chain_bytes (pages.usable old) (shown_by (pages.usable old) (pages.over now world)) list (length bytes))));
    has = so_far.has;
  };
  stopped = tt;
  edits = so_far.edits;
}

-- Why `fresh` gave out no page, said since an earlier moment.
fresh_since : (first before after last_now last size_now size : ℕ) (why : FetchFault) → first ≤ before → last_now ≡ last → size_now ≡ size
    → BarsFresh last_now size_now before after why → BarsFresh last size first after why
fresh_since first before after last_now last size_now size fault.Disk least same_last same_size rose =
    record { later = omega (arith, least, rose.later); counted = by_count rose.counted }
  where
    by_count : (before < after) ⊎ (after ≡ last_count) → (first < after) ⊎ (after ≡ last_count)
    by_count (inl more) = inl (omega (arith, least, more))
    by_count (inr last) = inr last
fresh_since first before after last_now last size_now size (fault.Corrupt page) least same_last same_size bars = (bars.0, omega (arith, bars.1, same_last))
fresh_since first before after last_now last size_now size (fault.Size pages) least same_last same_size bars =
    (omega (arith, bars.0, same_last), subst (λ (s : ℕ). database_limit < pages * s) same_size bars.1)
fresh_since first before after last_now last size_now size fault.Memory least same_last same_size bars = tt

-- a fault from outside bars `fresh`, and no freelist in order
outside_fresh : (last size before after : ℕ) (why : FetchFault) → IsFromOutside before after why → BarsFresh last size before after why
outside_fresh last size before after fault.Disk rose = rose
outside_fresh last size before after (fault.Corrupt page) never = absurd never
outside_fresh last size before after (fault.Size pages) never = absurd never
outside_fresh last size before after fault.Memory is = tt

outside_neat : (spare : Type 0) (before after : ℕ) (why : FetchFault) → IsFromOutside before after why → BarsNeat spare why
outside_neat spare before after fault.Disk rose = tt
outside_neat spare before after (fault.Corrupt page) never = absurd never
outside_neat spare before after (fault.Size pages) never = absurd never
outside_neat spare before after fault.Memory is = tt

less_neat : (spare spare_then : Type 0) (why : FetchFault) → (spare_then → spare) → BarsNeat spare why → BarsNeat spare_then why
less_neat spare spare_then fault.Disk less bars = tt
less_neat spare spare_then (fault.Corrupt page) less bars = bars
less_neat spare spare_then (fault.Size pages) less bars = λ is. bars (less is)
less_neat spare spare_then fault.Memory less bars = tt

-- no further page was made
pub fresh_bars : {P : Type 0} (pages : Ghosts P) (old now then : P) (bytes : List ℕ) (first : ℕ) (made done : List ℕ) (page : ℕ) (rest : List ℕ) (why : FetchFault)
    → GoesOn pages → HasMade pages now (Err why) then → PutSoFar pages old now bytes first made done page rest
    → HasWrittenChain pages old bytes (Err why) then
fresh_bars pages old now then bytes first made done page rest why on call so_far =
    let bars = call.barred in
    record {
      list = made;
      range = each_weaker (λ (n : ℕ). (2 ≤ n) × (n ≤ pages.last_page now)) (λ (n : ℕ). (2 ≤ n) × (n ≤ pages.last_page then)) made
          (λ n is. (is.0, omega (arith, is.1, bars.last))) so_far.range;
      makes = λ world told neat.
          let makes = so_far.makes world (call.edits.narrows world told) neat in
          makes_kept pages made old now then world makes (bars.each world told) (call.changed world told makes.neat) (call.read world told makes.neat);
      fits = λ more. rw (bars.last) (so_far.fits (omega (arith, more, bars.last)));
      written = tt;
      stopped = record {
        cause = fresh_since (pages.faults old) (pages.faults now) (pages.faults then) (pages.last_page now) (pages.last_page then) (pages.page_size now) (pages.page_size old) why
            so_far.edits.faults (sym bars.last) so_far.edits.page_size bars.cause;
        exact = λ world told neat.
            let makes = so_far.makes world (call.edits.narrows world told) neat in
            less_neat (pages.spare now world) (pages.spare then world) why (bars.each world told).list.no_more_spare (bars.exact world told makes.neat);
      };
      edits = editing_join pages old now then so_far.edits call.edits on;
    }

-- none was put
pub put_bars : {P : Type 0} (pages : Ghosts P) (old now then : P) (bytes : List ℕ) (first : ℕ) (made done : List ℕ) (page : ℕ) (rest : List ℕ) (at : ℕ) (buf : List ℕ) (why : FetchFault)
    → GoesOn pages → HasPut pages now at buf (Err why) then → PutSoFar pages old now bytes first made done page rest
    → HasWrittenChain pages old bytes (Err why) then
put_bars pages old now then bytes first made done page rest at buf why on call so_far =
    let kept = call.refused in
    record {
      list = made;
      range = each_weaker (λ (n : ℕ). (2 ≤ n) × (n ≤ pages.last_page now)) (λ (n : ℕ). (2 ≤ n) × (n ≤ pages.last_page then)) made
          (λ n is. (is.0, omega (arith, is.1, call.last))) so_far.range;
      makes = λ world told neat.
          makes_kept pages made old now then world (so_far.makes world (call.edits.narrows world told) neat) (kept.each world told)
          (λ n has. inl (sym (kept.has n) ∙ has)) (λ n read. inl (subst (λ (l : List ℕ). Contains l n) call.reads read));
      fits = λ more. rw (call.last) (so_far.fits (omega (arith, more, call.last)));
      written = tt;
      stopped = record {
        cause = fresh_since (pages.faults old) (pages.faults now) (pages.faults then) (pages.last_page then) (pages.last_page then) (pages.page_size old) (pages.page_size old) why
            so_far.edits.faults refl refl (outside_fresh (pages.last_page then) (pages.page_size old) (pages.faults now) (pages.faults then) why call.cause);
        exact = λ world told neat. outside_neat (pages.spare then world) (pages.faults now) (pages.faults then) why call.cause;
      };
      edits = editing_join pages old now then so_far.edits call.edits on;
    }

-- memory ran out before anything was done
pub written_not : {P : Type 0} (pages : Ghosts P) (old : P) (bytes : List ℕ) → pages.ready old → pages.follows old old
    → HasWrittenChain pages old bytes (Err fault.Memory) old
written_not pages old bytes ready follows =
    let so_far = put_none pages old bytes 0 ready follows in
    record {
      list = [];
      range = tt;
      makes = so_far.makes;
      fits = so_far.fits;
      written = tt;
      stopped = record { cause = tt; exact = λ world told neat. tt };
      edits = so_far.edits;
    }

-- without bytes nothing is done
pub written_none : {P : Type 0} (pages : Ghosts P) (old : P) (bytes : List ℕ) → length bytes ≡ 0 → pages.ready old → pages.follows old old
    → HasWrittenChain pages old bytes (Ok 0) old
written_none pages old [] none ready follows = put_all pages old old [] 0 [] (put_none pages old [] 0 ready follows)
written_none pages old (byte ∷ bytes) none ready follows = absurd (omega (arith, none))
