-- A chain that is followed over pages, as far as it was read.
use Rattle.std.proofs.Common.{◌≡◌, ℕ, ◌-◌, ◌<◌, ◌≤◌, List, [], ◌∷◌, ◌++◌, Ok, Err, refl, sym, ap, ◌∙◌, arith, inl, inr, take, drop, min, append_assoc, append-nil}
use Rattle.std.specs.Prelude.{◌⊎◌}
use Rattle.disk_face.specs.Faults.{last_count}
use Rattle.page_spec.specs.Bytes.{u32_at}
use Rattle.page_spec.specs.View.{View}
use Rattle.page_face.specs.declared.pages_tells.PagesTells.{Ghosts}
use Rattle.page_face.specs.Pages.{ReadsAtMost, IsFromOutside, pages_read}
use Rattle.engine_spec.specs.declared.commits.FetchFault.{FetchFault}
use Rattle.engine_spec.specs.declared.commits.FetchFault.TheVariants as fault
use Rattle.tree_spec.specs.Chains.{chain_bytes}
use Rattle.overflow.specs.Following.{Leads, last_met, all_read, shown_over, Bars, HasFollowed, GivesChain, ThereIsChain}
use Rattle.overflow.proofs.Chains.{lead_more, bytes_more, met_more, read_step, take_least, whole_chain, no_chain}

-- The pages done were read, and over each world that is still told they lead to here, and their bytes were appended.
pub record SoFar {P : Type 0} (pages : Ghosts P) (old now : P) (first size : ℕ) (done : List ℕ) (met next left : ℕ) (before after : List ℕ) : Type 0 where
  pub read : pages.reads now ≡ all_read (pages.has old) (pages.reads old) done
  pub met_is : met ≡ last_met first done
  pub leads : (world : View) → pages.tells now world → Leads (pages.usable old) (pages.last_page old) (shown_over pages old world) first size done next left
  pub bytes : (world : View) → pages.tells now world → after ≡ before ++ chain_bytes (pages.usable old) (shown_over pages old world) done size

pub nothing_yet : {P : Type 0} (pages : Ghosts P) (old : P) (first size : ℕ) (before : List ℕ) → SoFar pages old old first size [] first first size before before
nothing_yet pages old first size before = record {
  read = refl;
  met_is = refl;
  leads = λ world told. (refl, refl);
  bytes = λ world told. sym (append-nil before);
}

-- a page was fetched into a buffer, and its bytes were appended
pub one_more : {P : Type 0} (pages : Ghosts P) (old now then : P) (first size : ℕ) (done : List ℕ) (met page left count next_then left_then : ℕ)
    (before after after_then buf : List ℕ)
    → 0 < left → 2 ≤ page → page ≤ pages.last_page old → ReadsAtMost pages old now → ReadsAtMost pages now then
    → pages.reads then ≡ pages_read pages now page
    → ((world : View) → pages.tells then world → buf ≡ pages.over now world page)
    → next_then ≡ u32_at buf 0 → count ≡ min left (pages.usable old - 4) → left_then ≡ left - count
    → after_then ≡ after ++ take count (drop 4 buf)
    → SoFar pages old now first size done met page left before after
    → SoFar pages old then first size (done ++ page ∷ []) page next_then left_then before after_then
one_more pages old now then first size done met page left count next_then left_then before after after_then buf some low high reading more read page_is next_is count_is left_is after_is so_far = record {
  read = read_step (pages.has old) (pages.has now) (pages.reads old) (pages.reads now) (pages.reads then) done page (reading.has page) so_far.read read;
  met_is = sym (met_more first done page);
  leads = λ world told.
      let before_told = more.edits.narrows world told in
      let same : buf ≡ pages.over old world page = page_is world told ∙ (reading.each world before_told).each page in
      let next : next_then ≡ u32_at (pages.over old world page) 0 = next_is ∙ ap (λ (bytes : List ℕ). u32_at bytes 0) same in
      let less : left_then ≡ left - (pages.usable old - 4) = omega (arith, left_is, count_is) in
      rw (next, less) (lead_more (pages.usable old) (pages.last_page old) (shown_over pages old world) first size done page left some low high (so_far.leads world before_told));
  bytes = λ world told.
      let before_told = more.edits.narrows world told in
      let same : buf ≡ pages.over old world page = page_is world told ∙ (reading.each world before_told).each page in
      let usable = pages.usable old in
      let shown = shown_over pages old world in
      let piece : take count (drop 4 buf) ≡ take left (shown.link page).bytes =
      ap (λ (n : ℕ). take n (drop 4 buf)) count_is ∙ ap (λ (bytes : List ℕ). take (min left (usable - 4)) (drop 4 bytes)) same
      ∙ sym (take_least left (usable - 4) (drop 4 (pages.over old world page))) in
      after_is ∙ ap (λ (l : List ℕ). after ++ l) piece
      ∙ ap (λ (l : List ℕ). l ++ take left (shown.link page).bytes) (so_far.bytes world before_told)
      ∙ append_assoc before (chain_bytes usable shown done size) (take left (shown.link page).bytes)
      ∙ ap (λ (l : List ℕ). before ++ l) (sym (bytes_more usable (pages.last_page old) shown first size done page left (so_far.leads world before_told)));
}

-- a call that read nothing more
pub still : {P : Type 0} (pages : Ghosts P) (old now then : P) (first size : ℕ) (done : List ℕ) (met next left : ℕ) (before after : List ℕ)
    → ReadsAtMost pages now then → pages.reads then ≡ pages.reads now → SoFar pages old now first size done met next left before after
    → SoFar pages old then first size done met next left before after
still pages old now then first size done met next left before after more same so_far = record {
  read = same ∙ so_far.read;
  met_is = so_far.met_is;
  leads = λ world told. so_far.leads world (more.edits.narrows world told);
  bytes = λ world told. so_far.bytes world (more.edits.narrows world told);
}

-- a fault from outside, since an earlier moment, bars a chain
pub outside_bars : (last first before after met next left : ℕ) (why : FetchFault) → first ≤ before → IsFromOutside before after why → Bars last first after met next left why
outside_bars last first before after met next left fault.Disk least rose = record { later = omega (arith, least, rose.later); counted = by_count rose.counted }
  where
    by_count : (before < after) ⊎ (after ≡ last_count) → (first < after) ⊎ (after ≡ last_count)
    by_count (inl more) = inl (omega (arith, least, more))
    by_count (inr last) = inr last
outside_bars last first before after met next left (fault.Corrupt page) least never = absurd never
outside_bars last first before after met next left (fault.Size pages) least never = absurd never
outside_bars last first before after met next left fault.Memory least is = tt

-- how following ends: with a fault, or with no bytes left
pub stops : {P : Type 0} (pages : Ghosts P) (old now : P) (first size : ℕ) (done : List ℕ) (met next left : ℕ) (before after after_then : List ℕ) (why : FetchFault)
    → SoFar pages old now first size done met next left before after
    → Bars (pages.last_page old) (pages.faults old) (pages.faults now) (last_met first done) next left why
    → HasFollowed pages old first size before (Err why) after_then now
stops pages old now first size done met next left before after after_then why so_far bars = record {
  list = done;
  next = next;
  left = left;
  read = so_far.read;
  leads = so_far.leads;
  whole = tt;
  bytes = tt;
  cause = bars;
}

pub ends : {P : Type 0} (pages : Ghosts P) (old now : P) (first size : ℕ) (done : List ℕ) (met next left : ℕ) (before after : List ℕ)
    → left ≡ 0 → SoFar pages old now first size done met next left before after → HasFollowed pages old first size before (Ok tt) after now
ends pages old now first size done met next left before after none so_far = record {
  list = done;
  next = next;
  left = left;
  read = so_far.read;
  leads = so_far.leads;
  whole = none;
  bytes = so_far.bytes;
  cause = tt;
}

-- what is said of the pages that were met, said of a chain
pub gives_chain : {P : Type 0} (pages : Ghosts P) (old : P) (first size : ℕ) (before after : List ℕ) (new : P)
    → HasFollowed pages old first size before (Ok tt) after new → GivesChain pages old first size before after new
gives_chain pages old first size before after new followed = λ world told bound list chain.
    let usable = pages.usable old in
    let shown = shown_over pages old world in
    let same : list ≡ followed.list =
    whole_chain usable (pages.last_page old) bound shown first size followed.list followed.next followed.left list followed.whole (followed.leads world told) chain in
    followed.bytes world told ∙ ap (λ (l : List ℕ). before ++ chain_bytes usable shown l size) (sym same)

pub bars_none : {P : Type 0} (pages : Ghosts P) (old : P) (first size : ℕ) (before after : List ℕ) (new : P) (why : FetchFault)
    → HasFollowed pages old first size before (Err why) after new → ThereIsChain pages old first size new
    → IsFromOutside (pages.faults old) (pages.faults new) why
bars_none pages old first size before after new fault.Disk followed there = followed.cause
bars_none pages old first size before after new (fault.Corrupt page) followed there =
    absurd (no_chain (pages.usable old) (pages.last_page old) (shown_over pages old there.world) first size followed.list followed.next followed.left there.list
    followed.cause.1 followed.cause.2 (followed.leads there.world there.told) there.chain)
bars_none pages old first size before after new (fault.Size n) followed there = absurd followed.cause
bars_none pages old first size before after new fault.Memory followed there = tt
