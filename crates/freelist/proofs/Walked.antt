-- A freelist that is walked over pages, as far as it was read.
use Rattle.std.proofs.Common.{◌≡◌, ℕ, ◌+◌, ◌-◌, ◌<◌, ◌≤◌, List, [], ◌∷◌, ◌++◌, Ok, Err, Bool, true, false, refl, sym, subst, ap, ◌∙◌, arith, inl, inr, length, append_assoc, append-nil, length-append}
use Rattle.std.specs.Prelude.{◌⊎◌}
use Rattle.disk_face.specs.Faults.{last_count}
use Rattle.page_spec.specs.Bytes.{u32_at}
use Rattle.page_spec.specs.View.{View}
use Rattle.engine_spec.specs.declared.commits.FetchFault.{FetchFault}
use Rattle.engine_spec.specs.declared.commits.FetchFault.TheVariants as fault
use Rattle.page_face.specs.declared.pages_tells.PagesTells.{Ghosts}
use Rattle.page_face.specs.Pages.{ReadsAtMost, IsFromOutside}
use Rattle.page_face.specs.PageCalls.{HasRead}
use Rattle.tree_spec.specs.Freelist.{numbers_at, Trunk, trunk_in, IsTrunk, AreTrunks, held_by, IsFreelist}
use Rattle.tree_spec.proofs.Freelists.{length-numbers_at, each_there, trunks_more, trunks_rest, held_by-append}
use Rattle.overflow.specs.Following.{last_met, all_read}
use Rattle.overflow.proofs.Chains.{met_more, read_step}
use Rattle.freelist.specs.Walking.{Misleads, IsBroken, IsBrokenOver, BarsWalk, HasWalked, GivesFreelist, ThereIsFreelist}

-- what is said of two numbers, of equal ones
pub of_equal : (P : ℕ → ℕ → Type 0) (a b c d : ℕ) → a ≡ c → b ≡ d → P a b → P c d
of_equal P a b c d first second is = subst (λ (n : ℕ). P n d) first (subst (λ (n : ℕ). P a n) second is)

-- The trunks done were read, over each world that is still told they lead to here, and what they hold was appended.
pub record SoFar {P : Type 0} (pages : Ghosts P) (old now : P) (first count : ℕ) (done : List ℕ) (met next left : ℕ) (before after : List ℕ) : Type 0 where
  pub read : pages.reads now ≡ all_read (pages.has old) (pages.reads old) done
  pub met_is : met ≡ last_met first done
  pub follow : (world : View) → pages.tells now world → AreTrunks (pages.usable old) (pages.last_page old) (pages.over old world) first done next
  pub counted : (world : View) → pages.tells now world → count ≡ length (held_by (pages.over old world) done) + left
  pub held : (world : View) → pages.tells now world → after ≡ before ++ held_by (pages.over old world) done

pub nothing_yet : {P : Type 0} (pages : Ghosts P) (old : P) (first count : ℕ) (before : List ℕ) → SoFar pages old old first count [] first first count before before
nothing_yet pages old first count before = record {
  read = refl;
  met_is = refl;
  follow = λ world told. refl;
  counted = λ world told. omega arith;
  held = λ world told. sym (append-nil before);
}

-- The page at the next number was fetched into a buffer, which new has the bytes that it had at first.
pub record Fetched {P : Type 0} (pages : Ghosts P) (old new : P) (done : List ℕ) (page : ℕ) (buf : List ℕ) : Type 0 where
  pub read : pages.reads new ≡ all_read (pages.has old) (pages.reads old) (done ++ page ∷ [])
  pub bytes : (world : View) → pages.tells new world → buf ≡ pages.over old world page

pub fetched : {P : Type 0} (pages : Ghosts P) (old now new : P) (first count : ℕ) (done : List ℕ) (met page left : ℕ) (before after buf : List ℕ)
    → ReadsAtMost pages old now → HasRead pages now page (Ok tt) buf new → SoFar pages old now first count done met page left before after
    → Fetched pages old new done page buf
fetched pages old now new first count done met page left before after buf reading read so_far = record {
  read = read_step (pages.has old) (pages.has now) (pages.reads old) (pages.reads now) (pages.reads new) done page (reading.has page) so_far.read read.read;
  bytes = λ world told. read.page_is world told ∙ (reading.each world (read.reading.edits.narrows world told)).each page;
}

-- the page is a whole trunk, and what it holds was appended
pub one_more : {P : Type 0} (pages : Ghosts P) (old now new : P) (first count : ℕ) (done : List ℕ) (met page left next left_then : ℕ) (before after after_then buf : List ℕ)
    → ((world : View) → pages.tells new world → pages.tells now world)
    → 2 ≤ page → page ≤ pages.last_page old → IsTrunk (pages.usable old) (pages.last_page old) (trunk_in buf) → u32_at buf 4 < left → left_then ≡ left - (u32_at buf 4 + 1) → next ≡ u32_at buf 0
    → after_then ≡ after ++ page ∷ numbers_at buf 8 (u32_at buf 4)
    → Fetched pages old new done page buf → SoFar pages old now first count done met page left before after
    → SoFar pages old new first count (done ++ page ∷ []) page next left_then before after_then
one_more pages old now new first count done met page left next left_then before after after_then buf narrows low high trunk less left_is next_is after_is fetched so_far = record {
  read = fetched.read;
  met_is = sym (met_more first done page);
  follow = λ world told.
      let same = fetched.bytes world told in
      let view = pages.over old world in
      subst (λ (n : ℕ). AreTrunks (pages.usable old) (pages.last_page old) view first (done ++ page ∷ []) n) (ap (λ (bytes : List ℕ). u32_at bytes 0) (sym same) ∙ sym next_is)
      (trunks_more (pages.usable old) (pages.last_page old) view first done page low high
      (subst (λ (bytes : List ℕ). IsTrunk (pages.usable old) (pages.last_page old) (trunk_in bytes)) same trunk) (so_far.follow world (narrows world told)));
  counted = λ world told.
      let view = pages.over old world in
      let more : length (held_by view (done ++ page ∷ [])) ≡ length (held_by view done) + (u32_at buf 4 + 1) =
      ap length (held_by-append view done (page ∷ [])) ∙ length-append (held_by view done) (held_by view (page ∷ []))
      ∙ ap (λ (l : List ℕ). length (held_by view done) + length (page ∷ l)) (append-nil (trunk_in (view page)).leaves)
      ∙ ap (λ (bytes : List ℕ). length (held_by view done) + length (page ∷ (trunk_in bytes).leaves)) (sym (fetched.bytes world told))
      ∙ (let len = length-numbers_at buf 8 (u32_at buf 4) in omega arith) in
      omega (arith, so_far.counted world (narrows world told), more, less, left_is);
  held = λ world told.
      let view = pages.over old world in
      after_is
      ∙ ap (λ (bytes : List ℕ). after ++ page ∷ (trunk_in bytes).leaves) (fetched.bytes world told)
      ∙ ap (λ (l : List ℕ). l ++ page ∷ (trunk_in (view page)).leaves) (so_far.held world (narrows world told))
      ∙ append_assoc before (held_by view done) (page ∷ (trunk_in (view page)).leaves)
      ∙ ap (λ (l : List ℕ). before ++ (held_by view done ++ page ∷ l)) (sym (append-nil (trunk_in (view page)).leaves))
      ∙ ap (λ (l : List ℕ). before ++ l) (sym (held_by-append view done (page ∷ [])));
}

-- a fault from outside, since an earlier moment, bars a walk
pub outside_bars : (last first before after met next left : ℕ) (looked : Bool) (broken : Type 0) (why : FetchFault) → first ≤ before → IsFromOutside before after why
    → BarsWalk last first after met next left looked broken why
outside_bars last first before after met next left looked broken fault.Disk least rose = record { later = omega (arith, least, rose.later); counted = by_count rose.counted }
  where
    by_count : (before < after) ⊎ (after ≡ last_count) → (first < after) ⊎ (after ≡ last_count)
    by_count (inl more) = inl (omega (arith, least, more))
    by_count (inr last) = inr last
outside_bars last first before after met next left looked broken (fault.Corrupt page) least never = absurd never
outside_bars last first before after met next left looked broken (fault.Size pages) least never = absurd never
outside_bars last first before after met next left looked broken fault.Memory least is = tt

-- how a walk ends at a fault, where the next page wasn't looked at, and where it was
pub stops : {P : Type 0} (pages : Ghosts P) (old now new : P) (first count : ℕ) (done : List ℕ) (met next left : ℕ) (before after after_then : List ℕ) (why : FetchFault)
    → ((world : View) → pages.tells new world → pages.tells now world) → pages.reads new ≡ pages.reads now
    → SoFar pages old now first count done met next left before after
    → BarsWalk (pages.last_page old) (pages.faults old) (pages.faults new) (last_met first done) next left false (IsBrokenOver pages old left next new) why
    → HasWalked pages old first count before (Err why) after_then new
stops pages old now new first count done met next left before after after_then why narrows same so_far bars = record {
  trunks = done;
  next = next;
  left = left;
  looked = false;
  read = same ∙ so_far.read;
  range = λ never. absurd (cc (never));
  follow = λ world told. so_far.follow world (narrows world told);
  counted = λ world told. so_far.counted world (narrows world told);
  whole = tt;
  held = tt;
  cause = bars;
}

pub stops_at : {P : Type 0} (pages : Ghosts P) (old now new : P) (first count : ℕ) (done : List ℕ) (met next left : ℕ) (before after after_then buf : List ℕ) (why : FetchFault)
    → ((world : View) → pages.tells new world → pages.tells now world) → Fetched pages old new done next buf
    → SoFar pages old now first count done met next left before after → 0 < left → 2 ≤ next → next ≤ pages.last_page old
    → BarsWalk (pages.last_page old) (pages.faults old) (pages.faults new) (last_met first done) next left true (IsBrokenOver pages old left next new) why
    → HasWalked pages old first count before (Err why) after_then new
stops_at pages old now new first count done met next left before after after_then buf why narrows fetched so_far some low high bars = record {
  trunks = done;
  next = next;
  left = left;
  looked = true;
  read = fetched.read;
  range = λ is. (some, low, high);
  follow = λ world told. so_far.follow world (narrows world told);
  counted = λ world told. so_far.counted world (narrows world told);
  whole = tt;
  held = tt;
  cause = bars;
}

-- a page that was fetched into a buffer is broken where the buffer is
pub broken_over : {P : Type 0} (pages : Ghosts P) (old new : P) (done : List ℕ) (left page : ℕ) (buf : List ℕ) → Fetched pages old new done page buf
    → IsBroken (pages.usable old) (pages.last_page old) left (trunk_in buf) → IsBrokenOver pages old left page new
broken_over pages old new done left page buf fetched broken = λ world told.
    subst (λ (bytes : List ℕ). IsBroken (pages.usable old) (pages.last_page old) left (trunk_in bytes)) (fetched.bytes world told) broken

-- what is said of the trunks that were met, said of a list
pub gives_freelist : {P : Type 0} (pages : Ghosts P) (old : P) (first count : ℕ) (before more after : List ℕ) (new : P)
    → after ≡ before ++ more → HasWalked pages old first count before (Ok tt) after new → GivesFreelist pages old first count before after new
gives_freelist pages old first count before more after new grown walked = record {
  list = more;
  appended = grown;
  is_list = λ world told.
      let view = pages.over old world in
      let held : more ≡ held_by view walked.trunks = append_left before more (held_by view walked.trunks) (sym grown ∙ walked.held world told) in
      record {
        trunks = walked.trunks;
        follow = subst (λ (n : ℕ). AreTrunks (pages.usable old) (pages.last_page old) view first walked.trunks n) walked.whole.1 (walked.follow world told);
        held = held;
        counted = omega (arith, walked.counted world told, walked.whole.0, ap length held);
      };
}
  where
    append_left : (xs a b : List ℕ) → xs ++ a ≡ xs ++ b → a ≡ b
    append_left [] a b same = same
    append_left (x ∷ xs) a b same = append_left xs a b (cc)

-- a trunk of a list is not broken
not_broken : (usable last left more : ℕ) (trunk : Trunk) → IsTrunk usable last trunk → left ≡ length trunk.leaves + 1 + more → IsBroken usable last left trunk → ⊥
not_broken usable last left more trunk is counted (inl (inl many)) = omega (arith, is.room, many)
not_broken usable last left more trunk is counted (inl (inr many)) = omega (arith, counted, many)
not_broken usable last left more trunk is counted (inr (leaf, there, out)) =
    let inside = each_there (λ page. (2 ≤ page) × (page ≤ last)) trunk.leaves leaf is.range there in
    elim out [ inl low ↦ omega (arith, low, inside.0) | inr high ↦ omega (arith, high, inside.1) ]

-- what is to come of a list, behind trunks of it
to_come : (usable last : ℕ) (view : View) (first count : ℕ) (done : List ℕ) (next left : ℕ) (list : List ℕ) → AreTrunks usable last view first done next
    → count ≡ length (held_by view done) + left → IsFreelist usable last view first count list
    → (rest : List ℕ) × AreTrunks usable last view next rest 0 × (left ≡ length (held_by view rest))
to_come usable last view first count done next left list follow counted is =
    let found = trunks_rest usable last last view first done next is.trunks 0 (omega arith) follow is.follow in
    let split = length-append (held_by view done) (held_by view found.0) in
    let whole : length list ≡ length (held_by view done ++ held_by view found.0) =
    ap length (is.held ∙ ap (λ (l : List ℕ). held_by view l) found.1 ∙ held_by-append view done found.0) in
    (found.0, found.2, omega (arith, is.counted, counted, whole, split))

-- no list goes on where the next number doesn't fit, nor with a broken trunk
pub no_list : (usable last : ℕ) (view : View) (first count : ℕ) (done : List ℕ) (next left : ℕ) (list : List ℕ) → AreTrunks usable last view first done next
    → count ≡ length (held_by view done) + left → Misleads last left next → IsFreelist usable last view first count list → ⊥
no_list usable last view first count done next left list follow counted wrong is =
    let found = to_come usable last view first count done next left list follow counted is in
    by_rest found.0 found.1 found.2 wrong
  where
    by_rest : (rest : List ℕ) → AreTrunks usable last view next rest 0 → left ≡ length (held_by view rest) → Misleads last left next → ⊥
    by_rest [] comes many (inl (some, out)) = omega (arith, some, many)
    by_rest [] comes many (inr (none, more)) = omega (arith, comes, more)
    by_rest (p ∷ ps) comes many (inl (some, inl low)) = omega (arith, low, comes.0, comes.1)
    by_rest (p ∷ ps) comes many (inl (some, inr high)) = omega (arith, high, comes.0, comes.2)
    by_rest (p ∷ ps) comes many (inr (none, more)) = omega (arith, none, many)

pub no_broken : (usable last : ℕ) (view : View) (first count : ℕ) (done : List ℕ) (next left : ℕ) (list : List ℕ) → AreTrunks usable last view first done next
    → count ≡ length (held_by view done) + left → 0 < left → IsBroken usable last left (trunk_in (view next)) → IsFreelist usable last view first count list → ⊥
no_broken usable last view first count done next left list follow counted some broken is =
    let found = to_come usable last view first count done next left list follow counted is in
    by_rest found.0 found.1 found.2
  where
    by_rest : (rest : List ℕ) → AreTrunks usable last view next rest 0 → left ≡ length (held_by view rest) → ⊥
    by_rest [] comes many = omega (arith, some, many)
    by_rest (p ∷ ps) comes many =
        let trunk : IsTrunk usable last (trunk_in (view next)) = subst (λ (n : ℕ). IsTrunk usable last (trunk_in (view n))) comes.0 comes.3 in
        let here : left ≡ length ((trunk_in (view next)).leaves ++ held_by view ps) + 1 =
        (let e = ap (λ (n : ℕ). length ((trunk_in (view n)).leaves ++ held_by view ps)) comes.0 in omega (arith, many, e)) in
        let split = length-append (trunk_in (view next)).leaves (held_by view ps) in
        not_broken usable last left (length (held_by view ps)) (trunk_in (view next)) trunk (omega (arith, here, split)) broken

pub bars_none : {P : Type 0} (pages : Ghosts P) (old : P) (first count : ℕ) (before after : List ℕ) (new : P) (why : FetchFault)
    → HasWalked pages old first count before (Err why) after new → ThereIsFreelist pages old first count new
    → IsFromOutside (pages.faults old) (pages.faults new) why
bars_none pages old first count before after new fault.Disk walked there = walked.cause
bars_none pages old first count before after new (fault.Corrupt page) walked there = absurd (by_looked walked.looked walked.range walked.cause)
  where
    by_looked : (looked : Bool) → (looked ≡ true → (0 < walked.left) × (2 ≤ walked.next) × (walked.next ≤ pages.last_page old))
        → BarsWalk (pages.last_page old) (pages.faults old) (pages.faults new) (last_met first walked.trunks) walked.next walked.left looked
        (IsBrokenOver pages old walked.left walked.next new) (fault.Corrupt page) → ⊥
    by_looked true range cause =
        no_broken (pages.usable old) (pages.last_page old) (pages.over old there.world) first count walked.trunks walked.next walked.left there.list
        (walked.follow there.world there.told) (walked.counted there.world there.told) (range refl).0 (cause.1 there.world there.told) there.is_list
    by_looked false range cause =
        no_list (pages.usable old) (pages.last_page old) (pages.over old there.world) first count walked.trunks walked.next walked.left there.list
        (walked.follow there.world there.told) (walked.counted there.world there.told) cause.1 there.is_list
bars_none pages old first count before after new (fault.Size n) walked there = absurd walked.cause
bars_none pages old first count before after new fault.Memory walked there = tt
