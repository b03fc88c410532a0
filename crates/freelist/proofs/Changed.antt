-- A freelist that is changed over pages: what was read before a page is put, and what a call that ends says.
use Rattle.std.proofs.Common.{◌≡◌, ◌≢◌, ℕ, ◌+◌, ◌*◌, ◌-◌, ◌<◌, ◌≤◌, List, [], ◌∷◌, ◌++◌, Ok, Err, Some, None, Option, Bool, refl, sym, subst, ap, ◌∙◌, arith, inl, inr, length, add-one, ne_eqb, eq-eqb}
use Rattle.std.specs.Prelude.{◌⊎◌, ◌==◌, ◌||◌, if◌then◌else◌, Contains, Result, IfOk, IfErr, IfSome}
use Rattle.disk_face.specs.Faults.{last_count}
use Rattle.page_spec.specs.Bytes.{u32_at, DiffersOnlyWithin}
use Rattle.page_spec.specs.View.{View, view_with, freelist_fields}
use Rattle.engine_spec.specs.declared.commits.FetchFault.{FetchFault}
use Rattle.engine_spec.specs.declared.commits.FetchFault.TheVariants as fault
use Rattle.page_face.specs.declared.pages_tells.PagesTells.{Ghosts}
use Rattle.page_face.specs.Pages.{Editing, KeepsPages, PutsPage, ReadsAtMost, IsFromOutside, pages_read}
use Rattle.page_face.specs.PageCalls.{HasPut}
use Rattle.page_face.proofs.PageLaws.{free_join, editing_join, reading_join}
use Rattle.tree_spec.specs.Freelist.{numbers_at, Trunk, trunk_in, IsTrunk, AreTrunks, held_by, IsFreelist}
use Rattle.tree_spec.specs.Trunks.{LosesLeaf}
use Rattle.tree_spec.proofs.Freelists.{length-numbers_at, numbers_more}
use Rattle.tree_spec.proofs.TrunkSteps.{loses, after_leaf, after_trunk}
use Rattle.freelist.specs.declared.free.Free.{Free}
use Rattle.freelist.specs.Walking.{ThereIsFreelist}
use Rattle.freelist.specs.Changing.{Suits, BreaksTaking, BarsChange, BeginsWell, HasFirst, ChangesTrunk, HasTakenOut, HasTaken, LeavesFreelist}
use Rattle.freelist.proofs.Walked.{no_list, no_broken}

-- the law that what stands behind pages stays over two calls
abbrev pub FollowsOn : {P : Type 0} → Ghosts P → Type 0
FollowsOn {P} pages = (first second third : P) → pages.follows first second → pages.follows second third → pages.follows first third

-- a page that was put after others were read
pub puts_after : {P : Type 0} (pages : Ghosts P) (old mid new : P) (page : ℕ) (bytes : List ℕ) (world : View) → KeepsPages pages old mid world
    → PutsPage pages mid page bytes new world → PutsPage pages old page bytes new world
puts_after pages old mid new page bytes world kept put = record {
  each = λ number. put.each number ∙ ap (λ (l : List ℕ). if number == page then bytes else l) (kept.each number);
  list = λ used neat fields.
      free_join pages old mid new world kept.list
      (put.list (λ free. used (kept.list.none_more page free)) (kept.list.neat neat) (λ first. fields first ∙ ap freelist_fields (sym (kept.each 1))));
}

-- a fault from outside since an earlier moment
pub outside_since : (first before after : ℕ) (why : FetchFault) → first ≤ before → IsFromOutside before after why → IsFromOutside first after why
outside_since first before after fault.Disk least rose = record { later = omega (arith, least, rose.later); counted = by_count rose.counted }
  where
    by_count : (before < after) ⊎ (after ≡ last_count) → (first < after) ⊎ (after ≡ last_count)
    by_count (inl more) = inl (omega (arith, least, more))
    by_count (inr last) = inr last
outside_since first before after (fault.Corrupt page) least never = absurd never
outside_since first before after (fault.Size pages) least never = absurd never
outside_since first before after fault.Memory least is = tt

-- bars a change, whatever would break it
pub bars_outside : {P : Type 0} (pages : Ghosts P) (old : P) (free : Free) (Breaks : Trunk → Type 0) (new : P) (why : FetchFault)
    → IsFromOutside (pages.faults old) (pages.faults new) why → BarsChange pages old free Breaks new why
bars_outside pages old free Breaks new fault.Disk rose = rose
bars_outside pages old free Breaks new (fault.Corrupt page) never = absurd never
bars_outside pages old free Breaks new (fault.Size count) never = absurd never
bars_outside pages old free Breaks new fault.Memory is = tt

-- what bars for one reason, bars for one that is wider
pub bars_wider : {P : Type 0} (pages : Ghosts P) (old : P) (free : Free) (Breaks Wider : Trunk → Type 0) (new : P) (why : FetchFault)
    → ((trunk : Trunk) → Breaks trunk → Wider trunk) → BarsChange pages old free Breaks new why → BarsChange pages old free Wider new why
bars_wider pages old free Breaks Wider new fault.Disk wider rose = rose
bars_wider pages old free Breaks Wider new (fault.Corrupt page) wider (is, inl wrong) = (is, inl wrong)
bars_wider pages old free Breaks Wider new (fault.Corrupt page) wider (is, inr (some, broken)) =
    (is, inr (some, λ world told. wider (trunk_in (pages.over old world free.trunk)) (broken world told)))
bars_wider pages old free Breaks Wider new (fault.Size count) wider never = never
bars_wider pages old free Breaks Wider new fault.Memory wider is = tt

-- the first trunk was read, and is broken where the buffer is
pub bars_first : {P : Type 0} (pages : Ghosts P) (old : P) (free : Free) (Breaks : Trunk → Type 0) (new : P) (buf : List ℕ) → 0 < free.count
    → ((world : View) → pages.tells new world → buf ≡ pages.over old world free.trunk) → Breaks (trunk_in buf)
    → BarsChange pages old free Breaks new (fault.Corrupt free.trunk)
bars_first pages old free Breaks new buf some shows broken =
    (refl, inr (some, λ world told. subst (λ (bytes : List ℕ). Breaks (trunk_in bytes)) (shows world told) broken))

-- the last leaf of a trunk that lists some
pub last_leaf : (bytes : List ℕ) (leaves page : ℕ) → leaves ≡ u32_at bytes 4 → 0 < leaves → page ≡ u32_at bytes (8 + 4 * (leaves - 1))
    → (trunk_in bytes).leaves ≡ numbers_at bytes 8 (leaves - 1) ++ page ∷ []
last_leaf bytes leaves page count some is =
    ap (λ (n : ℕ). numbers_at bytes 8 n) (let more : u32_at bytes 4 ≡ (leaves - 1) + 1 = omega (arith, count, some) in more) ∙ numbers_more bytes 8 (leaves - 1)
    ∙ ap (λ (n : ℕ). numbers_at bytes 8 (leaves - 1) ++ n ∷ []) (sym is)

-- how many leaves the first trunk lists, over each world that is still told
pub first_lists : {P : Type 0} (pages : Ghosts P) (old mid : P) (free : Free) (leaves : ℕ) (buf : List ℕ) → HasFirst pages old free leaves buf mid
    → (world : View) → pages.tells mid world → length (trunk_in (pages.over old world free.trunk)).leaves ≡ leaves
first_lists pages old mid free leaves buf first = λ world told.
    ap (λ (bytes : List ℕ). length (trunk_in bytes).leaves) (sym (first.shows world told)) ∙ length-numbers_at buf 8 (u32_at buf 4) ∙ sym first.leaves_are

-- so the list begins well
pub begins_well : {P : Type 0} (pages : Ghosts P) (old mid new : P) (free : Free) (leaves : ℕ) (buf : List ℕ) → ((world : View) → pages.tells new world → pages.tells mid world)
    → HasFirst pages old free leaves buf mid → BeginsWell pages old free new
begins_well pages old mid new free leaves buf narrows first = record {
  number = inl (omega (arith, first.fewer), first.range.0, first.range.1);
  leaves = λ some world told.
      let lists = first_lists pages old mid free leaves buf first world (narrows world told) in
      (omega (arith, lists, first.room), omega (arith, lists, first.fewer));
}

-- The first trunk was changed, which was read before.
pub changes : {P : Type 0} (pages : Ghosts P) (old mid new : P) (free : Free) (Changes : List ℕ → List ℕ → Type 0) (leaves : ℕ) (buf bytes : List ℕ)
    → ReadsAtMost pages old mid → HasFirst pages old free leaves buf mid → HasPut pages mid free.trunk bytes (Ok tt) new → Changes buf bytes
    → ChangesTrunk pages old free Changes new
changes pages old mid new free Changes leaves buf bytes reading first put change = record {
  bytes = bytes;
  changes = λ world told. subst (λ (was : List ℕ). Changes was bytes) (first.shows world (put.edits.narrows world told)) change;
  put = λ world told. puts_after pages old mid new free.trunk bytes world (reading.each world (put.edits.narrows world told)) (put.put world told);
  has = λ number. put.has number ∙ ap (λ (b : Bool). b || (number == free.trunk)) (reading.has number);
}

-- No page was taken: there is none, or a fault came.
pub takes_none : {P : Type 0} (pages : Ghosts P) (old : P) (free : Free) → ReadsAtMost pages old old → free.count ≡ 0 → HasTaken pages old free (Ok None) old free
takes_none pages old free same zero_is = record {
  none = ((λ is. zero_is), (λ is. refl));
  taken = record { same = refl; reading = same };
  refused = tt;
  read = inl refl;
  last = refl;
  edits = same.edits;
}

pub takes_not : {P : Type 0} (pages : Ghosts P) (old new : P) (free free_then : Free) (why : FetchFault) → free_then ≡ free → 0 < free.count → ReadsAtMost pages old new
    → (pages.reads new ≡ pages.reads old) ⊎ (pages.reads new ≡ pages_read pages old free.trunk)
    → BarsChange pages old free (BreaksTaking (pages.last_page old) free.count (pages.usable old)) new why
    → HasTaken pages old free (Err why) new free_then
takes_not pages old new free free_then why same some reading read bars = record {
  none = tt;
  taken = tt;
  refused = (record { same = same; reading = reading }, bars);
  read = elim read [ inl before ↦ inl before | inr first ↦ inr (some, first) ];
  last = reading.last;
  edits = reading.edits;
}

-- one was taken
takes : {P : Type 0} (pages : Ghosts P) (old new : P) (free free_then : Free) (page : ℕ) → 0 < free.count → pages.reads new ≡ pages_read pages old free.trunk
    → pages.last_page new ≡ pages.last_page old → Editing pages old new → HasTakenOut pages old free page new free_then
    → HasTaken pages old free (Ok (Some page)) new free_then
takes pages old new free free_then page some read last edits taken = record {
  none = ((λ is. absurd (cc)), (λ is. absurd (omega (arith, some, is))));
  taken = taken;
  refused = tt;
  read = inr (some, read);
  last = last;
  edits = edits;
}

pub takes_trunk : {P : Type 0} (pages : Ghosts P) (old new : P) (free free_then : Free) (leaves : ℕ) (buf : List ℕ) → ReadsAtMost pages old new
    → HasFirst pages old free leaves buf new → leaves ≡ 0 → free_then.trunk ≡ u32_at buf 0 → free_then.count ≡ free.count - 1
    → Suits (pages.last_page old) free_then.count free_then.trunk → HasTaken pages old free (Ok (Some free.trunk)) new free_then
takes_trunk pages old new free free_then leaves buf reading first none next_is count_is suits =
    takes pages old new free free_then free.trunk (omega (arith, first.fewer)) first.read reading.last reading.edits (record {
      begins = begins_well pages old new new free leaves buf (λ world told. told) first;
      count = omega (arith, count_is, first.fewer);
      range = first.range;
      suits = suits;
      taken = inr (record {
        page_is = refl;
        trunk = λ world told.
            subst (λ (bytes : List ℕ). trunk_in bytes ≡ record { next = free_then.trunk; leaves = [] }) (first.shows world told)
            (let next : u32_at buf 0 ≡ free_then.trunk = sym next_is in
            let held : numbers_at buf 8 (u32_at buf 4) ≡ [] = ap (λ (n : ℕ). numbers_at buf 8 n) (sym first.leaves_are ∙ none) in
            λ i. record { next = next i; leaves = held i });
        reading = reading;
      });
    })

pub takes_leaf : {P : Type 0} (pages : Ghosts P) (old mid new : P) (free free_then : Free) (leaves page : ℕ) (buf bytes : List ℕ) → FollowsOn pages
    → ReadsAtMost pages old mid → HasFirst pages old free leaves buf mid → 0 < leaves → page ≡ u32_at buf (8 + 4 * (leaves - 1))
    → 2 ≤ page → page ≤ pages.last_page old → u32_at bytes 4 ≡ leaves - 1 → DiffersOnlyWithin buf bytes 4 8
    → HasPut pages mid free.trunk bytes (Ok tt) new → free_then.trunk ≡ free.trunk → free_then.count ≡ free.count - 1
    → HasTaken pages old free (Ok (Some page)) new free_then
takes_leaf pages old mid new free free_then leaves page buf bytes on reading first some page_is low high less differs put trunk_is count_is =
    let had : u32_at buf 4 ≡ (leaves - 1) + 1 = omega (arith, first.leaves_are, some) in
    takes pages old new free free_then page (omega (arith, first.fewer)) (put.reads ∙ first.read) (put.last ∙ reading.last)
    (editing_join pages old mid new reading.edits put.edits on) (record {
      begins = begins_well pages old mid new free leaves buf (λ world told. put.edits.narrows world told) first;
      count = omega (arith, count_is, first.fewer);
      range = (low, high);
      suits = inl (omega (arith, count_is, first.fewer, some), omega (arith, trunk_is, first.range.0), omega (arith, trunk_is, first.range.1));
      taken = inl (record {
        trunk = trunk_is;
        change = changes pages old mid new free (λ was now. LosesLeaf was now page) leaves buf bytes reading first put
            (loses buf bytes (leaves - 1) page had page_is less differs);
      });
    })

-- what a put that was refused leaves
pub put_refused : {P : Type 0} (pages : Ghosts P) (old mid new : P) (page : ℕ) (bytes : List ℕ) (why : FetchFault) → FollowsOn pages → ReadsAtMost pages old mid
    → HasPut pages mid page bytes (Err why) new → ReadsAtMost pages old new
put_refused pages old mid new page bytes why on reading put = reading_join pages old mid new reading put.refused on

-- a page other than the one that was put
pub others_same : (view view_then : View) (page : ℕ) (bytes : List ℕ) → ((n : ℕ) → view_then n ≡ view_with view page bytes n) → (n : ℕ) → n ≢ page → view_then n ≡ view n
others_same view view_then page bytes each n other = each n ∙ ap (λ (b : Bool). if b then bytes else view n) (ne_eqb n page other)

pub here_put : (view view_then : View) (page : ℕ) (bytes : List ℕ) → ((n : ℕ) → view_then n ≡ view_with view page bytes n) → view_then page ≡ bytes
here_put view view_then page bytes each = each page ∙ ap (λ (b : Bool). if b then bytes else view page) (eq-eqb page page refl)

-- What was taken out of a freelist leaves the freelist without it.
pub leaves_list : {P : Type 0} (pages : Ghosts P) (old : P) (free : Free) (result : Result (Option ℕ) FetchFault) (new : P) (free_then : Free)
    → HasTaken pages old free result new free_then → IfOk result (λ found. IfSome found (λ page. LeavesFreelist pages old free page new free_then))
leaves_list pages old free (Ok None) new free_then has = tt
leaves_list pages old free (Ok (Some page)) new free_then has = λ world told bound list is.
    let view = pages.over old world in
    let view_then = pages.over new world in
    let counted : IsFreelist (pages.usable old) bound view free.trunk (free_then.count + 1) list =
    subst (λ (n : ℕ). IsFreelist (pages.usable old) bound view free.trunk n list) has.taken.count is in
    elim has.taken.taken [
      | inl leaf ↦
          (let put = leaf.change.put world told in
          let loses : LosesLeaf (view free.trunk) (view_then free.trunk) page =
          subst (λ (bytes : List ℕ). LosesLeaf (view free.trunk) bytes page) (sym (here_put view view_then free.trunk leaf.change.bytes put.each)) (leaf.change.changes world told) in
          let found = after_leaf (pages.usable old) bound view view_then free.trunk free_then.count page list
          (others_same view view_then free.trunk leaf.change.bytes put.each) loses counted in
          (found.0, found.1, found.2, subst (λ (n : ℕ). IsFreelist (pages.usable old) bound view_then n free_then.count (found.0 ++ found.1)) (sym leaf.trunk) found.3))
      | inr trunk ↦
          (let shown = trunk.trunk world told in
          let found = after_trunk (pages.usable old) bound view view_then free.trunk free_then.count list
          ((trunk.reading.each world told).each) (ap (λ (t : Trunk). t.leaves) shown) counted in (
            [],
            found.0,
            found.1 ∙ ap (λ (n : ℕ). n ∷ found.0) (sym trunk.page_is),
            subst (λ (n : ℕ). IsFreelist (pages.usable old) bound view_then n free_then.count found.0) (ap (λ (t : Trunk). t.next) shown) found.2,
          ))
    ]
leaves_list pages old free (Err why) new free_then has = tt

-- The last of some leaves is one of them.
last_there : (leaves others : List ℕ) (leaf : ℕ) → leaves ≡ others ++ leaf ∷ [] → Contains leaves leaf
last_there leaves others leaf is = subst (λ (l : List ℕ). Contains l leaf) (sym is) (at_end others)
  where
    at_end : (xs : List ℕ) → Contains (xs ++ leaf ∷ []) leaf
    at_end [] = (0, omega arith, refl)
    at_end (x ∷ xs) = let found = at_end xs in (found.0 + 1, omega (arith, found.1), rw (add-one) found.2)

-- no first trunk of a list is broken so that no page of it can be taken
unbroken : (usable last : ℕ) (view : View) (first count : ℕ) (list : List ℕ) → 0 < count → IsFreelist usable last view first count list
    → BreaksTaking last count usable (trunk_in (view first)) → ⊥
unbroken usable last view first count list some is (inl many) =
    no_broken usable last view first count [] first count list refl (omega arith) some (inl many) is
unbroken usable last view first count list some is (inr (inl (others, leaf, leaves, out))) =
    no_broken usable last view first count [] first count list refl (omega arith) some
    (inr (leaf, last_there (trunk_in (view first)).leaves others leaf leaves, out)) is
unbroken usable last view first count list some is (inr (inr (none, wrong))) = by_trunks is.trunks is.follow is.held
  where
    by_trunks : (trunks : List ℕ) → AreTrunks usable last view first trunks 0 → list ≡ held_by view trunks → ⊥
    by_trunks [] follow held = omega (arith, some, is.counted, ap length held)
    by_trunks (p ∷ ps) follow held =
        let bare : held_by view (first ∷ []) ≡ first ∷ [] = ap (λ (l : List ℕ). first ∷ l ++ []) none in
        let trunk : IsTrunk usable last (trunk_in (view first)) = subst (λ (n : ℕ). IsTrunk usable last (trunk_in (view n))) follow.0 follow.3 in
        no_list usable last view first count (first ∷ []) (trunk_in (view first)).next (count - 1) list
        (refl, omega (arith, follow.0, follow.1), omega (arith, follow.0, follow.2), trunk, refl)
        (omega (arith, some, ap length bare)) wrong is

-- Over a freelist with that count only a fault from outside bars a change.
pub sound_change : {P : Type 0} (pages : Ghosts P) (old : P) (free : Free) (Breaks : Trunk → Type 0) (new : P) (why : FetchFault)
    → ((trunk : Trunk) → Breaks trunk → BreaksTaking (pages.last_page old) free.count (pages.usable old) trunk)
    → BarsChange pages old free Breaks new why → ThereIsFreelist pages old free.trunk free.count new → IsFromOutside (pages.faults old) (pages.faults new) why
sound_change pages old free Breaks new fault.Disk breaks rose there = rose
sound_change pages old free Breaks new (fault.Corrupt page) breaks (is, inl wrong) there =
    absurd (no_list (pages.usable old) (pages.last_page old) (pages.over old there.world) free.trunk free.count [] free.trunk free.count there.list refl (omega arith) wrong there.is_list)
sound_change pages old free Breaks new (fault.Corrupt page) breaks (is, inr (some, broken)) there =
    absurd (unbroken (pages.usable old) (pages.last_page old) (pages.over old there.world) free.trunk free.count there.list some there.is_list
    (breaks (trunk_in (pages.over old there.world free.trunk)) (broken there.world there.told)))
sound_change pages old free Breaks new (fault.Size count) breaks never there = absurd never
sound_change pages old free Breaks new fault.Memory breaks is there = tt

pub sound_take : {P : Type 0} (pages : Ghosts P) (old : P) (free : Free) (result : Result (Option ℕ) FetchFault) (new : P) (free_then : Free)
    → HasTaken pages old free result new free_then
    → IfErr result (λ why. ThereIsFreelist pages old free.trunk free.count new → IsFromOutside (pages.faults old) (pages.faults new) why)
sound_take pages old free (Ok found) new free_then has = tt
sound_take pages old free (Err why) new free_then has = λ there.
    sound_change pages old free (BreaksTaking (pages.last_page old) free.count (pages.usable old)) new why (λ trunk breaks. breaks) has.refused.1 there
