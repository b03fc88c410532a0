-- The order with one frame more: its entry is put in at its rank, and those from there on move up by one.
use Rattle.std.proofs.Common.{◌≡◌, ℕ, ◌+◌, ◌-◌, ◌<◌, ◌≤◌, List, [], ◌∷◌, ◌++◌, length, slice_index, insert, get_or, length-append, arith, inl, inr, refl, sym, subst, ap, ◌∙◌}
use Rattle.std.proofs.Math.Nat.{eq-or-lt_of_le}
use Rattle.std.proofs.Math.Decide.{dec_lt}
use Rattle.std.proofs.lemmas.List.Edits.{length-insert, get_or-insert_at, get_or-insert_below, get_or-insert_above}
use Rattle.std.proofs.Math.ListN.{get_or-append}
use Rattle.std.proofs.Math.Seq.{get_or-append_seam}
use Rattle.wal_index.specs.Order.{AreOrdered, IsBefore, IsRank, part_start, named}

-- the frames and their order before, and with one frame of the page more, whose entry has this rank
pub record HasAdded (pages order : List ℕ) (page start rank : ℕ) (more ordered : List ℕ) : Type 0 where
  pub before : AreOrdered pages order
  pub starts : start ≡ part_start (length pages)
  pub ranks : IsRank pages order start (length pages) page (length pages) rank
  pub pages_count : length more ≡ length pages + 1
  pub pages_same : (place : ℕ) → place < length pages → slice_index more place ≡ slice_index pages place
  pub page_last : slice_index more (length pages) ≡ page
  pub count : length ordered ≡ length order + 1
  pub here : slice_index ordered rank ≡ length pages - start
  pub below : (entry : ℕ) → entry < rank → slice_index ordered entry ≡ slice_index order entry
  pub behind : (entry : ℕ) → rank < entry → slice_index ordered entry ≡ slice_index order (entry - 1)

-- what an entry names now: the same as before, the new frame, or what the entry before it named
pub data NamesNow (pages order : List ℕ) (start rank entry name : ℕ) : Type 0 where
  Below : entry < rank → name ≡ named order entry → NamesNow pages order start rank entry name
  Here : entry ≡ rank → name ≡ length pages → NamesNow pages order start rank entry name
  Behind : rank < entry → name ≡ named order (entry - 1) → NamesNow pages order start rank entry name

-- the rank is of the last part
rank_there : {pages order : List ℕ} {page start rank : ℕ} {more ordered : List ℕ} → HasAdded pages order page start rank more ordered
    → (start ≤ rank) × (rank ≤ length pages) × (length pages < start + 4096) × (part_start start ≡ start)
rank_there added = (added.ranks.from, added.ranks.to, omega (arith, added.starts), omega (arith, added.starts))

names_now : {pages order : List ℕ} {page start rank : ℕ} {more ordered : List ℕ} → HasAdded pages order page start rank more ordered
    → (entry : ℕ) → entry ≤ length pages → NamesNow pages order start rank entry (named ordered entry)
names_now {pages} {order} {page} {start} {rank} {more} {ordered} added entry within =
    let there = rank_there added in
    elim (dec_lt entry rank) [
      | yes low ↦ Below low (ap (λ far. part_start entry + far) (added.below entry low))
      | no high ↦ elim (eq-or-lt_of_le (at_least high)) [
        | inl same ↦ Here (sym same) (ap (λ at. part_start at + slice_index ordered at) (sym same) ∙ (ap (λ far. part_start rank + far) added.here ∙ whole there))
        | inr above ↦ Behind above (ap (λ far. part_start entry + far) (added.behind entry above) ∙ ap (λ from. from + slice_index order (entry - 1)) (same_start there above))
      ]
    ]
  where
    at_least : (entry < rank → ⊥) → rank ≤ entry
    at_least not = omega arith

    whole : (start ≤ rank) × (rank ≤ length pages) × (length pages < start + 4096) × (part_start start ≡ start) → part_start rank + (length pages - start) ≡ length pages
    whole there = omega (arith, there.0, there.1, there.2, there.3)

    same_start : (start ≤ rank) × (rank ≤ length pages) × (length pages < start + 4096) × (part_start start ≡ start) → rank < entry → part_start entry ≡ part_start (entry - 1)
    same_start there above = omega (arith, there.0, there.1, there.2, there.3)

-- where one frame comes before another, so it does now
before_now : {pages order : List ℕ} {page start rank : ℕ} {more ordered : List ℕ} → HasAdded pages order page start rank more ordered
    → (one other : ℕ) → one < length pages → other < length pages
    → IsBefore pages one (slice_index pages other) other → IsBefore more one (slice_index more other) other
before_now added one other here there (inl less) = inl (omega (arith, added.pages_same one here, added.pages_same other there))
before_now added one other here there (inr same) = inr (added.pages_same one here ∙ (same.0 ∙ sym (added.pages_same other there)), same.1)

-- a frame that comes before one of the page behind all others comes before the new one
before_new : {pages order : List ℕ} {page start rank : ℕ} {more ordered : List ℕ} → HasAdded pages order page start rank more ordered
    → (one : ℕ) → one < length pages → IsBefore pages one page (length pages) → IsBefore more one (slice_index more (length pages)) (length pages)
before_new added one here (inl less) = inl (omega (arith, added.pages_same one here, added.page_last))
before_new added one here (inr same) = inr (added.pages_same one here ∙ (same.0 ∙ sym added.page_last), same.1)

-- and the new one comes before a frame that doesn't
new_before : {pages order : List ℕ} {page start rank : ℕ} {more ordered : List ℕ} → HasAdded pages order page start rank more ordered
    → (other : ℕ) → other < length pages → (IsBefore pages other page (length pages) → ⊥) → IsBefore more (length pages) (slice_index more other) other
new_before {pages} {order} {page} added other there not =
    elim (dec_lt page (slice_index pages other)) [
      | yes less ↦ inl (omega (arith, added.pages_same other there, added.page_last))
      | no few ↦ elim (eq-or-lt_of_le (at_most few)) [ inl same ↦ absurd (not (inr (same, there))) | inr less ↦ absurd (not (inl less)) ]
    ]
  where
    at_most : (page < slice_index pages other → ⊥) → slice_index pages other ≤ page
    at_most not = omega arith

-- the entries of one part rise
rising_now : {pages order : List ℕ} {page start rank : ℕ} {more ordered : List ℕ} → HasAdded pages order page start rank more ordered
    → (one other one_name other_name : ℕ) → one < other → other < length pages + 1 → part_start one ≡ part_start other
    → NamesNow pages order start rank one one_name → NamesNow pages order start rank other other_name
    → IsBefore more one_name (slice_index more other_name) other_name
rising_now {pages} {order} {page} {start} {rank} {more} added one other one_name other_name less within part (Below one_low one_is) (Below other_low other_is) =
    let there : other < length pages = omega (arith, added.ranks.to) in
    moved one_name other_name one_is other_is
    (before_now added (named order one) (named order other) (added.before.within one (omega arith)) (added.before.within other there)
    (added.before.rising one other less there part))
  where
    moved : (one_name other_name : ℕ) → one_name ≡ named order one → other_name ≡ named order other
        → IsBefore more (named order one) (slice_index more (named order other)) (named order other) → IsBefore more one_name (slice_index more other_name) other_name
    moved one_name other_name one_is other_is before = subst (λ at. IsBefore more at (slice_index more other_name) other_name) (sym one_is)
        (subst (λ at. IsBefore more (named order one) (slice_index more at) at) (sym other_is) before)
rising_now {pages} {order} {page} {start} {rank} {more} added one other one_name other_name less within part (Below one_low one_is) (Here other_at other_is) =
    let there = rank_there added in
    let from : start ≤ one = omega (arith, there.0, there.1, there.2, there.3) in
    subst (λ at. IsBefore more at (slice_index more other_name) other_name) (sym one_is)
    (subst (λ at. IsBefore more (named order one) (slice_index more at) at) (sym other_is)
    (before_new added (named order one) (added.before.within one (omega (arith, there.1))) (added.ranks.below one from one_low)))
rising_now {pages} {order} {page} {start} {rank} {more} added one other one_name other_name less within part (Below one_low one_is) (Behind other_above other_is) =
    let there = rank_there added in
    let inside : other - 1 < length pages = omega arith in
    let same : part_start one ≡ part_start (other - 1) = omega (arith, there.0, there.1, there.2, there.3) in
    subst (λ at. IsBefore more at (slice_index more other_name) other_name) (sym one_is)
    (subst (λ at. IsBefore more (named order one) (slice_index more at) at) (sym other_is)
    (before_now added (named order one) (named order (other - 1)) (added.before.within one (omega (arith, there.1))) (added.before.within (other - 1) inside)
    (added.before.rising one (other - 1) (omega arith) inside same)))
rising_now added one other one_name other_name less within part (Here one_at one_is) (Below other_low other_is) = absurd (omega arith)
rising_now added one other one_name other_name less within part (Here one_at one_is) (Here other_at other_is) = absurd (omega arith)
rising_now {pages} {order} {page} {start} {rank} {more} added one other one_name other_name less within part (Here one_at one_is) (Behind other_above other_is) =
    let inside : other - 1 < length pages = omega arith in
    subst (λ at. IsBefore more at (slice_index more other_name) other_name) (sym one_is)
    (subst (λ at. IsBefore more (length pages) (slice_index more at) at) (sym other_is)
    (new_before added (named order (other - 1)) (added.before.within (other - 1) inside) (added.ranks.above (other - 1) (omega arith) inside)))
rising_now added one other one_name other_name less within part (Behind one_above one_is) (Below other_low other_is) = absurd (omega arith)
rising_now added one other one_name other_name less within part (Behind one_above one_is) (Here other_at other_is) = absurd (omega arith)
rising_now {pages} {order} {page} {start} {rank} {more} added one other one_name other_name less within part (Behind one_above one_is) (Behind other_above other_is) =
    let there = rank_there added in
    let inside : other - 1 < length pages = omega arith in
    let same : part_start (one - 1) ≡ part_start (other - 1) = omega (arith, there.0, there.1, there.2, there.3) in
    subst (λ at. IsBefore more at (slice_index more other_name) other_name) (sym one_is)
    (subst (λ at. IsBefore more (named order (one - 1)) (slice_index more at) at) (sym other_is)
    (before_now added (named order (one - 1)) (named order (other - 1)) (added.before.within (one - 1) (omega arith)) (added.before.within (other - 1) inside)
    (added.before.rising (one - 1) (other - 1) (omega arith) inside same)))

-- what an entry names is there
within_now : {pages order : List ℕ} {page start rank : ℕ} {more ordered : List ℕ} → HasAdded pages order page start rank more ordered
    → (entry name : ℕ) → entry < length pages + 1 → NamesNow pages order start rank entry name → name < length pages + 1
within_now {pages} {order} added entry name inside (Below low is) = omega (arith, added.before.within entry (omega (arith, added.ranks.to)))
within_now added entry name inside (Here at is) = omega arith
within_now {pages} {order} added entry name inside (Behind above is) = omega (arith, added.before.within (entry - 1) (omega arith))

-- an entry keeps less than a part's length
near_now : {pages order : List ℕ} {page start rank : ℕ} {more ordered : List ℕ} → HasAdded pages order page start rank more ordered
    → (entry : ℕ) → entry < length pages + 1 → slice_index ordered entry < 4096
near_now {pages} {order} {page} {start} {rank} {more} {ordered} added entry inside =
    let there = rank_there added in
    elim (dec_lt entry rank) [
      | yes low ↦ omega (arith, added.below entry low, added.before.near entry (omega (arith, added.ranks.to)))
      | no high ↦ elim (eq-or-lt_of_le (at_least high)) [
        | inl same ↦ omega (arith, ap (slice_index ordered) same, added.here, there.2)
        | inr above ↦ omega (arith, added.behind entry above, added.before.near (entry - 1) (omega arith))
      ]
    ]
  where
    at_least : (entry < rank → ⊥) → rank ≤ entry
    at_least not = omega arith

-- each place is named
all_now : {pages order : List ℕ} {page start rank : ℕ} {more ordered : List ℕ} → HasAdded pages order page start rank more ordered
    → (place : ℕ) → place < length pages + 1 → (entry : ℕ) × (entry < length pages + 1) × (part_start entry ≡ part_start place) × (named ordered entry ≡ place)
all_now {pages} {order} {page} {start} {rank} {more} {ordered} added place inside =
    elim (eq-or-lt_of_le (at_most inside)) [
      | inl same ↦ (rank, omega (arith, added.ranks.to), omega (arith, rank_there added), is_new same (names_now added rank added.ranks.to))
      | inr old ↦ moved (added.before.all place old)
    ]
  where
    at_most : place < length pages + 1 → place ≤ length pages
    at_most less = omega arith

    is_new : place ≡ length pages → NamesNow pages order start rank rank (named ordered rank) → named ordered rank ≡ place
    is_new same (Below low is) = absurd (omega arith)
    is_new same (Here at is) = is ∙ sym same
    is_new same (Behind above is) = absurd (omega arith)

    is_old : (entry : ℕ) → entry < rank → NamesNow pages order start rank entry (named ordered entry) → named ordered entry ≡ named order entry
    is_old entry less (Below low is) = is
    is_old entry less (Here at is) = absurd (omega arith)
    is_old entry less (Behind above is) = absurd (omega arith)

    is_moved : (entry : ℕ) → rank ≤ entry → NamesNow pages order start rank (entry + 1) (named ordered (entry + 1)) → named ordered (entry + 1) ≡ named order entry
    is_moved entry more (Below low is) = absurd (omega arith)
    is_moved entry more (Here at is) = absurd (omega arith)
    is_moved entry more (Behind above is) = is ∙ ap (named order) (less_one entry)
      where
        less_one : (entry : ℕ) → entry + 1 - 1 ≡ entry
        less_one entry = omega arith

    moved : ((entry : ℕ) × (entry < length pages) × (part_start entry ≡ part_start place) × (named order entry ≡ place))
        → (entry : ℕ) × (entry < length pages + 1) × (part_start entry ≡ part_start place) × (named ordered entry ≡ place)
    moved found = elim (dec_lt found.0 rank) [
      | yes low ↦ (found.0, omega (arith, found.1), found.2, is_old found.0 low (names_now added found.0 (omega (arith, found.1))) ∙ found.3)
      | no high ↦
          let there = rank_there added in
          let more : rank ≤ found.0 = omega arith in
          let same : part_start (found.0 + 1) ≡ part_start found.0 = omega (arith, there.0, there.2, there.3, found.1) in
          (found.0 + 1, omega (arith, found.1), same ∙ found.2, is_moved found.0 more (names_now added (found.0 + 1) (omega (arith, found.1))) ∙ found.3)
    ]

-- the order with the new frame is one
pub ordered_more : {pages order : List ℕ} {page start rank : ℕ} {more ordered : List ℕ} → HasAdded pages order page start rank more ordered → AreOrdered more ordered
ordered_more {pages} {order} {page} {start} {rank} {more} {ordered} added = record {
  count = omega (arith, added.count, added.pages_count, added.before.count);
  near = λ entry inside. near_now added entry (omega (arith, added.pages_count));
  within = λ entry inside. omega (arith, added.pages_count, within_now added entry (named ordered entry) (omega (arith, added.pages_count)) (names_now added entry (omega (arith, added.pages_count))));
  rising = λ one other less inside part. rising_now added one other (named ordered one) (named ordered other) less (omega (arith, added.pages_count)) part
      (names_now added one (omega (arith, added.pages_count))) (names_now added other (omega (arith, added.pages_count)));
  all = λ place inside. let found = all_now added place (omega (arith, added.pages_count)) in
      (found.0, omega (arith, found.1, added.pages_count), found.2, found.3);
}

-- a frame pushed behind the others, and its entry put in at its rank
pub added_is : (pages order : List ℕ) (page start rank : ℕ) → AreOrdered pages order → start ≡ part_start (length pages)
    → IsRank pages order start (length pages) page (length pages) rank → HasAdded pages order page start rank (pages ++ page ∷ []) (insert order rank (length pages - start))
added_is pages order page start rank before starts ranks =
    let inside : rank ≤ length order = omega (arith, ranks.to, before.count) in
    record {
      before = before;
      starts = starts;
      ranks = ranks;
      pages_count = length-append pages (page ∷ []) ∙ refl;
      pages_same = λ place there. get_or-append pages (page ∷ []) 0 place there;
      page_last = get_or-append_seam pages page [] 0;
      count = length-insert order rank (length pages - start) inside;
      here = get_or-insert_at order rank (length pages - start) 0 inside;
      below = λ entry low. get_or-insert_below order rank (length pages - start) 0 entry low inside;
      behind = λ entry above. subst (λ at. get_or (insert order rank (length pages - start)) at 0 ≡ get_or order (entry - 1) 0) (above_one entry above)
          (get_or-insert_above order rank (length pages - start) 0 (entry - 1) (omega arith) inside);
    }
  where
    above_one : (entry : ℕ) → rank < entry → entry - 1 + 1 ≡ entry
    above_one entry above = omega arith
