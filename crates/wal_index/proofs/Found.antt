-- What a rank says of the places of a part.
use Rattle.std.proofs.Common.{◌≡◌, ℕ, ◌+◌, ◌-◌, ◌<◌, ◌≤◌, ◌⊎◌, min, List, length, slice_index, arith, inl, inr, refl, sym, subst, ap, ◌∙◌}
use Rattle.std.proofs.Math.Nat.{eq-or-lt_of_le}
use Rattle.std.proofs.Math.Decide.{dec_lt}
use Rattle.wal_index.specs.Order.{AreOrdered, IsBefore, IsRank, part_start, named}
use Rattle.wal_index.specs.Parts.{StandsIn, IsLastIn, IsFirstIn, IsNextIn}
use Rattle.wal_index.proofs.Orders.{entry_of, named_in, same_part}

-- an end of the part: its last place, or the log's
abbrev pub IsPartEnd : List ℕ → ℕ → ℕ → Type 0
IsPartEnd pages start end = (end ≤ start + 4096) × (end ≤ length pages) × ((place : ℕ) → place < start + 4096 → place < length pages → place < end)

-- a place of the part that comes before is named by an entry below the rank
pub entry_below : (pages order : List ℕ) (start end page place rank other : ℕ) → AreOrdered pages order → part_start start ≡ start → IsPartEnd pages start end
    → IsRank pages order start end page place rank → start ≤ other → other < start + 4096 → other < length pages → IsBefore pages other page place
    → (entry : ℕ) × (start ≤ entry) × (entry < rank) × (named order entry ≡ other)
entry_below pages order start end page place rank other ordered is ends ranks from to there before =
    let entry = entry_of pages order start other ordered is from to there in
    let inside : entry.0 < end = ends.2 entry.0 entry.2 entry.3 in
    let here : IsBefore pages (named order entry.0) page place = subst (λ at. IsBefore pages at page place) (sym entry.4) before in
    elim (dec_lt entry.0 rank) [
      | yes low ↦ (entry.0, entry.1, low, entry.4)
      | no high ↦ absurd (ranks.above entry.0 (omega arith) inside here)
    ]

-- and one that doesn't by an entry from it on
pub entry_above : (pages order : List ℕ) (start end page place rank other : ℕ) → AreOrdered pages order → part_start start ≡ start → IsPartEnd pages start end
    → IsRank pages order start end page place rank → start ≤ other → other < start + 4096 → other < length pages → (IsBefore pages other page place → ⊥)
    → (entry : ℕ) × (rank ≤ entry) × (entry < end) × (named order entry ≡ other)
entry_above pages order start end page place rank other ordered is ends ranks from to there not =
    let entry = entry_of pages order start other ordered is from to there in
    let inside : entry.0 < end = ends.2 entry.0 entry.2 entry.3 in
    elim (dec_lt entry.0 rank) [
      | yes low ↦ absurd (not (subst (λ at. IsBefore pages at page place) entry.4 (ranks.below entry.0 entry.1 low)))
      | no high ↦ (entry.0, omega arith, inside, entry.4)
    ]

-- a part with the entry that parts those before a frame of the page at the place from the others
pub record IsRanked (pages order : List ℕ) (start end page place rank : ℕ) : Type 0 where
  pub ordered : AreOrdered pages order
  pub starts : part_start start ≡ start
  pub ends : IsPartEnd pages start end
  pub ranks : IsRank pages order start end page place rank

-- an end that is the least of the log's and the part's
pub part_end : (pages : List ℕ) (start end : ℕ) → end ≡ min (length pages) (start + 4096) → IsPartEnd pages start end
part_end pages start end is = (omega arith, omega arith, λ place inside there. omega arith)

-- where no entry comes before, no place below the limit is of the page
pub none_below : (pages order : List ℕ) (start end page limit rank : ℕ) → IsRanked pages order start end page limit rank → rank ≡ start
    → (other : ℕ) → StandsIn pages start page other → other < limit → ⊥
none_below pages order start end page limit rank ranked first other stands below =
    let entry = entry_below pages order start end page limit rank other ranked.ordered ranked.starts ranked.ends ranked.ranks
    stands.from stands.to stands.there (inr (stands.page_is, below)) in
    omega (arith, entry.1, entry.2)

-- a place of the page below the limit is at most the one that the last entry names
pub at_most_last : (pages order : List ℕ) (start end page limit rank other : ℕ) → IsRanked pages order start end page limit rank → start < rank
    → StandsIn pages start page other → other < limit
    → (other ≡ named order (rank - 1)) ⊎ IsBefore pages other (slice_index pages (named order (rank - 1))) (named order (rank - 1))
at_most_last pages order start end page limit rank other ranked some stands below =
    let entry = entry_below pages order start end page limit rank other ranked.ordered ranked.starts ranked.ends ranked.ranks
    stands.from stands.to stands.there (inr (stands.page_is, below)) in
    let inside : rank - 1 < length pages = omega (arith, ranked.ranks.to, ranked.ends.1) in
    let near : rank - 1 < start + 4096 = omega (arith, ranked.ranks.to, ranked.ends.0) in
    elim (eq-or-lt_of_le (before_last entry.2)) [
      | inl same ↦ inl (sym entry.3 ∙ ap (named order) same)
      | inr less ↦ inr (subst (λ at. IsBefore pages at (slice_index pages (named order (rank - 1))) (named order (rank - 1))) entry.3
          (ranked.ordered.rising entry.0 (rank - 1) less inside
          (same_part start entry.0 (rank - 1) ranked.starts entry.1 (omega arith) (omega arith) near)))
    ]
  where
    before_last : {entry : ℕ} → entry < rank → entry ≤ rank - 1
    before_last less = omega arith

-- where the last entry that comes before is of the page, its place is the last below the limit
pub found_last : (pages order : List ℕ) (start end page limit rank place : ℕ) → IsRanked pages order start end page limit rank → start < rank
    → place ≡ named order (rank - 1) → slice_index pages place ≡ page → IsLastIn pages start page limit place
found_last pages order start end page limit rank place ranked some is page_is =
    let inside = named_in pages order start (rank - 1) ranked.ordered ranked.starts (omega arith)
    (omega (arith, ranked.ranks.to, ranked.ends.0)) (omega (arith, ranked.ranks.to, ranked.ends.1)) in
    let before : IsBefore pages place page limit = subst (λ at. IsBefore pages at page limit) (sym is) (ranked.ranks.below (rank - 1) (omega arith) (omega arith)) in
    record {
      stands = record { from = omega (arith, inside.0); to = omega (arith, inside.1); there = omega (arith, inside.2); page_is = page_is };
      below = elim before [ inl less ↦ absurd (omega (arith, page_is)) | inr same ↦ same.1 ];
      last = λ other stands below. elim (at_most_last pages order start end page limit rank other ranked some stands below) [
        | inl same ↦ omega arith
        | inr earlier ↦ elim (subst (λ at. IsBefore pages other (slice_index pages at) at) (sym is) earlier) [
          | inl less ↦ absurd (omega (arith, page_is, stands.page_is))
          | inr same ↦ omega (arith, same.1)
        ]
      ];
    }

-- where it isn't, no place below the limit is
pub none_last : (pages order : List ℕ) (start end page limit rank place : ℕ) → IsRanked pages order start end page limit rank → start < rank
    → place ≡ named order (rank - 1) → (slice_index pages place ≡ page → ⊥) → (other : ℕ) → StandsIn pages start page other → other < limit → ⊥
none_last pages order start end page limit rank place ranked some is other_page other stands below =
    let before : IsBefore pages place page limit = subst (λ at. IsBefore pages at page limit) (sym is) (ranked.ranks.below (rank - 1) (omega arith) (omega arith)) in
    let less : slice_index pages place < page = elim before [ inl less ↦ less | inr same ↦ absurd (other_page same.0) ] in
    elim (at_most_last pages order start end page limit rank other ranked some stands below) [
      | inl same ↦ other_page (ap (slice_index pages) (is ∙ sym same) ∙ stands.page_is)
      | inr earlier ↦ elim (subst (λ at. IsBefore pages other (slice_index pages at) at) (sym is) earlier) [
        | inl lower ↦ omega (arith, stands.page_is)
        | inr same ↦ omega (arith, same.0, stands.page_is)
      ]
    ]

-- a place of the page from this one on isn't before it
not_before : (pages : List ℕ) (page from other : ℕ) → slice_index pages other ≡ page → from ≤ other → IsBefore pages other page from → ⊥
not_before pages page from other is later (inl less) = omega (arith, is)
not_before pages page from other is later (inr same) = omega (arith, same.1)

-- where no entry is left, no place from this one on is of the page
pub none_above : (pages order : List ℕ) (start end page from rank : ℕ) → IsRanked pages order start end page from rank → rank ≡ end
    → (other : ℕ) → StandsIn pages start page other → from ≤ other → ⊥
none_above pages order start end page from rank ranked last other stands later =
    let entry = entry_above pages order start end page from rank other ranked.ordered ranked.starts ranked.ends ranked.ranks
    stands.from stands.to stands.there (not_before pages page from other stands.page_is later) in
    omega (arith, entry.1, entry.2)

-- a place that isn't before is at least the one that the first such entry names
at_least_first : (pages order : List ℕ) (start end page from rank other : ℕ) → IsRanked pages order start end page from rank → rank < end
    → start ≤ other → other < start + 4096 → other < length pages → (IsBefore pages other page from → ⊥)
    → (other ≡ named order rank) ⊎ IsBefore pages (named order rank) (slice_index pages other) other
at_least_first pages order start end page from rank other ranked some from_start to there not =
    let entry = entry_above pages order start end page from rank other ranked.ordered ranked.starts ranked.ends ranked.ranks from_start to there not in
    elim (eq-or-lt_of_le entry.1) [
      | inl same ↦ inl (sym entry.3 ∙ ap (named order) (sym same))
      | inr less ↦ inr (subst (λ at. IsBefore pages (named order rank) (slice_index pages at) at) entry.3
          (ranked.ordered.rising rank entry.0 less (omega (arith, entry.2, ranked.ends.1))
          (same_part start rank entry.0 ranked.starts ranked.ranks.from (omega (arith, ranked.ends.0)) (omega (arith, entry.1, ranked.ranks.from))
          (omega (arith, entry.2, ranked.ends.0)))))
    ]

-- where the first entry that isn't before is of the page, its place is the first from this one on
pub found_first : (pages order : List ℕ) (start end page from rank place : ℕ) → IsRanked pages order start end page from rank → rank < end
    → place ≡ named order rank → slice_index pages place ≡ page → IsFirstIn pages start page from place
found_first pages order start end page from rank place ranked some is page_is =
    let inside = named_in pages order start rank ranked.ordered ranked.starts ranked.ranks.from
    (omega (arith, ranked.ends.0)) (omega (arith, ranked.ends.1)) in
    let not : IsBefore pages place page from → ⊥ = λ before. ranked.ranks.above rank (omega arith) some (subst (λ at. IsBefore pages at page from) is before) in
    record {
      stands = record { from = omega (arith, inside.0); to = omega (arith, inside.1); there = omega (arith, inside.2); page_is = page_is };
      later = elim (dec_lt place from) [ yes less ↦ absurd (not (inr (page_is, less))) | no more ↦ omega arith ];
      first = λ other stands later. elim (at_least_first pages order start end page from rank other ranked some stands.from stands.to stands.there
          (not_before pages page from other stands.page_is later)) [
            | inl same ↦ omega arith
            | inr earlier ↦ elim (subst (λ at. IsBefore pages at (slice_index pages other) other) (sym is) earlier) [
              | inl less ↦ absurd (omega (arith, page_is, stands.page_is))
              | inr same ↦ omega (arith, same.1)
            ]
          ];
    }

-- where it isn't, no place from this one on is
pub none_first : (pages order : List ℕ) (start end page from rank place : ℕ) → IsRanked pages order start end page from rank → rank < end
    → place ≡ named order rank → (slice_index pages place ≡ page → ⊥) → (other : ℕ) → StandsIn pages start page other → from ≤ other → ⊥
none_first pages order start end page from rank place ranked some is other_page other stands later =
    let not : slice_index pages place < page → ⊥ = λ less. ranked.ranks.above rank (omega arith) some (subst (λ at. IsBefore pages at page from) is (inl less)) in
    elim (at_least_first pages order start end page from rank other ranked some stands.from stands.to stands.there
    (not_before pages page from other stands.page_is later)) [
      | inl same ↦ other_page (ap (slice_index pages) (is ∙ sym same) ∙ stands.page_is)
      | inr earlier ↦ elim (subst (λ at. IsBefore pages at (slice_index pages other) other) (sym is) earlier) [
        | inl lower ↦ not (omega (arith, stands.page_is))
        | inr same ↦ other_page (same.0 ∙ stands.page_is)
      ]
    ]

-- a place of a page above this one isn't before any place of this page
above_not_before : (pages : List ℕ) (after limit other at : ℕ) → slice_index pages at ≡ other → after < other → IsBefore pages at after limit → ⊥
above_not_before pages after limit other at is above (inl less) = omega (arith, is)
above_not_before pages after limit other at is above (inr same) = omega (arith, is, same.0)

-- where no entry is left, the part has no page above this one
pub none_next : (pages order : List ℕ) (start end after rank : ℕ) → IsRanked pages order start end after (length pages) rank → rank ≡ end
    → (other at : ℕ) → StandsIn pages start other at → other ≤ after
none_next pages order start end after rank ranked last other at stands =
    elim (dec_lt after other) [
      | yes above ↦
          let entry = entry_above pages order start end after (length pages) rank at ranked.ordered ranked.starts ranked.ends ranked.ranks
          stands.from stands.to stands.there (above_not_before pages after (length pages) other at stands.page_is above) in
          absurd (omega (arith, entry.1, entry.2))
      | no not ↦ omega arith
    ]

-- the first entry that isn't before is of the least page above this one
pub found_next : (pages order : List ℕ) (start end after rank place : ℕ) → IsRanked pages order start end after (length pages) rank → rank < end
    → place ≡ named order rank → IsNextIn pages start after (slice_index pages place)
found_next pages order start end after rank place ranked some is =
    let inside = named_in pages order start rank ranked.ordered ranked.starts ranked.ranks.from
    (omega (arith, ranked.ends.0)) (omega (arith, ranked.ends.1)) in
    let not : IsBefore pages place after (length pages) → ⊥ = λ before.
    ranked.ranks.above rank (omega arith) some (subst (λ at. IsBefore pages at after (length pages)) is before) in
    let there : place < length pages = omega (arith, inside.2) in
    record {
      place = place;
      stands = record { from = omega (arith, inside.0); to = omega (arith, inside.1); there = there; page_is = refl };
      above = elim (dec_lt after (slice_index pages place)) [
        | yes more ↦ more
        | no few ↦ elim (eq-or-lt_of_le (at_most few)) [ inl same ↦ absurd (not (inr (same, there))) | inr less ↦ absurd (not (inl less)) ]
      ];
      least = λ other at stands above. elim (at_least_first pages order start end after (length pages) rank at ranked some stands.from stands.to stands.there
          (above_not_before pages after (length pages) other at stands.page_is above)) [
            | inl same ↦ at_most_same (ap (slice_index pages) (is ∙ sym same) ∙ stands.page_is)
            | inr earlier ↦ elim (subst (λ it. IsBefore pages it (slice_index pages at) at) (sym is) earlier) [
              | inl less ↦ omega (arith, stands.page_is)
              | inr same ↦ omega (arith, same.0, stands.page_is)
            ]
          ];
    }
  where
    at_most : {one other : ℕ} → (one < other → ⊥) → other ≤ one
    at_most not = omega arith

    at_most_same : {one other : ℕ} → one ≡ other → one ≤ other
    at_most_same same = omega arith
