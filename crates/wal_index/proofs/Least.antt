-- The least page of a front of a log, part by part.
use Rattle.std.proofs.Common.{◌≡◌, ℕ, ◌+◌, ◌<◌, ◌≤◌, min, List, length, slice_index, Option, Some, None, arith, refl, sym, ◌∙◌}
use Rattle.std.proofs.Math.Decide.{dec_lt}
use Rattle.std.proofs.lemmas.Grind.{get_or_default_zero}
use Rattle.wal_index.specs.Parts.{NextIn, LeastBelow, lesser_of}
use Rattle.wal_index.specs.Frames.{FindsNext}

-- one part more
pub least_on : (pages : List ℕ) (start after : ℕ) (least found : Option ℕ) → LeastBelow pages start after least → NextIn pages start after found
    → LeastBelow pages (start + 4096) after (lesser_of least found)
least_on pages start after None None below here = λ other inside there. elim (dec_lt other start) [
  | yes low ↦ below other low there
  | no high ↦ here (slice_index pages other) other (record { from = omega arith; to = inside; there = there; page_is = refl })
]
least_on pages start after None (Some next) below here = record {
  place = here.place;
  inside = here.stands.to;
  there = here.stands.there;
  page_is = here.stands.page_is;
  above = here.above;
  least = λ other inside there above. elim (dec_lt other start) [
    | yes low ↦ absurd (omega (arith, below other low there))
    | no high ↦ here.least (slice_index pages other) other (record { from = omega arith; to = inside; there = there; page_is = refl }) above
  ];
}
least_on pages start after (Some page) None below here = record {
  place = below.place;
  inside = omega (arith, below.inside);
  there = below.there;
  page_is = below.page_is;
  above = below.above;
  least = λ other inside there above. elim (dec_lt other start) [
    | yes low ↦ below.least other low there above
    | no high ↦ absurd (omega (arith, here (slice_index pages other) other (record { from = omega arith; to = inside; there = there; page_is = refl })))
  ];
}
least_on pages start after (Some page) (Some next) below here = elim (dec_lt page next) [
  | yes less ↦ record {
    place = below.place;
    inside = omega (arith, below.inside);
    there = below.there;
    page_is = below.page_is ∙ least_is less;
    above = omega (arith, below.above, here.above);
    least = λ other inside there above. elim (dec_lt other start) [
      | yes low ↦ omega (arith, below.least other low there above)
      | no high ↦ omega (arith, here.least (slice_index pages other) other (record { from = omega arith; to = inside; there = there; page_is = refl }) above)
    ];
  }
  | no more ↦ record {
    place = here.place;
    inside = here.stands.to;
    there = here.stands.there;
    page_is = here.stands.page_is ∙ least_too more;
    above = omega (arith, below.above, here.above);
    least = λ other inside there above. elim (dec_lt other start) [
      | yes low ↦ omega (arith, below.least other low there above)
      | no high ↦ omega (arith, here.least (slice_index pages other) other (record { from = omega arith; to = inside; there = there; page_is = refl }) above)
    ];
  }
]
  where
    least_is : page < next → page ≡ min page next
    least_is less = omega arith

    least_too : (page < next → ⊥) → next ≡ min page next
    least_too not = omega arith

-- over all frames
pub least_all : (pages : List ℕ) (start after : ℕ) (least : Option ℕ) → length pages ≤ start → LeastBelow pages start after least → FindsNext pages after least
least_all pages start after None whole below = λ other there.
    let is : slice_index pages there.0 ≡ other = sym (get_or_default_zero pages there.0 other there.1) ∙ there.2 in
    omega (arith, below there.0 (omega (arith, there.1)) there.1)
least_all pages start after (Some page) whole below = record {
  there = (below.place, below.there, get_or_default_zero pages below.place page below.there ∙ below.page_is);
  above = below.above;
  least = λ other there above.
      let is : slice_index pages there.0 ≡ other = sym (get_or_default_zero pages there.0 other there.1) ∙ there.2 in
      omega (arith, below.least there.0 (omega (arith, there.1)) there.1 (omega arith));
}
