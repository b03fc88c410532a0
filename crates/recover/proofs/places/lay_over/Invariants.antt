use Rattle.std.proofs.Common.{◌≡◌, ◌+◌, ◌<◌, ℕ, length, slice_index_or, drop}
use Rattle.recover.specs.declared.place.Place.{Place}
use Rattle.recover.specs.Looking.{place_after}
use Rattle.recover.proofs.places.lay_over.Given as goal

abbrev pub invariant-loop-frame : goal.invariant-loop-frame
invariant-loop-frame l = record {
  count : length l.places ≡ length l.fn.places;
  each : (k : ℕ) (none : Place) → k < length l.fn.places
      → place_after l.log l.size l.frame (drop l.frame l.pages) (k + 1) (slice_index_or l.places k none) ≡ place_after l.log l.size 0 l.pages (k + 1) (slice_index_or l.fn.places k none);
}
