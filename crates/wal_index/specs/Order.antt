-- The order in which the frames of each part of a log are kept: a part has 4,096 places, the last one perhaps fewer. Places are
-- counted from 0 over the whole log, and so are the entries of the order: those of a part have the numbers of its places.
use Rattle.std.specs.Prelude.{◌≡◌, ℕ, ◌+◌, ◌*◌, ◌/◌, ◌<◌, ◌≤◌, ◌⊎◌, List, length, slice_index}

-- the first place of the part in which a place lies
abbrev pub part_start : ℕ → ℕ
part_start place = place / 4096 * 4096

-- the place that an entry names: an entry keeps how far into its part that is
abbrev pub named : List ℕ → ℕ → ℕ
named order entry = part_start entry + slice_index order entry

-- the frame at a place comes before a frame of this page at this other place: its page is less, or it is the same and it stands earlier
abbrev pub IsBefore : List ℕ → ℕ → ℕ → ℕ → Type 0
IsBefore pages place page other = (slice_index pages place < page) ⊎ ((slice_index pages place ≡ page) × (place < other))

-- Each part's entries name its places, all of them, by rising page, and those of one page by rising place.
pub record AreOrdered (pages order : List ℕ) : Type 0 where
  pub count : length order ≡ length pages
  pub near : (entry : ℕ) → entry < length pages → slice_index order entry < 4096
  pub within : (entry : ℕ) → entry < length pages → named order entry < length pages
  pub rising : (one other : ℕ) → one < other → other < length pages → part_start one ≡ part_start other
      → IsBefore pages (named order one) (slice_index pages (named order other)) (named order other)
  pub all : (place : ℕ) → place < length pages → (entry : ℕ) × (entry < length pages) × (part_start entry ≡ part_start place) × (named order entry ≡ place)

-- Between a part's first entry and an end in that part this entry parts those before a frame of the page at the place from the others.
pub record IsRank (pages order : List ℕ) (start end page place entry : ℕ) : Type 0 where
  pub from : start ≤ entry
  pub to : entry ≤ end
  pub below : (other : ℕ) → start ≤ other → other < entry → IsBefore pages (named order other) page place
  pub above : (other : ℕ) → entry ≤ other → other < end → IsBefore pages (named order other) page place → ⊥
