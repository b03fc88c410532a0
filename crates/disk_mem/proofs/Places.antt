-- Which places of a file a crash may leave with any bytes, step by step.
use Rattle.std.proofs.Common.{◌≡◌, ℕ, ◌+◌, ◌≤◌, ◌<◌, Bool, true, false, not, cond, ◌&&◌, ◌||◌, List, [], ◌∷◌, length, filter, refl, sym, ◌∙◌, ap, arith, ⊎_elim, nat_le, nat_lt, replicate}
use Rattle.std.specs.List.{list_any}
use Rattle.std.proofs.lemmas.List.{ext_get_or, length-replicate, get_or-replicate}
use Rattle.std.proofs.lemmas.List.FromFn.{get_or-map-range_with_len, length-map-range_with_len}
use Rattle.std.proofs.lemmas.List.Elements.{All-head, All-tail}
use Rattle.std.proofs.lemmas.Bool.{false_from_ne_true, false≢true, ltb-true, leb-true, lt-ltb, le-ltb, le-leb, lt-leb, cases_lt}
use Rattle.std.proofs.Math.ListN.{get_or}
use Rattle.disk_face.specs.declared.disk.File.{File}
use Rattle.disk_face.specs.declared.step.Piece.{Piece}
use Rattle.disk_face.specs.declared.step.Step.{Step}
use Rattle.disk_face.specs.declared.step.Step.TheVariants.{Synced}
use Rattle.disk_face.specs.Image.{Range, range_of, same_file, of_others, unsure, IsOutside, IsSure}
use Rattle.disk_face.proofs.Images.{same_file-true}
use Rattle.disk_mem.specs.Crash.{has_place, places}

-- a list of marks is that of some ranges if it is as long and each mark is right
pub places_by_index : (ranges : List Range) (file : File) (count : ℕ) (marks : List Bool) → length marks ≡ count
    → ((place : ℕ) → place < count → get_or marks place false ≡ list_any (has_place file place) ranges) → marks ≡ places ranges file count
places_by_index ranges file count marks same each =
    ext_get_or false marks (places ranges file count) (same ∙ sym (length-map-range_with_len (λ place. list_any (has_place file place) ranges) 0 count))
    (λ place below. let inside : place < count = omega arith in
    each place inside ∙ sym (get_or-map-range_with_len (λ place. list_any (has_place file place) ranges) 0 count place place false inside (omega arith)))

pub places_at : (ranges : List Range) (file : File) (count place : ℕ) → place < count → get_or (places ranges file count) place false ≡ list_any (has_place file place) ranges
places_at ranges file count place inside = get_or-map-range_with_len (λ place. list_any (has_place file place) ranges) 0 count place place false inside (omega arith)

-- one range more
pub places_more : (range : Range) (ranges : List Range) (file : File) (count : ℕ) (marks after : List Bool) → marks ≡ places ranges file count → length after ≡ count
    → ((place : ℕ) → place < count → get_or after place false ≡ (has_place file place range || get_or marks place false)) → after ≡ places (range ∷ ranges) file count
places_more range ranges file count marks after was same each =
    places_by_index (range ∷ ranges) file count after same
    (λ place inside. each place inside ∙ ap (λ mark. has_place file place range || mark) (ap (λ list. get_or list place false) was ∙ places_at ranges file count place inside))

-- a file has no place of another file's range
pub elsewhere : (file : File) (place : ℕ) (range : Range) → same_file range.file file ≡ false → has_place file place range ≡ false
elsewhere file place range other = simp other

not_both : (s a b : Bool) → (not s && ((s && a) && b)) ≡ false
not_both true a b = refl
not_both false a b = refl

kept : (s t a b : Bool) → (s ≡ true → t ≡ false) → (not s && ((t && a) && b)) ≡ ((t && a) && b)
kept false t a b h = refl
kept true t a b h = simp (h refl)

any_one : {X : Type 0} (p : X → Bool) (b : Bool) (x : X) (ys : List X) → list_any p (cond b (x ∷ ys) ys) ≡ ((b && p x) || list_any p ys)
any_one p true x ys = refl
any_one p false x ys = refl

-- a test of those that pass another
pub any_filter : {X : Type 0} (p q : X → Bool) (xs : List X) → list_any p (filter q xs) ≡ list_any (λ x. q x && p x) xs
any_filter p q [] = refl
any_filter p q (x ∷ xs) = any_one p (q x) x (filter q xs) ∙ ap (λ b. (q x && p x) || b) (any_filter p q xs)

pub any_agree : {X : Type 0} (p q : X → Bool) → ((x : X) → p x ≡ q x) → (xs : List X) → list_any p xs ≡ list_any q xs
any_agree p q same [] = refl
any_agree p q same (x ∷ xs) = ap (λ b. b || list_any p xs) (same x) ∙ ap (λ b. q x || b) (any_agree p q same xs)

pub any_none : {X : Type 0} (p : X → Bool) → ((x : X) → p x ≡ false) → (xs : List X) → list_any p xs ≡ false
any_none p none [] = refl
any_none p none (x ∷ xs) = ap (λ b. b || list_any p xs) (none x) ∙ any_none p none xs

none_of_others : (file : File) (place : ℕ) (ranges : List Range) → list_any (has_place file place) (of_others file ranges) ≡ false
none_of_others file place ranges =
    any_filter (has_place file place) (λ range. not (same_file range.file file)) ranges
    ∙ any_none (λ range. not (same_file range.file file) && has_place file place range)
    (λ range. not_both (same_file range.file file) (nat_le range.from place) (nat_lt place (range.from + range.count))) ranges

all_of_others : (other file : File) (place : ℕ) (ranges : List Range) → same_file other file ≡ false
    → list_any (has_place file place) (of_others other ranges) ≡ list_any (has_place file place) ranges
all_of_others other file place ranges apart =
    any_filter (has_place file place) (λ range. not (same_file range.file other)) ranges
    ∙ any_agree (λ range. not (same_file range.file other) && has_place file place range) (has_place file place)
    (λ range. kept (same_file range.file other) (same_file range.file file) (nat_le range.from place) (nat_lt place (range.from + range.count))
    (λ same. ap (λ name. same_file name file) (same_file-true range.file other same) ∙ apart)) ranges

-- a sync of the file
pub places_synced : (ranges : List Range) (file : File) (count : ℕ) (after : List Bool) → after ≡ replicate count false → after ≡ places (of_others file ranges) file count
places_synced ranges file count after cleared =
    places_by_index (of_others file ranges) file count after (ap length cleared ∙ length-replicate count false)
    (λ place inside. ap (λ list. get_or list place false) cleared ∙ get_or-replicate count place false false inside ∙ sym (none_of_others file place ranges))

-- a sync of another file
pub places_kept : (ranges : List Range) (other file : File) (count : ℕ) → same_file other file ≡ false → places ranges file count ≡ places (of_others other ranges) file count
places_kept ranges other file count apart =
    places_by_index (of_others other ranges) file count (places ranges file count) (length-map-range_with_len (λ place. list_any (has_place file place) ranges) 0 count)
    (λ place inside. places_at ranges file count place inside ∙ sym (all_of_others other file place ranges apart))

all_three : (a b c : Bool) → ((a && b) && c) ≡ true → (a ≡ true) × (b ≡ true) × (c ≡ true)
all_three true true true h = (refl, refl, refl)
all_three true true false h = absurd (false≢true h)
all_three true false c h = absurd (false≢true h)
all_three false b c h = absurd (false≢true h)

outside : (file : File) (place : ℕ) (range : Range) → (range.file ≡ file → range.from ≤ place → place < range.from + range.count → ⊥) → has_place file place range ≡ false
outside file place range far = false_from_ne_true (has_place file place range)
    (λ has. let parts = all_three (same_file range.file file) (nat_le range.from place) (nat_lt place (range.from + range.count)) has in
    let from : range.from ≤ place = leb-true range.from place parts.1 in
    let below : place < range.from + range.count = ltb-true place (range.from + range.count) parts.2 in
    far (same_file-true range.file file parts.0) from below)

-- a sure place has no mark
pub sure_place : (ranges : List Range) (file : File) (place : ℕ) → IsSure ranges file place → list_any (has_place file place) ranges ≡ false
sure_place [] file place sure = refl
sure_place (range ∷ ranges) file place sure =
    ap (λ b. b || list_any (has_place file place) ranges) (outside file place range (All-head (IsOutside file place) range ranges sure))
    ∙ sure_place ranges file place (All-tail (IsOutside file place) range ranges sure)

-- a mark of a piece's own file
pub range_marks : (piece : Piece) (file : File) (place : ℕ) (before after : Bool) → same_file piece.file file ≡ true
    → after ≡ (nat_le piece.at place && nat_lt place (piece.at + length piece.bytes) || before) → after ≡ (has_place file place (range_of piece) || before)
range_marks piece file place before after same h = simp same h

-- a mark that is set inside a range alone
pub marked : (from place end : ℕ) (before after : Bool) → (from ≤ place → place < end → after ≡ true) → (place < from → after ≡ before) → (end ≤ place → after ≡ before)
    → after ≡ (nat_le from place && nat_lt place end || before)
marked from place end before after inside ahead behind =
    ⊎_elim (λ below. simp (lt-leb from place below) (ahead below))
    (λ above. ⊎_elim
    (λ below. simp (le-leb from place above, lt-ltb place end below) (inside above below))
    (λ past. simp (le-leb from place above, le-ltb place end past) (behind past))
    (cases_lt place end))
    (cases_lt place from)

-- the marks of a file after a sync of it
pub sync_clears : (step : Step) (synced file : File) (ranges : List Range) (count : ℕ) (after : List Bool) → step ≡ Synced synced → same_file synced file ≡ true
    → after ≡ replicate count false → after ≡ places (unsure ranges (step ∷ [])) file count
sync_clears step synced file ranges count after is same cleared =
    places_synced ranges file count after cleared
    ∙ ap (λ name. places (of_others name ranges) file count) (sym (same_file-true synced file same))
    ∙ ap (λ one. places (unsure ranges (one ∷ [])) file count) (sym is)

-- the marks of a file after a sync of another
pub sync_keeps : (step : Step) (synced file : File) (ranges : List Range) (count : ℕ) (marks : List Bool) → step ≡ Synced synced → same_file synced file ≡ false
    → marks ≡ places ranges file count → marks ≡ places (unsure ranges (step ∷ [])) file count
sync_keeps step synced file ranges count marks is apart was =
    was ∙ places_kept ranges synced file count apart ∙ ap (λ one. places (unsure ranges (one ∷ [])) file count) (sym is)

-- no mark without a range
pub none_marked : (file : File) (count : ℕ) (marks : List Bool) → marks ≡ replicate count false → marks ≡ places [] file count
none_marked file count marks cleared = places_by_index [] file count marks (ap length cleared ∙ length-replicate count false)
    (λ place inside. ap (λ list. get_or list place false) cleared ∙ get_or-replicate count place false false inside)
