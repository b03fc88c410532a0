-- Which commits of a log its index says to have written a page: those that count as having written it.
use Rattle.std.proofs.Common.{◌≡◌, ◌∙◌, ℕ, zero, suc, ◌+◌, ◌-◌, ◌<◌, ◌≤◌, Bool, true, false, List, [], ◌∷◌, ◌++◌, length, slice_index, get_or, refl, sym, ap, subst, arith, inl, inr, length-append}
use Rattle.std.specs.Prelude.{Contains, if◌then◌else◌}
use Rattle.std.proofs.lemmas.Grind.{flat_map-append}
use Rattle.engine_spec.specs.declared.commits.Commit.{Commit}
use Rattle.engine_spec.specs.TwoLogs.{frames_of}
use Rattle.engine_spec.proofs.Conflicts.{contains_cases, contains_more}
use Rattle.wal_index.specs.Commits.{start_of}
use Rattle.wal_index.specs.Index.{IndexedLog, HasWritten}
use Rattle.wal_rules.specs.Indexing.{HoldsCommits, ends_of, tails_of}
use Rattle.wal_rules.proofs.Places.{around, numbers-length, number-at, end-at, start-at, frame-at}

-- One of some commits has this number, where so many come before them.
pub record IsNumbered (before number : ℕ) (commits : List Commit) : Type 0 where
  pub earlier : List Commit
  pub commit : Commit
  pub later : List Commit
  pub parts : commits ≡ earlier ++ commit ∷ later
  pub number_is : number ≡ before + length earlier + 1

-- a commit of which a frame is of a page wrote it
pub written_by : (log : IndexedLog) (before : ℕ) (commits : List Commit) (page number : ℕ) → HoldsCommits log before commits
    → HasWritten log page number → (found : IsNumbered before number commits) × Contains found.commit.wrote page
written_by log before commits page number holds written =
    let has = written.has in
    let count : length log.numbers ≡ length commits = ap (λ (xs : List ℕ). length xs) holds.numbers ∙ numbers-length (before + 1) (length commits) in
    let at = around commits has.place (omega (arith, has.there, count)) in
    let ends : log.ends ≡ ends_of 0 (at.before ++ at.one ∷ at.after) = holds.ends ∙ ap (ends_of 0) at.parts in
    let from : length (frames_of at.before) < written.frame =
    omega (arith, has.from, start-at at.before at.one at.after, ap (λ (xs : List ℕ). start_of xs has.place) ends, ap (start_of (ends_of 0 (at.before ++ at.one ∷ at.after))) at.place_is) in
    let to : written.frame ≤ length (frames_of at.before) + length at.one.wrote =
    omega (arith, has.to, end-at 0 at.before at.one at.after, ap (λ (xs : List ℕ). slice_index xs has.place) ends, ap (slice_index (ends_of 0 (at.before ++ at.one ∷ at.after))) at.place_is) in
    let place : ℕ = written.frame - 1 - length (frames_of at.before) in
    let within : place < length at.one.wrote = omega (arith, from, to) in
    let is : slice_index at.one.wrote place ≡ page =
    sym (frame-at at.before at.one at.after place within)
    ∙ ap (slice_index (frames_of (at.before ++ at.one ∷ at.after))) (let low = from in back written.frame (length (frames_of at.before)) low)
    ∙ ap (λ (cs : List Commit). slice_index (frames_of cs) (written.frame - 1)) (sym at.parts)
    ∙ ap (λ (xs : List ℕ). slice_index xs (written.frame - 1)) (sym holds.pages)
    ∙ written.is.page_is in
    let number_is : number ≡ before + 1 + has.place =
    sym has.number_is ∙ ap (λ (xs : List ℕ). slice_index xs has.place) holds.numbers
    ∙ number-at (before + 1) (length commits) has.place (omega (arith, has.there, count)) in (
      record {
        earlier = at.before;
        commit = at.one;
        later = at.after;
        parts = at.parts;
        number_is = omega (arith, number_is, at.place_is);
      },
      contains_at at.one.wrote place page within is,
    )
  where
    back : (frame low : ℕ) → low < frame → low + (frame - 1 - low) ≡ frame - 1
    back frame low less = omega arith

    contains_at : (xs : List ℕ) (place x : ℕ) → place < length xs → slice_index xs place ≡ x → Contains xs x
    contains_at xs place x within is = (place, within, same xs place x within is)
      where
        same : (xs : List ℕ) (place x : ℕ) → place < length xs → slice_index xs place ≡ x → get_or xs place x ≡ x
        same [] place x within is = absurd (omega arith)
        same (y ∷ xs) zero x within is = is
        same (y ∷ xs) (suc place) x within is = same xs place x (omega arith) is

-- and a commit that wrote it has such a frame
pub has_written : (log : IndexedLog) (before : ℕ) (commits : List Commit) (page number : ℕ) → HoldsCommits log before commits
    → (found : IsNumbered before number commits) → Contains found.commit.wrote page → HasWritten log page number
has_written log before commits page number holds found (place, within, is) =
    let front = length (frames_of found.earlier) in
    let inside : length found.earlier < length commits =
    omega (arith, ap (λ (cs : List Commit). length cs) found.parts, length-append found.earlier (found.commit ∷ found.later)) in
    let count : length log.numbers ≡ length commits = ap (λ (xs : List ℕ). length xs) holds.numbers ∙ numbers-length (before + 1) (length commits) in
    let ends : log.ends ≡ ends_of 0 (found.earlier ++ found.commit ∷ found.later) = holds.ends ∙ ap (ends_of 0) found.parts in
    let pages : log.pages ≡ frames_of (found.earlier ++ found.commit ∷ found.later) = holds.pages ∙ ap frames_of found.parts in
    let start : start_of log.ends (length found.earlier) ≡ front =
    ap (λ (xs : List ℕ). start_of xs (length found.earlier)) ends ∙ start-at found.earlier found.commit found.later in
    let end : slice_index log.ends (length found.earlier) ≡ front + length found.commit.wrote =
    ap (λ (xs : List ℕ). slice_index xs (length found.earlier)) ends ∙ end-at 0 found.earlier found.commit found.later ∙ omega arith in
    let all : length log.pages ≡ front + (length found.commit.wrote + length (frames_of found.later)) =
    ap (λ (xs : List ℕ). length xs) pages ∙ long found.earlier found.commit found.later in
    record {
      frame = front + place + 1;
      is = record {
        counted = omega arith;
        there = omega (arith, all, within);
        page_is = ap (λ (n : ℕ). slice_index log.pages n) (less_one front place)
            ∙ ap (λ (xs : List ℕ). slice_index xs (front + place)) pages
            ∙ frame-at found.earlier found.commit found.later place within ∙ same found.commit.wrote place page within is;
      };
      has = record {
        place = length found.earlier;
        there = omega (arith, inside, count);
        number_is = ap (λ (xs : List ℕ). slice_index xs (length found.earlier)) holds.numbers
            ∙ number-at (before + 1) (length commits) (length found.earlier) inside ∙ omega (arith, found.number_is);
        from = omega (arith, start);
        to = omega (arith, end, within);
      };
    }
  where
    less_one : (front place : ℕ) → front + place + 1 - 1 ≡ front + place
    less_one front place = omega arith

    same : (xs : List ℕ) (place x : ℕ) → place < length xs → get_or xs place x ≡ x → slice_index xs place ≡ x
    same [] place x within is = absurd (omega arith)
    same (y ∷ xs) zero x within is = is
    same (y ∷ xs) (suc place) x within is = same xs place x (omega arith) is

    long : (earlier : List Commit) (commit : Commit) (later : List Commit)
        → length (frames_of (earlier ++ commit ∷ later)) ≡ length (frames_of earlier) + (length commit.wrote + length (frames_of later))
    long earlier commit later =
        ap (λ (xs : List ℕ). length xs) (flat_map-append (λ (c : Commit). c.wrote) earlier (commit ∷ later))
        ∙ length-append (frames_of earlier) (frames_of (commit ∷ later))
        ∙ ap (λ (n : ℕ). length (frames_of earlier) + n) (length-append commit.wrote (frames_of later))

-- the commits that changed page 1 from byte 100 on
pub tailed_by : (before : ℕ) (commits : List Commit) (number : ℕ) → Contains (tails_of before commits) number
    → (found : IsNumbered before number commits) × (found.commit.tail ≡ true)
tailed_by before [] number there = absurd (let none = there.1 in omega arith)
tailed_by before (commit ∷ commits) number there =
    at commit.tail refl there (λ more. tailed_by (before + 1) commits number more)
  where
    later : (found : IsNumbered (before + 1) number commits) × (found.commit.tail ≡ true)
        → (found : IsNumbered before number (commit ∷ commits)) × (found.commit.tail ≡ true)
    later (found, is) = (
      record {
        earlier = commit ∷ found.earlier;
        commit = found.commit;
        later = found.later;
        parts = ap (λ cs. commit ∷ cs) found.parts;
        number_is = omega (arith, found.number_is);
      },
      is,
    )

    at : (tail : Bool) → commit.tail ≡ tail → Contains (if tail then (before + 1) ∷ tails_of (before + 1) commits else tails_of (before + 1) commits) number
        → (Contains (tails_of (before + 1) commits) number → (found : IsNumbered (before + 1) number commits) × (found.commit.tail ≡ true))
        → (found : IsNumbered before number (commit ∷ commits)) × (found.commit.tail ≡ true)
    at true is there others = elim (contains_cases (before + 1) number (tails_of (before + 1) commits) there) [
      | inl same ↦ (record { earlier = []; commit = commit; later = commits; parts = refl; number_is = omega (arith, same) }, is)
      | inr more ↦ later (others more)
    ]
    at false is there others = later (others there)

pub has_tail : (before : ℕ) (earlier : List Commit) (commit : Commit) (rest : List Commit) → commit.tail ≡ true
    → Contains (tails_of before (earlier ++ commit ∷ rest)) (before + length earlier + 1)
has_tail before [] commit rest is = rw is (0, omega arith, omega arith)
has_tail before (one ∷ earlier) commit rest is =
    at one.tail (subst (λ (n : ℕ). Contains (tails_of (before + 1) (earlier ++ commit ∷ rest)) n) (omega arith) (has_tail (before + 1) earlier commit rest is))
  where
    at : (tail : Bool) → Contains (tails_of (before + 1) (earlier ++ commit ∷ rest)) (before + length (one ∷ earlier) + 1)
        → Contains (if tail then (before + 1) ∷ tails_of (before + 1) (earlier ++ commit ∷ rest) else tails_of (before + 1) (earlier ++ commit ∷ rest)) (before + length (one ∷ earlier) + 1)
    at true there = contains_more (before + 1) (before + length (one ∷ earlier) + 1) (tails_of (before + 1) (earlier ++ commit ∷ rest)) there
    at false there = there
