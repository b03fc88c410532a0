-- The first commit that wrote a page, by the index, is the first by the history.
use Rattle.std.proofs.Common.{◌≡◌, ◌∙◌, ℕ, zero, suc, ◌+◌, ◌-◌, ◌<◌, ◌≤◌, Bool, true, false, eqb, List, [], ◌∷◌, ◌++◌, length, take, drop, get_or, Option, Some, None, refl, sym, ap, subst, arith, inl, inr, length-append}
use Rattle.std.specs.Prelude.{Contains, All, ◌⊎◌, ◌&&◌, ◌||◌, not}
use Rattle.std.specs.List.{list_any}
use Rattle.std.proofs.lemmas.Bool.{eqb-true}
use Rattle.std.proofs.lemmas.List.{drop-append-le, take-append-drop, append_assoc, length-drop, length-take-le}
use Rattle.std.proofs.Math.Decide.{dec_lt}
use Rattle.engine_spec.specs.declared.commits.Commit.{Commit}
use Rattle.engine_spec.specs.History.{counts, is_written, first_writer}
use Rattle.engine_spec.specs.TwoLogs.{TwoLogs, other_log}
use Rattle.engine_spec.proofs.Conflicts.{no_writer, writer_at}
use Rattle.engine_spec.proofs.Laying.{any_there}
use Rattle.wal_index.specs.Index.{Indexed, IndexedLog, log_in, Wrote, by_tail, FirstWriterOfBoth}
use Rattle.wal_rules.specs.Indexing.{HoldsCommits, IsIndexOf, tails_of}
use Rattle.wal_rules.specs.Rules.{mode_of}
use Rattle.wal_rules.proofs.Held.{IsNumbered, written_by, has_written, tailed_by, has_tail}

-- a page that a test finds is in the list
there_any : (xs : List ℕ) (q : ℕ) → list_any (λ p. eqb p q) xs ≡ true → Contains xs q
there_any [] q found = absurd cc
there_any (x ∷ xs) q found = at (eqb x q) refl found (λ more. there_any xs q more)
  where
    at : (same : Bool) → eqb x q ≡ same → (same || list_any (λ p. eqb p q) xs) ≡ true → (list_any (λ p. eqb p q) xs ≡ true → Contains xs q)
        → Contains (x ∷ xs) q
    at true is found later = (zero, omega arith, eqb-true x q is)
    at false is found later = (let more = later found in (suc more.0, omega arith, more.2))

-- A commit that counts as having written a page is one of those that the index names, and the other way round: `tail` says that the page is
-- page 1 and doesn't count as a whole.
counts_wrote : (whole : Bool) (page : ℕ) (commit : Commit) → counts (mode_of whole) page commit ≡ true → Contains commit.wrote page
counts_wrote true page commit is = there_any commit.wrote page is
counts_wrote false page commit is = there_any commit.wrote page (first_of (list_any (λ p. eqb p page) commit.wrote) _ is)
  where
    first_of : (one other : Bool) → (one && other) ≡ true → one ≡ true
    first_of true other is = refl
    first_of false other is = is

counts_tail : (whole : Bool) (page : ℕ) (commit : Commit) → by_tail page whole ≡ true → counts (mode_of whole) page commit ≡ true → commit.tail ≡ true
counts_tail true page commit tail is = absurd (go (eqb page 1) tail)
  where
    go : (first : Bool) → (first && false) ≡ true → ⊥
    go true e = absurd cc
    go false e = absurd cc
counts_tail false page commit tail is = go (eqb page 1) (list_any (λ p. eqb p page) commit.wrote) commit.tail tail is
  where
    go : (first wrote tail : Bool) → (first && true) ≡ true → (wrote && (tail || not first)) ≡ true → tail ≡ true
    go true true true e is = refl
    go true true false e is = is
    go true false tail e is = absurd cc
    go false wrote tail e is = absurd cc

wrote_counts : (whole : Bool) (page : ℕ) (commit : Commit) → by_tail page whole ≡ false → Contains commit.wrote page → counts (mode_of whole) page commit ≡ true
wrote_counts true page commit tail there = any_there commit.wrote page there
wrote_counts false page commit tail there = go (eqb page 1) (list_any (λ p. eqb p page) commit.wrote) commit.tail tail (any_there commit.wrote page there)
  where
    go : (first wrote tail : Bool) → (first && true) ≡ false → wrote ≡ true → (wrote && (tail || not first)) ≡ true
    go true wrote tail e is = absurd cc
    go false wrote true e is = rw is refl
    go false wrote false e is = rw is refl

tail_counts : (whole : Bool) (page : ℕ) (commit : Commit) → by_tail page whole ≡ true → Contains commit.wrote 1 → commit.tail ≡ true
    → counts (mode_of whole) page commit ≡ true
tail_counts true page commit tail there is = absurd (go (eqb page 1) tail)
  where
    go : (first : Bool) → (first && false) ≡ true → ⊥
    go true e = absurd cc
    go false e = absurd cc
tail_counts false page commit tail there is = at (eqb page 1) refl tail
  where
    at : (first : Bool) → eqb page 1 ≡ first → (first && true) ≡ true → (list_any (λ p. eqb p page) commit.wrote && (commit.tail || not (eqb page 1))) ≡ true
    at true one e =
        let wrote : list_any (λ p. eqb p page) commit.wrote ≡ true = subst (λ (n : ℕ). list_any (λ p. eqb p n) commit.wrote ≡ true) (sym (eqb-true page 1 one)) (any_there commit.wrote 1 there) in
        rw (wrote, is) refl
    at false one e = absurd cc

-- One commit of a history, and how many stand before it.
record Split (history : List Commit) : Type 0 where
  earlier : List Commit
  commit : Commit
  later : List Commit
  parts : history ≡ earlier ++ commit ∷ later

-- a commit that a log's index names is one of the log's that counts
names : (tail whole : Bool) (page number before : ℕ) (log : IndexedLog) (commits : List Commit) → by_tail page whole ≡ tail
    → HoldsCommits log before commits → Wrote tail log page number
    → (found : IsNumbered before number commits) × (counts (mode_of whole) page found.commit ≡ true)
names true whole page number before log commits is holds wrote =
    let found = tailed_by before commits number (subst (λ (xs : List ℕ). Contains xs number) holds.tails wrote) in
    (found.0, tail_counts whole page found.0.commit is (first_of commits found.0.earlier found.0.commit found.0.later found.0.parts holds.first_pages) found.1)
  where
    first_of : (commits earlier : List Commit) (commit : Commit) (later : List Commit) → commits ≡ earlier ++ commit ∷ later
        → All (λ c. Contains c.wrote 1) commits → Contains commit.wrote 1
    first_of commits earlier commit later parts all =
        subst (λ (c : Commit). Contains c.wrote 1)
        (ap (λ (cs : List Commit). get_or cs (length earlier) commit) parts ∙ seam earlier commit later)
        (all (length earlier) commit (omega (arith, ap (λ (cs : List Commit). length cs) parts, length-append earlier (commit ∷ later))))
      where
        seam : (earlier : List Commit) (commit : Commit) (later : List Commit) → get_or (earlier ++ commit ∷ later) (length earlier) commit ≡ commit
        seam [] commit later = refl
        seam (one ∷ earlier) commit later = seam earlier commit later
names false whole page number before log commits is holds wrote =
    let found = written_by log before commits page number holds wrote in
    (found.0, wrote_counts whole page found.0.commit is found.1)

-- and one of the log's that counts is named
named : (tail whole : Bool) (page number before : ℕ) (log : IndexedLog) (commits : List Commit) → by_tail page whole ≡ tail
    → HoldsCommits log before commits → (found : IsNumbered before number commits) → counts (mode_of whole) page found.commit ≡ true
    → Wrote tail log page number
named true whole page number before log commits is holds found counted =
    subst (λ (xs : List ℕ). Contains xs number) (sym holds.tails)
    (subst (λ (cs : List Commit). Contains (tails_of before cs) number) (sym found.parts)
    (subst (λ (n : ℕ). Contains (tails_of before (found.earlier ++ found.commit ∷ found.later)) n) (sym found.number_is)
    (has_tail before found.earlier found.commit found.later (counts_tail whole page found.commit is counted))))
named false whole page number before log commits is holds found counted =
    has_written log before commits page number holds found (counts_wrote whole page found.commit counted)

-- either log of two
module _ (index : Indexed) (tail : Bool) (page number : ℕ) where
  either_log : (current : ℕ) → (current ≡ 1) ⊎ (current ≡ 2) → Wrote tail (log_in index current) page number ⊎ Wrote tail (log_in index (3 - current)) page number
      → Wrote tail index.log1 page number ⊎ Wrote tail index.log2 page number
  either_log current (inl one) (inl wrote) = inl (subst (λ (n : ℕ). Wrote tail (log_in index n) page number) one wrote)
  either_log current (inl one) (inr wrote) = inr (subst (λ (n : ℕ). Wrote tail (log_in index (3 - n)) page number) one wrote)
  either_log current (inr two) (inl wrote) = inr (subst (λ (n : ℕ). Wrote tail (log_in index n) page number) two wrote)
  either_log current (inr two) (inr wrote) = inl (subst (λ (n : ℕ). Wrote tail (log_in index (3 - n)) page number) two wrote)

  of_current : (current : ℕ) → (current ≡ 1) ⊎ (current ≡ 2) → Wrote tail index.log1 page number ⊎ Wrote tail index.log2 page number
      → Wrote tail (log_in index current) page number ⊎ Wrote tail (log_in index (3 - current)) page number
  of_current current (inl one) (inl wrote) = inl (subst (λ (n : ℕ). Wrote tail (log_in index n) page number) (sym one) wrote)
  of_current current (inl one) (inr wrote) = inr (subst (λ (n : ℕ). Wrote tail (log_in index (3 - n)) page number) (sym one) wrote)
  of_current current (inr two) (inl wrote) = inr (subst (λ (n : ℕ). Wrote tail (log_in index (3 - n)) page number) (sym two) wrote)
  of_current current (inr two) (inr wrote) = inl (subst (λ (n : ℕ). Wrote tail (log_in index n) page number) (sym two) wrote)

-- a commit of a history that has so many before it, among those behind the first ones
abbrev numbered_behind : (history earlier : List Commit) (commit : Commit) (later : List Commit) (since : ℕ) → history ≡ earlier ++ commit ∷ later
    → since ≤ length earlier → IsNumbered since (length earlier + 1) (drop since history)
numbered_behind history earlier commit later since parts behind = record {
  earlier = drop since earlier;
  commit = commit;
  later = later;
  parts = ap (drop since) parts ∙ drop-append-le since earlier (commit ∷ later) behind;
  number_is = omega (arith, length-drop since earlier, behind);
}

-- and the other way round: a commit behind the first ones is one of the history
split_behind : (history : List Commit) (since number : ℕ) → since ≤ length history → (found : IsNumbered since number (drop since history))
    → (earlier : List Commit) × (later : List Commit) × (history ≡ earlier ++ found.commit ∷ later) × (number ≡ length earlier + 1)
split_behind history since number within found = (
  take since history ++ found.earlier,
  found.later,
  sym (take-append-drop since history) ∙ ap (λ (cs : List Commit). take since history ++ cs) found.parts
      ∙ sym (append_assoc (take since history) found.earlier (found.commit ∷ found.later)),
  omega (arith, length-append (take since history) found.earlier, length-take-le since history within, found.number_is),
)

module _ (whole : Bool) (page : ℕ) (index : Indexed) (logs : TwoLogs) (history : List Commit) (is : IsIndexOf index logs history) where
  abbrev tail : Bool
  tail = by_tail page whole

  -- a commit that both logs may hold and that counts is named
  all_named : (earlier : List Commit) (commit : Commit) (later : List Commit) → history ≡ earlier ++ commit ∷ later → logs.other_since ≤ length earlier
      → counts (mode_of whole) page commit ≡ true → Wrote tail index.log1 page (length earlier + 1) ⊎ Wrote tail index.log2 page (length earlier + 1)
  all_named earlier commit later parts behind counted =
      either_log index tail page (length earlier + 1) logs.current is.are.current (elim (dec_lt (length earlier) logs.since) [
        | yes before ↦ inr (named tail whole page (length earlier + 1) logs.other_since (log_in index (other_log logs)) (drop logs.other_since (take logs.since history)) refl is.other
            (numbered_behind (take logs.since history) earlier commit (take (logs.since - (length earlier + 1)) later) logs.other_since
            (ap (take logs.since) parts ∙ take_in earlier commit later logs.since before) behind) counted)
        | no after ↦ inl (named tail whole page (length earlier + 1) logs.since (log_in index logs.current) (drop logs.since history) refl is.current
            (numbered_behind history earlier commit later logs.since parts (omega (arith, after))) counted)
      ])
    where
      take_in : (earlier : List Commit) (commit : Commit) (later : List Commit) (since : ℕ) → length earlier < since
          → take since (earlier ++ commit ∷ later) ≡ earlier ++ commit ∷ take (since - (length earlier + 1)) later
      take_in [] commit later zero less = absurd (omega arith)
      take_in [] commit later (suc since) less = ap (λ (n : ℕ). commit ∷ take n later) (one_less since)
        where
          one_less : (since : ℕ) → since ≡ suc since - (0 + 1)
          one_less since = omega arith
      take_in (one ∷ earlier) commit later zero less = absurd (omega arith)
      take_in (one ∷ earlier) commit later (suc since) less =
          ap (λ (cs : List Commit). one ∷ cs) (take_in earlier commit later since (omega arith)
          ∙ ap (λ (n : ℕ). earlier ++ commit ∷ take n later) (same since (length earlier)))
        where
          same : (since many : ℕ) → since - (many + 1) ≡ suc since - (suc many + 1)
          same since many = omega arith

  -- a commit that is named is one of the history that counts
  is_one : (number : ℕ) → Wrote tail index.log1 page number ⊎ Wrote tail index.log2 page number
      → (earlier : List Commit) × (commit : Commit) × (later : List Commit) × (history ≡ earlier ++ commit ∷ later) × (number ≡ length earlier + 1)
      × (counts (mode_of whole) page commit ≡ true)
  is_one number wrote = elim (of_current index tail page number logs.current is.are.current wrote) [
    | inl now ↦
        let found = names tail whole page number logs.since (log_in index logs.current) (drop logs.since history) refl is.current now in
        let split = split_behind history logs.since number is.are.since found.0 in
        (split.0, found.0.commit, split.1, split.2, split.3, found.1)
    | inr other ↦
        let found = names tail whole page number logs.other_since (log_in index (other_log logs)) (drop logs.other_since (take logs.since history)) refl is.other other in
        let split = split_behind (take logs.since history) logs.other_since number
        (omega (arith, length-take-le logs.since history is.are.since, is.are.other_since)) found.0 in (
          split.0,
          found.0.commit,
          split.1 ++ drop logs.since history,
          sym (take-append-drop logs.since history) ∙ ap (λ (cs : List Commit). cs ++ drop logs.since history) split.2
              ∙ append_assoc split.0 (found.0.commit ∷ split.1) (drop logs.since history),
          split.3,
          found.1,
        )
  ]

-- no commit counts where each that does is refuted
none_written : (whole : Bool) (page : ℕ) (commits : List Commit)
    → ((earlier : List Commit) (commit : Commit) (later : List Commit) → commits ≡ earlier ++ commit ∷ later → counts (mode_of whole) page commit ≡ true → ⊥)
    → is_written (mode_of whole) page commits ≡ false
none_written whole page [] none = refl
none_written whole page (commit ∷ commits) none =
    at (counts (mode_of whole) page commit) refl
    (none_written whole page commits (λ earlier one later parts counted. none (commit ∷ earlier) one later (ap (λ cs. commit ∷ cs) parts) counted))
  where
    at : (counted : Bool) → counts (mode_of whole) page commit ≡ counted → is_written (mode_of whole) page commits ≡ false
        → (counted || is_written (mode_of whole) page commits) ≡ false
    at true is others = absurd (none [] commit commits refl is)
    at false is others = others

-- The first commit after the n-th that the index names is the first that the history has.
pub first_is : (whole : Bool) (page : ℕ) (index : Indexed) (logs : TwoLogs) (history : List Commit) (n : ℕ) (found : Option ℕ)
    → IsIndexOf index logs history → logs.other_since ≤ n → n ≤ length history → FirstWriterOfBoth (by_tail page whole) index n page found
    → found ≡ first_writer (mode_of whole) page n (drop n history)
first_is whole page index logs history n None is behind within found =
    sym (no_writer (mode_of whole) page n (drop n history) (none_written whole page (drop n history) (λ earlier commit later parts counted.
    let wrote = all_named whole page index logs history is (take n history ++ earlier) commit later
    (sym (take-append-drop n history) ∙ ap (λ (cs : List Commit). take n history ++ cs) parts ∙ sym (append_assoc (take n history) earlier (commit ∷ later)))
    (omega (arith, length-append (take n history) earlier, length-take-le n history within)) counted in
    let low = found (length (take n history ++ earlier) + 1) wrote in
    omega (arith, low, length-append (take n history) earlier, length-take-le n history within))))
first_is whole page index logs history n (Some number) is behind within found =
    let one = is_one whole page index logs history is number found.wrote in
    let after = found.above in
    let long : n ≤ length one.0 = omega (arith, after, one.4) in
    let parts : drop n history ≡ drop n one.0 ++ one.1 ∷ one.2 = ap (drop n) one.3 ∙ drop-append-le n one.0 (one.1 ∷ one.2) long in
    let first : is_written (mode_of whole) page (drop n one.0) ≡ false =
    none_written whole page (drop n one.0) (λ earlier commit later split counted.
    let front : one.0 ≡ (take n one.0 ++ earlier) ++ commit ∷ later =
    sym (take-append-drop n one.0) ∙ ap (λ (cs : List Commit). take n one.0 ++ cs) split ∙ sym (append_assoc (take n one.0) earlier (commit ∷ later)) in
    let wrote = all_named whole page index logs history is (take n one.0 ++ earlier) commit (later ++ one.1 ∷ one.2)
    (one.3 ∙ ap (λ (cs : List Commit). cs ++ one.1 ∷ one.2) front ∙ append_assoc (take n one.0 ++ earlier) (commit ∷ later) (one.1 ∷ one.2))
    (omega (arith, length-append (take n one.0) earlier, length-take-le n one.0 long)) counted in
    let above : n < length (take n one.0 ++ earlier) + 1 = omega (arith, length-append (take n one.0) earlier, length-take-le n one.0 long) in
    let least : number ≤ length (take n one.0 ++ earlier) + 1 = elim wrote [
      | inl in1 ↦ found.first1 (length (take n one.0 ++ earlier) + 1) in1 above
      | inr in2 ↦ found.first2 (length (take n one.0 ++ earlier) + 1) in2 above
    ] in
    omega (arith, least, one.4, ap (λ (cs : List Commit). length cs) front, length-append (take n one.0 ++ earlier) (commit ∷ later))) in
    ap Some (omega (arith, one.4, length-drop n one.0, long))
    ∙ sym (writer_at (mode_of whole) page n (drop n one.0) one.1 one.2 first one.5)
    ∙ ap (first_writer (mode_of whole) page n) (sym parts)
