-- The maps of a store go on to name the page size when a commit is added to the current log, and when the store goes over to the other one.
use Rattle.std.proofs.Common.{◌≡◌, ◌∙◌, ◌⊎◌, inl, inr, ℕ, zero, suc, ◌+◌, ◌-◌, ◌≤◌, ◌<◌, ◌==◌, if◌then◌else◌, List, [], ◌∷◌, ◌++◌, length, take, drop, refl, sym, ap, subst, arith, length-append, Option, Some, take-append-drop}
use Rattle.std.specs.Prelude.{All, Contains}
use Rattle.std.proofs.lemmas.Bool.{cases_lt}
use Rattle.std.proofs.lemmas.Grind.{flat_map-append}
use Rattle.std.proofs.lemmas.List.{length-map, length-take, length-drop, take_all, take_at, take-append-le, drop-take}
use Rattle.std.proofs.lemmas.List.Elements.{All-head, All-take, Contains-append_left}
use Rattle.std.proofs.Math.Seq.{take-nil}
use Rattle.std.specs.List.{take-map}
use Rattle.disk_face.specs.Files.{Files}
use Rattle.disk_face.specs.Steps.{History, reads}
use Rattle.page_spec.specs.Header.{fields_of, page_size_in}
use Rattle.log_spec.specs.Accept.{Frame, page_number, page_numbers}
use Rattle.crash_spec.specs.Recovered.{page_after_frames}
use Rattle.crash_spec.specs.Store.{named_size}
use Rattle.crash_spec.proofs.Overlaid.{held_or_not}
use Rattle.engine_spec.specs.declared.commits.Commit.{Commit}
use Rattle.engine_spec.specs.declared.pins.Readers.{Readers}
use Rattle.engine_spec.specs.TwoLogs.{holders, frames_of}
use Rattle.wal_index.specs.Index.{log_in}
use Rattle.log_pair.specs.Pair.{other_number}
use Rattle.store_spec.specs.Store.{StoreData, current_read, other_read, since_of, other_since_of, two_logs}
use Rattle.store_spec.specs.Pins.{IsFront, IsOlderFront, mark_at}
use Rattle.store_spec.specs.Standing.{IsWholeStore}
use Rattle.store_spec.specs.Named.{AreNamed}
use Rattle.store_spec.specs.Reading.{current_pages, other_pages}

-- the commits of a log, up to the n-th one and behind it
front_split : (commits : List Commit) (since n : ℕ) → since ≤ n → drop since commits ≡ drop since (take n commits) ++ drop n commits
front_split commits zero n le = sym (take-append-drop n commits)
front_split [] (suc since) zero le = absurd (omega arith)
front_split [] (suc since) (suc n) le = refl
front_split (commit ∷ commits) (suc since) zero le = absurd (omega arith)
front_split (commit ∷ commits) (suc since) (suc n) le = front_split commits since n (omega arith)

frames_split : (commits : List Commit) (since n : ℕ) → since ≤ n → frames_of (drop since commits) ≡ frames_of (drop since (take n commits)) ++ frames_of (drop n commits)
frames_split commits since n le =
    ap (λ (cs : List Commit). frames_of cs) (front_split commits since n le) ∙ flat_map-append (λ (commit : Commit). commit.wrote) (drop since (take n commits)) (drop n commits)

mark_within : (commits : List Commit) (since n : ℕ) → since ≤ n → mark_at commits since n ≤ length (frames_of (drop since commits))
mark_within commits since n le =
    omega (arith, ap (λ (pages : List ℕ). length pages) (frames_split commits since n le), length-append (frames_of (drop since (take n commits))) (frames_of (drop n commits)))

-- one commit more leaves the marks of those before it
mark_before : (commits : List Commit) (commit : Commit) (since n : ℕ) → n ≤ length commits → mark_at (commits ++ commit ∷ []) since n ≡ mark_at commits since n
mark_before commits commit since n le = ap (λ (cs : List Commit). length (frames_of (drop since cs))) (take-append-le n commits (commit ∷ []) le)

-- the mark of the newest commit is behind all frames
mark_all : (kept : StoreData) → IsWholeStore kept → mark_at kept.history (since_of kept) (length kept.history) ≡ length (current_pages kept)
mark_all kept whole =
    ap (λ (cs : List Commit). length (frames_of (drop (since_of kept) cs))) (take_all (length kept.history) kept.history (omega arith))
    ∙ sym (ap (λ (pages : List ℕ). length pages) whole.index.current.pages)

-- how many frames the current log has by what reads give
pub counted_read : (kept : StoreData) (files : Files) → page_numbers (current_read kept.pair files) ≡ current_pages kept → length (current_read kept.pair files) ≡ length (current_pages kept)
counted_read kept files same = sym (length-map (current_read kept.pair files) page_number) ∙ ap (λ (pages : List ℕ). length pages) same

-- A commit was added: its frames stand behind those of the current log, all else is as it was, and the newest map names the page size.
pub record HasGrown (kept later : StoreData) (old new : History) (commit : Commit) (more : List Frame) : Type 0 where
  pub history : later.history ≡ kept.history ++ commit ∷ []
  pub since : since_of later ≡ since_of kept
  pub other_since : other_since_of later ≡ other_since_of kept
  pub current : later.pair.current ≡ kept.pair.current
  pub page_size : later.page_size ≡ kept.page_size
  pub main : (reads new).main ≡ (reads old).main
  pub other : other_read later.pair (reads new) ≡ other_read kept.pair (reads old)
  pub frames : current_read later.pair (reads new) ≡ current_read kept.pair (reads old) ++ more
  pub pages : page_numbers (current_read kept.pair (reads old)) ≡ current_pages kept
  pub pages_later : page_numbers (current_read later.pair (reads new)) ≡ current_pages later
  pub newest : named_size (reads new).main (other_read later.pair (reads new)) (current_read later.pair (reads new)) ≡ later.page_size

module _ (kept later : StoreData) (old new : History) (commit : Commit) (more : List Frame) (g : HasGrown kept later old new commit more)
    (whole : IsWholeStore kept) (whole_later : IsWholeStore later) where
  longer : length later.history ≡ length kept.history + 1
  longer = ap (λ (cs : List Commit). length cs) g.history ∙ length-append kept.history (commit ∷ [])

  same_mark : (n : ℕ) → n ≤ length kept.history → mark_at later.history (since_of later) n ≡ mark_at kept.history (since_of kept) n
  same_mark n le =
      ap (λ (cs : List Commit). mark_at cs (since_of later) n) g.history ∙ ap (λ (since : ℕ). mark_at (kept.history ++ commit ∷ []) since n) g.since
      ∙ mark_before kept.history commit (since_of kept) n le

  older_mark : (n : ℕ) → n ≤ length kept.history → mark_at later.history (other_since_of later) n ≡ mark_at kept.history (other_since_of kept) n
  older_mark n le =
      ap (λ (cs : List Commit). mark_at cs (other_since_of later) n) g.history ∙ ap (λ (since : ℕ). mark_at (kept.history ++ commit ∷ []) since n) g.other_since
      ∙ mark_before kept.history commit (other_since_of kept) n le

  -- the frames of an earlier front
  same_front : (n : ℕ) → since_of kept ≤ n → n ≤ length kept.history
      → take (mark_at later.history (since_of later) n) (current_read later.pair (reads new)) ≡ take (mark_at kept.history (since_of kept) n) (current_read kept.pair (reads old))
  same_front n from le =
      let within : mark_at kept.history (since_of kept) n ≤ length (current_read kept.pair (reads old)) =
      omega (arith, mark_within kept.history (since_of kept) n from, counted_read kept (reads old) g.pages, ap (λ (pages : List ℕ). length pages) whole.index.current.pages) in
      ap (λ (mark : ℕ). take mark (current_read later.pair (reads new))) (same_mark n le)
      ∙ ap (λ (frames : List Frame). take (mark_at kept.history (since_of kept) n) frames) g.frames
      ∙ take-append-le (mark_at kept.history (since_of kept) n) (current_read kept.pair (reads old)) more within

  front_before : (n : ℕ) → n ≤ length kept.history → IsFront later n → IsFront kept n
  front_before n le front = record {
    least = omega (arith, front.least, g.since);
    most = le;
    held = elim front.held [
      | inl above ↦ inl (omega (arith, above, g.since))
      | inr (inl none) ↦ inr (inl (sym g.since ∙ none))
      | inr (inr last) ↦ absurd (omega (arith, last, longer, le))
    ];
  }

  older_before : (n : ℕ) → IsOlderFront later n → IsOlderFront kept n
  older_before n front = record {
    least = omega (arith, front.least, g.other_since);
    most = omega (arith, front.most, g.since);
    held = elim front.held [
      | inl above ↦ inl (omega (arith, above, g.other_since))
      | inr none ↦ inr (sym g.other_since ∙ none)
    ];
  }

  pub named_grown : (readers : Readers) → AreNamed (Some old) kept readers → AreNamed (Some new) later readers
  named_grown readers named = record {
    fronts = λ n front. each n front (cases_lt (length kept.history) n);
    older = λ some n front.
        let before : IsOlderFront kept n = older_before n front in
        (λ i. named_size (g.main i) [] (take (older_mark n (omega (arith, before.most, whole.index.are.since)) i) (g.other i)))
        ∙ named.older (subst (λ (current : ℕ). 0 < (if current == 1 then readers.part2 else readers.part1)) g.current some) n before ∙ sym g.page_size;
  }
    where
      each : (n : ℕ) → IsFront later n → (length kept.history < n) ⊎ (n ≤ length kept.history)
          → named_size (reads new).main (other_read later.pair (reads new)) (take (mark_at later.history (since_of later) n) (current_read later.pair (reads new))) ≡ later.page_size
      each n front (inr before) =
          (λ i. named_size (g.main i) (g.other i) (same_front n (omega (arith, front.least, g.since)) before i))
          ∙ named.fronts n (front_before n before front) ∙ sym g.page_size
      each n front (inl last) =
          let is : n ≡ length later.history = omega (arith, front.most, longer, last) in
          let all : mark_at later.history (since_of later) n ≡ length (current_pages later) = ap (λ (m : ℕ). mark_at later.history (since_of later) m) is ∙ mark_all later whole_later in
          ap (λ (frames : List Frame). named_size (reads new).main (other_read later.pair (reads new)) frames)
          (take_all (mark_at later.history (since_of later) n) (current_read later.pair (reads new)) (omega (arith, all, counted_read later (reads new) g.pages_later)))
          ∙ g.newest

no_frames : (frames : List Frame) → page_numbers frames ≡ [] → frames ≡ []
no_frames [] none = refl
no_frames (frame ∷ rest) none = absurd cc

-- where page 1 is among the frames, it doesn't matter what lies below them
named_by : (main : List ℕ) (other frames : List Frame) → Contains (page_numbers frames) 1 → named_size main [] frames ≡ named_size main other frames
named_by main other frames first =
    elim (held_or_not frames 1) [
      | inl held ↦ ap (λ (bytes : List ℕ). page_size_in (fields_of bytes)) (held (take 100 main) (page_after_frames other 1 (take 100 main)))
      | inr (none, leaves) ↦ absurd (none first)
    ]

-- some commits of which each wrote page 1 have a frame of it
writes_first : (commits : List Commit) → 1 ≤ length commits → All (λ commit. Contains commit.wrote 1) commits → Contains (frames_of commits) 1
writes_first [] some all = absurd (omega arith)
writes_first (commit ∷ commits) some all =
    Contains-append_left commit.wrote (frames_of commits) 1 (All-head (λ (c : Commit). Contains c.wrote 1) commit commits all)

-- The store has gone over to its other log, which has no frames; page 1 is among those of the log that was current.
pub record HasGoneOver (kept later : StoreData) (old new : History) : Type 0 where
  pub history : later.history ≡ kept.history
  pub since : since_of later ≡ length kept.history
  pub other_since : other_since_of later ≡ since_of kept
  pub page_size : later.page_size ≡ kept.page_size
  pub main : (reads new).main ≡ (reads old).main
  pub other : other_read later.pair (reads new) ≡ current_read kept.pair (reads old)
  pub frames : current_read later.pair (reads new) ≡ []
  pub pages : page_numbers (current_read kept.pair (reads old)) ≡ current_pages kept
  pub other_pages : page_numbers (other_read kept.pair (reads old)) ≡ other_pages kept
  pub page_1 : Contains (page_numbers (current_read kept.pair (reads old))) 1

module _ (kept later : StoreData) (old new : History) (g : HasGoneOver kept later old new) (whole : IsWholeStore kept) (readers : Readers) (named : AreNamed (Some old) kept readers) where
  abbrev main : List ℕ
  main = (reads old).main

  abbrev was : List Frame
  was = current_read kept.pair (reads old)

  abbrev behind : List Frame
  behind = other_read kept.pair (reads old)

  abbrev mark : ℕ → ℕ
  mark n = mark_at kept.history (since_of kept) n

  -- the front of the log that was current has page 1
  front_pages : (n : ℕ) → since_of kept ≤ n → page_numbers (take (mark n) was) ≡ frames_of (drop (since_of kept) (take n kept.history))
  front_pages n from =
      sym (take-map page_number (mark n) was) ∙ ap (λ (pages : List ℕ). take (mark n) pages) (g.pages ∙ whole.index.current.pages ∙ frames_split kept.history (since_of kept) n from)
      ∙ take_at (frames_of (drop (since_of kept) (take n kept.history))) (frames_of (drop n kept.history)) (mark n) refl

  has_first : (n : ℕ) → since_of kept < n → n ≤ length kept.history → Contains (page_numbers (take (mark n) was)) 1
  has_first n above within =
      subst (λ (pages : List ℕ). Contains pages 1) (sym (front_pages n (omega arith)))
      (writes_first (drop (since_of kept) (take n kept.history))
      (omega (arith, length-drop (since_of kept) (take n kept.history), length-take n kept.history))
      (subst (λ (cs : List Commit). All (λ commit. Contains commit.wrote 1) cs) (sym part)
      (All-take (λ (commit : Commit). Contains commit.wrote 1) (n - since_of kept) (drop (since_of kept) kept.history) whole.index.current.first_pages)))
    where
      part : drop (since_of kept) (take n kept.history) ≡ take (n - since_of kept) (drop (since_of kept) kept.history)
      part =
          ap (λ (m : ℕ). drop (since_of kept) (take m kept.history)) (back n (since_of kept) (omega arith))
          ∙ drop-take (since_of kept) (n - since_of kept) kept.history
        where
          back : (n since : ℕ) → since ≤ n → n ≡ since + (n - since)
          back n since le = omega arith

  -- where no commit stands before the current log's first, the other log has no frames
  none_behind : since_of kept ≡ 0 → behind ≡ []
  none_behind none =
      no_frames behind (g.other_pages ∙ sym (ap (λ (log : ℕ). (log_in kept.index log).pages) (other_is whole.pair.which)) ∙ whole.index.other.pages
      ∙ ap (λ (since : ℕ). frames_of (drop (other_since_of kept) (take since kept.history))) none ∙ nothing (other_since_of kept))
    where
      nothing : (n : ℕ) → frames_of (drop n (take 0 kept.history)) ≡ []
      nothing zero = refl
      nothing (suc n) = refl

      other_is : (kept.pair.current ≡ 1) ⊎ (kept.pair.current ≡ 2) → 3 - kept.pair.current ≡ other_number kept.pair.current
      other_is (inl one) = ap (λ (n : ℕ). 3 - n) one ∙ sym (ap other_number one)
      other_is (inr two) = ap (λ (n : ℕ). 3 - n) two ∙ sym (ap other_number two)

  newest : named_size main behind was ≡ kept.page_size
  newest =
      ap (λ (frames : List Frame). named_size main behind frames)
      (sym (take_all (mark (length kept.history)) was (omega (arith, mark_all kept whole, counted_read kept (reads old) g.pages))))
      ∙ named.fronts (length kept.history) (record { least = whole.index.are.since; most = omega arith; held = inr (inr refl) })

  front_of : (n : ℕ) → n ≤ length kept.history → (since_of kept < n) ⊎ (since_of kept ≡ 0) → named_size main [] (take (mark n) was) ≡ kept.page_size
  front_of n within held =
      elim (cases_lt (since_of kept) n) [
        | inl above ↦
            named_by main behind (take (mark n) was) (has_first n above within)
            ∙ named.fronts n (record { least = omega arith; most = within; held = inl above })
        | inr low ↦
            elim held [
              | inl above ↦ absurd (omega arith)
              | inr none ↦
                  sym (ap (λ (frames : List Frame). named_size main frames (take (mark n) was)) (none_behind none))
                  ∙ named.fronts n (record { least = omega (arith, none); most = within; held = inr (inl none) })
            ]
      ]

  pub named_over : AreNamed (Some new) later readers
  named_over = record {
    fronts = λ n front.
        (λ i. named_size (g.main i) (g.other i) (take (mark_at later.history (since_of later) n) (g.frames i)))
        ∙ ap (λ (frames : List Frame). named_size main was frames) (take-nil (mark_at later.history (since_of later) n))
        ∙ named_by main behind was g.page_1 ∙ newest ∙ sym g.page_size;
    older = λ some n front.
        (λ i. named_size (g.main i) [] (take (mark_at (g.history i) (g.other_since i) n) (g.other i)))
        ∙ front_of n (omega (arith, front.most, g.since))
        (elim front.held [
          | inl above ↦ inl (omega (arith, above, g.other_since))
          | inr none ↦ inr (sym g.other_since ∙ none)
        ])
        ∙ sym g.page_size;
  }

-- A store whose logs have no frames and that has no history yet names its page size in Main.
pub named_bare : (kept : StoreData) (told : History) (readers : Readers) → current_read kept.pair (reads told) ≡ [] → other_read kept.pair (reads told) ≡ []
    → named_size (reads told).main [] [] ≡ kept.page_size → AreNamed (Some told) kept readers
named_bare kept told readers none neither named = record {
  fronts = λ n front.
      (λ i. named_size (reads told).main (neither i) (take (mark_at kept.history (since_of kept) n) (none i)))
      ∙ ap (λ (frames : List Frame). named_size (reads told).main [] frames) (take-nil (mark_at kept.history (since_of kept) n)) ∙ named;
  older = λ some n front.
      (λ i. named_size (reads told).main [] (take (mark_at kept.history (other_since_of kept) n) (neither i)))
      ∙ ap (λ (frames : List Frame). named_size (reads told).main [] frames) (take-nil (mark_at kept.history (other_since_of kept) n)) ∙ named;
}

-- Readers who come to the current log, or go, leave it so.
pub named_held : (told : Option History) (kept : StoreData) (readers others : Readers) → (0 < holders (two_logs kept) others → 0 < holders (two_logs kept) readers)
    → AreNamed told kept readers → AreNamed told kept others
named_held told kept readers others held named = record { fronts = named.fronts; older = λ some. named.older (held some) }
