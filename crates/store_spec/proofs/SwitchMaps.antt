-- The maps on the current log, before and after it becomes the other one.
use Rattle.std.proofs.Common.{◌≡◌, ◌∙◌, ℕ, ◌+◌, ◌-◌, ◌<◌, ◌≤◌, List, [], ◌∷◌, length, take, drop, refl, sym, ap, subst, inl, inr, arith, Contains, All}
use Rattle.std.specs.Prelude.{◌⊎◌}
use Rattle.std.specs.List.{take-map}
use Rattle.std.proofs.Math.Seq.{take-append_seam}
use Rattle.std.proofs.lemmas.Bool.{cases_lt}
use Rattle.std.proofs.lemmas.Grind.{flat_map-append}
use Rattle.std.proofs.lemmas.List.{drop_all, drop-take, take-append-drop, length-take, length-drop}
use Rattle.std.proofs.lemmas.List.Elements.{All-head, All-take, Contains-append_left}
use Rattle.disk_face.specs.Files.{Files}
use Rattle.log_spec.specs.Accept.{Frame, page_number, page_numbers}
use Rattle.log_spec.specs.LogHeader.{LogFields}
use Rattle.crash_spec.specs.Recovered.{page_after_frames, overlaid}
use Rattle.crash_spec.specs.Store.{named_size}
use Rattle.crash_spec.proofs.Switching.{copied_away}
use Rattle.engine_spec.specs.declared.commits.Commit.{Commit}
use Rattle.engine_spec.specs.declared.pins.Readers.{Readers}
use Rattle.engine_spec.specs.TwoLogs.{frames_of}
use Rattle.wal_index.specs.Index.{log_in}
use Rattle.log_pair.specs.Pair.{PairView, switched_pair}
use Rattle.store_spec.specs.Store.{StoreData, current_read, other_read, map_over, map_below, since_of, other_since_of}
use Rattle.store_spec.specs.Pins.{IsFront, mark_at}
use Rattle.store_spec.specs.Standing.{IsWholeStore}
use Rattle.store_spec.proofs.Named.{NamesSize, AllName, named_after}
use Rattle.store_spec.proofs.Switching.{IsAllowed}
use Rattle.store_spec.proofs.Switched.{FrontAlone, current_alone, other_alone, old_all}
use Rattle.store_spec.proofs.SwitchIndex.{other_is_3}
use Rattle.store_spec.proofs.SwitchOpened.{IsReady}

-- the frames of the first commits are the first frames
front_frames : (count : ℕ) (commits : List Commit) → take (length (frames_of (take count commits))) (frames_of commits) ≡ frames_of (take count commits)
front_frames count commits =
    ap (λ (pages : List ℕ). take (length (frames_of (take count commits))) pages)
    (ap frames_of (sym (take-append-drop count commits)) ∙ flat_map-append (λ (commit : Commit). commit.wrote) (take count commits) (drop count commits))
    ∙ take-append_seam (frames_of (take count commits)) (frames_of (drop count commits))

some_first : (commits : List Commit) → All (λ commit. Contains commit.wrote 1) commits → 1 ≤ length commits → Contains (frames_of commits) 1
some_first [] all some = absurd (omega arith)
some_first (commit ∷ commits) all some = Contains-append_left commit.wrote (frames_of commits) 1 (All-head (λ commit. Contains commit.wrote 1) commit commits all)

-- the commits up to the n-th of those behind a number
commits_between : (history : List Commit) (since n : ℕ) → since ≤ n → drop since (take n history) ≡ take (n - since) (drop since history)
commits_between history since n from = ap (λ (m : ℕ). drop since (take m history)) (same since n from) ∙ drop-take since (n - since) history
  where
    same : (since n : ℕ) → since ≤ n → n ≡ since + (n - since)
    same since n from = omega arith

no_frames : (frames : List Frame) → page_numbers frames ≡ [] → frames ≡ []
no_frames [] is = refl
no_frames (frame ∷ rest) is = absurd (let some = ap (λ (pages : List ℕ). length pages) is in omega arith)

-- A front that holds a commit, where the frames read are those of the index.
module _ (kept : StoreData) (whole : IsWholeStore kept) (files : Files) (there : page_numbers (current_read kept.pair files) ≡ (log_in kept.index kept.pair.current).pages) where
  -- page 1 is among the frames of such a front
  pub front_first : (n : ℕ) → since_of kept < n → n ≤ length kept.history
      → Contains (page_numbers (take (mark_at kept.history (since_of kept) n) (current_read kept.pair files))) 1
  front_first n held most =
      let commits : List Commit = drop (since_of kept) kept.history in
      let between : drop (since_of kept) (take n kept.history) ≡ take (n - since_of kept) commits = commits_between kept.history (since_of kept) n (omega arith) in
      let all : page_numbers (current_read kept.pair files) ≡ frames_of commits = there ∙ whole.index.current.pages in
      subst (λ (pages : List ℕ). Contains pages 1)
      (sym (sym (take-map page_number (mark_at kept.history (since_of kept) n) (current_read kept.pair files))
      ∙ ap (take (mark_at kept.history (since_of kept) n)) all
      ∙ ap (λ (cs : List Commit). take (length (frames_of cs)) (frames_of commits)) between
      ∙ front_frames (n - since_of kept) commits))
      (some_first (take (n - since_of kept) commits) (All-take (λ commit. Contains commit.wrote 1) (n - since_of kept) commits whole.index.current.first_pages)
      (omega (arith, length-take (n - since_of kept) commits, length-drop (since_of kept) kept.history)))

  -- and names the page size
  pub front_named : AllName kept.page_size (current_read kept.pair files) → (n : ℕ) → since_of kept < n → n ≤ length kept.history
      → named_size files.main (other_read kept.pair files) (take (mark_at kept.history (since_of kept) n) (current_read kept.pair files)) ≡ kept.page_size
  front_named named n held most =
      named_after kept.page_size (take (mark_at kept.history (since_of kept) n) (current_read kept.pair files)) (page_after_frames (other_read kept.pair files) 1 (take 100 files.main))
      (All-take (NamesSize kept.page_size) (mark_at kept.history (since_of kept) n) (current_read kept.pair files) named) (inl (front_first n held most))

module _ (kept : StoreData) (readers : Readers) (whole : IsWholeStore kept) (allowed : IsAllowed kept readers) where
  -- the current log holds a commit
  pub some_commits : since_of kept < length kept.history
  some_commits = by (cases_lt (since_of kept) (length kept.history))
    where
      by : (since_of kept < length kept.history) ⊎ (length kept.history ≤ since_of kept) → since_of kept < length kept.history
      by (inl less) = less
      by (inr past) =
          absurd (let most = allowed.enough in let some = whole.limit in
          let none = ap (λ (commits : List Commit). length (frames_of commits)) (drop_all (since_of kept) kept.history past) in omega arith)

  -- a front of it holds a commit, or no commit stands before its first
  pub front_some : (n : ℕ) → IsFront kept n → (since_of kept < n) ⊎ (since_of kept ≡ 0)
  front_some n front = elim front.held [
    | inl held ↦ inl held
    | inr other ↦ elim other [
      | inl none ↦ inr none
      | inr all ↦ inl (let some = some_commits in omega arith)
    ]
  ]

  module _ (files : Files) (ready : IsReady kept files) (named : AllName kept.page_size (current_read kept.pair files)) where
    -- where no commit stands before the current log, the other one has no frames
    other_none : since_of kept ≡ 0 → other_read kept.pair files ≡ []
    other_none none =
        no_frames (other_read kept.pair files)
        (ready.other_pages ∙ ap (λ (log : ℕ). (log_in kept.index log).pages) (other_is_3 kept.pair.current whole.pair.which) ∙ whole.index.other.pages
        ∙ ap (λ (n : ℕ). frames_of (drop (other_since_of kept) (take n kept.history))) none ∙ ap frames_of (drop_all (other_since_of kept) [] (omega arith)))

    -- A front of the current log needs no other log below it, since all of that was copied.
    pub front_alone : (n : ℕ) → IsFront kept n
        → map_over kept.pair (mark_at kept.history (since_of kept) n) files ≡ overlaid files.main [] (take (mark_at kept.history (since_of kept) n) (current_read kept.pair files))
    front_alone n front = elim (front_some n front) [
      | inl held ↦
          sym (copied_away kept.page_size files.main (other_read kept.pair files) (take (mark_at kept.history (since_of kept) n) (current_read kept.pair files))
          (front_first kept whole files ready.current_pages n held front.most) ready.copied (front_named kept whole files ready.current_pages named n held front.most))
      | inr none ↦ ap (λ (frames : List Frame). overlaid files.main frames (take (mark_at kept.history (since_of kept) n) (current_read kept.pair files))) (other_none none)
    ]

    -- So it is a front of the other log as soon as that one is current.
    pub front_below : (header : LogFields) (later : Files) (n : ℕ) → FrontAlone kept.pair files later → IsFront kept n
        → map_below (switched_pair kept.pair header) (mark_at kept.history (since_of kept) n) later ≡ map_over kept.pair (mark_at kept.history (since_of kept) n) files
    front_below header later n alone front =
        ap (λ (main : List ℕ). overlaid main [] (take (mark_at kept.history (since_of kept) n) (other_read (switched_pair kept.pair header) later))) alone.main
        ∙ ap (λ (frames : List Frame). overlaid files.main [] (take (mark_at kept.history (since_of kept) n) frames)) (old_all kept.pair header whole.pair.which later ∙ current_alone kept.pair files later alone)
        ∙ sym (front_alone n front)

-- the maps of a store that failed to go over are the same
module _ (pair : PairView) (one other : Files) (alone : FrontAlone pair one other) where
  pub over_alone : (mark : ℕ) → map_over pair mark other ≡ map_over pair mark one
  over_alone mark =
      ap (λ (main : List ℕ). overlaid main (other_read pair other) (take mark (current_read pair other))) alone.main
      ∙ ap (λ (frames : List Frame). overlaid one.main frames (take mark (current_read pair other))) (other_alone pair one other alone)
      ∙ ap (λ (frames : List Frame). overlaid one.main (other_read pair one) (take mark frames)) (current_alone pair one other alone)

  pub below_alone : (mark : ℕ) → map_below pair mark other ≡ map_below pair mark one
  below_alone mark =
      ap (λ (main : List ℕ). overlaid main [] (take mark (other_read pair other))) alone.main
      ∙ ap (λ (frames : List Frame). overlaid one.main [] (take mark frames)) (other_alone pair one other alone)
