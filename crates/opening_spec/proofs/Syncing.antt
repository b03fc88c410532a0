-- The logs are synced as an opening begins.
use Rattle.std.proofs.Common.{◌≡◌, ℕ, ◌==◌, Bool, true, false, List, [], ◌∷◌, length, inl, inr, refl, sym, ◌∙◌, ap, subst, arith, Option, Some, None}
use Rattle.std.specs.Prelude.{◌&&◌}
use Rattle.std.proofs.lemmas.Bool.{true≢false}
use Rattle.disk_face.specs.declared.disk.File.{File}
use Rattle.disk_face.specs.declared.disk.File.TheVariants.{Main, Log1, Log2}
use Rattle.disk_face.specs.declared.step.Step.TheVariants.{Synced}
use Rattle.disk_face.specs.Files.{Files, content}
use Rattle.disk_face.specs.Steps.{History, reads, further, after}
use Rattle.disk_face.specs.Image.{MayLeave, same_file}
use Rattle.disk_face.specs.Told.{IsSize}
use Rattle.disk_face.proofs.Images.{same_file-true}
use Rattle.crash_spec.specs.Logs.{IsWhole}
use Rattle.crash_spec.specs.Opening.{Since, rebased}
use Rattle.crash_spec.specs.Passes.{Passes}
use Rattle.crash_spec.proofs.Elsewhere.{sure_elsewhere, whole_elsewhere, whole_synced}
use Rattle.crash_spec.proofs.Headers.{leaves_before_sync, chance_before_sync}
use Rattle.crash_spec.proofs.Passing.{passes_still, passes_step, passes_join, passes_weaker}
use Rattle.crash_spec.proofs.Pieces.{contains_cons, contains_head, contains_tail}
use Rattle.crash_spec.proofs.Rebased.{rebased_reads}
use Rattle.opening_spec.specs.Found.{OpeningView, FoundLog}
use Rattle.opening_spec.specs.States.{IsOpened, IsSyncing, AreSynced, LeavesOpening, is_on_medium, all_synced}
use Rattle.opening_spec.proofs.FoundLaws.{found_elsewhere}
use Rattle.opening_spec.proofs.Synced.{synced_images}

-- a sync of any file writes nothing
pub opened_synced : (view : OpeningView) (one two : FoundLog) (told : History) (file : File) → IsOpened view one two told → IsOpened view one two (further (Synced file) told)
opened_synced view one two told file o = record {
  log1 = found_elsewhere view.opening told Log1 one (Synced file) tt o.log1;
  log2 = found_elsewhere view.opening told Log2 two (Synced file) tt o.log2;
  main = λ place inside none. sure_elsewhere view.opening.before Main (Synced file) told place tt (o.main place inside none);
  fits = o.fits;
  is = o.is;
  sizes = o.sizes;
  keeps = o.keeps;
}

pub syncing_goes : (view : OpeningView) (one two : FoundLog) (synced : List File) (log : File) (told : History) → IsSyncing view one two synced told
    → IsSyncing view one two (log ∷ synced) (further (Synced log) told)
syncing_goes view one two synced log told s = record {
  opened = opened_synced view one two told log s.opened;
  fewer = λ image left chance. s.fewer image (leaves_before_sync view.opening told log image left) (chance_before_sync view.opening told log image chance);
  whole = λ other c. elim (contains_cons log synced other c) [
    | inl same ↦ subst (λ (file : File). IsWhole view.opening (further (Synced log) told) file) same (whole_synced view.opening log told)
    | inr older ↦ whole_elsewhere view.opening other (Synced log) told tt (s.whole other older)
  ];
  each = λ other. each_other other (same_file log other) refl (length (content told.first other) == 0) refl;
}
  where
    each_other : (other : File) (same : Bool) → same_file log other ≡ same → (empty : Bool) → (length (content told.first other) == 0) ≡ empty
        → is_on_medium other (further (Synced log) told) ≡ true → IsWhole view.opening (further (Synced log) told) other
    each_other other true is empty none on =
        subst (λ (file : File). IsWhole view.opening (further (Synced log) told) file) (same_file-true log other is) (whole_synced view.opening log told)
    each_other other false is true none on = whole_elsewhere view.opening other (Synced log) told tt (s.each other (rw none refl))
    each_other other false is false none on = whole_elsewhere view.opening other (Synced log) told tt (s.each other (rw none (rw (none, is) at on)))

-- an empty log needs no sync
pub empty_synced : (view : OpeningView) (one two : FoundLog) (synced : List File) (log : File) (told : History) → length (content (reads told) log) ≡ 0
    → IsSyncing view one two synced told → IsSyncing view one two (log ∷ synced) told
empty_synced view one two synced log told none s = record {
  opened = s.opened;
  fewer = s.fewer;
  whole = λ other c. elim (contains_cons log synced other c) [
    | inl same ↦ subst (λ (file : File). IsWhole view.opening told file) same (λ place inside. absurd (omega arith))
    | inr older ↦ s.whole other older
  ];
  each = s.each;
}

-- both are
pub both_synced : (view : OpeningView) (one two : FoundLog) (told : History) → IsSyncing view one two (Log2 ∷ Log1 ∷ []) told → AreSynced view one two told
both_synced view one two told s = record {
  opened = s.opened;
  whole1 = s.whole Log1 (contains_tail Log2 (Log1 ∷ []) Log1 (contains_head Log1 []));
  whole2 = s.whole Log2 (contains_head Log2 (Log1 ∷ []));
}

both_true : (a b : Bool) → (a && b) ≡ true → (a ≡ true) × (b ≡ true)
both_true true b is = (refl, is)
both_true false b is = absurd (true≢false (sym is))

module _ (view : OpeningView) (one two : FoundLog) (synced : List File) where
  abbrev state : List File → History → Type 0
  state files told = IsSyncing view one two files told

  gives : (files : List File) (told : History) → IsSyncing view one two files told → (image : Files) → MayLeave view.opening.before told image → LeavesOpening view told image
  gives files told s image left = by (all_synced told) refl
    where
      by : (all : Bool) → all_synced told ≡ all → LeavesOpening view told image
      by false is = inr (is, s.fewer image left)
      by true is = inl (synced_images view one two told (record { opened = s.opened; whole1 = s.each Log1 (both_true (is_on_medium Log1 told) (is_on_medium Log2 told) is).0; whole2 = s.each Log2 (both_true (is_on_medium Log1 told) (is_on_medium Log2 told) is).1 }) image left)

  pub sync_still : (old : Option History) → Since view.opening.start (IsSyncing view one two synced) old
      → Passes view.opening (LeavesOpening view) (IsSyncing view one two synced) old old
  sync_still old h = passes_still view.opening (LeavesOpening view) (state synced) (gives synced) old h

  pub sync_step : (log : File) (old : Option History) → Since view.opening.start (IsSyncing view one two synced) old
      → Passes view.opening (LeavesOpening view) (IsSyncing view one two (log ∷ synced)) old (after (Synced log) old)
  sync_step log old h =
      passes_step view.opening (LeavesOpening view) (state synced) (state (log ∷ synced)) (Synced log) (gives synced) (gives (log ∷ synced)) old
      (λ since is s. syncing_goes view one two synced log (rebased view.opening.start since) s) h

  pub sync_empty : (log : File) (size : ℕ) (old : Option History) → size ≡ 0 → IsSize old log size → Since view.opening.start (IsSyncing view one two synced) old
      → Passes view.opening (LeavesOpening view) (IsSyncing view one two (log ∷ synced)) old old
  sync_empty log size old none is h = sync_still_more old (more old is h)
    where
      more : (old : Option History) → IsSize old log size → Since view.opening.start (IsSyncing view one two synced) old → Since view.opening.start (IsSyncing view one two (log ∷ synced)) old
      more None is h = tt
      more (Some told) is (since, grew, s) =
          let same : length (content (reads told) log) ≡ length (content (reads (rebased view.opening.start since)) log) =
          ap (λ (t : History). length (content (reads t) log)) grew ∙ ap (λ (files : Files). length (content files log)) (rebased_reads view.opening.start since) in
          (since, grew, empty_synced view one two synced log (rebased view.opening.start since) (omega arith) s)

      sync_still_more : (old : Option History) → Since view.opening.start (IsSyncing view one two (log ∷ synced)) old
          → Passes view.opening (LeavesOpening view) (IsSyncing view one two (log ∷ synced)) old old
      sync_still_more old h = passes_still view.opening (LeavesOpening view) (state (log ∷ synced)) (gives (log ∷ synced)) old h

-- both logs
module _ (view : OpeningView) (one two : FoundLog) where
  abbrev at : List File → History → Type 0
  at files told = IsSyncing view one two files told

  pub both_done : (old mid new : Option History) → Passes view.opening (LeavesOpening view) (IsSyncing view one two (Log1 ∷ [])) old mid
      → (Since view.opening.start (IsSyncing view one two (Log1 ∷ [])) mid → Passes view.opening (LeavesOpening view) (IsSyncing view one two (Log2 ∷ Log1 ∷ [])) mid new)
      → Passes view.opening (LeavesOpening view) (AreSynced view one two) old new
  both_done old mid new first second =
      passes_weaker view.opening (LeavesOpening view) (LeavesOpening view) (at (Log2 ∷ Log1 ∷ [])) (AreSynced view one two) (λ told image left. left) (both_synced view one two) old new
      (passes_join view.opening (LeavesOpening view) (at (Log1 ∷ [])) (at (Log2 ∷ Log1 ∷ [])) old mid new first (second first.holds))

  pub first_failed : (old mid : Option History) → Passes view.opening (LeavesOpening view) (IsSyncing view one two []) old mid
      → Passes view.opening (LeavesOpening view) (λ told. Unit {0}) old mid
  first_failed old mid first = passes_weaker view.opening (LeavesOpening view) (LeavesOpening view) (at []) (λ told. Unit {0}) (λ told image left. left) (λ told s. tt) old mid first

  pub second_failed : (old mid new : Option History) → Passes view.opening (LeavesOpening view) (IsSyncing view one two (Log1 ∷ [])) old mid
      → (Since view.opening.start (IsSyncing view one two (Log1 ∷ [])) mid → Passes view.opening (LeavesOpening view) (IsSyncing view one two (Log1 ∷ [])) mid new)
      → Passes view.opening (LeavesOpening view) (λ told. Unit {0}) old new
  second_failed old mid new first second =
      passes_weaker view.opening (LeavesOpening view) (LeavesOpening view) (at (Log1 ∷ [])) (λ told. Unit {0}) (λ told image left. left) (λ told s. tt) old new
      (passes_join view.opening (LeavesOpening view) (at (Log1 ∷ [])) (at (Log1 ∷ [])) old mid new first (second first.holds))
