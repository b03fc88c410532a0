-- A store stays as it is when a page that the older log holds is written to the database, or a write of it is refused, and when a file is synced.
use Rattle.std.proofs.Common.{◌≡◌, ◌∙◌, ℕ, ◌+◌, ◌-◌, ◌*◌, ◌≤◌, List, length, Option, Some, sym, ap, subst, arith, inl, inr, Bool, true, false}
use Rattle.std.specs.Prelude.{Contains, Result, Ok, Err, OnOk, OnErr, is_ok, if◌then◌else◌, ◌==◌}
use Rattle.disk_face.specs.declared.disk.File.{File}
use Rattle.disk_face.specs.declared.disk.File.TheVariants.{Main}
use Rattle.disk_face.specs.declared.step.Step.{Step}
use Rattle.disk_face.specs.declared.step.Step.TheVariants.{Wrote, Synced}
use Rattle.disk_face.specs.Steps.{History, reads, after}
use Rattle.disk_face.specs.Told.{IsInside, Refuses}
use Rattle.log_spec.specs.Accept.{page_numbers}
use Rattle.crash_spec.specs.Opening.{Opening, Since, grown, rebased}
use Rattle.crash_spec.specs.Store.{StoreView, Holds, Leaves, KeepsStore}
use Rattle.crash_spec.proofs.Passing.{passes_step, passes_refused}
use Rattle.crash_spec.proofs.Rebased.{rebased_reads}
use Rattle.crash_spec.proofs.StoreMoments.{holds_images, keeps_still}
use Rattle.crash_spec.proofs.Copying.{copy_holds, refused_holds, synced_holds}
use Rattle.log_pair.specs.Pair.{PairView, log_of}
use Rattle.checkpoint.specs.Steps.{page_piece, WritesPage}

-- a place that is reached, in the history since an opening
reached_since : (opening : Opening) (old : Option History) (since : List Step) (at : ℕ) → old ≡ Some (grown since opening.start) → IsInside old Main at 0
    → at ≤ length (reads (rebased opening.start since)).main
reached_since opening old since at is inside =
    let here : at + 0 ≤ length (reads (grown since opening.start)).main =
    subst (λ (told : Option History). IsInside told Main at 0) is inside in
    omega (arith, here, ap (λ files. length files.main) (rebased_reads opening.start since))

module _ (opening : Opening) (view : StoreView) (old : Option History) (h : Since opening.start (Holds opening view) old) where
  -- a sync
  pub keeps_synced : (file : File) → KeepsStore opening view old (after (Synced file) old)
  keeps_synced file =
      passes_step opening (Leaves opening view) (Holds opening view) (Holds opening view) (Synced file) (holds_images opening view) (holds_images opening view) old
      (λ since is h. synced_holds opening (rebased opening.start since) view.current view.header view.older view.frames view.pending view.other view.size view.map view.later file h) h

  -- a write of a page that the older log holds
  pub keeps_copied : (page : ℕ) (bytes : List ℕ) → Contains (page_numbers view.other) page → 1 ≤ page → length bytes ≡ view.size
      → IsInside old Main ((page - 1) * view.size) 0 → KeepsStore opening view old (after (Wrote (page_piece page view.size bytes)) old)
  keeps_copied page bytes held from whole inside =
      passes_step opening (Leaves opening view) (Holds opening view) (Holds opening view) (Wrote (page_piece page view.size bytes)) (holds_images opening view)
      (holds_images opening view) old
      (λ since is h. copy_holds opening (rebased opening.start since) view.current view.header view.older view.frames view.pending view.other view.size view.map view.later h page held
      from bytes whole (reached_since opening old since ((page - 1) * view.size) is inside)) h

  -- and one that was refused
  pub keeps_refused : (page : ℕ) (bytes : List ℕ) (new : Option History) → Contains (page_numbers view.other) page → 1 ≤ page → length bytes ≡ view.size
      → IsInside old Main ((page - 1) * view.size) 0 → Refuses (page_piece page view.size bytes) old new → KeepsStore opening view old new
  keeps_refused page bytes new held from whole inside refused =
      passes_refused opening (Leaves opening view) (Holds opening view) (Holds opening view) (page_piece page view.size bytes) (holds_images opening view)
      (holds_images opening view) old new (λ told h. h)
      (λ left within since is h. refused_holds opening (rebased opening.start since) view.current view.header view.older view.frames view.pending view.other view.size view.map view.later h
      page held from bytes whole (reached_since opening old since ((page - 1) * view.size) is inside) left within) h refused

-- by the answer, where pages have the size of the buffer
pub keeps_page : (opening : Opening) (view : StoreView) (ok : Bool) (page size : ℕ) (bytes : List ℕ) (old new : Option History)
    → Since opening.start (Holds opening view) old → view.size ≡ size → Contains (page_numbers view.other) page → 1 ≤ page → length bytes ≡ size
    → IsInside old Main ((page - 1) * size) 0 → WritesPage ok page size bytes old new → KeepsStore opening view old new
keeps_page opening view true page size bytes old new h sized held from whole inside wrote =
    subst (λ (told : Option History). KeepsStore opening view old told)
    (ap (λ (n : ℕ). after (Wrote (page_piece page n bytes)) old) sized ∙ sym wrote)
    (keeps_copied opening view old h page bytes held from (whole ∙ sym sized) (subst (λ (n : ℕ). IsInside old Main ((page - 1) * n) 0) (sym sized) inside))
keeps_page opening view false page size bytes old new h sized held from whole inside (inl same) =
    subst (λ (told : Option History). KeepsStore opening view old told) (sym same) (keeps_still opening view old h)
keeps_page opening view false page size bytes old new h sized held from whole inside (inr (tried, long, refused)) =
    keeps_refused opening view old h page tried new held from (long ∙ sym sized) (subst (λ (n : ℕ). IsInside old Main ((page - 1) * n) 0) (sym sized) inside)
    (subst (λ (n : ℕ). Refuses (page_piece page n tried) old new) (sym sized) refused)

-- a sync, by its answer
pub keeps_sync : {T E : Type 0} (opening : Opening) (view : StoreView) (result : Result T E) (old new : Option History)
    → Since opening.start (Holds opening view) old → OnOk result (new ≡ after (Synced Main) old) → OnErr result (new ≡ old)
    → KeepsStore opening view old new
keeps_sync opening view (Ok done) old new h synced unsynced =
    subst (λ (told : Option History). KeepsStore opening view old told) (sym synced) (keeps_synced opening view old h Main)
keeps_sync opening view (Err why) old new h synced unsynced =
    subst (λ (told : Option History). KeepsStore opening view old told) (sym unsynced) (keeps_still opening view old h)

-- a write at the place of a page, by its answer, after a read that left the disk
pub written_so : {T E : Type 0} (result : Result T E) (at page size : ℕ) (bytes : List ℕ) (old mid new : Option History) → at ≡ (page - 1) * size
    → length bytes ≡ size → mid ≡ old
    → OnOk result (new ≡ after (Wrote (record { file = Main; at = at; bytes = bytes })) mid)
    → OnErr result (Refuses (record { file = Main; at = at; bytes = bytes }) mid new)
    → WritesPage (is_ok result) page size bytes old new
written_so (Ok done) at page size bytes old mid new same whole still written refused =
    written ∙ ap (λ (n : ℕ). after (Wrote (record { file = Main; at = n; bytes = bytes })) mid) same
    ∙ ap (λ (told : Option History). after (Wrote (page_piece page size bytes)) told) still
written_so (Err why) at page size bytes old mid new same whole still written refused =
    inr (
      bytes,
      whole,
      subst (λ (told : Option History). Refuses (page_piece page size bytes) told new) still
          (subst (λ (n : ℕ). Refuses (record { file = Main; at = n; bytes = bytes }) mid new) same refused),
    )

-- the page size is that of each log
pub size_of_log : (log : ℕ) (pair : PairView) (size room : ℕ) → size ≡ pair.one.header.page_size → size ≡ pair.two.header.page_size
    → room ≡ (log_of pair log).header.page_size → size ≡ room
size_of_log log pair size room one two is = go (log == 1) is
  where
    go : (first : Bool) → room ≡ (if first then pair.one else pair.two).header.page_size → size ≡ room
    go true is = one ∙ sym is
    go false is = two ∙ sym is
