-- Log 1 gets the header behind which the first commit goes; and what stands in Main after it.
use Rattle.std.proofs.Common.{◌≡◌, ℕ, ◌+◌, ◌*◌, ◌%◌, ◌^◌, ◌≤◌, ◌<◌, max, Bool, true, false, inl, inr, List, [], length, Option, Some, None, refl, sym, ◌∙◌, ap, subst, arith}
use Rattle.std.specs.Prelude.{IfSome}
use Rattle.disk_face.specs.declared.disk.File.TheVariants.{Log1, Log2}
use Rattle.disk_face.specs.declared.step.Step.TheVariants.{Wrote, Synced}
use Rattle.disk_face.specs.Files.{Files}
use Rattle.disk_face.specs.Steps.{History, reads, after}
use Rattle.page_spec.specs.PageMap.{PageMap}
use Rattle.log_spec.specs.LogHeader.{LogFields, log_fields}
use Rattle.log_spec.specs.Accept.{Frame}
use Rattle.crash_spec.specs.Opening.{Opening, Since, rebased}
use Rattle.crash_spec.specs.Passes.{Passes}
use Rattle.crash_spec.proofs.Passing.{passes_join, passes_weaker}
use Rattle.crash_spec.proofs.Rebased.{rebased_reads}
use Rattle.wal_frames.specs.Front.{fields_for}
use Rattle.wal_frames.specs.declared.header.LogHeader.{LogHeader}
use Rattle.log_pair.specs.Pair.{PairView, new_pair}
use Rattle.log_pair.specs.Switch.{WritesAndSyncs, front_piece}
use Rattle.log_pair.proofs.Standing.{stands_sealed, since_weaker}
use Rattle.opening_spec.specs.Found.{OpeningView, FoundLog, IsNextHeader, NamesItsSize, IsFirst, next_log}
use Rattle.opening_spec.specs.States.{AreSynced, IsLaidDown, IsResetting, HasReset, IsFounding, LeavesMap, LeavesEither}
use Rattle.opening_spec.proofs.Founding.{founding_begins}
use Rattle.opening_spec.proofs.Settling.{begins_resetting}
use Rattle.recover.specs.Founding.{IsCommitting, HasFirstCommit, HasFounded, Commits, CommitsPages, FailsToCommit, Founds, FoundsPages, FailsToFound, later_view, with_first}
use Rattle.recover.proofs.Resets.{header_passes}

-- what holds of the files now holds in the state too
pub passes_with : (opening : Opening) (Leaves : History → Files → Type 0) (P Q : History → Type 0) (F : Files → Type 0) → ((told : History) → P told → F (reads told) → Q told)
    → (old new : Option History) → IfSome new (λ told. F (reads told)) → Passes opening Leaves P old new → Passes opening Leaves Q old new
passes_with opening Leaves P Q F goes old new f passes = record { each_moment = passes.each_moment; holds = with_files new f passes.holds }
  where
    with_files : (told : Option History) → IfSome told (λ told. F (reads told)) → Since opening.start P told → Since opening.start Q told
    with_files None f h = tt
    with_files (Some told) f (since, grew, p) = (since, grew, goes (rebased opening.start since) p (subst F (ap reads grew ∙ rebased_reads opening.start since) f))

-- a log's header leaves Main
main_still : (bytes main : List ℕ) (A B C : Type 0) (old new : Option History) → new ≡ after (Synced Log1) (after (Wrote (front_piece Log1 bytes)) old) → IfSome old (λ told. ((reads told).main ≡ main) × A × B × C)
    → IfSome new (λ told. ((reads told).main ≡ main) × A × B × C)
main_still bytes main A B C None new step is = subst (λ (told : Option History). IfSome told (λ told. ((reads told).main ≡ main) × A × B × C)) (sym step) tt
main_still bytes main A B C (Some told) new step is = subst (λ (told : Option History). IfSome told (λ told. ((reads told).main ≡ main) × A × B × C)) (sym step) is

one_not_two : Log1 ≡ Log2 → ⊥
one_not_two is = cc

small_rest : (n : ℕ) → n % 2 ^ 32 < 2 ^ 32
small_rest n = omega arith

begun : (view : OpeningView) (later : PageMap) (main : List ℕ) (header other : LogHeader) (bytes : List ℕ) (one two : FoundLog) (told : History) → log_fields bytes ≡ fields_for header → IsNextHeader Log1 one bytes → two.frames ≡ [] → 100 ≤ view.size
    → HasReset view Log1 (log_fields bytes) one two None told → (reads told).main ≡ main → (log_fields bytes).page_size ≡ view.size
    → length main ≤ max (length (reads view.opening.start).main) (length later * view.size) → IsCommitting view later main (new_pair 1 header other) (next_log one) two [] told
begun view later main header other bytes one two told fields next none some has main_is paged room =
    let founding : IsFounding view later (fields_for header) [] (next_log one) two told =
    subst (λ (f : LogFields). IsFounding view later f [] (next_log one) two told) fields (founding_begins view later (log_fields bytes) one two told has none next.salt some paged
    (subst (λ (xs : List ℕ). length xs ≤ max (length (reads view.opening.start).main) (length later * view.size)) (sym main_is) room)) in
    record {
      founding = founding;
      stands = stands_sealed view.opening (new_pair 1 header other) [] told founding.log1 refl refl refl;
      main_is = main_is;
      small = small_rest (one.salt + 1);
    }

pub begins_log : (ok : Bool) (header other : LogHeader) (bytes : List ℕ) (old new : Option History) → log_fields bytes ≡ fields_for header → WritesAndSyncs ok (front_piece Log1 bytes) old new
    → Founds bytes ok (λ view later main one two. IsCommitting view later main (new_pair 1 header other) one two []) old new
begins_log true header other bytes old new fields steps view later main one two h next none main_is =
    passes_weaker view.opening (LeavesMap view) (LeavesEither view later) (IsCommitting view later main (new_pair 1 header other) (next_log one) two []) (IsCommitting view later main (new_pair 1 header other) (next_log one) two [])
    (λ told image leaves chance. (inl (leaves chance).0, (leaves chance).1)) (λ told p. p) old new
    (passes_with view.opening (LeavesMap view) (HasReset view Log1 (log_fields bytes) one two None) (IsCommitting view later main (new_pair 1 header other) (next_log one) two [])
    (λ files. (files.main ≡ main) × (100 ≤ view.size) × ((log_fields bytes).page_size ≡ view.size) × (length main ≤ max (length (reads view.opening.start).main) (length later * view.size)))
    (λ told has same. begun view later main header other bytes one two told fields next none same.1 has same.0 same.2 same.3) old new
    (main_still bytes main (100 ≤ view.size) ((log_fields bytes).page_size ≡ view.size) (length main ≤ max (length (reads view.opening.start).main) (length later * view.size)) old new steps main_is)
    (header_passes true view Log1 one two None bytes next (λ is. absurd (one_not_two is)) old new h steps))
begins_log false header other bytes old new fields steps view later main one two h next none main_is =
    passes_weaker view.opening (LeavesMap view) (LeavesEither view later) (λ told. Unit {0}) (λ told. Unit {0}) (λ told image leaves chance. (inl (leaves chance).0, (leaves chance).1)) (λ told p. p) old new
    (header_passes false view Log1 one two None bytes next (λ is. absurd (one_not_two is)) old new h steps)

-- the commit behind it
pub founds_pages : (bytes : List ℕ) (pair fresh : PairView) (page : ℕ → List ℕ) (count size : ℕ) (old mid new : Option History) → pair ≡ fresh
    → Founds bytes true (λ view later main one two. IsCommitting view later main fresh one two []) old mid → CommitsPages pair page count size mid new → FoundsPages bytes page count size old new
founds_pages bytes pair fresh page count size old mid new is begins (frames, hold, long, commits) = (
  frames,
  hold,
  long,
  λ view later main one two makes h next none main_is.
      let first = begins view later main one two h next none main_is in
      let second = subst (λ (p : PairView). Commits p page count size (λ view map main one two. HasFirstCommit view map main one two frames) mid new) is commits view later main (next_log one) two (λ k. makes) first.holds in
      passes_join view.opening (LeavesEither view later) (λ told. IsCommitting view later main fresh (next_log one) two [] told) (λ told. HasFirstCommit view later main (next_log one) two frames told) old mid new first second,
)

pub fails_founding : (bytes : List ℕ) (pair fresh : PairView) (page : ℕ → List ℕ) (count size : ℕ) (old mid new : Option History) → pair ≡ fresh
    → Founds bytes true (λ view later main one two. IsCommitting view later main fresh one two []) old mid → FailsToCommit pair page count size mid new → FailsToFound bytes page count size old new
fails_founding bytes pair fresh page count size old mid new is begins fails view later main one two makes h next none main_is =
    let first = begins view later main one two h next none main_is in
    let second = subst (λ (p : PairView). FailsToCommit p page count size mid new) is fails view later main (next_log one) two (λ k. makes) first.holds in
    passes_join view.opening (LeavesEither view later) (λ told. IsCommitting view later main fresh (next_log one) two [] told) (λ told. Unit {0}) old mid new first second

-- Main has all of it
either_later : (view : OpeningView) (later : PageMap) (main : List ℕ) (told : History) (image : Files) → LeavesMap (later_view view later main) told image → LeavesEither view later told image
either_later view later main told image leaves chance = (inr (leaves chance).0, (leaves chance).1)

first_is_two : (one two : FoundLog) (told : Option History) → two.frames ≡ [] → IfSome told (λ told. IsFirst (reads told) Log2 one two)
first_is_two one two None none = tt
first_is_two one two (Some told) none = record { is_log = tt; below = inl none }

main_long : (opening : Opening) (P : History → Type 0) (main : List ℕ) (told : Option History) → ((told : History) → P told → (reads told).main ≡ main) → Since opening.start P told → IfSome told (λ told. length (reads told).main ≡ length main)
main_long opening P main None is h = tt
main_long opening P main (Some told) is (since, grew, p) =
    ap (λ (files : Files). length files.main) (ap reads grew ∙ rebased_reads opening.start since) ∙ ap (λ (bytes : List ℕ). length bytes) (is (rebased opening.start since) p)

module _ (view : OpeningView) (later : PageMap) (main : List ℕ) (one two : FoundLog) (frames : List Frame) (old mid new : Option History)
    (first : Passes view.opening (LeavesEither view later) (HasFirstCommit view later main one two frames) old mid) where
  abbrev Committed : History → Type 0
  Committed told = HasFirstCommit view later main one two frames told

  pub synced_then : Since view.opening.start (AreSynced (later_view view later main) (with_first one frames) two) mid
  synced_then = since_weaker view.opening.start Committed (λ told. AreSynced (later_view view later main) (with_first one frames) two told) (λ told c. c.synced) mid first.holds

  pub long_then : IfSome mid (λ told. length (reads told).main ≡ length main)
  long_then = main_long view.opening Committed main mid (λ told c. c.main_is) first.holds

  pub founded_all : two.frames ≡ [] → 1 ≤ length later → NamesItsSize (later_view view later main) (with_first one frames) two
      → Passes view.opening (LeavesMap (later_view view later main)) (IsLaidDown (later_view view later main) (with_first one frames) two (length later + 1)) mid new
      → Passes view.opening (LeavesEither view later) (HasFounded view later main one two) old new
  founded_all none some names laid =
      passes_join view.opening (LeavesEither view later) Committed (λ told. HasFounded view later main one two told) old mid new first
      (record {
        each_moment = (passes_weaker view.opening (LeavesMap (later_view view later main)) (LeavesEither view later) (IsLaidDown (later_view view later main) (with_first one frames) two (length later + 1)) (λ told. Unit {0})
            (λ told image leaves. either_later view later main told image leaves) (λ told p. tt) mid new laid).each_moment;
        holds = since_weaker view.opening.start (λ told. IsResetting (later_view view later main) Log2 (with_first one frames) two None told) (λ told. HasFounded view later main one two told)
            (λ told r. record { frames = frames; resetting = r }) new
            (begins_resetting (later_view view later main) Log2 (with_first one frames) two new some names (first_is_two (with_first one frames) two new none) laid.holds);
      })

  pub founded_not : (P : History → Type 0) → Passes view.opening (LeavesMap (later_view view later main)) P mid new → Passes view.opening (LeavesEither view later) (λ told. Unit {0}) old new
  founded_not P laid =
      passes_join view.opening (LeavesEither view later) Committed (λ told. Unit {0}) old mid new first
      (passes_weaker view.opening (LeavesMap (later_view view later main)) (LeavesEither view later) P (λ told. Unit {0}) (λ told image leaves. either_later view later main told image leaves) (λ told p. tt) mid new laid)
