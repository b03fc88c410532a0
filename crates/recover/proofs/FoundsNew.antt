-- A new database is founded: its pages are committed, and written to Main.
use Rattle.std.proofs.Common.{◌≡◌, ℕ, ◌+◌, ◌≤◌, Bool, true, false, inr, List, [], length, Option, Some, None, sym, ◌∙◌, ap, subst, arith}
use Rattle.std.specs.Prelude.{IfSome}
use Rattle.disk_face.specs.declared.disk.File.TheVariants.{Log1}
use Rattle.disk_face.specs.Steps.{History, reads}
use Rattle.page_spec.specs.Header.{is_page_size}
use Rattle.page_spec.specs.PageMap.{PageMap}
use Rattle.log_spec.specs.LogHeader.{log_fields}
use Rattle.log_spec.specs.Accept.{Frame}
use Rattle.crash_spec.specs.Opening.{Since}
use Rattle.crash_spec.specs.Passes.{Passes, ByAnswer}
use Rattle.opening_spec.specs.Found.{OpeningView, FoundLog, IsNextHeader, next_log}
use Rattle.opening_spec.specs.States.{AreSynced, IsLaidDown, IsResetting, LeavesMap, LeavesEither}
use Rattle.recover.specs.declared.setup.StoreKind.{StoreKind}
use Rattle.recover.specs.NewPages.{new_count, new_first_page, new_pages, first_then_zeros}
use Rattle.recover.specs.Founding.{HoldFrom, MakesMap, HasFirstCommit, HasFounded, FoundsPages, FailsToFound, later_view, with_first}
use Rattle.recover.proofs.NewPages.{makes_pages, new_length, new_names, new_some}
use Rattle.recover.proofs.Beginnings.{synced_then, long_then, founded_all, founded_not}

-- the pages are written to Main, this one first
abbrev pub LaysFirst : Bool → (first : List ℕ) (count : ℕ) → Option History → Option History → Type 0
LaysFirst ok first count old new =
    (view : OpeningView) (one two : FoundLog) → Since view.opening.start (AreSynced view one two) old → length first ≡ view.size → IfSome old (λ told. length (reads told).main ≡ view.long)
    → two.frames ≡ [] → HoldFrom (first_then_zeros first) 1 one.frames → length one.frames ≡ count → count ≤ length view.map
    → Passes view.opening (LeavesMap view) (ByAnswer ok (IsLaidDown view one two (count + 1)) (AreSynced view one two)) old new

pub all_now : (bytes main : List ℕ) (size most : ℕ) (told : Option History) → IfSome told (λ told. (reads told).main ≡ main) → 100 ≤ size → (log_fields bytes).page_size ≡ size → length main ≤ most
    → IfSome told (λ told. ((reads told).main ≡ main) × (100 ≤ size) × ((log_fields bytes).page_size ≡ size) × (length main ≤ most))
all_now bytes main size most None is big paged room = tt
all_now bytes main size most (Some told) is big paged room = (is, big, paged, room)

module _ (view : OpeningView) (one two : FoundLog) (kind : StoreKind) (bytes first : List ℕ) (count size : ℕ) (old mid : Option History) (sized : length first ≡ view.size) (legal : is_page_size view.size ≡ true)
    (first_is : first ≡ new_first_page kind view.size) (count_is : count ≡ new_count kind) (size_is : size ≡ new_count kind) (big : 100 ≤ view.size) (paged : (log_fields bytes).page_size ≡ view.size)
    (h : Since view.opening.start (IsResetting view Log1 one two None) old) (next : IsNextHeader Log1 one bytes) (none : two.frames ≡ []) (empty : IfSome old (λ told. (reads told).main ≡ [])) where
  abbrev later : PageMap
  later = new_pages kind view.size

  makes : MakesMap [] view.size later (first_then_zeros first) count size
  makes =
      subst (λ (n : ℕ). MakesMap [] view.size later (first_then_zeros first) n size) (sym count_is)
      (subst (λ (n : ℕ). MakesMap [] view.size later (first_then_zeros first) (new_count kind) n) (sym size_is)
      (subst (λ (bs : List ℕ). MakesMap [] view.size later (first_then_zeros bs) (new_count kind) (new_count kind)) (sym first_is) (makes_pages [] kind view.size legal)))

  pub founds_not : FailsToFound bytes (first_then_zeros first) count size old mid → Passes view.opening (LeavesEither view later) (λ told. Unit {0}) old mid
  founds_not fails = fails view later [] one two makes h next none (all_now bytes [] view.size _ old empty big paged (omega arith))

  module _ (again : List ℕ) (pages : ℕ) (new : Option History) (again_is : again ≡ first) (pages_is : pages ≡ new_count kind) (made : FoundsPages bytes (first_then_zeros first) count size old mid) where
    abbrev frames : List Frame
    frames = made.0

    committed : Passes view.opening (LeavesEither view later) (HasFirstCommit view later [] (next_log one) two frames) old mid
    committed = made.3 view later [] one two makes h next none (all_now bytes [] view.size _ old empty big paged (omega arith))

    lays : (ok : Bool) → LaysFirst ok again pages mid new
        → Passes view.opening (LeavesMap (later_view view later [])) (ByAnswer ok (IsLaidDown (later_view view later []) (with_first (next_log one) frames) two (pages + 1)) (AreSynced (later_view view later []) (with_first (next_log one) frames) two)) mid new
    lays ok laying =
        laying (later_view view later []) (with_first (next_log one) frames) two (synced_then view later [] (next_log one) two frames old mid new committed) (ap (λ (xs : List ℕ). length xs) again_is ∙ sized)
        (long_then view later [] (next_log one) two frames old mid new committed) none
        (subst (λ (bs : List ℕ). HoldFrom (first_then_zeros bs) 1 frames) (sym again_is) made.1) (made.2 ∙ count_is ∙ sym pages_is)
        (omega (arith, pages_is, new_length kind view.size))

    pub founds_new : LaysFirst true again pages mid new → Passes view.opening (LeavesEither view later) (HasFounded view later [] (next_log one) two) old new
    founds_new laying =
        let long : pages ≡ length later = pages_is ∙ sym (new_length kind view.size) in
        founded_all view later [] (next_log one) two frames old mid new committed none (subst (λ (n : ℕ). 1 ≤ n) (sym (new_length kind view.size)) (new_some kind)) (inr (new_names kind view.size _))
        (subst (λ (n : ℕ). Passes view.opening (LeavesMap (later_view view later [])) (IsLaidDown (later_view view later []) (with_first (next_log one) frames) two (n + 1)) mid new) long (lays true laying))

    pub lays_not : LaysFirst false again pages mid new → Passes view.opening (LeavesEither view later) (λ told. Unit {0}) old new
    lays_not laying =
        founded_not view later [] (next_log one) two frames old mid new committed (λ told. AreSynced (later_view view later []) (with_first (next_log one) frames) two told) (lays false laying)
