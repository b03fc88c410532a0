-- Pages are written one after another, by where they stand; and what stays of the files meanwhile.
use Rattle.std.proofs.Common.{◌≡◌, ℕ, ◌+◌, ◌-◌, ◌*◌, ◌≤◌, ◌<◌, Bool, true, false, if◌then◌else◌, List, ◌++◌, length, take, drop, Option, Some, None, refl, sym, ◌∙◌, ap, subst, arith, zero, suc}
use Rattle.std.specs.Prelude.{IfSome, Contains, nat_lt, slice_index_or}
use Rattle.std.proofs.lemmas.List.Elements.{Contains-append_left, Contains-append_right}
use Rattle.disk_face.specs.declared.disk.File.{File}
use Rattle.disk_face.specs.declared.disk.File.TheVariants.{Main, Log1, Log2}
use Rattle.disk_face.specs.declared.step.Step.TheVariants.{Wrote, Synced}
use Rattle.disk_face.specs.Files.{Files, content}
use Rattle.disk_face.specs.Steps.{History, after, reads}
use Rattle.disk_face.specs.Told.{IsInside, IsRead}
use Rattle.disk_face.proofs.Contents.{length-overwritten}
use Rattle.log_spec.specs.LogHeader.{log_fields}
use Rattle.log_spec.specs.Accept.{Frame, page_numbers}
use Rattle.crash_spec.specs.Marks.{IsLog}
use Rattle.crash_spec.specs.Opening.{Since, rebased}
use Rattle.crash_spec.specs.Passes.{Passes}
use Rattle.crash_spec.specs.Recovered.{main_page, page_after_frames}
use Rattle.crash_spec.proofs.Passing.{passes_still}
use Rattle.crash_spec.proofs.Rebased.{rebased_reads}
use Rattle.opening_spec.specs.Found.{OpeningView, FoundLog, older_in, newer_in, pages_held, page_in}
use Rattle.opening_spec.specs.States.{IsWriting, IsLaidDown, LeavesMap, page_piece}
use Rattle.opening_spec.proofs.Synced.{synced_images}
use Rattle.opening_spec.proofs.Written.{page_passed, page_of_both, long_passed}
use Rattle.recover.specs.declared.place.Place.{Place}
use Rattle.recover.specs.declared.place.Place.TheVariants.{InMain, InLog}
use Rattle.recover.specs.Places.{FitsPlace, IsPlaceOf, ArePlacesOf, AreSeen, SameReads, OnlyMain}

-- reads give the same
pub same_at : (old new : Option History) → new ≡ old → SameReads old new
same_at None None is = tt
same_at (Some old) (Some new) is = same old new (ap told_of is)
  where
    told_of : Option History → History
    told_of None = old
    told_of (Some told) = told

    same : (old new : History) → new ≡ old → reads new ≡ reads old
    same old new is = ap (λ (told : History). reads told) is
same_at None (Some new) is = cc
same_at (Some old) None is = cc

pub same_synced : (file : File) (old new : Option History) → new ≡ after (Synced file) old → SameReads old new
same_synced file old new is = subst (λ (told : Option History). SameReads old told) (sym is) (go old)
  where
    go : (old : Option History) → SameReads old (after (Synced file) old)
    go None = tt
    go (Some told) = refl

pub same_join : (old mid new : Option History) → SameReads old mid → SameReads mid new → SameReads old new
same_join None None None one two = tt
same_join (Some old) (Some mid) (Some new) one two = two ∙ one
same_join None (Some mid) new one two = absurd one
same_join (Some old) None new one two = absurd one
same_join None None (Some new) one two = absurd two
same_join (Some old) (Some mid) None one two = absurd two

-- what is said of the files holds on
pub said_still : (P : Files → Type 0) (old new : Option History) → SameReads old new → IfSome old (λ told. P (reads told)) → IfSome new (λ told. P (reads told))
said_still P None None same h = tt
said_still P (Some old) (Some new) same h = subst P (sym same) h
said_still P None (Some new) same h = absurd same
said_still P (Some old) None same h = absurd same

pub only_same : (old new : Option History) → SameReads old new → OnlyMain old new
only_same None None same = tt
only_same (Some old) (Some new) same = (ap (λ (files : Files). files.log1) same, ap (λ (files : Files). files.log2) same, omega (arith, ap (λ (files : Files). length files.main) same))
only_same None (Some new) same = absurd same
only_same (Some old) None same = absurd same

-- a step that writes to Main and makes it no shorter
pub only_wrote : (number size : ℕ) (bytes : List ℕ) (old mid new : Option History) → mid ≡ old → IsInside old Main ((number - 1) * size) 0 → length bytes ≡ size
    → new ≡ after (Wrote (page_piece number (length bytes) bytes)) mid → OnlyMain old new
only_wrote number size bytes old mid new still inside sized wrote =
    subst (λ told. OnlyMain old told) (sym (wrote ∙ ap (λ (n : ℕ). after (Wrote (page_piece number n bytes)) mid) sized ∙ ap (λ told. after (Wrote (page_piece number size bytes)) told) still)) (go old inside)
  where
    go : (old : Option History) → IsInside old Main ((number - 1) * size) 0 → OnlyMain old (after (Wrote (page_piece number size bytes)) old)
    go None inside = tt
    go (Some told) inside = (refl, refl, omega (arith, length-overwritten ((number - 1) * size) bytes (reads told).main (omega arith)))

pub held_by_either : (first : Bool) (one two : List Frame) (number : ℕ)
    → (Contains (page_numbers (if first then one else two)) number → Contains (page_numbers one ++ page_numbers two) number) × (Contains (page_numbers (if first then two else one)) number → Contains (page_numbers one ++ page_numbers two) number)
held_by_either true one two number = (λ c. Contains-append_left (page_numbers one) (page_numbers two) number c, λ c. Contains-append_right (page_numbers one) (page_numbers two) number c)
held_by_either false one two number = (λ c. Contains-append_right (page_numbers one) (page_numbers two) number c, λ c. Contains-append_left (page_numbers one) (page_numbers two) number c)

-- a page that no log holds needs no write
pub place_passed : (view : OpeningView) (one two : FoundLog) (number room : ℕ) (old : Option History) → room ≡ view.size → 1 ≤ number
    → IfSome old (λ told. FitsPlace (reads told) room number InMain) → IfSome old (λ told. IsPlaceOf view one two (reads told) number InMain × (number ≤ length view.map)) → Since view.opening.start (IsWriting view one two number) old
    → Passes view.opening (LeavesMap view) (IsWriting view one two (number + 1)) old old
place_passed view one two number room old sized from fits is h =
    passes_still view.opening (LeavesMap view) (λ told. IsWriting view one two (number + 1) told) (λ told w. synced_images view one two told w.synced) old (more old fits is h)
  where
    more : (old : Option History) → IfSome old (λ told. FitsPlace (reads told) room number InMain) → IfSome old (λ told. IsPlaceOf view one two (reads told) number InMain × (number ≤ length view.map)) → Since view.opening.start (IsWriting view one two number) old
        → Since view.opening.start (IsWriting view one two (number + 1)) old
    more None fits is h = tt
    more (Some told) fits is (since, grew, w) =
        let now : History = rebased view.opening.start since in
        let first : Bool = nat_lt (log_fields (reads now).log1).generation (log_fields (reads now).log2).generation in
        let either = held_by_either first one.frames two.frames number in
        let same : length (reads told).main ≡ length (reads now).main = ap (λ (t : History). length (reads t).main) grew ∙ ap (λ (files : Files). length files.main) (rebased_reads view.opening.start since) in
        let long : number * view.size ≤ length (reads told).main = subst (λ (n : ℕ). number * n ≤ length (reads told).main) sized fits in (
          since,
          grew,
          record {
            synced = w.synced;
            laid = page_passed view.size (reads now).main (older_in (reads now) one two) (newer_in (reads now) one two) number (λ c. is.0 (either.0 c)) (λ c. is.0 (either.1 c)) w.laid;
            long = long_passed view.size view.long number (length (reads now).main) from (omega arith) w.long;
          },
        )

-- what was read is the page
pub place_bytes : (view : OpeningView) (one two : FoundLog) (number : ℕ) (file : File) (at : ℕ) (bytes : List ℕ) (old mid : Option History) → mid ≡ old → length bytes ≡ view.size
    → IsRead old file at bytes → IfSome old (λ told. IsPlaceOf view one two (reads told) number (InLog file at) × (number ≤ length view.map))
    → IfSome mid (λ told. Contains (pages_held one two) number × (bytes ≡ page_in view.size (reads told) one two number) × (number ≤ length view.map))
place_bytes view one two number file at bytes old mid still sized read is =
    subst (λ told. IfSome told (λ told. Contains (pages_held one two) number × (bytes ≡ page_in view.size (reads told) one two number) × (number ≤ length view.map))) (sym still) (go old read is)
  where
    go : (old : Option History) → IsRead old file at bytes → IfSome old (λ told. IsPlaceOf view one two (reads told) number (InLog file at) × (number ≤ length view.map))
        → IfSome old (λ told. Contains (pages_held one two) number × (bytes ≡ page_in view.size (reads told) one two number) × (number ≤ length view.map))
    go None read is = tt
    go (Some told) read is = (is.0.1, read ∙ ap (λ (n : ℕ). take n (drop at (content (reads told) file))) sized ∙ is.0.2, is.1)

-- and Main reaches to the next one
pub wrote_reaches : (number size : ℕ) (bytes : List ℕ) (old mid new : Option History) → mid ≡ old → 1 ≤ number → length bytes ≡ size → IsInside old Main ((number - 1) * size) 0
    → new ≡ after (Wrote (page_piece number (length bytes) bytes)) mid → IsInside new Main (number * size) 0
wrote_reaches number size bytes old mid new still from sized inside wrote =
    subst (λ told. IsInside told Main (number * size) 0) (sym (wrote ∙ ap (λ (n : ℕ). after (Wrote (page_piece number n bytes)) mid) sized ∙ ap (λ told. after (Wrote (page_piece number size bytes)) told) still)) (go old inside)
  where
    go : (old : Option History) → IsInside old Main ((number - 1) * size) 0 → IsInside (after (Wrote (page_piece number size bytes)) old) Main (number * size) 0
    go None inside = tt
    go (Some told) inside =
        omega (arith, length-overwritten ((number - 1) * size) bytes (reads told).main (omega arith), whole number from)
      where
        distribute : (n : ℕ) → n * size + size ≡ suc n * size
        distribute n = grind arith

        whole : (page : ℕ) → 1 ≤ page → (page - 1) * size + size ≡ page * size
        whole zero one = absurd (omega arith)
        whole (suc page) one = let here : suc page - 1 ≡ page = omega arith in rw here (distribute page)

-- the logs stay in each step
pub only_still : (told : Option History) → OnlyMain told told
only_still None = tt
only_still (Some told) = (refl, refl, omega arith)

pub only_join : (old mid new : Option History) → OnlyMain old mid → OnlyMain mid new → OnlyMain old new
only_join None None None one two = tt
only_join (Some old) (Some mid) (Some new) (a1, a2, am) (b1, b2, bm) = (b1 ∙ a1, b2 ∙ a2, omega arith)
only_join None (Some mid) new one two = absurd one
only_join (Some old) None new one two = absurd one
only_join None None (Some new) one two = absurd two
only_join (Some old) (Some mid) None one two = absurd two

same_content : (old new : Files) (log : File) → IsLog log → new.log1 ≡ old.log1 → new.log2 ≡ old.log2 → content new log ≡ content old log
same_content old new Main is is1 is2 = absurd is
same_content old new Log1 is is1 is2 = is1
same_content old new Log2 is is1 is2 = is2

same_order : (view : OpeningView) (one two : FoundLog) (number : ℕ) (old new : Files) → new.log1 ≡ old.log1 → new.log2 ≡ old.log2 → (page : List ℕ)
    → page_after_frames (newer_in old one two) number (page_after_frames (older_in old one two) number page) ≡ page_after_frames (newer_in new one two) number (page_after_frames (older_in new one two) number page)
same_order view one two number old new is1 is2 page = rw (is1, is2) refl

place_same : (view : OpeningView) (one two : FoundLog) (number : ℕ) (place : Place) (old new : Files) → new.log1 ≡ old.log1 → new.log2 ≡ old.log2 → IsPlaceOf view one two old number place → IsPlaceOf view one two new number place
place_same view one two number InMain old new is1 is2 is = is
place_same view one two number (InLog file at) old new is1 is2 (log, held, bytes) = (
  log,
  held,
  ap (λ (bytes : List ℕ). take view.size (drop at bytes)) (same_content old new file log is1 is2) ∙ bytes
      ∙ page_of_both (nat_lt (log_fields old.log1).generation (log_fields old.log2).generation) one.frames two.frames number held (main_page view.size old.main number) (main_page view.size new.main number)
      ∙ same_order view one two number old new is1 is2 (main_page view.size new.main number),
)

pub place_still : (view : OpeningView) (one two : FoundLog) (number : ℕ) (place : Place) (old new : Option History) → OnlyMain old new → IfSome old (λ told. IsPlaceOf view one two (reads told) number place × (number ≤ length view.map))
    → IfSome new (λ told. IsPlaceOf view one two (reads told) number place × (number ≤ length view.map))
place_still view one two number place None None only is = tt
place_still view one two number place None (Some new) only is = absurd only
place_still view one two number place (Some old) None only is = absurd only
place_still view one two number place (Some old) (Some new) (is1, is2, longer) is = (place_same view one two number place (reads old) (reads new) is1 is2 is.0, is.1)

pub place_one : (view : OpeningView) (one two : FoundLog) (places : List Place) (k : ℕ) (none : Place) (told : Option History) → k < length places → IfSome told (λ told. ArePlacesOf view one two (reads told) places × (length places ≤ length view.map))
    → IfSome told (λ told. IsPlaceOf view one two (reads told) (k + 1) (slice_index_or places k none) × (k + 1 ≤ length view.map))
place_one view one two places k none None less fit = tt
place_one view one two places k none (Some told) less fit = (fit.0 k none less, omega (arith, fit.1))

-- the first page
pub first_page : (view : OpeningView) (one two : FoundLog) (old : Option History) → Since view.opening.start (IsWriting view one two 1) old
    → Passes view.opening (LeavesMap view) (IsWriting view one two 1) old old
first_page view one two old h = passes_still view.opening (LeavesMap view) (λ told. IsWriting view one two 1 told) (λ told w. synced_images view one two told w.synced) old h

pub inside_start : (n : ℕ) (told : Option History) → IsInside told Main (0 * n) 0
inside_start n None = tt
inside_start n (Some told) = let none : 0 * n ≡ 0 = grind arith in omega arith

-- Main has a page whole, so it reaches to the next one
pub reaches_whole : (number size : ℕ) (told : Option History) → IfSome told (λ told. FitsPlace (reads told) size number InMain) → IsInside told Main (number * size) 0
reaches_whole number size None fits = tt
reaches_whole number size (Some told) fits = omega arith

-- what was seen of the places
pub seen_places : (view : OpeningView) (one two : FoundLog) (places : List Place) (told : Option History) → IfSome told (λ told. AreSeen view one two places (reads told)) → IfSome told (λ told. ArePlacesOf view one two (reads told) places × (length places ≤ length view.map))
seen_places view one two places None seen = tt
seen_places view one two places (Some told) seen = (seen.standing, omega (arith, seen.count))

pub seen_long : (view : OpeningView) (one two : FoundLog) (places : List Place) (told : Option History) → IfSome told (λ told. AreSeen view one two places (reads told)) → IfSome told (λ told. length (reads told).main ≡ view.long)
seen_long view one two places None seen = tt
seen_long view one two places (Some told) seen = seen.long

-- as many pages as the map has
pub counted_places : (view : OpeningView) (one two : FoundLog) (places : List Place) (old new : Option History) → IfSome old (λ told. AreSeen view one two places (reads told))
    → Passes view.opening (LeavesMap view) (IsLaidDown view one two (length places + 1)) old new → Passes view.opening (LeavesMap view) (IsLaidDown view one two (length view.map + 1)) old new
counted_places view one two places None None seen passes = record { each_moment = tt; holds = tt }
counted_places view one two places None (Some new) seen passes = absurd passes.each_moment
counted_places view one two places (Some old) new seen passes =
    subst (λ (n : ℕ). Passes view.opening (LeavesMap view) (IsLaidDown view one two (n + 1)) (Some old) new) seen.count passes

-- Main reaches as far still
pub reached_still : (at : ℕ) (old new : Option History) → OnlyMain old new → IsInside old Main at 0 → IsInside new Main at 0
reached_still at None None only inside = tt
reached_still at None (Some new) only inside = absurd only
reached_still at (Some old) None only inside = absurd only
reached_still at (Some old) (Some new) (is1, is2, longer) inside = omega arith

-- what doesn't go by the files is said still
pub said_only : (X : Type 0) (old new : Option History) → OnlyMain old new → IfSome old (λ told. X) → IfSome new (λ told. X)
said_only X None None only x = tt
said_only X None (Some new) only x = absurd only
said_only X (Some old) None only x = tt
said_only X (Some old) (Some new) only x = x

pub said_same : (X : Type 0) (old new : Option History) → SameReads old new → IfSome old (λ told. X) → IfSome new (λ told. X)
said_same X None None same x = tt
said_same X None (Some new) same x = absurd same
said_same X (Some old) None same x = tt
said_same X (Some old) (Some new) same x = x
