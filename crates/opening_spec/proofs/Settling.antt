-- The parts of an opening, one after another.
use Rattle.std.proofs.Common.{◌≡◌, ℕ, ◌+◌, ◌-◌, ◌*◌, ◌/◌, ◌≤◌, Bool, true, false, if◌then◌else◌, List, [], length, Option, Some, None, refl, sym, ◌∙◌, ap, subst, arith, inl, inr}
use Rattle.std.specs.Prelude.{IfSome, nat_lt, Contains, ◌++◌}
use Rattle.disk_face.specs.declared.disk.File.{File}
use Rattle.disk_face.specs.declared.disk.File.TheVariants.{Main, Log1, Log2}
use Rattle.disk_face.specs.Files.{Files}
use Rattle.disk_face.specs.Steps.{History, reads}
use Rattle.log_spec.specs.LogHeader.{log_fields}
use Rattle.log_spec.specs.Accept.{Frame, page_numbers}
use Rattle.crash_spec.specs.Marks.{IsLog}
use Rattle.crash_spec.specs.Opening.{Since, rebased}
use Rattle.crash_spec.specs.Passes.{Passes}
use Rattle.crash_spec.specs.Recovered.{overlaid}
use Rattle.crash_spec.proofs.Passing.{passes_join, passes_still, passes_weaker}
use Rattle.crash_spec.proofs.Pieces.{contains_none}
use Rattle.crash_spec.proofs.Rebased.{rebased_reads}
use Rattle.crash_spec.proofs.Switching.{empty_either}
use Rattle.opening_spec.specs.Found.{OpeningView, FoundLog, IsFirst, NamesItsSize, frames_in, newer_in, map_in}
use Rattle.opening_spec.specs.States.{AreSynced, IsWriting, IsLaidDown, IsResetting, MayReset, LeavesMap, LeavesOpening}
use Rattle.opening_spec.proofs.Laid.{laid_down, bare_is_map}
use Rattle.opening_spec.proofs.Synced.{synced_images}

-- the first pages are to be written
pub begins_writing : (view : OpeningView) (one two : FoundLog) (told : Option History) → IfSome told (λ told. length (reads told).main ≡ view.long) → Since view.opening.start (AreSynced view one two) told
    → Since view.opening.start (IsWriting view one two 1) told
begins_writing view one two None is h = tt
begins_writing view one two (Some told) is (since, grew, s) =
    let same : length (reads told).main ≡ length (reads (rebased view.opening.start since)).main =
    ap (λ (t : History). length (reads t).main) grew ∙ ap (λ (files : Files). length files.main) (rebased_reads view.opening.start since) in
    let none : (1 - 1) * view.size ≡ 0 = grind arith in
    (since, grew, record { synced = s; laid = λ number from less. absurd (omega arith); long = omega arith })

-- all pages were written: the first log may get its header
alone_is : (first : Bool) (main : List ℕ) (one two : List Frame) → two ≡ [] → overlaid main [] one ≡ overlaid main (if first then one else two) (if first then two else one)
alone_is true main one two none = sym (ap (λ (fs : List Frame). overlaid main one fs) none ∙ empty_either main one)
alone_is false main one two none = sym (ap (λ (fs : List Frame). overlaid main fs one) none)

alone_is' : (first : Bool) (main : List ℕ) (one two : List Frame) → one ≡ [] → overlaid main [] two ≡ overlaid main (if first then one else two) (if first then two else one)
alone_is' true main one two none = sym (ap (λ (fs : List Frame). overlaid main fs two) none)
alone_is' false main one two none = sym (ap (λ (fs : List Frame). overlaid main two fs) none ∙ empty_either main two)

without_first : (view : OpeningView) (log : File) (one two : FoundLog) (told : History) → IsLog log → map_in (reads told) one two ≡ view.map → frames_in log one two ≡ [] → MayReset view log one two told
without_first view Main one two told is map none = absurd is
without_first view Log1 one two told is map none = alone_is' (nat_lt (log_fields (reads told).log1).generation (log_fields (reads told).log2).generation) (reads told).main one.frames two.frames none ∙ map
without_first view Log2 one two told is map none = alone_is (nat_lt (log_fields (reads told).log1).generation (log_fields (reads told).log2).generation) (reads told).main one.frames two.frames none ∙ map

pub begins_resetting : (view : OpeningView) (log : File) (one two : FoundLog) (told : Option History) → 1 ≤ length view.map → NamesItsSize view one two
    → IfSome told (λ told. IsFirst (reads told) log one two) → Since view.opening.start (IsLaidDown view one two (length view.map + 1)) told → Since view.opening.start (IsResetting view log one two None) told
begins_resetting view log one two None some names first h = tt
begins_resetting view log one two (Some told) some names first (since, is, d) =
    let laid = laid_down view one two (rebased view.opening.start since) d some names in
    let same = ap reads is ∙ rebased_reads view.opening.start since in (
      since,
      is,
      record {
        written = laid.0;
        may = elim first.below [
          | inl none ↦ without_first view log one two (rebased view.opening.start since) first.is_log laid.0.is none
          | inr newer ↦ ap (λ (fs : List Frame). overlaid (reads (rebased view.opening.start since)).main [] fs) (newer ∙ ap (λ (files : Files). newer_in files one two) same) ∙ laid.1
        ];
        other = tt;
      },
    )

-- after the logs were synced, whatever is said of the map is said of the opening
pub opening_then : (view : OpeningView) (P Q : History → Type 0) (old mid new : Option History) → Passes view.opening (LeavesOpening view) P old mid
    → (Since view.opening.start P mid → Passes view.opening (LeavesMap view) Q mid new) → Passes view.opening (LeavesOpening view) Q old new
opening_then view P Q old mid new first second =
    passes_join view.opening (LeavesOpening view) P Q old mid new first
    (passes_weaker view.opening (LeavesMap view) (LeavesOpening view) Q Q (λ told image leaves. inl leaves) (λ told q. q) mid new (second first.holds))

pub opening_weaker : (view : OpeningView) (P : History → Type 0) (old new : Option History) → Passes view.opening (LeavesOpening view) P old new
    → Passes view.opening (LeavesOpening view) (λ told. Unit {0}) old new
opening_weaker view P old new passes = passes_weaker view.opening (LeavesOpening view) (LeavesOpening view) P (λ told. Unit {0}) (λ told image leaves. leaves) (λ told p. tt) old new passes

pub opening_failed : (view : OpeningView) (P Q : History → Type 0) (old mid new : Option History) → Passes view.opening (LeavesOpening view) P old mid
    → (Since view.opening.start P mid → Passes view.opening (LeavesMap view) Q mid new) → Passes view.opening (LeavesOpening view) (λ told. Unit {0}) old new
opening_failed view P Q old mid new first second = opening_weaker view Q old new (opening_then view P Q old mid new first second)

-- Where no log has a frame, nothing is written to Main, and each log may get its header.
bare_resetting : (view : OpeningView) (log : File) (one two : FoundLog) (told : History) → IsLog log → one.frames ≡ [] → two.frames ≡ [] → AreSynced view one two told → IsResetting view log one two None told
bare_resetting view log one two told is none neither s =
    let bare = bare_is_map view one two told s.opened none neither in
    record {
      written = record {
        log1 = s.opened.log1;
        log2 = s.opened.log2;
        whole1 = s.whole1;
        whole2 = s.whole2;
        main = λ place inside. s.opened.main place inside (not_held (place / view.size + 1));
        fits = bare.0;
        is = s.opened.is;
        bare = bare.1;
        sizes = s.opened.sizes;
        keeps = s.opened.keeps;
      };
      may = without_first view log one two told is s.opened.is (no_frames log);
      other = tt;
    }
  where
    no_frames : (log : File) → frames_in log one two ≡ []
    no_frames Main = refl
    no_frames Log1 = none
    no_frames Log2 = neither

    not_held : (number : ℕ) → Contains (page_numbers one.frames ++ page_numbers two.frames) number → ⊥
    not_held number = subst (λ (numbers : List ℕ). Contains numbers number → ⊥) (sym (ap (λ (fs : List Frame). page_numbers fs ++ page_numbers two.frames) none ∙ ap (λ (fs : List Frame). page_numbers fs) neither)) (contains_none number)

pub bare_passes : (view : OpeningView) (log : File) (one two : FoundLog) (told : Option History) → IsLog log → one.frames ≡ [] → two.frames ≡ [] → Since view.opening.start (AreSynced view one two) told
    → Passes view.opening (LeavesMap view) (IsResetting view log one two None) told told
bare_passes view log one two told is none neither h =
    passes_weaker view.opening (LeavesMap view) (LeavesMap view) (AreSynced view one two) (IsResetting view log one two None) (λ told image leaves. leaves)
    (λ told s. bare_resetting view log one two told is none neither s) told told
    (passes_still view.opening (LeavesMap view) (AreSynced view one two) (λ told s. synced_images view one two told s) told h)
