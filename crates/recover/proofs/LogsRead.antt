-- What was found of the logs, in the words of what is accepted of them.
use Rattle.std.proofs.Common.{◌≡◌, ◌≢◌, ℕ, Bool, true, false, if◌then◌else◌, List, [], ◌∷◌, length, take, drop, refl, sym, ◌∙◌, ap, subst, arith}
use Rattle.std.specs.List.{concat}
use Rattle.std.specs.Prelude.{nat_lt}
use Rattle.disk_face.specs.declared.disk.File.{File}
use Rattle.disk_face.specs.declared.disk.File.TheVariants.{Log1, Log2}
use Rattle.disk_face.specs.Files.{Files, content}
use Rattle.log_spec.specs.LogHeader.{log_fields, IsOurs, header_size}
use Rattle.log_spec.specs.Accept.{Frame, AreCommitted, AreValidFrames, AreThere, page_numbers, last_size}
use Rattle.log_spec.specs.Frames.{accepted_frames, place_behind}
use Rattle.log_spec.proofs.AcceptLaws.{accepted_is_one}
use Rattle.log_spec.proofs.AcceptedIs.{accepted_is}
use Rattle.wal_frames.specs.Front.{front_of, header_in}
use Rattle.wal_frames.specs.declared.header.Front.{Front}
use Rattle.wal_frames.specs.declared.header.Front.TheVariants.{Ours}
use Rattle.wal_frames.specs.declared.found.Accepted.{Accepted}
use Rattle.wal_frames.specs.Found.{FindsAccepted}
use Rattle.crash_spec.specs.Marks.{IsLog}
use Rattle.crash_spec.specs.Recovered.{page_after_frames}
use Rattle.opening_spec.specs.Found.{older_in, newer_in}
use Rattle.recover.specs.declared.place.Place.{Place}
use Rattle.recover.specs.declared.place.Place.TheVariants.{InMain}
use Rattle.recover.specs.Headers.{generation_in}
use Rattle.recover.specs.Seeing.{one_in, two_in, is_some_list, is_new_in}
use Rattle.recover.specs.Looking.{AreScanned, page_size_of_log, place_after, place_over, place_in, is_new_read}
use Rattle.recover.proofs.PlacesHold.{HoldsAt, frames_hold}

-- what was found of a log is its front, and the pages and the last size of its accepted frames
pub record IsOfLog (log : ℕ) (bytes : List ℕ) (found : Accepted) : Type 0 where
  pub front : found.front ≡ front_of log bytes
  pub pages : found.pages.items ≡ page_numbers (accepted_frames log bytes)
  pub size : found.size ≡ last_size (accepted_frames log bytes)
  pub ours : accepted_frames log bytes ≢ [] → IsOurs log bytes
  pub committed : AreCommitted bytes (accepted_frames log bytes)

pub of_log : (log : ℕ) (bytes : List ℕ) (found : Accepted) → FindsAccepted log bytes found → IsOfLog log bytes found
of_log log bytes found finds =
    let same : finds.frames.0 ≡ accepted_frames log bytes = accepted_is_one log bytes finds.frames.0 (accepted_frames log bytes) finds.frames.1 (accepted_is log bytes) in
    record {
      front = finds.front;
      pages = finds.frames.2 ∙ ap (λ (frames : List Frame). page_numbers frames) same;
      size = finds.frames.3 ∙ ap (λ (frames : List Frame). last_size frames) same;
      ours = (accepted_is log bytes).ours;
      committed = (accepted_is log bytes).committed;
    }

-- the front of a log that is ours
pub ours_front : (log : ℕ) (bytes : List ℕ) → IsOurs log bytes → front_of log bytes ≡ Ours (header_in bytes)
unfolding front_of
ours_front log bytes ours = rw (ours.signed, ours.own) refl

pub ours_tells : (log : ℕ) (bytes : List ℕ) → IsOurs log bytes → (page_size_of_log (front_of log bytes) ≡ (log_fields bytes).page_size) × (generation_in (front_of log bytes) ≡ (log_fields bytes).generation)
unfolding header_in
ours_tells log bytes ours = (ap (λ (front : Front). page_size_of_log front) (ours_front log bytes ours), ap (λ (front : Front). generation_in front) (ours_front log bytes ours))

cons_is_some : (frame : Frame) (rest : List Frame) → frame ∷ rest ≢ []
cons_is_some frame rest is = cc

-- a page stands where a log has it
pub over_holds : (files : Files) (Fits : ℕ → Type 0) (base : List ℕ) (log : File) (n : ℕ) (found : Accepted) (number : ℕ) → IsLog log → IsOfLog n (content files log) found
    → (accepted_frames n (content files log) ≢ [] → Fits (page_size_of_log found.front)) → (place : Place) (page : List ℕ) → HoldsAt files Fits base place page
    → HoldsAt files Fits base (place_over log found number place) (page_after_frames (accepted_frames n (content files log)) number page)
over_holds files Fits base log n found number is_log of fits place page holds =
    subst (λ (pages : List ℕ). HoldsAt files Fits base (place_after log size 0 pages number place) (page_after_frames frames number page)) (sym of.pages) (by frames refl)
  where
    bytes : List ℕ
    bytes = content files log

    frames : List Frame
    frames = accepted_frames n bytes

    size : ℕ
    size = page_size_of_log found.front

    start : place_behind size 0 ≡ header_size
    start = grind arith

    by : (some : List Frame) → frames ≡ some → HoldsAt files Fits base (place_after log size 0 (page_numbers some) number place) (page_after_frames some number page)
    by [] is = holds
    by (frame ∷ rest) is =
        let none : frames ≢ [] = λ empty. cons_is_some frame rest (sym is ∙ empty) in
        frames_hold files Fits base log is_log size (fits none) number (log_fields bytes) (log_fields bytes).sum (frame ∷ rest) 0 place page
        (subst (λ (some : List Frame). AreValidFrames (log_fields bytes) (log_fields bytes).sum some) is of.committed.valid)
        (sym (ap (λ (front : Front). page_size_of_log front) of.front ∙ (ours_tells n bytes (of.ours none)).0))
        (ap (λ (at : ℕ). take (length (concat (frame ∷ rest))) (drop at bytes)) start ∙ subst (λ (some : List Frame). AreThere bytes some) is of.committed.there)
        holds

-- where one of two lists is empty their order doesn't matter
same_by : {T : Type 0} (F : List Frame → List Frame → T) → ((frames : List Frame) → F frames [] ≡ F [] frames) → (f1 f2 : List Frame) (a b : Bool) → (f1 ≢ [] → f2 ≢ [] → a ≡ b)
    → F (if a then f1 else f2) (if a then f2 else f1) ≡ F (if b then f1 else f2) (if b then f2 else f1)
same_by F either [] f2 true true same = refl
same_by F either [] f2 true false same = sym (either f2)
same_by F either [] f2 false true same = either f2
same_by F either [] f2 false false same = refl
same_by F either (x ∷ xs) [] true true same = refl
same_by F either (x ∷ xs) [] true false same = either (x ∷ xs)
same_by F either (x ∷ xs) [] false true same = sym (either (x ∷ xs))
same_by F either (x ∷ xs) [] false false same = refl
same_by F either (x ∷ xs) (y ∷ ys) a b same =
    ap (λ (c : Bool). F (if c then x ∷ xs else y ∷ ys) (if c then y ∷ ys else x ∷ xs)) (same (cons_is_some x xs) (cons_is_some y ys))

module _ (files : Files) (one two : Accepted) (scanned : AreScanned files one two) where
  pub one_of : IsOfLog 1 files.log1 one
  one_of = of_log 1 files.log1 one scanned.one

  pub two_of : IsOfLog 2 files.log2 two
  two_of = of_log 2 files.log2 two scanned.two

  abbrev f1 : List Frame
  f1 = accepted_frames 1 files.log1

  abbrev f2 : List Frame
  f2 = accepted_frames 2 files.log2

  -- log 1 is the older one, by what the logs begin with
  abbrev pub earlier : Bool
  earlier = nat_lt (generation_in one.front) (generation_in two.front)

  pub in_order : {T : Type 0} (F : List Frame → List Frame → T) → ((frames : List Frame) → F frames [] ≡ F [] frames)
      → F (older_in files (one_in files) (two_in files)) (newer_in files (one_in files) (two_in files)) ≡ F (if earlier then f1 else f2) (if earlier then f2 else f1)
  in_order F either =
      same_by F either f1 f2 (nat_lt (log_fields files.log1).generation (log_fields files.log2).generation) earlier
      (λ some1 some2.
      let g1 : generation_in one.front ≡ (log_fields files.log1).generation = ap (λ (front : Front). generation_in front) one_of.front ∙ (ours_tells 1 files.log1 (one_of.ours some1)).1 in
      let g2 : generation_in two.front ≡ (log_fields files.log2).generation = ap (λ (front : Front). generation_in front) two_of.front ∙ (ours_tells 2 files.log2 (two_of.ours some2)).1 in
      rw (g1, g2) refl)

  -- a page stands where the page numbers of both logs say
  pub place_holds : (Fits : ℕ → Type 0) (base : List ℕ) (number : ℕ) → (f1 ≢ [] → Fits (page_size_of_log one.front)) → (f2 ≢ [] → Fits (page_size_of_log two.front))
      → HoldsAt files Fits base (place_in one two number)
      (page_after_frames (newer_in files (one_in files) (two_in files)) number (page_after_frames (older_in files (one_in files) (two_in files)) number base))
  place_holds Fits base number fits1 fits2 =
      subst (λ (page : List ℕ). HoldsAt files Fits base (place_in one two number) page)
      (sym (in_order (λ (older newer : List Frame). page_after_frames newer number (page_after_frames older number base)) (λ frames. refl))) (by earlier)
    where
      by : (first : Bool)
          → HoldsAt files Fits base (if first then place_over Log2 two number (place_over Log1 one number InMain) else place_over Log1 one number (place_over Log2 two number InMain))
          (page_after_frames (if first then f2 else f1) number (page_after_frames (if first then f1 else f2) number base))
      by true = over_holds files Fits base Log2 2 two number tt two_of fits2 _ _ (over_holds files Fits base Log1 1 one number tt one_of fits1 InMain base refl)
      by false = over_holds files Fits base Log1 1 one number tt one_of fits1 _ _ (over_holds files Fits base Log2 2 two number tt two_of fits2 InMain base refl)

  some_map : (frames : List Frame) → is_some_list (page_numbers frames) ≡ is_some_list frames
  some_map [] = refl
  some_map (frame ∷ rest) = refl

  pub some1 : is_some_list one.pages.items ≡ is_some_list f1
  some1 = ap (λ (pages : List ℕ). is_some_list pages) one_of.pages ∙ some_map f1

  pub some2 : is_some_list two.pages.items ≡ is_some_list f2
  some2 = ap (λ (pages : List ℕ). is_some_list pages) two_of.pages ∙ some_map f2

  pub new_is : (main : ℕ) → main ≡ length files.main → is_new_read one two main ≡ is_new_in files
  new_is main sized = rw (some1, some2, sized) refl
