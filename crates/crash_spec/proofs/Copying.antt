-- A page of the other log is copied to Main.
use Rattle.std.proofs.Common.{◌≡◌, ◌≢◌, ℕ, zero, suc, ◌+◌, ◌-◌, ◌*◌, ◌/◌, ◌≤◌, ◌<◌, inl, inr, List, [], ◌∷◌, ◌++◌, length, map, take, drop, refl, sym, ◌∙◌, ap, subst, arith, mul-le-mul_right}
use Rattle.std.specs.Prelude.{Contains}
use Rattle.std.proofs.lemmas.Bool.{cases_lt}
use Rattle.std.proofs.lemmas.Nat.{div-mul-add}
use Rattle.std.proofs.lemmas.List.{take-take, drop-take}
use Rattle.std.proofs.lemmas.List.Elements.{All-cons}
use Rattle.disk_face.specs.declared.disk.File.{File}
use Rattle.disk_face.specs.declared.disk.File.TheVariants.{Main}
use Rattle.disk_face.specs.declared.step.Piece.{Piece}
use Rattle.disk_face.specs.declared.step.Step.TheVariants.{Wrote, Refused, Synced}
use Rattle.disk_face.specs.Files.{overwritten}
use Rattle.disk_face.specs.Steps.{History, reads, further}
use Rattle.crash_spec.specs.Marks.{other_of}
use Rattle.disk_face.specs.Image.{unsure, range_of, IsSure, IsOutside}
use Rattle.disk_face.proofs.Contents.{length-overwritten}
use Rattle.disk_face.proofs.Images.{synced_is_sure}
use Rattle.page_spec.specs.Header.{page_size_in, fields_of}
use Rattle.crash_spec.specs.Opening.{Opening}
use Rattle.log_spec.specs.LogHeader.{LogFields}
use Rattle.log_spec.specs.Accept.{Frame, page_numbers}
use Rattle.crash_spec.specs.Recovered.{main_page, overlaid, size_after}
use Rattle.page_spec.specs.PageMap.{PageMap}
use Rattle.crash_spec.specs.Store.{AreOnDisk, MainIsSure, HoldsStore, named_size}
use Rattle.crash_spec.proofs.Overwritten.{overwritten-front, overwritten-back}
use Rattle.crash_spec.proofs.Elsewhere.{on_elsewhere}
use Rattle.crash_spec.proofs.Overlaid.{overlaid_outside, firsts_outside}
use Rattle.crash_spec.proofs.StoreSteps.{are_on_current, main_apart}

same_part : (xs ys : List ℕ) (n at count : ℕ) → at + count ≤ n → take n xs ≡ take n ys → take count (drop at xs) ≡ take count (drop at ys)
same_part xs ys n at count within same =
    sym (drop-take at count xs)
    ∙ ap (λ (zs : List ℕ). drop at zs) (sym (take-take (at + count) n xs within) ∙ ap (λ (zs : List ℕ). take (at + count) zs) same ∙ take-take (at + count) n ys within)
    ∙ drop-take at count ys

module _ (size number : ℕ) (from : 1 ≤ number) (some : 100 ≤ size) (main left : List ℕ) (within : length left ≤ size) (reached : (number - 1) * size ≤ length main) where
  abbrev at : ℕ
  at = (number - 1) * size

  whole_page : (page : ℕ) → 1 ≤ page → (page - 1) * size + size ≡ page * size
  whole_page zero one = absurd (omega arith)
  whole_page (suc page) one = distribute page
    where
      distribute : (n : ℕ) → (suc n - 1) * size + size ≡ suc n * size
      distribute n = grind arith

  -- a page of another number stays
  pub page_stays : (page : ℕ) → 1 ≤ page → page ≢ number → main_page size (overwritten at left main) page ≡ main_page size main page
  page_stays page one apart =
      elim (cases_lt page number) [
        | inl before ↦
            let low : page * size ≤ (number - 1) * size = mul-le-mul_right size (omega arith) in
            same_part (overwritten at left main) main at ((page - 1) * size) size (omega (arith, whole_page page one)) (overwritten-front at at left main (omega arith) reached)
        | inr behind ↦
            let high : number * size ≤ (page - 1) * size = mul-le-mul_right size (omega arith) in
            ap (λ (xs : List ℕ). take size xs) (overwritten-back at ((page - 1) * size) left main reached (omega (arith, whole_page number from)))
      ]

  pub first_stays : 1 ≢ number → take 100 (overwritten at left main) ≡ take 100 main
  first_stays apart =
      let low : 1 * size ≤ (number - 1) * size = mul-le-mul_right size (omega arith) in
      overwritten-front 100 at left main (omega arith) reached

  -- a place in the range is one of that page, and so is one that the file didn't have before
  pub place_in_page : (place : ℕ) → at ≤ place → place < at + size → place / size + 1 ≡ number
  place_in_page place start end =
      let offset : ℕ = place - at in
      let same : place ≡ (number - 1) * size + offset = omega arith in
      let page : place / size ≡ number - 1 = ap (λ (n : ℕ). n / size) same ∙ div-mul-add (number - 1) size offset (omega arith) in
      omega arith

  pub new_place : (place : ℕ) → place < length (overwritten at left main) → length main ≤ place → place < at + size
  new_place place inside past = omega (arith, length-overwritten at left main reached)

size_of_some : (older : List Frame) (number : ℕ) → Contains (page_numbers older) number → (m n : ℕ) → size_after older m ≡ size_after older n
size_of_some [] number (k, less, is) m n = absurd (omega arith)
size_of_some (frame ∷ rest) number held m n = refl

-- whatever a write of a page of the other log leaves in its range, the files are on the disk, and the map is the same
module _ (opening : Opening) (told : History) (current : File) (header older : LogFields) (frames pending other : List Frame) (size number : ℕ)
    (on : AreOnDisk opening told current header older frames pending other size) (held : Contains (page_numbers other) number) (from : 1 ≤ number)
    (bytes : List ℕ) (whole : length bytes ≡ size) (reached : (number - 1) * size ≤ length (reads told).main) where
  abbrev copied : Piece
  copied = record { file = Main; at = (number - 1) * size; bytes = bytes }

  abbrev main_after : List ℕ → List ℕ
  main_after left = overwritten ((number - 1) * size) left (reads told).main

  -- of a write, by what it leaves
  sure_after : (left : List ℕ) → length left ≤ size → (place : ℕ) → place < length (main_after left) → (Contains (page_numbers other) (place / size + 1) → ⊥)
      → IsSure (range_of copied ∷ unsure opening.before told.steps) Main place
  sure_after left within place inside none =
      let outside : (number - 1) * size ≤ place → place < (number - 1) * size + size → ⊥ =
      λ start end. none (subst (λ n. Contains (page_numbers other) n) (sym (place_in_page size number from on.some_size (reads told).main left within reached place start end)) held) in
      All-cons (IsOutside Main place) (range_of copied) (unsure opening.before told.steps)
      (λ is start end. outside start (omega arith))
      (elim (cases_lt place (length (reads told).main)) [
        | inl old ↦ on.main place old none
        | inr new ↦ absurd (outside (omega arith) (new_place size number from on.some_size (reads told).main left within reached place inside new))
      ])

  pub copied_written : AreOnDisk opening (further (Wrote copied) told) current header older frames pending other size
  copied_written = record {
    newest = on_elsewhere opening told current header frames pending (Wrote copied) on.newest (main_apart current on.newest.is_log);
    oldest = on_elsewhere opening told (other_of current) older other [] (Wrote copied) on.oldest (main_apart (other_of current) on.oldest.is_log);
    rising = on.rising;
    main = sure_after bytes (omega arith);
    some_size = on.some_size;
  }

  pub copied_refused : (left : List ℕ) → length left ≤ length bytes → AreOnDisk opening (further (Refused copied left) told) current header older frames pending other size
  copied_refused left within = record {
    newest = on_elsewhere opening told current header frames pending (Refused copied left) on.newest (main_apart current on.newest.is_log);
    oldest = on_elsewhere opening told (other_of current) older other [] (Refused copied left) on.oldest (main_apart (other_of current) on.oldest.is_log);
    rising = on.rising;
    main = sure_after left (omega arith);
    some_size = on.some_size;
  }

  pub same_map : (left : List ℕ) → length left ≤ size → (newer : List Frame) → named_size (reads told).main other newer ≡ size
      → overlaid (main_after left) other newer ≡ overlaid (reads told).main other newer
  same_map left within newer sized =
      sym (overlaid_outside size (reads told).main (main_after left) other newer (λ first. ap (λ (n : ℕ). size_after newer n) (size_of_some other number held _ _))
      (λ page one none beside. sym (page_stays size number from on.some_size (reads told).main left within reached page one (λ is. none (subst (λ n. Contains (page_numbers other) n) (sym is) held))))
      (λ none beside. sym (first_stays size number from on.some_size (reads told).main left within reached (λ is. none (subst (λ n. Contains (page_numbers other) n) (sym is) held))))
      sized)

-- a sync of Main leaves all of it on the medium
pub main_synced : (opening : Opening) (told : History) (size : ℕ) (covered : List ℕ) → MainIsSure opening (further (Synced Main) told) size covered
main_synced opening told size covered place inside none = synced_is_sure Main (unsure opening.before told.steps) place

-- the store that the files hold stays
module _ (opening : Opening) (told : History) (current : File) (header older : LogFields) (frames pending other : List Frame) (size : ℕ) (map later : PageMap)
    (h : HoldsStore opening current header older frames pending other size map later told)
    (number : ℕ) (held : Contains (page_numbers other) number) (from : 1 ≤ number)
    (bytes : List ℕ) (whole : length bytes ≡ size) (reached : (number - 1) * size ≤ length (reads told).main) where
  named_after : (left : List ℕ) → length left ≤ size → (newer : List Frame) → named_size (reads told).main other newer ≡ size
      → named_size (main_after opening told current header older frames pending other size number h.on held from bytes whole reached left) other newer ≡ size
  named_after left within newer sized =
      ap (λ (first : List ℕ). page_size_in (fields_of first))
      (firsts_outside (main_after opening told current header older frames pending other size number h.on held from bytes whole reached left) (reads told).main other newer
      (λ none beside. first_stays size number from h.on.some_size (reads told).main left within reached (λ is. none (subst (λ n. Contains (page_numbers other) n) (sym is) held))))
      ∙ sized

  same_after : (left : List ℕ) → length left ≤ size → (newer : List Frame) → named_size (reads told).main other newer ≡ size
      → overlaid (reads told).main other newer ≡ overlaid (main_after opening told current header older frames pending other size number h.on held from bytes whole reached left) other newer
  same_after left within newer sized = sym (same_map opening told current header older frames pending other size number h.on held from bytes whole reached left within newer sized)

  pub copy_holds : HoldsStore opening current header older frames pending other size map later (further (Wrote (copied opening told current header older frames pending other size number h.on held from bytes whole reached)) told)
  copy_holds = record {
    on = copied_written opening told current header older frames pending other size number h.on held from bytes whole reached;
    sized = named_after bytes (omega arith) frames h.sized;
    sized_later = λ some. named_after bytes (omega arith) (frames ++ pending) (h.sized_later some);
    is = h.is ∙ same_after bytes (omega arith) frames h.sized;
    is_later = λ some. h.is_later some ∙ same_after bytes (omega arith) (frames ++ pending) (h.sized_later some);
  }

  pub refused_holds : (left : List ℕ) → length left ≤ length bytes
      → HoldsStore opening current header older frames pending other size map later (further (Refused (copied opening told current header older frames pending other size number h.on held from bytes whole reached) left) told)
  refused_holds left within = record {
    on = copied_refused opening told current header older frames pending other size number h.on held from bytes whole reached left within;
    sized = named_after left (omega arith) frames h.sized;
    sized_later = λ some. named_after left (omega arith) (frames ++ pending) (h.sized_later some);
    is = h.is ∙ same_after left (omega arith) frames h.sized;
    is_later = λ some. h.is_later some ∙ same_after left (omega arith) (frames ++ pending) (h.sized_later some);
  }

-- and after a sync of any file
pub synced_holds : (opening : Opening) (told : History) (current : File) (header older : LogFields) (frames pending other : List Frame) (size : ℕ) (map later : PageMap) (file : File)
    → HoldsStore opening current header older frames pending other size map later told
    → HoldsStore opening current header older frames pending other size map later (further (Synced file) told)
synced_holds opening told current header older frames pending other size map later file h = record {
  on = are_on_current opening told current header older frames pending other size (Synced file) frames pending h.on tt tt (on_elsewhere opening told current header frames pending (Synced file) h.on.newest tt);
  sized = h.sized;
  sized_later = h.sized_later;
  is = h.is;
  is_later = h.is_later;
}
