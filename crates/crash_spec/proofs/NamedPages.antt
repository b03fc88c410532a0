-- Where page 1 of a map names its pages for a file, it names them for a shorter one; and no file grows where no write to it ends behind its end.
use Rattle.std.proofs.Common.{◌≡◌, ℕ, zero, suc, ◌+◌, ◌*◌, ◌/◌, ◌≤◌, ◌<◌, ◌==◌, ◌&&◌, if◌then◌else◌, max, Bool, true, false, List, [], ◌∷◌, ◌++◌, length, take, drop, refl, sym, ap, subst, arith, length-append}
use Rattle.std.specs.Prelude.{nat_lt, All}
use Rattle.std.proofs.lemmas.Nat.{le-div}
use Rattle.std.proofs.Math.Nat.{div-mul-le_self}
use Rattle.std.proofs.lemmas.List.{length-take, length-drop}
use Rattle.std.proofs.lemmas.List.Elements.{All-head, All-tail}
use Rattle.disk_face.specs.declared.disk.File.{File}
use Rattle.disk_face.specs.declared.disk.File.TheVariants.{Main, Log1, Log2}
use Rattle.disk_face.specs.declared.step.Step.{Step}
use Rattle.disk_face.specs.declared.step.Step.TheVariants.{Wrote, Refused, Synced}
use Rattle.disk_face.specs.Files.{Files, overwritten, put}
use Rattle.disk_face.specs.Steps.{History, now, reads}
use Rattle.disk_face.specs.Image.{back}
use Rattle.page_spec.specs.Header.{fields_of, page_size_in, pages_in}
use Rattle.page_spec.specs.PageMap.{PageMap, page_at}
use Rattle.crash_spec.specs.Opening.{grown}
use Rattle.crash_spec.specs.Recovered.{NamesPages, size_of_first}

-- the count of pages goes by the fields of the header
pub pages_alike : (a b : List ℕ) (n : ℕ) → fields_of a ≡ fields_of b → pages_in a n ≡ pages_in b n
unfolding pages_in
pages_alike a b n is = rw is refl

-- where so many pages are named for a longer file, and the shorter one has room for them, they are named for it too
pub still_named : (first : List ℕ) (less more count : ℕ) → 0 < page_size_in (fields_of first) → less ≤ more → count * page_size_in (fields_of first) ≤ less
    → pages_in first more ≡ count → pages_in first less ≡ count
unfolding pages_in
still_named first less more count sized le room = by (nat_lt 0 (fields_of first).pages && (fields_of first).change_counter == (fields_of first).valid_for)
  where
    between : (a b n count : ℕ) → 0 < n → a ≤ b → count * n ≤ a → b / n ≡ count → a / n ≡ count
    between a b n count some le room is =
        let low = le-div count a n some room in
        let high = le-div (a / n) b n some (omega (arith, div-mul-le_self a n, le)) in
        omega (arith, low, high, is)

    by : (counts : Bool) → (if counts then (fields_of first).pages else more / page_size_in (fields_of first)) ≡ count
        → (if counts then (fields_of first).pages else less / page_size_in (fields_of first)) ≡ count
    by true is = is
    by false is = between less more (page_size_in (fields_of first)) count sized le room is

-- how many pages a file of so many bytes has, it has once it has them all
pub names_all : (first : List ℕ) (long : ℕ) → pages_in first (max long (pages_in first long * page_size_in (fields_of first))) ≡ pages_in first long
unfolding pages_in
names_all first long = by (nat_lt 0 (fields_of first).pages && (fields_of first).change_counter == (fields_of first).valid_for)
  where
    by : (counts : Bool)
        → (if counts then (fields_of first).pages
        else (max long ((if counts then (fields_of first).pages else long / page_size_in (fields_of first)) * page_size_in (fields_of first))) / page_size_in (fields_of first))
        ≡ (if counts then (fields_of first).pages else long / page_size_in (fields_of first))
    by true = refl
    by false =
        let whole : max long (long / page_size_in (fields_of first) * page_size_in (fields_of first)) ≡ long = omega (arith, div-mul-le_self long (page_size_in (fields_of first))) in
        ap (λ (n : ℕ). n / page_size_in (fields_of first)) whole

-- a map that names its pages for a file names them for a shorter one
pub names_shorter : (less more size : ℕ) (pages : PageMap) → 0 < size → (1 ≤ length pages → size_of_first pages ≡ size) → less ≤ more → NamesPages more size pages
    → NamesPages less size pages
names_shorter less more size pages some own le names has =
    still_named (page_at pages 1) (max less (length pages * size)) (max more (length pages * size)) (length pages)
    (omega (arith, some, own has)) (omega (arith, le)) (room (length pages) (page_size_in (fields_of (page_at pages 1))) (own has)) (names has)
  where
    room : (count named : ℕ) → named ≡ size → count * named ≤ max less (count * size)
    room count named is = subst (λ (n : ℕ). count * n ≤ max less (count * size)) (sym is) (omega arith)

-- by the page size that it names
pub names_own : (long size : ℕ) (pages : PageMap) → (1 ≤ length pages → size_of_first pages ≡ size) → NamesPages long size pages → NamesPages long (size_of_first pages) pages
names_own long size pages own names has = subst (λ (n : ℕ). pages_in (page_at pages 1) (max long (length pages * n)) ≡ length pages) (sym (own has)) (names has)

-- what a step writes of Main ends by this place
abbrev pub EndsBy : ℕ → Step → Type 0
EndsBy end (Wrote piece) = piece.file ≡ Main → piece.at + length piece.bytes ≤ end
EndsBy end (Refused piece left) = piece.file ≡ Main → piece.at + length left ≤ end
EndsBy end (Synced file) = Unit {0}

-- then Main doesn't reach behind it
not_behind : (at end : ℕ) (bytes main : List ℕ) → length main ≤ end → at + length bytes ≤ end → length (overwritten at bytes main) ≤ end
not_behind at end bytes main short ends =
    omega (
      arith,
      short,
      ends,
      length-append (take at main ++ bytes) (drop (at + length bytes) main),
      length-append (take at main) bytes,
      length-take at main,
      length-drop (at + length bytes) main,
    )

put_within : (file : File) (at end : ℕ) (bytes : List ℕ) (files : Files) → length files.main ≤ end → (file ≡ Main → at + length bytes ≤ end) → length (put file at bytes files).main ≤ end
put_within Main at end bytes files short ends = not_behind at end bytes files.main short (ends refl)
put_within Log1 at end bytes files short ends = short
put_within Log2 at end bytes files short ends = short

-- after some steps
pub main_within : (end : ℕ) (first : Files) (steps more : List Step) → All (EndsBy end) more → length (now first steps).main ≤ end → length (now first (more ++ steps)).main ≤ end
main_within end first steps [] all short = short
main_within end first steps (Wrote piece ∷ more) all short =
    put_within piece.file piece.at end piece.bytes (now first (more ++ steps)) (main_within end first steps more (All-tail (EndsBy end) (Wrote piece) more all) short)
    (All-head (EndsBy end) (Wrote piece) more all)
main_within end first steps (Refused piece left ∷ more) all short =
    put_within piece.file piece.at end left (now first (more ++ steps)) (main_within end first steps more (All-tail (EndsBy end) (Refused piece left) more all) short)
    (All-head (EndsBy end) (Refused piece left) more all)
main_within end first steps (Synced file ∷ more) all short = main_within end first steps more (All-tail (EndsBy end) (Synced file) more all) short

-- and at each moment between
pub main_at : (end : ℕ) (told : History) (more : List Step) (ago : ℕ) → ago ≤ length more → All (EndsBy end) more → length (reads told).main ≤ end
    → length (reads (back ago (grown more told))).main ≤ end
main_at end told more zero fits all short = main_within end told.first told.steps more all short
main_at end told [] (suc ago) fits all short = absurd (omega arith)
main_at end told (step ∷ more) (suc ago) fits all short = main_at end told more ago (omega arith) (All-tail (EndsBy end) step more all) short
