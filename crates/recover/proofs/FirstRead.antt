-- What was read is what stands there.
use Rattle.std.proofs.Common.{◌≡◌, ℕ, ◌<◌, Bool, true, false, if◌then◌else◌, List, length, take, drop, Option, Some, None, refl, sym, ◌∙◌, ap, subst, arith}
use Rattle.std.specs.Prelude.{IfSome, nat_lt}
use Rattle.std.proofs.lemmas.Bool.Decides.{nat_tests}
use Rattle.std.proofs.lemmas.List.{take_all}
use Rattle.disk_face.specs.declared.disk.File.TheVariants.{Main}
use Rattle.disk_face.specs.Files.{Files, content}
use Rattle.disk_face.specs.Steps.{History, reads}
use Rattle.disk_face.specs.Told.{IsSize, IsRead}
use Rattle.recover.specs.declared.place.Place.{Place}
use Rattle.recover.specs.declared.place.Place.TheVariants.{InMain, InLog}
use Rattle.recover.specs.Looking.{bytes_at, first_size, first_size_at, file_of, start_at}

less_of : (m n : ℕ) → nat_lt m n ≡ true → m < n
less_of m n is = grind (arith, nat_tests)

-- page 1 begins where Main does
at_front : (size : ℕ) → start_at size 1 InMain ≡ 0
at_front size = grind arith

read_is : (files : Files) (size : ℕ) (place : Place) (main : ℕ) (bytes : List ℕ) → main ≡ length files.main → length bytes ≡ first_size_at main place
    → bytes ≡ take (length bytes) (drop (start_at size 1 place) (content files (file_of place))) → bytes ≡ bytes_at files place
read_is files size InMain main bytes sized long is =
    is ∙ ap (λ (n : ℕ). take (length bytes) (drop n files.main)) (at_front size) ∙ ap (λ (n : ℕ). take n files.main) long ∙ by (nat_lt main first_size) refl
  where
    by : (short : Bool) → nat_lt main first_size ≡ short → take (if short then main else first_size) files.main ≡ take first_size files.main
    by true short = take_all main files.main (omega arith) ∙ sym (take_all first_size files.main (omega (arith, less_of main first_size short)))
    by false short = refl
read_is files size (InLog file at) main bytes sized long is = is ∙ ap (λ (n : ℕ). take n (drop at (content files file))) long

-- what holds of the bytes that were read holds of those that stand there
pub told_first : (P : List ℕ → Type 0) (told : Option History) (size : ℕ) (place : Place) (main : ℕ) (bytes : List ℕ) → IsSize told Main main → length bytes ≡ first_size_at main place
    → IsRead told (file_of place) (start_at size 1 place) bytes → P bytes → IfSome told (λ told. P (bytes_at (reads told) place))
told_first P None size place main bytes sized long is h = tt
told_first P (Some told) size place main bytes sized long is h = subst P (read_is (reads told) size place main bytes sized long is) h
