-- Which log is begun anew first, by what both begin with.
use Rattle.std.proofs.Common.{◌≡◌, ◌⊎◌, inl, inr, ℕ, ◌≤◌, arith, Bool, true, false, if◌then◌else◌, [], refl, sym, ◌∙◌, ap}
use Rattle.std.specs.Prelude.{nat_lt}
use Rattle.std.proofs.lemmas.Bool.Decides.{nat_tests}
use Rattle.disk_face.specs.declared.disk.File.TheVariants.{Log1, Log2}
use Rattle.disk_face.specs.Files.{Files}
use Rattle.log_spec.specs.LogHeader.{log_fields}
use Rattle.wal_frames.specs.Front.{IsOursFront}
use Rattle.wal_frames.specs.declared.header.Front.{Front}
use Rattle.wal_frames.specs.declared.header.Front.TheVariants.{Nothing, Foreign, Ours}
use Rattle.opening_spec.specs.Found.{FoundLog, IsFirst}
use Rattle.recover.specs.Headers.{generation_in, first_of}

not_below_zero : (n : ℕ) → nat_lt n 0 ≡ true → ⊥
not_below_zero n is = grind (arith, nat_tests)

-- a log below which another is has a header of ours
above_is_ours : (n : ℕ) (front : Front) → nat_lt n (generation_in front) ≡ true → IsOursFront front
above_is_ours n Nothing is = absurd (not_below_zero n is)
above_is_ours n (Foreign version at) is = absurd (not_below_zero n is)
above_is_ours n (Ours header) is = tt

ours_or_zero : (front : Front) → IsOursFront front ⊎ (generation_in front ≡ 0)
ours_or_zero Nothing = inr refl
ours_or_zero (Foreign version at) = inr refl
ours_or_zero (Ours header) = inl tt

zero_is_below : (m n : ℕ) → m ≡ 0 → 1 ≤ n → nat_lt m n ≡ false → ⊥
zero_is_below m n zero some is = grind (arith, nat_tests)

module _ (files : Files) (one two : FoundLog) (front1 front2 : Front)
    (bare1 : IsOursFront front1 ⊎ (one.frames ≡ [])) (bare2 : IsOursFront front2 ⊎ (two.frames ≡ []))
    (told1 : IsOursFront front1 → (log_fields files.log1).generation ≡ generation_in front1)
    (told2 : IsOursFront front2 → (log_fields files.log2).generation ≡ generation_in front2) (some2 : IsOursFront front2 → 1 ≤ generation_in front2) where
  same_order : IsOursFront front1 → IsOursFront front2 → nat_lt (log_fields files.log1).generation (log_fields files.log2).generation ≡ nat_lt (generation_in front1) (generation_in front2)
  same_order ours1 ours2 = rw (told1 ours1, told2 ours2) refl

  pub first_is : IsFirst files (first_of front1 front2) one two
  first_is = by (nat_lt (generation_in front1) (generation_in front2)) refl
    where
      by : (below : Bool) → nat_lt (generation_in front1) (generation_in front2) ≡ below → IsFirst files (if below then Log1 else Log2) one two
      by true is =
          let ours2 = above_is_ours (generation_in front1) front2 is in
          record {
            is_log = tt;
            below = elim bare1 [
              | inl ours1 ↦ inr (sym (ap (λ (first : Bool). if first then two.frames else one.frames) (same_order ours1 ours2 ∙ is)))
              | inr none ↦ inl none
            ];
          }
      by false is = record {
        is_log = tt;
        below = elim bare2 [
          | inl ours2 ↦ elim (ours_or_zero front1) [
            | inl ours1 ↦ inr (sym (ap (λ (first : Bool). if first then two.frames else one.frames) (same_order ours1 ours2 ∙ is)))
            | inr zero ↦ absurd (zero_is_below (generation_in front1) (generation_in front2) zero (some2 ours2) is)
          ]
          | inr none ↦ inl none
        ];
      }
