-- What a payload tells of a root, from what reading it answers.
use Rattle.std.proofs.Common.{◌≡◌, ℕ, ◌≤◌, ◌⊎◌, pos, negsuc, ℤ, ◌≤ℤ◌, ap, ◌∙◌, refl, List, Option, Some, None, Result, Ok, Err, true, false, sym, subst, inl, inr, arith}
use Rattle.std.proofs.lemmas.Int.{ints}
use Rattle.std.proofs.Math.IntN.{nat_abs}
use Rattle.std.proofs.lemmas.Bool.Decides.{nat_tests}
use Rattle.std.proofs.lemmas.Grind.{common_steps}
use Rattle.std.specs.Prelude.{IfOk, MatchOption}
use Rattle.value_form.specs.declared.value.Value.{Value}
use Rattle.value_form.specs.declared.fault.RecordFault.{RecordFault}
use Rattle.value_form.specs.declared.fault.RecordFault.TheVariants as refusal
use Rattle.value_form.specs.Record.{IsRecord, IsRefused}
use Rattle.value_form.proofs.ReadingLaws.{record_once, record_or_fault}
use Rattle.sound_spec.specs.Schema.{IsSchemaRow}
use Rattle.check_spec.specs.declared.fault.CheckFault.{CheckFault}
use Rattle.check_spec.specs.Forms.{is_inside, is_inside_or_none}
use Rattle.check_spec.proofs.CellsFit.{inside_or_none_is}
use Rattle.tree_check.specs.Rows.{TellsRoot}

-- a payload that is a record's
pub row_tells : (last : ℕ) (bytes : List ℕ) (row : List Value) (root : Option ℕ) → IsRecord bytes row
    → MatchOption root ((n : ℕ) → IsSchemaRow last row n → ⊥) (λ n. IsSchemaRow last row n) → TellsRoot last bytes root
row_tells last bytes row None is never = λ other also n names. never n (subst (λ (l : List Value). IsSchemaRow last l n) (record_once bytes other row also is) names)
row_tells last bytes row (Some n) is names = (row, is, names)

-- a payload that is no record's
pub refused_tells : (last : ℕ) (bytes : List ℕ) (why : RecordFault) (answer : Result (Option ℕ) CheckFault) → (why ≡ refusal.Memory) ⊎ IsRefused bytes why
    → IfOk answer (λ root. (root ≡ None) × (why ≡ refusal.Memory → ⊥)) → IfOk answer (λ root. TellsRoot last bytes root)
refused_tells last bytes why (Err told) cause says = tt
refused_tells last bytes why (Ok root) (inl memory) says = absurd (says.1 memory)
refused_tells last bytes why (Ok root) (inr broken) says =
    subst (λ (o : Option ℕ). TellsRoot last bytes o) (sym says.0) (λ row is n names. record_or_fault bytes row why is broken)

-- a number that is out of range
pub inside_or_none_not : (last number : ℕ) → is_inside_or_none last number ≡ false → (number ≡ 0) ⊎ ((2 ≤ number) × (number ≤ last)) → ⊥
unfolding is_inside_or_none is_inside
inside_or_none_not last number outside (inl none) = grind (arith, common_steps, nat_tests)
inside_or_none_not last number outside (inr range) = let least = range.0 in let most = range.1 in grind (arith, common_steps, nat_tests)

number_abs : (n : ℤ) → pos 0 ≤ℤ n → n ≡ pos (nat_abs n)
number_abs (pos k) least = refl
number_abs (negsuc k) least = absurd (omega (arith, ints, least))

-- an integer in range, or 0
pub number_names : (n same : ℤ) (last : ℕ) → same ≡ n → pos 0 ≤ℤ n → is_inside_or_none last (nat_abs same) ≡ true
    → (n ≡ pos (nat_abs same)) × ((nat_abs same ≡ 0) ⊎ ((2 ≤ nat_abs same) × (nat_abs same ≤ last)))
number_names n same last is least inside =
    (number_abs n least ∙ ap (λ (z : ℤ). pos (nat_abs z)) (sym is), inside_or_none_is last (nat_abs same) inside)

-- an integer that is out of range
pub number_never : (n same : ℤ) (last : ℕ) → same ≡ n → is_inside_or_none last (nat_abs same) ≡ false → (root : ℕ)
    → (n ≡ pos root) × ((root ≡ 0) ⊎ ((2 ≤ root) × (root ≤ last))) → ⊥
number_never n same last is outside root names =
    inside_or_none_not last root
    (subst (λ (k : ℕ). is_inside_or_none last k ≡ false) (ap (λ (z : ℤ). nat_abs z) (is ∙ names.0)) outside) names.1
