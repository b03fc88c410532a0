-- The order of values and of rows is linear; what it is at two values of one class; and a loop over two rows.
use Rattle.std.proofs.Common.{◌≡◌, ℕ, zero, suc, ℤ, List, [], ◌∷◌, ◌++◌, length, drop, refl, sym, ◌∙◌, arith, Ordering, Less, Equal, Greater, nat_cmp, int_cmp, min}
use Rattle.std.specs.Ordering.{ordering_then}
use Rattle.std.specs.Cmp.{IsTotalOrder}
use Rattle.std.specs.Cmp.Lexicographic.{slice_cmp}
use Rattle.std.specs.FinMap.{IsAntisymmetric, nat_cmp-IsAntisymmetric, int_cmp-IsAntisymmetric, slice_cmp-IsAntisymmetric}
use Rattle.std.specs.Prelude.{◌↔◌}
use Rattle.std.proofs.lemmas.Cmp.{on_total, then_total, nat_cmp_total, int_cmp_total, nat_list_cmp_total, lists_total, tied_itself}
use Rattle.std.proofs.lemmas.Bool.Decides.{nat_tests}
use Rattle.value_form.specs.declared.value.Value.{Value}
use Rattle.value_form.specs.declared.value.Value.TheVariants.{Null, Int, Text, Blob}
use Rattle.value_form.specs.Order.{class, integer, bytes, value_order, row_order, IsLinearOrder}

linear : {T : Type 0} {R : T → T → Ordering} → IsTotalOrder R → IsAntisymmetric R → IsLinearOrder R
linear order apart = record {
  same = tied_itself order;
  apart = apart;
  reversed = λ a b. order.antisymm b a;
  transitive = order.trans;
}

value_total : IsTotalOrder value_order
unfolding value_order
value_total = then_total (on_total class nat_cmp_total) (then_total (on_total integer int_cmp_total) (on_total bytes nat_list_cmp_total))

then-Equal : (o : Ordering) → ordering_then o Equal ≡ o
then-Equal Less = refl
then-Equal Equal = refl
then-Equal Greater = refl

pub value_order-Int : (m n : ℤ) → value_order (Int m) (Int n) ≡ int_cmp m n
unfolding value_order
value_order-Int m n = then-Equal (int_cmp m n)

pub value_order-Text : (s t : List ℕ) → value_order (Text s) (Text t) ≡ slice_cmp nat_cmp s t
unfolding value_order
value_order-Text s t = refl

pub value_order-Blob : (s t : List ℕ) → value_order (Blob s) (Blob t) ≡ slice_cmp nat_cmp s t
unfolding value_order
value_order-Blob s t = refl

-- values of two classes are ordered by their classes
pub value_order-apart : (a b : Value) → (class a ≡ class b → ⊥) → value_order a b ≡ nat_cmp (class a) (class b)
unfolding value_order
value_order-apart a b apart = grind (arith, nat_tests)

pub value_order-Null : (b : Value) → value_order Null b ≡ nat_cmp 0 (class b)
unfolding value_order
value_order-Null Null = refl
value_order-Null (Int n) = refl
value_order-Null (Text t) = refl
value_order-Null (Blob b) = refl

value_apart : (a b : Value) → value_order a b ≡ Equal → a ≡ b
unfolding value_order
value_apart Null Null h = refl
value_apart Null (Int n) h = absurd (cc)
value_apart Null (Text t) h = absurd (cc)
value_apart Null (Blob b) h = absurd (cc)
value_apart (Int m) Null h = absurd (cc)
value_apart (Int m) (Int n) h = let e = int_cmp-IsAntisymmetric m n (sym (then-Equal (int_cmp m n)) ∙ h) in cc
value_apart (Int m) (Text t) h = absurd (cc)
value_apart (Int m) (Blob b) h = absurd (cc)
value_apart (Text s) Null h = absurd (cc)
value_apart (Text s) (Int n) h = absurd (cc)
value_apart (Text s) (Text t) h = let e = slice_cmp-IsAntisymmetric nat_cmp-IsAntisymmetric s t h in cc
value_apart (Text s) (Blob b) h = absurd (cc)
value_apart (Blob a) Null h = absurd (cc)
value_apart (Blob a) (Int n) h = absurd (cc)
value_apart (Blob a) (Text t) h = absurd (cc)
value_apart (Blob a) (Blob b) h = let e = slice_cmp-IsAntisymmetric nat_cmp-IsAntisymmetric a b h in cc

pub value_linear : IsLinearOrder value_order
value_linear = linear value_total value_apart

pub row_linear : IsLinearOrder row_order
row_linear = linear (lists_total value_total) (slice_cmp-IsAntisymmetric value_apart)

-- what a linear order answers as equal is the same
pub equal_is_same : {T : Type 0} (R : T → T → Ordering) → IsLinearOrder R → (a b : T) (answer : Ordering) → answer ≡ R a b → (answer ≡ Equal) ↔ (a ≡ b)
equal_is_same R order a b answer is = (λ equal. order.apart a b (sym is ∙ equal), λ same. is ∙ rw same (order.same b))

pub row_prefix : (row : List Value) (next : Value) (more : List Value) → row_order row (row ++ next ∷ more) ≡ Less
row_prefix [] next more = refl
row_prefix (value ∷ row) next more = rw (value_linear.same value) (row_prefix row next more)

-- past the values that both rows have, the shorter row is first
pub row_order_past : (a b : List Value) (at : ℕ) → at ≡ min (length a) (length b) → row_order (drop at a) (drop at b) ≡ nat_cmp (length a) (length b)
row_order_past [] [] zero e = refl
row_order_past [] [] (suc at) e = refl
row_order_past [] (y ∷ b) zero e = grind (arith, nat_tests)
row_order_past [] (y ∷ b) (suc at) e = absurd (omega arith)
row_order_past (x ∷ a) [] zero e = grind (arith, nat_tests)
row_order_past (x ∷ a) [] (suc at) e = absurd (omega arith)
row_order_past (x ∷ a) (y ∷ b) zero e = absurd (omega arith)
row_order_past (x ∷ a) (y ∷ b) (suc at) e = row_order_past a b at (omega arith) ∙ grind (arith, nat_tests)
