use Rattle.std.proofs.Common.{arith, ◌≡◌, sym, refl}
use Rattle.value_form.proofs.OrderLaws.{value_order-Int, value_order-Text, value_order-Blob, value_order-apart, value_order-Null}
use Rattle.value_form.specs.Order.{class}
use Rattle.value_form.specs.declared.value.Value.{Value}
use Rattle.value_form.specs.declared.value.Value.TheVariants.{Null, Int, Text, Blob}
use Rattle.value_form.proofs.compare.compared.Goals.{in_default-via-in-Int+in_default, in_default-via-in-Text+in_default, in_default-via-in-Blob+in_default, in_default-via-in_default}
use Rattle.value_form.proofs.compare.compared.Goals as goal

pub returns-in-Int-Int : goal.returns-in-Int-Int
returns-in-Int-Int c = rw (c.in-Int-Int.is-0, c.in-Int-Int.is-1, value_order-Int) c.cmp.ensures

pub returns-in-Text-Text : goal.returns-in-Text-Text
returns-in-Text-Text c =
    rw (c.in-Text-Text.is-0, c.in-Text-Text.is-1, value_order-Text, ← c.bytes.ensures, ← c.bytes-in-Text-Text.ensures) c.cmp-in-Text-Text.ensures

pub returns-in-Blob-Blob : goal.returns-in-Blob-Blob
returns-in-Blob-Blob c =
    rw (c.in-Blob-Blob.is-0, c.in-Blob-Blob.is-1, value_order-Blob, ← c.bytes-in-Blob-Blob.ensures, ← c.bytes-in-Blob-Blob-2.ensures) c.cmp-in-Blob-Blob.ensures

no_integer : (b : Value) → ((n : _) → b ≡ Int n → ⊥) → 1 ≡ class b → ⊥
no_integer Null p e = omega arith
no_integer (Int n) p e = p n refl
no_integer (Text t) p e = omega arith
no_integer (Blob t) p e = omega arith

no_text : (b : Value) → ((t : _) → b ≡ Text t → ⊥) → 2 ≡ class b → ⊥
no_text Null p e = omega arith
no_text (Int n) p e = omega arith
no_text (Text t) p e = p t refl
no_text (Blob t) p e = omega arith

no_blob : (b : Value) → ((t : _) → b ≡ Blob t → ⊥) → 3 ≡ class b → ⊥
no_blob Null p e = omega arith
no_blob (Int n) p e = omega arith
no_blob (Text t) p e = omega arith
no_blob (Blob t) p e = p t refl

pub returns-in_default : goal.returns-in_default
returns-in_default c =
    rw (c.cmp-in_default.ensures, c.class.ensures, c.class-in_default.ensures) (elim c.in_default.branch [
      | in_default-via-in-Int+in_default w ↦ rw w.in_default.is-0 (sym (value_order-apart _ _ (no_integer c.args.b.now w.in_default.not-Int-1)))
      | in_default-via-in-Text+in_default w ↦ rw w.in_default.is-0 (sym (value_order-apart _ _ (no_text c.args.b.now w.in_default.not-Text-1)))
      | in_default-via-in-Blob+in_default w ↦ rw w.in_default.is-0 (sym (value_order-apart _ _ (no_blob c.args.b.now w.in_default.not-Blob-1)))
      | in_default-via-in_default w ↦ rw w.in_default.is-0 (sym (value_order-Null _))
    ])
