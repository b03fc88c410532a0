-- Fronts of a text that were put into a sink.
use Rattle.std.proofs.Common.{◌≡◌, ℕ, ◌≤◌, List, [], ◌++◌, length, take, drop, Option, Some, None, IfSome, refl, sym, ap, ◌∙◌, subst, arith, append_assoc, inl, inr}
use Rattle.std.proofs.lemmas.List.{take_at, take-append-drop, append-nil}
use Rattle.disk_face.specs.Faults.{Rose}
use Rattle.disk_face.specs.Sink.{Puts}
use Rattle.page_runs.specs.Outcome.{PutsFront}
use Rattle.page_runs.proofs.Written.{Puts-more}

pub Puts-nothing : (a : Option (List ℕ)) → Puts a [] a
Puts-nothing None = tt
Puts-nothing (Some a) = sym (append-nil a)

-- the text that was put is the front of a longer one
pub PutsFront-text : (a b : Option (List ℕ)) (xs more text : List ℕ) → Puts a xs b → xs ++ more ≡ text → PutsFront a text b
PutsFront-text a b xs more text p e = (length xs, subst (λ x. Puts a x b) (sym (take_at xs more (length xs) refl) ∙ ap (take (length xs)) e) p)

-- first one text was put, and then a front of what follows it
pub PutsFront-after : (a b c : Option (List ℕ)) (xs ys more text : List ℕ) → Puts a xs b → PutsFront b ys c → (xs ++ ys) ++ more ≡ text → PutsFront a text c
PutsFront-after a b c xs ys more text p q e =
    let first = take q.0 ys in
    let last = drop q.0 ys in
    PutsFront-text a c (xs ++ first) (last ++ more) text (Puts-more a b c xs first p q.1)
    (append_assoc xs first (last ++ more)
    ∙ (ap (λ x. xs ++ x) (sym (append_assoc first last more) ∙ ap (λ x. x ++ more) (take-append-drop q.0 ys))
    ∙ (sym (append_assoc xs ys more) ∙ e)))

-- a count that rose after it had stood or risen
pub Rose-later : (a b c : ℕ) → a ≤ b → Rose b c → Rose a c
Rose-later a b c h rose = record {
  later = omega (arith, h, rose.later);
  counted = elim rose.counted [ inl less ↦ inl (omega (arith, h, less)) | inr last ↦ inr last ];
}

-- nothing was put yet, which is a front of the text of any script
pub nothing_yet : (left a : Option (List ℕ)) (text : List ℕ → List ℕ) → IfSome left (λ script. PutsFront a (text script) a)
nothing_yet None a text = tt
nothing_yet (Some script) a text = (0, Puts-nothing a)
