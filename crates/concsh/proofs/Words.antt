-- The words of the command line.
use Rattle.std.proofs.Common.{◌≡◌, ℕ, ◌<◌, Bool, List, [], ◌∷◌, length, get_or, IsTrue, bytes_eq, ap, ◌≤◌, sym, ◌∙◌, arith}
use Rattle.std.proofs.lemmas.Slice.Eq.{bytes_eq-Decides}

-- the test of the only word
pub only_word : (words : List (List ℕ)) (item bytes name word : List ℕ) (same : Bool) → 1 ≤ length words → length words < 2 → item ≡ get_or words 0 item → bytes ≡ item → word ≡ name → same ≡ bytes_eq bytes word → (IsTrue same → words ≡ name ∷ []) × (words ≡ name ∷ [] → IsTrue same)
only_word [] item bytes name word same some few at is named test = absurd (omega arith)
only_word (first ∷ []) item bytes name word same some few at is named test = (
  λ yes. ap (λ x. x ∷ []) (sym at ∙ (sym is ∙ ((bytes_eq-Decides bytes word).0 (sym test ∙ yes) ∙ named))),
  λ e. test ∙ (bytes_eq-Decides bytes word).1 (is ∙ (at ∙ (ap (λ x. get_or x 0 item) e ∙ sym named))),
)
only_word (first ∷ second ∷ words) item bytes name word same some few at is named test = absurd (omega arith)
