-- What one token decides where some tokens may follow, it decides where fewer may.
use Rattle.std.proofs.Common.{◌≡◌, Bool, true, false, ◌||◌, is_some}
use Rattle.grammars.specs.Grammar.{Grammar, give, must, may, part, many}
use Rattle.grammars.specs.Lookahead.{starts, Decides}

or_wider : (a b c : Bool) → (b ≡ true → c ≡ true) → (a || b) ≡ true → (a || c) ≡ true
or_wider true b c h k = k
or_wider false b c h k = h k

pub starts_wider : {T A : Type 0} (g : Grammar T A) (J K : T → Bool) → ((t : T) → J t ≡ true → K t ≡ true) → (t : T) → starts g J t ≡ true → starts g K t ≡ true
starts_wider (give v) J K h t k = h t k
starts_wider (must f g) J K h t k = k
starts_wider (may f g q) J K h t k = or_wider (is_some (f t)) (starts q J t) (starts q K t) (starts_wider q J K h t) k
starts_wider (part follow p q) J K h t k = k
starts_wider (many follow f g s) J K h t k = or_wider (is_some (f s t)) (J t) (K t) (h t) k

pub decides_less : {T A : Type 0} (g : Grammar T A) (J K : T → Bool) → ((t : T) → J t ≡ true → K t ≡ true) → Decides g K → Decides g J
decides_less (give v) J K h d = tt
decides_less (must f g) J K h d = λ b. decides_less (g b) J K h (d b)
decides_less (may f g q) J K h d = ((λ b. decides_less (g b) J K h (d.0 b)), decides_less q J K h d.1, λ t k. d.2 t (starts_wider q J K h t k))
decides_less (part follow p q) J K h d =
    (d.0, (λ v. decides_less (q v) J K h (d.1 v)), λ v t k. d.2 v t (starts_wider (q v) J K h t k))
decides_less (many follow f g s) J K h d = (d.0, (λ s t k. d.1 s t (h t k)), (λ t k. d.2 t (h t k)), d.3)
