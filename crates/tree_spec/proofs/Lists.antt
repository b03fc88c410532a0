-- Lists of pages and items.
use Rattle.std.proofs.Common.{◌≡◌, ℕ, ◌+◌, ◌≤◌, List, [], ◌∷◌, ◌++◌, map, refl, sym, subst, ap, ◌∙◌, arith, append_assoc, eq-eqb}
use Rattle.std.proofs.lemmas.List.{map-append}
use Rattle.tree_spec.specs.Layout.{times, Each, Item, chains}
use Rattle.tree_spec.specs.Renaming.{item_renamed}

pub times-append : (a b : List ℕ) (n : ℕ) → times (a ++ b) n ≡ times a n + times b n
times-append [] b n = omega arith
times-append (p ∷ ps) b n = omega (arith, times-append ps b n)

-- these pages are among those
abbrev pub Among : List ℕ → List ℕ → Type 0
Among few own = (n : ℕ) → 1 ≤ times few n → 1 ≤ times own n

pub among_first : (a b own : List ℕ) → own ≡ a ++ b → Among a own
among_first a b own is n here = subst (λ (l : List ℕ). 1 ≤ times l n) (sym is) (omega (arith, times-append a b n, here))

pub among_last : (a b own : List ℕ) → own ≡ a ++ b → Among b own
among_last a b own is n here = subst (λ (l : List ℕ). 1 ≤ times l n) (sym is) (omega (arith, times-append a b n, here))

pub head_there : (page : ℕ) (pages own : List ℕ) → own ≡ page ∷ pages → 1 ≤ times own page
head_there page pages own is = subst (λ (l : List ℕ). 1 ≤ times l page) (sym is) (rw (eq-eqb page page refl) (omega arith))

pub tail_there : (page : ℕ) (pages own : List ℕ) → own ≡ page ∷ pages → Among pages own
tail_there page pages own is n there = subst (λ (l : List ℕ). 1 ≤ times l n) (sym is) (omega (arith, there))

pub each-append : {X : Type 0} (P : X → Type 0) (a b : List X) → Each P a → Each P b → Each P (a ++ b)
each-append P [] b one two = two
each-append P (x ∷ xs) b one two = (one.0, each-append P xs b one.1 two)

-- what holds of each element as it is renamed
pub each-map : {X Y : Type 0} (P : Y → Type 0) (f : X → Y) (xs : List X) → Each (λ x. P (f x)) xs → Each P (map f xs)
each-map P f [] each = tt
each-map P f (x ∷ xs) each = (each.0, each-map P f xs each.1)

pub chains-append : (a b : List Item) → chains (a ++ b) ≡ chains a ++ chains b
chains-append [] b = refl
chains-append (i ∷ is) b = ap (λ (l : List ℕ). i.chain ++ l) (chains-append is b) ∙ sym (append_assoc i.chain (chains is) (chains b))

pub chains-renamed : (name : ℕ → ℕ) (items : List Item) → chains (map (item_renamed name) items) ≡ map name (chains items)
chains-renamed name [] = refl
chains-renamed name (item ∷ items) = ap (λ (l : List ℕ). map name item.chain ++ l) (chains-renamed name items) ∙ sym (map-append name item.chain (chains items))
