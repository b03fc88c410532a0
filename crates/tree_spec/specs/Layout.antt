-- Pages of a tree, which are only counted, and what a tree lists.
use Rattle.std.specs.Prelude.{ℕ, ℤ, ◌+◌, ◌<ℤ◌, ◌==◌, if◌then◌else◌, List, [], ◌∷◌, ◌++◌}

-- how often a page stands in a list
abbrev pub times : List ℕ → ℕ → ℕ
times [] number = 0
times (page ∷ pages) number = (if page == number then 1 else 0) + times pages number

-- something holds of each element
abbrev pub Each : {X : Type 0} → (X → Type 0) → List X → Type 0
Each P [] = Unit {0}
Each P (x ∷ xs) = P x × Each P xs

-- What a tree lists: a key with its payload, and the pages of the chain that holds the payload's end. In an index the key is 0, and
-- the payload alone says what the entry is.
pub record Item : Type 0 where
  pub key : ℤ
  pub bytes : List ℕ
  pub chain : List ℕ

-- all pages of these items' chains: each item owns those of its own
abbrev pub chains : List Item → List ℕ
chains [] = []
chains (item ∷ items) = item.chain ++ chains items

-- the keys rise
abbrev pub KeysRise : List Item → Type 0
KeysRise [] = Unit {0}
KeysRise (item ∷ items) = Each (λ (other : Item). item.key <ℤ other.key) items × KeysRise items
