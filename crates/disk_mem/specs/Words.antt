-- Words that are given in turn, and then 0.
use Rattle.std.specs.Prelude.{ℕ, List, [], ◌∷◌}

-- the next word
abbrev pub next_word : List ℕ → ℕ
next_word [] = 0
next_word (word ∷ words) = word

-- the words after it
abbrev pub later_words : List ℕ → List ℕ
later_words [] = []
later_words (word ∷ words) = words
