-- Page 1 with its header fields set, as it is built.
use Rattle.std.proofs.Common.{◌≡◌, ◌∙◌, ℕ, ◌-◌, ◌≤◌, List, ◌++◌, length, take, drop, ap, arith, length-drop, append_assoc}
use Rattle.std.proofs.lemmas.List.{take_all}
use Rattle.engine_spec.specs.Change.{stamped, u32_bytes, next_counter}

-- its parts, one after another
pub stamped_is : (size : ℕ) (first one two three four five six counter count : List ℕ) → 100 ≤ length first
    → counter ≡ u32_bytes (next_counter first) → count ≡ u32_bytes size → one ≡ take 24 first → two ≡ one ++ counter → three ≡ two ++ count
    → four ≡ three ++ take 60 (drop 32 first) → five ≡ four ++ counter → six ≡ five ++ take (length first - 96) (drop 96 first)
    → six ≡ stamped size first
stamped_is size first one two three four five six counter count long is_counter is_count is_one is_two is_three is_four is_five is_six =
    is_six
    ∙ ap (λ (rest : List ℕ). five ++ rest) (take_all (length first - 96) (drop 96 first) (omega (arith, length-drop 96 first)))
    ∙ ap (λ (front : List ℕ). front ++ drop 96 first) (is_five ∙ ap (λ (b : List ℕ). b ++ counter)
    (is_four ∙ ap (λ (b : List ℕ). b ++ take 60 (drop 32 first))
    (is_three ∙ ap (λ (b : List ℕ). b ++ count) (is_two ∙ ap (λ (b : List ℕ). b ++ counter) is_one))))
    ∙ joined (take 24 first) counter count (take 60 (drop 32 first)) (drop 96 first)
    ∙ ap (λ (c : List ℕ). take 24 first ++ (c ++ (count ++ (take 60 (drop 32 first) ++ (c ++ drop 96 first))))) is_counter
    ∙ ap (λ (c : List ℕ). take 24 first ++ (u32_bytes (next_counter first) ++ (c ++ (take 60 (drop 32 first)
    ++ (u32_bytes (next_counter first) ++ drop 96 first))))) is_count
  where
    joined : (a b c d e : List ℕ) → ((((a ++ b) ++ c) ++ d) ++ b) ++ e ≡ a ++ (b ++ (c ++ (d ++ (b ++ e))))
    joined a b c d e = simp append_assoc
