use Rattle.std.proofs.Common.{◌≡◌, ◌∙◌, ℕ, ◌+◌, List, [], ◌∷◌, ◌++◌, replicate, ap, arith}
use Rattle.std.proofs.lemmas.List.{replicate-append-replicate}
use Rattle.page_lines.specs.World.{zeros}
use Rattle.page_runs.proofs.in_memory.zero_pages.Goals as goal

-- one more of the same
one_more : (pages : List (List ℕ)) (page : List ℕ) (n : ℕ) → pages ≡ replicate n page → pages ++ page ∷ [] ≡ replicate (n + 1) page
one_more pages page n is = ap (λ (list : List (List ℕ)). list ++ page ∷ []) is ∙ replicate-append-replicate n 1 page

-- as many as a store has
all_zeros : (pages : List (List ℕ)) (page : List ℕ) (n : ℕ) → pages ≡ replicate n page → page ≡ replicate 4096 0 → n ≡ 16 → pages ≡ zeros
unfolding zeros
all_zeros pages page n is zero count =
    is ∙ ap (λ (k : ℕ). replicate k page) count ∙ ap (λ (one : List ℕ). replicate 16 one) zero

pub loop-preserved : goal.loop-preserved
loop-preserved c =
    c.in_ok-push.ensures.items
    ∙ ap (λ (one : List ℕ). c.loop.pages.items ++ one ∷ []) (c.in_ok-of.ensures ∙ c.as_slice.ensures.value)
    ∙ one_more c.loop.pages.items c.in_ok-page.page.items c.loop.counter c.loop.invariant

pub returns : goal.returns
returns c = all_zeros c.loop.pages.items c.in_ok-page.page.items c.loop.counter c.loop.invariant (c.in_ok-page.ensures.items_if_clones_equal (λ y e. e)) (omega arith)
