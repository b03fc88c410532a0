-- Where following a chain comes to.
use Rattle.std.proofs.Common.{◌≡◌, ℕ, ◌-◌, ◌<◌, ◌≤◌, List, [], ◌∷◌, ◌++◌, Bool, cond, refl, sym, ap, ◌∙◌, arith, inl, inr, take, min, length, append_assoc, append-nil, length-take}
use Rattle.std.proofs.lemmas.Bool.{cases_lt}
use Rattle.std.proofs.lemmas.List.{take_all, take-take}
use Rattle.std.specs.Prelude.{◌⊎◌}
use Rattle.engine_spec.specs.PageSet.{with_page}
use Rattle.tree_spec.specs.Shown.{Shown}
use Rattle.tree_spec.specs.Chains.{IsChain, chain_bytes}
use Rattle.overflow.specs.Following.{Leads, last_met, all_read}

-- one page more
pub lead_more : (usable last : ℕ) (shown : Shown) (first size : ℕ) (done : List ℕ) (page left : ℕ) → 0 < left → 2 ≤ page → page ≤ last
    → Leads usable last shown first size done page left
    → Leads usable last shown first size (done ++ page ∷ []) (shown.link page).next (left - (usable - 4))
lead_more usable last shown first size [] page left some low high leads =
    (omega (arith, some, leads.1), leads.0, low, high, (refl, ap (λ (n : ℕ). n - (usable - 4)) leads.1))
lead_more usable last shown first size (p ∷ ps) page left some low high leads =
    (leads.0, leads.1, leads.2, leads.3, lead_more usable last shown (shown.link p).next (size - (usable - 4)) ps page left some low high leads.4)

-- its bytes stand behind those of the pages before
pub bytes_more : (usable last : ℕ) (shown : Shown) (first size : ℕ) (done : List ℕ) (page left : ℕ) → Leads usable last shown first size done page left
    → chain_bytes usable shown (done ++ page ∷ []) size ≡ chain_bytes usable shown done size ++ take left (shown.link page).bytes
bytes_more usable last shown first size [] page left leads =
    append-nil (take size (shown.link page).bytes) ∙ ap (λ (n : ℕ). take n (shown.link page).bytes) (sym leads.1)
bytes_more usable last shown first size (p ∷ ps) page left leads =
    ap (λ (l : List ℕ). take size (shown.link p).bytes ++ l) (bytes_more usable last shown (shown.link p).next (size - (usable - 4)) ps page left leads.4)
    ∙ sym (append_assoc (take size (shown.link p).bytes) (chain_bytes usable shown ps (size - (usable - 4))) (take left (shown.link page).bytes))

pub met_more : (first : ℕ) (done : List ℕ) (page : ℕ) → last_met first (done ++ page ∷ []) ≡ page
met_more first [] page = refl
met_more first (p ∷ ps) page = met_more p ps page

read_more : (has : ℕ → Bool) (reads done : List ℕ) (page : ℕ)
    → all_read has reads (done ++ page ∷ []) ≡ cond (has page) (all_read has reads done) (with_page (all_read has reads done) page)
read_more has reads [] page = refl
read_more has reads (p ∷ ps) page = read_more has (cond (has p) reads (with_page reads p)) ps page

-- the pages that were read, with one more, where what was changed stayed
pub read_step : (has has_then : ℕ → Bool) (reads now then done : List ℕ) (page : ℕ) → has_then page ≡ has page → now ≡ all_read has reads done
    → then ≡ cond (has_then page) now (with_page now page) → then ≡ all_read has reads (done ++ page ∷ [])
read_step has has_then reads now then done page same now_is then_is =
    then_is ∙ (ap (λ (h : Bool). cond h now (with_page now page)) same
    ∙ (ap (λ (l : List ℕ). cond (has page) l (with_page l page)) now_is ∙ sym (read_more has reads done page)))

-- a chain goes on from where following it comes to
pub chain_rest : (usable last bound : ℕ) (shown : Shown) (first size : ℕ) (done : List ℕ) (next left : ℕ) (list : List ℕ)
    → Leads usable last shown first size done next left → IsChain usable bound shown first size list
    → (rest : List ℕ) × (list ≡ done ++ rest) × IsChain usable bound shown next left rest
chain_rest usable last bound shown first size [] next left list leads chain = (list, refl, rw (leads.0, leads.1) chain)
chain_rest usable last bound shown first size (p ∷ ps) next left [] leads chain = absurd (omega (arith, leads.0, chain.0))
chain_rest usable last bound shown first size (p ∷ ps) next left (q ∷ qs) leads chain =
    let same : q ≡ p = chain.1 ∙ sym leads.1 in
    let rest : IsChain usable bound shown (shown.link p).next (size - (usable - 4)) qs = rw (sym same) chain.4 in
    let found = chain_rest usable last bound shown (shown.link p).next (size - (usable - 4)) ps next left qs leads.4 rest in
    (found.0, ap (λ (n : ℕ). n ∷ qs) same ∙ ap (λ (l : List ℕ). p ∷ l) found.1, found.2)

-- where no bytes are to come it is the whole chain
pub whole_chain : (usable last bound : ℕ) (shown : Shown) (first size : ℕ) (done : List ℕ) (next left : ℕ) (list : List ℕ) → left ≡ 0
    → Leads usable last shown first size done next left → IsChain usable bound shown first size list → list ≡ done
whole_chain usable last bound shown first size done next left list none leads chain =
    let found = chain_rest usable last bound shown first size done next left list leads chain in
    by_rest found.0 found.1 found.2
  where
    by_rest : (rest : List ℕ) → list ≡ done ++ rest → IsChain usable bound shown next left rest → list ≡ done
    by_rest [] is chain = is ∙ append-nil done
    by_rest (p ∷ ps) is chain = absurd (omega (arith, none, chain.0))

-- and a chain doesn't go on out of range
pub no_chain : (usable last : ℕ) (shown : Shown) (first size : ℕ) (done : List ℕ) (next left : ℕ) (list : List ℕ) → 0 < left → (next < 2) ⊎ (last < next)
    → Leads usable last shown first size done next left → IsChain usable last shown first size list → ⊥
no_chain usable last shown first size done next left list some out leads chain =
    let found = chain_rest usable last last shown first size done next left list leads chain in
    by_rest found.0 found.2
  where
    by_rest : (rest : List ℕ) → IsChain usable last shown next left rest → ⊥
    by_rest [] chain = omega (arith, some, chain.0)
    by_rest (p ∷ ps) chain = elim out [ inl low ↦ omega (arith, low, chain.1, chain.2) | inr high ↦ omega (arith, high, chain.1, chain.3) ]

-- the first so many bytes of a piece
pub take_least : (left most : ℕ) (xs : List ℕ) → take left (take most xs) ≡ take (min left most) xs
take_least left most xs = elim (cases_lt left most) [
  | inl less ↦ (let least : min left most ≡ left = omega (arith, less) in rw (least) (take-take left most xs (omega (arith, less))))
  | inr more ↦
      (let least : min left most ≡ most = omega (arith, more) in
      rw (least) (take_all left (take most xs) (omega (arith, more, length-take most xs))))
]

-- bytes that are cut off again
pub cut_back : (old new more : List ℕ) (kept : ℕ) → new ≡ old ++ more → kept ≡ length old → take kept new ≡ old
cut_back [] new more kept is len = rw (len) refl
cut_back (x ∷ xs) new more kept is len = rw (is, len) (ap (λ (l : List ℕ). x ∷ l) (cut_back xs (xs ++ more) more (length xs) refl refl))
