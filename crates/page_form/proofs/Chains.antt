-- A walk along the chain of freeblocks.
use Rattle.std.proofs.Common.{◌≡◌, ℕ, zero, suc, ◌+◌, ◌-◌, ◌*◌, ◌<◌, ◌≤◌, ◌==◌, min, true, false, None, Some, List, [], ◌∷◌, ◌++◌, length, get_or, drop, refl, sym, ap, subst, ◌∙◌, arith, ◌⊎◌, length-drop, append_assoc, append-nil}
use Rattle.std.proofs.lemmas.List.{length-take-le}
use Rattle.std.proofs.lemmas.Bool.Decides.{nat_tests}
use Rattle.page_spec.specs.Bytes.{u16_at}
use Rattle.node_spec.specs.Layout.{Piece, cover, taken}
use Rattle.node_spec.specs.Faults.{block_piece, blocks_in, is_block, chain_fault}
use Rattle.node_spec.proofs.Decode.{block_fits}
use Rattle.page_form.specs.Marks.{AreMarks}
use Rattle.page_form.proofs.Marking.{cover_more, taken_more, marked}

-- The freeblocks from the first on up to a place, at most `more` of them to come.
pub record Walking (usable content : ℕ) (page : List ℕ) (first before at sum : ℕ) (old marks : List ℕ) : Type 0 where
  pub more : ℕ
  pub walked : List Piece
  pub enough : usable < more + before
  pub low : before ≤ usable
  pub fault : chain_fault (suc usable) usable content page 0 first ≡ chain_fault more usable content page before at
  pub blocks : blocks_in (suc usable) page first ≡ walked ++ blocks_in more page at
  pub sum_is : sum ≡ taken walked
  pub sum_most : sum ≤ 65536 * before
  pub marks_are : (cells : List Piece) → AreMarks old cells [] → AreMarks marks cells walked

pub walk_begins : (usable content : ℕ) (page : List ℕ) (first : ℕ) (marks : List ℕ) → Walking usable content page first 0 first 0 marks marks
walk_begins usable content page first marks = record {
  more = suc usable;
  walked = [];
  enough = omega arith;
  low = omega arith;
  fault = refl;
  blocks = refl;
  sum_is = refl;
  sum_most = omega arith;
  marks_are = λ cells are. are;
}

no_blocks : (more : ℕ) (page : List ℕ) (at : ℕ) → at ≡ 0 → blocks_in more page at ≡ []
unfolding blocks_in
no_blocks zero page at is = refl
no_blocks (suc more) page at is = rw is refl

no_chain : (more usable content : ℕ) (page : List ℕ) (before at : ℕ) → at ≡ 0 → chain_fault more usable content page before at ≡ None
unfolding chain_fault
no_chain zero usable content page before at is = refl
no_chain (suc more) usable content page before at is = rw is refl

-- at the end of the chain
pub walk_ends : {usable content : ℕ} {page : List ℕ} {first before at sum : ℕ} {old marks : List ℕ} → Walking usable content page first before at sum old marks → at ≡ 0
    → (chain_fault (suc usable) usable content page 0 first ≡ None) × (sum ≡ taken (blocks_in (suc usable) page first))
    × (sum ≤ 65536 * usable) × ((cells : List Piece) → AreMarks old cells [] → AreMarks marks cells (blocks_in (suc usable) page first))
walk_ends {usable} {content} {page} {first} {before} {at} {sum} {old} {marks} w is =
    let all : blocks_in (suc usable) page first ≡ w.walked =
    w.blocks ∙ ap (λ xs. w.walked ++ xs) (no_blocks w.more page at is) ∙ append-nil w.walked in (
      w.fault ∙ no_chain w.more usable content page before at is,
      w.sum_is ∙ ap taken (sym all),
      omega (arith, w.sum_most, w.low),
      λ cells are. subst (λ blocks. AreMarks marks cells blocks) (sym all) (w.marks_are cells are),
    )

not_zero : (n : ℕ) → (n ≡ 0 → ⊥) → (n == 0) ≡ false
not_zero n other = grind (arith, nat_tests)

step_fault : (more usable content : ℕ) (page : List ℕ) (before at : ℕ) → (at ≡ 0 → ⊥) → is_block usable content page before at ≡ true
    → chain_fault (suc more) usable content page before at ≡ chain_fault more usable content page at (u16_at page at)
unfolding chain_fault
step_fault more usable content page before at other is = rw (not_zero at other, is) refl

step_blocks : (more : ℕ) (page : List ℕ) (at : ℕ) → (at ≡ 0 → ⊥)
    → blocks_in (suc more) page at ≡ block_piece page at ∷ blocks_in more page (u16_at page at)
unfolding blocks_in
step_blocks more page at other = rw (not_zero at other) refl

block_is : (page : List ℕ) (at size : ℕ) → size ≡ u16_at page (at + 2) → at + size ≤ length page
    → ((block_piece page at).start ≡ at) × (length (block_piece page at).bytes ≡ size)
unfolding block_piece
block_is page at size is room = (refl, rw (sym is) (length-take-le size (drop at page) (omega (arith, length-drop at page))))

stop_fault : (more usable content : ℕ) (page : List ℕ) (before at : ℕ) → (at ≡ 0 → ⊥) → is_block usable content page before at ≡ false
    → chain_fault (suc more) usable content page before at ≡ Some at
unfolding chain_fault
stop_fault more usable content page before at other is = rw (not_zero at other, is) refl

-- at a place that breaks the chain
pub walk_breaks : {usable content : ℕ} {page : List ℕ} {first before at sum : ℕ} {old marks : List ℕ} → Walking usable content page first before at sum old marks
    → (at ≡ 0 → ⊥) → is_block usable content page before at ≡ false → chain_fault (suc usable) usable content page 0 first ≡ Some at
walk_breaks {usable} {content} {page} {first} {before} {at} w other is =
    let more : w.more ≡ suc (w.more - 1) = omega (arith, w.enough, w.low) in
    w.fault ∙ subst (λ n. chain_fault n usable content page before at ≡ Some at) (sym more) (stop_fault (w.more - 1) usable content page before at other is)

-- one freeblock further
pub walk_goes_on : {usable content : ℕ} {page : List ℕ} {first before at sum : ℕ} {old marks : List ℕ} → Walking usable content page first before at sum old marks
    → (at ≡ 0 → ⊥) → is_block usable content page before at ≡ true → usable ≤ length page
    → (size next : ℕ) (new : List ℕ) → size ≡ u16_at page (at + 2) → size ≤ 65536 → next ≡ u16_at page at
    → ((k : ℕ) → at ≤ k → k < at + size → get_or new k 0 ≡ min 2 (get_or marks k 0 + 1))
    → ((k : ℕ) → (k < at) ⊎ (at + size ≤ k) → get_or new k 0 ≡ get_or marks k 0)
    → Walking usable content page first at next (sum + size) old new
walk_goes_on {usable} {content} {page} {first} {before} {at} {sum} {old} {marks} w other is long size next new size_is few next_is inside outside =
    let fits = block_fits usable content page before at is in
    let rises = fits.0 in
    let ends : at + size ≤ usable = omega (arith, fits.4) in
    let more : w.more ≡ suc (w.more - 1) = omega (arith, w.enough, w.low) in
    let block = block_piece page at in
    let shape = block_is page at size size_is (omega arith) in
    record {
      more = w.more - 1;
      walked = w.walked ++ block ∷ [];
      enough = omega (arith, w.enough, rises);
      low = omega arith;
      fault = w.fault ∙ rw next_is (subst (λ n. chain_fault n usable content page before at ≡ chain_fault (w.more - 1) usable content page at (u16_at page at)) (sym more)
          (step_fault (w.more - 1) usable content page before at other is));
      blocks = w.blocks ∙ rw next_is (ap (λ xs. w.walked ++ xs) (subst (λ n. blocks_in n page at ≡ block ∷ blocks_in (w.more - 1) page (u16_at page at)) (sym more)
          (step_blocks (w.more - 1) page at other)) ∙ sym (append_assoc w.walked (block ∷ []) (blocks_in (w.more - 1) page (u16_at page at))));
      sum_is = omega (arith, w.sum_is, taken_more w.walked block, shape.1);
      sum_most = omega (arith, w.sum_most, rises);
      marks_are = λ cells are k.
          let m = marked marks new block at size shape.0 shape.1 inside outside k (cover cells k + cover w.walked k) (w.marks_are cells are k) in
          omega (arith, m, cover_more w.walked block k);
    }
