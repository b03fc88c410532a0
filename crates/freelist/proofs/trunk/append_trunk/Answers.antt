use Rattle.std.proofs.Common.{ℕ, List, ◌++◌, ◌∷◌, [], ◌+◌, ◌*◌, ◌∙◌, ap, sym, append_assoc}
use Rattle.page_spec.specs.Bytes.{u32_at}
use Rattle.tree_spec.specs.Freelist.{numbers_at}
use Rattle.tree_spec.proofs.Freelists.{numbers_more}
use Rattle.freelist.proofs.trunk.append_trunk.Goals as goal

pub loop-i-preserved : goal.loop-i-preserved
loop-i-preserved c =
    let page = c.args.page.now in
    let held = c.args.number ∷ numbers_at page 8 c.loop-i.i in
    c.in-Ok-push.ensures.items
    ∙ ap (λ (l : List ℕ). l ++ c.get_u32.result ∷ []) c.loop-i.invariant
    ∙ ap (λ (n : ℕ). (c.args.to.now.items ++ held) ++ n ∷ []) c.get_u32.ensures
    ∙ append_assoc c.args.to.now.items held (u32_at page (8 + 4 * c.loop-i.i) ∷ [])
    ∙ ap (λ (l : List ℕ). c.args.to.now.items ++ c.args.number ∷ l) (sym (numbers_more page 8 c.loop-i.i))
