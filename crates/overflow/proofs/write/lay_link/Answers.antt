use Rattle.std.proofs.Common.{ℕ, List, take, length, ap, ◌∙◌, arith}
use Rattle.page_spec.proofs.BytesLaws.{drop-above}
use Rattle.overflow.proofs.write.lay_link.Goals as goal

pub returns-clause-piece : goal.returns-clause-piece
returns-clause-piece c =
    ap (λ (l : List ℕ). take (length c.args.piece.now) l) (drop-above c.put_u32.ensures.others 4 (omega arith)) ∙ c.lay_content.ensures.piece
