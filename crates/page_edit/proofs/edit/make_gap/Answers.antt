use Rattle.std.proofs.Common.{◌≡◌, ℕ, List, length, ap, ◌∙◌, sym, arith}
use Rattle.page_edit.proofs.Lists.{length-texts_of}
use Rattle.page_edit.proofs.Shown.{holds_texts}
use Rattle.page_edit.proofs.edit.make_gap.Goals as goal

pub returns-clause-gap : goal.returns-clause-gap
returns-clause-gap c =
    let texts = c.requires.shown.0 in
    let s = c.requires.shown.1 in
    let len : length texts ≡ length s.pieces = ap (λ (xs : List (List ℕ)). length xs) (sym s.texts_are) ∙ length-texts_of s.pieces in
    let free = c.free_bytes-free.ensures texts s in
    omega (arith, c.if-free-need.false, free, c.pack_cells.ensures.content texts (holds_texts s), c.pack_cells.ensures.count, s.is_page.holds.count, len)
