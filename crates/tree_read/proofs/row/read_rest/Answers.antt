use Rattle.std.proofs.Common.{◌≡◌, ℕ, List, length, ap, arith, inl, inr}
use Rattle.tree_read.proofs.Payloads.{too_large, begins_outside, all_followed, part_followed}
use Rattle.tree_read.proofs.row.read_rest.Goals as goal

pub returns-then-cell-from-clause-payload : goal.returns-then-cell-from-clause-payload
returns-then-cell-from-clause-payload g c = λ node told.
    too_large g.P.PagesTells c.args.pages.now node c.args.page _ (omega (arith, c.if-cell-from.true, c.from.ensures, told.payload))

pub returns-then-begins_outside-clause-payload : goal.returns-then-begins_outside-clause-payload
returns-then-begins_outside-clause-payload g c = λ node told.
    let outside = c.begins_outside.ensures.outside c.if-begins_outside.true in
    begins_outside g.P.PagesTells c.args.pages.now node c.args.page _ (omega (arith, c.if-cell-from.false, c.from.ensures, told.payload))
    (omega (arith, outside.0, c.saturating_sub-left.ensures, told.payload, told.local))
    (elim outside.1 [ inl low ↦ inl (omega (arith, low, told.overflow)) | inr high ↦ inr (omega (arith, high, told.overflow, c.last.ensures)) ])

pub returns-in-Ok-clause-payload : goal.returns-in-Ok-clause-payload
returns-in-Ok-clause-payload g c = λ node told.
    all_followed g.P.PagesTells c.args.pages.now c.read_chain_with.new.pages node c.args.page _ _ _ _ told.overflow
    (omega (arith, c.saturating_sub-left.ensures, told.payload, told.local))
    told.bytes_are
    (omega (arith, c.if-cell-from.false, c.from.ensures, told.payload)) c.in-Ok.ensures.followed

pub returns-in-Ok-clause-small : goal.returns-in-Ok-clause-small
returns-in-Ok-clause-small g c =
    let told = c.requires.copied.1 in
    let count : length c.args.to.now.items ≡ length c.requires.copied.0.local = ap (λ (l : List ℕ). length l) told.bytes_are in
    omega (arith, count, told.few, c.in-Ok.ensures.count, c.if-cell-from.false, c.from.ensures, c.saturating_sub-left.ensures, told.local)

pub returns-in-Err-clause-payload : goal.returns-in-Err-clause-payload
returns-in-Err-clause-payload g c = λ node told.
    part_followed g.P.PagesTells c.args.pages.now c.read_chain_with.new.pages node c.args.page _ _ _ _ _ c.in-Err.why told.overflow
    (omega (arith, c.saturating_sub-left.ensures, told.payload, told.local))
    (omega (arith, c.if-cell-from.false, c.from.ensures, told.payload))
    (λ some. let range = c.begins_outside.ensures.inside c.if-begins_outside.false some in (range.0, omega (arith, range.1, c.last.ensures)))
    c.in-Err.ensures.followed
