use Rattle.std.proofs.Common.{◌≡◌, ℕ, ◌<◌, List, length, take, sum_by, ap, ◌∙◌, sym, arith}
use Rattle.std.proofs.lemmas.List.{take_all}
use Rattle.node_spec.specs.Layout.{taken}
use Rattle.page_edit.proofs.Lists.{taken-texts_of, length-texts_of}
use Rattle.page_edit.proofs.Packs.{read_at, free_less}
use Rattle.page_edit.proofs.edit.free_bytes.Goals as goal

pub unreachable-requires : goal.unreachable-requires
unreachable-requires c =
    let h = c.requires.shown.1.is_page.holds in
    let pieces = c.requires.shown.1.pieces in
    let less : c.loop-i.i < length pieces = omega (arith, c.loop-i-test.true, c.from-count.ensures, c.get_u16.ensures, h.count) in
    let r = read_at h c.loop-i.i less c.get_u16-start.result c.get_u16-start.ensures in
    omega (arith, r.2, c.in_default.ensures)

pub overflow_sub-free-in-loop-i : goal.overflow_sub-free-in-loop-i
overflow_sub-free-in-loop-i c =
    let h = c.requires.shown.1.is_page.holds in
    let pieces = c.requires.shown.1.pieces in
    let less : c.loop-i.i < length pieces = omega (arith, c.loop-i-test.true, c.from-count.ensures, c.get_u16.ensures, h.count) in
    let r = read_at h c.loop-i.i less c.get_u16-start.result c.get_u16-start.ensures in
    omega (arith, (free_less h c.loop-i.i c.loop-i.free less (c.loop-i.invariant _ pieces h)).0, r.1, c.in-Some.ensures.0)

pub loop-i-preserved : goal.loop-i-preserved
loop-i-preserved c = λ content cells h.
    let less : c.loop-i.i < length cells = omega (arith, c.loop-i-test.true, c.from-count.ensures, c.get_u16.ensures, h.count) in
    let r = read_at h c.loop-i.i less c.get_u16-start.result c.get_u16-start.ensures in
    let f = free_less h c.loop-i.i c.loop-i.free less (c.loop-i.invariant content cells h) in
    omega (arith, f.1, r.1, c.in-Some.ensures.0)

pub returns : goal.returns
returns c = λ cells shown.
    let h = shown.is_page.holds in
    let p = shown.pieces in
    let all : c.loop-i.i ≡ length p = omega (arith, c.loop-i-test.false, c.loop-i.auto.i-end, c.from-count.ensures, c.get_u16.ensures, h.count) in
    let whole : taken (take c.loop-i.i p) ≡ taken p = ap taken (take_all c.loop-i.i p (omega arith)) in
    let sum : sum_by length cells ≡ taken p = ap (sum_by length) (sym shown.texts_are) ∙ taken-texts_of p in
    let len : length cells ≡ length p = ap (λ (xs : List (List ℕ)). length xs) (sym shown.texts_are) ∙ length-texts_of p in
    omega (arith, c.loop-i.invariant _ p h, whole, sum, len)
