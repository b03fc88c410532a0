use Rattle.std.proofs.Common.{◌+◌, take, ap, sym, ◌∙◌, arith}
use Rattle.std.proofs.lemmas.List.{length-take-le}
use Rattle.node_edit.proofs.UpKeys.{inner_long, inner_body, leaf_body, short_body}
use Rattle.node_edit.proofs.between.body_of.Goals as goal

pub slice_bounds-result-count : goal.slice_bounds-result-count
slice_bounds-result-count c =
    let r = c.requires.one in omega (arith, inner_long c.args.kind r.0 c.args.text.now (sym c.is_leaf.ensures ∙ c.if-not-is_leaf.true) r.2)

pub slice_bounds-result-start : goal.slice_bounds-result-start
slice_bounds-result-start c =
    let r = c.requires.one in omega (arith, inner_long c.args.kind r.0 c.args.text.now (sym c.is_leaf.ensures ∙ c.if-not-is_leaf.true) r.2)

pub returns-then-not-is_leaf : goal.returns-then-not-is_leaf
returns-then-not-is_leaf c = λ usable least one. inner_body c.args.kind usable c.args.text.now (sym c.is_leaf.ensures ∙ c.if-not-is_leaf.true) one

pub returns-then-text-gt4 : goal.returns-then-text-gt4
returns-then-text-gt4 c = λ usable least one. leaf_body c.args.kind usable c.args.text.now (sym c.is_leaf.ensures ∙ c.if-not-is_leaf.false) one c.if-text-gt4.true

pub unreachable-requires : goal.unreachable-requires
unreachable-requires c =
    let r = c.requires.one in
    let s = short_body c.args.kind r.0 c.args.text.now (sym c.is_leaf.ensures ∙ c.if-not-is_leaf.false) c.requires.kind (omega (arith, c.if-text-gt4.false)) r.2 in
    omega (arith, s.0, c.in_default.ensures)

pub overflow_add-result : goal.overflow_add-result
overflow_add-result c =
    let r = c.requires.one in
    let s = short_body c.args.kind r.0 c.args.text.now (sym c.is_leaf.ensures ∙ c.if-not-is_leaf.false) c.requires.kind (omega (arith, c.if-text-gt4.false)) r.2 in
    omega (arith, s.0, c.in-Some.ensures.spelled, c.in-Some.ensures.used, c.if-text-gt4.false)

pub slice_bounds-result-end-2 : goal.slice_bounds-result-end-2
slice_bounds-result-end-2 c =
    let r = c.requires.one in
    let s = short_body c.args.kind r.0 c.args.text.now (sym c.is_leaf.ensures ∙ c.if-not-is_leaf.false) c.requires.kind (omega (arith, c.if-text-gt4.false)) r.2 in
    sym (length-take-le (c.in-Some.size + c.in-Some.payload) c.args.text.now (omega (arith, s.0, c.in-Some.ensures.spelled, c.in-Some.ensures.used)))

pub returns : goal.returns
returns c = λ usable least one.
    let s = short_body c.args.kind usable c.args.text.now (sym c.is_leaf.ensures ∙ c.if-not-is_leaf.false) c.requires.kind (omega (arith, c.if-text-gt4.false)) one in
    ap (λ n. take n c.args.text.now) (omega (arith, c.in-Some.ensures.spelled, c.in-Some.ensures.used)) ∙ s.1
