use Rattle.std.proofs.Common.{◌≡◌, get_or, sym, ap, ◌∙◌, Some, None, refl, arith}
use Rattle.node_spec.specs.Kinds.{kind_of, pointers_at}
use Rattle.page_edit.proofs.Shown.{shown_kind}
use Rattle.page_edit.proofs.form.form_of.Goals as goal

pub bounds-bytes-at : goal.bounds-bytes-at
bounds-bytes-at c =
    let k = shown_kind c.args.u c.args.first c.args.bytes.now c.requires.shown.0 c.requires.shown.1 in
    omega (arith, k.0, c.header_at-at.ensures.most)

pub unreachable-requires : goal.unreachable-requires
unreachable-requires c =
    let k = shown_kind c.args.u c.args.first c.args.bytes.now c.requires.shown.0 c.requires.shown.1 in
    let none : kind_of (get_or c.args.bytes.now c.header_at-at.result 0) ≡ None = sym c.kind_of.ensures ∙ c.in_default.is in
    let some = rw (sym c.header_at-at.ensures.at) at k.1 in
    absurd (cc (none, some))

pub returns : goal.returns
returns c = record {
  form = λ node shown.
      let k = shown_kind c.args.u c.args.first c.args.bytes.now node shown in
      let told : kind_of (get_or c.args.bytes.now c.header_at-at.result 0) ≡ Some c.in-Some.kind = sym c.kind_of.ensures ∙ c.in-Some.is in
      let some = rw (sym c.header_at-at.ensures.at) at k.1 in
      let kind : c.in-Some.kind ≡ node.kind = cc (told, some) in
      record {
        u = refl;
        at = c.header_at-at.ensures.at;
        pointers = c.pointers_at.ensures.at ∙ ap (pointers_at c.args.first) kind;
        kind = kind;
      };
}
