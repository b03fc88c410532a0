use Rattle.std.proofs.Common.{◌≡◌, ◌+◌, ◌∙◌, get_or, sym, ap, Some, None, arith}
use Rattle.page_spec.specs.Bytes.{u16_at}
use Rattle.node_spec.specs.Kinds.{kind_of, pointers_at}
use Rattle.page_edit.proofs.Shown.{shown_kind}
use Rattle.node_edit.proofs.Rows.{node_fits}
use Rattle.node_edit.proofs.head.head_of.Goals as goal

pub bounds-bytes-at : goal.bounds-bytes-at
bounds-bytes-at c =
    let k = shown_kind c.args.u c.args.first c.args.bytes.now c.requires.shown.0 c.requires.shown.1 in
    omega (arith, k.0, c.header_at-at.ensures.most)

pub unreachable-requires : goal.unreachable-requires
unreachable-requires c =
    let k = shown_kind c.args.u c.args.first c.args.bytes.now c.requires.shown.0 c.requires.shown.1 in
    let none : kind_of (get_or c.args.bytes.now c.header_at-at.result 0) ≡ None = sym c.kind_of.ensures ∙ c.in_default.is in
    let some = rw (sym c.header_at-at.ensures.at) at k.1 in
    absurd (cc (none, some))

pub get_u16-requires : goal.get_u16-requires
get_u16-requires c =
    let k = shown_kind c.args.u c.args.first c.args.bytes.now c.requires.shown.0 c.requires.shown.1 in
    omega (arith, k.0, c.header_at-at.ensures.most)

pub returns : goal.returns
returns c = record {
  head = λ node shown.
      let k = shown_kind c.args.u c.args.first c.args.bytes.now node shown in
      let told : kind_of (get_or c.args.bytes.now c.header_at-at.result 0) ≡ Some c.in-Some.kind = sym c.kind_of.ensures ∙ c.in-Some.is in
      let some = rw (sym c.header_at-at.ensures.at) at k.1 in
      let kind : c.in-Some.kind ≡ node.kind = cc (told, some) in
      let f = node_fits {page = c.args.bytes.now} shown in
      let pointers = c.pointers_at.ensures.at ∙ ap (pointers_at c.args.first) kind in
      let count = c.from.ensures ∙ c.get_u16.ensures ∙ ap (λ n. u16_at c.args.bytes.now (n + 3)) c.header_at-at.ensures.at ∙ f.count in
      record {
        kind = kind;
        pointers = pointers;
        count = count;
        most = omega (arith, f.fits, pointers, count);
      };
}
