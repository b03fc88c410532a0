use Rattle.std.proofs.Common.{◌+◌, ◌∙◌, sym, refl, ap, arith}
use Rattle.page_spec.specs.Bytes.{u16_at}
use Rattle.page_form.proofs.Pages.{no_kind, bad_part, good_page, tells_page}
use Rattle.page_form.proofs.read.read_page.Goals as goal

pub returns-in_default-clause-refused : goal.returns-in_default-clause-refused
returns-in_default-clause-refused c =
    no_kind c.args.u c.args.first c.args.bytes.now c.header_at-at.result c.header_at-at.ensures.at (sym c.kind_of.ensures ∙ c.in_default.is)

pub returns-in-Err-clause-refused : goal.returns-in-Err-clause-refused
returns-in-Err-clause-refused c =
    bad_part c.args.u c.args.first c.args.bytes.now c.header_at-at.result c.pointers_at-pointers.result c.in-Some.kind c.in-Err.at c.header_at-at.ensures.at
    (sym c.kind_of.ensures ∙ c.in-Some.is) c.pointers_at-pointers.ensures.at c.in-Err.ensures

pub read_pointers-requires : goal.read_pointers-requires
read_pointers-requires c =
    let good = good_page c.args.u c.args.first c.args.bytes.now c.header_at-at.result c.pointers_at-pointers.result c.in-Some.kind c.in-Ok.taken c.requires.usable.0
    c.requires.usable.1 c.requires.usable.2 c.header_at-at.ensures.at (sym c.kind_of.ensures ∙ c.in-Some.is) c.pointers_at-pointers.ensures.at c.in-Ok.ensures.0 c.in-Ok.ensures.1 in
    let count = c.from-count.ensures ∙ c.get_u16.ensures ∙ ap (λ n. u16_at c.args.bytes.now (n + 3)) c.header_at-at.ensures.at in
    omega (arith, good.room, count, c.pointers_at-pointers.ensures.at, c.requires.usable.2)

pub overflow_add-result-2 : goal.overflow_add-result-2
overflow_add-result-2 c =
    let good = good_page c.args.u c.args.first c.args.bytes.now c.header_at-at.result c.pointers_at-pointers.result c.in-Some.kind c.in-Ok.taken c.requires.usable.0
    c.requires.usable.1 c.requires.usable.2 c.header_at-at.ensures.at (sym c.kind_of.ensures ∙ c.in-Some.is) c.pointers_at-pointers.ensures.at c.in-Ok.ensures.0 c.in-Ok.ensures.1 in
    let count = c.from-count.ensures ∙ c.get_u16.ensures ∙ ap (λ n. u16_at c.args.bytes.now (n + 3)) c.header_at-at.ensures.at in
    omega (arith, good.room, count, c.pointers_at-pointers.ensures.at, c.requires.usable)

pub overflow_sub-result : goal.overflow_sub-result
overflow_sub-result c =
    let good = good_page c.args.u c.args.first c.args.bytes.now c.header_at-at.result c.pointers_at-pointers.result c.in-Some.kind c.in-Ok.taken c.requires.usable.0
    c.requires.usable.1 c.requires.usable.2 c.header_at-at.ensures.at (sym c.kind_of.ensures ∙ c.in-Some.is) c.pointers_at-pointers.ensures.at c.in-Ok.ensures.0 c.in-Ok.ensures.1 in
    let count = c.from-count.ensures ∙ c.get_u16.ensures ∙ ap (λ n. u16_at c.args.bytes.now (n + 3)) c.header_at-at.ensures.at in
    omega (arith, good.room, count, c.pointers_at-pointers.ensures.at)

pub returns-clause-told : goal.returns-clause-told
returns-clause-told c =
    let good = good_page c.args.u c.args.first c.args.bytes.now c.header_at-at.result c.pointers_at-pointers.result c.in-Some.kind c.in-Ok.taken c.requires.usable.0
    c.requires.usable.1 c.requires.usable.2 c.header_at-at.ensures.at (sym c.kind_of.ensures ∙ c.in-Some.is) c.pointers_at-pointers.ensures.at c.in-Ok.ensures.0 c.in-Ok.ensures.1 in
    let count = c.from-count.ensures ∙ c.get_u16.ensures ∙ ap (λ n. u16_at c.args.bytes.now (n + 3)) c.header_at-at.ensures.at in (
      good.node,
      tells_page good c.pointers_at-pointers.result c.from-count.result _ c.pointers_at-pointers.ensures.at count refl
          c.in-Ok-read_pointers.ensures.0 c.in-Ok-read_pointers.ensures.1 c.right_child.ensures refl,
    )
