use Rattle.std.proofs.Common.{suc, ◌+◌, ◌∙◌, refl, sym, ap}
use Rattle.page_spec.specs.Bytes.{u16_at}
use Rattle.node_spec.specs.Layout.{taken}
use Rattle.node_spec.specs.Faults.{cells_in, blocks_in}
use Rattle.page_form.proofs.Contents.{fault_in_cells, fault_in_blocks, fault_in_bytes, fault_in_fragments, no_fault}
use Rattle.page_form.proofs.content.check_marked.Goals as goal

pub returns-in-Err : goal.returns-in-Err
returns-in-Err c =
    fault_in_cells c.args.u c.args.at c.args.pointers c.args.kind c.args.bytes.now c.from-count.result c.content_start-content.result
    (u16_at c.args.bytes.now (c.args.at + 1)) (c.from-count.ensures ∙ c.get_u16.ensures) c.content_start-content.ensures.start refl c.in-Err.start c.in-Err.ensures

pub returns-in-Err-mark_blocks : goal.returns-in-Err-mark_blocks
returns-in-Err-mark_blocks c =
    fault_in_blocks c.args.u c.args.at c.args.pointers c.args.kind c.args.bytes.now c.from-count.result c.content_start-content.result c.get_u16-2.result
    (c.from-count.ensures ∙ c.get_u16.ensures) c.content_start-content.ensures.start c.get_u16-2.ensures c.in-Err-mark_blocks.start c.in-Ok.ensures.0 c.in-Err-mark_blocks.ensures

pub returns-in-Some : goal.returns-in-Some
returns-in-Some c =
    let marks = c.in-Ok-mark_blocks.ensures.3 (cells_in c.args.u c.args.kind c.args.bytes.now c.args.pointers c.from-count.result) c.in-Ok.ensures.3 in
    let first = c.shared_byte.ensures (cells_in c.args.u c.args.kind c.args.bytes.now c.args.pointers c.from-count.result)
    (blocks_in (suc c.args.u) c.args.bytes.now c.get_u16-2.result) marks in
    fault_in_bytes c.args.u c.args.at c.args.pointers c.args.kind c.args.bytes.now c.from-count.result c.content_start-content.result c.get_u16-2.result
    (c.from-count.ensures ∙ c.get_u16.ensures) c.content_start-content.ensures.start c.get_u16-2.ensures c.in-Some.byte c.in-Ok.ensures.0 c.in-Ok-mark_blocks.ensures.0
    (sym first ∙ c.in-Some.is)

pub returns-then-not-are_fragments : goal.returns-then-not-are_fragments
returns-then-not-are_fragments c =
    let marks = c.in-Ok-mark_blocks.ensures.3 (cells_in c.args.u c.args.kind c.args.bytes.now c.args.pointers c.from-count.result) c.in-Ok.ensures.3 in
    let first = c.shared_byte.ensures (cells_in c.args.u c.args.kind c.args.bytes.now c.args.pointers c.from-count.result)
    (blocks_in (suc c.args.u) c.args.bytes.now c.get_u16-2.result) marks in
    fault_in_fragments c.args.u c.args.at c.args.pointers c.args.kind c.args.bytes.now c.from-count.result c.content_start-content.result c.get_u16-2.result
    (c.from-count.ensures ∙ c.get_u16.ensures) c.content_start-content.ensures.start c.get_u16-2.ensures c.in-Ok.cells c.in-Ok-mark_blocks.blocks
    c.in-Ok.ensures.0 c.in-Ok-mark_blocks.ensures.0
    (sym first ∙ c.in_default.is)
    c.in-Ok.ensures.1 c.in-Ok-mark_blocks.ensures.1 (sym c.are_fragments.ensures ∙ c.if-not-are_fragments.true)

pub returns : goal.returns
returns c =
    let marks = c.in-Ok-mark_blocks.ensures.3 (cells_in c.args.u c.args.kind c.args.bytes.now c.args.pointers c.from-count.result) c.in-Ok.ensures.3 in
    let first = c.shared_byte.ensures (cells_in c.args.u c.args.kind c.args.bytes.now c.args.pointers c.from-count.result)
    (blocks_in (suc c.args.u) c.args.bytes.now c.get_u16-2.result) marks in (
      no_fault c.args.u c.args.at c.args.pointers c.args.kind c.args.bytes.now c.from-count.result c.content_start-content.result c.get_u16-2.result
          (c.from-count.ensures ∙ c.get_u16.ensures) c.content_start-content.ensures.start c.get_u16-2.ensures c.in-Ok.cells c.in-Ok-mark_blocks.blocks
          c.in-Ok.ensures.0 c.in-Ok-mark_blocks.ensures.0
          (sym first ∙ c.in_default.is)
          c.in-Ok.ensures.1 c.in-Ok-mark_blocks.ensures.1 (sym c.are_fragments.ensures ∙ c.if-not-are_fragments.false),
      c.in-Ok.ensures.1 ∙ ap (λ n. taken (cells_in c.args.u c.args.kind c.args.bytes.now c.args.pointers n)) (c.from-count.ensures ∙ c.get_u16.ensures),
    )
