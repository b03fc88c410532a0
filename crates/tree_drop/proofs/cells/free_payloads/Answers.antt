use Rattle.std.proofs.Common.{ℕ, ◌+◌, ◌≤◌, ◌<◌, length, drop, refl, sym, subst, ◌∙◌, arith}
use Rattle.page_face.proofs.PageLaws.{editing_join, reading_same}
use Rattle.node_spec.specs.Nodes.{cell_at}
use Rattle.page_form.specs.Reading.{Tells, IsReadPage}
use Rattle.tree_drop.specs.Parts.{HasChain, HaveChains}
use Rattle.tree_drop.proofs.Steps.{Nothing, begun, goes_on, left_as, all_gone, bars_next}
use Rattle.tree_drop.proofs.Parts.{says_of, chains_at, chains_end, has_chain_local}
use Rattle.tree_drop.proofs.cells.free_payloads.Goals as goal

pub loop-k-init : goal.loop-k-init
loop-k-init g c = record {
  so_far = λ shown read table. begun g.P.PagesTells c.args.pages.now (HaveChains table shown.cells) c.requires.ready (g.P.PagesTells.follows_itself _);
  last = refl;
  edits = (reading_same g.P.PagesTells c.args.pages.now c.requires.ready (g.P.PagesTells.follows_itself _)).edits;
  room = refl;
}

pub returns-in-Err-clause-refused : goal.returns-in-Err-clause-refused
returns-in-Err-clause-refused g c = λ shown read table.
    let p = g.P.PagesTells in
    let k = c.loop-k.k in
    let less : k < length shown.cells = omega (arith, c.loop-k-test.true, c.len-k-end.ensures, read.tells.count) in
    let read_page : IsReadPage c.usable_of-usable.result c.args.bytes.now c.args.node.now shown =
    record { first = read.first; tells = subst (λ (u : ℕ). Tells u read.first c.args.bytes.now c.args.node.now shown) (sym c.usable_of-usable.ensures.value) read.tells } in
    let says = says_of _ _ _ c.read_cell-cell.result (cell_at shown k) (c.read_cell-cell.ensures shown read_page) in
    bars_next p c.args.pages.now c.loop-k.pages c.free_payload.new.pages (HaveChains table shown.cells) (HaveChains table (drop k shown.cells)) (HasChain (cell_at shown k))
    (HaveChains table (drop (k + 1) shown.cells)) c.in-Err.why (c.loop-k.invariant.so_far shown read table) (chains_at table shown.cells k (k + 1) less refl) (has_chain_local (cell_at shown k))
    c.in-Err.ensures.edits (c.in-Err.ensures.refused (cell_at shown k) says)

pub loop-k-preserved : goal.loop-k-preserved
loop-k-preserved g c =
    let p = g.P.PagesTells in
    let k = c.loop-k.k in
    let before = c.loop-k.invariant in
    record {
      so_far = λ shown read table.
          let less : k < length shown.cells = omega (arith, c.loop-k-test.true, c.len-k-end.ensures, read.tells.count) in
          let read_page : IsReadPage c.usable_of-usable.result c.args.bytes.now c.args.node.now shown =
          record { first = read.first; tells = subst (λ (u : ℕ). Tells u read.first c.args.bytes.now c.args.node.now shown) (sym c.usable_of-usable.ensures.value) read.tells } in
          let says = says_of _ _ _ c.read_cell-cell.result (cell_at shown k) (c.read_cell-cell.ensures shown read_page) in
          goes_on p c.args.pages.now c.loop-k.pages c.free_payload.new.pages (HaveChains table shown.cells) (HaveChains table (drop k shown.cells)) (HasChain (cell_at shown k))
          (HaveChains table (drop (k + 1) shown.cells)) (before.so_far shown read table) (chains_at table shown.cells k (k + 1) less refl) (has_chain_local (cell_at shown k)) p.follows_on
          c.in-Ok.ensures.edits c.in-Ok.ensures.last (c.in-Ok.ensures.dropped (cell_at shown k) says);
      last = c.in-Ok.ensures.last ∙ before.last;
      edits = editing_join p c.args.pages.now c.loop-k.pages c.free_payload.new.pages before.edits c.in-Ok.ensures.edits p.follows_on;
      room = c.in-Ok.ensures.room ∙ before.room;
    }

pub returns-clause-dropped : goal.returns-clause-dropped
returns-clause-dropped g c = λ shown read table.
    let past : length shown.cells ≤ c.loop-k.k = omega (arith, c.loop-k-test.false, c.len-k-end.ensures, read.tells.count) in
    all_gone g.P.PagesTells c.args.pages.now c.loop-k.pages (HaveChains table shown.cells)
    (left_as g.P.PagesTells c.args.pages.now c.loop-k.pages (HaveChains table shown.cells) (HaveChains table (drop c.loop-k.k shown.cells)) Nothing (chains_end table shown.cells c.loop-k.k past)
    (c.loop-k.invariant.so_far shown read table))
