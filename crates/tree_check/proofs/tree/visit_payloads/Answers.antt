use Rattle.std.proofs.Common.{◌<◌, Bool, length, ◌∙◌, arith}
use Rattle.node_spec.specs.Nodes.{Node, cell_at}
use Rattle.tree_check.specs.Visiting.{ShowsNode, ShowsCell}
use Rattle.tree_check.proofs.Joining.{read_both, last_since}
use Rattle.tree_check.proofs.Treeing.{shows_cell, payloads_more, payloads_bar, payloads_end}
use Rattle.tree_check.proofs.tree.visit_payloads.Goals as goal

pub visit_payload-requires-clause-cell : goal.visit_payload-requires-clause-cell
visit_payload-requires-clause-cell g c =
    let first = c.requires.node.0 in
    let told = c.requires.node.1.0 in
    let shows = c.requires.node.1.1 in
    let met = c.loop-k.invariant in
    let less : c.loop-k.k < length told.cells = omega (arith, c.loop-k-test.true, c.len-k-end.ensures, shows.tells.count) in (
      cell_at told c.loop-k.k,
      shows_cell c.args.walk.now.usable c.args.walk.now.last c.loop-k.walk.last first c.args.bytes.now c.args.node.now told c.read_cell-cell.result c.loop-k.k
          (last_since g.P.PagesTells c.args.pages.now c.loop-k.pages c.args.walk.now c.loop-k.walk c.requires.suits met.reading met.suits) shows less
          (c.read_cell-cell.ensures told (record { first = first; tells = shows.tells })),
    )

pub returns-in-Err-clause-cause : goal.returns-in-Err-clause-cause
returns-in-Err-clause-cause g c = λ first told shows.
    let met = c.loop-k.invariant in
    let less : c.loop-k.k < length told.cells = omega (arith, c.loop-k-test.true, c.len-k-end.ensures, shows.tells.count) in
    let cell = shows_cell c.args.walk.now.usable c.args.walk.now.last c.loop-k.walk.last first c.args.bytes.now c.args.node.now told c.read_cell-cell.result c.loop-k.k
    (last_since g.P.PagesTells c.args.pages.now c.loop-k.pages c.args.walk.now c.loop-k.walk c.requires.suits met.reading met.suits) shows less
    (c.read_cell-cell.ensures told (record { first = first; tells = shows.tells })) in
    payloads_bar g.P.PagesTells c.args.pages.now c.loop-k.pages c.visit_payload.new.pages c.args.walk.now c.loop-k.walk c.args.schema told c.loop-k.k c.in-Err.why
    met.reading c.in-Err.ensures.reading less (met.walks first told shows) (c.in-Err.ensures.cause (cell_at told c.loop-k.k) cell)

pub loop-k-preserved : goal.loop-k-preserved
loop-k-preserved g c =
    let met = c.loop-k.invariant in
    let same = last_since g.P.PagesTells c.args.pages.now c.loop-k.pages c.args.walk.now c.loop-k.walk c.requires.suits met.reading met.suits in
    let visited : (first : Bool) (told : Node) → ShowsNode c.args.walk.now.usable c.args.walk.now.last first c.args.bytes.now c.args.node.now told
    → (c.loop-k.k < length told.cells) × ShowsCell c.loop-k.walk.last c.args.node.now.kind c.args.bytes.now c.read_cell-cell.result (cell_at told c.loop-k.k) =
    λ first told shows.
    let less : c.loop-k.k < length told.cells = omega (arith, c.loop-k-test.true, c.len-k-end.ensures, shows.tells.count) in (
      less,
      shows_cell c.args.walk.now.usable c.args.walk.now.last c.loop-k.walk.last first c.args.bytes.now c.args.node.now told c.read_cell-cell.result c.loop-k.k same shows less
          (c.read_cell-cell.ensures told (record { first = first; tells = shows.tells })),
    ) in
    let node = c.requires.node in
    record {
      reading = read_both g.P.PagesTells c.args.pages.now c.loop-k.pages c.visit_payload.new.pages met.reading c.in-Ok.ensures.reading;
      suits = (c.in-Ok.ensures.visited (cell_at node.1.0 c.loop-k.k) (visited node.0 node.1.0 node.1.1).1).suits;
      room = c.in-Ok.ensures.room ∙ met.room;
      walks = λ first told shows.
          let cell = visited first told shows in
          payloads_more g.P.PagesTells c.args.pages.now c.loop-k.pages c.visit_payload.new.pages c.args.walk.now c.loop-k.walk c.visit_payload.new.walk c.args.schema told c.loop-k.k
          met.reading c.in-Ok.ensures.reading cell.0 (met.walks first told shows) (c.in-Ok.ensures.visited (cell_at told c.loop-k.k) cell.1);
    }

pub returns-clause-visited : goal.returns-clause-visited
returns-clause-visited g c = λ first told shows.
    let met = c.loop-k.invariant in
    payloads_end g.P.PagesTells c.args.pages.now c.loop-k.pages c.args.walk.now c.loop-k.walk c.args.schema told c.loop-k.k met.suits
    (omega (arith, c.loop-k-test.false, c.len-k-end.ensures, shows.tells.count)) (met.walks first told shows)
