use Rattle.std.proofs.Common.{[], ◌∷◌, Bool, subst}
use Rattle.page_face.proofs.PageLaws.{reading_join}
use Rattle.overflow.specs.Following.{shown_over}
use Rattle.tree_read.specs.Looking.{HasNode, BarsNode}
use Rattle.tree_edit.proofs.Edits.{read_one}
use Rattle.tree_keys.specs.Keys.{sought_by, is_row}
use Rattle.tree_keys.proofs.Since.{stands_then}
use Rattle.tree_keys.proofs.Refused.{bars_node}
use Rattle.tree_insert.proofs.Refused.{refused_since}
use Rattle.tree_insert.proofs.Rooted.{tree_since, root_along}
use Rattle.tree_insert.proofs.root.insert_at_root.Goals as goal

pub returns-in-Err-clause-refused : goal.returns-in-Err-clause-refused
returns-in-Err-clause-refused g c =
    let p = g.P.PagesTells in
    let old = c.args.pages.now in
    let new = c.read_node.new.pages in
    bars_node p old new (sought_by c.args.key) 0 c.args.root c.in-Err.why
    (subst (λ (b : Bool). BarsNode p old b c.args.root 0 new c.in-Err.why) c.is_rowid.ensures c.in-Err.ensures.cause)

pub returns-in-Ok-insert_at_node-clause-inserted : goal.returns-in-Ok-insert_at_node-clause-inserted
returns-in-Ok-insert_at_node-clause-inserted g c = λ world told height own items stands.
    let p = g.P.PagesTells in
    let old = c.args.pages.now in
    let mid = c.read_node.new.pages in
    let new = c.insert_at_node.new.pages in
    let sought = sought_by c.args.key in
    let root = c.args.root in
    let only = c.read_node.ensures.reading in
    let told_mid = c.insert_at_node.ensures.edits.narrows world told in
    let has : HasNode p old (is_row sought) root 0 c.read_node.new.buf c.in-Ok.node mid =
    subst (λ (b : Bool). HasNode p old b root 0 c.read_node.new.buf c.in-Ok.node mid) c.is_rowid.ensures c.in-Ok.ensures.node in
    tree_since p old mid new sought c.args.payload.now root own items world (root ∷ []) only told_mid stands.neat (read_one p old mid root has.read)
    (root_along sought (p.usable old) (p.last_page old) (shown_over p old world) root)
    (c.in-Ok-insert_at_node.ensures.inserted world told height own items (stands_then p old mid only world told_mid (is_row sought) height root own items stands))

pub returns-clause-refused : goal.returns-clause-refused
returns-clause-refused g c =
    let p = g.P.PagesTells in
    let old = c.args.pages.now in
    let mid = c.read_node.new.pages in
    let new = c.insert_at_node.new.pages in
    let only = c.read_node.ensures.reading in
    refused_since p old mid new (sought_by c.args.key) 0 c.args.root c.in-Err-insert_at_node.why only c.insert_at_node.ensures.edits
    (λ two. reading_join p old mid new only two (λ a b d. p.follows_on a b d)) c.in-Err-insert_at_node.ensures.refused
