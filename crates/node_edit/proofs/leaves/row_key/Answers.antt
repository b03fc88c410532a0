use Rattle.std.proofs.Common.{subst, ◌∙◌}
use Rattle.node_spec.specs.declared.kinds.Kind.{Kind}
use Rattle.node_edit.proofs.UpKeys.{row_told}
use Rattle.node_edit.specs.Runs.{Spells, cell_of}
use Rattle.node_edit.proofs.leaves.row_key.Goals as goal

pub rowid_of-requires : goal.rowid_of-requires
rowid_of-requires c =
    let r = c.requires.run in
    (c.args.run.u, (subst (λ (k : Kind). Spells k c.args.run.u c.text_of.result.now (cell_of r.0 c.args.k)) c.requires.kind (c.text_of.ensures r.0 r.1)).one)

pub returns : goal.returns
returns c = record { key = λ cells is. row_told (c.text_of.ensures cells is) c.requires.kind (c.in_ok-key.ensures ∙ c.rowid_of.ensures) }
