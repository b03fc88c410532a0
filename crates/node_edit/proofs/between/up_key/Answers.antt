use Rattle.std.proofs.Common.{◌∙◌}
use Rattle.node_edit.proofs.UpKeys.{up_told}
use Rattle.node_edit.proofs.between.up_key.Goals as goal

pub body_of-requires-clause-one : goal.body_of-requires-clause-one
body_of-requires-clause-one c = let r = c.requires.run in (c.args.run.u, r.1.least, (c.text_of.ensures r.0 r.1).one)

pub returns : goal.returns
returns c = record {
  key = λ cells is.
      let s = c.text_of.ensures cells is in up_told s c.requires.kind (c.in_ok-key.ensures ∙ c.body_of.ensures c.args.run.u is.least s.one);
}
