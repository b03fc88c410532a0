use Rattle.std.proofs.Common.{sym, ◌∙◌}
use Rattle.acts.proofs.Places.{image_there, image_new}
use Rattle.acts.proofs.transaction.put_image.Goals as goal

pub returns-in-Some-clause-ok : goal.returns-in-Some-clause-ok
returns-in-Some-clause-ok c =
    c.set.ensures
    ∙ sym (image_there c.args.changed.now c.args.page c.args.bytes c.in-Some.at (let e = rw c.as_slice.ensures at c.place_of.ensures in sym e ∙ c.in-Some.is))

pub returns-in-None-clause-ok : goal.returns-in-None-clause-ok
returns-in-None-clause-ok c =
    rw (image_new c.args.changed.now c.args.page c.args.bytes (let e = rw c.as_slice.ensures at c.place_of.ensures in sym e ∙ c.in-None.is)) c.push.ensures.ok
