use Rattle.laying.proofs.Putting.{laid_first_is}
use Rattle.laying.proofs.first.put_bytes.Goals as goal

pub returns-clause-put : goal.returns-clause-put
returns-clause-put c =
    laid_first_is c.args.mode c.args.tail c.args.first.now c.args.new.now c.put_fields.new.first c.put_rest.new.first c.requires.room
    c.requires.same c.put_fields.ensures.put c.put_rest.ensures.put
