use Rattle.value_form.proofs.SerialLaws.{half_of}
use Rattle.value_form.proofs.serial.half_count.Goals as goal

pub returns-clause-half : goal.returns-clause-half
returns-clause-half c = (half_of c.args.size c.requires.some c.requires.most).0

pub returns-clause-small : goal.returns-clause-small
returns-clause-small c = (half_of c.args.size c.requires.some c.requires.most).1
