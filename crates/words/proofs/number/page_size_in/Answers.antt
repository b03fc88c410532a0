use Rattle.std.proofs.Common.{refl}
use Rattle.words.proofs.Numbers.{no_size}
use Rattle.words.proofs.number.page_size_in.Goals as goal

pub returns-in_err-size : goal.returns-in_err-size
returns-in_err-size c = rw (c.from_residual.ensures, no_size c.args.text.now c.in_err-size.ensures) refl
