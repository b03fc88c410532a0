use Rattle.std.proofs.Common.{sym, subst}
use Rattle.words.specs.Seen.{given_in}
use Rattle.words.specs.Words.{nothing_given, AreWithinLimits}
use Rattle.words.proofs.Limits.{alone_within, given_within, nothing_within, filled_within}
use Rattle.words.proofs.request.read_words.Goals as goal

pub returns-in_ok-found_in-clause-limits : goal.returns-in_ok-found_in-clause-limits
returns-in_ok-found_in-clause-limits c =
    let given = given_in c.in_ok-found_in.field-0 in
    subst AreWithinLimits (sym c.filled.ensures) (filled_within given (given_within c.in_ok-command.behind.now nothing_given given nothing_within (sym c.in_ok-found_in.ensures)))

pub returns-in_ok-path-clause-limits : goal.returns-in_ok-path-clause-limits
returns-in_ok-path-clause-limits c =
    let given = given_in c.in_ok-found_in-2.field-0 in
    alone_within given c.in_ok-path.path.now (given_within c.in_ok-command.behind.now nothing_given given nothing_within (sym c.in_ok-found_in-2.ensures)) (sym c.in_ok-path.ensures)
