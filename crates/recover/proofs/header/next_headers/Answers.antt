use Rattle.std.proofs.Common.{arith}
use Rattle.recover.proofs.Resets.{even_room}
use Rattle.recover.proofs.header.next_headers.Goals as goal

pub returns-then-generation_of-clause-next : goal.returns-then-generation_of-clause-next
returns-then-generation_of-clause-next g c has1 has2 salt1 salt2 few1 few2 =
    let room = even_room _ _ c.even_generation-even.ensures.least in
    (c.next_header-here.ensures.next has1 salt1 few1 (omega (arith, few1, room)), c.next_header-there.ensures.next has2 salt2 few2 (omega (arith, few2, room)))

pub returns-else-generation_of-clause-next : goal.returns-else-generation_of-clause-next
returns-else-generation_of-clause-next g c has1 has2 salt1 salt2 few1 few2 =
    let room = even_room _ _ c.even_generation-even.ensures.least in
    (c.next_header-here-else-generation_of.ensures.next has2 salt2 few2 (omega (arith, few2, room)), c.next_header-there-else-generation_of.ensures.next has1 salt1 few1 (omega (arith, few1, room)))
