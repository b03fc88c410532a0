use Rattle.std.proofs.Common.{◌∙◌, sym}
use Rattle.std.specs.Prelude.{nat_lt}
use Rattle.log_spec.specs.LogHeader.{last_generation}
use Rattle.wal_rules.specs.Rules.{logs_within}
use Rattle.wal_rules.proofs.Tests.{all_of, one_not, same_tests}
use Rattle.wal_rules.proofs.state.may_switch.Goals as goal

pub returns-then-is_open : goal.returns-then-is_open
returns-then-is_open c = λ rest history few.
    let free = same_tests c.args.state.now.done c.full_holders-full.result c.holders-held.result c.args.frames _ _ _ c.args.limit c.is_open.result
    (c.full_holders-full.ensures (logs_within c.args.state.now c.args.limit c.args.generation rest))
    (c.holders-held.ensures (logs_within c.args.state.now c.args.limit c.args.generation rest)) (sym few) c.is_open.ensures in
    all_of c.args.state.now.done _ _ _ (nat_lt c.args.generation last_generation) (sym free ∙ c.if-is_open.true)

pub returns-else-is_open : goal.returns-else-is_open
returns-else-is_open c = λ rest history few.
    let free = same_tests c.args.state.now.done c.full_holders-full.result c.holders-held.result c.args.frames _ _ _ c.args.limit c.is_open.result
    (c.full_holders-full.ensures (logs_within c.args.state.now c.args.limit c.args.generation rest))
    (c.holders-held.ensures (logs_within c.args.state.now c.args.limit c.args.generation rest)) (sym few) c.is_open.ensures in
    c.if-is_open.false ∙ one_not c.args.state.now.done _ _ _ (nat_lt c.args.generation last_generation) (sym free ∙ c.if-is_open.false)
