use Rattle.std.proofs.Common.{◌≡◌, ◌+◌, drop}
use Rattle.engine_spec.specs.History.{first_writer}
use Rattle.memory_engine.proofs.conflict.first_writer_of.Given as goal

abbrev pub invariant-loop-index : goal.invariant-loop-index
invariant-loop-index l =
    first_writer l.mode l.page l.before l.commits ≡ first_writer l.mode l.page (l.before + l.index) (drop l.index l.commits)
