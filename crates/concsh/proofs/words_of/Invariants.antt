use Rattle.std.proofs.Common.{◌≡◌, ◌++◌, map, string_bytes}
use Rattle.std_alloc.specs.Vec.Iter.{into_iter_items}
use Rattle.concsh.proofs.words_of.Given as goal

abbrev pub invariant-loop-arg : goal.invariant-loop-arg
invariant-loop-arg l = l.words.items ++ map string_bytes (into_iter_items l.arg-iterator) ≡ map string_bytes (into_iter_items l.initial.arg-iterator)
