use Rattle.std.proofs.Common.{◌≡◌, ◌++◌, ◌∙◌, List, ℕ, ap, arith, length}
use Rattle.tree_read.proofs.Payloads.{local_small}
use Rattle.tree_read.proofs.row.local_of.Goals as goal

pub returns-in-Ok-clause-copied : goal.returns-in-Ok-clause-copied
returns-in-Ok-clause-copied c = λ usable node most told.
    let local = c.local_bytes.ensures usable node told in
    let bytes : c.extend_from_slice.new.self.items ≡ node.local =
    c.in-Ok.ensures.items ∙ (ap (λ (l : List ℕ). l ++ c.local_bytes.result.now) c.new-bytes.ensures.items ∙ local) in
    record {
      payload = told.payload;
      local = told.local;
      overflow = told.overflow;
      bytes_are = bytes;
      few = omega (arith, most, local_small usable _ _ _ node told, ap (λ (l : List ℕ). length l) bytes);
    }
