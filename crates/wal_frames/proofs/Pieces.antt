-- Facts that hold where a disk tells its bytes.
use Rattle.std.proofs.Common.{Option, Some, None}
use Rattle.std.specs.Prelude.{IfSome}

pub if_some_2 : {A : Type 0} (P Q R : A → Type 0) → ((x : A) → P x → Q x → R x) → (o : Option A) → IfSome o P → IfSome o Q → IfSome o R
if_some_2 P Q R all None p q = tt
if_some_2 P Q R all (Some x) p q = all x p q
