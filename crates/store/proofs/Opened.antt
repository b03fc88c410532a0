-- What was seen of a disk that only was read.
use Rattle.std.proofs.Common.{◌≡◌, ℕ, false, Option, Some, None, subst}
use Rattle.std.specs.Prelude.{IfSome}
use Rattle.disk_face.specs.Steps.{History, reads}
use Rattle.recover.specs.Seeing.{SeenView, IsSeen, fault_of, files_told}
use Rattle.recover.specs.declared.setup.StoreKind.{StoreKind}

pub seen_still : (new_size : ℕ) (seen : SeenView) (told : Option History) → IfSome (files_told told) (λ files. IsSeen new_size files seen) → IfSome told (λ told. IsSeen new_size (reads told) seen)
seen_still new_size seen None s = tt
seen_still new_size seen (Some told) s = s

pub fine_still : (told : Option History) → IfSome (files_told told) (λ files. fault_of files false ≡ None) → IfSome told (λ told. fault_of (reads told) false ≡ None)
fine_still None fine = tt
fine_still (Some told) fine = fine

-- what is said of the kind that was asked for, of the disk after the look, is said of this kind and the disk before
module _ (kind asked : StoreKind) (is : asked ≡ kind) (mid old : Option History) (same : mid ≡ old) where
  pub said_still : (P : StoreKind → Option History → Type 0) → P asked mid → P kind old
  said_still P said = subst (λ (o : Option History). P kind o) same (subst (λ (k : StoreKind). P k mid) is said)
