-- The text of each fault of an opening, as it is told to users.
use Rattle.std.specs.Prelude.{ℕ, List, codes}
use Rattle.check_spec.specs.Texts.{check_text}
use Rattle.recover.specs.Texts.{look_text}
use Rattle.store.specs.declared.open_fault.OpenFault.{OpenFault}
use Rattle.store.specs.declared.open_fault.OpenFault.TheVariants.{Look, NotPages, Check, Disk, Memory}

abbrev pub open_text : OpenFault → List ℕ
open_text (Look why) = look_text why
open_text (NotPages pages byte) = codes "not a page store"
open_text (Check why) = check_text why
open_text Disk = codes "disk failed"
open_text Memory = codes "out of memory"
