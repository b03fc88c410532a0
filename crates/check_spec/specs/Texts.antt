-- The text of each fault of a check, as it is told to users.
use Rattle.std.specs.Prelude.{List, ℕ, ◌++◌, codes, decimal}
use Rattle.std.specs.Fmt.{signed_decimal}
use Rattle.check_spec.specs.declared.fault.CheckFault.{CheckFault}
use Rattle.check_spec.specs.declared.fault.CheckFault.TheVariants.{Page, Schema, Order, Twice, Lost, Disk, Memory}

abbrev pub check_text : CheckFault → List ℕ
check_text (Page page at) = codes "page " ++ decimal page ++ codes " at " ++ decimal at
check_text (Schema rowid) = codes "schema row " ++ signed_decimal rowid
check_text (Order page cell) = codes "order page " ++ decimal page ++ codes " cell " ++ decimal cell
check_text (Twice page) = codes "twice page " ++ decimal page
check_text (Lost page) = codes "lost page " ++ decimal page
check_text Disk = codes "disk failed"
check_text Memory = codes "out of memory"
