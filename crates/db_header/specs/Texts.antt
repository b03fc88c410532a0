-- The text of each fault, as it is told to users.
use Rattle.std.specs.Prelude.{ℕ, List, ◌++◌, codes, decimal}
use Rattle.db_header.specs.declared.fault.HeaderFault.{HeaderFault}
use Rattle.db_header.specs.declared.fault.HeaderFault.TheVariants.{NotADb, PageSize, Versions, Utf16, AutoVacuum, Reserved, Format, TooLarge}

abbrev pub header_text : HeaderFault → List ℕ
header_text NotADb = codes "not a database"
header_text (PageSize stored) = codes "page size " ++ decimal stored
header_text (Versions write read) = codes "versions " ++ decimal write ++ codes " " ++ decimal read
header_text (Utf16 encoding) = codes "encoding " ++ decimal encoding
header_text (AutoVacuum largest_root) = codes "auto-vacuum " ++ decimal largest_root
header_text (Reserved bytes) = codes "reserved " ++ decimal bytes
header_text (Format number) = codes "format " ++ decimal number
header_text (TooLarge pages) = codes "too large " ++ decimal pages
