-- The text of each fault of a look, as it is told to users.
use Rattle.std.specs.Prelude.{ℕ, List, ◌++◌, codes, decimal}
use Rattle.crash_spec.specs.Marks.{number_of}
use Rattle.db_header.specs.Texts.{header_text}
use Rattle.recover.specs.declared.seen.LookFault.{LookFault}
use Rattle.recover.specs.declared.seen.LookFault.TheVariants.{Header, WalMode, HotJournal, ForeignLog, Missing, Disk, Memory}

abbrev pub look_text : LookFault → List ℕ
look_text (Header fault) = header_text fault
look_text WalMode = codes "wal mode"
look_text HotJournal = codes "hot journal"
look_text (ForeignLog file at) = codes "foreign log " ++ decimal (number_of file) ++ codes " at " ++ decimal at
look_text (Missing page) = codes "missing page " ++ decimal page
look_text Disk = codes "disk failed"
look_text Memory = codes "out of memory"
