-- The contents of a database's three files, and what a write makes of them.
use Rattle.std.specs.Prelude.{ℕ, ◌+◌, List, ◌++◌, length, take, drop}
use Rattle.disk_face.specs.declared.disk.File.{File}
use Rattle.disk_face.specs.declared.disk.File.TheVariants.{Main, Log1, Log2}

-- what the three files hold
pub record Files : Type 0 where
  pub main : List ℕ
  pub log1 : List ℕ
  pub log2 : List ℕ

-- what one of them holds
abbrev pub content : Files → File → List ℕ
content files Main = files.main
content files Log1 = files.log1
content files Log2 = files.log2

-- a content with these bytes from this place on, and the rest as it was
abbrev pub overwritten : ℕ → List ℕ → List ℕ → List ℕ
overwritten at bytes before = take at before ++ bytes ++ drop (at + length bytes) before

-- the files with these bytes in one of them from this place on, and all else as it was
abbrev pub put : File → ℕ → List ℕ → Files → Files
put Main at bytes files = record files { main = overwritten at bytes files.main }
put Log1 at bytes files = record files { log1 = overwritten at bytes files.log1 }
put Log2 at bytes files = record files { log2 = overwritten at bytes files.log2 }
