-- What is known of real files.
use Rattle.std.specs.Prelude.{◌≡◌, ℕ, List, ◌++◌, Option, Some, None, Bool, true, IfSome, codes}
use Rattle.disk_face.specs.declared.disk.File.{File}
use Rattle.disk_face.specs.declared.disk.File.TheVariants.{Main, Log1, Log2}
use Rattle.disk_real.specs.declared.lost.Lost.{Lost}

-- the path by which a database's files were named, and the names of the files and of the journal
pub record NamesState : Type 0 where
  pub given : List ℕ
  pub main : List ℕ
  pub log1 : List ℕ
  pub log2 : List ℕ
  pub journal : List ℕ

-- the names that follow from a path that led to a place: to itself, or to where a symbolic link leads
abbrev pub names_of : List ℕ → List ℕ → NamesState
names_of path place = record {
  given = path;
  main = place;
  log1 = place ++ codes "-wal";
  log2 = place ++ codes "-wal2";
  journal = place ++ codes "-journal";
}

-- The files were named by this path: the names of the logs and of the journal follow from where it led.
abbrev pub AreNamedBy : List ℕ → Option NamesState → Type 0
AreNamedBy path named = IfSome named (λ names. names ≡ names_of path names.main)

-- the name of one of the three files
abbrev pub name_of : NamesState → File → List ℕ
name_of names Main = names.main
name_of names Log1 = names.log1
name_of names Log2 = names.log2

-- whether a sync of this file has failed
abbrev pub is_lost : Lost → File → Bool
is_lost lost Main = lost.main
is_lost lost Log1 = lost.log1
is_lost lost Log2 = lost.log2

-- a sync of this file has failed as well
abbrev pub with_lost : Lost → File → Lost
with_lost lost Main = record lost { main = true }
with_lost lost Log1 = record lost { log1 = true }
with_lost lost Log2 = record lost { log2 = true }

-- a disk of real files
pub record FileDiskState : Type 0 where
  -- the names of its files, once they are named
  pub named : Option NamesState
  -- of which files a sync has failed
  pub lost : Lost
  -- how often a call has failed
  pub faults : ℕ

-- the path by which the files were named
abbrev pub path_of : Option NamesState → Option (List ℕ)
path_of None = None
path_of (Some names) = Some names.given
