-- The pages that page lines may name.
use Rattle.std.specs.Prelude.{◌≤◌, List, All}
use Rattle.page_lines.specs.declared.lines.Act.{Act}
use Rattle.page_lines.specs.declared.lines.Act.TheVariants as act

-- the page of an act is one that page lines may name, from 2 to 16
abbrev pub IsInRange : Act → Type 0
IsInRange (act.Begin session) = Unit {0}
IsInRange (act.Read session page) = (2 ≤ page) × (page ≤ 16)
IsInRange (act.Write session page byte) = (2 ≤ page) × (page ≤ 16)
IsInRange (act.Commit session) = Unit {0}
IsInRange (act.Rollback session) = Unit {0}
IsInRange act.Copy = Unit {0}
IsInRange act.Step = Unit {0}
IsInRange act.Logs = Unit {0}

-- so are those of all of these acts
abbrev pub AreInRange : List Act → Type 0
AreInRange acts = All IsInRange acts
