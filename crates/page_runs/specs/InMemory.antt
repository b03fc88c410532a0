-- How acts on pages in memory are answered.
use Rattle.std.specs.Prelude.{◌≡◌, ℕ, List, take}
use Rattle.page_lines.specs.declared.lines.Act.{Act}
use Rattle.page_lines.specs.declared.lines.Told.{Told}
use Rattle.page_lines.specs.Exchanges.{exchanged}
use Rattle.page_lines.specs.Legal.{IsLegalFrom}
use Rattle.page_lines.specs.Serial.{IsSerial}
use Rattle.page_lines.specs.World.{zeros, start, world_after, answers_to}

-- The answers are those of the run over whole page maps that begins with 16 pages of zeros. That run is serial: those that committed ran one
-- after another, and at each moment all others had been told what they would have been told alone at their snapshot. And its history is
-- legal at each moment: each commit leads from one map to the next.
pub record IsAnsweredInMemory (acts : List Act) (answers : List Told) : Type 0 where
  pub as_whole_maps : answers ≡ answers_to start acts
  pub serial : IsSerial zeros (exchanged acts answers)
  pub legal : (count : ℕ) → IsLegalFrom zeros (world_after start (take count acts))
