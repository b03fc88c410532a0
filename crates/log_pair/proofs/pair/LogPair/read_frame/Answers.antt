use Rattle.std.proofs.Common.{rules, ◌≡◌, ℕ, ◌-◌, ◌+◌, List, length, OnOk, Result, Ok, Err, ◌∙◌}
use Rattle.disk_face.specs.declared.disk.File.{File}
use Rattle.disk_face.specs.Steps.{History}
use Rattle.disk_face.specs.Told.{IsRead}
use Rattle.std.specs.Prelude.{Option}
use Rattle.wal_frames.specs.Found.{log_file}
use Rattle.log_spec.specs.Accept.{Frame}
use Rattle.log_spec.specs.Frames.{frame_place}
use Rattle.log_spec.specs.LogHeader.{LogFields}
use Rattle.log_pair.specs.Pair.{log_of}
use Rattle.log_pair.specs.Appending.{HasFrames, IsPageOf}
use Rattle.log_pair.proofs.Reading.{page_is_read}
use Rattle.log_pair.proofs.pair.LogPair.read_frame.Goals as goal

by_answer : {T E : Type 0} (result : Result T E) (told : Option History) (log : File) (header : LogFields) (frames : List Frame) (number : ℕ) (bytes : List ℕ) → HasFrames told log header frames
    → length bytes ≡ header.page_size → OnOk result (IsRead told log (frame_place header (number - 1) + 24) bytes) → OnOk result (IsPageOf told frames number bytes)
by_answer (Ok value) told log header frames number bytes has long read = page_is_read told log header frames number bytes has long read
by_answer (Err fault) told log header frames number bytes has long read = tt

pub returns-clause-page : goal.returns-clause-page
returns-clause-page g c frames within has =
    by_answer c.read_at.result (g.D.DiskTells.told c.args.disk.now) (log_file c.args.log) (log_of c.args.self.now c.args.log).header frames c.args.frame c.read_at.new.buf has
    (c.read_at.auto.buf ∙ c.requires.room) (search rules)
