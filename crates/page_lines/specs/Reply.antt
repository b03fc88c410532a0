-- The text of an answer to a page line.
use Rattle.std.specs.Prelude.{ℕ, if◌then◌else◌, List, [], ◌∷◌, ◌++◌, codes}
use Rattle.std.specs.Fmt.{decimal}
use Rattle.engine_spec.specs.declared.commits.Receipt.{Receipt}
use Rattle.engine_spec.specs.declared.commits.Receipt.TheVariants.{At, ReadOnly}
use Rattle.engine_spec.specs.declared.pins.Ckpt.{Ckpt}
use Rattle.engine_spec.specs.declared.pins.Ckpt.TheVariants as checkpoint
use Rattle.engine_spec.specs.declared.pins.Logs.{Logs}
use Rattle.page_lines.specs.declared.lines.Act.{Act}
use Rattle.page_lines.specs.declared.lines.Act.TheVariants as act
use Rattle.page_lines.specs.declared.lines.Told.{Told}
use Rattle.page_lines.specs.declared.lines.Told.TheVariants as told

-- a transaction that ended well
abbrev pub receipt_text : Receipt → List ℕ
receipt_text (At number) = codes "commit " ++ decimal number
receipt_text (ReadOnly number) = codes "read " ++ decimal number

-- what a checkpoint did
abbrev pub checkpoint_text : Ckpt → List ℕ
checkpoint_text (checkpoint.Copied page) = codes "copied " ++ decimal page
checkpoint_text checkpoint.Finished = codes "finished"
checkpoint_text checkpoint.Idle = codes "idle"
checkpoint_text (checkpoint.Held count) = codes "held " ++ decimal count

-- how the logs stand
abbrev pub logs_text : Logs → List ℕ
logs_text logs = codes "log " ++ (decimal logs.current ++ (codes " frames " ++ (decimal logs.frames
    ++ (if logs.done then codes " other done" else codes " other pending"))))

-- what is told, without the session and the end of the line
abbrev pub answer_text : Told → List ℕ
answer_text told.Ok = codes "ok"
answer_text (told.Byte byte) = codes "byte " ++ decimal byte
answer_text (told.Done receipt) = receipt_text receipt
answer_text (told.Busy page number) =
    codes "error busy snapshot page " ++ (decimal page ++ (codes " commit " ++ decimal number))
answer_text told.InTransaction = codes "error in transaction"
answer_text told.NoTransaction = codes "error no transaction"
answer_text told.MustRollBack = codes "error must roll back"
answer_text told.Disk = codes "error disk"
answer_text (told.Stopped log at) = codes "error stopped log " ++ (decimal log ++ (codes " at " ++ decimal at))
answer_text (told.Size pages) = codes "error size " ++ decimal pages
answer_text (told.Ckpt answer) = checkpoint_text answer
answer_text (told.Logs logs) = logs_text logs

-- the line that answers a session; session 0 looks after the logs
abbrev pub reply_text : ℕ → Told → List ℕ
reply_text session answer = decimal session ++ (codes ": " ++ (answer_text answer ++ 10 ∷ []))

-- the session that an act is of
abbrev pub session_of : Act → ℕ
session_of (act.Begin session) = session
session_of (act.Read session page) = session
session_of (act.Write session page byte) = session
session_of (act.Commit session) = session
session_of (act.Rollback session) = session
session_of act.Copy = 0
session_of act.Step = 0
session_of act.Logs = 0
