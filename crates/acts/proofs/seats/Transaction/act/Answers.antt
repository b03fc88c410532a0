use Rattle.acts.specs.Pagers.{told_between}
use Rattle.acts.proofs.Outcomes.{commit_acts, read_acts, sound_write}
use Rattle.acts.proofs.seats.Transaction.act.Goals as goal

pub returns-in-Read-clause-acts : goal.returns-in-Read-clause-acts
returns-in-Read-clause-acts g c =
    rw c.in-Read.is (read_acts (told_between g.E.EngineTells c.args.engine.now c.read-told.new.engine)
    c.args.who.session c.args.who.ordinal c.in-Read.page _ c.args.self _ c.read-told.ensures.acts)

pub returns-in-Commit-clause-acts : goal.returns-in-Commit-clause-acts
returns-in-Commit-clause-acts g c =
    rw c.in-Commit.is (commit_acts (told_between g.E.EngineTells c.args.engine.now c.commit.new.engine)
    c.args.who.session c.args.who.ordinal _ c.args.self _ c.commit.ensures.acts)

pub returns-in-Write-clause-sound : goal.returns-in-Write-clause-sound
returns-in-Write-clause-sound g c =
    let range = rw c.in-Write.is at c.requires.range in
    sound_write c.note_write-done.result _ c.page_size-page_size.result c.args.self _ c.in-Write.page c.in-Write.byte range
    c.page_size-page_size.ensures c.note_write-done.ensures.ok
    c.note_write-done.ensures.err c.requires.sound
