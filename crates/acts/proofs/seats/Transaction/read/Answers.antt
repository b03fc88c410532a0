use Rattle.std.proofs.Common.{◌≡◌, None}
use Rattle.engine_spec.specs.Change.{image_of}
use Rattle.acts.proofs.Outcomes.{sound_own}
use Rattle.acts.proofs.seats.Transaction.read.Goals as goal

pub returns-in_ok-note_own-in-Some-clause-sound : goal.returns-in_ok-note_own-in-Some-clause-sound
returns-in_ok-note_own-in-Some-clause-sound g c =
    sound_own _ c.args.self.now _ c.args.page c.in_ok-note_own-in-Some.ensures.ok c.requires.sound

pub returns-in-None-clause-acts : goal.returns-in-None-clause-acts
returns-in-None-clause-acts g c =
    let none : image_of c.args.self.now.changed c.args.page ≡ None = (rw c.as_slice.ensures at c.in-None.ensures) in
    rw none c.fetch.ensures.acts
