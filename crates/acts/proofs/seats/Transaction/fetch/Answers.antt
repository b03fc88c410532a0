use Rattle.acts.proofs.Outcomes.{sound_fetch}
use Rattle.acts.proofs.seats.Transaction.fetch.Goals as goal

pub returns-in_ok-note_fetch-in-Some-clause-sound : goal.returns-in_ok-note_fetch-in-Some-clause-sound
returns-in_ok-note_fetch-in-Some-clause-sound g c =
    sound_fetch _ _ c.args.self.now _ c.args.page c.first_byte.ensures.stays.page_size c.in_ok-note_fetch-in-Some.ensures.ok
    c.requires.sound
