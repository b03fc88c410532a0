use Rattle.acts.proofs.seats.Seat.turn.Goals as goal

pub returns-in-Refused-clause-sound : goal.returns-in-Refused-clause-sound
returns-in-Refused-clause-sound g c = c.turn_refused-state.ensures.sound _
