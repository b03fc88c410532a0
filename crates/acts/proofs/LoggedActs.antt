-- What an act does over an engine that keeps logs is what it does to the logged world.
use Rattle.std.proofs.Common.{List, refl, inl, inr}
use Rattle.std.specs.Prelude.{◌⊎◌}
use Rattle.page_lines.specs.declared.lines.Act.{Act}
use Rattle.page_lines.specs.declared.lines.Act.TheVariants as act
use Rattle.page_lines.specs.declared.lines.Told.{Told}
use Rattle.page_lines.specs.Logged.{LoggedWorld, FailsIn, logged_step}
use Rattle.acts.specs.declared.seats.Seat.{Seat}
use Rattle.acts.specs.Logged.{FindsLogged, LeadsLogged}
use Rattle.acts.specs.Pagers.{Between, Acts, seat_state}
use Rattle.acts.proofs.LoggedChecks.{copy_logged, one_logged, look_logged}
use Rattle.acts.proofs.LoggedCommits.{commit_logged}
use Rattle.acts.proofs.LoggedStanding.{GoesWell, GoesWrong, leads_well, leads_wrong}
use Rattle.acts.proofs.LoggedStatements.{begin_logged, read_logged, write_logged, rollback_logged}

-- an act that went well, or in which the disk failed
leads : (engine : Between) (seats after : List Seat) (logged : LoggedWorld) (one : Act) (told : Told)
    → FindsLogged engine seats after logged
    → GoesWell engine after logged told (logged_step logged one) ⊎ GoesWrong engine after logged told (FailsIn logged one)
    → LeadsLogged engine seats after logged one told
leads engine seats after logged one told b (inl goes) = leads_well engine seats after logged one told b goes
leads engine seats after logged one told b (inr goes) = leads_wrong engine seats after logged one told b goes

-- An act over an engine that keeps logs, is alone and stands at a logged world is answered as one line of a run from there, and then the
-- engine stands at the world after it.
pub acts_logged : (engine : Between) (seats after : List Seat) (logged : LoggedWorld) (one : Act) (told : Told)
    → FindsLogged engine seats after logged → Acts engine seats one told after → LeadsLogged engine seats after logged one told
acts_logged engine seats after logged (act.Begin s) told b acts =
    leads_well engine seats after logged (act.Begin s) told b
    (begin_logged engine seats after logged s told (seat_state seats s) (logged.world.sessions s) b (b.stands.sessions s) acts)
acts_logged engine seats after logged (act.Read s page) told b acts =
    leads engine seats after logged (act.Read s page) told b
    (read_logged engine seats after logged s page told (seat_state seats s) (logged.world.sessions s) b refl (b.stands.sessions s) acts)
acts_logged engine seats after logged (act.Write s page byte) told b acts =
    leads_well engine seats after logged (act.Write s page byte) told b
    (write_logged engine seats after logged s page byte told (seat_state seats s) (logged.world.sessions s) b refl (b.stands.sessions s) acts)
acts_logged engine seats after logged (act.Commit s) told b acts = commit_logged engine seats after logged s told b acts
acts_logged engine seats after logged (act.Rollback s) told b acts =
    leads_well engine seats after logged (act.Rollback s) told b
    (rollback_logged engine seats after logged s told (seat_state seats s) (logged.world.sessions s) b refl (b.stands.sessions s) acts)
acts_logged engine seats after logged act.Copy told b acts =
    leads engine seats after logged act.Copy told b (copy_logged engine seats after logged told b acts.1 acts.0)
acts_logged engine seats after logged act.Step told b acts =
    leads engine seats after logged act.Step told b (one_logged engine seats after logged told b acts.1 acts.0)
acts_logged engine seats after logged act.Logs told b acts =
    leads_well engine seats after logged act.Logs told b (look_logged engine seats after logged told b acts)
