use Rattle.std.proofs.Common.{◌≡◌, refl}
use Rattle.std.specs.Prelude.{IfSome}
use Rattle.disk_face.specs.Files.{content}
use Rattle.disk_face.specs.Steps.{reads, History}
use Rattle.wal_frames.specs.Front.{front_of}
use Rattle.wal_frames.specs.Found.{FindsAccepted, log_file}
use Rattle.wal_frames.specs.declared.header.Front.TheVariants.{Ours}
use Rattle.wal_frames.specs.declared.found.Accepted.{Accepted}
use Rattle.wal_frames.proofs.Pieces.{if_some_2}
use Rattle.wal_frames.proofs.Opening.{found_none, found_some, if_ok_2}
use Rattle.wal_frames.proofs.scan.accepted.Goals as goal

pub returns-in-Ours-clause-found : goal.returns-in-Ours-clause-found
returns-in-Ours-clause-found g c =
    let front = rw (c.size.ensures.stays.told, c.log_file-file.ensures, c.in-Ours.is) at c.in_ok-front.ensures.front in
    let frames = rw (c.read_front.ensures.stays.told, c.size.ensures.stays.told, c.log_file-file.ensures) at c.scan.ensures.found in
    if_ok_2 (λ (found : Accepted). found.front ≡ Ours c.in-Ours.header) _
    (λ (found : Accepted). IfSome (g.D.DiskTells.told c.args.disk.now) (λ (told : History). FindsAccepted c.args.log (content (reads told) (log_file c.args.log)) found))
    (λ found is some.
    if_some_2 (λ (told : History). Ours c.in-Ours.header ≡ front_of c.args.log (content (reads told) (log_file c.args.log))) _
    (λ (told : History). FindsAccepted c.args.log (content (reads told) (log_file c.args.log)) found)
    (λ told fits finds. found_some c.args.log (content (reads told) (log_file c.args.log)) c.in-Ours.header found fits is finds)
    (g.D.DiskTells.told c.args.disk.now) front some)
    c.scan.result c.scan.ensures.front frames

pub returns-in_default-front-clause-found : goal.returns-in_default-front-clause-found
returns-in_default-front-clause-found g c =
    let front = rw (c.size.ensures.stays.told, c.log_file-file.ensures) at c.in_ok-front.ensures.front in
    let found : Accepted = record { front = c.in_ok-front.front; pages = c.new.result; size = 0; sum = record { s0 = 0; s1 = 0 } } in
    if_some_2 (λ (told : History). c.in_ok-front.front ≡ front_of c.args.log (content (reads told) (log_file c.args.log))) (λ (told : History). c.in_ok-front.front ≡ front_of c.args.log (content (reads told) (log_file c.args.log)))
    (λ (told : History). FindsAccepted c.args.log (content (reads told) (log_file c.args.log)) found)
    (λ told is same. found_none c.args.log (content (reads told) (log_file c.args.log)) found is c.in_default-front.not-Ours c.new.ensures.items refl refl)
    (g.D.DiskTells.told c.args.disk.now) front front
