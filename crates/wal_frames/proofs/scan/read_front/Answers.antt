use Rattle.std.proofs.Common.{◌≡◌, ℕ, length, take, ◌∙◌, ap, arith}
use Rattle.disk_face.specs.Files.{content}
use Rattle.disk_face.specs.Steps.{reads, History}
use Rattle.wal_frames.specs.Front.{front_of}
use Rattle.wal_frames.specs.declared.header.Front.TheVariants.{Nothing}
use Rattle.wal_frames.proofs.Pieces.{if_some_2}
use Rattle.log_spec.specs.LogHeader.{header_size}
use Rattle.wal_frames.proofs.Opening.{short_front, front-take}
use Rattle.wal_frames.proofs.scan.read_front.Goals as goal

pub returns-then-size-clause-front : goal.returns-then-size-clause-front
returns-then-size-clause-front g c =
    if_some_2 (λ (told : History). c.args.size ≡ length (content (reads told) c.args.file)) (λ (told : History). c.args.size ≡ length (content (reads told) c.args.file))
    (λ (told : History). Nothing ≡ front_of c.args.log (content (reads told) c.args.file))
    (λ told size same. short_front c.args.log (content (reads told) c.args.file) (omega arith))
    (g.D.DiskTells.told c.args.disk.now) c.requires.sized c.requires.sized

pub returns-in-Ok-clause-front : goal.returns-in-Ok-clause-front
returns-in-Ok-clause-front g c =
    if_some_2 (λ (told : History). c.args.size ≡ length (content (reads told) c.args.file)) _
    (λ (told : History). c.read_log_header.result ≡ front_of c.args.log (content (reads told) c.args.file))
    (λ told size bytes.
    let long : length c.read_at.new.buf ≡ header_size = omega arith in
    let first : c.read_at.new.buf ≡ take header_size (content (reads told) c.args.file) = bytes ∙ ap (λ (n : ℕ). take n (content (reads told) c.args.file)) long in
    c.read_log_header.ensures.front ∙ ap (front_of c.args.log) first ∙ front-take c.args.log (content (reads told) c.args.file) (omega arith))
    (g.D.DiskTells.told c.args.disk.now) c.requires.sized c.in-Ok.ensures.bytes
