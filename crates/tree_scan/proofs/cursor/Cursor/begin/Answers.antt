use Rattle.std.proofs.Common.{refl}
use Rattle.tree_scan.proofs.Cursors.{begins, stays_same}
use Rattle.tree_scan.proofs.Reading.{reads_started, reads_refused, refused_nothing, reads_nothing}
use Rattle.tree_scan.proofs.Soundness.{start_fails}
use Rattle.tree_scan.proofs.cursor.Cursor.begin.Goals as goal

pub returns-clause-stays : goal.returns-clause-stays
returns-clause-stays g c =
    begins g.P.PagesTells c.args.pages.now c.first_path.new.pages c.args.self.now _ c.if-self.false refl refl c.in-Ok.ensures.starts

pub returns-clause-reads : goal.returns-clause-reads
returns-clause-reads g c = reads_started g.P.PagesTells c.args.pages.now c.first_path.new.pages c.args.self.now _ c.if-self.false refl refl c.in-Ok.ensures.started

pub returns-in-Err-clause-stays : goal.returns-in-Err-clause-stays
returns-in-Err-clause-stays g c = stays_same g.P.PagesTells c.args.pages.now c.first_path.new.pages c.args.self.now _ c.if-self.false c.if-self.false refl refl

pub returns-in-Err-clause-sound : goal.returns-in-Err-clause-sound
returns-in-Err-clause-sound g c =
    start_fails g.P.PagesTells c.args.pages.now c.first_path.new.pages c.args.self.now c.in-Err.why c.if-self.false c.in-Err.ensures.sound

pub returns-in-Err-clause-reads : goal.returns-in-Err-clause-reads
returns-in-Err-clause-reads g c =
    reads_refused g.P.PagesTells c.args.pages.now c.first_path.new.pages c.args.self.now _ c.in-Err.why c.if-self.false c.if-self.false refl refl c.in-Err.ensures.started

pub returns-then-root-lt1-clause-reads : goal.returns-then-root-lt1-clause-reads
returns-then-root-lt1-clause-reads g c = refused_nothing g.P.PagesTells c.args.pages.now c.args.self.now _ c.if-self.false

pub returns-then-self-clause-reads : goal.returns-then-self-clause-reads
returns-then-self-clause-reads g c = reads_nothing g.P.PagesTells c.args.pages.now c.args.self.now c.if-self.true
