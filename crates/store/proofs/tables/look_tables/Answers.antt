use Rattle.std.proofs.Common.{Option, sym, subst}
use Rattle.std.specs.Prelude.{IfSome}
use Rattle.disk_face.specs.Steps.{History, reads}
use Rattle.recover.specs.Seeing.{IsSeen}
use Rattle.store.proofs.Opened.{seen_still}
use Rattle.store.proofs.tables.look_tables.Goals as goal

pub judge_tables-requires-clause-seen : goal.judge_tables-requires-clause-seen
judge_tables-requires-clause-seen g c = (
  c.args.setup.now.page_size,
  subst (λ (told : Option History). IfSome told (λ told. IsSeen c.args.setup.now.page_size (reads told) c.in-Ok.seen)) (sym c.in-Ok.ensures.stays.told)
      (seen_still c.args.setup.now.page_size c.in-Ok.seen (g.D.DiskTells.told c.args.disk.now) c.in-Ok.ensures.seen.seen_is),
)
