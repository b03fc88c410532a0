use Rattle.engine_spec.specs.declared.commits.FetchFault.TheVariants as fault
use Rattle.overlay.proofs.Readied.{made_after, barred_outside, readies_same}
use Rattle.overlay.proofs.making.make_plain.Goals as goal

pub returns-in-Err : goal.returns-in-Err
returns-in-Err g c = barred_outside _ c.args.live.now c.args.live.now fault.Memory tt (readies_same _ c.args.live.now c.requires.ready)

pub returns-in-Err-read_first : goal.returns-in-Err-read_first
returns-in-Err-read_first g c =
    barred_outside _ c.args.live.now c.read_first.new.live c.in-Err-read_first.why c.in-Err-read_first.ensures.cause c.read_first.ensures.ready

pub returns-then-get_u32-eq0 : goal.returns-then-get_u32-eq0
returns-then-get_u32-eq0 g c =
    made_after _ c.args.live.now c.read_first.new.live c.add_last.new.live c.add_last.result c.read_first.ensures.ready c.add_last.ensures

pub returns : goal.returns
returns g c = made_after _ c.args.live.now c.read_first.new.live c.take_page.new.live c.take_page.result c.read_first.ensures.ready c.take_page.ensures
