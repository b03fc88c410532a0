use Rattle.std.proofs.Common.{◌∙◌, ◌++◌, [], ap, inl, inr}
use Rattle.disk_checks.specs.Checks.{page_size_checked}
use Rattle.disk_checks.proofs.Begun.{checked_size_legal, tells_count}
use Rattle.disk_checks.proofs.check.check_attached.Goals as goal

pub returns-in-Ok-clause-checks : goal.returns-in-Ok-clause-checks
returns-in-Ok-clause-checks g c =
    inr (tells_count g.D.DiskTells g.K.Sink page_size_checked c.say_count.result c.args.disk c.args.out.now c.close-disk.result.0 c.say_count.new.out c.in-Ok.store c.in-Ok.count
    checked_size_legal c.close-disk.ensures.disk c.in-Ok.ensures.begins.stop c.in-Ok.ensures.opened c.in-Ok.ensures.counted c.in-Ok.ensures.newest c.in-Ok.ensures.moments c.in-Ok.ensures.faults
    c.say_count.ensures.says)

pub returns-in-Ok-clause-names : goal.returns-in-Ok-clause-names
returns-in-Ok-clause-names g c = ([], [], ap (λ loans. loans ++ []) (ap g.D.DiskTells.loans c.close-disk.ensures.disk ∙ c.in-Ok.ensures.stays.loans))

pub returns-in-Err-clause-checks : goal.returns-in-Err-clause-checks
returns-in-Err-clause-checks g c = inl (record {
  why = c.in-Err.why;
  refused = c.in-Err.ensures.refused;
  moments = λ told is may settle. (c.in-Err.ensures.moments told is may settle).each_moment;
  says = c.say_why.ensures.says;
})
