use Rattle.std.proofs.Common.{true, false, refl, ◌∙◌, ap}
use Rattle.wal_frames.specs.Front.{words_of}
use Rattle.log_pair.specs.Pair.{switched_pair}
use Rattle.log_pair.proofs.GoingOver.{switches, switch_reached}
use Rattle.log_pair.proofs.NewHeaders.{signed_next, steps_at}
use Rattle.wal_frames.specs.declared.header.LogHeader.{LogHeader}
use Rattle.log_pair.proofs.pair.LogPair.switch.Goals as goal

pub go_over-requires-clause-same_size : goal.go_over-requires-clause-same_size
go_over-requires-clause-same_size g c = ap (λ (h : LogHeader). h.page_size) c.sign-new.ensures.header ∙ c.next_header.ensures.same_size

pub returns-in-Ok-clause-switches : goal.returns-in-Ok-clause-switches
returns-in-Ok-clause-switches g c =
    let pair = c.args.self.now in
    let new = c.sign-new.result in
    let is = signed_next pair c.args.salt2 c.next_header.result new c.next_header.ensures.fields c.next_header.ensures.page_size c.next_header.ensures.generation c.sign-new.ensures.header c.sign-new.ensures.signed in (
      new.bytes,
      words_of new.header.sum,
      switches true pair c.go_over.new.self c.args.salt2 (g.D.DiskTells.told c.args.disk.now) (g.D.DiskTells.told c.write.new.disk) new.bytes (words_of new.header.sum) is.1
          (steps_at true pair _ _ _ new.bytes _ _ c.current.ensures.value c.other_log.ensures.value c.log_file.ensures c.in-Ok.ensures.steps)
          (c.go_over.ensures ∙ ap (switched_pair pair) is.0),
    )

pub returns-in-Err-clause-switches : goal.returns-in-Err-clause-switches
returns-in-Err-clause-switches g c =
    let pair = c.args.self.now in
    let new = c.sign-new.result in
    let is = signed_next pair c.args.salt2 c.next_header.result new c.next_header.ensures.fields c.next_header.ensures.page_size c.next_header.ensures.generation c.sign-new.ensures.header c.sign-new.ensures.signed in (
      new.bytes,
      words_of new.header.sum,
      switches false pair pair c.args.salt2 (g.D.DiskTells.told c.args.disk.now) (g.D.DiskTells.told c.write.new.disk) new.bytes (words_of new.header.sum) is.1
          (steps_at false pair _ _ _ new.bytes _ _ c.current.ensures.value c.other_log.ensures.value c.log_file.ensures c.in-Err.ensures.steps)
          refl,
    )

pub returns-in-Ok-clause-reached : goal.returns-in-Ok-clause-reached
returns-in-Ok-clause-reached g c =
    let pair = c.args.self.now in
    let new = c.sign-new.result in
    let is = signed_next pair c.args.salt2 c.next_header.result new c.next_header.ensures.fields c.next_header.ensures.page_size c.next_header.ensures.generation c.sign-new.ensures.header c.sign-new.ensures.signed in
    switch_reached pair c.go_over.new.self _ new.bytes (g.D.DiskTells.told c.args.disk.now) (g.D.DiskTells.told c.write.new.disk) is.1.whole c.requires.sealed
    (steps_at true pair _ _ _ new.bytes _ _ c.current.ensures.value c.other_log.ensures.value c.log_file.ensures c.in-Ok.ensures.steps) c.go_over.ensures
