use Rattle.std.proofs.Common.{true, false, refl, sym, ◌∙◌, subst}
use Rattle.log_pair.specs.Pair.{PairView}
use Rattle.log_pair.specs.Appending.{IsReached}
use Rattle.log_pair.proofs.Standing.{appends}
use Rattle.log_pair.proofs.Written.{next_is, is_frame, is_written, sum_is, reached}
use Rattle.log_pair.proofs.pair.LogPair.append.Goals as goal

pub returns-in-Ok-clause-appends : goal.returns-in-Ok-clause-appends
returns-in-Ok-clause-appends g c =
    let pair = c.args.self.now in
    let next = next_is pair _ _ c.current-log.ensures.value c.log_file.ensures c.next_place.ensures c.header.ensures.fields c.sum.ensures in
    let written = c.in-Ok.ensures.written in (
      written.0,
      appends true pair _ _ _ _ _ _ written.0 (is_frame pair _ next _ _ _ _ written.0 written.1) (is_written pair _ next _ _ _ _ written.0 written.1)
          (c.count_one.ensures ∙ sum_is pair _ _ written.0 next written.1.summed),
    )

pub returns-in-Ok-clause-reached : goal.returns-in-Ok-clause-reached
returns-in-Ok-clause-reached g c =
    let pair = c.args.self.now in
    let next = next_is pair _ _ c.current-log.ensures.value c.log_file.ensures c.next_place.ensures c.header.ensures.fields c.sum.ensures in
    let written = c.in-Ok.ensures.written in
    subst (λ (p : PairView). IsReached (g.D.DiskTells.told c.write.new.disk) p) (sym (c.count_one.ensures ∙ sum_is pair _ _ written.0 next written.1.summed))
    (reached pair written.0 _ _ (is_frame pair _ next _ _ _ _ written.0 written.1).valid.whole c.requires.reached (is_written pair _ next _ _ _ _ written.0 written.1))

pub returns-in-Err-clause-appends : goal.returns-in-Err-clause-appends
returns-in-Err-clause-appends g c =
    let pair = c.args.self.now in
    let next = next_is pair _ _ c.current-log.ensures.value c.log_file.ensures c.next_place.ensures c.header.ensures.fields c.sum.ensures in
    let written = c.in-Err.ensures.written in
    (written.0, appends false pair pair _ _ _ _ _ written.0 (is_frame pair _ next _ _ _ _ written.0 written.1) (is_written pair _ next _ _ _ _ written.0 written.1) refl)
