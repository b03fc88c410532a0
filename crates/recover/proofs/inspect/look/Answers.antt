use Rattle.std.proofs.Common.{◌≡◌, Bool, Option, None, subst}
use Rattle.std.specs.Prelude.{IfSome}
use Rattle.disk_face.proofs.Calls.{counts_twice}
use Rattle.recover.specs.Looking.{judged, IsJudged}
use Rattle.recover.proofs.Judged.{refused_header, refused_judge, refused_see, has_seen}
use Rattle.recover.proofs.inspect.look.Goals as goal

pub returns-in-Ok-see-clause-seen : goal.returns-in-Ok-see-clause-seen
returns-in-Ok-see-clause-seen g c =
    has_seen c.args.setup.now.page_size (g.D.DiskTells.told c.args.disk.now) (g.D.DiskTells.journal_answer c.args.disk.now) c.in-Ok.looked c.in-Ok-see.seen c.in-Ok.ensures.read c.in-Ok.ensures.legal
    (subst (λ (hot : Option Bool). IfSome hot (λ hot. judged c.in-Ok.looked hot ≡ None)) c.in-Ok.ensures.stays.journal_answer c.in-Ok-judge.ensures.passed) c.in-Ok-judge.ensures.fine c.in-Ok-see.ensures.whole c.in-Ok-see.ensures.size c.in-Ok-see.ensures.seen c.in-Ok-see.ensures.none

pub returns-in-Ok-judge-clause-refused : goal.returns-in-Ok-judge-clause-refused
returns-in-Ok-judge-clause-refused g c =
    refused_see (g.D.DiskTells.told c.args.disk.now) (g.D.DiskTells.journal_answer c.args.disk.now) c.in-Ok.looked _ _ c.in-Err-see.fault c.in-Ok.ensures.read c.in-Ok.ensures.legal
    (subst (λ (hot : Option Bool). IfSome hot (λ hot. judged c.in-Ok.looked hot ≡ None)) c.in-Ok.ensures.stays.journal_answer c.in-Ok-judge.ensures.passed) c.in-Err-see.ensures.refused

pub returns-in-Ok-clause-refused : goal.returns-in-Ok-clause-refused
returns-in-Ok-clause-refused g c =
    refused_judge (g.D.DiskTells.told c.args.disk.now) (g.D.DiskTells.journal_answer c.args.disk.now) c.in-Ok.looked _ _ c.in-Err-judge.fault c.in-Ok.ensures.read c.in-Ok.ensures.legal
    (counts_twice _ _ _ _ c.in-Ok.ensures.faults c.in-Err-judge.ensures.faults)
    (subst (λ (hot : Option Bool). IsJudged c.in-Ok.looked hot c.in-Err-judge.fault) c.in-Ok.ensures.stays.journal_answer c.in-Err-judge.ensures.refused)

pub returns-clause-refused : goal.returns-clause-refused
returns-clause-refused g c =
    refused_header (g.D.DiskTells.told c.args.disk.now) (g.D.DiskTells.journal_answer c.args.disk.now) _ _ c.in-Err.fault c.in-Err.ensures.faults c.in-Err.ensures.refused
