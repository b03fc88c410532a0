use Rattle.std.proofs.Common.{◌≡◌, ◌+◌, ap, subst, drop, ◌∙◌, arith, Some, None}
use Rattle.std.specs.List.{slice_range}
use Rattle.memchr.specs.Find.{IsFirstByte, is_byte}
use Rattle.page_runs.proofs.Ranges.{pending-given, HasNoEnd-rest, HasNoEnd-all, IsEnd-found}
use Rattle.page_runs.proofs.lines.LineReader.line_end.Goals as goal

pub returns-in-Some-clause-found : goal.returns-in-Some-clause-found
returns-in-Some-clause-found c =
    let r = c.self.inside in
    let rest : slice_range c.deref.result.now (r.next + c.args.scanned) r.end ≡ drop c.args.scanned c.args.self.now.pending =
    ap (λ x. slice_range x (r.next + c.args.scanned) r.end) c.deref.ensures.value
    ∙ pending-given c.args.self.now r.buffer.items r.line r.next r.end r.passed c.args.scanned c.self.view_is (omega arith) c.requires.within in
    let found : IsFirstByte (is_byte 10) (drop c.args.scanned c.args.self.now.pending) (Some c.in-Some.at) =
    subst (λ x. IsFirstByte (is_byte 10) x (Some c.in-Some.at)) rest c.in-Some.ensures in
    IsEnd-found c.args.self.now.pending c.args.scanned c.in-Some.at c.requires.within c.requires.looked found.0.high found.0.before found.1

pub returns-in-None-clause-none : goal.returns-in-None-clause-none
returns-in-None-clause-none c =
    let r = c.self.inside in
    let rest : slice_range c.deref.result.now (r.next + c.args.scanned) r.end ≡ drop c.args.scanned c.args.self.now.pending =
    ap (λ x. slice_range x (r.next + c.args.scanned) r.end) c.deref.ensures.value
    ∙ pending-given c.args.self.now r.buffer.items r.line r.next r.end r.passed c.args.scanned c.self.view_is (omega arith) c.requires.within in
    let none : IsFirstByte (is_byte 10) (drop c.args.scanned c.args.self.now.pending) None =
    subst (λ x. IsFirstByte (is_byte 10) x None) rest c.in-None.ensures in
    HasNoEnd-rest c.args.self.now.pending c.args.scanned c.requires.looked (HasNoEnd-all (drop c.args.scanned c.args.self.now.pending) none)
