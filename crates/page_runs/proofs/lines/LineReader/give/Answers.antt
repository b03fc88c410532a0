use Rattle.std.proofs.Common.{◌≡◌, ◌+◌, true, false, ap, take, ◌∙◌, arith, refl}
use Rattle.script.specs.Raw.{is_within}
use Rattle.page_runs.proofs.Ranges.{pending-given, is_within-given}
use Rattle.page_runs.proofs.lines.LineReader.give.Goals as goal

pub returns-then-not-is_within-clause-pending : goal.returns-then-not-is_within-clause-pending
returns-then-not-is_within-clause-pending c =
    let r = c.self.inside in
    pending-given c.args.self.now r.buffer.items r.line r.next r.end r.passed c.args.count c.self.view_is (omega arith) c.requires

pub returns-then-not-is_within-clause-next : goal.returns-then-not-is_within-clause-next
returns-then-not-is_within-clause-next c =
    let r = c.self.inside in
    let test : is_within c.args.self.now.passed (take c.args.count c.args.self.now.pending) ≡ false =
    is_within-given c.args.self.now r.buffer.items c.deref.result.now r.line r.next r.end r.passed c.args.count c.is_within.result c.self.view_is (omega arith) c.requires c.deref.ensures.value c.is_within.ensures ∙ c.if-not-is_within.true in
    rw test refl

pub returns-then-not-is_within-clause-passed : goal.returns-then-not-is_within-clause-passed
returns-then-not-is_within-clause-passed c =
    let r = c.self.inside in
    let test : is_within c.args.self.now.passed (take c.args.count c.args.self.now.pending) ≡ false =
    is_within-given c.args.self.now r.buffer.items c.deref.result.now r.line r.next r.end r.passed c.args.count c.is_within.result c.self.view_is (omega arith) c.requires c.deref.ensures.value c.is_within.ensures ∙ c.if-not-is_within.true in
    rw test (ap (λ reading. reading.passed) c.self.view_is)

pub returns-clause-next : goal.returns-clause-next
returns-clause-next c =
    let r = c.self.inside in
    let test : is_within c.args.self.now.passed (take c.args.count c.args.self.now.pending) ≡ true =
    is_within-given c.args.self.now r.buffer.items c.deref.result.now r.line r.next r.end r.passed c.args.count c.is_within.result c.self.view_is (omega arith) c.requires c.deref.ensures.value c.is_within.ensures ∙ c.if-not-is_within.false in
    rw test refl

pub returns-clause-pending : goal.returns-clause-pending
returns-clause-pending c =
    let r = c.self.inside in
    pending-given c.args.self.now r.buffer.items r.line r.next r.end r.passed c.args.count c.self.view_is (omega arith) c.requires

pub returns-clause-passed : goal.returns-clause-passed
returns-clause-passed c =
    let r = c.self.inside in
    let test : is_within c.args.self.now.passed (take c.args.count c.args.self.now.pending) ≡ true =
    is_within-given c.args.self.now r.buffer.items c.deref.result.now r.line r.next r.end r.passed c.args.count c.is_within.result c.self.view_is (omega arith) c.requires c.deref.ensures.value c.is_within.ensures ∙ c.if-not-is_within.false in
    rw test (ap (λ reading. reading.passed + c.args.count) c.self.view_is)
