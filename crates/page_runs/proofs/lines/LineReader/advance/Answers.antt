use Rattle.std.proofs.Common.{◌≡◌, ◌<◌, ◌-◌, [], length, take, drop, sym, subst, ◌∙◌, arith, Contains}
use Rattle.std.proofs.lemmas.List.{take_all, drop_all}
use Rattle.script.specs.Raw.{HasNoEnd}
use Rattle.page_runs.specs.Reading.{Advances, WhereTold, buffer_limit, script_left}
use Rattle.page_runs.proofs.Ranges.{HasNoEnd-lacks}
use Rattle.page_runs.proofs.Advancing.{script_left-refilled, told-given, told-full, told-last, ended}
use Rattle.page_runs.proofs.lines.LineReader.advance.Goals as goal

pub returns-in-Some-clause-next : goal.returns-in-Some-clause-next
returns-in-Some-clause-next g c =
    let loop = c.look.invariant in
    let start = script_left c.args.self.now (g.S.Source.left c.args.src.now) in
    let now = g.S.Source.left c.look.src in
    subst (λ n. WhereTold start (script_left c.give.new.self now) (Advances n c.args.self.now c.give.new.self)) (sym c.give.ensures.next)
    (told-given c.args.self.now c.look.self c.give.new.self start now c.in-Some.count loop.left loop.passed c.in-Some.ensures.found c.give.ensures.line c.give.ensures.pending c.give.ensures.passed)

pub returns-then-scanned-eq-BUFFER-clause-next : goal.returns-then-scanned-eq-BUFFER-clause-next
returns-then-scanned-eq-BUFFER-clause-next g c =
    told-full c.args.self.now c.look.self (script_left c.args.self.now (g.S.Source.left c.args.src.now)) (g.S.Source.left c.look.src) c.look.invariant.left (sym c.held-scanned.ensures.count ∙ c.if-scanned-eq-BUFFER.true) c.in_default.ensures.none

pub returns-else-scanned-eq0-clause-next : goal.returns-else-scanned-eq0-clause-next
returns-else-scanned-eq0-clause-next g c =
    let loop = c.look.invariant in
    let more = c.in_ok-refill.ensures in
    let give = c.give-else-scanned-eq0.ensures in
    let count = c.held-scanned.result in
    let whole = c.held-scanned.ensures.count in
    let start = script_left c.args.self.now (g.S.Source.left c.args.src.now) in
    let before = g.S.Source.left c.look.src in
    let now = g.S.Source.left c.refill.new.src in
    let held = c.refill.new.self in
    let room = buffer_limit - length c.look.self.pending in
    let taken = drop (length c.look.self.pending) held.pending in
    let size : length held.pending ≡ length c.look.self.pending = omega (arith, more.count, c.if-branch-eq0.true) in
    let some : 0 < room = omega (arith, whole, c.held-scanned.ensures.room, c.if-scanned-eq-BUFFER.false) in
    let nothing : taken ≡ [] = drop_all (length c.look.self.pending) held.pending (omega (arith, size)) in
    let same : held.pending ≡ c.look.self.pending = sym (take_all (length c.look.self.pending) held.pending (omega (arith, size))) ∙ more.kept in
    subst (λ n. WhereTold start (script_left c.give-else-scanned-eq0.new.self now) (Advances n c.args.self.now c.give-else-scanned-eq0.new.self)) (sym give.next)
    (told-last c.args.self.now held c.give-else-scanned-eq0.new.self start now count
    (script_left-refilled c.look.self held before now room more.kept more.taken ∙ loop.left)
    (ended before now room taken some nothing more.taken)
    (more.passed ∙ loop.passed)
    (omega (arith, whole, size))
    (omega (arith, c.if-scanned-eq0.false))
    (subst HasNoEnd (sym same) c.in_default.ensures.none)
    give.line give.pending give.passed)

pub look-preserved : goal.look-preserved
look-preserved g c =
    let loop = c.look.invariant in
    let more = c.in_ok-refill.ensures in
    let whole = c.held-scanned.ensures.count in
    record {
      left = script_left-refilled c.look.self c.refill.new.self (g.S.Source.left c.look.src) (g.S.Source.left c.refill.new.src) (buffer_limit - length c.look.self.pending) more.kept more.taken ∙ loop.left;
      scanned = omega (arith, whole, more.count);
      looked = subst (λ n. HasNoEnd (take n c.refill.new.self.pending)) (sym whole) (subst HasNoEnd (sym more.kept) c.in_default.ensures.none);
      passed = more.passed ∙ loop.passed;
      whole = λ there. absurd (HasNoEnd-lacks c.look.self.pending c.in_default.ensures.none
          (subst (λ bytes. Contains bytes 10) (sym (loop.whole there).1) there));
      faults = more.faults ∙ loop.faults;
      loans = more.loans ∙ loop.loans;
    }

pub returns-in_err-refill-clause-whole : goal.returns-in_err-refill-clause-whole
returns-in_err-refill-clause-whole g c = λ there. absurd (HasNoEnd-lacks c.look.self.pending c.in_default.ensures.none
    (subst (λ bytes. Contains bytes 10) (sym (c.look.invariant.whole there).1) there))

pub returns-else-scanned-eq0-clause-whole : goal.returns-else-scanned-eq0-clause-whole
returns-else-scanned-eq0-clause-whole g c = λ there. absurd (HasNoEnd-lacks c.look.self.pending c.in_default.ensures.none
    (subst (λ bytes. Contains bytes 10) (sym (c.look.invariant.whole there).1) there))
