use Rattle.std.proofs.Common.{rules, arith, ◌≡◌, ◌+◌, ◌-◌, ◌^◌, ◌++◌, ◌∷◌, [], min, None}
use Rattle.std.proofs.lemmas.Result.{on_ok_weaker}
use Rattle.value_form.proofs.ReadingLaws.{taken_float, taken_value, no_float_yet}
use Rattle.value_form.specs.Serial.{body_size}
use Rattle.value_form.proofs.read.Taken.take.Goals as goal

pub returns-then-serial-eq-FLOAT-clause-taken : goal.returns-then-serial-eq-FLOAT-clause-taken
returns-then-serial-eq-FLOAT-clause-taken c =
    let need : c.saturating_add-self.result ≡ min (c.args.self.now.need + body_size c.args.serial) (2 ^ 64 - 1) = search rules in
    let none : c.args.self.now.float ≡ None = no_float_yet c.args.self.now.float c.if-is_some.ensures in
    λ types is. rw c.values.ensures
    (taken_float c.args.self.now types c.args.bodies.now c.args.serial c.saturating_add-self.result is need (omega arith) c.requires.bodies none c.if-serial-eq-FLOAT.true)

pub returns-clause-taken : goal.returns-clause-taken
returns-clause-taken c =
    let need : c.saturating_add-self.result ≡ min (c.args.self.now.need + body_size c.args.serial) (2 ^ 64 - 1) = search rules in
    let none : c.args.self.now.float ≡ None = no_float_yet c.args.self.now.float c.if-is_some.ensures in
    on_ok_weaker c.push.result (λ (pushed : c.push.new.self ≡ c.args.self.now.row ++ c.in_ok-read_value.field-0 ∷ []) types is. rw pushed
    (taken_value c.args.self.now types c.args.bodies.now c.args.serial c.saturating_add-self.result c.in_ok-read_value.field-0 is need (omega arith) c.requires.bodies none
    c.if-serial-eq-FLOAT.false c.in_ok-read_value.ensures)) c.push.ensures.ok
