use Rattle.std.proofs.Common.{true, ◌∙◌, ap, arith}
use Rattle.wal_frames.specs.declared.header.LogHeader.{LogHeader}
use Rattle.recover.proofs.Resets.{next_is, signed_is}
use Rattle.recover.proofs.header.next_header.Goals as goal

pub returns-clause-next : goal.returns-clause-next
returns-clause-next c has salt few risen =
    let e = c.sign.ensures in
    let is = signed_is c.args.log (record { big = true; page_size = c.args.page_size; generation = c.args.generation; salt1 = c.next_salt.result; salt2 = c.args.salt2; sum = record { s0 = 0; s1 = 0 } }) c.sign.result e.header c.requires.page_size c.requires.generation e.signed in
    next_is c.args.log has _ c.sign.result.bytes _ c.requires.which is salt (ap (λ (h : LogHeader). h.salt1) e.header ∙ c.next_salt.ensures) (omega (arith, few)) (omega (arith, risen, ap (λ (h : LogHeader). h.generation) e.header))

pub returns-clause-fields : goal.returns-clause-fields
returns-clause-fields c =
    let e = c.sign.ensures in
    (signed_is c.args.log (record { big = true; page_size = c.args.page_size; generation = c.args.generation; salt1 = c.next_salt.result; salt2 = c.args.salt2; sum = record { s0 = 0; s1 = 0 } }) c.sign.result e.header c.requires.page_size c.requires.generation e.signed).told
