use Rattle.std.proofs.Common.{arith, rules, ◌≡◌, ◌<◌, ◌^◌, ◌++◌, OnOk, subst, append_assoc, to_z-of_z, w64, SFits}
use Rattle.std.specs.Int.{cast_unsigned}
use Rattle.page_spec.specs.Varint.{shortest_varint}
use Rattle.node_edit.specs.Payloads.{KeyFits, keys_text}
use Rattle.node_edit.proofs.PayloadLaws.{when_ok}
use Rattle.node_edit.proofs.payloads.put_keys.Goals as goal

pub returns-in-Some-clause-put : goal.returns-in-Some-clause-put
returns-in-Some-clause-put c =
    let fits : SFits w64 c.in-Some.rowid = search rules in
    let bits : c.cast_unsigned.result ≡ cast_unsigned w64 c.in-Some.rowid = grind (arith, to_z-of_z) in
    let all : c.put_varint.new.to.items ++ shortest_varint c.cast_unsigned.result ≡ c.args.text.now.items ++ keys_text c.args.size c.args.rowid =
    rw (c.in-Some.is, c.in_ok-put_varint.ensures.ok, bits) (append_assoc c.args.text.now.items (shortest_varint c.args.size) (shortest_varint (cast_unsigned w64 c.in-Some.rowid))) in
    subst (λ t. OnOk c.put_varint-in-Some.result (c.put_varint-in-Some.new.to.items ≡ t)) all c.put_varint-in-Some.ensures.ok

pub returns-in-Some-clause-fits : goal.returns-in-Some-clause-fits
returns-in-Some-clause-fits c =
    let fits : SFits w64 c.in-Some.rowid = search rules in
    let bits : c.cast_unsigned.result ≡ cast_unsigned w64 c.in-Some.rowid = grind (arith, to_z-of_z) in
    let few : cast_unsigned w64 c.in-Some.rowid < 2 ^ 64 = subst (λ n. n < 2 ^ 64) bits c.cast_unsigned.type_inv in
    let here : KeyFits c.args.rowid = rw c.in-Some.is (few, to_z-of_z fits) in
    when_ok (KeyFits c.args.rowid) c.put_varint-in-Some.result here
