use Rattle.std.proofs.Common.{◌≡◌, ◌+◌, ℕ, ◌∙◌, ap, arith}
use Rattle.disk_face.specs.declared.disk.File.{File}
use Rattle.disk_face.specs.declared.disk.File.TheVariants.{Log2}
use Rattle.log_spec.specs.LogHeader.{log_fields}
use Rattle.opening_spec.specs.Found.{next_log}
use Rattle.opening_spec.specs.States.{header1_of, header2_of}
use Rattle.recover.specs.Seeing.{next_odd}
use Rattle.recover.proofs.Readying.{next_both, salt_then, room_for, two_is_first}
use Rattle.recover.proofs.Resets.{odd_room}
use Rattle.recover.proofs.header.first_headers.Goals as goal

pub returns-clause-next : goal.returns-clause-next
returns-clause-next g c has1 has2 salt1 salt2 most1 most2 =
    let commit = c.next_header-commit.result in
    let after = c.next_headers-after.result in
    let e = c.next_headers-after.ensures in
    let first : after.first ≡ Log2 = e.first ∙ two_is_first c.args.one.now c.args.two.now commit.header (c.next_header-commit.ensures.generation ∙ c.odd_generation-generation.ensures.least ∙ ap next_odd c.newest_generation.ensures) in
    let next1 = c.next_header-commit.ensures.next has1 salt1 (room_for has1 0 most1 (omega arith)) (omega (arith, most1, odd_room _ _ c.odd_generation-generation.ensures.least)) in
    let both = next_both after.first (next_log has1) has2 after.here.bytes after.there.bytes first
    (e.next (next_log has1) has2 (salt_then has1 commit.header commit.bytes next1 c.next_header-commit.ensures.fields) salt2 (room_for (next_log has1) 1 (ap (λ (n : ℕ). n + 1) most1) (omega arith)) (room_for has2 0 most2 (omega arith))) in
    (next1, both.0, both.1)

pub returns-clause-one : goal.returns-clause-one
returns-clause-one g c =
    let after = c.next_headers-after.result in
    let first : after.first ≡ Log2 = c.next_headers-after.ensures.first ∙ two_is_first c.args.one.now c.args.two.now c.next_header-commit.result.header (c.next_header-commit.ensures.generation ∙ c.odd_generation-generation.ensures.least ∙ ap next_odd c.newest_generation.ensures) in
    c.next_headers-after.ensures.one ∙ ap (λ (f : File). header1_of f (log_fields after.here.bytes) (log_fields after.there.bytes)) first

pub returns-clause-two : goal.returns-clause-two
returns-clause-two g c =
    let after = c.next_headers-after.result in
    let first : after.first ≡ Log2 = c.next_headers-after.ensures.first ∙ two_is_first c.args.one.now c.args.two.now c.next_header-commit.result.header (c.next_header-commit.ensures.generation ∙ c.odd_generation-generation.ensures.least ∙ ap next_odd c.newest_generation.ensures) in
    c.next_headers-after.ensures.two ∙ ap (λ (f : File). header2_of f (log_fields after.here.bytes) (log_fields after.there.bytes)) first
