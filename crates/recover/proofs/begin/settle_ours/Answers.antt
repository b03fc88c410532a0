use Rattle.std.proofs.Common.{sym, subst, arith}
use Rattle.std.specs.Prelude.{IfSome}
use Rattle.disk_face.specs.declared.disk.File.{File}
use Rattle.disk_face.specs.Steps.{reads}
use Rattle.log_spec.specs.LogHeader.{log_fields}
use Rattle.opening_spec.specs.Found.{IsFirst}
use Rattle.opening_spec.specs.States.{header1_of, header2_of}
use Rattle.recover.proofs.Readying.{same_ready, room_for}
use Rattle.recover.proofs.begin.settle_ours.Goals as goal

pub returns-in-Ok-clause-moments : goal.returns-in-Ok-clause-moments
returns-in-Ok-clause-moments g c view has1 has2 h sized none seen is some own salt1 salt2 most1 most2 =
    let headers = c.next_headers-headers.result in
    let e = c.next_headers-headers.ensures in
    let here = log_fields headers.here.bytes in
    let there = log_fields headers.there.bytes in
    let next = e.next has1 has2 salt1 salt2 (room_for has1 0 most1 (omega arith)) (room_for has2 0 most2 (omega arith)) in
    same_ready view headers.one headers.two c.new.result (header1_of headers.first here there) (header2_of headers.first here there) _ _ c.new.ensures e.one e.two some
    (c.in-Ok.ensures.moments view has1 has2 h sized none seen
    (subst (λ (f : File). IfSome (g.D.DiskTells.told c.args.disk.now) (λ told. IsFirst (reads told) f has1 has2)) (sym e.first) is) own next.0 next.1)

pub returns-in-Err-clause-moments : goal.returns-in-Err-clause-moments
returns-in-Err-clause-moments g c view has1 has2 h sized none seen is some own salt1 salt2 most1 most2 =
    let e = c.next_headers-headers.ensures in
    let next = e.next has1 has2 salt1 salt2 (room_for has1 0 most1 (omega arith)) (room_for has2 0 most2 (omega arith)) in
    c.in-Err.ensures.moments view has1 has2 h sized none seen
    (subst (λ (f : File). IfSome (g.D.DiskTells.told c.args.disk.now) (λ told. IsFirst (reads told) f has1 has2)) (sym e.first) is) own next.0 next.1
