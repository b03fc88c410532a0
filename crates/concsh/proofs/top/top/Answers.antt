use Rattle.std.proofs.Common.{subst, sym}
use Rattle.std.proofs.lemmas.Option.{IfSome_then}
use Rattle.concsh.specs.Program.{EndsByItself}
use Rattle.concsh.proofs.Complete.{runs_end}
use Rattle.concsh.proofs.top.top.Goals as goal
use Rattle.words.specs.Words.{request_of}

pub returns-clause-run : goal.returns-clause-run
returns-clause-run g c = IfSome_then (request_of c.args.words.now) c.run.ensures.run (λ asked runs. (c.run.result, c.code.ensures, runs))

pub returns-clause-refused : goal.returns-clause-refused
returns-clause-refused g c = λ refused. (c.run.result, c.code.ensures, c.run.ensures.refused refused)

pub returns-clause-complete : goal.returns-clause-complete
returns-clause-complete g c = IfSome_then (request_of c.args.words.now) c.run.ensures.run (λ asked runs no_disk no_source no_sink.
    subst (λ number. EndsByItself asked (g.S.Source.left c.args.src.now) number) (sym c.code.ensures)
    (runs_end g.D.DiskTells g.S.Source g.K.Sink asked c.run.result c.args.disk.now c.args.src.now c.args.out.now c.run.new.disk c.run.new.src c.run.new.out runs no_disk no_source no_sink))
