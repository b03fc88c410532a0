-- A round of the loop is a round of the grammar's.
use Rattle.std.proofs.Common.{◌∙◌, ap, sym}
use Rattle.grammars.specs.Reading.{read}
use Rattle.sql_grammar.specs.Table.{type_words}
use Rattle.sql_tables.proofs.Loops.{type_words_over, type_words_on, type_words_shorter}
use Rattle.sql_tables.proofs.types.type_words.Goals as goal

pub loop-other-preserved : goal.loop-other-preserved
loop-other-preserved c =
    c.loop-other.invariant
    ∙ (type_words_on c.args.wide c.loop-other.all c.loop-other.rest.now c.in-Some.other c.in-Some.more.now c.in-Some.ensures
    ∙ ap (λ v. read (type_words c.args.wide v) c.in-Some.more.now) (sym c.widened-all.ensures))

pub loop-other-smaller : goal.loop-other-smaller
loop-other-smaller c = type_words_shorter c.args.wide c.loop-other.all c.loop-other.rest.now c.in-Some.other c.in-Some.more.now c.in-Some.ensures

pub returns : goal.returns
returns c = c.loop-other.invariant ∙ type_words_over c.args.wide c.loop-other.all c.loop-other.rest.now c.in_default.ensures
