use Rattle.std.proofs.Common.{◌∙◌, arith}
use Rattle.sql_lexemes.proofs.Lookup.{in_a_to_c, in_d_to_i, in_j_to_n, in_o_to_r, in_s_to_z}
use Rattle.sql_lexemes.proofs.words.look_up.Goals as goal

pub returns-then-letter-le67 : goal.returns-then-letter-le67
returns-then-letter-le67 c = c.a_to_c.ensures ∙ in_a_to_c c.args.word.now (omega (arith, c.first_letter-letter.ensures, c.if-letter-le67.true))

pub returns-then-letter-le73 : goal.returns-then-letter-le73
returns-then-letter-le73 c =
    c.d_to_i.ensures
    ∙ in_d_to_i c.args.word.now (omega (arith, c.first_letter-letter.ensures, c.if-letter-le67.false)) (omega (arith, c.first_letter-letter.ensures, c.if-letter-le73.true))

pub returns-then-letter-le78 : goal.returns-then-letter-le78
returns-then-letter-le78 c =
    c.j_to_n.ensures
    ∙ in_j_to_n c.args.word.now (omega (arith, c.first_letter-letter.ensures, c.if-letter-le73.false)) (omega (arith, c.first_letter-letter.ensures, c.if-letter-le78.true))

pub returns-then-letter-le82 : goal.returns-then-letter-le82
returns-then-letter-le82 c =
    c.o_to_r.ensures
    ∙ in_o_to_r c.args.word.now (omega (arith, c.first_letter-letter.ensures, c.if-letter-le78.false)) (omega (arith, c.first_letter-letter.ensures, c.if-letter-le82.true))

pub returns-else-letter-le82 : goal.returns-else-letter-le82
returns-else-letter-le82 c = c.s_to_z.ensures ∙ in_s_to_z c.args.word.now (omega (arith, c.first_letter-letter.ensures, c.if-letter-le82.false))
