use Rattle.std.proofs.Common.{ℕ, ◌*◌, refl, sym, ap, ◌∙◌}
use Rattle.std.proofs.lemmas.Bool.{eqb-true, true≢false}
use Rattle.std.proofs.Common.{eq-eqb}
use Rattle.tree_check.proofs.FirstPage.{counts_read, counts_large, counts_refused, pages_counted, read_pages}
use Rattle.tree_check.proofs.check.counts_pages.Goals as goal

pub returns-in-Ok-clause-counts : goal.returns-in-Ok-clause-counts
returns-in-Ok-clause-counts c = λ same.
    counts_read c.args.first.now _ c.args.last c.args.page_size c.in-Ok.header c.in-Ok.ensures.cases (c.in-Ok.ensures.accepted.0 refl).0
    (ap (λ (n : ℕ). n * c.args.page_size) c.from.ensures) c.requires.some (eqb-true c.in-Ok.header.pages c.args.last same)

pub returns-in-Ok-clause-others : goal.returns-in-Ok-clause-others
returns-in-Ok-clause-others c = λ apart counts.
    let same = read_pages c.args.first.now _ c.in-Ok.header c.in-Ok.ensures.cases
    ∙ pages_counted c.args.first.now _ c.args.last c.args.page_size (ap (λ (n : ℕ). n * c.args.page_size) c.from.ensures) counts in
    true≢false (sym (eq-eqb c.in-Ok.header.pages c.args.last same) ∙ apart)

pub returns-in-Err-clause-counts : goal.returns-in-Err-clause-counts
returns-in-Err-clause-counts c = λ is.
    counts_large c.args.first.now _ c.args.last c.args.page_size c.in-Err.why c.in-Err.ensures.cases (ap (λ (n : ℕ). n * c.args.page_size) c.from.ensures) c.requires.some
    (c.is_too_large.ensures.large is)

pub returns-in-Err-clause-others : goal.returns-in-Err-clause-others
returns-in-Err-clause-others c = λ is.
    counts_refused c.args.first.now _ c.args.last c.args.page_size c.in-Err.why c.in-Err.ensures.cases (ap (λ (n : ℕ). n * c.args.page_size) c.from.ensures)
    (c.is_too_large.ensures.others is)
