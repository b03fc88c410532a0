use Rattle.std.proofs.Common.{◌≡◌, false, List, ℕ, Result, Ok, Err, IfOk, sym, ◌∙◌, ap}
use Rattle.sql_lexemes.specs.Values.{single_quotes, quoted_bytes}
use Rattle.sql_lexemes.proofs.ValueLaws.{no_quotes}
use Rattle.sql_lexemes.proofs.values.quoted.Goals as goal

copied : {E : Type 0} (r : Result (List ℕ) E) (copy value : List ℕ) → copy ≡ value → IfOk r (λ it. it ≡ copy) → IfOk r (λ it. it ≡ value)
copied (Ok it) copy value same is = is ∙ same
copied (Err e) copy value same is = tt

pub returns-else-contains : goal.returns-else-contains
returns-else-contains c =
    let quote = c.args.quote in
    let given = c.inside-inside.result.now in
    let same : given ≡ quoted_bytes quote c.args.bytes.now =
    sym (no_quotes quote given (sym c.contains.ensures.value ∙ c.if-contains.false)) ∙ ap (single_quotes quote false) c.inside-inside.ensures in
    copied c.from_slice.result given (quoted_bytes quote c.args.bytes.now) same c.from_slice.ensures
