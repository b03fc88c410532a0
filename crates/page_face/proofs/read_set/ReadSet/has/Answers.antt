use Rattle.std.proofs.Common.{◌≡◌, ◌∙◌, List, ℕ, subst, sym, eqb, ap}
use Rattle.std.specs.List.{list_any}
use Rattle.std.specs.List.Sorted.{IsStrictlyIncreasing}
use Rattle.page_face.proofs.ReadSets.{searched_has}
use Rattle.page_face.proofs.read_set.ReadSet.has.Goals as goal

pub returns : goal.returns
returns c =
    let same : c.deref.result.now ≡ c.args.self.now = c.deref.ensures.value ∙ c.self.view_is in
    c.is_ok.ensures.value
    ∙ searched_has c.deref.result.now c.args.page c.binary_search.result
    (subst IsStrictlyIncreasing (sym c.deref.ensures.value) c.self.invariant) c.binary_search.ensures.position
    ∙ ap (λ (pages : List ℕ). list_any (λ p. eqb p c.args.page) pages) same
