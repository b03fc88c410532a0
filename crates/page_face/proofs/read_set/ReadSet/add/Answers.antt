use Rattle.std.proofs.Common.{◌≡◌, List, ℕ, Err, sym, subst, ap, ◌∙◌}
use Rattle.std.specs.List.Sorted.{IsStrictlyIncreasing, IsBinarySearchResult}
use Rattle.std.specs.Ordering.{nat_cmp}
use Rattle.engine_spec.specs.PageSet.{with_page}
use Rattle.page_face.proofs.ReadSets.{found, missed, missed_rises}
use Rattle.page_face.proofs.read_set.ReadSet.add.Goals as goal

pub invariant_of-self-in-Err : goal.invariant_of-self-in-Err
invariant_of-self-in-Err c =
    let pages = c.self.inside.items.items in
    let page = c.args.page in
    let answer : IsBinarySearchResult (λ y. nat_cmp y page) pages (Err c.in-Err.at) =
    subst (λ (xs : List ℕ). IsBinarySearchResult (λ y. nat_cmp y page) xs (Err c.in-Err.at)) c.deref.ensures.value c.in-Err.ensures.position in
    subst IsStrictlyIncreasing (sym c.in_ok-insert-in-Err.ensures.items) (missed_rises pages page c.in-Err.at c.self.invariant answer)

pub returns-in-Ok-clause-ok : goal.returns-in-Ok-clause-ok
returns-in-Ok-clause-ok c =
    let page = c.args.page in
    let same : c.deref.result.now ≡ c.args.self.now = c.deref.ensures.value ∙ c.self.view_is in
    subst (λ (xs : List ℕ). xs ≡ with_page xs page) same
    (found c.deref.result.now page c.in-Ok.field-0 (subst IsStrictlyIncreasing (sym c.deref.ensures.value) c.self.invariant)
    c.in-Ok.ensures.position c.in-Ok.ensures.bound)

pub returns-in_ok-insert-in-Err-clause-ok : goal.returns-in_ok-insert-in-Err-clause-ok
returns-in_ok-insert-in-Err-clause-ok c =
    let pages = c.self.inside.items.items in
    let page = c.args.page in
    let answer : IsBinarySearchResult (λ y. nat_cmp y page) pages (Err c.in-Err.at) =
    subst (λ (xs : List ℕ). IsBinarySearchResult (λ y. nat_cmp y page) xs (Err c.in-Err.at)) c.deref.ensures.value c.in-Err.ensures.position in
    c.in_ok-insert-in-Err.ensures.items ∙ (missed pages page c.in-Err.at c.self.invariant answer ∙ ap (λ (xs : List ℕ). with_page xs page) c.self.view_is)
