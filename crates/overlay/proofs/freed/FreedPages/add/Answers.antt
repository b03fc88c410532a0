use Rattle.std.proofs.Common.{◌≡◌, ◌∙◌, ℕ, List, ◌∷◌, [], ◌++◌, Ok, Err, sym, subst, ap}
use Rattle.std.specs.List.{insert}
use Rattle.engine_spec.specs.PageSet.{with_page}
use Rattle.overlay.specs.Places.{RisesFrom, IsPlace}
use Rattle.overlay.specs.FreedPages.{TwoSets, taken_back}
use Rattle.overlay.specs.Runs.{items_in}
use Rattle.overlay.proofs.FreedLaws.{with_found, with_missed, rises_with, without_with, taken_last}
use Rattle.overlay.proofs.freed.FreedPages.add.Goals as goal

pub invariant_of-self-in-Err : goal.invariant_of-self-in-Err
invariant_of-self-in-Err c =
    let all = items_in c.self.inside.all in
    let page = c.args.page in
    let place = subst (λ (set : List ℕ). IsPlace set page (Err c.in-Err.at)) c.as_slice.ensures c.in-Err.ensures in
    let is : items_in c.insert_reserved.new.self ≡ with_page all page =
    c.insert_reserved.ensures.items ∙ (ap (λ (set : List ℕ). insert set c.in-Err.at page) c.reserve.ensures.items ∙ with_missed all page c.in-Err.at place) in
    subst (RisesFrom 0) (sym is) (rises_with 0 all page c.self.invariant c.requires)

pub returns-in-Ok-clause-ok : goal.returns-in-Ok-clause-ok
returns-in-Ok-clause-ok c =
    let all = items_in c.self.inside.all in
    let page = c.args.page in
    let place = subst (λ (set : List ℕ). IsPlace set page (Ok c.in-Ok.field-0)) c.as_slice.ensures c.in-Ok.ensures in
    let same = sym (with_found 0 all page c.in-Ok.field-0 c.self.invariant place) in
    let held = taken_back all c.self.inside.since.items in
    subst (λ (sets : TwoSets). ◌≡◌ {A = TwoSets} sets (record { now = with_page sets.now page; marked = sets.marked })) c.self.view_is
    (λ i. record { now = same i; marked = held })

pub returns-in_ok-push-in-Err-clause-ok : goal.returns-in_ok-push-in-Err-clause-ok
returns-in_ok-push-in-Err-clause-ok c =
    let all = items_in c.self.inside.all in
    let since = c.self.inside.since.items in
    let page = c.args.page in
    let after = items_in c.insert_reserved.new.self in
    let place = subst (λ (set : List ℕ). IsPlace set page (Err c.in-Err.at)) c.as_slice.ensures c.in-Err.ensures in
    let is : after ≡ with_page all page =
    c.insert_reserved.ensures.items ∙ (ap (λ (set : List ℕ). insert set c.in-Err.at page) c.reserve.ensures.items ∙ with_missed all page c.in-Err.at place) in
    let pushed : c.push.new.self.items ≡ since ++ page ∷ [] = c.in_ok-push-in-Err.ensures.items in
    let back : taken_back after c.push.new.self.items ≡ taken_back all since =
    ap (λ (set : List ℕ). taken_back set c.push.new.self.items) is
    ∙ (ap (λ (pages : List ℕ). taken_back (with_page all page) pages) pushed
    ∙ (taken_last (with_page all page) since page
    ∙ ap (λ (set : List ℕ). taken_back set since) (without_with all page c.in-Err.at place))) in
    subst (λ (sets : TwoSets). ◌≡◌ {A = TwoSets} (record { now = after; marked = taken_back after c.push.new.self.items })
    (record { now = with_page sets.now page; marked = sets.marked })) c.self.view_is (λ i. record { now = is i; marked = back i })
