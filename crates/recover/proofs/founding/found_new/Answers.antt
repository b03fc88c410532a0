use Rattle.std.proofs.Common.{◌≡◌, ℕ, List, length, true, sym, ◌∙◌, ap, subst, arith}
use Rattle.page_spec.specs.Header.{is_page_size}
use Rattle.log_spec.specs.LogHeader.{LogFields}
use Rattle.recover.specs.NewPages.{new_first_page}
use Rattle.recover.proofs.FoundsNew.{founds_new, lays_not, founds_not}
use Rattle.recover.proofs.founding.found_new.Goals as goal

pub returns-in-Ok-lay_first-clause-moments : goal.returns-in-Ok-lay_first-clause-moments
returns-in-Ok-lay_first-clause-moments g c view one two h next none sized empty =
    let first : List ℕ = c.lay_first_page.new.to in
    let again : List ℕ = c.lay_first_page-in-Ok.new.to in
    let kind = c.args.kind in
    let long : length first ≡ length c.args.buf.now = c.lay_first_page.auto.to in
    let first_is : first ≡ new_first_page kind view.size = c.lay_first_page.ensures ∙ ap (new_first_page kind) sized in
    let again_is : again ≡ new_first_page kind view.size = c.lay_first_page-in-Ok.ensures ∙ ap (new_first_page kind) (c.in-Ok.ensures.room ∙ long ∙ sized) in
    let legal : is_page_size view.size ≡ true = subst (λ (n : ℕ). is_page_size n ≡ true) (sym c.requires.page_size ∙ sized) c.requires.one.0 in
    founds_new view one two kind c.args.header.now.bytes first c.new_count.result c.new_count-2.result _ _ (long ∙ sized) legal first_is c.new_count.ensures.value c.new_count-2.ensures.value (omega (arith, c.requires.room.0, sized)) (ap (λ (f : LogFields). f.page_size) c.requires.fields ∙ sym c.requires.page_size ∙ sized) h next none empty
    again c.new_count-in-Ok.result _ (again_is ∙ sym first_is) c.new_count-in-Ok.ensures.value c.in-Ok.ensures.committed (λ view one two h sized long none hold count few. c.in-Ok-lay_first.ensures.moments view one two h sized long none hold count few)

pub returns-in-Err-lay_first-clause-moments : goal.returns-in-Err-lay_first-clause-moments
returns-in-Err-lay_first-clause-moments g c view one two h next none sized empty =
    let first : List ℕ = c.lay_first_page.new.to in
    let again : List ℕ = c.lay_first_page-in-Ok.new.to in
    let kind = c.args.kind in
    let long : length first ≡ length c.args.buf.now = c.lay_first_page.auto.to in
    let first_is : first ≡ new_first_page kind view.size = c.lay_first_page.ensures ∙ ap (new_first_page kind) sized in
    let again_is : again ≡ new_first_page kind view.size = c.lay_first_page-in-Ok.ensures ∙ ap (new_first_page kind) (c.in-Ok.ensures.room ∙ long ∙ sized) in
    let legal : is_page_size view.size ≡ true = subst (λ (n : ℕ). is_page_size n ≡ true) (sym c.requires.page_size ∙ sized) c.requires.one.0 in
    lays_not view one two kind c.args.header.now.bytes first c.new_count.result c.new_count-2.result _ _ (long ∙ sized) legal first_is c.new_count.ensures.value c.new_count-2.ensures.value (omega (arith, c.requires.room.0, sized)) (ap (λ (f : LogFields). f.page_size) c.requires.fields ∙ sym c.requires.page_size ∙ sized) h next none empty
    again c.new_count-in-Ok.result _ (again_is ∙ sym first_is) c.new_count-in-Ok.ensures.value c.in-Ok.ensures.committed (λ view one two h sized long none hold count few. c.in-Err-lay_first.ensures.moments view one two h sized long none hold count few)

pub returns-in-Err-clause-moments : goal.returns-in-Err-clause-moments
returns-in-Err-clause-moments g c view one two h next none sized empty =
    let first : List ℕ = c.lay_first_page.new.to in
    let kind = c.args.kind in
    let long : length first ≡ length c.args.buf.now = c.lay_first_page.auto.to in
    let first_is : first ≡ new_first_page kind view.size = c.lay_first_page.ensures ∙ ap (new_first_page kind) sized in
    let legal : is_page_size view.size ≡ true = subst (λ (n : ℕ). is_page_size n ≡ true) (sym c.requires.page_size ∙ sized) c.requires.one.0 in
    founds_not view one two kind c.args.header.now.bytes first c.new_count.result c.new_count-2.result _ _ (long ∙ sized) legal first_is c.new_count.ensures.value c.new_count-2.ensures.value (omega (arith, c.requires.room.0, sized)) (ap (λ (f : LogFields). f.page_size) c.requires.fields ∙ sym c.requires.page_size ∙ sized) h next none empty
    c.in-Err.ensures.fails
