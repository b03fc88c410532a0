use Rattle.std.proofs.Common.{◌≡◌, ℕ, ◌+◌, ◌≤◌, List, min, length, refl, sym, subst, ap, ◌∙◌, arith}
use Rattle.tree_spec.specs.Layout.{Each}
use Rattle.check_spec.specs.Walk.{root_places}
use Rattle.tree_check.specs.Walking.{HasVisited, BarsVisit}
use Rattle.tree_check.specs.declared.walk.Walk.{Walk}
use Rattle.tree_check.proofs.Walked.{all_met, all_counted, all_lost, first_part_bars, roots_bars}
use Rattle.tree_check.proofs.Beginning.{fresh_none}
use Rattle.tree_check.proofs.check.check_from.Goals as goal

pub returns-in-Err-clause-cause : goal.returns-in-Err-clause-cause
returns-in-Err-clause-cause g c =
    first_part_bars g.P.PagesTells c.args.pages.now c.check_first.new.pages c.args.walk.now c.args.walk.now.page_size c.args.walk.now.usable c.args.walk.now.last c.in-Err.why
    c.requires.fresh c.in-Err.ensures.cause

pub check_first-requires-clause-fresh : goal.check_first-requires-clause-fresh
check_first-requires-clause-fresh g c = fresh_none c.args.walk.now.page_size c.args.walk.now.usable c.args.walk.now.last c.args.walk.now c.requires.fresh

pub check_roots-requires-clause-range : goal.check_roots-requires-clause-range
check_roots-requires-clause-range g c =
    let path : c.as_slice.result.now ≡ c.check_first.new.walk.roots.items = subst (λ v. c.as_slice.result.now ≡ v.items) c.replace-roots.ensures.value c.as_slice.ensures.value in
    subst (λ l. Each (λ (root : ℕ). (2 ≤ root) × (root ≤ c.check_first.new.walk.last)) l) (sym path) c.in-Ok.ensures.first.suits.roots

pub returns-in-Err-check_roots-clause-cause : goal.returns-in-Err-check_roots-clause-cause
returns-in-Err-check_roots-clause-cause g c =
    let path : c.as_slice.result.now ≡ c.check_first.new.walk.roots.items = subst (λ v. c.as_slice.result.now ≡ v.items) c.replace-roots.ensures.value c.as_slice.ensures.value in
    let taken : Walk = record c.check_first.new.walk { roots = c.replace-roots.new.dest } in
    roots_bars g.P.PagesTells c.args.pages.now c.check_first.new.pages c.check_roots.new.pages c.args.walk.now c.check_first.new.walk taken
    c.args.walk.now.page_size c.args.walk.now.usable c.args.walk.now.last c.in-Ok.free c.in-Err-check_roots.why c.requires.fresh c.in-Ok.ensures.reading
    c.in-Err-check_roots.ensures.reading c.in-Ok.ensures.first refl
    (subst (λ l. BarsVisit g.P.PagesTells c.check_first.new.pages c.check_roots.new.pages taken (root_places l) c.in-Err-check_roots.why) path c.in-Err-check_roots.ensures.cause)

pub returns-in-Some-clause-cause : goal.returns-in-Some-clause-cause
returns-in-Some-clause-cause g c =
    let path : c.as_slice.result.now ≡ c.check_first.new.walk.roots.items = subst (λ v. c.as_slice.result.now ≡ v.items) c.replace-roots.ensures.value c.as_slice.ensures.value in
    let taken : Walk = record c.check_first.new.walk { roots = c.replace-roots.new.dest } in
    all_lost g.P.PagesTells c.args.pages.now c.check_roots.new.pages c.check_first.new.walk.roots.items c.in-Ok.free c.check_roots.new.walk c.in-Some.page
    (all_met g.P.PagesTells c.args.pages.now c.check_first.new.pages c.check_roots.new.pages c.args.walk.now c.check_first.new.walk taken c.check_roots.new.walk
    c.args.walk.now.page_size c.args.walk.now.usable c.args.walk.now.last c.in-Ok.free c.requires.fresh c.in-Ok.ensures.reading c.in-Ok-check_roots.ensures.reading c.in-Ok.ensures.first refl
    (subst (λ l. HasVisited g.P.PagesTells c.check_first.new.pages taken (root_places l) c.check_roots.new.pages c.check_roots.new.walk) path c.in-Ok-check_roots.ensures.visited))
    c.in-Some.ensures

pub returns-clause-sound : goal.returns-clause-sound
returns-clause-sound g c =
    let path : c.as_slice.result.now ≡ c.check_first.new.walk.roots.items = subst (λ v. c.as_slice.result.now ≡ v.items) c.replace-roots.ensures.value c.as_slice.ensures.value in
    let taken : Walk = record c.check_first.new.walk { roots = c.replace-roots.new.dest } in
    let held : length c.as_slice.result.now ≡ length c.replace-roots.result.items = ap (λ (l : List ℕ). length l) c.as_slice.ensures.value in
    let long : c.len.result ≡ length c.check_first.new.walk.roots.items =
    omega (arith, c.len.ensures, c.replace-roots.result.ok.0, held, ap (λ (l : List ℕ). length l) path) in
    all_counted g.P.PagesTells c.args.pages.now c.check_roots.new.pages c.check_first.new.walk.roots.items c.in-Ok.free c.check_roots.new.walk _
    (all_met g.P.PagesTells c.args.pages.now c.check_first.new.pages c.check_roots.new.pages c.args.walk.now c.check_first.new.walk taken c.check_roots.new.walk
    c.args.walk.now.page_size c.args.walk.now.usable c.args.walk.now.last c.in-Ok.free c.requires.fresh c.in-Ok.ensures.reading c.in-Ok-check_roots.ensures.reading c.in-Ok.ensures.first refl
    (subst (λ l. HasVisited g.P.PagesTells c.check_first.new.pages taken (root_places l) c.check_roots.new.pages c.check_roots.new.walk) path c.in-Ok-check_roots.ensures.visited))
    c.in_default.ensures refl (c.min-trees.ensures ∙ ap (λ n. min (n + 1) c.check_roots.new.walk.last) long) refl
