use Rattle.std.proofs.Common.{◌≡◌, ◌+◌, ◌∙◌, sym, subst, ℕ, None, arith}
use Rattle.recover.specs.Looking.{is_whole_by}
use Rattle.recover.specs.Seeing.{first_missing}
use Rattle.recover.proofs.Missing.{found, missing_more}
use Rattle.recover.proofs.Enough.{all_looked}
use Rattle.recover.proofs.places.find_places.Goals as goal

pub returns-in-Some-clause-missing : goal.returns-in-Some-clause-missing
returns-in-Some-clause-missing c =
    missing_more (is_whole_by c.args.one.now c.args.two.now c.args.size c.args.main) 1 c.looked_at-some.result c.args.count c.in-Some.page c.looked_at-some.ensures.within
    (sym (found c.args.one.now c.args.two.now c.in-Ok.places.items c.deref.result.now c.args.size c.args.main c.looked_at-some.result c.find_missing.result c.in-Ok.ensures.places c.deref.ensures.value c.in-Ok.ensures.count c.find_missing.ensures) ∙ c.in-Some.is)

none_missing : (c : goal.In_default) → first_missing (is_whole_by c.args.one.now c.args.two.now c.args.size c.args.main) 1 c.looked_at-some.result ≡ None
none_missing c =
    sym (found c.args.one.now c.args.two.now c.in-Ok.places.items c.deref.result.now c.args.size c.args.main c.looked_at-some.result c.find_missing.result c.in-Ok.ensures.places c.deref.ensures.value c.in-Ok.ensures.count c.find_missing.ensures) ∙ c.in_default.is

all : (c : goal.In_default) → c.looked_at-some.result ≡ c.args.count
all c =
    all_looked c.args.one.now c.args.two.now c.args.size c.args.main (c.len.result + c.len-2.result) c.looked_at-some.result c.args.count c.requires.size c.looked_at-some.ensures.within
    (omega (arith, c.len.ensures, c.len-2.ensures, c.args.one.now.pages.ok.0, c.args.two.now.pages.ok.0)) c.looked_at-some.ensures.enough (none_missing c)

pub returns-clause-count : goal.returns-clause-count
returns-clause-count c = c.in-Ok.ensures.count ∙ all c

pub returns-clause-whole : goal.returns-clause-whole
returns-clause-whole c = subst (λ (n : ℕ). first_missing (is_whole_by c.args.one.now c.args.two.now c.args.size c.args.main) 1 n ≡ None) (all c) (none_missing c)
