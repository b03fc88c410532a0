use Rattle.std.proofs.Common.{◌≡◌, List, [], ◌∷◌, ◌++◌, ◌-◌, ◌<◌, ap, sym, subst, ◌∙◌, arith, length, append_assoc}
use Rattle.std.specs.Prelude.{slice_set}
use Rattle.tree_scan.specs.declared.level.Level.{Level}
use Rattle.tree_scan.specs.Coming.{gone_below}
use Rattle.tree_scan.proofs.Lasts.{at_last, put_last, count_last}
use Rattle.tree_scan.proofs.path.attach.Goals as goal

pub go_below-requires : goal.go_below-requires
go_below-requires c =
    let r = c.requires in
    let all : c.push.new.self.items ≡ r.0 ++ r.1.0 ∷ c.args.level ∷ [] =
    c.in-Ok.ensures.items ∙ (ap (λ (l : List Level). l ++ c.args.level ∷ []) r.1.1.0 ∙ append_assoc r.0 (r.1.0 ∷ []) (c.args.level ∷ [])) in
    let at : c.len-at.result - 2 ≡ length r.0 = omega (arith, count_last c.args.levels.now.items r.0 r.1.0 r.1.1.0, c.len-at.ensures, c.in-Ok.ensures.len) in
    let same : c.index_mut.result.now ≡ r.1.0 = c.index_mut.ensures.value ∙ at_last c.push.new.self.items r.0 r.1.0 _ (c.args.level ∷ []) (c.len-at.result - 2) all at in
    subst (λ (l : Level). l.place < 9223372036854775808) (sym same) r.1.1.1

pub returns-clause-ok : goal.returns-clause-ok
returns-clause-ok c = λ above top are.
    let all : c.push.new.self.items ≡ above ++ top ∷ c.args.level ∷ [] =
    c.in-Ok.ensures.items ∙ (ap (λ (l : List Level). l ++ c.args.level ∷ []) are ∙ append_assoc above (top ∷ []) (c.args.level ∷ [])) in
    let at : c.len-at.result - 2 ≡ length above = omega (arith, count_last c.args.levels.now.items above top are, c.len-at.ensures, c.in-Ok.ensures.len) in
    let same : c.index_mut.result.now ≡ top = c.index_mut.ensures.value ∙ at_last c.push.new.self.items above top _ (c.args.level ∷ []) (c.len-at.result - 2) all at in
    ap (λ (l : Level). slice_set c.push.new.self.items (c.len-at.result - 2) l) c.go_below.ensures
    ∙ put_last c.push.new.self.items above top (gone_below c.args.table c.index_mut.result.now) (c.args.level ∷ []) (c.len-at.result - 2) all at
    ∙ ap (λ (l : Level). above ++ gone_below c.args.table l ∷ c.args.level ∷ []) same
