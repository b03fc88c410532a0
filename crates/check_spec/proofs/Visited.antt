-- What a walk that went through says: the pages that it met come behind those met before, each once.
use Rattle.std.proofs.Common.{◌≡◌, ℕ, zero, suc, ◌+◌, ◌-◌, ◌<◌, ◌≤◌, ◌==◌, true, false, List, [], ◌∷◌, ◌++◌, refl, sym, subst, ap, ◌∙◌, arith, append_assoc, inl, inr, eq-eqb, None, Some, Option}
use Rattle.std.proofs.lemmas.Bool.{cases_eq, ne_eqb}
use Rattle.tree_spec.specs.Layout.{times}
use Rattle.tree_spec.proofs.Lists.{times-append}
use Rattle.check_spec.specs.Walk.{Database, Place, Past, Onward, IsInOrder, Visits, with_met}

-- Pages were met behind others, each of them once where the others are.
pub record MeetsMore (before now : List ℕ) : Type 0 where
  pub more : List ℕ
  pub now_is : now ≡ before ++ more
  pub once : ((page : ℕ) → times before page ≤ 1) → (page : ℕ) → times now page ≤ 1

none_more : (met : List ℕ) → met ≡ met ++ [] → MeetsMore met met
none_more met is = record { more = []; now_is = is; once = λ each page. each page }

behind_none : (met : List ℕ) → met ≡ met ++ []
behind_none [] = refl
behind_none (page ∷ pages) = ap (λ (l : List ℕ). page ∷ l) (behind_none pages)

more_same : (before now : List ℕ) → now ≡ before → MeetsMore before now
more_same before now same = subst (λ (l : List ℕ). MeetsMore before l) (sym same) (none_more before (behind_none before))

more_one : (before now : List ℕ) (page : ℕ) → times before page ≡ 0 → now ≡ before ++ page ∷ [] → MeetsMore before now
more_one before now page none is = record {
  more = page ∷ [];
  now_is = is;
  once = λ each other.
      subst (λ (l : List ℕ). times l other ≤ 1) (sym is)
      (elim (cases_eq page other) [
        | inl same ↦
            let gone : times before other ≡ 0 = subst (λ (n : ℕ). times before n ≡ 0) same none in
            let sum = times-append before (page ∷ []) other in
            let sum_is = rw (eq-eqb page other same) at sum in
            omega (arith, gone, sum_is)
        | inr apart ↦
            let sum = times-append before (page ∷ []) other in
            let sum_is = rw (ne_eqb page other apart) at sum in
            omega (arith, each other, sum_is)
      ]);
}

pub more_join : (first second third : List ℕ) → MeetsMore first second → MeetsMore second third → MeetsMore first third
more_join first second third one two = record {
  more = one.more ++ two.more;
  now_is = two.now_is ∙ ap (λ (l : List ℕ). l ++ two.more) one.now_is ∙ append_assoc first one.more two.more;
  once = λ each. two.once (one.once each);
}

-- a place in order meets its page at most
order_meets : (db : Database) (past : Past) (place : Place) (on : Onward) → IsInOrder db past place on → MeetsMore past.met on.now.met
order_meets db past Place.AtHeader on is = more_same past.met on.now.met (ap (λ (o : Onward). o.now.met) is.2)
order_meets db past (Place.AtTrunk page) on is = more_one past.met on.now.met page is.0 (ap (λ (o : Onward). o.now.met) is.2)
order_meets db past (Place.AtLeaf page) on is = more_one past.met on.now.met page is.0 (ap (λ (o : Onward). o.now.met) is.1)
order_meets db past Place.AtEnd on is = more_same past.met on.now.met (ap (λ (o : Onward). o.now.met) is.1)
order_meets db past (Place.AtNode spot page) on is = more_one past.met on.now.met page is.1 (ap (λ (o : Onward). o.now.met) is.4)
order_meets db past (Place.AtRowids spot page cells) on is = more_same past.met on.now.met (ap (λ (o : Onward). o.now.met) is.1)
order_meets db past (Place.AtLink page left) on is = more_one past.met on.now.met page is.0 (ap (λ (o : Onward). o.now.met) is.2)
order_meets db past (Place.AtRow cell) on is = more_same past.met on.now.met (ap (λ (o : Onward). o.now.met) is.4)

-- So do places that are visited in order.
pub visits_meet : (db : Database) (past : Past) (places : List Place) (done : Past) (named : List ℕ) → Visits db past places done named → MeetsMore past.met done.met
visits_meet db past places done named (Visits.rests _ _ _ _ none is no_name) = more_same past.met done.met (ap (λ (p : Past). p.met) is)
visits_meet db past places done named (Visits.visits _ _ _ _ place others on mid inside behind are names order under rest) =
    more_join past.met on.now.met done.met (order_meets db past place on order)
    (more_join on.now.met mid.met done.met (visits_meet db on.now on.next mid inside under) (visits_meet db mid others done behind rest))
