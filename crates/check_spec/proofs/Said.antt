-- Places that are visited in order say what they say.
use Rattle.std.proofs.Common.{◌≡◌, ℕ, List, [], ◌∷◌, ◌++◌, sym, subst, ap, ◌∙◌, append_assoc}
use Rattle.std.proofs.lemmas.List.{append-nil}
use Rattle.sound_spec.specs.Schema.{with_root}
use Rattle.check_spec.specs.Walk.{Database, Place, Past, Onward, IsInOrder, Visits, with_met}
use Rattle.check_spec.proofs.Told.{AddsPages, adds_none, adds_join, PlaceSays, SayAll}
use Rattle.check_spec.proofs.FreePages.{adds_page, trunk_says}
use Rattle.check_spec.proofs.Payloads.{link_says}
use Rattle.check_spec.proofs.Inners.{node_says}
use Rattle.check_spec.proofs.Fronts.{header_says}

-- what is said behind a place, where that leads on so
said_on : (db : Database) (on other : Onward) (after : Past) (inside : List ℕ) → on ≡ other → SayAll db on.next on.now after inside → SayAll db other.next other.now after inside
said_on db on other after inside same said = subst (λ (o : Onward). SayAll db o.next o.now after inside) same said

named_on : (db : Database) (place : Place) (past after : Past) (on other : Onward) (inside : List ℕ) → on ≡ other → PlaceSays db place past after (other.named ++ inside)
    → PlaceSays db place past after (on.named ++ inside)
named_on db place past after on other inside same said = subst (λ (o : Onward). PlaceSays db place past after (o.named ++ inside)) (sym same) said

order_says : (db : Database) (past : Past) (place : Place) (on : Onward) (after : Past) (inside : List ℕ) → IsInOrder db past place on
    → SayAll db on.next on.now after inside → PlaceSays db place past after (on.named ++ inside)
order_says db past Place.AtHeader on after inside is said =
    named_on db Place.AtHeader past after on _ inside is.2 (header_says db past after inside is.0 is.1 (said_on db on _ after inside is.2 said))
order_says db past (Place.AtTrunk page) on after inside is said =
    named_on db (Place.AtTrunk page) past after on _ inside is.2 (trunk_says db page past after inside is.1 (said_on db on _ after inside is.2 said))
order_says db past (Place.AtLeaf page) on after inside is said =
    let more = said_on db on _ after inside is.1 said in
    named_on db (Place.AtLeaf page) past after on _ inside is.1
    (adds_join past (with_met past page) after (page ∷ []) [] (adds_page past page) more.0, more.1)
order_says db past Place.AtEnd on after inside is said =
    let more = said_on db on _ after inside is.1 said in named_on db Place.AtEnd past after on _ inside is.1 (is.0, more.0, more.1)
order_says db past (Place.AtNode spot page) on after inside (node, once, none, shows, leads) said =
    named_on db (Place.AtNode spot page) past after on _ inside leads
    (node_says db spot page node past after inside none shows (said_on db on _ after inside leads said))
order_says db past (Place.AtRowids spot page cells) on after inside is said =
    let more = said_on db on _ after inside is.1 said in named_on db (Place.AtRowids spot page cells) past after on _ inside is.1 (is.0, more.0, more.1)
order_says db past (Place.AtLink page left) on after inside is said =
    named_on db (Place.AtLink page left) past after on _ inside is.2 (link_says db page left past after inside is.1 (said_on db on _ after inside is.2 said))
order_says db past (Place.AtRow cell) on after inside (item, root, is_item, names, leads) said =
    let more = said_on db on _ after inside leads said in
    named_on db (Place.AtRow cell) past after on _ inside leads
    (item, root, is_item, names, more.0, ap (λ (l : List ℕ). with_root root [] ++ l) more.1 ∙ append-nil (with_root root []))

-- So do all of them.
pub visits_say : (db : Database) (past : Past) (places : List Place) (done : Past) (named : List ℕ) → Visits db past places done named → SayAll db places past done named
visits_say db past places done named (Visits.rests _ _ _ _ none is no_name) =
    subst (λ (l : List Place). SayAll db l past done named) (sym none) (subst (λ (p : Past). AddsPages past p []) (sym is) (adds_none past), no_name)
visits_say db past places done named (Visits.visits _ _ _ _ place others on mid inside behind are names order under rest) =
    subst (λ (l : List Place). SayAll db l past done named) (sym are) (
      mid,
      on.named ++ inside,
      behind,
      order_says db past place on mid inside order (visits_say db on.now on.next mid inside under),
      visits_say db mid others done behind rest,
      names ∙ sym (append_assoc on.named inside behind),
    )
