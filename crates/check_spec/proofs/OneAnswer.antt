-- A walk goes one way: what a place leads to is determined, a place in order isn't faulty, and so a whole walk that went through meets no fault, and
-- each whole walk meets the same pages.
use Rattle.std.proofs.Common.{◌≡◌, ℕ, zero, suc, ◌-◌, ◌<◌, ◌≤◌, ◌^◌, List, [], ◌∷◌, ◌++◌, length, Option, None, Some, sym, subst, ap, ap₂, ◌∙◌, inl, inr, arith}
use Rattle.std.specs.Prelude.{ℤ}
use Rattle.std.proofs.lemmas.Bool.{true≢false}
use Rattle.value_form.specs.Record.{IsRecord}
use Rattle.node_spec.specs.Kinds.{is_leaf}
use Rattle.node_spec.specs.Cells.{NodeCell}
use Rattle.node_spec.specs.Nodes.{Node}
use Rattle.tree_spec.specs.Layout.{times, Item}
use Rattle.tree_spec.specs.Shown.{Shown}
use Rattle.tree_spec.specs.Chains.{chain_bytes}
use Rattle.tree_spec.specs.Trees.{IsItem}
use Rattle.tree_spec.proofs.Once.{chain_once}
use Rattle.sound_spec.specs.Schema.{NamesRoot, with_root}
use Rattle.sound_spec.proofs.Once.{names_once}
use Rattle.check_spec.specs.declared.fault.CheckFault.{CheckFault}
use Rattle.check_spec.specs.Forms.{AreInOrder, BreaksOrder}
use Rattle.check_spec.specs.Walk.{Database, Place, Past, Onward, IsInOrder, IsFaulty, IsFaultyPage, Visits, Meets, WalksAll, IsLost, MeetsFirst, leads_to, leaves_then, node_places, no_past, root_places}
use Rattle.check_spec.proofs.Told.{shown_of}

-- a cell's items have the same bytes, and so name the same roots
same_bytes : (usable last : ℕ) (shown : Shown) (cell : NodeCell) (item other : Item) → IsItem usable last shown cell item → IsItem usable last shown cell other → item.bytes ≡ other.bytes
same_bytes usable last shown cell item other p q =
    let size = cell.payload - length cell.local in
    let chain = chain_once usable last shown cell.overflow size item.chain other.chain p.chain q.chain in
    p.bytes ∙ ap (λ (pages : List ℕ). cell.local ++ chain_bytes usable shown pages size) chain ∙ sym q.bytes

names_moves : (last : ℕ) (item other : Item) (root : ℕ) → item.bytes ≡ other.bytes → NamesRoot last item root → NamesRoot last other root
names_moves last item other root same names = record {
  short = subst (λ (bytes : List ℕ). length bytes < 2 ^ 32) same names.short;
  row = names.row;
  record_is = subst (λ (bytes : List ℕ). IsRecord bytes names.row) same names.record_is;
  names = names.names;
}

some_once : (node other : Node) → Some node ≡ Some other → node ≡ other
some_once node other same = cc

-- A place in order leads on in one way.
order_once : (db : Database) (past : Past) (place : Place) (one two : Onward) → IsInOrder db past place one → IsInOrder db past place two → one ≡ two
order_once db past Place.AtHeader one two p q = p.2 ∙ sym q.2
order_once db past (Place.AtTrunk page) one two p q = p.2 ∙ sym q.2
order_once db past (Place.AtLeaf page) one two p q = p.1 ∙ sym q.1
order_once db past Place.AtEnd one two p q = p.1 ∙ sym q.1
order_once db past (Place.AtNode spot page) one two (node, once, none, shows, leads) (other, once_too, none_too, shows_too, leads_too) =
    let same = some_once node other (sym shows ∙ shows_too) in
    leads
    ∙ ap (λ (n : Node). leads_to (record { met = past.met ++ page ∷ []; leaves = leaves_then (is_leaf n.kind) spot.level past }) (node_places (is_leaf n.kind) spot page n)) same
    ∙ sym leads_too
order_once db past (Place.AtRowids spot page cells) one two p q = p.1 ∙ sym q.1
order_once db past (Place.AtLink page left) one two p q = p.2 ∙ sym q.2
order_once db past (Place.AtRow cell) one two (item, root, is_item, names, leads) (other, also, is_other, names_too, leads_too) =
    let bytes = same_bytes db.usable db.last (shown_of db) cell item other is_item is_other in
    let same = names_once db.last other root also (names_moves db.last item other root bytes names) names_too in
    leads ∙ ap (λ (n : ℕ). record { now = past; next = []; named = with_root n [] }) same ∙ sym leads_too

page_not : (db : Database) (past : Past) (page : ℕ) (field : Option ℕ) (why : CheckFault) → times past.met page ≡ 0 → field ≡ None → IsFaultyPage db past page field why → ⊥
page_not db past page field why once none (inl (twice, is)) = omega (arith, once, twice)
page_not db past page field why once none (inr (at, once_too, some, is)) = cc

order_not : (before bound : Option ℤ) (cells : List NodeCell) (k : ℕ) → AreInOrder before bound cells → BreaksOrder before bound cells k → ⊥
order_not before bound [] k order breaks = breaks
order_not before bound (cell ∷ cells) zero order breaks = breaks (order.0, order.1)
order_not before bound (cell ∷ cells) (suc k) order breaks = order_not (Some cell.rowid) bound cells k order.2 breaks.2

-- It isn't faulty.
faulty_not : (db : Database) (past : Past) (place : Place) (on : Onward) (why : CheckFault) → IsInOrder db past place on → IsFaulty db past place why → ⊥
faulty_not db past Place.AtHeader on why is (inl (never, says)) = never is.0
faulty_not db past Place.AtHeader on why is (inr (counts, outside, says)) = true≢false (sym is.1 ∙ outside)
faulty_not db past (Place.AtTrunk page) on why is faulty = page_not db past page _ why is.0 is.1 faulty
faulty_not db past (Place.AtLeaf page) on why is faulty = omega (arith, is.0, faulty.0)
faulty_not db past Place.AtEnd on why is faulty = faulty.0 is.0
faulty_not db past (Place.AtNode spot page) on why is faulty = page_not db past page _ why is.1 is.2 faulty
faulty_not db past (Place.AtRowids spot page cells) on why is (k, breaks, says) = order_not spot.before spot.bound cells k is.0 breaks
faulty_not db past (Place.AtLink page left) on why is faulty = page_not db past page _ why is.0 is.1 faulty
faulty_not db past (Place.AtRow cell) on why (item, root, is_item, names, leads) (other, is_other, never, says) =
    never root (names_moves db.last item other root (same_bytes db.usable db.last (shown_of db) cell item other is_item is_other) names)

-- two ways to take a list apart
heads_same : (places : List Place) (place other : Place) (rest more : List Place) → places ≡ place ∷ rest → places ≡ other ∷ more → (place ≡ other) × (rest ≡ more)
heads_same places place other rest more one two = let same : place ∷ rest ≡ other ∷ more = sym one ∙ two in (cc, cc)

none_some : (places : List Place) (place : Place) (rest : List Place) → places ≡ [] → places ≡ place ∷ rest → ⊥
none_some places place rest none some = let same : [] ≡ place ∷ rest = sym none ∙ some in cc

leads_same : (db : Database) (past : Past) (place other : Place) (one two : Onward) → place ≡ other → IsInOrder db past place one → IsInOrder db past other two → one ≡ two
leads_same db past place other one two same p q = order_once db past other one two (subst (λ (l : Place). IsInOrder db past l one) same p) q

visits_moved : (db : Database) (past later : Past) (places others : List Place) (done : Past) (named : List ℕ) → past ≡ later → places ≡ others
    → Visits db past places done named → Visits db later others done named
visits_moved db past later places others done named one two walk =
    subst (λ (l : List Place). Visits db later l done named) two (subst (λ (p : Past). Visits db p places done named) one walk)

-- So places are visited in one way.
pub visits_once : (db : Database) (past : Past) (places : List Place) (done over : Past) (named other : List ℕ) → Visits db past places done named → Visits db past places over other
    → (done ≡ over) × (named ≡ other)
visits_once db past places done over named other (Visits.rests _ _ _ _ none is no_name) (Visits.rests _ _ _ _ none_too is_too no_name_too) =
    (is ∙ sym is_too, no_name ∙ sym no_name_too)
visits_once db past places done over named other (Visits.rests _ _ _ _ none is no_name) (Visits.visits _ _ _ _ place others on mid inside behind are names order under rest) =
    absurd (none_some places place others none are)
visits_once db past places done over named other (Visits.visits _ _ _ _ place others on mid inside behind are names order under rest) (Visits.rests _ _ _ _ none is no_name) =
    absurd (none_some places place others none are)
visits_once db past places done over named other (Visits.visits _ _ _ _ place others on mid inside behind are names order under rest)
    (Visits.visits _ _ _ _ first more to half within later also called stands below left) =
    let heads = heads_same places first place more others also are in
    let same : to ≡ on = leads_same db past first place to on heads.0 stands order in
    let one = visits_once db on.now on.next mid half inside within under
    (visits_moved db to.now on.now to.next on.next half within (ap (λ (o : Onward). o.now) same) (ap (λ (o : Onward). o.next) same) below) in
    let two = visits_once db mid others done over behind later rest (visits_moved db half mid more others over later (sym one.0) heads.1 left) in
    (two.0, names ∙ joined on.named to.named inside within behind later (ap (λ (o : Onward). o.named) (sym same)) one.1 two.1 ∙ sym called)
  where
    joined : (a b c d e f : List ℕ) → a ≡ b → c ≡ d → e ≡ f → a ++ (c ++ e) ≡ b ++ (d ++ f)
    joined a b c d e f p q r = ap₂ (λ (x : List ℕ) (y : List ℕ). x ++ y) p (ap₂ (λ (x : List ℕ) (y : List ℕ). x ++ y) q r)

-- Places that are visited in order meet no fault.
pub visits_not : (db : Database) (why : CheckFault) (past : Past) (places : List Place) (done : Past) (named : List ℕ) → Meets db why past places → Visits db past places done named → ⊥
visits_not db why past places done named (Meets.meets_here _ _ first more also faulty) (Visits.rests _ _ _ _ none is no_name) = none_some places first more none also
visits_not db why past places done named (Meets.meets_inside _ _ first more to also stands below) (Visits.rests _ _ _ _ none is no_name) = none_some places first more none also
visits_not db why past places done named (Meets.meets_behind _ _ first more to half within also stands below left) (Visits.rests _ _ _ _ none is no_name) =
    none_some places first more none also
visits_not db why past places done named (Meets.meets_here _ _ first more also faulty) (Visits.visits _ _ _ _ place others on mid inside behind are names order under rest) =
    let heads = heads_same places first place more others also are in
    faulty_not db past place on why order (subst (λ (l : Place). IsFaulty db past l why) heads.0 faulty)
visits_not db why past places done named (Meets.meets_inside _ _ first more to also stands below) (Visits.visits _ _ _ _ place others on mid inside behind are names order under rest) =
    let heads = heads_same places first place more others also are in
    let same : on ≡ to = sym (leads_same db past first place to on heads.0 stands order) in
    visits_not db why to.now to.next mid inside below
    (visits_moved db on.now to.now on.next to.next mid inside (ap (λ (o : Onward). o.now) same) (ap (λ (o : Onward). o.next) same) under)
visits_not db why past places done named (Meets.meets_behind _ _ first more to half within also stands below left)
    (Visits.visits _ _ _ _ place others on mid inside behind are names order under rest) =
    let heads = heads_same places first place more others also are in
    let same : on ≡ to = sym (leads_same db past first place to on heads.0 stands order) in
    let one = visits_once db to.now to.next mid half inside within
    (visits_moved db on.now to.now on.next to.next mid inside (ap (λ (o : Onward). o.now) same) (ap (λ (o : Onward). o.next) same) under) below in
    visits_not db why half more done behind left (visits_moved db mid half others more done behind one.0 (sym heads.1) rest)

-- A whole walk that went through meets no fault.
pub walk_meets_none : (db : Database) (roots met : List ℕ) (why : CheckFault) → WalksAll db roots met → MeetsFirst db why → ⊥
walk_meets_none db roots met why walk (inl meets) = visits_not db why no_past (Place.AtHeader ∷ []) walk.first roots meets walk.schema
walk_meets_none db roots met why walk (inr (others, first, schema, meets)) =
    let same = visits_once db no_past (Place.AtHeader ∷ []) walk.first first roots others walk.schema schema in
    visits_not db why first (root_places others) walk.done [] meets
    (visits_moved db walk.first first (root_places roots) (root_places others) walk.done [] same.0 (ap (λ (l : List ℕ). root_places l) same.1) walk.trees)

-- Whole walks meet the same pages: where each page was met, none is lost.
pub walk_once : (db : Database) (roots others met also : List ℕ) → WalksAll db roots met → WalksAll db others also → met ≡ also
walk_once db roots others met also one two =
    let same = visits_once db no_past (Place.AtHeader ∷ []) one.first two.first roots others one.schema two.schema in
    let ends = visits_once db two.first (root_places others) one.done two.done [] []
    (visits_moved db one.first two.first (root_places roots) (root_places others) one.done [] same.0 (ap (λ (l : List ℕ). root_places l) same.1) one.trees) two.trees in
    one.met_is ∙ ap (λ (p : Past). p.met) ends.0 ∙ sym two.met_is

pub walk_loses_none : (db : Database) (roots met : List ℕ) (lost : ℕ) → WalksAll db roots met → ((page : ℕ) → 2 ≤ page → page ≤ db.last → 1 ≤ times met page) → IsLost db lost → ⊥
walk_loses_none db roots met lost walk each is =
    let same = walk_once db roots is.roots met is.met walk is.walk in
    let here = subst (λ (l : List ℕ). 1 ≤ times l lost) same (each lost is.least is.most) in
    omega (arith, here, is.never)
