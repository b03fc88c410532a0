-- Trees other than page 1's name no root; and each tree that is visited has a page that wasn't met before.
use Rattle.std.proofs.Common.{◌≡◌, ℕ, zero, suc, ◌+◌, ◌-◌, ◌≤◌, Bool, true, false, List, [], ◌∷◌, ◌++◌, map, length, Option, Some, refl, sym, subst, ap, ◌∙◌, arith}
use Rattle.std.proofs.lemmas.List.{length-append}
use Rattle.std.specs.Prelude.{ℤ}
use Rattle.page_spec.specs.Bytes.{u32_at}
use Rattle.page_spec.specs.Header.{fields_of}
use Rattle.node_spec.specs.Kinds.{is_leaf, is_table}
use Rattle.node_spec.specs.Cells.{NodeCell}
use Rattle.node_spec.specs.Nodes.{Node}
use Rattle.tree_spec.specs.Layout.{Each}
use Rattle.tree_spec.specs.Freelist.{trunk_in}
use Rattle.check_spec.specs.declared.spot.Spot.{Spot}
use Rattle.check_spec.specs.Walk.{Database, Place, Past, Onward, IsInOrder, Visits, trunk_places, link_places, payload_places, leaf_places, inner_places, rowid_places, node_places, root_places, schema_spot}
use Rattle.check_spec.proofs.Visited.{visits_meet}

-- a place from which no root is named
abbrev pub IsPlain : Place → Type 0
IsPlain Place.AtHeader = ⊥
IsPlain (Place.AtTrunk page) = Unit {0}
IsPlain (Place.AtLeaf page) = Unit {0}
IsPlain Place.AtEnd = Unit {0}
IsPlain (Place.AtNode spot page) = spot.schema ≡ false
IsPlain (Place.AtRowids spot page cells) = Unit {0}
IsPlain (Place.AtLink page left) = Unit {0}
IsPlain (Place.AtRow cell) = ⊥

abbrev pub ArePlain : List Place → Type 0
ArePlain places = Each IsPlain places

plain_join : (xs ys : List Place) → ArePlain xs → ArePlain ys → ArePlain (xs ++ ys)
plain_join [] ys one two = two
plain_join (place ∷ places) ys one two = (one.0, plain_join places ys one.1 two)

trunk_plain : (page : ℕ) → ArePlain (trunk_places page)
trunk_plain zero = tt
trunk_plain (suc n) = (tt, tt)

link_plain : (page left : ℕ) → ArePlain (link_places page left)
link_plain page zero = tt
link_plain page (suc n) = (tt, tt)

list_plain : (leaves : List ℕ) → ArePlain (map Place.AtLeaf leaves)
list_plain [] = tt
list_plain (leaf ∷ leaves) = (tt, list_plain leaves)

leaf_plain : (cells : List NodeCell) → ArePlain (leaf_places false cells)
leaf_plain [] = tt
leaf_plain (cell ∷ cells) =
    plain_join (payload_places false cell) (leaf_places false cells) (link_plain cell.overflow (cell.payload - length cell.local)) (leaf_plain cells)

rowid_plain : (table : Bool) (spot : Spot) (page : ℕ) (cells : List NodeCell) → ArePlain (rowid_places table spot page cells)
rowid_plain true spot page cells = (tt, tt)
rowid_plain false spot page cells = tt

inner_plain : (spot : Spot) (table : Bool) (before : Option ℤ) (cells : List NodeCell) (right : ℕ) → spot.schema ≡ false → ArePlain (inner_places spot table before cells right)
inner_plain spot table before [] right plain = (plain, tt)
inner_plain spot true before (cell ∷ cells) right plain = (plain, inner_plain spot true (Some cell.rowid) cells right plain)
inner_plain spot false before (cell ∷ cells) right plain = (
  plain,
  plain_join (payload_places false cell) (inner_places spot false before cells right) (link_plain cell.overflow (cell.payload - length cell.local))
      (inner_plain spot false before cells right plain),
)

node_plain : (leaf : Bool) (spot : Spot) (page : ℕ) (node : Node) → spot.schema ≡ false → ArePlain (node_places leaf spot page node)
node_plain true spot page node plain =
    plain_join (leaf_places spot.schema node.cells) (rowid_places (is_table node.kind) spot page node.cells)
    (subst (λ (b : Bool). ArePlain (leaf_places b node.cells)) (sym plain) (leaf_plain node.cells))
    (rowid_plain (is_table node.kind) spot page node.cells)
node_plain false spot page node plain =
    plain_join (rowid_places (is_table node.kind) spot page node.cells) (inner_places spot (is_table node.kind) spot.before node.cells node.right)
    (rowid_plain (is_table node.kind) spot page node.cells)
    (inner_plain spot (is_table node.kind) spot.before node.cells node.right plain)

-- such a place leads to such places, and names no root itself
abbrev pub LeadsPlain : Onward → Type 0
LeadsPlain on = (on.named ≡ []) × ArePlain on.next

order_plain : (db : Database) (past : Past) (place : Place) (on : Onward) → IsInOrder db past place on → IsPlain place → LeadsPlain on
order_plain db past Place.AtHeader on is plain = absurd plain
order_plain db past (Place.AtTrunk page) on is plain =
    subst (λ (o : Onward). LeadsPlain o) (sym is.2) (
      refl,
      plain_join (map Place.AtLeaf (trunk_in (db.view page)).leaves) (trunk_places (trunk_in (db.view page)).next)
          (list_plain (trunk_in (db.view page)).leaves) (trunk_plain (trunk_in (db.view page)).next),
    )
order_plain db past (Place.AtLeaf page) on is plain = subst (λ (o : Onward). LeadsPlain o) (sym is.1) (refl, tt)
order_plain db past Place.AtEnd on is plain = subst (λ (o : Onward). LeadsPlain o) (sym is.1) (refl, tt)
order_plain db past (Place.AtNode spot page) on (node, once, none, shows, leads) plain =
    subst (λ (o : Onward). LeadsPlain o) (sym leads) (refl, node_plain (is_leaf node.kind) spot page node plain)
order_plain db past (Place.AtRowids spot page cells) on is plain = subst (λ (o : Onward). LeadsPlain o) (sym is.1) (refl, tt)
order_plain db past (Place.AtLink page left) on is plain =
    subst (λ (o : Onward). LeadsPlain o) (sym is.2) (refl, link_plain (u32_at (db.view page) 0) (left - (db.usable - 4)))
order_plain db past (Place.AtRow cell) on is plain = absurd plain

pub names_none : (db : Database) (past : Past) (places : List Place) (done : Past) (named : List ℕ) → Visits db past places done named → ArePlain places → named ≡ []
names_none db past places done named (Visits.rests _ _ _ _ none is no_name) plain = no_name
names_none db past places done named (Visits.visits _ _ _ _ place others on mid inside behind are names order under rest) plain =
    let all = subst (λ (l : List Place). ArePlain l) are plain in
    let one = order_plain db past place on order all.0 in
    names ∙ ap (λ (l : List ℕ). l ++ (inside ++ behind)) one.0 ∙ ap (λ (l : List ℕ). l ++ behind) (names_none db on.now on.next mid inside under one.1)
    ∙ names_none db mid others done behind rest all.1

pub roots_plain : (roots : List ℕ) → ArePlain (root_places roots)
roots_plain [] = tt
roots_plain (root ∷ roots) = (refl, roots_plain roots)

-- how many of these places meet a page of a tree, page 1's header with its tree among them
abbrev pub trees_at : List Place → ℕ
trees_at [] = 0
trees_at (Place.AtHeader ∷ places) = 1 + trees_at places
trees_at (Place.AtTrunk page ∷ places) = trees_at places
trees_at (Place.AtLeaf page ∷ places) = trees_at places
trees_at (Place.AtEnd ∷ places) = trees_at places
trees_at (Place.AtNode spot page ∷ places) = 1 + trees_at places
trees_at (Place.AtRowids spot page cells ∷ places) = trees_at places
trees_at (Place.AtLink page left ∷ places) = trees_at places
trees_at (Place.AtRow cell ∷ places) = trees_at places

met_more : (db : Database) (past : Past) (places : List Place) (done : Past) (named : List ℕ) → Visits db past places done named → length past.met ≤ length done.met
met_more db past places done named walk =
    let more = visits_meet db past places done named walk in
    let sum : length done.met ≡ length past.met + length more.more = ap (λ (l : List ℕ). length l) more.now_is ∙ length-append past.met more.more in omega (arith, sum)

grown : (db : Database) (past mid : Past) (on : Onward) (inside : List ℕ) → length past.met ≤ length on.now.met → Visits db on.now on.next mid inside
    → length past.met + 0 ≤ length mid.met
grown db past mid on inside least under = omega (arith, least, met_more db on.now on.next mid inside under)

same_met : (before now : List ℕ) → now ≡ before → length before ≤ length now
same_met before now same = let is : length now ≡ length before = ap (λ (l : List ℕ). length l) same in omega (arith, is)

one_met : (before now : List ℕ) (page : ℕ) → now ≡ before ++ page ∷ [] → length now ≡ length before + 1
one_met before now page same = ap (λ (l : List ℕ). length l) same ∙ length-append before (page ∷ [])

more_met : (before now : List ℕ) (page : ℕ) → now ≡ before ++ page ∷ [] → length before ≤ length now
more_met before now page same = omega (arith, one_met before now page same)

tree_behind : (trunk : ℕ) → trees_at (trunk_places trunk ++ (Place.AtEnd ∷ Place.AtNode schema_spot 1 ∷ [])) ≡ 1
tree_behind zero = refl
tree_behind (suc n) = refl

-- what a place in order adds, with all that it leads to
place_adds : (db : Database) (past mid : Past) (place : Place) (on : Onward) (inside : List ℕ) → IsInOrder db past place on → Visits db on.now on.next mid inside
    → length on.now.met + trees_at on.next ≤ length mid.met → length past.met + trees_at (place ∷ []) ≤ length mid.met
place_adds db past mid Place.AtHeader on inside order under below =
    let now : length on.now.met ≡ length past.met = ap (λ (o : Onward). length o.now.met) order.2 in
    let trees : trees_at on.next ≡ 1 = ap (λ (o : Onward). trees_at o.next) order.2 ∙ tree_behind (fields_of (db.view 1)).first_trunk in
    omega (arith, below, now, trees)
place_adds db past mid (Place.AtTrunk page) on inside order under below =
    grown db past mid on inside (more_met past.met on.now.met page (ap (λ (o : Onward). o.now.met) order.2)) under
place_adds db past mid (Place.AtLeaf page) on inside order under below =
    grown db past mid on inside (more_met past.met on.now.met page (ap (λ (o : Onward). o.now.met) order.1)) under
place_adds db past mid Place.AtEnd on inside order under below =
    grown db past mid on inside (same_met past.met on.now.met (ap (λ (o : Onward). o.now.met) order.1)) under
place_adds db past mid (Place.AtNode spot page) on inside order under below =
    let one = one_met past.met on.now.met page (ap (λ (o : Onward). o.now.met) order.4) in
    omega (arith, one, met_more db on.now on.next mid inside under)
place_adds db past mid (Place.AtRowids spot page cells) on inside order under below =
    grown db past mid on inside (same_met past.met on.now.met (ap (λ (o : Onward). o.now.met) order.1)) under
place_adds db past mid (Place.AtLink page left) on inside order under below =
    grown db past mid on inside (more_met past.met on.now.met page (ap (λ (o : Onward). o.now.met) order.2)) under
place_adds db past mid (Place.AtRow cell) on inside order under below =
    grown db past mid on inside (same_met past.met on.now.met (ap (λ (o : Onward). o.now.met) order.4)) under

none_first : (n : ℕ) → n ≡ 0 + n
none_first n = omega arith

one_more_tree : (place : Place) (places : List Place) → trees_at (place ∷ places) ≡ trees_at (place ∷ []) + trees_at places
one_more_tree Place.AtHeader places = refl
one_more_tree (Place.AtTrunk page) places = none_first (trees_at places)
one_more_tree (Place.AtLeaf page) places = none_first (trees_at places)
one_more_tree Place.AtEnd places = none_first (trees_at places)
one_more_tree (Place.AtNode spot page) places = refl
one_more_tree (Place.AtRowids spot page cells) places = none_first (trees_at places)
one_more_tree (Place.AtLink page left) places = none_first (trees_at places)
one_more_tree (Place.AtRow cell) places = none_first (trees_at places)

-- each of them has a page of its own
pub trees_met : (db : Database) (past : Past) (places : List Place) (done : Past) (named : List ℕ) → Visits db past places done named
    → length past.met + trees_at places ≤ length done.met
trees_met db past places done named (Visits.rests _ _ _ _ none is no_name) =
    let trees : trees_at places ≡ 0 = ap (λ (l : List Place). trees_at l) none in
    let same : length done.met ≡ length past.met = ap (λ (p : Past). length p.met) is in omega (arith, trees, same)
trees_met db past places done named (Visits.visits _ _ _ _ place others on mid inside behind are names order under rest) =
    let first = place_adds db past mid place on inside order under (trees_met db on.now on.next mid inside under) in
    let then_met = trees_met db mid others done behind rest in
    let split : trees_at places ≡ trees_at (place ∷ []) + trees_at others = ap (λ (l : List Place). trees_at l) are ∙ one_more_tree place others in
    omega (arith, first, then_met, split)

pub trees_of_roots : (roots : List ℕ) → trees_at (root_places roots) ≡ length roots
trees_of_roots [] = refl
trees_of_roots (root ∷ roots) = omega (arith, trees_of_roots roots)
