-- What a walk says of the places that it went through: of each place what stands behind it and which pages were met there. The definitions, and that
-- places in a row are told one after another.
use Rattle.std.proofs.Common.{◌≡◌, ℕ, ◌+◌, ◌<◌, ◌≤◌, ◌==◌, Bool, true, false, List, [], ◌∷◌, ◌++◌, length, Option, None, Some, refl, sym, subst, ap, ap₂, ◌∙◌, append_assoc}
use Rattle.std.specs.Prelude.{ℤ, ◌⊎◌}
use Rattle.std.proofs.lemmas.List.{append-nil}
use Rattle.page_spec.specs.Header.{fields_of}
use Rattle.node_spec.specs.Kinds.{is_leaf}
use Rattle.node_spec.specs.Nodes.{Node, node_of}
use Rattle.tree_spec.specs.Layout.{Each, Item}
use Rattle.tree_spec.specs.Shown.{Shown, shown_by}
use Rattle.tree_spec.specs.Chains.{IsChain}
use Rattle.tree_spec.specs.Freelist.{AreTrunks, held_by, IsFreelist}
use Rattle.tree_spec.specs.Trees.{IsItem, Content, IsTree}
use Rattle.sound_spec.specs.Schema.{NamesRoot, with_root, NameRoots}
use Rattle.sound_spec.specs.Sound.{most_levels, CountsPages}
use Rattle.check_spec.specs.declared.spot.Spot.{Spot}
use Rattle.check_spec.specs.Forms.{IsAbove, IsAtMost, AreInOrder}
use Rattle.check_spec.specs.Walk.{Database, Place, Past, leaves_at}
use Rattle.check_spec.proofs.CellsFit.{IsNumberOf}

-- what the pages of a database show
abbrev pub shown_of : Database → Shown
shown_of db = shown_by db.usable db.view

-- pages were met behind others, and no leaf of a tree
pub record AddsPages (before after : Past) (pages : List ℕ) : Type 0 where
  pub met_is : after.met ≡ before.met ++ pages
  pub leaves_are : after.leaves ≡ before.leaves

pub adds_none : (past : Past) → AddsPages past past []
adds_none past = record { met_is = sym (append-nil past.met); leaves_are = refl }

pub adds_join : (first second third : Past) (one two : List ℕ) → AddsPages first second one → AddsPages second third two → AddsPages first third (one ++ two)
adds_join first second third one two a b = record {
  met_is = b.met_is ∙ ap (λ (l : List ℕ). l ++ two) a.met_is ∙ append_assoc first.met one two;
  leaves_are = b.leaves_are ∙ a.leaves_are;
}

-- and none behind them
pub adds_end : (first second third : Past) (pages : List ℕ) → AddsPages first second pages → AddsPages second third [] → AddsPages first third pages
adds_end first second third pages a b =
    subst (λ (l : List ℕ). AddsPages first third l) (append-nil pages) (adds_join first second third pages [] a b)

-- nothing is named where nothing is in two parts
pub none_both : (named first behind : List ℕ) → named ≡ first ++ behind → first ≡ [] → behind ≡ [] → named ≡ []
none_both named first behind is one two = is ∙ ap₂ (λ (a : List ℕ) (b : List ℕ). a ++ b) one two

-- The trunks from this number on, 0 for none, were met with their leaves.
pub record HasTrunks (db : Database) (first : ℕ) (before after : Past) : Type 0 where
  pub trunks : List ℕ
  pub follow : AreTrunks db.usable db.last db.view first trunks 0
  pub adds : AddsPages before after (held_by db.view trunks)

-- The pages of a chain of so many bytes were met.
pub record HasLinks (db : Database) (first size : ℕ) (before after : Past) : Type 0 where
  pub pages : List ℕ
  pub chain : IsChain db.usable db.last (shown_of db) first size pages
  pub adds : AddsPages before after pages

-- a kind of tree is the one that is asked for, if one is
abbrev pub IsKind : Option Bool → (table : Bool) → Type 0
IsKind None table = Unit {0}
IsKind (Some asked) table = table ≡ asked

-- what is said of a table's tree alone
abbrev pub OfTable : (table : Bool) → Type 0 → Type 0
OfTable true P = P
OfTable false P = Unit {0}

-- all leaves stand as deep as the first one, if one was met
abbrev pub FitsDepth : Option ℕ → (depth : ℕ) → Type 0
FitsDepth None depth = Unit {0}
FitsDepth (Some first) depth = first ≡ depth

-- a page of a tree has a cell, but for page 1 and a root that is a leaf
abbrev pub HasEnough : (level page : ℕ) → Node → Type 0
HasEnough level page node = (page ≡ 1) ⊎ (((level ≡ 0) × (is_leaf node.kind ≡ true)) ⊎ (1 ≤ length node.cells))

-- an item's key is above a rowid, if there is one, and at most a bound, if there is one
abbrev pub KeyFits : (before bound : Option ℤ) → Item → Type 0
KeyFits before bound item = IsAbove before item.key × IsAtMost bound item.key

-- the items of page 1's tree name these roots, and others none
abbrev pub NameIn : (schema table : Bool) (last : ℕ) → List Item → (named : List ℕ) → Type 0
NameIn false table last items named = named ≡ []
NameIn true true last items named = NameRoots last items named
NameIn true false last items named = Unit {0}

-- Under a page of a tree, which stands at this place: a node with its height, its pages and its items, which were met.
pub record HasSubtree (db : Database) (spot : Spot) (page : ℕ) (before after : Past) (named : List ℕ) : Type 0 where
  pub table : Bool
  pub asked : IsKind spot.table table
  pub height : ℕ
  pub node : Node
  pub below : List ℕ
  pub items : List Item
  pub shows : node_of db.usable (page == 1) (db.view page) ≡ Some node
  pub enough : HasEnough spot.level page node
  pub content : Content table db.usable db.last (shown_of db) height node below items
  pub met_is : after.met ≡ before.met ++ page ∷ below
  pub depth : ℕ
  pub depth_is : depth ≡ spot.level + height
  pub low : depth ≤ most_levels
  pub leaves_are : after.leaves ≡ Some depth
  pub deep : FitsDepth (leaves_at spot.level before) depth
  pub within : OfTable table (Each (KeyFits spot.before spot.bound) items)
  pub names : NameIn spot.schema table db.last items named

-- What page 1's part of the walk says: its header, the freelist, and its tree with the roots that its rows name.
pub record HasFirstPart (db : Database) (after : Past) (named : List ℕ) : Type 0 where
  pub counts : CountsPages db.page_size db.last (db.view 1)
  pub free : List ℕ
  pub freelist : IsFreelist db.usable db.last db.view (fields_of (db.view 1)).first_trunk (fields_of (db.view 1)).free_pages free
  pub height : ℕ
  pub low : height ≤ most_levels
  pub own : List ℕ
  pub rows : List Item
  pub tree : IsTree true db.usable db.last (shown_of db) height 1 own rows
  pub met_is : after.met ≡ free ++ own
  pub names : NameRoots db.last rows named

-- What a place says with all that it leads to: which pages were met between two pasts, and what they are.
abbrev pub PlaceSays : Database → Place → (before after : Past) → (named : List ℕ) → Type 0
PlaceSays db Place.AtHeader before after named = before.met ≡ [] → HasFirstPart db after named
PlaceSays db (Place.AtTrunk page) before after named = IsNumberOf db.last page → HasTrunks db page before after × (named ≡ [])
PlaceSays db (Place.AtLeaf page) before after named = AddsPages before after (page ∷ []) × (named ≡ [])
PlaceSays db Place.AtEnd before after named = (length before.met ≡ (fields_of (db.view 1)).free_pages) × AddsPages before after [] × (named ≡ [])
PlaceSays db (Place.AtNode spot page) before after named = HasSubtree db spot page before after named
PlaceSays db (Place.AtRowids spot page cells) before after named = AreInOrder spot.before spot.bound cells × AddsPages before after [] × (named ≡ [])
PlaceSays db (Place.AtLink page left) before after named = IsNumberOf db.last page → 0 < left → HasLinks db page left before after × (named ≡ [])
PlaceSays db (Place.AtRow cell) before after named =
    (item : Item) × (root : ℕ) × IsItem db.usable db.last (shown_of db) cell item × NamesRoot db.last item root × AddsPages before after [] × (named ≡ with_root root [])

-- places say one after another what they say
abbrev pub SayAll : Database → List Place → (before after : Past) → (named : List ℕ) → Type 0
SayAll db [] before after named = AddsPages before after [] × (named ≡ [])
SayAll db (place ∷ places) before after named =
    (mid : Past) × (first behind : List ℕ) × PlaceSays db place before mid first × SayAll db places mid after behind × (named ≡ first ++ behind)

-- Places in two parts, one behind the other.
pub record SayBoth (db : Database) (one two : List Place) (before after : Past) (named : List ℕ) : Type 0 where
  pub mid : Past
  pub first : List ℕ
  pub behind : List ℕ
  pub front : SayAll db one before mid first
  pub back : SayAll db two mid after behind
  pub named_is : named ≡ first ++ behind

pub say_split : (db : Database) (one two : List Place) (before after : Past) (named : List ℕ) → SayAll db (one ++ two) before after named → SayBoth db one two before after named
say_split db [] two before after named said =
    record { mid = before; first = []; behind = named; front = (adds_none before, refl); back = said; named_is = refl }
say_split db (place ∷ one) two before after named (mid, first, behind, here, more, is) =
    let rest = say_split db one two mid after behind more in
    record {
      mid = rest.mid;
      first = first ++ rest.first;
      behind = rest.behind;
      front = (mid, first, rest.first, here, rest.front, refl);
      back = rest.back;
      named_is = is ∙ ap (λ (l : List ℕ). first ++ l) rest.named_is ∙ sym (append_assoc first rest.first rest.behind);
    }
