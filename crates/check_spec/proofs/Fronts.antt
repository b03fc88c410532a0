-- What page 1's header says with all that it leads to: the freelist, and page 1's tree.
use Rattle.std.proofs.Common.{◌≡◌, ℕ, Bool, true, List, [], ◌∷◌, ◌++◌, length, refl, sym, subst, ap, ap₂, ◌∙◌, inl, arith}
use Rattle.std.proofs.lemmas.List.{append-nil}
use Rattle.page_spec.specs.Header.{fields_of}
use Rattle.tree_spec.specs.Freelist.{held_by}
use Rattle.tree_spec.specs.Trees.{Content}
use Rattle.sound_spec.specs.Schema.{NameRoots}
use Rattle.sound_spec.specs.Sound.{CountsPages}
use Rattle.check_spec.specs.Forms.{is_inside_or_none}
use Rattle.check_spec.specs.Walk.{Database, Place, Past, trunk_places, schema_spot}
use Rattle.check_spec.proofs.CellsFit.{inside_or_none_is}
use Rattle.check_spec.proofs.Told.{shown_of, NameIn, HasFirstPart, SayAll, say_split}
use Rattle.check_spec.proofs.FreePages.{trunks_say}

pub header_says : (db : Database) (past after : Past) (named : List ℕ) → CountsPages db.page_size db.last (db.view 1)
    → is_inside_or_none db.last (fields_of (db.view 1)).first_trunk ≡ true
    → SayAll db (trunk_places (fields_of (db.view 1)).first_trunk ++ (Place.AtEnd ∷ Place.AtNode schema_spot 1 ∷ [])) past after named
    → past.met ≡ [] → HasFirstPart db after named
header_says db past after named counts inside said nothing =
    let trunk = (fields_of (db.view 1)).first_trunk in
    let both = say_split db (trunk_places trunk) (Place.AtEnd ∷ Place.AtNode schema_spot 1 ∷ []) past after named said in
    let trunks = trunks_say db trunk past both.mid both.first (inside_or_none_is db.last trunk inside) both.front in
    let (end, first, behind, here, later, is) = both.back in
    let (mid, one, none, tree, over, split) = later in
    let free = held_by db.view trunks.0.trunks in
    let free_met : both.mid.met ≡ free = trunks.0.adds.met_is ∙ ap (λ (l : List ℕ). l ++ free) nothing in
    let own = 1 ∷ tree.below in
    let tree_met : mid.met ≡ free ++ own =
    tree.met_is ∙ ap (λ (l : List ℕ). l ++ own) (here.1.met_is ∙ append-nil both.mid.met ∙ free_met) in
    let same : named ≡ one =
    both.named_is ∙ ap₂ (λ (a : List ℕ) (b : List ℕ). a ++ b) trunks.1
    (is ∙ ap₂ (λ (a : List ℕ) (b : List ℕ). a ++ b) here.2 (split ∙ ap (λ (l : List ℕ). one ++ l) over.1 ∙ append-nil one)) in
    record {
      counts = counts;
      free = free;
      freelist = record {
        trunks = trunks.0.trunks;
        follow = trunks.0.follow;
        held = refl;
        counted = sym here.0 ∙ ap (λ (l : List ℕ). length l) free_met;
      };
      height = tree.height;
      low = omega (arith, tree.low, tree.depth_is);
      own = own;
      rows = tree.items;
      tree = record {
        node = tree.node;
        holds = tree.shows;
        enough = inl refl;
        below = tree.below;
        content = subst (λ (t : Bool). Content t db.usable db.last (shown_of db) tree.height tree.node tree.below tree.items) tree.asked tree.content;
        own_is = refl;
      };
      met_is = over.0.met_is ∙ append-nil mid.met ∙ tree_met;
      names = subst (λ (l : List ℕ). NameRoots db.last tree.items l) (sym same)
          (subst (λ (t : Bool). NameIn true t db.last tree.items one) tree.asked tree.names);
    }
