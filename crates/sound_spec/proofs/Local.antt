-- Locality: trees are what their own pages show. Another view that shows the same there has the same trees, whatever else it shows.
use Rattle.std.proofs.Common.{ℕ, ◌≤◌, true, List, [], ◌∷◌, arith}
use Rattle.tree_spec.specs.Layout.{times, Item}
use Rattle.tree_spec.specs.Shown.{Shown, IsAlike}
use Rattle.tree_spec.proofs.Lists.{among_first, among_last}
use Rattle.tree_spec.proofs.Local.{tree_local}
use Rattle.sound_spec.specs.Sound.{AreRooted, HasTrees, IsSoundTrees}

-- the two views show the same at each page that stands among these
abbrev pub AreAlike : (shown shown_then : Shown) → List ℕ → Type 0
AreAlike shown shown_then pages = (n : ℕ) → 1 ≤ times pages n → IsAlike shown shown_then n

pub rooted_local : (usable last last_then : ℕ) (shown shown_then : Shown) (roots own : List ℕ) → last ≤ last_then → AreAlike shown shown_then own
    → AreRooted usable last shown roots own → AreRooted usable last_then shown_then roots own
rooted_local usable last last_then shown shown_then [] own more same is = is
rooted_local usable last last_then shown shown_then (root ∷ roots) own more same (first, others, own_is, one, rest) = (
  first,
  others,
  own_is,
  record {
    least = one.least;
    most = omega (arith, one.most, more);
    table = one.table;
    height = one.height;
    low = one.low;
    items = one.items;
    tree = tree_local one.table usable last last_then shown shown_then one.height root first one.items more
        (λ n there. same n (among_first first others own own_is n there)) one.tree;
  },
  rooted_local usable last last_then shown shown_then roots others more (λ n there. same n (among_last first others own own_is n there)) rest,
)

pub trees_local : (usable last last_then : ℕ) (shown shown_then : Shown) (roots used : List ℕ) (rows : List Item) → last ≤ last_then → AreAlike shown shown_then used
    → HasTrees usable last shown roots used rows → HasTrees usable last_then shown_then roots used rows
trees_local usable last last_then shown shown_then roots used rows more same is = record {
  height = is.height;
  low = is.low;
  first = is.first;
  others = is.others;
  schema = tree_local true usable last last_then shown shown_then is.height 1 is.first rows more
      (λ n there. same n (among_first is.first is.others used is.used_is n there)) is.schema;
  rooted = rooted_local usable last last_then shown shown_then roots is.others more (λ n there. same n (among_last is.first is.others used is.used_is n there)) is.rooted;
  used_is = is.used_is;
}

-- So what calls on trees speak of stays where the pages in use do.
pub sound_local : (usable last last_then : ℕ) (shown shown_then : Shown) (roots used : List ℕ) (rows : List Item) → last ≤ last_then → AreAlike shown shown_then used
    → IsSoundTrees usable last shown roots used rows → IsSoundTrees usable last_then shown_then roots used rows
sound_local usable last last_then shown shown_then roots used rows more same is =
    record { trees = trees_local usable last last_then shown shown_then roots used rows more same is.trees; once = is.once }
