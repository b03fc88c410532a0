-- A page put into a freelist over pages.
use Rattle.std.proofs.Common.{◌≡◌, ℕ, ◌+◌, ◌*◌, ◌<◌, ◌≤◌, List, [], ◌∷◌, ◌++◌, Ok, Err, Bool, refl, sym, subst, ap, ◌∙◌, arith, inl, inr, length}
use Rattle.std.specs.Prelude.{◌⊎◌, ◌==◌, ◌||◌, Result, IfErr, OnOk}
use Rattle.page_spec.specs.Bytes.{u32_at, DiffersOnlyWithin}
use Rattle.page_spec.specs.View.{View}
use Rattle.engine_spec.specs.declared.commits.FetchFault.{FetchFault}
use Rattle.page_face.specs.declared.pages_tells.PagesTells.{Ghosts}
use Rattle.page_face.specs.Pages.{ReadsAtMost, IsFromOutside, pages_read}
use Rattle.page_face.specs.PageCalls.{HasPut}
use Rattle.page_face.proofs.PageLaws.{editing_join}
use Rattle.tree_spec.specs.Freelist.{trunk_in, IsFreelist}
use Rattle.tree_spec.specs.Trunks.{leaves_put, GetsLeaf, IsNewTrunk}
use Rattle.tree_spec.proofs.TrunkSteps.{gets, with_leaf, with_trunk}
use Rattle.freelist.specs.declared.free.Free.{Free}
use Rattle.freelist.specs.Walking.{ListsTooMany, ThereIsFreelist}
use Rattle.freelist.specs.Changing.{BarsChange, BeginsWell, HasFirst, HasGiven, ExtendsFreelist}
use Rattle.freelist.proofs.Changed.{FollowsOn, puts_after, first_lists, begins_well, changes, others_same, here_put, sound_change}

-- No page was put in.
pub gives_not : {P : Type 0} (pages : Ghosts P) (old new : P) (free free_then : Free) (page : ℕ) (why : FetchFault) → free_then ≡ free → ReadsAtMost pages old new
    → (pages.reads new ≡ pages.reads old) ⊎ ((0 < free.count) × (pages.reads new ≡ pages_read pages old free.trunk))
    → BarsChange pages old free (ListsTooMany (pages.usable old) free.count) new why → HasGiven pages old free page (Err why) new free_then
gives_not pages old new free free_then page why same reading read bars = record {
  given = tt;
  refused = (record { same = same; reading = reading }, bars);
  read = read;
  last = reading.last;
  edits = reading.edits;
}

-- one was put in as a leaf
pub gives_leaf : {P : Type 0} (pages : Ghosts P) (old mid new : P) (free free_then : Free) (page leaves : ℕ) (buf between bytes : List ℕ) → FollowsOn pages
    → ReadsAtMost pages old mid → HasFirst pages old free leaves buf mid → leaves < leaves_put (pages.usable old)
    → u32_at between 4 ≡ leaves + 1 → DiffersOnlyWithin buf between 4 8
    → u32_at bytes (8 + 4 * leaves) ≡ page → DiffersOnlyWithin between bytes (8 + 4 * leaves) ((8 + 4 * leaves) + 4)
    → HasPut pages mid free.trunk bytes (Ok tt) new → free_then.trunk ≡ free.trunk → free_then.count ≡ free.count + 1
    → HasGiven pages old free page (Ok tt) new free_then
gives_leaf pages old mid new free free_then page leaves buf between bytes on reading first few more differs leaf_is behind put trunk_is count_is = record {
  given = record {
    begins = begins_well pages old mid new free leaves buf (λ world told. put.edits.narrows world told) first;
    count = count_is;
    given = inl (record {
      some = omega (arith, first.fewer);
      room = λ world told. omega (arith, few, first_lists pages old mid free leaves buf first world (put.edits.narrows world told));
      trunk = trunk_is;
      change = changes pages old mid new free (λ was now. GetsLeaf was now page) leaves buf bytes reading first put
          (gets buf between bytes leaves page (sym first.leaves_are) more differs leaf_is
          (subst (λ (n : ℕ). DiffersOnlyWithin between bytes (8 + 4 * leaves) n) (let e : (8 + 4 * leaves) + 4 ≡ 12 + 4 * leaves = omega arith in e) behind));
    });
  };
  refused = tt;
  read = inr (omega (arith, first.fewer), put.reads ∙ first.read);
  last = put.last ∙ reading.last;
  edits = editing_join pages old mid new reading.edits put.edits on;
}

-- one was put in as a new first trunk
pub gives_trunk : {P : Type 0} (pages : Ghosts P) (old mid new : P) (free free_then : Free) (page : ℕ) (bytes : List ℕ) → FollowsOn pages → ReadsAtMost pages old mid
    → BeginsWell pages old free new → (free.count ≡ 0) ⊎ ((world : View) → pages.tells new world → leaves_put (pages.usable old) ≤ length (trunk_in (pages.over old world free.trunk)).leaves)
    → (pages.reads mid ≡ pages.reads old) ⊎ ((0 < free.count) × (pages.reads mid ≡ pages_read pages old free.trunk))
    → IsNewTrunk (pages.page_size mid) free.trunk bytes → HasPut pages mid page bytes (Ok tt) new → free_then.trunk ≡ page → free_then.count ≡ free.count + 1
    → HasGiven pages old free page (Ok tt) new free_then
gives_trunk pages old mid new free free_then page bytes on reading begins full read new_trunk put trunk_is count_is = record {
  given = record {
    begins = begins;
    count = count_is;
    given = inr (record {
      room = full;
      trunk = trunk_is;
      bytes = bytes;
      new_trunk = subst (λ (size : ℕ). IsNewTrunk size free.trunk bytes) reading.edits.page_size new_trunk;
      put = λ world told. puts_after pages old mid new page bytes world (reading.each world (put.edits.narrows world told)) (put.put world told);
      has = λ number. put.has number ∙ ap (λ (b : Bool). b || (number == page)) (reading.has number);
    });
  };
  refused = tt;
  read = elim read [ inl before ↦ inl (put.reads ∙ before) | inr first ↦ inr (first.0, put.reads ∙ first.1) ];
  last = put.last ∙ reading.last;
  edits = editing_join pages old mid new reading.edits put.edits on;
}

-- a list without pages begins well where it has no trunk
pub begins_empty : {P : Type 0} (pages : Ghosts P) (old new : P) (free : Free) → free.count ≡ 0 → free.trunk ≡ 0 → BeginsWell pages old free new
begins_empty pages old new free none no_trunk = record { number = inr (none, no_trunk); leaves = λ some. absurd (omega (arith, some, none)) }

-- the first trunk has as many leaves as are put into one
pub is_full : {P : Type 0} (pages : Ghosts P) (old mid new : P) (free : Free) (leaves : ℕ) (buf : List ℕ) → HasFirst pages old free leaves buf mid
    → ((world : View) → pages.tells new world → pages.tells mid world) → leaves_put (pages.usable old) ≤ leaves
    → (world : View) → pages.tells new world → leaves_put (pages.usable old) ≤ length (trunk_in (pages.over old world free.trunk)).leaves
is_full pages old mid new free leaves buf first narrows many = λ world told.
    omega (arith, many, first_lists pages old mid free leaves buf first world (narrows world told))

-- What was put into a freelist makes of it the freelist with that page.
pub extends_list : {P : Type 0} (pages : Ghosts P) (old : P) (free : Free) (page : ℕ) (result : Result Unit FetchFault) (new : P) (free_then : Free) → 2 ≤ page
    → HasGiven pages old free page result new free_then → OnOk result (ExtendsFreelist pages old free page new free_then)
extends_list pages old free page (Err why) new free_then low has = tt
extends_list pages old free page (Ok done) new free_then low has = λ world told bound list high apart is.
    let view = pages.over old world in
    let view_then = pages.over new world in
    let counted : (n : ℕ) (l : List ℕ) → IsFreelist (pages.usable old) bound view_then n (free.count + 1) l → free_then.trunk ≡ n
    → IsFreelist (pages.usable old) bound view_then free_then.trunk free_then.count l =
    λ n l made trunk. subst (λ (m : ℕ). IsFreelist (pages.usable old) bound view_then free_then.trunk m l) (sym has.given.count)
    (subst (λ (m : ℕ). IsFreelist (pages.usable old) bound view_then m (free.count + 1) l) (sym trunk) made) in
    elim has.given.given [
      | inl leaf ↦
          (let put = leaf.change.put world told in
          let gets : GetsLeaf (view free.trunk) (view_then free.trunk) page =
          subst (λ (bytes : List ℕ). GetsLeaf (view free.trunk) bytes page) (sym (here_put view view_then free.trunk leaf.change.bytes put.each)) (leaf.change.changes world told) in
          let found = with_leaf (pages.usable old) bound view view_then free.trunk free.count page list leaf.some low high (leaf.room world told)
          (others_same view view_then free.trunk leaf.change.bytes put.each) gets is in
          (found.0, found.1, found.2, counted free.trunk (found.0 ++ page ∷ found.1) found.3 leaf.trunk))
      | inr trunk ↦
          (let put = trunk.put world told in
          let new_trunk : IsNewTrunk (pages.page_size old) free.trunk (view_then page) =
          subst (λ (bytes : List ℕ). IsNewTrunk (pages.page_size old) free.trunk bytes) (sym (here_put view view_then page trunk.bytes put.each)) trunk.new_trunk in (
            [],
            list,
            refl,
            counted page (page ∷ list) (with_trunk (pages.usable old) bound view view_then (pages.page_size old) free.trunk free.count page list low high apart
                (others_same view view_then page trunk.bytes put.each) new_trunk is) trunk.trunk,
          ))
    ]

pub sound_give : {P : Type 0} (pages : Ghosts P) (old : P) (free : Free) (page : ℕ) (result : Result Unit FetchFault) (new : P) (free_then : Free)
    → HasGiven pages old free page result new free_then
    → IfErr result (λ why. ThereIsFreelist pages old free.trunk free.count new → IsFromOutside (pages.faults old) (pages.faults new) why)
sound_give pages old free page (Ok done) new free_then has = tt
sound_give pages old free page (Err why) new free_then has = λ there.
    sound_change pages old free (ListsTooMany (pages.usable old) free.count) new why (λ trunk many. inl many) has.refused.1 there
