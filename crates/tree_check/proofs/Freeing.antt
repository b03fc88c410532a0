-- A trunk of the freelist and its leaves.
use Rattle.std.proofs.Common.{◌≡◌, ℕ, zero, suc, ◌+◌, ◌-◌, ◌*◌, ◌/◌, ◌<◌, ◌≤◌, List, [], ◌∷◌, map, length, None, refl, sym, subst, ap, ◌∙◌, arith, append-nil}
use Rattle.page_spec.specs.Bytes.{u32_at}
use Rattle.tree_spec.specs.Freelist.{numbers_at}
use Rattle.tree_spec.proofs.Freelists.{length-numbers_at, number_at, each_there}
use Rattle.check_spec.specs.declared.fault.CheckFault.{CheckFault}
use Rattle.check_spec.specs.declared.fault.CheckFault.TheVariants as fault
use Rattle.check_spec.specs.Forms.{trunk_fault}
use Rattle.check_spec.specs.Walk.{Database, Place, Past, Meets, leads_to, with_met}
use Rattle.check_spec.proofs.FreePages.{trunk_is}
use Rattle.tree_check.specs.declared.walk.Walk.{Walk}
use Rattle.tree_check.specs.Met.{met_up_to}
use Rattle.tree_check.specs.Walking.{HasMet, HasMetBefore, KeepsPast, Reaches, ComesTo}
use Rattle.tree_check.specs.Freed.{leaves_of, HasLeaves, BarsLeaves}
use Rattle.tree_check.proofs.Reaching.{reaches_itself, reaches_inside, comes_on}
use Rattle.tree_check.proofs.Linking.{roots_met}

-- so many numbers, the first of them apart
pub numbers_first : (bytes : List ℕ) (at count : ℕ) → 0 < count → numbers_at bytes at count ≡ u32_at bytes at ∷ numbers_at bytes (at + 4) (count - 1)
numbers_first bytes at zero some = absurd (omega (arith, some))
numbers_first bytes at (suc n) some = ap (λ (k : ℕ). u32_at bytes at ∷ numbers_at bytes (at + 4) k) (let e : n ≡ suc n - 1 = omega arith in e)

pub numbers_none : (bytes : List ℕ) (at count : ℕ) → count ≡ 0 → numbers_at bytes at count ≡ []
numbers_none bytes at zero none = refl
numbers_none bytes at (suc n) none = absurd (omega (arith, none))

-- the leaves behind the first so many
abbrev pub leaves_from : (trunk : List ℕ) (done : ℕ) → List Place
leaves_from trunk done = map Place.AtLeaf (numbers_at trunk (8 + 4 * done) (u32_at trunk 4 - done))

leaves_next : (trunk : List ℕ) (done : ℕ) → done < u32_at trunk 4 → leaves_from trunk done ≡ Place.AtLeaf (u32_at trunk (8 + 4 * done)) ∷ leaves_from trunk (done + 1)
leaves_next trunk done less =
    ap (λ (l : List ℕ). map Place.AtLeaf l) (numbers_first trunk (8 + 4 * done) (u32_at trunk 4 - done) (omega (arith, less)))
    ∙ ap (λ (n : ℕ). Place.AtLeaf (u32_at trunk (8 + 4 * done)) ∷ map Place.AtLeaf (numbers_at trunk n ((u32_at trunk 4 - done) - 1)))
    (let e : (8 + 4 * done) + 4 ≡ 8 + 4 * (done + 1) = omega arith in e)
    ∙ ap (λ (n : ℕ). Place.AtLeaf (u32_at trunk (8 + 4 * done)) ∷ map Place.AtLeaf (numbers_at trunk (8 + 4 * (done + 1)) n))
    (let e : (u32_at trunk 4 - done) - 1 ≡ u32_at trunk 4 - (done + 1) = omega arith in e)

pub leaves_end : (trunk : List ℕ) (done : ℕ) → done ≡ u32_at trunk 4 → leaves_from trunk done ≡ []
leaves_end trunk done is = ap (λ (l : List ℕ). map Place.AtLeaf l) (numbers_none trunk (8 + 4 * done) (u32_at trunk 4 - done) (omega (arith, is)))

-- So many leaves of a trunk were met.
pub record LeavesMet (before : Walk) (trunk : List ℕ) (done : ℕ) (walk : Walk) : Type 0 where
  pub walks : (db : Database) (past : Past) → KeepsPast before past → ComesTo db walk before.roots.items past (leaves_of trunk) (leaves_from trunk done)
  pub counted : met_up_to walk.marks.bits.items before.last ≡ met_up_to before.marks.bits.items before.last + done
  pub same : walk ≡ record before { marks = walk.marks }
  pub room : length walk.marks.bits.items ≡ length before.marks.bits.items

leaves_begin : (trunk : List ℕ) → leaves_of trunk ≡ leaves_from trunk 0
leaves_begin trunk =
    ap (λ (n : ℕ). map Place.AtLeaf (numbers_at trunk n (u32_at trunk 4))) (let e : 8 ≡ 8 + 4 * 0 = omega arith in e)
    ∙ ap (λ (n : ℕ). map Place.AtLeaf (numbers_at trunk (8 + 4 * 0) n)) (let e : u32_at trunk 4 ≡ u32_at trunk 4 - 0 = omega arith in e)

pub no_leaf : (before : Walk) (trunk : List ℕ) → LeavesMet before trunk 0 before
no_leaf before trunk = record {
  walks = λ db past keeps. record {
    mid = past;
    named = [];
    reaches = subst (λ (l : List Place). Reaches db past (leaves_of trunk) past l []) (leaves_begin trunk) (reaches_itself db past (leaves_of trunk));
    keeps = keeps;
    roots_are = sym (append-nil before.roots.items);
  };
  counted = omega arith;
  same = refl;
  room = refl;
}

leaf_comes : (db : Database) (walk later : Walk) (page : ℕ) (mid : Past) → HasMet walk page later → KeepsPast walk mid
    → ComesTo db later walk.roots.items mid (Place.AtLeaf page ∷ []) []
leaf_comes db walk later page mid met keeps = record {
  mid = with_met mid page;
  named = [];
  reaches = reaches_inside db mid mid (Place.AtLeaf page ∷ []) (Place.AtLeaf page) (leads_to (with_met mid page) []) []
      (reaches_itself db mid (Place.AtLeaf page ∷ [])) (met.was_not mid keeps, refl);
  keeps = met.is_now mid keeps;
  roots_are = roots_met walk later page met;
}

-- one leaf more
pub leaf_more : (before walk later : Walk) (trunk : List ℕ) (done page : ℕ) → done < u32_at trunk 4 → page ≡ u32_at trunk (8 + 4 * done) → LeavesMet before trunk done walk
    → HasMet walk page later → LeavesMet before trunk (done + 1) later
leaf_more before walk later trunk done page less is so_far met = record {
  walks = λ db past keeps. comes_on db walk later before.roots.items past (leaves_of trunk) (Place.AtLeaf page ∷ []) (leaves_from trunk (done + 1))
      (subst (λ (n : ℕ). ComesTo db walk before.roots.items past (leaves_of trunk) (Place.AtLeaf n ∷ leaves_from trunk (done + 1))) (sym is)
      (subst (λ (l : List Place). ComesTo db walk before.roots.items past (leaves_of trunk) l) (leaves_next trunk done less) (so_far.walks db past keeps)))
      (λ mid now. leaf_comes db walk later page mid met now);
  counted =
      let last : walk.last ≡ before.last = ap (λ (w : Walk). w.last) so_far.same in
      let one : met_up_to later.marks.bits.items before.last ≡ met_up_to walk.marks.bits.items before.last + 1 =
      subst (λ (n : ℕ). met_up_to later.marks.bits.items n ≡ met_up_to walk.marks.bits.items n + 1) last met.counted in omega (arith, one, so_far.counted);
  same = met.same ∙ ap (λ (w : Walk). record w { marks = later.marks }) so_far.same;
  room = met.room ∙ so_far.room;
}

-- all leaves were met
pub leaves_met : (before walk : Walk) (trunk : List ℕ) (count : ℕ) → count ≡ u32_at trunk 4 → LeavesMet before trunk count walk → HasLeaves before trunk count walk
leaves_met before walk trunk count is so_far = record {
  walks = λ db past keeps. subst (λ (l : List Place). ComesTo db walk before.roots.items past (leaves_of trunk) l) (leaves_end trunk count is) (so_far.walks db past keeps);
  counted = so_far.counted;
  same = so_far.same;
  room = so_far.room;
}

-- a leaf was met before
pub leaf_twice : (before walk : Walk) (trunk : List ℕ) (done page : ℕ) (why : CheckFault) → done < u32_at trunk 4 → page ≡ u32_at trunk (8 + 4 * done)
    → LeavesMet before trunk done walk → HasMetBefore walk page why → BarsLeaves before trunk why
leaf_twice before walk trunk done page why less is so_far met = record {
  page = page;
  told = met.told;
  meets = λ db past keeps.
      let come = so_far.walks db past keeps in
      come.reaches.meets (fault.Twice page)
      (Meets.meets_here come.mid (leaves_from trunk done) (Place.AtLeaf page) (leaves_from trunk (done + 1))
      (leaves_next trunk done less ∙ ap (λ (n : ℕ). Place.AtLeaf n ∷ leaves_from trunk (done + 1)) (sym is)) (met.was come.mid come.keeps, refl));
}

-- a trunk without a fault lists no more leaves than there is room for, each in range, and names the next trunk or none
pub few_leaves : (usable last : ℕ) (page : List ℕ) → 480 ≤ usable → usable ≤ 65536 → trunk_fault usable last page ≡ None
    → (8 + 4 * u32_at page 4 ≤ usable) × (u32_at page 4 ≤ 16384)
few_leaves usable last page least most none =
    let trunk = trunk_is usable last page none in
    let few : u32_at page 4 ≤ usable / 4 - 2 = subst (λ (n : ℕ). n ≤ usable / 4 - 2) (length-numbers_at page 8 (u32_at page 4)) trunk.1.room in
    (omega (arith, few, least), omega (arith, few, most))

pub leaf_inside : (usable last : ℕ) (page : List ℕ) (k : ℕ) → trunk_fault usable last page ≡ None → k < u32_at page 4
    → (1 ≤ u32_at page (8 + 4 * k)) × (u32_at page (8 + 4 * k) ≤ last)
leaf_inside usable last page k none less =
    let trunk = trunk_is usable last page none in
    let length_is = length-numbers_at page 8 (u32_at page 4) in
    let there = each_there (λ (leaf : ℕ). (2 ≤ leaf) × (leaf ≤ last)) (numbers_at page 8 (u32_at page 4)) (u32_at page (8 + 4 * k)) trunk.1.range
    (k, omega (arith, less, length_is), number_at page 8 (u32_at page 4) k _ less) in
    (omega (arith, there.0), there.1)
