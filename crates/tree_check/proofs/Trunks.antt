-- A trunk that was met and read, with its leaves: its fault, or where the freelist goes on.
use Rattle.std.proofs.Common.{◌≡◌, ℕ, zero, suc, ◌+◌, ◌<◌, ◌≤◌, if◌then◌else◌, Bool, true, false, List, [], ◌∷◌, ◌++◌, Some, None, refl, sym, subst, ap, ◌∙◌, arith, inl, inr}
use Rattle.page_spec.specs.Bytes.{u32_at}
use Rattle.page_spec.specs.View.{View}
use Rattle.tree_spec.specs.Freelist.{trunk_in}
use Rattle.page_face.specs.declared.pages_tells.PagesTells.{Ghosts}
use Rattle.page_face.specs.Pages.{ReadsAtMost}
use Rattle.page_face.proofs.PageLaws.{reading_same, reading_join}
use Rattle.check_spec.specs.declared.fault.CheckFault.{CheckFault}
use Rattle.check_spec.specs.declared.fault.CheckFault.TheVariants as fault
use Rattle.check_spec.specs.Forms.{trunk_fault}
use Rattle.check_spec.specs.Walk.{Place, trunk_places, leads_to, with_met}
use Rattle.check_spec.proofs.CellsFit.{IsNumberOf}
use Rattle.check_spec.proofs.FreePages.{trunk_is}
use Rattle.tree_check.specs.declared.walk.Walk.{Walk}
use Rattle.tree_check.specs.Met.{is_met, met_up_to}
use Rattle.tree_check.specs.Walking.{SuitsPages, HasMet, HasMetBefore, WalksTo, MeetsOver, BarsVisit, HasVisited}
use Rattle.tree_check.specs.Freed.{leaves_of, HasLeaves, BarsLeaves, HasTrunk}
use Rattle.tree_check.proofs.Reaching.{begins, stops_at, walks_inside, walks_on, walks_then, bars_on}
use Rattle.tree_check.proofs.Linking.{suits_met, roots_met}

-- a trunk that was met before
pub trunk_twice : {P : Type 0} (pages : Ghosts P) (old : P) (before : Walk) (page : ℕ) (why : CheckFault) → HasMetBefore before page why
    → BarsVisit pages old old before (Place.AtTrunk page ∷ []) why
trunk_twice pages old before page why met =
    subst (λ (w : CheckFault). BarsVisit pages old old before (Place.AtTrunk page ∷ []) w) (sym met.told)
    (stops_at pages old old old before before (Place.AtTrunk page ∷ []) (Place.AtTrunk page) [] (fault.Twice page) (λ world told. told)
    (begins pages old before (Place.AtTrunk page ∷ []))
    (λ world told mid keeps. inl (met.was mid keeps, refl)))

-- a trunk with a field that breaks
pub trunk_broken : {P : Type 0} (pages : Ghosts P) (old new : P) (before walk : Walk) (page at : ℕ) (buf : List ℕ)
    → ReadsAtMost pages old new → SuitsPages pages old before → HasMet before page walk → ((world : View) → pages.tells new world → buf ≡ pages.over old world page)
    → trunk_fault before.usable before.last buf ≡ Some at → MeetsOver pages old new before (Place.AtTrunk page ∷ []) (fault.Page page at)
trunk_broken pages old new before walk page at buf reading suits met bytes broken =
    stops_at pages old old new before before (Place.AtTrunk page ∷ []) (Place.AtTrunk page) [] (fault.Page page at) reading.edits.narrows
    (begins pages old before (Place.AtTrunk page ∷ []))
    (λ world told mid keeps. inr (
      at,
      met.was_not mid keeps,
      subst (λ (n : ℕ). trunk_fault n (pages.last_page old) (pages.over old world page) ≡ Some at) suits.usable
          (subst (λ (n : ℕ). trunk_fault before.usable n (pages.over old world page) ≡ Some at) suits.last
          (subst (λ (l : List ℕ). trunk_fault before.usable before.last l ≡ Some at) (bytes world told) broken)),
      refl,
    ))

-- a trunk in order, whose leaves are to come
trunk_walks : {P : Type 0} (pages : Ghosts P) (old new : P) (before walk : Walk) (page : ℕ) (buf : List ℕ)
    → ReadsAtMost pages old new → SuitsPages pages old before → HasMet before page walk → ((world : View) → pages.tells new world → buf ≡ pages.over old world page)
    → trunk_fault before.usable before.last buf ≡ None → WalksTo pages old new before walk (Place.AtTrunk page ∷ []) (leaves_of buf ++ trunk_places (u32_at buf 0))
trunk_walks pages old new before walk page buf reading suits met bytes none =
    let all : List Place = Place.AtTrunk page ∷ [] in
    walks_inside pages old old new before before walk all (Place.AtTrunk page) (leaves_of buf ++ trunk_places (u32_at buf 0)) [] reading.edits.narrows
    (roots_met before walk page met)
    (begins pages old before all)
    (λ world told mid keeps. (
      with_met mid page,
      (
        met.was_not mid keeps,
        subst (λ (n : ℕ). trunk_fault n (pages.last_page old) (pages.over old world page) ≡ None) suits.usable
            (subst (λ (n : ℕ). trunk_fault before.usable n (pages.over old world page) ≡ None) suits.last
            (subst (λ (l : List ℕ). trunk_fault before.usable before.last l ≡ None) (bytes world told) none)),
        ap (λ (l : List ℕ). leads_to (with_met mid page) (leaves_of l ++ trunk_places (trunk_in l).next)) (bytes world told),
      ),
      met.is_now mid keeps,
    ))

-- a leaf of it was met before
pub trunk_bars : {P : Type 0} (pages : Ghosts P) (old new : P) (before walk : Walk) (page : ℕ) (buf : List ℕ) (why : CheckFault)
    → ReadsAtMost pages old new → SuitsPages pages old before → HasMet before page walk → ((world : View) → pages.tells new world → buf ≡ pages.over old world page)
    → trunk_fault before.usable before.last buf ≡ None → BarsLeaves walk buf why → BarsVisit pages old new before (Place.AtTrunk page ∷ []) why
trunk_bars pages old new before walk page buf why reading suits met bytes none bars =
    bars_on pages old new new before walk (Place.AtTrunk page ∷ []) (leaves_of buf) (trunk_places (u32_at buf 0)) why reading
    (reading_same pages new reading.edits.ready (pages.follows_itself new))
    (trunk_walks pages old new before walk page buf reading suits met bytes none)
    (subst (λ (w : CheckFault). BarsVisit pages new new walk (leaves_of buf) w) (sym bars.told) (λ world told past keeps. bars.meets _ past keeps))

suits_leaves : {P : Type 0} (pages : Ghosts P) (new : P) (walk later : Walk) (buf : List ℕ) (count : ℕ) → SuitsPages pages new walk → HasLeaves walk buf count later
    → SuitsPages pages new later
suits_leaves pages new walk later buf count suits leaves =
    subst (λ (w : Walk). SuitsPages pages new w) (sym leaves.same) (record {
      ready = suits.ready;
      page_size = suits.page_size;
      usable = suits.usable;
      last = suits.last;
      least = suits.least;
      fits = suits.fits;
      most = suits.most;
      room = leaves.room ∙ suits.room;
      roots = suits.roots;
    })

next_fits : (usable last : ℕ) (page : List ℕ) → trunk_fault usable last page ≡ None → 0 < u32_at page 0 → IsNumberOf last (u32_at page 0)
next_fits usable last page none some =
    elim (trunk_is usable last page none).0 [
      | inl zero_is ↦ absurd (omega (arith, zero_is, some))
      | inr range ↦ range
    ]

-- it was met with all its leaves
pub trunk_goes : {P : Type 0} (pages : Ghosts P) (old new : P) (before walk later : Walk) (page count : ℕ) (buf : List ℕ)
    → ReadsAtMost pages old new → SuitsPages pages old before → HasMet before page walk → ((world : View) → pages.tells new world → buf ≡ pages.over old world page)
    → trunk_fault before.usable before.last buf ≡ None → HasLeaves walk buf count later → HasTrunk pages old before page (count + 1) buf new later
trunk_goes pages old new before walk later page count buf reading suits met bytes none leaves =
    let last_is : walk.last ≡ before.last = ap (λ (w : Walk). w.last) met.same in
    let last_later : later.last ≡ before.last = ap (λ (w : Walk). w.last) leaves.same ∙ last_is in
    record {
      walks = walks_on pages old new new before walk later (Place.AtTrunk page ∷ []) (leaves_of buf) (trunk_places (u32_at buf 0)) reading
          (reading_same pages new reading.edits.ready (pages.follows_itself new))
          (trunk_walks pages old new before walk page buf reading suits met bytes none)
          (λ world told past keeps. leaves.walks _ past keeps);
      suits = suits_leaves pages new walk later buf count (suits_met pages old new before walk page reading suits met) leaves;
      next = λ some. subst (λ (n : ℕ). (2 ≤ u32_at buf 0) × (u32_at buf 0 ≤ n)) (sym last_later) (next_fits before.usable before.last buf none some);
      some = omega arith;
      counted =
          let more : met_up_to later.marks.bits.items before.last ≡ met_up_to walk.marks.bits.items before.last + count =
          subst (λ (n : ℕ). met_up_to later.marks.bits.items n ≡ met_up_to walk.marks.bits.items n + count) last_is leaves.counted in
          omega (arith, more, met.counted);
      last = last_later;
    }

-- Of the bits up to a number no more are set than there are.
pub most_met : (bits : List ℕ) (n : ℕ) → met_up_to bits n ≤ n
most_met bits zero = omega arith
most_met bits (suc n) = by_bit (is_met bits (suc n)) (most_met bits n)
  where
    by_bit : (met : Bool) → met_up_to bits n ≤ n → (if met then 1 else 0) + met_up_to bits n ≤ suc n
    by_bit true below = omega (arith, below)
    by_bit false below = omega (arith, below)

-- a list that begins
pub trunk_some : (n : ℕ) → 0 < n → trunk_places n ≡ Place.AtTrunk n ∷ []
trunk_some zero some = absurd (omega (arith, some))
trunk_some (suc n) some = refl

pub trunk_none : (n : ℕ) → (0 < n → ⊥) → trunk_places n ≡ []
trunk_none zero none = refl
trunk_none (suc n) none = absurd (none (omega arith))

-- So many pages of a freelist were met, and it goes on from here.
pub record FreeMet {P : Type 0} (pages : Ghosts P) (old now : P) (before : Walk) (first next count : ℕ) (walk : Walk) : Type 0 where
  pub reading : ReadsAtMost pages old now
  pub walks : WalksTo pages old now before walk (trunk_places first) (trunk_places next)
  pub suits : SuitsPages pages now walk
  pub range : 0 < next → (2 ≤ next) × (next ≤ walk.last)
  pub counted : met_up_to walk.marks.bits.items before.last ≡ met_up_to before.marks.bits.items before.last + count
  pub last : walk.last ≡ before.last

pub no_trunk : {P : Type 0} (pages : Ghosts P) (old : P) (before : Walk) (first : ℕ) → SuitsPages pages old before → (0 < first → (2 ≤ first) × (first ≤ before.last))
    → FreeMet pages old old before first first 0 before
no_trunk pages old before first suits range = record {
  reading = reading_same pages old suits.ready (pages.follows_itself old);
  walks = begins pages old before (trunk_places first);
  suits = suits;
  range = range;
  counted = omega arith;
  last = refl;
}

walks_to_trunk : {P : Type 0} (pages : Ghosts P) (old now : P) (before walk : Walk) (all : List Place) (next : ℕ) → 0 < next → WalksTo pages old now before walk all (trunk_places next)
    → WalksTo pages old now before walk all (Place.AtTrunk next ∷ [])
walks_to_trunk pages old now before walk all next some walks =
    subst (λ (l : List Place). WalksTo pages old now before walk all l) (trunk_some next some) walks

-- one trunk more
pub trunk_more : {P : Type 0} (pages : Ghosts P) (old now new : P) (before walk later : Walk) (first next count more : ℕ) (buf : List ℕ) → 0 < next
    → FreeMet pages old now before first next count walk → ReadsAtMost pages now new → HasTrunk pages now walk next more buf new later
    → FreeMet pages old new before first (u32_at buf 0) (count + more) later
trunk_more pages old now new before walk later first next count more buf some so_far reading trunk = record {
  reading = reading_join pages old now new so_far.reading reading (pages.follows_on);
  walks = walks_then pages old now new before walk later (trunk_places first) (Place.AtTrunk next ∷ []) (trunk_places (u32_at buf 0)) so_far.reading reading
      (walks_to_trunk pages old now before walk (trunk_places first) next some so_far.walks) trunk.walks;
  suits = trunk.suits;
  range = trunk.next;
  counted =
      let here : met_up_to later.marks.bits.items before.last ≡ met_up_to walk.marks.bits.items before.last + more =
      subst (λ (n : ℕ). met_up_to later.marks.bits.items n ≡ met_up_to walk.marks.bits.items n + more) so_far.last trunk.counted in
      omega (arith, here, so_far.counted);
  last = trunk.last ∙ so_far.last;
}

-- a trunk that couldn't be met
pub free_bars : {P : Type 0} (pages : Ghosts P) (old now new : P) (before walk : Walk) (first next count : ℕ) (why : CheckFault) → 0 < next
    → FreeMet pages old now before first next count walk → ReadsAtMost pages now new → BarsVisit pages now new walk (Place.AtTrunk next ∷ []) why
    → BarsVisit pages old new before (trunk_places first) why
free_bars pages old now new before walk first next count why some so_far reading bars =
    bars_on pages old now new before walk (trunk_places first) (Place.AtTrunk next ∷ []) [] why so_far.reading reading
    (walks_to_trunk pages old now before walk (trunk_places first) next some so_far.walks) bars

-- the list ends
pub free_visited : {P : Type 0} (pages : Ghosts P) (old now : P) (before walk : Walk) (first next count : ℕ) → (0 < next → ⊥)
    → FreeMet pages old now before first next count walk → HasVisited pages old before (trunk_places first) now walk
free_visited pages old now before walk first next count none so_far = record {
  walks = subst (λ (l : List Place). WalksTo pages old now before walk (trunk_places first) l) (trunk_none next none) so_far.walks;
  suits = so_far.suits;
}
