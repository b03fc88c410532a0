-- A page of a chain that was met and read: its fault, or where it goes on.
use Rattle.std.proofs.Common.{◌≡◌, ℕ, ◌-◌, ◌<◌, ◌≤◌, ◌==◌, nat_lt, if◌then◌else◌, Bool, true, false, List, [], ◌∷◌, ◌++◌, length, Some, None, refl, sym, subst, ap, ◌∙◌, arith, append-nil, inl, inr}
use Rattle.std.proofs.lemmas.Bool.{eqb-true}
use Rattle.std.proofs.lemmas.Bool.Decides.{nat_tests}
use Rattle.std.proofs.lemmas.Grind.{common_steps}
use Rattle.page_spec.specs.Bytes.{u32_at}
use Rattle.node_spec.proofs.FaultLaws.{unless_none}
use Rattle.check_spec.proofs.CellsFit.{inside_is}
use Rattle.tree_check.specs.Chained.{HasLink, BeginsChain}
use Rattle.page_spec.specs.View.{View}
use Rattle.page_face.specs.declared.pages_tells.PagesTells.{Ghosts}
use Rattle.page_face.specs.Pages.{ReadsAtMost}
use Rattle.check_spec.specs.declared.fault.CheckFault.{CheckFault}
use Rattle.check_spec.specs.declared.fault.CheckFault.TheVariants as fault
use Rattle.check_spec.specs.Forms.{is_inside, link_fault}
use Rattle.check_spec.specs.Walk.{Place, link_places, leads_to, with_met}
use Rattle.tree_check.specs.declared.walk.Walk.{Walk}
use Rattle.tree_check.specs.Walking.{SuitsPages, HasMet, HasMetBefore, MeetsOver, BarsVisit}
use Rattle.tree_check.proofs.Reaching.{begins, stops_at, walks_inside}

-- a page of a chain that was met before
pub link_twice : {P : Type 0} (pages : Ghosts P) (old : P) (before : Walk) (page left : ℕ) (why : CheckFault) → HasMetBefore before page why
    → BarsVisit pages old old before (Place.AtLink page left ∷ []) why
link_twice pages old before page left why met =
    subst (λ (w : CheckFault). BarsVisit pages old old before (Place.AtLink page left ∷ []) w) (sym met.told)
    (stops_at pages old old old before before (Place.AtLink page left ∷ []) (Place.AtLink page left) [] (fault.Twice page) (λ world told. told)
    (begins pages old before (Place.AtLink page left ∷ []))
    (λ world told mid keeps. inl (met.was mid keeps, refl)))

-- a page of a chain that names a wrong one
pub link_broken : {P : Type 0} (pages : Ghosts P) (old new : P) (before walk : Walk) (page left at : ℕ) (buf : List ℕ)
    → ReadsAtMost pages old new → SuitsPages pages old before → HasMet before page walk → ((world : View) → pages.tells new world → buf ≡ pages.over old world page)
    → link_fault before.usable before.last left buf ≡ Some at → MeetsOver pages old new before (Place.AtLink page left ∷ []) (fault.Page page at)
link_broken pages old new before walk page left at buf reading suits met bytes broken =
    stops_at pages old old new before before (Place.AtLink page left ∷ []) (Place.AtLink page left) [] (fault.Page page at) reading.edits.narrows
    (begins pages old before (Place.AtLink page left ∷ []))
    (λ world told mid keeps. inr (
      at,
      met.was_not mid keeps,
      subst (λ (n : ℕ). link_fault n (pages.last_page old) left (pages.over old world page) ≡ Some at) suits.usable
          (subst (λ (n : ℕ). link_fault before.usable n left (pages.over old world page) ≡ Some at) suits.last
          (subst (λ (l : List ℕ). link_fault before.usable before.last left l ≡ Some at) (bytes world told) broken)),
      refl,
    ))

-- the sizes still suit where a page was met and pages were read
pub suits_met : {P : Type 0} (pages : Ghosts P) (old new : P) (before walk : Walk) (page : ℕ) → ReadsAtMost pages old new → SuitsPages pages old before → HasMet before page walk
    → SuitsPages pages new walk
suits_met pages old new before walk page reading suits met =
    subst (λ (w : Walk). SuitsPages pages new w) (sym met.same) (record {
      ready = reading.edits.ready;
      page_size = suits.page_size ∙ sym reading.edits.page_size;
      usable = suits.usable ∙ sym reading.edits.usable;
      last = suits.last ∙ sym reading.last;
      least = suits.least;
      fits = suits.fits;
      most = suits.most;
      room = met.room ∙ suits.room;
      roots = suits.roots;
    })

-- no root was named meanwhile
pub roots_met : (before walk : Walk) (page : ℕ) → HasMet before page walk → walk.roots.items ≡ before.roots.items ++ []
roots_met before walk page met = ap (λ (w : Walk). w.roots.items) met.same ∙ sym (append-nil before.roots.items)

begins_by : (usable last left next : ℕ) (more : Bool) → nat_lt (usable - 4) left ≡ more → (if more then is_inside last next else (next == 0)) ≡ true
    → BeginsChain last next (left - (usable - 4))
begins_by usable last left next true is fits = record {
  some = λ some. inside_is last next fits;
  none = λ none. let less : usable - 4 < left = grind (arith, common_steps, nat_tests) in absurd (omega (arith, none, less));
}
begins_by usable last left next false is fits = record {
  some = λ some. let most : left ≤ usable - 4 = grind (arith, common_steps, nat_tests) in absurd (omega (arith, some, most));
  none = λ none. eqb-true next 0 fits;
}

-- a page of a chain that names a right one
link_begins : (usable last left : ℕ) (buf : List ℕ) → link_fault usable last left buf ≡ None → BeginsChain last (u32_at buf 0) (left - (usable - 4))
unfolding link_fault
link_begins usable last left buf none =
    begins_by usable last left (u32_at buf 0) (nat_lt (usable - 4) left) refl
    (unless_none (if nat_lt (usable - 4) left then is_inside last (u32_at buf 0) else (u32_at buf 0 == 0)) 0 none)

pub link_goes : {P : Type 0} (pages : Ghosts P) (old new : P) (before walk : Walk) (page left : ℕ) (buf : List ℕ)
    → ReadsAtMost pages old new → SuitsPages pages old before → HasMet before page walk → ((world : View) → pages.tells new world → buf ≡ pages.over old world page)
    → link_fault before.usable before.last left buf ≡ None → pages.usable old ≤ length buf → HasLink pages old before page left buf new walk
link_goes pages old new before walk page left buf reading suits met bytes none long =
    let all : List Place = Place.AtLink page left ∷ [] in
    let next : List Place = link_places (u32_at buf 0) (left - (pages.usable old - 4)) in
    record {
      walks = walks_inside pages old old new before before walk all (Place.AtLink page left) next [] reading.edits.narrows (roots_met before walk page met)
          (begins pages old before all)
          (λ world told mid keeps. (
            with_met mid page,
            (
              met.was_not mid keeps,
              subst (λ (n : ℕ). link_fault n (pages.last_page old) left (pages.over old world page) ≡ None) suits.usable
                  (subst (λ (n : ℕ). link_fault before.usable n left (pages.over old world page) ≡ None) suits.last
                  (subst (λ (l : List ℕ). link_fault before.usable before.last left l ≡ None) (bytes world told) none)),
              ap (λ (l : List ℕ). leads_to (with_met mid page) (link_places (u32_at l 0) (left - (pages.usable old - 4)))) (bytes world told),
            ),
            met.is_now mid keeps,
          ));
      suits = suits_met pages old new before walk page reading suits met;
      begins = subst (λ (n : ℕ). BeginsChain walk.last (u32_at buf 0) (left - (n - 4))) suits.usable
          (subst (λ (n : ℕ). BeginsChain n (u32_at buf 0) (left - (before.usable - 4))) (sym (ap (λ (w : Walk). w.last) met.same))
          (link_begins before.usable before.last left buf none));
      bytes = bytes;
      payload = ap (λ (w : Walk). w.payload) met.same;
      long = long;
    }
