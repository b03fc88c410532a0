-- What a crash leaves at the moments of a line of page lines.
use Rattle.std.proofs.Common.{◌≡◌, List, ◌++◌, Option, Some, None, sym, subst, arith, length-append}
use Rattle.std.specs.Prelude.{Contains}
use Rattle.disk_face.specs.Steps.{History}
use Rattle.page_spec.specs.PageMap.{PageMap}
use Rattle.crash_spec.specs.Opening.{Opening, rebased}
use Rattle.crash_spec.specs.Moments.{AtEachMoment}
use Rattle.crash_spec.proofs.Moments.{each_weaker, each_last}
use Rattle.crash_spec.proofs.Passing.{passes_still, since_join}
use Rattle.engine_spec.specs.Leaves.{AtEach, RecoversOneOf, LeavesOneOf, RecoversNow}

-- these maps are among those
abbrev pub AreAmong : List PageMap → List PageMap → Type 0
AreAmong fewer maps = (pages : PageMap) → Contains fewer pages → Contains maps pages

-- where at each moment one of a few maps is left, one of more maps is
moments_wider : (opening : Opening) (fewer maps : List PageMap) → AreAmong fewer maps → (old new : Option History)
    → AtEachMoment opening (RecoversOneOf opening fewer) old new → AtEachMoment opening (RecoversOneOf opening maps) old new
moments_wider opening fewer maps among None None each = tt
moments_wider opening fewer maps among None (Some new) each = absurd each
moments_wider opening fewer maps among (Some old) None each = absurd each
moments_wider opening fewer maps among (Some old) (Some new) (since, more, is, then, each) = (
  since,
  more,
  is,
  then,
  each_weaker opening.before (RecoversOneOf opening fewer) (RecoversOneOf opening maps)
      (λ told image one chance. (let left = one chance in among _ left.0, let left = one chance in left.1, let left = one chance in left.2)) (rebased opening.start (more ++ since)) _ each,
)

pub at_wider : (opened : Opening → Type 0) (fewer maps : List PageMap) → AreAmong fewer maps → (old new : Option History)
    → AtEach opened fewer old new → AtEach opened maps old new
at_wider opened fewer maps among old new at opening is = moments_wider opening fewer maps among old new (at opening is)

-- at the moments of two calls, one after the other
pub at_joined : (opened : Opening → Type 0) (maps : List PageMap) (old mid new : Option History) → AtEach opened maps old mid
    → AtEach opened maps mid new → AtEach opened maps old new
at_joined opened maps old mid new first then opening is =
    since_join opening (RecoversOneOf opening maps) old mid new (first opening is) (then opening is)

-- where the disk makes no step, what a crash leaves now it leaves at each moment
pub at_rest : (opened : Opening → Type 0) (maps : List PageMap) (old new : Option History) → new ≡ old
    → ((opening : Opening) → opened opening → RecoversNow opening maps old) → AtEach opened maps old new
at_rest opened maps old new same now opening is =
    subst (AtEachMoment opening (RecoversOneOf opening maps) old) (sym same)
    (passes_still opening (RecoversOneOf opening maps) (LeavesOneOf opening maps) (λ told one. one) old (now opening is)).each_moment

-- what a crash leaves at each moment it leaves at the last one
last_moment : (opening : Opening) (maps : List PageMap) (old new : Option History) → AtEachMoment opening (RecoversOneOf opening maps) old new
    → RecoversNow opening maps new
last_moment opening maps None None each = tt
last_moment opening maps None (Some new) each = absurd each
last_moment opening maps (Some old) None each = absurd each
last_moment opening maps (Some old) (Some new) (since, more, is, then, each) = (
  more ++ since,
  then,
  each_last opening.before (RecoversOneOf opening maps) (rebased opening.start (more ++ since)) _ (omega (arith, length-append more since)) each,
)

pub at_last : (opened : Opening → Type 0) (maps : List PageMap) (old new : Option History) → AtEach opened maps old new
    → (opening : Opening) → opened opening → RecoversNow opening maps new
at_last opened maps old new at opening is = last_moment opening maps old new (at opening is)
