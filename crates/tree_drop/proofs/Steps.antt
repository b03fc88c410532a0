-- A tree that is given up part by part: what was given up so far, and what is left.
use Rattle.std.proofs.Common.{◌≡◌, ℕ, ◌+◌, ◌≤◌, List, [], ◌∷◌, ◌++◌, length, Ok, refl, sym, subst, ap, ◌∙◌, arith, inl, inr}
use Rattle.page_spec.specs.View.{View}
use Rattle.engine_spec.specs.declared.commits.FetchFault.{FetchFault}
use Rattle.engine_spec.specs.declared.commits.FetchFault.TheVariants as fault
use Rattle.page_face.specs.declared.pages_tells.PagesTells.{Ghosts}
use Rattle.page_face.specs.Pages.{Editing, ReadsAtMost, pages_read, IsFromOutside}
use Rattle.page_face.specs.PageCalls.{HasGivenUp}
use Rattle.page_face.proofs.PageLaws.{editing_join, reading_same}
use Rattle.tree_spec.specs.Layout.{times}
use Rattle.tree_spec.specs.Shown.{Shown}
use Rattle.tree_spec.proofs.Lists.{times-append, head_there}
use Rattle.overflow.specs.Following.{shown_over}
use Rattle.overflow.proofs.Written.{GoesOn}
use Rattle.edit_spec.proofs.Local.{AllAlike}
use Rattle.tree_read.proofs.Descents.{rose_before}
use Rattle.tree_edit.specs.Editing.{PageLists, EditsPages, IsFreeBy, giving}
use Rattle.tree_edit.proofs.Edits.{edits_join, edits_read, edits_give, edits_none, still_used, alike, read_one, the_page}
use Rattle.tree_drop.specs.Parts.{OnPages, AreHeldOnce, DropsOn, BarsOn}

-- the pages of calls that read some pages and gave up some
abbrev pub dropping : (read gone : List ℕ) → PageLists
dropping read gone = record { read = read; put = []; made = []; gone = gone }

-- Of the pages of a thing some were given up, and the others hold what is left of it. Those that were read are its own.
pub record LeftOf {P : Type 0} (pages : Ghosts P) (old now : P) (Rest : OnPages) (world : View) (own : List ℕ) : Type 0 where
  pub read : List ℕ
  pub gone : List ℕ
  pub left : List ℕ
  pub counts : (n : ℕ) → times own n ≡ times gone n + times left n
  pub within : (n : ℕ) → 1 ≤ times read n → 1 ≤ times own n
  pub edits : EditsPages pages (dropping read gone) old now world
  pub rest : Rest (pages.usable old) (pages.last_page old) (shown_over pages old world) left

pub record GoneSoFar {P : Type 0} (pages : Ghosts P) (old now : P) (Is Rest : OnPages) : Type 0 where
  pub left : (world : View) → pages.tells now world → (own : List ℕ) → pages.neat old world
      → Is (pages.usable old) (pages.last_page old) (shown_over pages old world) own → AreHeldOnce pages old world own → LeftOf pages old now Rest world own
  pub last : pages.last_page now ≡ pages.last_page old
  pub edits : Editing pages old now

-- nothing is left
abbrev pub Nothing : OnPages
Nothing usable last shown own = own ≡ []

-- It is made of two parts.
pub record SplitsInTwo (First Second : OnPages) (usable last : ℕ) (shown : Shown) (own : List ℕ) : Type 0 where
  pub first : List ℕ
  pub second : List ℕ
  pub counts : (n : ℕ) → times own n ≡ times first n + times second n
  pub one : First usable last shown first
  pub two : Second usable last shown second

abbrev pub SplitsInto : OnPages → OnPages → OnPages → Type 0
SplitsInto Rest First Second = (usable last : ℕ) (shown : Shown) (own : List ℕ) → Rest usable last shown own → SplitsInTwo First Second usable last shown own

-- it stays where its pages show the same
abbrev pub IsLocal : OnPages → Type 0
IsLocal Is = (usable last : ℕ) (shown shown_then : Shown) (own : List ℕ) → AllAlike shown shown_then own → Is usable last shown own → Is usable last shown_then own

-- it has no pages beside its one part
pub whole_split : (Rest Only : OnPages) → ((usable last : ℕ) (shown : Shown) (own : List ℕ) → Rest usable last shown own → Only usable last shown own) → SplitsInto Rest Only Nothing
whole_split Rest Only turns = λ usable last shown own rest.
    record { first = own; second = []; counts = λ n. omega arith; one = turns usable last shown own rest; two = refl }

-- at first all is left
pub begun : {P : Type 0} (pages : Ghosts P) (old : P) (Is : OnPages) → pages.ready old → pages.follows old old → GoneSoFar pages old old Is Is
begun pages old Is ready follows = record {
  left = λ world told own neat is held. record {
    read = [];
    gone = [];
    left = own;
    counts = λ n. omega arith;
    within = λ n there. absurd (omega (arith, there));
    edits = edits_none pages old world neat;
    rest = is;
  };
  last = refl;
  edits = (reading_same pages old ready follows).edits;
}

-- a page of it was read, which tells more of it
pub begun_read : {P : Type 0} (pages : Ghosts P) (old now : P) (page : ℕ) (Is Rest : OnPages) → ReadsAtMost pages old now → pages.reads now ≡ pages_read pages old page
    → ((world : View) → pages.tells now world → (own : List ℕ) → Is (pages.usable old) (pages.last_page old) (shown_over pages old world) own
    → (1 ≤ times own page) × Rest (pages.usable old) (pages.last_page old) (shown_over pages old world) own) → GoneSoFar pages old now Is Rest
begun_read pages old now page Is Rest only reads turns = record {
  left = λ world told own neat is held.
      let found = turns world told own is in
      record {
        read = page ∷ [];
        gone = [];
        left = own;
        counts = λ n. omega arith;
        within = λ n there. subst (λ (k : ℕ). 1 ≤ times own k) (the_page page n there) found.0;
        edits = edits_read pages (page ∷ []) old now world only told neat (read_one pages old now page reads);
        rest = found.1;
      };
  last = only.last;
  edits = only.edits;
}

-- The part that is next, as it is now.
record NextPart {P : Type 0} (pages : Ghosts P) (old now : P) (Rest First Second : OnPages) (world : View) (own : List ℕ) : Type 0 where
  before : LeftOf pages old now Rest world own
  split : SplitsInTwo First Second (pages.usable old) (pages.last_page old) (shown_over pages old world) before.left
  is : First (pages.usable now) (pages.last_page now) (shown_over pages now world) split.first
  held : AreHeldOnce pages now world split.first

next_part : {P : Type 0} (pages : Ghosts P) (old now : P) (Is Rest First Second : OnPages) → GoneSoFar pages old now Is Rest → SplitsInto Rest First Second → IsLocal First
    → (world : View) → pages.tells now world → (own : List ℕ) → pages.neat old world → Is (pages.usable old) (pages.last_page old) (shown_over pages old world) own
    → AreHeldOnce pages old world own → NextPart pages old now Rest First Second world own
next_part pages old now Is Rest First Second so_far splits stays world told own neat is held =
    let before = so_far.left world told own neat is held in
    let split = splits (pages.usable old) (pages.last_page old) (shown_over pages old world) before.left before.rest in
    let lists = dropping before.read before.gone in
    let same : AllAlike (shown_over pages old world) (shown_over pages now world) split.first =
    λ n there.
    let here = held n (omega (arith, there, split.counts n, before.counts n)) in
    alike pages lists old now world before.edits so_far.edits.usable n here.0 here.2 refl (omega (arith, there, here.1, split.counts n, before.counts n)) in
    record {
      before = before;
      split = split;
      is = subst (λ (l : ℕ). First (pages.usable now) l (shown_over pages now world) split.first) (sym so_far.last)
          (subst (λ (u : ℕ). First u (pages.last_page old) (shown_over pages now world) split.first) (sym so_far.edits.usable)
          (stays (pages.usable old) (pages.last_page old) (shown_over pages old world) (shown_over pages now world) split.first same split.one));
      held = λ n there.
          let here = held n (omega (arith, there, split.counts n, before.counts n)) in (
            here.0,
            omega (arith, here.1, split.counts n, before.counts n),
            still_used pages lists old now world before.edits n here.2 (omega (arith, there, here.1, split.counts n, before.counts n)),
          );
    }

-- one part more was given up
pub goes_on : {P : Type 0} (pages : Ghosts P) (old now later : P) (Is Rest First Second : OnPages) → GoneSoFar pages old now Is Rest → SplitsInto Rest First Second → IsLocal First
    → GoesOn pages → Editing pages now later → pages.last_page later ≡ pages.last_page now → DropsOn pages now First later → GoneSoFar pages old later Is Second
goes_on pages old now later Is Rest First Second so_far splits stays on edits last drops = record {
  left = λ world told own neat is held.
      let next = next_part pages old now Is Rest First Second so_far splits stays world (edits.narrows world told) own neat is held in
      let before = next.before in
      let two = drops world told next.split.first before.edits.neat next.is next.held in
      record {
        read = before.read ++ [];
        gone = before.gone ++ next.split.first;
        left = next.split.second;
        counts = λ n. omega (arith, before.counts n, next.split.counts n, times-append before.gone next.split.first n);
        within = λ n there. before.within n (omega (arith, there, times-append before.read [] n));
        edits = edits_join pages (dropping before.read before.gone) (giving next.split.first) old now later world before.edits two;
        rest = next.split.two;
      };
  last = last ∙ so_far.last;
  edits = editing_join pages old now later so_far.edits edits on;
}

-- what is left, by other words
pub left_as : {P : Type 0} (pages : Ghosts P) (old now : P) (Is Rest Other : OnPages) → ((usable last : ℕ) (shown : Shown) (own : List ℕ) → Rest usable last shown own → Other usable last shown own)
    → GoneSoFar pages old now Is Rest → GoneSoFar pages old now Is Other
left_as pages old now Is Rest Other turns so_far = record {
  left = λ world told own neat is held.
      let at = so_far.left world told own neat is held in
      record {
        read = at.read;
        gone = at.gone;
        left = at.left;
        counts = at.counts;
        within = at.within;
        edits = at.edits;
        rest = turns (pages.usable old) (pages.last_page old) (shown_over pages old world) at.left at.rest;
      };
  last = so_far.last;
  edits = so_far.edits;
}

-- some page stands in a list that has any
length_some : (list : List ℕ) (n : ℕ) → 1 ≤ times list n → 1 ≤ length list
length_some [] n there = absurd (omega (arith, there))
length_some (page ∷ pages) n there = omega arith

as_long : (few own : List ℕ) → ((n : ℕ) → times own n ≡ times few n) → 1 ≤ length few → 1 ≤ length own
as_long [] own same some = absurd (omega (arith, some))
as_long (page ∷ pages) own same some = length_some own page (omega (arith, same page, head_there page pages (page ∷ pages) refl))

-- all of it was given up
pub all_gone : {P : Type 0} (pages : Ghosts P) (old now : P) (Is : OnPages) → GoneSoFar pages old now Is Nothing → DropsOn pages old Is now
all_gone pages old now Is so_far = λ world told own neat is held.
    let at = so_far.left world told own neat is held in
    let edits = at.edits in
    let same : (n : ℕ) → times own n ≡ times at.gone n =
    λ n. at.counts n ∙ (let none : times at.left n ≡ 0 = ap (λ (l : List ℕ). times l n) at.rest in omega (arith, none)) in
    let uses : 1 ≤ length at.gone → 1 ≤ length own = λ some. as_long at.gone own same some in
    record {
      free = λ n. subst (λ (k : ℕ). IsFreeBy (pages.free old world n) (pages.free now world n) 0 k) (sym (same n)) (edits.free n);
      same = λ n used put gone. edits.same n used refl (sym (same n) ∙ gone);
      neat = edits.neat;
      no_more_spare = edits.no_more_spare;
      changed = λ n there. elim (edits.changed n there) [
        | inl before ↦ inl before
        | inr (inl put) ↦ absurd (omega (arith, put))
        | inr (inr (inl gone)) ↦ inr (inr (inl (omega (arith, gone, same n))))
        | inr (inr (inr free)) ↦ inr (inr (inr (omega (arith, uses (omega (arith, free.0))), free.1)))
      ];
      read = λ n there. elim (edits.read n there) [
        | inl before ↦ inl before
        | inr (inl read) ↦ inr (inr (inl (at.within n read)))
        | inr (inr (inl gone)) ↦ inr (inr (inl (omega (arith, gone, same n))))
        | inr (inr (inr free)) ↦ inr (inr (inr (omega (arith, uses (omega (arith, free.0))), free.1)))
      ];
    }

-- why the next part wasn't given up is why the whole wasn't
pub bars_next : {P : Type 0} (pages : Ghosts P) (old now new : P) (Is Rest First Second : OnPages) (why : FetchFault) → GoneSoFar pages old now Is Rest → SplitsInto Rest First Second
    → IsLocal First → Editing pages now new → BarsOn pages now First new why → BarsOn pages old Is new why
bars_next pages old now new Is Rest First Second fault.Disk so_far splits stays edits bars = rose_before _ _ _ so_far.edits.faults bars
bars_next pages old now new Is Rest First Second (fault.Corrupt named) so_far splits stays edits bars = λ world told own neat is held.
    let next = next_part pages old now Is Rest First Second so_far splits stays world (edits.narrows world told) own neat is held in
    bars world told next.split.first next.before.edits.neat next.is next.held
bars_next pages old now new Is Rest First Second (fault.Size count) so_far splits stays edits bars = bars
bars_next pages old now new Is Rest First Second fault.Memory so_far splits stays edits bars = tt

-- the same thing by other words
pub drops_as : {P : Type 0} (pages : Ghosts P) (old new : P) (One Other : OnPages) → ((usable last : ℕ) (shown : Shown) (own : List ℕ) → Other usable last shown own → One usable last shown own)
    → DropsOn pages old One new → DropsOn pages old Other new
drops_as pages old new One Other turns drops = λ world told own neat is held. drops world told own neat (turns _ _ _ own is) held

pub bars_as : {P : Type 0} (pages : Ghosts P) (old new : P) (One Other : OnPages) (why : FetchFault)
    → ((usable last : ℕ) (shown : Shown) (own : List ℕ) → Other usable last shown own → One usable last shown own) → BarsOn pages old One new why → BarsOn pages old Other new why
bars_as pages old new One Other fault.Disk turns bars = bars
bars_as pages old new One Other (fault.Corrupt named) turns bars = λ world told own neat is held. bars world told own neat (turns _ _ _ own is) held
bars_as pages old new One Other (fault.Size count) turns bars = bars
bars_as pages old new One Other fault.Memory turns bars = tt

-- a fault from outside
pub bars_outside : {P : Type 0} (pages : Ghosts P) (old new : P) (Is : OnPages) (why : FetchFault) → IsFromOutside (pages.faults old) (pages.faults new) why → BarsOn pages old Is new why
bars_outside pages old new Is fault.Disk cause = cause
bars_outside pages old new Is (fault.Corrupt named) cause = absurd cause
bars_outside pages old new Is (fault.Size count) cause = cause
bars_outside pages old new Is fault.Memory cause = tt

-- a buffer that couldn't be had
pub bars_memory : {P : Type 0} (pages : Ghosts P) (old new : P) (Is : OnPages) (why : FetchFault) → why ≡ fault.Memory → BarsOn pages old Is new why
bars_memory pages old new Is why is = subst (λ (w : FetchFault). BarsOn pages old Is new w) (sym is) tt

-- a page alone
abbrev pub IsPageAlone : ℕ → OnPages
IsPageAlone page usable last shown own = own ≡ page ∷ []

pub drops_page : {P : Type 0} (pages : Ghosts P) (old new : P) (page : ℕ) → HasGivenUp pages old page (Ok tt) new → DropsOn pages old (IsPageAlone page) new
drops_page pages old new page up = λ world told own neat is held.
    let here = held page (head_there page [] own is) in
    subst (λ (l : List ℕ). EditsPages pages (giving l) old new world) (sym is)
    (edits_give pages page old new world (up.given world told) here.2 neat (up.changed world told neat) (up.read world told neat))

pub page_local : (page : ℕ) → IsLocal (IsPageAlone page)
page_local page = λ usable last shown shown_then own same is. is
