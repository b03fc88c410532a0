-- Pages that are given up one after another, told as edits.
use Rattle.std.proofs.Common.{◌≡◌, ℕ, List, [], ◌∷◌, ◌++◌, Ok, refl, subst, ◌∙◌}
use Rattle.page_spec.specs.View.{View}
use Rattle.page_face.specs.declared.pages_tells.PagesTells.{Ghosts}
use Rattle.page_face.specs.Pages.{Editing}
use Rattle.page_face.specs.PageCalls.{HasGivenUp}
use Rattle.page_face.proofs.PageLaws.{editing_join, reading_same}
use Rattle.overflow.specs.Editing.{AreInUse}
use Rattle.overflow.proofs.Giving.{front_in_use, last_in_use}
use Rattle.overflow.proofs.Written.{GoesOn}
use Rattle.tree_edit.specs.Editing.{EditsPages, giving}
use Rattle.tree_edit.proofs.Edits.{edits_join, edits_give, edits_none, still_used}

-- the pages done were given up
pub record GaveSoFar {P : Type 0} (pages : Ghosts P) (old now : P) (done : List ℕ) : Type 0 where
  pub given : (world : View) → pages.tells now world → AreInUse pages old world done → pages.neat old world → EditsPages pages (giving done) old now world
  pub last : pages.last_page now ≡ pages.last_page old
  pub edits : Editing pages old now

pub gave_none : {P : Type 0} (pages : Ghosts P) (old : P) → pages.ready old → pages.follows old old → GaveSoFar pages old old []
gave_none pages old ready follows = record {
  given = λ world told used neat. edits_none pages old world neat;
  last = refl;
  edits = (reading_same pages old ready follows).edits;
}

pub gave_more : {P : Type 0} (pages : Ghosts P) (old now then : P) (done : List ℕ) (page : ℕ) → GoesOn pages → HasGivenUp pages now page (Ok tt) then
    → GaveSoFar pages old now done → GaveSoFar pages old then (done ++ page ∷ [])
gave_more pages old now then done page on up so_far = record {
  given = λ world told used neat.
      let told_now = up.edits.narrows world told in
      let last = last_in_use pages old world done page used in
      let one = so_far.given world told_now (front_in_use pages old world done page used) neat in
      let two = edits_give pages page now then world (up.given world told) (still_used pages (giving done) old now world one page last.1 last.0) one.neat
      (up.changed world told one.neat) (up.read world told one.neat) in
      edits_join pages (giving done) (giving (page ∷ [])) old now then world one two;
  last = up.last ∙ so_far.last;
  edits = editing_join pages old now then so_far.edits up.edits on;
}

-- all of them but one that failed
pub gave_all : {P : Type 0} (pages : Ghosts P) (old now : P) (list done : List ℕ) → done ≡ list → GaveSoFar pages old now done → GaveSoFar pages old now list
gave_all pages old now list done is so_far = subst (GaveSoFar pages old now) is so_far
