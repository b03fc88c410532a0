-- Pages that stay as they are.
use Rattle.page_face.specs.declared.pages_tells.PagesTells.{Ghosts}
use Rattle.page_face.specs.Pages.{Editing}
use Rattle.page_face.proofs.PageLaws.{reading_same}

pub editing_same : {P : Type 0} (pages : Ghosts P) (at : P) → pages.ready at → pages.follows at at → Editing pages at at
editing_same pages at ready follows = (reading_same pages at ready follows).edits
