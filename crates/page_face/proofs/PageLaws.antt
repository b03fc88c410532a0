-- Calls on pages that nothing changed, and two calls in a row.
use Rattle.std.proofs.Common.{◌∙◌, refl, arith}
use Rattle.page_spec.specs.View.{View}
use Rattle.page_face.specs.declared.pages_tells.PagesTells.{Ghosts}
use Rattle.page_face.specs.Pages.{KeepsFree, KeepsPages, Editing, ReadsAtMost}

-- what is as before over one world after two calls is so after both
pub free_join : {P : Type 0} (pages : Ghosts P) (old mid new : P) (world : View) → KeepsFree pages old mid world → KeepsFree pages mid new world
    → KeepsFree pages old new world
free_join pages old mid new world one two = record {
  stay = λ number free. two.stay number (one.stay number free);
  none_more = λ number free. one.none_more number (two.none_more number free);
  neat = λ neat. two.neat (one.neat neat);
  spare = λ spare. two.spare (one.spare spare);
  no_more_spare = λ spare. one.no_more_spare (two.no_more_spare spare);
}

pub pages_join : {P : Type 0} (pages : Ghosts P) (old mid new : P) (world : View) → KeepsPages pages old mid world → KeepsPages pages mid new world
    → KeepsPages pages old new world
pages_join pages old mid new world one two = record {
  each = λ number. two.each number ∙ one.each number;
  list = free_join pages old mid new world one.list two.list;
}

-- two calls in a row edit pages
pub editing_join : {P : Type 0} (pages : Ghosts P) (old mid new : P) → Editing pages old mid → Editing pages mid new
    → ((first second third : P) → pages.follows first second → pages.follows second third → pages.follows first third) → Editing pages old new
editing_join pages old mid new one two on = record {
  narrows = λ world tells. one.narrows world (two.narrows world tells);
  last = (let a = one.last in let b = two.last in omega arith);
  has = λ number has. two.has number (one.has number has);
  reads = λ number read. two.reads number (one.reads number read);
  ready = two.ready;
  page_size = two.page_size ∙ one.page_size;
  usable = two.usable ∙ one.usable;
  faults = (let a = one.faults in let b = two.faults in omega arith);
  loans = two.loans ∙ one.loans;
  follows = on old mid new one.follows two.follows;
}

-- two calls in a row read pages
pub reading_join : {P : Type 0} (pages : Ghosts P) (old mid new : P) → ReadsAtMost pages old mid → ReadsAtMost pages mid new
    → ((first second third : P) → pages.follows first second → pages.follows second third → pages.follows first third) → ReadsAtMost pages old new
reading_join pages old mid new one two on = record {
  each = λ world tells. pages_join pages old mid new world (one.each world (two.edits.narrows world tells)) (two.each world tells);
  last = two.last ∙ one.last;
  has = λ number. two.has number ∙ one.has number;
  edits = editing_join pages old mid new one.edits two.edits on;
}

-- pages that stay as they are
pub free_same : {P : Type 0} (pages : Ghosts P) (at : P) (world : View) → KeepsFree pages at at world
free_same pages at world = record {
  stay = λ number free. free;
  none_more = λ number free. free;
  neat = λ neat. neat;
  spare = λ spare. spare;
  no_more_spare = λ spare. spare;
}

pub reading_same : {P : Type 0} (pages : Ghosts P) (at : P) → pages.ready at → pages.follows at at → ReadsAtMost pages at at
reading_same pages at ready follows = record {
  each = λ world tells. record { each = λ number. refl; list = free_same pages at world };
  last = refl;
  has = λ number. refl;
  edits = record {
    narrows = λ world tells. tells;
    last = omega arith;
    has = λ number has. has;
    reads = λ number read. read;
    ready = ready;
    page_size = refl;
    usable = refl;
    faults = omega arith;
    loans = refl;
    follows = follows;
  };
}
