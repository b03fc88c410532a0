use Rattle.std.proofs.Common.{◌-◌, ℕ, None, false, refl, sym, ◌∙◌, ap, arith}
use Rattle.recover.specs.Seeing.{SeenView, first_missing}
use Rattle.recover.specs.Looking.{is_whole_by, named_read}
use Rattle.recover.proofs.OldView.{IsOldView, whole, seen_is, missing_of, none_there_of, fault_is}
use Rattle.recover.proofs.inspect.see_old.Goals as goal

pub returns-then-count-eq0-clause-refused : goal.returns-then-count-eq0-clause-refused
returns-then-count-eq0-clause-refused c files read =
    none_there_of c.args.looked.now c.args.first.now c.requires.legal c.requires.old c.requires.judged files read (sym c.count_pages-count.ensures ∙ c.if-count-eq0.true)

abbrev view_of : goal.After-has_frames → SeenView
view_of c = record {
  is_new = false;
  page_size = c.args.first.now.header.page_size;
  usable = c.args.first.now.header.page_size - c.from.result;
  is_ours = c.is_ours.result;
  named = c.size_named.result;
  byte = c.args.first.now.byte;
  one = c.args.looked.now.one.front;
  two = c.args.looked.now.two.front;
  some_frames = c.has_frames.result;
  places = c.in-Ok.places.items;
}

is_view : (c : goal.After-has_frames) → IsOldView c.args.looked.now c.args.first.now (view_of c)
is_view c = record {
  new = refl;
  page_size = refl;
  usable = ap (λ (n : ℕ). c.args.first.now.header.page_size - n) c.from.ensures;
  ours = c.is_ours.ensures;
  named = c.size_named.ensures ∙ ap (λ (n : ℕ). named_read c.args.first.now n) c.count_pages-count.ensures;
  byte = refl;
  one = refl;
  two = refl;
  some = c.has_frames.ensures;
  places = c.in-Ok.ensures.places;
  count = c.in-Ok.ensures.count ∙ c.count_pages-count.ensures;
  few = c.in-Ok.ensures.few;
  some_page = omega (arith, c.in-Ok.ensures.count);
  none_missing =
      ap (λ (n : ℕ). first_missing (is_whole_by c.args.looked.now.one c.args.looked.now.two c.args.first.now.header.page_size c.args.looked.now.main) 1 n) c.in-Ok.ensures.count ∙ c.in-Ok.ensures.whole;
}

pub returns-in-Ok-clause-whole : goal.returns-in-Ok-clause-whole
returns-in-Ok-clause-whole c = whole c.args.looked.now c.args.first.now c.requires.legal c.requires.old c.requires.judged (view_of c) (is_view c)

pub returns-in-Ok-clause-seen : goal.returns-in-Ok-clause-seen
returns-in-Ok-clause-seen c new_size files read = seen_is c.args.looked.now c.args.first.now c.requires.legal c.requires.old c.requires.judged files read new_size (view_of c) (is_view c)

pub returns-in-Ok-clause-none : goal.returns-in-Ok-clause-none
returns-in-Ok-clause-none c files read =
    missing_of c.args.looked.now c.args.first.now c.requires.legal c.requires.old c.requires.judged files read c.count_pages-count.result None c.count_pages-count.ensures (omega arith) c.in-Ok.ensures.whole

pub returns-in-Err-clause-refused : goal.returns-in-Err-clause-refused
returns-in-Err-clause-refused c =
    fault_is c.args.looked.now c.args.first.now c.requires.legal c.requires.old c.requires.judged c.count_pages-count.result c.in-Err.fault c.count_pages-count.ensures (omega arith) c.in-Err.ensures.missing
