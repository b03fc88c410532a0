-- A transaction of page lines is good: on each page store that agrees with its snapshot on what it read, laying its images gives a
-- page store, to which its statements lead.
use Rattle.std.proofs.Common.{◌≡◌, ℕ, ◌≤◌, List, [], length, map, None, sym, subst, ap, ◌∙◌, arith}
use Rattle.std.specs.Prelude.{Contains, All, slice_index, drop, false}
use Rattle.std.proofs.lemmas.List.{get_or-drop}
use Rattle.page_spec.specs.PageMap.{PageMap, page_at, page_size_of, page_sizes, Agree}
use Rattle.engine_spec.specs.declared.commits.Mode.{Mode}
use Rattle.engine_spec.specs.declared.commits.Mode.TheVariants.{Plain, Concurrent}
use Rattle.engine_spec.specs.declared.commits.PageImage.{PageImage}
use Rattle.engine_spec.specs.Change.{Change, laid}
use Rattle.engine_spec.specs.Good.{Good, MayLayOn}
use Rattle.page_lines.specs.PageLines.{Statement, statement_text, Fills, AreImages, IsPageStore, PageLinesLead}
use Rattle.engine_spec.specs.Change.{image_of}
use Rattle.engine_spec.proofs.Laying.{legal_size, IsWhole, image_absent, page_at-length, laid-length, laid-whole, laid-page_size, laid-first, laid-at}

-- the change of a transaction of page lines is one of whole pages of the store
pub lines_whole : (change : Change) (s : ℕ) → AreImages s change.changed → change.fresh ≡ [] → IsWhole 16 s change
lines_whole change s images none = record {
  in_range = λ k d within. (let one = images.in_range k d within in (omega arith, one.1));
  whole = images.whole;
  fresh = none;
}

-- and leaves page 1
pub first_absent : (images : List PageImage) (s : ℕ) → AreImages s images → image_of images 1 ≡ None
first_absent images s are = image_absent images 1 (λ k d within is. (let one = are.in_range k d within in omega arith))

-- byte 100 is one of those from 100 on
tree_byte : (some others : List ℕ) → drop 100 some ≡ drop 100 others → slice_index some 100 ≡ slice_index others 100
tree_byte some others same =
    sym (get_or-drop 100 some 0 0) ∙ (ap (λ (rest : List ℕ). slice_index rest 0) same ∙ get_or-drop 100 others 0 0)

-- laying it gives a page store
pub laid-store : (pages : PageMap) (change : Change) → change.fresh ≡ [] → change.tail ≡ false → AreImages (page_size_of pages) change.changed
    → IsPageStore pages → IsPageStore (laid pages change)
laid-store pages change none tail images store =
    let s = page_size_of pages in
    let size : 100 ≤ s = omega (arith, legal_size s store.size) in
    let within : 16 ≤ length pages = (let c = store.count in omega arith) in
    let whole = lines_whole change s images none in
    let same : page_size_of (laid pages change) ≡ s = laid-page_size pages change 16 s size whole within (omega arith) store.each in
    record {
      count = laid-length pages change none ∙ store.count;
      size = subst (Contains page_sizes) (sym same) store.size;
      each = subst (λ (size : ℕ). All (λ (page : List ℕ). length page ≡ size) (laid pages change)) (sym same)
          (laid-whole pages change 16 s size whole within store.each);
      no_tree = tree_byte (page_at (laid pages change) 1) (page_at pages 1) (laid-first pages change 16 s size whole within (omega arith) store.each tail)
          ∙ store.no_tree;
    }

-- to which the statements lead
pub laid-lead : (pages : PageMap) (change : Change) (statements : List Statement) (said : List (List ℕ)) → change.fresh ≡ []
    → AreImages (page_size_of pages) change.changed → Fills (page_size_of pages) statements change.changed
    → said ≡ map statement_text statements → IsPageStore pages → PageLinesLead pages said (laid pages change)
laid-lead pages change statements said none images fills texts store = record {
  statements = statements;
  texts = texts;
  pages = λ page low high.
      laid-at pages change 16 page none images.different images.in_range (let c = store.count in omega arith) low
      ∙ sym (fills page (page_at pages page)
      (page_at-length pages (page_size_of pages) page store.each (omega arith) (let c = store.count in omega arith)));
}

-- a concurrent transaction may be laid on a map that agrees with its snapshot on what was read
agrees : (mode : Mode) (snapshot : PageMap) (reads : List ℕ) (before : PageMap) → mode ≡ Concurrent
    → MayLayOn mode snapshot reads before → Agree snapshot before reads
agrees Plain snapshot reads before is may = absurd cc
agrees Concurrent snapshot reads before is may = may

-- a transaction of page lines is good
pub good_lines : (snapshot : PageMap) (reads : List ℕ) (change : Change) (statements : List Statement) (said : List (List ℕ))
    → change.mode ≡ Concurrent → change.fresh ≡ [] → change.tail ≡ false → AreImages (page_size_of snapshot) change.changed
    → Fills (page_size_of snapshot) statements change.changed → said ≡ map statement_text statements
    → Good IsPageStore PageLinesLead snapshot reads change said
good_lines snapshot reads change statements said mode none tail images fills texts before store small may =
    let same = (agrees change.mode snapshot reads before mode may).page_size in
    let images_there = subst (λ (s : ℕ). AreImages s change.changed) same images in
    let fills_there = subst (λ (s : ℕ). Fills s statements change.changed) same fills in
    (laid-store before change none tail images_there store, laid-lead before change statements said none images_there fills_there texts store)
