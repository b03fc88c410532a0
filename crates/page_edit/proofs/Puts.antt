-- A page with one cell more, out of its gap.
use Rattle.std.proofs.Common.{◌≡◌, ℕ, ◌+◌, ◌*◌, ◌<◌, ◌≤◌, List, length, get_or, insert, All, refl, sym, subst, ◌∙◌, inl, inr, arith, ◌⊎◌}
use Rattle.std.proofs.lemmas.List.Edits.{length-insert}
use Rattle.std.proofs.lemmas.List.Sums.{sum_by-insert}
use Rattle.std.proofs.lemmas.Bool.Decides.{nat_tests}
use Rattle.std.proofs.lemmas.Bool.{cases_lt}
use Rattle.page_spec.specs.Bytes.{u16_at, DiffersOnlyWithin}
use Rattle.page_spec.proofs.BytesLaws.{u16_at-below, u16_at-above}
use Rattle.node_spec.specs.Cells.{IsCell}
use Rattle.node_spec.specs.Layout.{Piece, nowhere, hit, cover, size_of, taken, Stands, HasCells, IsPage, IsChain, content_start}
use Rattle.node_spec.specs.declared.kinds.Kind.{Kind}
use Rattle.node_spec.proofs.PieceLaws.{stands-kept, hit_most, hit_none, cover_none}
use Rattle.page_edit.specs.Forms.{AddsPointer, KeepsRest}
use Rattle.page_edit.specs.declared.form.Form.{Form}
use Rattle.page_edit.proofs.Lists.{each-insert}

pub content_from : (page : List ℕ) (at n : ℕ) → u16_at page (at + 5) ≡ n → 0 < n → content_start page at ≡ n
unfolding content_start
content_from page at n e pos = grind (arith, nat_tests)

u16_at-same : (new old : List ℕ) (at : ℕ) → get_or new at 0 ≡ get_or old at 0 → get_or new (at + 1) 0 ≡ get_or old (at + 1) 0 → u16_at new at ≡ u16_at old at
unfolding u16_at
u16_at-same new old at a b = rw (a, b) refl

-- The new page has the cell below the old content, one pointer more, and a new head.
module _ (usable at pointers k start : ℕ) (kind : Kind) (cell old laid pointed new : List ℕ) (cells blocks : List Piece)
    (page : IsPage usable at pointers kind old cells blocks) (place : k ≤ length cells) (some : 4 ≤ length cell) (whole : IsCell kind usable cell)
    (below : start + length cell ≡ content_start old at) (room : pointers + 2 * length cells + 2 ≤ start)
    (lays : (j : ℕ) → j < length cell → get_or laid (start + j) 0 ≡ get_or cell j 0)
    (others : DiffersOnlyWithin old laid start (start + length cell))
    (adds : AddsPointer laid pointed pointers (length cells) k start)
    (counted : u16_at new (at + 3) ≡ length cells + 1) (starts : u16_at new (at + 5) ≡ start)
    (head : DiffersOnlyWithin pointed new (at + 3) (at + 7)) where
  has : HasCells usable at pointers (content_start old at) kind old cells
  has = page.holds

  abbrev pub piece : Piece
  piece = record { start = start; bytes = cell }

  content : content_start new at ≡ start
  content = content_from new at start starts (omega (arith, has.head))

  -- what stays: the content, and the rest of the front
  kept : (j : ℕ) → content_start old at ≤ j → get_or new j 0 ≡ get_or old j 0
  kept j h =
      let low = has.head in
      head.after j (omega arith) ∙ adds.after j (omega arith) ∙ others.after j (omega arith)

  front : (j : ℕ) → j < pointers → (j < at + 3) ⊎ (at + 7 ≤ j) → get_or new j 0 ≡ get_or old j 0
  front j h (inl low) = head.before j low ∙ adds.before j h ∙ others.before j (omega arith)
  front j h (inr high) = head.after j high ∙ adds.before j h ∙ others.before j (omega arith)

  laid_here : (j : ℕ) → j < length cell → get_or new (start + j) 0 ≡ get_or cell j 0
  laid_here j h =
      let low = has.head in
      head.after _ (omega arith) ∙ adds.after _ (omega arith) ∙ lays j h

  stand : Stands new start usable piece
  stand = record {
    low = omega arith;
    high = omega (arith, has.fits);
    some = some;
    same = laid_here;
  }

  -- each pointer
  pointer_low : (i : ℕ) → i < k → u16_at new (pointers + 2 * i) ≡ (get_or cells i nowhere).start
  pointer_low i h =
      let low = has.head in
      u16_at-above head (pointers + 2 * i) (omega arith) ∙ adds.below i h ∙ u16_at-below others (pointers + 2 * i) (omega arith) ∙ has.points i (omega arith)

  pointer_here : u16_at new (pointers + 2 * k) ≡ start
  pointer_here = let low = has.head in u16_at-above head (pointers + 2 * k) (omega arith) ∙ adds.added

  pointer_high : (i : ℕ) → k ≤ i → i < length cells → u16_at new (pointers + 2 * (i + 1)) ≡ (get_or cells i nowhere).start
  pointer_high i h l =
      let low = has.head in
      u16_at-above head (pointers + 2 * (i + 1)) (omega arith) ∙ adds.above i h l ∙ u16_at-below others (pointers + 2 * i) (omega arith) ∙ has.points i l

  len : length (insert cells k piece) ≡ length cells + 1
  len = length-insert cells k piece place

  sizes : taken (insert cells k piece) ≡ taken cells + length cell
  sizes = sum_by-insert size_of cells k piece

  covers : (j : ℕ) → cover (insert cells k piece) j ≡ cover cells j + hit j piece
  covers j = sum_by-insert (hit j) cells k piece

  all_stand : All (Stands new start usable) (insert cells k piece)
  all_stand i d h =
      each-insert (λ n p. Stands new start usable p) cells k piece d place
      (λ n l. stands-kept (has.stand n d (omega arith)) kept start (omega arith)) stand
      (λ n l m. stands-kept (has.stand n d m) kept start (omega arith)) i (omega (arith, len))

  -- the new cell's bytes were in no piece
  apart : (j : ℕ) → cover (insert cells k piece) j + cover blocks j ≤ 1
  apart j = elim (cases_lt j (content_start old at)) [
    | inl lt ↦
        let a = cover_none old (content_start old at) usable cells has.stand j (inl lt) in
        let b = cover_none old (content_start old at) usable blocks page.free j (inl lt) in
        omega (arith, covers j, hit_most j piece)
    | inr ge ↦
        let none : hit j piece ≡ 0 = hit_none j piece (inr (omega arith)) in
        omega (arith, covers j, page.apart j)
  ]

  first_block : u16_at new (at + 1) ≡ u16_at old (at + 1)
  first_block =
      let low = has.head in
      u16_at-same new old (at + 1) (front _ (omega arith) (inl (omega arith))) (front _ (omega arith) (inl (omega arith)))

  same_flag : get_or new at 0 ≡ get_or old at 0
  same_flag = let low = has.head in front _ (omega arith) (inl (omega arith))

  fragments : get_or new (at + 7) 0 ≡ get_or old (at + 7) 0
  fragments = let low = has.head in front _ (omega arith) (inr (omega arith))

  long : usable ≤ length new
  long = omega (arith, head.same_length, adds.same_length, others.same_length, has.whole)

  -- what stays outside
  pub put_keeps : (form : Form) → form.at ≡ at → form.pointers ≡ pointers → form.u ≡ usable → KeepsRest form old new
  put_keeps form at_is pointers_is u_is = record {
    same_length = head.same_length ∙ adds.same_length ∙ others.same_length;
    head = λ j l. front j (omega (arith, has.head)) (inl (omega arith));
    right = λ j l m. front j (omega arith) (inr (omega arith));
    past = λ j l. kept j (omega (arith, has.fits));
  }

  pub put_is_page : IsPage usable at pointers kind new (insert cells k piece) blocks
  put_is_page = record {
    holds = record {
      whole = long;
      least = has.least;
      most = has.most;
      head = has.head;
      flag = same_flag ∙ has.flag;
      count = counted ∙ sym len;
      points = λ i h.
          each-insert (λ n p. u16_at new (pointers + 2 * n) ≡ p.start) cells k piece nowhere place pointer_low pointer_here pointer_high i (omega (arith, len));
      room = omega (arith, content, len);
      kinds = λ i h.
          each-insert (λ n p. IsCell kind usable p.bytes) cells k piece nowhere place
          (λ n l. has.kinds n (omega arith)) whole (λ n l m. has.kinds n m) i (omega (arith, len));
      fits = omega (arith, content, sizes, has.fits);
      stand = subst (λ n. All (Stands new n usable) (insert cells k piece)) (sym content) all_stand;
      once = λ j. omega (arith, apart j);
    };
    chain = subst (λ n. IsChain 0 n blocks) (sym first_block) page.chain;
    free = subst (λ n. All (Stands new n usable) blocks) (sym content) (λ i d h. stands-kept (page.free i d h) kept start (omega arith));
    apart = apart;
    all = omega (arith, content, sizes, fragments, page.all);
    few = omega (arith, fragments, page.few);
  }
