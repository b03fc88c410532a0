-- Cells moved to the end of a page, and a page that lost a pointer.
use Rattle.std.proofs.Common.{◌≡◌, ℕ, zero, suc, ◌+◌, ◌-◌, ◌*◌, ◌%◌, ◌<◌, ◌≤◌, List, [], ◌∷◌, length, get_or, remove, take, All, refl, sym, ap, subst, ◌∙◌, inl, inr, arith, ◌⊎◌}
use Rattle.std.proofs.lemmas.List.{take_all}
use Rattle.std.proofs.lemmas.List.Edits.{length-remove}
use Rattle.std.proofs.lemmas.List.Sums.{sum_by-remove, sum_by-cons, sum_by-take-le, sum_by_more}
use Rattle.std.proofs.lemmas.List.Elements.{All-from_get_or}
use Rattle.std.proofs.lemmas.Bool.Decides.{nat_tests}
use Rattle.std.proofs.lemmas.Bool.{cases_lt}
use Rattle.page_spec.specs.Bytes.{u16_at, DiffersOnlyWithin}
use Rattle.page_spec.proofs.BytesLaws.{u16_at-above}
use Rattle.node_spec.specs.Cells.{IsCell}
use Rattle.node_spec.specs.Layout.{Piece, nowhere, hit, cover, size_of, taken, Stands, HasCells, IsPage, content_start}
use Rattle.node_spec.specs.declared.kinds.Kind.{Kind}
use Rattle.node_spec.specs.Cells.{cell_size}
use Rattle.node_spec.specs.Faults.{rest_at}
use Rattle.node_spec.proofs.CellLaws.{cell_stands}
use Rattle.node_spec.proofs.PieceLaws.{stands-kept, hit_most, hit_none}
use Rattle.page_edit.specs.Forms.{texts_of, DropsPointer, KeepsRest}
use Rattle.page_edit.specs.declared.form.Form.{Form}
use Rattle.page_edit.specs.Packing.{packed, Moved}
use Rattle.page_edit.proofs.Lists.{each-remove}

-- packed pieces: as many, as long, the same texts_of
pub length-packed : (top : ℕ) (cells : List Piece) → length (packed top cells) ≡ length cells
length-packed top [] = refl
length-packed top (c ∷ cells) = let rest = length-packed (top - length c.bytes) cells in grind arith

pub texts_of-packed : (top : ℕ) (cells : List Piece) → texts_of (packed top cells) ≡ texts_of cells
texts_of-packed top [] = refl
texts_of-packed top (c ∷ cells) = ap (λ xs. c.bytes ∷ xs) (texts_of-packed (top - length c.bytes) cells)

pub taken-packed : (top : ℕ) (cells : List Piece) → taken (packed top cells) ≡ taken cells
taken-packed top [] = refl
taken-packed top (c ∷ cells) =
    let p : Piece = record { start = top - length c.bytes; bytes = c.bytes } in
    let rest = taken-packed (top - length c.bytes) cells in
    sum_by-cons size_of p (packed (top - length c.bytes) cells) ∙ ap (λ n. length c.bytes + n) rest ∙ sym (sum_by-cons size_of c cells)

-- where each of them stands
pub packed-at : (top : ℕ) (cells : List Piece) (j : ℕ) → j < length cells → taken cells ≤ top
    → ((get_or (packed top cells) j nowhere).start + (taken (take j cells) + length (get_or cells j nowhere).bytes) ≡ top)
    × ((get_or (packed top cells) j nowhere).bytes ≡ (get_or cells j nowhere).bytes)
packed-at top [] j h fits = absurd (omega arith)
packed-at top (c ∷ cells) zero h fits = (omega (arith, sum_by-cons size_of c cells), refl)
packed-at top (c ∷ cells) (suc j) h fits =
    let sum = sum_by-cons size_of c cells in
    let front = sum_by-cons size_of c (take j cells) in
    let r = packed-at (top - length c.bytes) cells j (omega arith) (omega (arith, sum)) in
    (omega (arith, r.0, front, sum), r.1)

pub cover-packed_none : (top : ℕ) (cells : List Piece) → taken cells ≤ top → (k : ℕ) → top ≤ k → cover (packed top cells) k ≡ 0
cover-packed_none top [] fits k out = refl
cover-packed_none top (c ∷ cells) fits k out =
    let p : Piece = record { start = top - length c.bytes; bytes = c.bytes } in
    let sum = sum_by-cons size_of c cells in
    let rest = cover-packed_none (top - length c.bytes) cells (omega (arith, sum)) k (omega arith) in
    let here : hit k p ≡ 0 = hit_none k p (inr (omega (arith, sum))) in
    omega (arith, sum_by-cons (hit k) p (packed (top - length c.bytes) cells), here, rest)

pub cover-packed : (top : ℕ) (cells : List Piece) → taken cells ≤ top → (k : ℕ) → cover (packed top cells) k ≤ 1
cover-packed top [] fits k = omega arith
cover-packed top (c ∷ cells) fits k =
    let p : Piece = record { start = top - length c.bytes; bytes = c.bytes } in
    let sum = sum_by-cons size_of c cells in
    let all = sum_by-cons (hit k) p (packed (top - length c.bytes) cells) in
    elim (cases_lt k (top - length c.bytes)) [
      | inl lt ↦
          let here : hit k p ≡ 0 = hit_none k p (inl (omega arith)) in
          omega (arith, all, here, cover-packed (top - length c.bytes) cells (omega (arith, sum)) k)
      | inr ge ↦
          let rest = cover-packed_none (top - length c.bytes) cells (omega (arith, sum)) k ge in
          omega (arith, all, rest, hit_most k p)
    ]

-- a place that is known by its parts
pub stands-at : (page : List ℕ) (from to : ℕ) (piece : Piece) (start : ℕ) (bytes : List ℕ) → piece.start ≡ start → piece.bytes ≡ bytes
    → Stands page from to (record { start = start; bytes = bytes }) → Stands page from to piece
stands-at page from to piece start bytes a b s = record {
  low = rw a s.low;
  high = rw (a, b) s.high;
  some = rw b s.some;
  same = rw (a, b) s.same;
}

-- Room that is left while the pointers i cells are moved.
pub room_left : {usable at pointers content : ℕ} {kind : Kind} {from : List ℕ} {cells : List Piece} → HasCells usable at pointers content kind from cells
    → {old new : List ℕ} {end i : ℕ} → Moved usable pointers old new cells end i → i < length cells
    → content + length (get_or cells i nowhere).bytes ≤ end
room_left {cells = cells} h {i = i} m less =
    let more = sum_by_more size_of cells i nowhere less in
    let most = sum_by-take-le size_of cells (i + 1) in
    omega (arith, m.down_to, h.fits, more, most)

-- where the next cell starts, and how long it is
pub read_at : {usable at pointers content : ℕ} {kind : Kind} {from : List ℕ} {cells : List Piece} → HasCells usable at pointers content kind from cells
    → (i : ℕ) → i < length cells → (start : ℕ) → start ≡ u16_at from (pointers + 2 * i)
    → (start ≡ (get_or cells i nowhere).start) × (cell_size kind usable (rest_at usable from start) ≡ length (get_or cells i nowhere).bytes)
    × (start + cell_size kind usable (rest_at usable from start) ≤ usable)
read_at {usable} {kind = kind} {from = from} {cells} h i less start starts =
    let piece = get_or cells i nowhere in
    let s = h.stand i nowhere less in
    let is : start ≡ piece.start = starts ∙ h.points i less in
    let size : cell_size kind usable (rest_at usable from start) ≡ length piece.bytes =
    ap (λ n. cell_size kind usable (rest_at usable from n)) is ∙ (cell_stands kind usable from piece.bytes piece.start (h.kinds i less) s.same s.high h.whole).0 in
    (is, size, omega (arith, is, size, s.high))

pub moved_none : (usable pointers : ℕ) (old : List ℕ) (cells : List Piece) → Moved usable pointers old old cells usable 0
moved_none usable pointers old cells = record {
  same_length = refl;
  down_to = omega arith;
  points = λ j h. absurd (omega arith);
  stand = λ j h. absurd (omega arith);
  front = λ j h. refl;
  rest = λ j h. refl;
}

-- one cell more is moved
pub moved_more : (usable at pointers content : ℕ) (kind : Kind) (from : List ℕ) (cells : List Piece) → HasCells usable at pointers content kind from cells
    → (old bytes new : List ℕ) (end i start len : ℕ) → Moved usable pointers old bytes cells end i → i < length cells
    → start ≡ (get_or cells i nowhere).start → len ≡ length (get_or cells i nowhere).bytes
    → length new ≡ length bytes
    → u16_at new (pointers + 2 * i) ≡ end - len
    → ((k : ℕ) → k < len → get_or new (end - len + k) 0 ≡ get_or from (start + k) 0)
    → ((k : ℕ) → (k < pointers + 2 * i) ⊎ ((pointers + 2 * i + 2 ≤ k) × (k < end - len)) ⊎ (end ≤ k) → get_or new k 0 ≡ get_or bytes k 0)
    → Moved usable pointers old new cells (end - len) (i + 1)
unfolding u16_at
moved_more usable at pointers content kind from cells h old bytes new end i start len m less start_is len_is size points copied others =
    let piece = get_or cells i nowhere in
    let left = room_left h m less in
    let more = sum_by_more size_of cells i nowhere less in
    let s = h.stand i nowhere less in
    let slots = h.room in
    let top : taken cells ≤ usable = omega (arith, h.fits) in
    let placed = packed-at usable cells i less top in
    let place : (get_or (packed usable cells) i nowhere).start ≡ end - len = omega (arith, placed.0, m.down_to) in
    let here : Stands new (end - len) usable (record { start = end - len; bytes = piece.bytes }) = record {
      low = omega arith;
      high = omega (arith, m.down_to);
      some = s.some;
      same = λ k l. copied k (omega arith) ∙ ap (λ n. get_or from (n + k) 0) start_is ∙ s.same k l;
    } in
    record {
      same_length = size ∙ m.same_length;
      down_to = omega (arith, m.down_to, more);
      points = λ j l. elim (cases_lt j i) [
        | inl lt ↦
            let a = others (pointers + 2 * j) (inl (omega arith)) in
            let b = others (pointers + 2 * j + 1) (inl (omega arith)) in
            rw (a, b) (m.points j lt)
        | inr ge ↦
            let e : j ≡ i = omega arith in
            rw e (points ∙ sym place)
      ];
      stand = λ j l. elim (cases_lt j i) [
        | inl lt ↦ stands-kept (m.stand j lt) (λ k o. others k (inr (inr o))) (end - len) (omega arith)
        | inr ge ↦
            let e : j ≡ i = omega arith in
            rw e (stands-at new (end - len) usable (get_or (packed usable cells) i nowhere) (end - len) piece.bytes place placed.1 here)
      ];
      front = λ j l. others j (inl (omega arith)) ∙ m.front j l;
      rest = λ j l. others j (inr (inr (omega (arith, m.down_to)))) ∙ m.rest j l;
    }

pub content_wraps : (page : List ℕ) (at n : ℕ) → u16_at page (at + 5) ≡ n % 65536 → 0 < n → n ≤ 65536 → content_start page at ≡ n
unfolding content_start
content_wraps page at n e pos most = elim (cases_lt n 65536) [
  | inl lt ↦ let small : n % 65536 ≡ n = grind arith in grind (arith, nat_tests)
  | inr ge ↦ let is : n ≡ 65536 = omega arith in let wraps : n % 65536 ≡ 0 = rw is refl in grind (arith, nat_tests)
]

-- all cells are moved, and the head says so
pub packed_page : (usable at pointers content : ℕ) (kind : Kind) (old mid new : List ℕ) (cells : List Piece) (end : ℕ) → HasCells usable at pointers content kind old cells
    → Moved usable pointers old mid cells end (length cells) → content_start new at ≡ end
    → u16_at new (at + 1) ≡ 0 → get_or new (at + 7) 0 ≡ 0 → u16_at new (at + 3) ≡ u16_at mid (at + 3) → get_or new at 0 ≡ get_or mid at 0
    → DiffersOnlyWithin mid new (at + 1) (at + 8)
    → IsPage usable at pointers kind new (packed usable cells) []
unfolding u16_at
packed_page usable at pointers content kind old mid new cells end h m starts none fragments counted flag others =
    let low = h.head in
    let len = length-packed usable cells in
    let sum = taken-packed usable cells in
    let whole : taken (take (length cells) cells) ≡ taken cells = ap taken (take_all (length cells) cells (omega arith)) in
    let top : taken cells ≤ usable = omega (arith, h.fits) in
    let same_flag : get_or new at 0 ≡ get_or old at 0 = flag ∙ m.front at (omega arith) in
    let stand : All (Stands new (content_start new at) usable) (packed usable cells) =
    All-from_get_or (Stands new (content_start new at) usable) (packed usable cells) nowhere (λ j l. subst (λ n. Stands new n usable (get_or (packed usable cells) j nowhere)) (sym starts)
    (stands-kept (m.stand j (omega (arith, len))) (λ k o. others.after k (omega (arith, h.room, h.fits, m.down_to, whole))) end (omega arith))) in
    record {
      holds = record {
        whole = omega (arith, others.same_length, m.same_length, h.whole);
        least = h.least;
        most = h.most;
        head = h.head;
        flag = same_flag ∙ h.flag;
        count = counted ∙ rw (m.front (at + 3) (omega arith), m.front (at + 3 + 1) (omega arith)) h.count ∙ sym len;
        points = λ j l. u16_at-above others (pointers + 2 * j) (omega arith) ∙ m.points j (omega (arith, len));
        room = omega (arith, starts, len, h.room, h.fits, m.down_to, whole);
        kinds = λ j l. rw (packed-at usable cells j (omega (arith, len)) top).1 (h.kinds j (omega (arith, len)));
        fits = omega (arith, starts, sum, m.down_to, whole);
        stand = stand;
        once = cover-packed usable cells top;
      };
      chain = none;
      free = λ j d l. absurd (omega arith);
      apart = λ j. omega (arith, cover-packed usable cells top j);
      all = omega (arith, starts, sum, m.down_to, whole, fragments);
      few = omega (arith, fragments);
    }

-- A page without one of its pointers holds the other cells.
pub dropped : (usable at pointers content k : ℕ) (kind : Kind) (old new : List ℕ) (cells : List Piece) → HasCells usable at pointers content kind old cells
    → k < length cells → DropsPointer old new at pointers (length cells) k → u16_at new (at + 3) + 1 ≡ length cells
    → HasCells usable at pointers content kind new (remove cells k)
dropped usable at pointers content k kind old new cells h place drops counted =
    let len = length-remove cells k place in
    let kept : (j : ℕ) → content ≤ j → get_or new j 0 ≡ get_or old j 0 = λ j o. drops.after j (omega (arith, h.room)) in
    record {
      whole = omega (arith, drops.same_length, h.whole);
      least = h.least;
      most = h.most;
      head = h.head;
      flag = drops.flag ∙ h.flag;
      count = omega (arith, counted, len);
      points = λ i l.
          each-remove (λ n p. u16_at new (pointers + 2 * n) ≡ p.start) cells k nowhere place
          (λ n o. drops.below n o ∙ h.points n (omega arith)) (λ n o q. drops.above n o q ∙ h.points (n + 1) q) i (omega (arith, len));
      room = omega (arith, len, h.room);
      kinds = λ i l.
          each-remove (λ n p. IsCell kind usable p.bytes) cells k nowhere place
          (λ n o. h.kinds n (omega arith)) (λ n o q. h.kinds (n + 1) q) i (omega (arith, len));
      fits = omega (arith, sum_by-remove size_of cells k nowhere place, h.fits);
      stand = λ i d l.
          each-remove (λ n p. Stands new content usable p) cells k d place
          (λ n o. stands-kept (h.stand n d (omega arith)) kept content (omega arith))
          (λ n o q. stands-kept (h.stand (n + 1) d q) kept content (omega arith)) i (omega (arith, len));
      once = λ j. omega (arith, sum_by-remove (hit j) cells k nowhere place, h.once j);
    }

pub moved_content : {usable pointers : ℕ} {old new : List ℕ} {cells : List Piece} {end : ℕ} → Moved usable pointers old new cells end (length cells) → end + taken cells ≡ usable
moved_content {cells = cells} m = omega (arith, m.down_to, ap taken (take_all (length cells) cells (omega arith)))

pub moved_count : {usable at pointers content : ℕ} {kind : Kind} {from : List ℕ} {cells : List Piece} → HasCells usable at pointers content kind from cells
    → {old new : List ℕ} {end i : ℕ} → Moved usable pointers old new cells end i → u16_at new (at + 3) ≡ u16_at old (at + 3)
unfolding u16_at
moved_count {at = at} h m = let low = h.head in rw (m.front (at + 3) (omega arith), m.front (at + 3 + 1) (omega arith)) refl

-- bytes that agree in all usable bytes hold the same cells
pub has_alike : {usable at pointers content : ℕ} {kind : Kind} {a b : List ℕ} {cells : List Piece} → HasCells usable at pointers content kind a cells
    → usable ≤ length b → ((j : ℕ) → j < usable → get_or b j 0 ≡ get_or a j 0) → HasCells usable at pointers content kind b cells
unfolding u16_at
has_alike {usable} {at} {pointers} {content} {kind} {a} {b} {cells} h long same =
    let low = h.head in
    let room = h.room in
    let fits = h.fits in
    record {
      whole = long;
      least = h.least;
      most = h.most;
      head = h.head;
      flag = same at (omega arith) ∙ h.flag;
      count = rw (same (at + 3) (omega arith), same (at + 3 + 1) (omega arith)) h.count;
      points = λ i l. rw (same (pointers + 2 * i) (omega arith), same (pointers + 2 * i + 1) (omega arith)) (h.points i l);
      room = h.room;
      kinds = h.kinds;
      fits = h.fits;
      stand = λ i d l. let s = h.stand i d l in record {
        low = s.low;
        high = s.high;
        some = s.some;
        same = λ k m. same _ (omega (arith, s.high)) ∙ s.same k m;
      };
      once = h.once;
    }

-- what the bytes that are left tell, once i cells are taken off
pub free_less : {usable at pointers content : ℕ} {kind : Kind} {from : List ℕ} {cells : List Piece} → HasCells usable at pointers content kind from cells
    → (i free : ℕ) → i < length cells → free + taken (take i cells) + pointers + 2 * length cells ≡ usable
    → (length (get_or cells i nowhere).bytes ≤ free)
    × (free - length (get_or cells i nowhere).bytes + taken (take (i + 1) cells) + pointers + 2 * length cells ≡ usable)
free_less {cells = cells} h i free less is =
    let more = sum_by_more size_of cells i nowhere less in
    let most = sum_by-take-le size_of cells (i + 1) in
    let low : length (get_or cells i nowhere).bytes ≤ free = omega (arith, more, most, h.fits, h.room) in
    (low, omega (arith, more, low))

-- what packing leaves
pub packed_keeps : (form : Form) (old mid new : List ℕ) {content end : ℕ} {cells : List Piece} → HasCells form.u form.at form.pointers content form.kind old cells
    → Moved form.u form.pointers old mid cells end (length cells) → DiffersOnlyWithin mid new (form.at + 1) (form.at + 8) → KeepsRest form old new
packed_keeps form old mid new {cells = cells} h m others =
    let low = h.head in
    let room : form.pointers ≤ form.u = omega (arith, h.room, h.fits) in
    record {
      same_length = others.same_length ∙ m.same_length;
      head = λ j l. others.before j (omega arith) ∙ m.front j (omega arith);
      right = λ j l n. others.after j (omega arith) ∙ m.front j n;
      past = λ j l. others.after j (omega arith) ∙ m.rest j l;
    }
