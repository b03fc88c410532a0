-- Page 1 with the header fields that a commit gives it: all but those stay, and its size in pages counts.
use Rattle.std.proofs.Common.{◌≡◌, ◌∙◌, ℕ, ◌+◌, ◌*◌, ◌/◌, ◌^◌, ◌≤◌, ◌<◌, ◌&&◌, ◌==◌, if◌then◌else◌, max, true, List, ◌++◌, length, take, drop, refl, sym, ap, arith, get_or-take, length-take, length-drop}
use Rattle.std.specs.Prelude.{slice_index, nat_lt, All}
use Rattle.std.proofs.lemmas.Bool.Decides.{Decides-eqb, nat_tests}
use Rattle.std.proofs.lemmas.List.{drop_at, get_or-drop, get_or_append_left, get_or-append-add}
use Rattle.std.proofs.lemmas.Nat.{from_be_bytes-to_be_bytes_4}
use Rattle.page_spec.specs.Bytes.{u16_at, u32_at}
use Rattle.page_spec.specs.Header.{fields_of, pages_in, spelled_page_size}
use Rattle.page_spec.specs.PageMap.{PageMap, page_at}
use Rattle.crash_spec.specs.Recovered.{NamesPages}
use Rattle.engine_spec.specs.Change.{Change, between, laid, next_counter, put_pages, stamped, u32_bytes}
use Rattle.engine_spec.proofs.Laying.{IsWhole, laid-length, laid-put, page_at-length, put_pages-length, put_pages-whole, with_header-first}

module _ (size : ℕ) (first : List ℕ) (long : 100 ≤ length first) where
  abbrev counter : List ℕ
  counter = u32_bytes (next_counter first)

  -- bytes before 24 stay
  pub low : (k : ℕ) → k < 24 → slice_index (stamped size first) k ≡ slice_index first k
  low k less =
      get_or_append_left (take 24 first) (counter ++ (u32_bytes size ++ (between 32 92 first ++ (counter ++ drop 96 first)))) 0 k (omega (arith, length-take 24 first, less))
      ∙ get_or-take 24 first k 0 less

  -- what stands from 24 on
  behind : drop 24 (stamped size first) ≡ counter ++ (u32_bytes size ++ (between 32 92 first ++ (counter ++ drop 96 first)))
  behind = drop_at (take 24 first) (counter ++ (u32_bytes size ++ (between 32 92 first ++ (counter ++ drop 96 first)))) 24 (simp length-take (omega arith))

  at : (k : ℕ) → slice_index (stamped size first) (24 + k) ≡ slice_index (counter ++ (u32_bytes size ++ (between 32 92 first ++ (counter ++ drop 96 first)))) k
  at k = sym (get_or-drop 24 (stamped size first) k 0) ∙ ap (λ (bytes : List ℕ). slice_index bytes k) behind

  -- the counter, the size and the counter again
  at_counter : (k : ℕ) → k < 4 → slice_index (stamped size first) (24 + k) ≡ slice_index counter k
  at_counter k less = at k ∙ get_or_append_left counter (u32_bytes size ++ (between 32 92 first ++ (counter ++ drop 96 first))) 0 k less

  at_size : (k : ℕ) → k < 4 → slice_index (stamped size first) (28 + k) ≡ slice_index (u32_bytes size) k
  at_size k less =
      ap (λ (n : ℕ). slice_index (stamped size first) n) (omega arith)
      ∙ at (4 + k) ∙ get_or-append-add counter (u32_bytes size ++ (between 32 92 first ++ (counter ++ drop 96 first))) k 0
      ∙ get_or_append_left (u32_bytes size) (between 32 92 first ++ (counter ++ drop 96 first)) 0 k less

  middle : length (between 32 92 first) ≡ 60
  middle = simp (length-take, length-drop) (omega arith)

  pub at_middle : (k : ℕ) → k < 60 → slice_index (stamped size first) (32 + k) ≡ slice_index first (32 + k)
  at_middle k less =
      ap (λ (n : ℕ). slice_index (stamped size first) n) (omega arith)
      ∙ at (4 + (4 + k)) ∙ get_or-append-add counter (u32_bytes size ++ (between 32 92 first ++ (counter ++ drop 96 first))) (4 + k) 0
      ∙ get_or-append-add (u32_bytes size) (between 32 92 first ++ (counter ++ drop 96 first)) k 0
      ∙ get_or_append_left (between 32 92 first) (counter ++ drop 96 first) 0 k (omega (arith, middle, less))
      ∙ get_or-take 60 (drop 32 first) k 0 less
      ∙ get_or-drop 32 first k 0

  at_valid : (k : ℕ) → k < 4 → slice_index (stamped size first) (92 + k) ≡ slice_index counter k
  at_valid k less =
      ap (λ (n : ℕ). slice_index (stamped size first) n) (omega arith)
      ∙ at (4 + (4 + (60 + k))) ∙ get_or-append-add counter (u32_bytes size ++ (between 32 92 first ++ (counter ++ drop 96 first))) (4 + (60 + k)) 0
      ∙ get_or-append-add (u32_bytes size) (between 32 92 first ++ (counter ++ drop 96 first)) (60 + k) 0
      ∙ ap (λ (n : ℕ). slice_index (between 32 92 first ++ (counter ++ drop 96 first)) n) (omega (arith, middle))
      ∙ get_or-append-add (between 32 92 first) (counter ++ drop 96 first) k 0
      ∙ get_or_append_left counter (drop 96 first) 0 k less

  same_counter : u32_at (stamped size first) 24 ≡ u32_at (stamped size first) 92
  unfolding u32_at
  same_counter =
      rw (
        at_counter 0 (omega arith),
        at_counter 1 (omega arith),
        at_counter 2 (omega arith),
        at_counter 3 (omega arith),
        at_valid 0 (omega arith),
        at_valid 1 (omega arith),
        at_valid 2 (omega arith),
        at_valid 3 (omega arith),
      ) refl

-- The size is read where it was written.
size_there : (size : ℕ) (first : List ℕ) → 100 ≤ length first → size < 2 ^ 32 → u32_at (stamped size first) 28 ≡ size
unfolding u32_at
size_there size first long small =
    rw (at_size size first long 0 (omega arith), at_size size first long 1 (omega arith), at_size size first long 2 (omega arith), at_size size first long 3 (omega arith))
    (omega (arith, from_be_bytes-to_be_bytes_4 size small))

-- so page 1 names so many pages, however long a file is
pub stamped_counts : (size : ℕ) (first : List ℕ) → 100 ≤ length first → 1 ≤ size → size < 2 ^ 32 → (n : ℕ) → pages_in (stamped size first) n ≡ size
unfolding pages_in fields_of
stamped_counts size first long some small n =
    by (u32_at (stamped size first) 28) (u32_at (stamped size first) 24) (u32_at (stamped size first) 92) (size_there size first long small) (same_counter size first long)
  where
    less : (pages : ℕ) → pages ≡ size → nat_lt 0 pages ≡ true
    less pages is = grind (arith, nat_tests)

    by : (pages counter valid : ℕ) → pages ≡ size → counter ≡ valid
        → (if nat_lt 0 pages && counter == valid then pages else n / spelled_page_size (u16_at (stamped size first) 16)) ≡ size
    by pages counter valid is same = rw ((Decides-eqb counter valid).1 same, less pages is) is

-- What a commit makes of a map names its pages, however long a file is.
pub laid_names : (pages : PageMap) (change : Change) (n s : ℕ) → 100 ≤ s → IsWhole n s change → n ≤ length pages → All (λ page. length page ≡ s) pages → length pages < 2 ^ 32
    → (long size : ℕ) → NamesPages long size (laid pages change)
laid_names pages change n s size whole within each small long bytes some =
    let put : PageMap = put_pages change.mode change.tail pages change.changed in
    let count : length (laid pages change) ≡ length pages = laid-length pages change whole.fresh in
    let put_count : length put ≡ length pages = put_pages-length change.mode change.tail pages change.changed in
    let first : length (page_at put 1) ≡ s =
    page_at-length put s 1 (put_pages-whole change.mode change.tail pages change.changed n s size whole.in_range within whole.whole each) (omega arith) (omega (arith, put_count, count)) in
    let is : page_at (laid pages change) 1 ≡ stamped (length put) (page_at put 1) =
    ap (λ (map : PageMap). page_at map 1) (laid-put pages change whole.fresh) ∙ with_header-first put (omega (arith, put_count, count)) in
    ap (λ (page : List ℕ). pages_in page (max long (length (laid pages change) * bytes))) is
    ∙ stamped_counts (length put) (page_at put 1) (omega (arith, first)) (omega (arith, put_count, count)) (omega (arith, put_count)) (max long (length (laid pages change) * bytes))
    ∙ put_count ∙ sym count
