-- What a map holds once pages were put over it, and on which pages it then agrees with what it was.
use Rattle.std.proofs.Common.{◌≡◌, ℕ, ◌+◌, ◌-◌, ◌≤◌, Bool, true, false, ◌||◌, not, cond, eqb, List, [], ◌∷◌, ◌++◌, length, set, take, drop, map, Option, Some, None, zero, suc, refl, sym, subst, ap, ◌∙◌, inl, inr, arith, rules, eq-eqb}
use Rattle.std.specs.Prelude.{Contains, All, ◌⊎◌, unwrap_or, slice_index}
use Rattle.std.specs.List.{list_any}
use Rattle.std.proofs.lemmas.List.{length-set, length-append, length-take, length-drop, length-map, get_or-map, get_or-set_same, get_or-set_other, get_or_append_left, get_or-take, append-nil, drop_at, drop-drop, append_assoc}
use Rattle.std.proofs.lemmas.List.Elements.{All-head, All-tail, All-cons, All-set, All-contains, All-from_recursion}
use Rattle.std.proofs.lemmas.Bool.{cases_eq, ne_eqb, eqb-true, not-false, or_parts, and_cases, both_ways}
use Rattle.page_spec.specs.PageMap.{PageMap, page_at, page_size_of, page_sizes, reserved_of, compared, Agree}
use Rattle.engine_spec.specs.declared.commits.Mode.{Mode}
use Rattle.engine_spec.specs.declared.commits.Mode.TheVariants.{Plain, Concurrent}
use Rattle.engine_spec.specs.declared.commits.PageImage.{PageImage}
use Rattle.engine_spec.specs.PageSet.{AreDifferent}
use Rattle.engine_spec.specs.Change.{Change, image_of, between, laid_first, laid_page, put_page, put_pages, placed, next_counter, u32_bytes, stamped, with_header, laid}
use Rattle.engine_spec.specs.History.{counts}
use Rattle.engine_spec.specs.Written.{Submitted, commit_of, Writes, numbers_from}
use Rattle.engine_spec.proofs.Conflicts.{contains_cases, contains_more}

-- each legal page size is at least 512 bytes
pub legal_size : (s : ℕ) → Contains page_sizes s → 512 ≤ s
legal_size s there = All-contains (λ (size : ℕ). 512 ≤ size) page_sizes s (All-from_recursion (λ (size : ℕ). 512 ≤ size) page_sizes (search rules)) there

-- a map with a page set has that page there
page_at-set : (pages : PageMap) (number : ℕ) (bytes : List ℕ) → 1 ≤ number → number ≤ length pages
    → page_at (set pages (number - 1) bytes) number ≡ bytes
page_at-set pages zero bytes low high = absurd (omega arith)
page_at-set pages (suc k) bytes low high =
    let e : suc k - 1 ≡ k = omega arith in
    rw e (get_or-set_same pages k bytes [] (omega arith))

-- and the others as they were
page_at-set_other : (pages : PageMap) (number : ℕ) (bytes : List ℕ) (q : ℕ) → 1 ≤ number → (number ≡ q → ⊥)
    → page_at (set pages (number - 1) bytes) q ≡ page_at pages q
page_at-set_other pages number bytes zero low apart = refl
page_at-set_other pages number bytes (suc k) low apart =
    get_or-set_other pages (number - 1) k bytes [] (λ e. apart (omega arith))

-- pages of one size: each that there is has it
pub page_at-length : (pages : PageMap) (s q : ℕ) → All (λ page. length page ≡ s) pages → 1 ≤ q → q ≤ length pages
    → length (page_at pages q) ≡ s
page_at-length pages s zero each low high = absurd (omega arith)
page_at-length pages s (suc k) each low high = each k [] (omega arith)

-- the image of a page that none of the images is of
pub image_absent : (images : List PageImage) (q : ℕ) → All (λ image. image.page ≡ q → ⊥) images → image_of images q ≡ None
image_absent [] q apart = refl
image_absent (image ∷ images) q apart =
    rw (ne_eqb image.page q (All-head (λ (one : PageImage). one.page ≡ q → ⊥) image images apart))
    (image_absent images q (All-tail (λ (one : PageImage). one.page ≡ q → ⊥) image images apart))

-- of different pages the first is none of the others, and the others are different
pub different_first : (image : PageImage) (images : List PageImage) → AreDifferent (map (λ one. one.page) (image ∷ images))
    → All (λ one. one.page ≡ image.page → ⊥) images
different_first image images different k d within same =
    different zero (suc k) (omega arith) (omega (arith, length-map images (λ (one : PageImage). one.page)))
    (sym same ∙ sym (get_or-map (λ (one : PageImage). one.page) images k d 0 within))

pub different_rest : (image : PageImage) (images : List PageImage) → AreDifferent (map (λ one. one.page) (image ∷ images))
    → AreDifferent (map (λ one. one.page) images)
different_rest image images different i j below within = different (suc i) (suc j) (omega arith) (omega arith)

-- a map keeps its count of pages
pub put_pages-length : (mode : Mode) (tail : Bool) (pages : PageMap) (images : List PageImage)
    → length (put_pages mode tail pages images) ≡ length pages
put_pages-length mode tail pages [] = refl
put_pages-length mode tail pages (image ∷ images) =
    put_pages-length mode tail (put_page mode tail pages image) images
    ∙ length-set pages (image.page - 1) (laid_page mode tail image.page (page_at pages image.page) image.bytes)

laid_page-other : (mode : Mode) (tail : Bool) (number : ℕ) (old new : List ℕ) → 2 ≤ number → laid_page mode tail number old new ≡ new
laid_page-other mode tail number old new low = rw (ne_eqb number 1 (λ e. omega arith)) refl

-- a page other than the one that is put stays
put_page-other : (mode : Mode) (tail : Bool) (pages : PageMap) (image : PageImage) (q : ℕ) → 1 ≤ image.page
    → (image.page ≡ q → ⊥) → page_at (put_page mode tail pages image) q ≡ page_at pages q
put_page-other mode tail pages image q low apart =
    page_at-set_other pages image.page (laid_page mode tail image.page (page_at pages image.page) image.bytes) q low apart

-- a page from 2 on that is put is there
put_page-same : (mode : Mode) (tail : Bool) (pages : PageMap) (image : PageImage) → 2 ≤ image.page → image.page ≤ length pages
    → page_at (put_page mode tail pages image) image.page ≡ image.bytes
put_page-same mode tail pages image low high =
    page_at-set pages image.page (laid_page mode tail image.page (page_at pages image.page) image.bytes) (omega arith) high
    ∙ laid_page-other mode tail image.page (page_at pages image.page) image.bytes low

-- each page is its image where there is one, else as it was
pub put_pages-at : (mode : Mode) (tail : Bool) (pages : PageMap) (images : List PageImage) (n q : ℕ)
    → AreDifferent (map (λ image. image.page) images) → All (λ image. (2 ≤ image.page) × (image.page ≤ n)) images
    → n ≤ length pages → page_at (put_pages mode tail pages images) q ≡ unwrap_or (image_of images q) (page_at pages q)
put_pages-at mode tail pages [] n q different range within = refl
put_pages-at mode tail pages (image ∷ images) n q different range within =
    let put = put_page mode tail pages image in
    let one = All-head (λ (image : PageImage). (2 ≤ image.page) × (image.page ≤ n)) image images range in
    let same_length = length-set pages (image.page - 1) (laid_page mode tail image.page (page_at pages image.page) image.bytes) in
    put_pages-at mode tail put images n q (different_rest image images different)
    (All-tail (λ (image : PageImage). (2 ≤ image.page) × (image.page ≤ n)) image images range) (omega arith)
    ∙ elim (cases_eq image.page q) [
      | inl same ↦
          (let none : image_of images q ≡ None =
          image_absent images q (subst (λ (r : ℕ). All (λ (one : PageImage). one.page ≡ r → ⊥) images) same (different_first image images different)) in
          let there : page_at put q ≡ image.bytes =
          ap (page_at put) (sym same) ∙ put_page-same mode tail pages image one.0 (omega arith) in
          rw (eq-eqb image.page q same, none) there)
      | inr apart ↦
          rw (ne_eqb image.page q apart)
          (ap (unwrap_or (image_of images q)) (put_page-other mode tail pages image q (omega arith) apart))
    ]

-- a page that none of the images is of stays, also where page 1 is among them
pub put_pages-other : (mode : Mode) (tail : Bool) (pages : PageMap) (images : List PageImage) (q : ℕ)
    → All (λ image. 1 ≤ image.page) images → image_of images q ≡ None
    → page_at (put_pages mode tail pages images) q ≡ page_at pages q
put_pages-other mode tail pages [] q range none = refl
put_pages-other mode tail pages (image ∷ images) q range none =
    let low = All-head (λ (image : PageImage). 1 ≤ image.page) image images range in
    let rest = All-tail (λ (image : PageImage). 1 ≤ image.page) image images range in
    elim (cases_eq image.page q) [
      | inl same ↦ (let e : Some image.bytes ≡ None = rw (eq-eqb image.page q same) at none in absurd cc)
      | inr apart ↦
          put_pages-other mode tail (put_page mode tail pages image) images q rest (rw (ne_eqb image.page q apart) at none)
          ∙ put_page-other mode tail pages image q low apart
    ]

-- page 1 keeps its length
four_lengths : (a b c d : List ℕ) → length (a ++ (b ++ (c ++ d))) ≡ length a + (length b + (length c + length d))
four_lengths a b c d = simp length-append

laid_first-length : (mode : Mode) (tail : Bool) (old new : List ℕ) (s : ℕ) → 100 ≤ s → length old ≡ s → length new ≡ s
    → length (laid_first mode tail old new) ≡ s
laid_first-length Plain true old new s size is_old is_new =
    four_lengths (take 32 old) (take 28 (drop 32 new)) (take 40 (drop 60 old)) (drop 100 new)
    ∙ simp (length-take, length-drop) (omega arith)
laid_first-length Plain false old new s size is_old is_new =
    four_lengths (take 32 old) (take 28 (drop 32 new)) (take 40 (drop 60 old)) (drop 100 old)
    ∙ simp (length-take, length-drop) (omega arith)
laid_first-length Concurrent true old new s size is_old is_new =
    four_lengths (take 32 old) (take 28 (drop 32 old)) (take 40 (drop 60 old)) (drop 100 new)
    ∙ simp (length-take, length-drop) (omega arith)
laid_first-length Concurrent false old new s size is_old is_new =
    four_lengths (take 32 old) (take 28 (drop 32 old)) (take 40 (drop 60 old)) (drop 100 old)
    ∙ simp (length-take, length-drop) (omega arith)

laid_page-length : (mode : Mode) (tail : Bool) (number : ℕ) (old new : List ℕ) (s : ℕ) → 100 ≤ s → length old ≡ s
    → length new ≡ s → length (laid_page mode tail number old new) ≡ s
laid_page-length mode tail number old new s size is_old is_new = by_test (eqb number 1)
  where
    by_test : (test : Bool) → length (cond test (laid_first mode tail old new) new) ≡ s
    by_test true = laid_first-length mode tail old new s size is_old is_new
    by_test false = is_new

put_page-whole : (mode : Mode) (tail : Bool) (pages : PageMap) (image : PageImage) (s : ℕ) → 100 ≤ s → 1 ≤ image.page
    → image.page ≤ length pages → length image.bytes ≡ s → All (λ page. length page ≡ s) pages
    → All (λ page. length page ≡ s) (put_page mode tail pages image)
put_page-whole mode tail pages image s size low high whole each =
    All-set (λ (page : List ℕ). length page ≡ s) pages (image.page - 1)
    (laid_page mode tail image.page (page_at pages image.page) image.bytes)
    (laid_page-length mode tail image.page (page_at pages image.page) image.bytes s size
    (page_at-length pages s image.page each low high) whole)
    each

-- all pages keep their size
pub put_pages-whole : (mode : Mode) (tail : Bool) (pages : PageMap) (images : List PageImage) (n s : ℕ) → 100 ≤ s
    → All (λ image. (1 ≤ image.page) × (image.page ≤ n)) images → n ≤ length pages
    → All (λ image. length image.bytes ≡ s) images → All (λ page. length page ≡ s) pages
    → All (λ page. length page ≡ s) (put_pages mode tail pages images)
put_pages-whole mode tail pages [] n s size range within whole each = each
put_pages-whole mode tail pages (image ∷ images) n s size range within whole each =
    let one = All-head (λ (image : PageImage). (1 ≤ image.page) × (image.page ≤ n)) image images range in
    let same_length = length-set pages (image.page - 1) (laid_page mode tail image.page (page_at pages image.page) image.bytes) in
    put_pages-whole mode tail (put_page mode tail pages image) images n s size
    (All-tail (λ (image : PageImage). (1 ≤ image.page) × (image.page ≤ n)) image images range) (omega arith)
    (All-tail (λ (image : PageImage). length image.bytes ≡ s) image images whole)
    (put_page-whole mode tail pages image s size one.0 (omega arith)
    (All-head (λ (image : PageImage). length image.bytes ≡ s) image images whole) each)

-- what depends on page 1 by what laying leaves of it stays
first_kept : {A : Type 0} (f : List ℕ → A) (mode : Mode) (tail : Bool) (s : ℕ)
    → ((old new : List ℕ) → length old ≡ s → length new ≡ s → f (laid_first mode tail old new) ≡ f old)
    → (pages : PageMap) (image : PageImage) → 1 ≤ image.page → 1 ≤ length pages → length image.bytes ≡ s
    → All (λ page. length page ≡ s) pages → f (page_at (put_page mode tail pages image) 1) ≡ f (page_at pages 1)
first_kept f mode tail s keeps pages image low some whole each =
    elim (cases_eq image.page 1) [
      | inl same ↦
          (let put = put_page mode tail pages image in
          let new = laid_page mode tail image.page (page_at pages image.page) image.bytes in
          let there : page_at put image.page ≡ new = page_at-set pages image.page new low (omega arith) in
          let first : new ≡ laid_first mode tail (page_at pages 1) image.bytes =
          rw (eq-eqb image.page 1 same) (ap (λ (q : ℕ). laid_first mode tail (page_at pages q) image.bytes) same) in
          ap f (ap (page_at put) (sym same) ∙ (there ∙ first))
          ∙ keeps (page_at pages 1) image.bytes (page_at-length pages s 1 each (omega arith) some) whole)
      | inr apart ↦ ap f (put_page-other mode tail pages image 1 low apart)
    ]

firsts_kept : {A : Type 0} (f : List ℕ → A) (mode : Mode) (tail : Bool) (n s : ℕ) → 100 ≤ s
    → ((old new : List ℕ) → length old ≡ s → length new ≡ s → f (laid_first mode tail old new) ≡ f old)
    → (pages : PageMap) (images : List PageImage) → All (λ image. (1 ≤ image.page) × (image.page ≤ n)) images → n ≤ length pages
    → 1 ≤ length pages → All (λ image. length image.bytes ≡ s) images → All (λ page. length page ≡ s) pages
    → f (page_at (put_pages mode tail pages images) 1) ≡ f (page_at pages 1)
firsts_kept f mode tail n s size keeps pages [] range within some whole each = refl
firsts_kept f mode tail n s size keeps pages (image ∷ images) range within some whole each =
    let one = All-head (λ (image : PageImage). (1 ≤ image.page) × (image.page ≤ n)) image images range in
    let whole_one = All-head (λ (image : PageImage). length image.bytes ≡ s) image images whole in
    let same_length = length-set pages (image.page - 1) (laid_page mode tail image.page (page_at pages image.page) image.bytes) in
    firsts_kept f mode tail n s size keeps (put_page mode tail pages image) images
    (All-tail (λ (image : PageImage). (1 ≤ image.page) × (image.page ≤ n)) image images range) (omega arith) (omega arith)
    (All-tail (λ (image : PageImage). length image.bytes ≡ s) image images whole)
    (put_page-whole mode tail pages image s size one.0 (omega arith) whole_one each)
    ∙ first_kept f mode tail s keeps pages image one.0 some whole_one each

-- the byte of page 1 that names the reserved bytes stays
reserved_kept : (mode : Mode) (tail : Bool) (s : ℕ) → 100 ≤ s → (old new : List ℕ) → length old ≡ s → length new ≡ s
    → slice_index (laid_first mode tail old new) 20 ≡ slice_index old 20
reserved_kept Plain tail s size old new is_old is_new =
    get_or_append_left (take 32 old) (take 28 (drop 32 new) ++ (take 40 (drop 60 old) ++ cond tail (drop 100 new) (drop 100 old)))
    0 20 (simp length-take (omega arith))
    ∙ get_or-take 32 old 20 0 (omega arith)
reserved_kept Concurrent tail s size old new is_old is_new =
    get_or_append_left (take 32 old) (take 28 (drop 32 old) ++ (take 40 (drop 60 old) ++ cond tail (drop 100 new) (drop 100 old)))
    0 20 (simp length-take (omega arith))
    ∙ get_or-take 32 old 20 0 (omega arith)

-- page 1 from byte 100 on stays where the change leaves it
drop_three : (a b c d : List ℕ) (n : ℕ) → length a + (length b + length c) ≡ n → drop n (a ++ (b ++ (c ++ d))) ≡ d
drop_three a b c d n is =
    let joined : (a ++ (b ++ c)) ++ d ≡ a ++ (b ++ (c ++ d)) = simp append_assoc in
    ap (drop n) (sym joined) ∙ drop_at (a ++ (b ++ c)) d n (simp length-append (omega arith))

tail_kept : (mode : Mode) (s : ℕ) → 100 ≤ s → (old new : List ℕ) → length old ≡ s → length new ≡ s
    → drop 100 (laid_first mode false old new) ≡ drop 100 old
tail_kept Plain s size old new is_old is_new =
    drop_three (take 32 old) (take 28 (drop 32 new)) (take 40 (drop 60 old)) (drop 100 old) 100
    (simp (length-take, length-drop) (omega arith))
tail_kept Concurrent s size old new is_old is_new =
    drop_three (take 32 old) (take 28 (drop 32 old)) (take 40 (drop 60 old)) (drop 100 old) 100
    (simp (length-take, length-drop) (omega arith))

-- A change of whole pages among the first n, of s bytes each, that makes no page.
pub record IsWhole (n s : ℕ) (change : Change) : Type 0 where
  pub in_range : All (λ image. (1 ≤ image.page) × (image.page ≤ n)) change.changed
  pub whole : All (λ image. length image.bytes ≡ s) change.changed
  pub fresh : change.fresh ≡ []

-- where no page is made, placing is putting the changed ones
placed-put : (pages : PageMap) (change : Change) → change.fresh ≡ []
    → placed pages change ≡ put_pages change.mode change.tail pages change.changed
placed-put pages change none =
    ap (λ (fresh : List PageImage). put_pages change.mode change.tail pages change.changed ++ map (λ image. image.bytes) fresh) none
    ∙ append-nil (put_pages change.mode change.tail pages change.changed)

-- page 1 with new header fields: its parts
six_lengths : (a b c d e f : List ℕ) → length (a ++ (b ++ (c ++ (d ++ (e ++ f)))))
    ≡ length a + (length b + (length c + (length d + (length e + length f))))
six_lengths a b c d e f = simp length-append

-- it keeps its length
pub stamped-length : (size : ℕ) (first : List ℕ) → 100 ≤ length first → length (stamped size first) ≡ length first
stamped-length size first long =
    six_lengths (take 24 first) (u32_bytes (next_counter first)) (u32_bytes size) (between 32 92 first)
    (u32_bytes (next_counter first)) (drop 96 first)
    ∙ simp (length-take, length-drop) (omega arith)

-- the byte that names the reserved bytes stays
pub stamped-reserved : (size : ℕ) (first : List ℕ) → 100 ≤ length first → slice_index (stamped size first) 20 ≡ slice_index first 20
stamped-reserved size first long =
    get_or_append_left (take 24 first)
    (u32_bytes (next_counter first) ++ (u32_bytes size ++ (between 32 92 first ++ (u32_bytes (next_counter first) ++ drop 96 first))))
    0 20 (simp length-take (omega arith))
    ∙ get_or-take 24 first 20 0 (omega arith)

-- all from byte 100 on stays
pub stamped-tail : (size : ℕ) (first : List ℕ) → 100 ≤ length first → drop 100 (stamped size first) ≡ drop 100 first
stamped-tail size first long =
    let front = take 24 first ++ (u32_bytes (next_counter first) ++ (u32_bytes size ++ (between 32 92 first ++ u32_bytes (next_counter first)))) in
    let count : length front ≡ 96 = simp (length-append, length-take, length-drop) (omega arith) in
    let joined : front ++ drop 96 first ≡ stamped size first = simp append_assoc in
    ap (drop 100) (sym joined)
    ∙ sym (drop-drop 4 96 (front ++ drop 96 first))
    ∙ ap (drop 4) (drop_at front (drop 96 first) 96 count)
    ∙ drop-drop 4 96 first

-- with new header fields a map has as many pages
pub with_header-length : (pages : PageMap) → length (with_header pages) ≡ length pages
with_header-length [] = refl
with_header-length (first ∷ pages) = refl

-- its page 1 has them
pub with_header-first : (pages : PageMap) → 1 ≤ length pages → page_at (with_header pages) 1 ≡ stamped (length pages) (page_at pages 1)
with_header-first [] some = absurd (omega arith)
with_header-first (first ∷ pages) some = refl

-- and the others are as they were
with_header-other : (pages : PageMap) (q : ℕ) → (1 ≡ q → ⊥) → page_at (with_header pages) q ≡ page_at pages q
with_header-other [] q apart = refl
with_header-other (first ∷ pages) zero apart = refl
with_header-other (first ∷ pages) (suc zero) apart = absurd (apart refl)
with_header-other (first ∷ pages) (suc (suc k)) apart = refl

with_header-whole : (pages : PageMap) (s : ℕ) → 100 ≤ s → All (λ page. length page ≡ s) pages
    → All (λ page. length page ≡ s) (with_header pages)
with_header-whole [] s size each = each
with_header-whole (first ∷ pages) s size each =
    let one : length first ≡ s = All-head (λ (page : List ℕ). length page ≡ s) first pages each in
    All-cons (λ (page : List ℕ). length page ≡ s) (stamped (length (first ∷ pages)) first) pages
    (stamped-length (length (first ∷ pages)) first (omega arith) ∙ one)
    (All-tail (λ (page : List ℕ). length page ≡ s) first pages each)

-- where no page is made, laying is putting the changed ones and setting page 1's header fields
pub laid-put : (pages : PageMap) (change : Change) → change.fresh ≡ []
    → laid pages change ≡ with_header (put_pages change.mode change.tail pages change.changed)
laid-put pages change none = ap with_header (placed-put pages change none)

-- a map keeps its count of pages
pub laid-length : (pages : PageMap) (change : Change) → change.fresh ≡ [] → length (laid pages change) ≡ length pages
laid-length pages change none =
    with_header-length (placed pages change)
    ∙ ap length (placed-put pages change none) ∙ put_pages-length change.mode change.tail pages change.changed

-- and its pages their size
pub laid-whole : (pages : PageMap) (change : Change) (n s : ℕ) → 100 ≤ s → IsWhole n s change → n ≤ length pages
    → All (λ page. length page ≡ s) pages → All (λ page. length page ≡ s) (laid pages change)
laid-whole pages change n s size whole within each =
    with_header-whole (placed pages change) s size
    (subst (All (λ (page : List ℕ). length page ≡ s)) (sym (placed-put pages change whole.fresh))
    (put_pages-whole change.mode change.tail pages change.changed n s size whole.in_range within whole.whole each))

-- the page size stays
pub laid-page_size : (pages : PageMap) (change : Change) (n s : ℕ) → 100 ≤ s → IsWhole n s change → n ≤ length pages
    → 1 ≤ length pages → All (λ page. length page ≡ s) pages → page_size_of (laid pages change) ≡ page_size_of pages
laid-page_size pages change n s size whole within some each =
    page_at-length (laid pages change) s 1 (laid-whole pages change n s size whole within each) (omega arith)
    (omega (arith, laid-length pages change whole.fresh))
    ∙ sym (page_at-length pages s 1 each (omega arith) some)

-- what depends on page 1 by what laying leaves of it stays
laid_kept : {A : Type 0} (f : List ℕ → A) (pages : PageMap) (change : Change) (n s : ℕ) → 100 ≤ s → IsWhole n s change
    → n ≤ length pages → 1 ≤ length pages → All (λ page. length page ≡ s) pages
    → ((old new : List ℕ) → length old ≡ s → length new ≡ s → f (laid_first change.mode change.tail old new) ≡ f old)
    → ((size : ℕ) (first : List ℕ) → 100 ≤ length first → f (stamped size first) ≡ f first)
    → f (page_at (laid pages change) 1) ≡ f (page_at pages 1)
laid_kept f pages change n s size whole within some each kept stamps =
    let put = put_pages change.mode change.tail pages change.changed in
    let count : length put ≡ length pages = put_pages-length change.mode change.tail pages change.changed in
    let long : length (page_at put 1) ≡ s =
    page_at-length put s 1 (put_pages-whole change.mode change.tail pages change.changed n s size whole.in_range within whole.whole each)
    (omega arith) (omega arith) in
    ap (λ (map : PageMap). f (page_at map 1)) (laid-put pages change whole.fresh)
    ∙ ap f (with_header-first put (omega arith))
    ∙ stamps (length put) (page_at put 1) (omega arith)
    ∙ firsts_kept f change.mode change.tail n s size kept pages change.changed whole.in_range within some whole.whole each

-- the count of reserved bytes stays
pub laid-reserved : (pages : PageMap) (change : Change) (n s : ℕ) → 100 ≤ s → IsWhole n s change → n ≤ length pages
    → 1 ≤ length pages → All (λ page. length page ≡ s) pages → reserved_of (laid pages change) ≡ reserved_of pages
laid-reserved pages change n s size whole within some each =
    laid_kept (λ (bytes : List ℕ). slice_index bytes 20) pages change n s size whole within some each
    (reserved_kept change.mode change.tail s size) stamped-reserved

-- what counts of page 1 stays where the change leaves its bytes from 100 on
pub laid-first : (pages : PageMap) (change : Change) (n s : ℕ) → 100 ≤ s → IsWhole n s change → n ≤ length pages
    → 1 ≤ length pages → All (λ page. length page ≡ s) pages → change.tail ≡ false
    → compared 1 (page_at (laid pages change) 1) ≡ compared 1 (page_at pages 1)
laid-first pages change n s size whole within some each left =
    laid_kept (drop 100) pages change n s size whole within some each
    (subst (λ (tail : Bool). (old new : List ℕ) → length old ≡ s → length new ≡ s
    → drop 100 (laid_first change.mode tail old new) ≡ drop 100 old) (sym left) (tail_kept change.mode s size))
    stamped-tail

-- a page other than page 1 that isn't among the changed ones stays
pub laid-other : (pages : PageMap) (change : Change) (n s q : ℕ) → IsWhole n s change → (1 ≡ q → ⊥) → image_of change.changed q ≡ None
    → page_at (laid pages change) q ≡ page_at pages q
laid-other pages change n s q whole apart none =
    ap (λ (map : PageMap). page_at map q) (laid-put pages change whole.fresh)
    ∙ with_header-other (put_pages change.mode change.tail pages change.changed) q apart
    ∙ put_pages-other change.mode change.tail pages change.changed q
    (λ k d within. (whole.in_range k d within).0) none

-- a page from 2 on is its image where there is one, else as it was; page 1 isn't among the changed ones
pub laid-at : (pages : PageMap) (change : Change) (n q : ℕ) → change.fresh ≡ [] → AreDifferent (map (λ image. image.page) change.changed)
    → All (λ image. (2 ≤ image.page) × (image.page ≤ n)) change.changed → n ≤ length pages → 2 ≤ q
    → page_at (laid pages change) q ≡ unwrap_or (image_of change.changed q) (page_at pages q)
laid-at pages change n q none different range within low =
    ap (λ (map : PageMap). page_at map q) (laid-put pages change none)
    ∙ with_header-other (put_pages change.mode change.tail pages change.changed) q (λ same. omega arith)
    ∙ put_pages-at change.mode change.tail pages change.changed n q different range within

-- a commit wrote page 1 and all changed pages
abbrev pub CoversChange : Change → List ℕ → Type 0
CoversChange change wrote = (page : ℕ) → Contains (1 ∷ map (λ image. image.page) change.changed) page → Contains wrote page

-- an element of a list is one of any longer list
pub contains_front : (xs ys : List ℕ) (q : ℕ) → Contains xs q → Contains (xs ++ ys) q
contains_front [] ys q there = absurd (let low = there.1 in omega arith)
contains_front (x ∷ xs) ys q there = elim (contains_cases x q xs there) [
  | inl same ↦ (0, omega arith, same)
  | inr later ↦ contains_more x q (xs ++ ys) (contains_front xs ys q later)
]

-- what a commit writes covers its change
pub covers : (newest : Option PageMap) (size : ℕ) (change : Change) (pages : List ℕ) → Writes newest size change pages → CoversChange change pages
covers newest size change pages writes page there =
    (writes.same page).1
    (contains_front (1 ∷ map (λ (image : PageImage). image.page) change.changed)
    (numbers_from (size + 1) (length change.fresh) ++ writes.trunk_pages) page there)

-- a list has what it contains
pub any_there : (xs : List ℕ) (q : ℕ) → Contains xs q → list_any (λ p. eqb p q) xs ≡ true
any_there [] q there = absurd (let low = there.1 in omega arith)
any_there (x ∷ xs) q there = elim (contains_cases x q xs there) [
  | inl same ↦ rw (eq-eqb x q same) refl
  | inr later ↦ rw (any_there xs q later) (or_true (eqb x q))
]
  where
    or_true : (test : Bool) → (test || true) ≡ true
    or_true true = refl
    or_true false = refl

-- a page that isn't among those that a commit wrote isn't page 1 and none of its images
unwritten : (change : Change) (wrote : List ℕ) (q : ℕ) → CoversChange change wrote → list_any (λ p. eqb p q) wrote ≡ false
    → (1 ≡ q → ⊥) × (image_of change.changed q ≡ None)
unwritten change wrote q has none = (
  λ same. absent (0, omega arith, same),
  image_absent change.changed q
      (λ k d within same. absent (
        suc k,
        omega (arith, length-map change.changed page_of),
        get_or-map page_of change.changed k d q within ∙ same,
      )),
)
  where
    page_of : PageImage → ℕ
    page_of image = image.page

    absent : Contains (1 ∷ map (λ image. image.page) change.changed) q → ⊥
    absent there = both_ways (list_any (λ p. eqb p q) wrote) none (any_there wrote q (has q there))

-- a page that doesn't count as written is neither page 1 nor one of the images, or it is page 1 that was left from byte 100 on
pub uncounted : (mode : Mode) (q : ℕ) (asked : Submitted) (wrote : List ℕ) → CoversChange asked.change wrote
    → counts mode q (commit_of asked wrote) ≡ false
    → ((1 ≡ q → ⊥) × (image_of asked.change.changed q ≡ None)) ⊎ ((q ≡ 1) × (asked.change.tail ≡ false))
uncounted Plain q asked wrote has left = inl (unwritten asked.change wrote q has left)
uncounted Concurrent q asked wrote has left =
    elim (and_cases (list_any (λ p. eqb p q) wrote) (asked.change.tail || not (eqb q 1)) left) [
      | inl none ↦ inl (unwritten asked.change wrote q has none)
      | inr first ↦
          (let parts = or_parts asked.change.tail (not (eqb q 1)) first in
          inr (eqb-true q 1 (not-false (eqb q 1) parts.1), parts.0))
    ]

-- a map agrees with itself
pub agree_refl : (pages : PageMap) (numbers : List ℕ) → Agree pages pages numbers
agree_refl pages numbers = record { no_shorter = omega arith; same = λ q there. refl; page_size = refl; reserved = refl }

-- where a map agrees with a later one, and that with one later still, the first does with the last
pub agree_trans : (first second third : PageMap) (numbers : List ℕ) → Agree first second numbers → Agree second third numbers
    → Agree first third numbers
agree_trans first second third numbers some others = record {
  no_shorter = (let a = some.no_shorter in let b = others.no_shorter in omega arith);
  same = λ q there. some.same q there ∙ others.same q there;
  page_size = some.page_size ∙ others.page_size;
  reserved = some.reserved ∙ others.reserved;
}

-- maps that agree on some pages agree on fewer
pub agree_fewer : (before after : PageMap) (numbers fewer : List ℕ) → ((q : ℕ) → Contains fewer q → Contains numbers q)
    → Agree before after numbers → Agree before after fewer
agree_fewer before after numbers fewer there agree = record {
  no_shorter = agree.no_shorter;
  same = λ q one. agree.same q (there q one);
  page_size = agree.page_size;
  reserved = agree.reserved;
}

-- what counts of a page stays where the page doesn't count as written
pub laid-compared : (pages : PageMap) (asked : Submitted) (wrote : List ℕ) (mode : Mode) (n s q : ℕ) → 100 ≤ s → IsWhole n s asked.change
    → n ≤ length pages → 1 ≤ length pages → All (λ page. length page ≡ s) pages → CoversChange asked.change wrote
    → counts mode q (commit_of asked wrote) ≡ false → compared q (page_at pages q) ≡ compared q (page_at (laid pages asked.change) q)
laid-compared pages asked wrote mode n s q size whole within some each has left =
    elim (uncounted mode q asked wrote has left) [
      | inl none ↦ ap (compared q) (sym (laid-other pages asked.change n s q whole none.0 none.1))
      | inr first ↦
          subst (λ (r : ℕ). compared r (page_at pages r) ≡ compared r (page_at (laid pages asked.change) r)) (sym first.0)
          (sym (laid-first pages asked.change n s size whole within some each first.1))
    ]

-- a map agrees with what a commit makes of it on pages of which none counts as written
pub agree_laid : (pages : PageMap) (asked : Submitted) (wrote : List ℕ) (mode : Mode) (n s : ℕ) (numbers : List ℕ) → 100 ≤ s
    → IsWhole n s asked.change → n ≤ length pages → 1 ≤ length pages → All (λ page. length page ≡ s) pages
    → CoversChange asked.change wrote
    → ((q : ℕ) → Contains numbers q → counts mode q (commit_of asked wrote) ≡ false) → Agree pages (laid pages asked.change) numbers
agree_laid pages asked wrote mode n s numbers size whole within some each has left = record {
  no_shorter = omega (arith, laid-length pages asked.change whole.fresh);
  same = λ q there. laid-compared pages asked wrote mode n s q size whole within some each has (left q there);
  page_size = sym (laid-page_size pages asked.change n s size whole within some each);
  reserved = sym (laid-reserved pages asked.change n s size whole within some each);
}
