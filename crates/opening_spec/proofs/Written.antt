-- A page that a log holds is written to Main with the bytes that it has in the map.
use Rattle.std.proofs.Common.{◌≡◌, ◌≢◌, max, ℕ, zero, suc, ◌+◌, ◌-◌, ◌*◌, ◌/◌, ◌≤◌, ◌<◌, ◌==◌, Bool, true, false, if◌then◌else◌, inl, inr, List, [], ◌∷◌, ◌++◌, length, take, drop, refl, sym, ◌∙◌, ap, subst, arith}
use Rattle.std.specs.Prelude.{Contains, nat_lt}
use Rattle.std.proofs.lemmas.Bool.{cases_lt}
use Rattle.std.proofs.lemmas.Bool.Decides.{Decides-eqb}
use Rattle.std.proofs.lemmas.List.Elements.{All-cons, Contains-append_cases}
use Rattle.disk_face.specs.declared.disk.File.TheVariants.{Main, Log1, Log2}
use Rattle.disk_face.specs.declared.step.Piece.{Piece}
use Rattle.disk_face.specs.declared.step.Step.TheVariants.{Wrote, Refused}
use Rattle.disk_face.specs.Files.{overwritten}
use Rattle.disk_face.specs.Steps.{History, reads, further}
use Rattle.disk_face.specs.Image.{unsure, range_of, IsSure, IsOutside}
use Rattle.disk_face.proofs.Contents.{length-overwritten, overwritten-reads}
use Rattle.page_spec.specs.Header.{page_size_in, fields_of}
use Rattle.log_spec.specs.LogHeader.{log_fields}
use Rattle.log_spec.specs.Accept.{Frame, page_number, page_numbers, page_of}
use Rattle.crash_spec.specs.Recovered.{main_page, page_after_frames, overlaid, size_after}
use Rattle.crash_spec.specs.Store.{named_size}
use Rattle.crash_spec.proofs.Copying.{page_stays, first_stays, place_in_page, new_place}
use Rattle.crash_spec.proofs.Elsewhere.{whole_elsewhere}
use Rattle.crash_spec.proofs.Overlaid.{held_or_not, overlaid_outside, firsts_outside}
use Rattle.crash_spec.proofs.Pieces.{contains_tail}
use Rattle.opening_spec.specs.Found.{OpeningView, FoundLog, older_in, newer_in, pages_held, page_in}
use Rattle.opening_spec.specs.States.{AreSynced, AreLaid, page_piece}
use Rattle.opening_spec.proofs.FoundLaws.{found_elsewhere}
use Rattle.opening_spec.proofs.Synced.{neither_in}

-- where a frame is there, the size doesn't go by Main
size_of_any : (frames : List Frame) (number : ℕ) → Contains (page_numbers frames) number → (m n : ℕ) → size_after frames m ≡ size_after frames n
size_of_any [] number (k, less, is) m n = absurd (omega arith)
size_of_any (frame ∷ rest) number held m n = refl

size_of_both : (first : Bool) (one two : List Frame) (number : ℕ) → Contains (page_numbers one ++ page_numbers two) number → (m n : ℕ)
    → size_after (if first then two else one) (size_after (if first then one else two) m) ≡ size_after (if first then two else one) (size_after (if first then one else two) n)
size_of_both true one two number held m n =
    elim (Contains-append_cases (page_numbers one) (page_numbers two) number held) [
      | inl here ↦ ap (λ (k : ℕ). size_after two k) (size_of_any one number here m n)
      | inr there ↦ size_of_any two number there (size_after one m) (size_after one n)
    ]
size_of_both false one two number held m n =
    elim (Contains-append_cases (page_numbers one) (page_numbers two) number held) [
      | inl here ↦ size_of_any one number here (size_after two m) (size_after two n)
      | inr there ↦ ap (λ (k : ℕ). size_after one k) (size_of_any two number there m n)
    ]

-- and a page that a log holds doesn't go by Main
page_of_any : (frames : List Frame) (number : ℕ) → Contains (page_numbers frames) number → (below other : List ℕ) → page_after_frames frames number below ≡ page_after_frames frames number other
page_of_any frames number held below other = elim (held_or_not frames number) [ inl same ↦ same below other | inr (none, leaves) ↦ absurd (none held) ]

pub page_of_both : (first : Bool) (one two : List Frame) (number : ℕ) → Contains (page_numbers one ++ page_numbers two) number → (below other : List ℕ)
    → page_after_frames (if first then two else one) number (page_after_frames (if first then one else two) number below)
    ≡ page_after_frames (if first then two else one) number (page_after_frames (if first then one else two) number other)
page_of_both true one two number held below other =
    elim (Contains-append_cases (page_numbers one) (page_numbers two) number held) [
      | inl here ↦ ap (λ (k : List ℕ). page_after_frames two number k) (page_of_any one number here below other)
      | inr there ↦ page_of_any two number there (page_after_frames one number below) (page_after_frames one number other)
    ]
page_of_both false one two number held below other =
    elim (Contains-append_cases (page_numbers one) (page_numbers two) number held) [
      | inl here ↦ page_of_any one number here (page_after_frames two number below) (page_after_frames two number other)
      | inr there ↦ ap (λ (k : List ℕ). page_after_frames one number k) (page_of_any two number there below other)
    ]

-- a page that no log holds is that of Main
pub page_of_none : (frames : List Frame) (number : ℕ) → (Contains (page_numbers frames) number → ⊥) → (below : List ℕ) → page_after_frames frames number below ≡ below
page_of_none [] number none below = refl
page_of_none (frame ∷ rest) number none below =
    by (page_number frame == number) (Decides-eqb (page_number frame) number)
    (page_of_none rest number (λ held. none (contains_tail (page_number frame) (page_numbers rest) number held)) below)
  where
    by : (same : Bool) → (same ≡ true → page_number frame ≡ number) × (page_number frame ≡ number → same ≡ true) → page_after_frames rest number below ≡ below
        → page_after_frames rest number (if same then page_of frame else below) ≡ below
    by true decides tail = absurd (none (0, omega arith, decides.0 refl))
    by false decides tail = tail

pub page_of_neither : (below_frames above_frames : List Frame) (number : ℕ) (below : List ℕ) → (Contains (page_numbers below_frames) number → ⊥) → (Contains (page_numbers above_frames) number → ⊥)
    → page_after_frames above_frames number (page_after_frames below_frames number below) ≡ below
page_of_neither below_frames above_frames number below low high =
    page_of_none above_frames number high (page_after_frames below_frames number below) ∙ page_of_none below_frames number low below

-- the place behind a page
whole_page : (size page : ℕ) → 1 ≤ page → (page - 1) * size + size ≡ (page + 1 - 1) * size
whole_page size zero one = absurd (omega arith)
whole_page size (suc page) one =
    let here : suc page - 1 ≡ page = omega arith in
    let next : suc page + 1 - 1 ≡ suc page = omega arith in
    rw (here, next) distribute
  where
    distribute : page * size + size ≡ suc page * size
    distribute = grind arith

-- a page of the map ends within it
page_within : (number count size : ℕ) → 1 ≤ number → number ≤ count → (number - 1) * size + size ≤ count * size
page_within zero count size from within = absurd (omega arith)
page_within (suc k) count size from within =
    let there : count ≡ suc k + (count - suc k) = omega arith in
    let back : suc k - 1 ≡ k = omega arith in
    rw back (subst (λ (n : ℕ). k * size + size ≤ n * size) (sym there) (by k (count - suc k)))
  where
    by : (k d : ℕ) → k * size + size ≤ (suc k + d) * size
    by k d = let all : (suc k + d) * size ≡ k * size + size + d * size = grind arith in omega (arith, all)

module _ (view : OpeningView) (one two : FoundLog) (told : History) (s : AreSynced view one two told) (number : ℕ) (held : Contains (pages_held one two) number) (from : 1 ≤ number)
    (within_map : number ≤ length view.map) (bytes : List ℕ) (whole : length bytes ≡ view.size) (reached : (number - 1) * view.size ≤ length (reads told).main) where
  abbrev piece : Piece
  piece = page_piece number view.size bytes

  abbrev main_after : List ℕ → List ℕ
  main_after left = overwritten ((number - 1) * view.size) left (reads told).main

  abbrev first : Bool
  first = nat_lt (log_fields (reads told).log1).generation (log_fields (reads told).log2).generation

  abbrev older : List Frame
  older = older_in (reads told) one two

  abbrev newer : List Frame
  newer = newer_in (reads told) one two

  fits : (100 ≤ view.size) × (named_size (reads told).main older newer ≡ view.size)
  fits = elim s.opened.fits [
    | inl (none, neither, empty) ↦ absurd (nothing one.frames two.frames none neither held)
    | inr has ↦ has
  ]
    where
      nothing : (xs ys : List Frame) → xs ≡ [] → ys ≡ [] → Contains (page_numbers xs ++ page_numbers ys) number → ⊥
      nothing [] [] none neither (k, less, is) = omega arith
      nothing (x ∷ xs) ys none neither c = cc
      nothing [] (y ∷ ys) none neither c = cc

  sure_after : (left : List ℕ) → length left ≤ view.size → (place : ℕ) → place < length (main_after left) → (Contains (pages_held one two) (place / view.size + 1) → ⊥)
      → IsSure (range_of piece ∷ unsure view.opening.before told.steps) Main place
  sure_after left within place inside none =
      let outside : (number - 1) * view.size ≤ place → place < (number - 1) * view.size + view.size → ⊥ =
      λ start end. none (subst (λ n. Contains (pages_held one two) n) (sym (place_in_page view.size number from fits.0 (reads told).main left within reached place start end)) held) in
      All-cons (IsOutside Main place) (range_of piece) (unsure view.opening.before told.steps)
      (λ is start end. outside start (omega arith))
      (elim (cases_lt place (length (reads told).main)) [
        | inl old ↦ s.opened.main place old none
        | inr new ↦ absurd (outside (omega arith) (new_place view.size number from fits.0 (reads told).main left within reached place inside new))
      ])

  apart : (n : ℕ) → (Contains (page_numbers older) n → ⊥) → (Contains (page_numbers newer) n → ⊥) → n ≢ number
  apart n low high is = neither_in first one.frames two.frames n low high (subst (λ n. Contains (pages_held one two) n) (sym is) held)

  named_after : (left : List ℕ) → length left ≤ view.size → named_size (main_after left) older newer ≡ view.size
  named_after left within =
      ap (λ (bytes : List ℕ). page_size_in (fields_of bytes))
      (firsts_outside (main_after left) (reads told).main older newer (λ low high. first_stays view.size number from fits.0 (reads told).main left within reached (apart 1 low high)))
      ∙ fits.1

  same_after : (left : List ℕ) → length left ≤ view.size → overlaid (main_after left) older newer ≡ overlaid (reads told).main older newer
  same_after left within =
      sym (overlaid_outside view.size (reads told).main (main_after left) older newer (λ bytes. size_of_both first one.frames two.frames number held _ _)
      (λ n some low high. sym (page_stays view.size number from fits.0 (reads told).main left within reached n some (apart n low high)))
      (λ low high. sym (first_stays view.size number from fits.0 (reads told).main left within reached (apart 1 low high)))
      fits.1)

  -- Main gets no longer than the map
  no_longer : (left : List ℕ) → length left ≤ view.size → length (main_after left) ≤ max (length (reads view.opening.start).main) (length view.map * view.size)
  no_longer left within =
      omega (arith, s.opened.keeps.0, length-overwritten ((number - 1) * view.size) left (reads told).main reached, page_within number (length view.map) view.size from within_map)

  pub page_written : AreSynced view one two (further (Wrote piece) told)
  page_written = record {
    opened = record {
      log1 = found_elsewhere view.opening told Log1 one (Wrote piece) refl s.opened.log1;
      log2 = found_elsewhere view.opening told Log2 two (Wrote piece) refl s.opened.log2;
      main = sure_after bytes (omega arith);
      fits = inr (fits.0, named_after bytes (omega arith));
      is = same_after bytes (omega arith) ∙ s.opened.is;
      sizes = s.opened.sizes;
      keeps = (no_longer bytes (omega arith), s.opened.keeps.1);
    };
    whole1 = whole_elsewhere view.opening Log1 (Wrote piece) told refl s.whole1;
    whole2 = whole_elsewhere view.opening Log2 (Wrote piece) told refl s.whole2;
  }

  pub page_refused : (left : List ℕ) → length left ≤ length bytes → AreSynced view one two (further (Refused piece left) told)
  page_refused left within = record {
    opened = record {
      log1 = found_elsewhere view.opening told Log1 one (Refused piece left) refl s.opened.log1;
      log2 = found_elsewhere view.opening told Log2 two (Refused piece left) refl s.opened.log2;
      main = sure_after left (omega arith);
      fits = inr (fits.0, named_after left (omega arith));
      is = same_after left (omega arith) ∙ s.opened.is;
      sizes = s.opened.sizes;
      keeps = (no_longer left (omega arith), s.opened.keeps.1);
    };
    whole1 = whole_elsewhere view.opening Log1 (Refused piece left) told refl s.whole1;
    whole2 = whole_elsewhere view.opening Log2 (Refused piece left) told refl s.whole2;
  }

  -- with the bytes of the map, one more page is laid
  pub page_laid : AreLaid view.size (reads told).main older newer number → bytes ≡ page_in view.size (reads told) one two number → AreLaid view.size (main_after bytes) older newer (number + 1)
  page_laid laid is n some less =
      elim (cases_lt n number) [
        | inl below ↦
            let stays = page_stays view.size number from fits.0 (reads told).main bytes (omega arith) reached n some (λ same. omega arith) in
            ap (λ (xs : List ℕ). page_after_frames newer n (page_after_frames older n xs)) stays ∙ laid n some below ∙ sym stays
        | inr past ↦
            let same : n ≡ number = omega arith in
            let read : main_page view.size (main_after bytes) number ≡ bytes =
            ap (λ (k : ℕ). take k (drop ((number - 1) * view.size) (main_after bytes))) (sym whole) ∙ overwritten-reads ((number - 1) * view.size) bytes (reads told).main reached in
            subst (λ k. page_after_frames newer k (page_after_frames older k (main_page view.size (main_after bytes) k)) ≡ main_page view.size (main_after bytes) k) (sym same)
            (page_of_both first one.frames two.frames number held (main_page view.size (main_after bytes) number) (main_page view.size (reads told).main number) ∙ sym is ∙ sym read)
      ]

  -- and Main reaches to the next
  pub page_long : (long : ℕ) → length (reads told).main ≡ max long ((number - 1) * view.size) → length (main_after bytes) ≡ max long ((number + 1 - 1) * view.size)
  page_long long was =
      omega (arith, length-overwritten ((number - 1) * view.size) bytes (reads told).main reached, whole_page view.size number from)

-- a page that no log holds needs no write
pub page_passed : (size : ℕ) (main : List ℕ) (below_frames above_frames : List Frame) (number : ℕ) → (Contains (page_numbers below_frames) number → ⊥) → (Contains (page_numbers above_frames) number → ⊥)
    → AreLaid size main below_frames above_frames number → AreLaid size main below_frames above_frames (number + 1)
page_passed size main below_frames above_frames number low high laid n some less =
    elim (cases_lt n number) [
      | inl below ↦ laid n some below
      | inr past ↦
          let same : n ≡ number = omega arith in
          subst (λ k. page_after_frames above_frames k (page_after_frames below_frames k (main_page size main k)) ≡ main_page size main k) (sym same)
          (page_of_neither below_frames above_frames number (main_page size main number) low high)
    ]

-- where Main has the page whole, it is long enough for the next one
pub long_passed : (size long number main : ℕ) → 1 ≤ number → number * size ≤ main → main ≡ max long ((number - 1) * size) → main ≡ max long ((number + 1 - 1) * size)
long_passed size long number main from whole is =
    let next : (number + 1 - 1) * size ≡ number * size = ap (λ (n : ℕ). n * size) (omega arith) in
    omega (arith, whole_page size number from)
