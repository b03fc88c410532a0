-- Parts of a buffer.
use Rattle.std.proofs.Common.{◌≡◌, ℕ, ◌+◌, ◌-◌, ◌<◌, ◌≤◌, zero, suc, Bool, Option, List, [], ◌∷◌, ◌++◌, length, length-drop, length-take, take, drop, get_or, refl, sym, ap, ◌∙◌, subst, arith, eq-eqb, eqb-true}
use Rattle.std.specs.Prelude.{Contains}
use Rattle.std.specs.List.{slice_range}
use Rattle.std.proofs.lemmas.List.{drop-take, take_all, take-append-drop, get_or-drop, take_at}
use Rattle.std.proofs.Math.Seq.{take-add}
use Rattle.disk_face.specs.Source.{Takes}
use Rattle.memchr.specs.Find.{Nowhere, Passes, is_byte}
use Rattle.script.specs.Raw.{HasNoEnd, is_within}
use Rattle.page_runs.specs.Reading.{Reading, IsEnd}

drop-nil : (n : ℕ) → drop {A = ℕ} n [] ≡ []
drop-nil zero = refl
drop-nil (suc n) = refl

pub drop-drop : (n m : ℕ) (xs : List ℕ) → drop n (drop m xs) ≡ drop (m + n) xs
drop-drop n zero xs = let same : n ≡ 0 + n = omega arith in ap (λ k. drop k xs) same
drop-drop n (suc m) [] = drop-nil n ∙ sym (drop-nil (suc m + n))
drop-drop n (suc m) (x ∷ xs) = drop-drop n m xs ∙ (let same : suc (m + n) ≡ suc m + n = omega arith in ap (λ k. drop k (x ∷ xs)) same)

-- a part without its first elements
pub drop-slice_range : (xs : List ℕ) (n count e : ℕ) → n + count ≤ e → slice_range xs (n + count) e ≡ drop count (slice_range xs n e)
drop-slice_range xs n count e h =
    let size : e - n ≡ count + (e - (n + count)) = omega arith in
    ap (take (e - (n + count))) (sym (drop-drop count n xs)) ∙ (sym (drop-take count (e - (n + count)) (drop n xs)) ∙ ap (λ k. drop count (take k (drop n xs))) (sym size))

pub take-take : (n m : ℕ) (xs : List ℕ) → n ≤ m → take n (take m xs) ≡ take n xs
take-take zero m xs h = refl
take-take (suc n) zero xs h = absurd (omega arith)
take-take (suc n) (suc m) [] h = refl
take-take (suc n) (suc m) (x ∷ xs) h = ap (λ ys. x ∷ ys) (take-take n m xs (omega arith))

-- the first elements of a part
pub take-slice_range : (xs : List ℕ) (n count e : ℕ) → n + count ≤ e → slice_range xs n (n + count) ≡ take count (slice_range xs n e)
take-slice_range xs n count e h = (let same : n + count - n ≡ count = omega arith in ap (λ k. take k (drop n xs)) same) ∙ sym (take-take count (e - n) (drop n xs) (omega arith))

pub length-slice_range : (xs : List ℕ) (n e : ℕ) → n ≤ e → e ≤ length xs → length (slice_range xs n e) ≡ e - n
length-slice_range xs n e h k = omega (arith, length-take (e - n) (drop n xs), length-drop n xs)

pub HasNoEnd-append : (xs ys : List ℕ) → HasNoEnd xs → HasNoEnd ys → HasNoEnd (xs ++ ys)
HasNoEnd-append [] ys h k = k
HasNoEnd-append (x ∷ xs) ys h k = (h.0, HasNoEnd-append xs ys h.1 k)

-- no LF was found up to a place
pub HasNoEnd-take : (hay : List ℕ) (n : ℕ) → Nowhere (Passes (is_byte 10) hay) 0 n → HasNoEnd (take n hay)
HasNoEnd-take hay zero nowhere = tt
HasNoEnd-take [] (suc n) nowhere = tt
HasNoEnd-take (x ∷ hay) (suc n) nowhere = (
  λ e. nowhere 0 (omega arith) (omega arith) (eq-eqb x 10 e),
  HasNoEnd-take hay n (λ k low high. nowhere (suc k) (omega arith) (omega arith)),
)

pub HasNoEnd-all : (hay : List ℕ) → Nowhere (Passes (is_byte 10) hay) 0 (length hay) → HasNoEnd hay
HasNoEnd-all hay nowhere = subst HasNoEnd (take_all (length hay) hay (omega arith)) (HasNoEnd-take hay (length hay) nowhere)

-- no LF stands in the first bytes, nor in those after them
pub HasNoEnd-rest : (bytes : List ℕ) (n : ℕ) → HasNoEnd (take n bytes) → HasNoEnd (drop n bytes) → HasNoEnd bytes
HasNoEnd-rest bytes n h k = subst HasNoEnd (take-append-drop n bytes) (HasNoEnd-append (take n bytes) (drop n bytes) h k)

-- the first LF after bytes in which there is none
pub IsEnd-found : (bytes : List ℕ) (n at : ℕ) → n ≤ length bytes → HasNoEnd (take n bytes) → at < length (drop n bytes) → Nowhere (Passes (is_byte 10) (drop n bytes)) 0 at → Passes (is_byte 10) (drop n bytes) at → IsEnd bytes (n + at + 1)
IsEnd-found bytes n at small looked inside nowhere passes =
    let place : n + at + 1 - 1 ≡ n + at = omega arith in
    record {
      some = omega arith;
      within = omega (arith, length-drop n bytes);
      text = subst (λ k. HasNoEnd (take k bytes)) (sym place) (subst HasNoEnd (sym (take-add n at bytes)) (HasNoEnd-append (take n bytes) (take at (drop n bytes)) looked (HasNoEnd-take (drop n bytes) at nowhere)));
      last = ap (λ k. get_or bytes k 0) place ∙ (sym (get_or-drop n bytes at 0) ∙ eqb-true (get_or (drop n bytes) at 0) 10 passes);
    }

-- what a refilled buffer holds behind its first bytes
pub refilled : (new old : List ℕ) (len kept count : ℕ) → length new ≡ len → drop kept (slice_range (take len (new ++ drop (length new) old)) 0 (kept + count)) ≡ take count (drop kept new)
refilled new old len kept count same =
    let whole : take len (new ++ drop (length new) old) ≡ new = take_at new (drop (length new) old) len same in
    ap (λ x. drop kept (take (kept + count - 0) x)) whole ∙ ((let same : kept + count - 0 ≡ kept + count = omega arith in ap (λ k. drop kept (take k new)) same) ∙ drop-take kept count new)

-- what a reader's fields show
abbrev pub shown : List ℕ → ℕ → ℕ → ℕ → ℕ → Reading
shown items line next end passed = record { line = slice_range items line next; pending = slice_range items next end; passed = passed }

pub next-count : (reading : Reading) (items : List ℕ) (line next end passed count : ℕ) → shown items line next end passed ≡ reading → next ≤ end → count ≤ length reading.pending → next + count ≤ end
next-count reading items line next end passed count e order h =
    omega (arith, ap length (ap (λ r. r.pending) e), length-take (end - next) (drop next items))

-- what is still to be given after a line was
pub pending-given : (reading : Reading) (items : List ℕ) (line next end passed count : ℕ) → shown items line next end passed ≡ reading → next ≤ end → count ≤ length reading.pending → slice_range items (next + count) end ≡ drop count reading.pending
pending-given reading items line next end passed count e order h =
    drop-slice_range items next count end (next-count reading items line next end passed count e order h) ∙ ap (λ r. drop count r.pending) e

-- the test of a line that is given
pub is_within-given : (reading : Reading) (items bytes : List ℕ) (line next end passed count : ℕ) (fits : Bool) → shown items line next end passed ≡ reading → next ≤ end → count ≤ length reading.pending → bytes ≡ items → fits ≡ is_within passed (slice_range bytes next (next + count)) → is_within reading.passed (take count reading.pending) ≡ fits
is_within-given reading items bytes line next end passed count fits e order h same test =
    sym (test ∙ (ap (λ x. is_within passed (slice_range x next (next + count))) same ∙ (ap (is_within passed) (take-slice_range items next count end (next-count reading items line next end passed count e order h)) ∙ ap (λ r. is_within r.passed (take count r.pending)) e)))

-- what was taken behind the bytes that a buffer keeps
pub Takes-refilled : (left left' : Option (List ℕ)) (limit size k kept count len : ℕ) (new old : List ℕ) → k ≡ kept → size ≡ limit → length new ≡ len → Takes left (size - kept) (take count (drop kept new)) left' → Takes left (limit - k) (drop k (slice_range (take len (new ++ drop (length new) old)) 0 (kept + count))) left'
Takes-refilled left left' limit size k kept count len new old same full whole taken =
    subst (λ n. Takes left (limit - n) (drop n (slice_range (take len (new ++ drop (length new) old)) 0 (kept + count))) left') (sym same)
    (subst (λ n. Takes left (n - kept) (drop kept (slice_range (take len (new ++ drop (length new) old)) 0 (kept + count))) left') full
    (subst (λ x. Takes left (size - kept) x left') (sym (refilled new old len kept count whole)) taken))

-- how many bytes are still to be given
pub length-pending : (reading : Reading) (items : List ℕ) (line next end passed : ℕ) → shown items line next end passed ≡ reading → next ≤ end → end ≤ length items → length reading.pending ≡ end - next
length-pending reading items line next end passed e order inside = sym (ap (λ r. length r.pending) e) ∙ length-slice_range items next end order inside

-- bytes without an end hold no LF
pub HasNoEnd-lacks : (bytes : List ℕ) → HasNoEnd bytes → Contains bytes 10 → ⊥
HasNoEnd-lacks [] none there = omega (arith, there.1)
HasNoEnd-lacks (byte ∷ bytes) none (zero, within, is) = none.0 is
HasNoEnd-lacks (byte ∷ bytes) none (suc k, within, is) = HasNoEnd-lacks bytes none.1 (k, omega (arith, within), is)
