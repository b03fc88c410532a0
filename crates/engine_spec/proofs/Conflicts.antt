-- The computed conflict is the conflict that is defined, and there is none exactly where none is computed.
use Rattle.std.proofs.Common.{◌≡◌, ℕ, ◌+◌, ◌<◌, ◌≤◌, Bool, true, false, ◌||◌, cond, ltb, List, [], ◌∷◌, ◌++◌, length, take, drop, Option, Some, None, refl, sym, subst, ap, ◌∙◌, inl, inr, zero, suc, arith}
use Rattle.std.specs.Prelude.{Contains, ◌⊎◌}
use Rattle.std.proofs.lemmas.List.{take-append-drop, drop_at, length-take-le, length-drop, append_assoc, length-append, drop-append-le}
use Rattle.std.proofs.lemmas.List.Folds.{list_any-append}
use Rattle.std.proofs.lemmas.Bool.{cases_order, ltb-true, ltb-false, or_parts}
use Rattle.engine_spec.specs.declared.commits.Mode.{Mode}
use Rattle.engine_spec.specs.History.{counts, is_written, IsConflict, NoConflict, first_writer, or_others, conflict}
use Rattle.engine_spec.specs.declared.commits.Commit.{Commit}

-- an element of a longer list is its first or one of the others
pub contains_cases : {A : Type 0} (x y : A) (xs : List A) → Contains (x ∷ xs) y → (x ≡ y) ⊎ Contains xs y
contains_cases x y xs (zero, l, e) = inl e
contains_cases x y xs (suc k, l, e) = inr (k, omega arith, e)

-- where no commit wrote the page there is no first writer
pub no_writer : (mode : Mode) (page number : ℕ) (commits : List Commit) → is_written mode page commits ≡ false
    → first_writer mode page number commits ≡ None
no_writer mode page number [] none = refl
no_writer mode page number (commit ∷ commits) none =
    let parts = or_parts (counts mode page commit) (is_written mode page commits) none in
    rw parts.0 (no_writer mode page (number + 1) commits parts.1)

-- where there is no first writer no commit wrote the page
pub not_written : (mode : Mode) (page number : ℕ) (commits : List Commit) → first_writer mode page number commits ≡ None
    → is_written mode page commits ≡ false
not_written mode page number [] none = refl
not_written mode page number (commit ∷ commits) none =
    by_test (counts mode page commit) none (λ others. not_written mode page (number + 1) commits others)
  where
    by_test : (test : Bool) → cond test (Some (number + 1)) (first_writer mode page (number + 1) commits) ≡ None
        → (first_writer mode page (number + 1) commits ≡ None → is_written mode page commits ≡ false)
        → (test || is_written mode page commits) ≡ false
    by_test true none others = absurd cc
    by_test false none others = others none

-- the first writer is the first commit that counts
pub writer_at : (mode : Mode) (page number : ℕ) (before : List Commit) (commit : Commit) (after : List Commit)
    → is_written mode page before ≡ false → counts mode page commit ≡ true
    → first_writer mode page number (before ++ commit ∷ after) ≡ Some (number + length before + 1)
writer_at mode page number [] commit after none counted = rw counted (ap Some (omega arith))
writer_at mode page number (other ∷ before) commit after none counted =
    let parts = or_parts (counts mode page other) (is_written mode page before) none in
    rw parts.0 (writer_at mode page (number + 1) before commit after parts.1 counted ∙ ap Some (omega arith))

-- the parts of a list of commits at the first that wrote the page
record Writer (mode : Mode) (page number : ℕ) (commits : List Commit) (k : ℕ) : Type 0 where
  before : List Commit
  commit : Commit
  after : List Commit
  parts : commits ≡ before ++ commit ∷ after
  number_is : k ≡ number + length before + 1
  wrote : counts mode page commit ≡ true
  first : is_written mode page before ≡ false

writer : (mode : Mode) (page number : ℕ) (commits : List Commit) (k : ℕ) → first_writer mode page number commits ≡ Some k
    → Writer mode page number commits k
writer mode page number [] k is = absurd cc
writer mode page number (commit ∷ commits) k is =
    by_test (counts mode page commit) refl is (λ others. writer mode page (number + 1) commits k others)
  where
    later : counts mode page commit ≡ false → Writer mode page (number + 1) commits k → Writer mode page number (commit ∷ commits) k
    later other w = record {
      before = commit ∷ w.before;
      commit = w.commit;
      after = w.after;
      parts = ap (λ (rest : List Commit). commit ∷ rest) w.parts;
      number_is = (let e = w.number_is in omega arith);
      wrote = w.wrote;
      first = rw other w.first;
    }

    by_test : (test : Bool) → counts mode page commit ≡ test
        → cond test (Some (number + 1)) (first_writer mode page (number + 1) commits) ≡ Some k
        → (first_writer mode page (number + 1) commits ≡ Some k → Writer mode page (number + 1) commits k)
        → Writer mode page number (commit ∷ commits) k
    by_test true counted is others = record {
      before = [];
      commit = commit;
      after = commits;
      parts = refl;
      number_is = (let e : number + 1 ≡ k = cc in omega arith);
      wrote = counted;
      first = refl;
    }
    by_test false other is others = later other (others is)

-- what the conflict among these pages says, of the first writers
Answers : (ℕ → Option ℕ) → List ℕ → Option (ℕ × ℕ) → Type 0
Answers writer pages None = (q : ℕ) → Contains pages q → writer q ≡ None
Answers writer pages (Some found) = Contains pages found.0 × (writer found.0 ≡ Some found.1)
    × ((q : ℕ) → Contains pages q → q < found.0 → writer q ≡ None)

-- a longer list has the elements of the others
pub contains_more : {A : Type 0} (x y : A) (xs : List A) → Contains xs y → Contains (x ∷ xs) y
contains_more x y xs c = (suc c.0, omega arith, c.2)

none_more : (writer : ℕ → Option ℕ) (p : ℕ) (ps : List ℕ) (q bound : ℕ) → writer p ≡ None ⊎ bound ≤ p
    → ((r : ℕ) → Contains ps r → r < bound → writer r ≡ None) → Contains (p ∷ ps) q → q < bound → writer q ≡ None
none_more writer p ps q bound first others c l =
    elim (contains_cases p q ps c) [
      | inl e ↦ elim first [ inl is ↦ cc | inr past ↦ absurd (omega arith) ]
      | inr there ↦ others q there l
    ]

answers_more : (writer : ℕ → Option ℕ) (p : ℕ) (ps : List ℕ) (o : Option ℕ) → writer p ≡ o → (r : Option (ℕ × ℕ))
    → Answers writer ps r → Answers writer (p ∷ ps) (or_others p o r)
unfolding Answers
answers_more writer p ps None is None a =
    λ q c. elim (contains_cases p q ps c) [ inl e ↦ cc | inr there ↦ a q there ]
answers_more writer p ps None is (Some other) a =
    (contains_more p other.0 ps a.0, a.1, λ q c l. none_more writer p ps q other.0 (inl is) a.2 c l)
answers_more writer p ps (Some k) is None a =
    ((zero, omega arith, refl), is, λ q c l. none_more writer p ps q p (inr (omega arith)) (λ r d m. a r d) c l)
answers_more writer p ps (Some k) is (Some other) a = by_test (ltb other.0 p) refl
  where
    by_test : (test : Bool) → ltb other.0 p ≡ test → Answers writer (p ∷ ps) (cond test (Some other) (Some (p, k)))
    by_test true below =
        let below = ltb-true other.0 p below in
        (contains_more p other.0 ps a.0, a.1, λ q c l. none_more writer p ps q other.0 (inr (omega arith)) a.2 c l)
    by_test false above =
        let above = ltb-false other.0 p above in (
          (zero, omega arith, refl),
          is,
          λ q c l. none_more writer p ps q p (inr (omega arith)) (λ r d m. a.2 r d (omega arith)) c l,
        )

answers : (mode : Mode) (reads : List ℕ) (n : ℕ) (history : List Commit)
    → Answers (λ q. first_writer mode q n (drop n history)) reads (conflict mode reads n history)
unfolding Answers
answers mode [] n history = λ q c. absurd (omega (arith, c.1))
answers mode (page ∷ pages) n history =
    answers_more (λ q. first_writer mode q n (drop n history)) page pages (first_writer mode page n (drop n history)) refl
    (conflict mode pages n history) (answers mode pages n history)

answers_none : (writer : ℕ → Option ℕ) (pages : List ℕ) (r : Option (ℕ × ℕ)) → Answers writer pages r → r ≡ None
    → (q : ℕ) → Contains pages q → writer q ≡ None
unfolding Answers
answers_none writer pages None a is = a
answers_none writer pages (Some found) a is = absurd cc

answers_no : (writer : ℕ → Option ℕ) (pages : List ℕ) (r : Option (ℕ × ℕ)) → Answers writer pages r
    → ((q : ℕ) → Contains pages q → writer q ≡ None) → r ≡ None
unfolding Answers
answers_no writer pages None a none = refl
answers_no writer pages (Some found) a none = let e = none found.0 a.0 in let f = a.1 in absurd cc

answers_some : (writer : ℕ → Option ℕ) (pages : List ℕ) (r : Option (ℕ × ℕ)) (page number : ℕ) → Answers writer pages r
    → r ≡ Some (page, number) → Answers writer pages (Some (page, number))
answers_some writer pages r page number a is = subst (Answers writer pages) is a

pair_is : (pair : ℕ × ℕ) (a b : ℕ) → pair.0 ≡ a → pair.1 ≡ b → pair ≡ (a, b)
pair_is (x, y) a b p q = cc

answers_are : (writer : ℕ → Option ℕ) (pages : List ℕ) (r : Option (ℕ × ℕ)) (page number : ℕ) → Answers writer pages r
    → Contains pages page → writer page ≡ Some number → ((q : ℕ) → Contains pages q → q < page → writer q ≡ None)
    → r ≡ Some (page, number)
unfolding Answers
answers_are writer pages None page number a there wrote least = let e = a page there in absurd cc
answers_are writer pages (Some found) page number a there wrote least = by_order (cases_order found.0 page)
  where
    by_order : (found.0 ≡ page) ⊎ ((found.0 < page) ⊎ (page < found.0)) → Some found ≡ Some (page, number)
    by_order (inl same) =
        let e : Some found.1 ≡ Some number = sym a.1 ∙ (ap writer same ∙ wrote) in
        let f : found.1 ≡ number = cc in
        ap Some (pair_is found page number same f)
    by_order (inr (inl below)) = let e = least found.0 a.0 below in let f = a.1 in absurd cc
    by_order (inr (inr above)) = let e = a.2 page there above in absurd cc

-- there is no conflict where none is computed
pub no_conflict : (mode : Mode) (reads : List ℕ) (n : ℕ) (history : List Commit) → conflict mode reads n history ≡ None
    → NoConflict mode reads n history
no_conflict mode reads n history is q there =
    not_written mode q n (drop n history)
    (answers_none (λ q. first_writer mode q n (drop n history)) reads (conflict mode reads n history)
    (answers mode reads n history) is q there)

-- none is computed where there is none
pub conflict_none : (mode : Mode) (reads : List ℕ) (n : ℕ) (history : List Commit) → NoConflict mode reads n history
    → conflict mode reads n history ≡ None
conflict_none mode reads n history none =
    answers_no (λ q. first_writer mode q n (drop n history)) reads (conflict mode reads n history) (answers mode reads n history)
    (λ q there. no_writer mode q n (drop n history) (none q there))

-- the commits from a snapshot on that have one of them
split : {A : Type 0} (n : ℕ) (xs : List A) (before : List A) (x : A) (after : List A) → drop n xs ≡ before ++ x ∷ after
    → (xs ≡ (take n xs ++ before) ++ x ∷ after) × (length (take n xs ++ before) ≡ n + length before)
split n xs before x after is =
    let e = ap length is in
    let within : n ≤ length xs = omega (arith, length-drop n xs, length-append before (x ∷ after)) in (
      sym (take-append-drop n xs) ∙ (ap (λ rest. take n xs ++ rest) is ∙ sym (append_assoc (take n xs) before (x ∷ after))),
      length-append (take n xs) before ∙ ap (λ k. k + length before) (length-take-le n xs within),
    )

split_within : {A : Type 0} (n : ℕ) (xs : List A) (before : List A) (x : A) (after : List A) → drop n xs ≡ before ++ x ∷ after
    → n ≤ length xs
split_within n xs before x after is =
    let e = ap length is in omega (arith, length-drop n xs, length-append before (x ∷ after))

-- what is computed is a conflict
pub is_conflict : (mode : Mode) (reads : List ℕ) (n : ℕ) (history : List Commit) (page number : ℕ)
    → conflict mode reads n history ≡ Some (page, number) → IsConflict mode reads n history page number
unfolding Answers
is_conflict mode reads n history page number is =
    let a = answers_some (λ q. first_writer mode q n (drop n history)) reads (conflict mode reads n history) page number
    (answers mode reads n history) is in
    let w = writer mode page n (drop n history) number a.1 in
    let parts = split n history w.before w.commit w.after w.parts in
    record {
      before = take n history ++ w.before;
      commit = w.commit;
      after = w.after;
      parts = parts.0;
      number_is = (let e = w.number_is in let f = parts.1 in omega arith);
      later = (let f = parts.1 in omega arith);
      read = a.0;
      wrote = w.wrote;
      first = rw (drop_at (take n history) w.before n (length-take-le n history (split_within n history w.before w.commit w.after w.parts))) w.first;
      least = λ q there below. not_written mode q n (drop n history) (a.2 q there below);
    }

-- a conflict is what is computed
pub conflict_is : (mode : Mode) (reads : List ℕ) (n : ℕ) (history : List Commit) (page number : ℕ)
    → IsConflict mode reads n history page number → conflict mode reads n history ≡ Some (page, number)
conflict_is mode reads n history page number c =
    let rest : drop n history ≡ drop n c.before ++ c.commit ∷ c.after =
    ap (drop n) c.parts ∙ drop-append-le n c.before (c.commit ∷ c.after) c.later in
    let at : n + length (drop n c.before) + 1 ≡ number = (let e = c.number_is in let l = c.later in omega (arith, length-drop n c.before)) in
    let wrote : first_writer mode page n (drop n history) ≡ Some number =
    ap (first_writer mode page n) rest ∙ (writer_at mode page n (drop n c.before) c.commit c.after c.first c.wrote ∙ ap Some at) in
    answers_are (λ q. first_writer mode q n (drop n history)) reads (conflict mode reads n history) page number
    (answers mode reads n history) c.read wrote (λ q there below. no_writer mode q n (drop n history) (c.least q there below))

or-false : (b : Bool) → (b || false) ≡ b
or-false true = refl
or-false false = refl

-- a page counts as written in two lists of commits joined where it does in one
pub is_written-append : (mode : Mode) (page : ℕ) (xs ys : List Commit)
    → is_written mode page (xs ++ ys) ≡ (is_written mode page xs || is_written mode page ys)
is_written-append mode page xs ys = list_any-append (counts mode page) xs ys

-- with one commit more
pub is_written-push : (mode : Mode) (page : ℕ) (xs : List Commit) (c : Commit)
    → is_written mode page (xs ++ c ∷ []) ≡ (is_written mode page xs || counts mode page c)
is_written-push mode page xs c = list_any-append (counts mode page) xs (c ∷ []) ∙ ap (λ b. is_written mode page xs || b) (or-false (counts mode page c))

-- after a snapshot, with one commit more
pub is_written-drop_push : (mode : Mode) (page n : ℕ) (xs : List Commit) (c : Commit) → n ≤ length xs
    → is_written mode page (drop n (xs ++ c ∷ [])) ≡ (is_written mode page (drop n xs) || counts mode page c)
is_written-drop_push mode page n xs c within =
    ap (is_written mode page) (drop-append-le n xs (c ∷ []) within) ∙ is_written-push mode page (drop n xs) c
