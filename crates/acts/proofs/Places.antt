-- Putting an image or a seat, by the place of its page or session.
use Rattle.std.proofs.Common.{◌≡◌, ℕ, ◌+◌, ◌<◌, ◌≤◌, Bool, true, false, cond, eqb, ltb, not, List, [], ◌∷◌, ◌++◌, length, set, get_or, Some, None, suc, refl, sym, ap, subst, arith}
use Rattle.std.specs.List.{position, position_or_len}
use borrow.Author.Tests.{ltb-true, ltb-false, eqb-true}
use Rattle.engine_spec.specs.declared.commits.PageImage.{PageImage}
use Rattle.page_lines.specs.PageLines.{with_image}
use Rattle.acts.specs.declared.seats.Seat.{Seat}
use Rattle.acts.specs.declared.seats.State.TheVariants.{Out}
use Rattle.acts.specs.Pagers.{seat_state, begun_of, with_seat}

-- where something is found, and where nothing is
found_cases : (test : Bool) (n at : ℕ) → cond test (Some n) None ≡ Some at → (at ≡ n) × (test ≡ true)
found_cases true n at is = (cc, refl)
found_cases false n at is = absurd cc

none_cases : (test : Bool) (n : ℕ) → cond test (Some n) None ≡ None → test ≡ false
none_cases true n is = absurd cc
none_cases false n is = refl

put_there : (images : List PageImage) (page : ℕ) (bytes : List ℕ) → position_or_len (λ image. eqb image.page page) images < length images
    → with_image images page bytes ≡ set images (position_or_len (λ image. eqb image.page page) images) (record { page = page; bytes = bytes })
put_there [] page bytes there = absurd (omega arith)
put_there (image ∷ images) page bytes there = by_test (eqb image.page page) there (put_there images page bytes)
  where
    by_test : (test : Bool) → cond (not test) (1 + position_or_len (λ image. eqb image.page page) images) 0 < length (image ∷ images)
        → (position_or_len (λ image. eqb image.page page) images < length images
        → with_image images page bytes ≡ set images (position_or_len (λ image. eqb image.page page) images) (record { page = page; bytes = bytes }))
        → cond test (record { page = page; bytes = bytes } ∷ images) (image ∷ with_image images page bytes)
        ≡ set (image ∷ images) (cond (not test) (1 + position_or_len (λ image. eqb image.page page) images) 0) (record { page = page; bytes = bytes })
    by_test true there rest = refl
    by_test false there rest =
        let n = position_or_len (λ (image : PageImage). eqb image.page page) images in
        let more : 1 + n ≡ suc n = omega arith in
        subst (λ (k : ℕ). image ∷ with_image images page bytes ≡ set (image ∷ images) k (record { page = page; bytes = bytes })) (sym more)
        (ap (λ (others : List PageImage). image ∷ others) (rest (omega arith)))

put_new : (images : List PageImage) (page : ℕ) (bytes : List ℕ) → length images ≤ position_or_len (λ image. eqb image.page page) images
    → with_image images page bytes ≡ images ++ record { page = page; bytes = bytes } ∷ []
put_new [] page bytes none = refl
put_new (image ∷ images) page bytes none = by_test (eqb image.page page) none (put_new images page bytes)
  where
    by_test : (test : Bool) → length (image ∷ images) ≤ cond (not test) (1 + position_or_len (λ image. eqb image.page page) images) 0
        → (length images ≤ position_or_len (λ image. eqb image.page page) images
        → with_image images page bytes ≡ images ++ record { page = page; bytes = bytes } ∷ [])
        → cond test (record { page = page; bytes = bytes } ∷ images) (image ∷ with_image images page bytes)
        ≡ image ∷ (images ++ record { page = page; bytes = bytes } ∷ [])
    by_test true none rest = absurd (omega arith)
    by_test false none rest = ap (λ (others : List PageImage). image ∷ others) (rest (omega arith))

pub image_there : (images : List PageImage) (page : ℕ) (bytes : List ℕ) (at : ℕ) → position (λ image. eqb image.page page) images ≡ Some at
    → with_image images page bytes ≡ set images at (record { page = page; bytes = bytes })
image_there images page bytes at is =
    let n = position_or_len (λ (image : PageImage). eqb image.page page) images in
    let found = found_cases (ltb n (length images)) n at is in
    subst (λ (k : ℕ). with_image images page bytes ≡ set images k (record { page = page; bytes = bytes })) (sym found.0)
    (put_there images page bytes (ltb-true n (length images) found.1))

pub image_new : (images : List PageImage) (page : ℕ) (bytes : List ℕ) → position (λ image. eqb image.page page) images ≡ None
    → with_image images page bytes ≡ images ++ record { page = page; bytes = bytes } ∷ []
image_new images page bytes is =
    let n = position_or_len (λ (image : PageImage). eqb image.page page) images in
    put_new images page bytes (ltb-false n (length images) (none_cases (ltb n (length images)) n is))

-- the place of a session
place : ℕ → List Seat → ℕ
place session seats = position_or_len (λ seat. eqb seat.session session) seats

-- putting a seat, by the place of its session
seat_put : (seats : List Seat) (new : Seat) → place new.session seats < length seats → with_seat seats new ≡ set seats (place new.session seats) new
unfolding place
seat_put [] new there = absurd (omega arith)
seat_put (seat ∷ seats) new there = by_test (eqb seat.session new.session) there (seat_put seats new)
  where
    by_test : (test : Bool) → cond (not test) (1 + position_or_len (λ one. eqb one.session new.session) seats) 0 < length (seat ∷ seats)
        → (position_or_len (λ one. eqb one.session new.session) seats < length seats
        → with_seat seats new ≡ set seats (position_or_len (λ one. eqb one.session new.session) seats) new)
        → cond test (new ∷ seats) (seat ∷ with_seat seats new)
        ≡ set (seat ∷ seats) (cond (not test) (1 + position_or_len (λ one. eqb one.session new.session) seats) 0) new
    by_test true there rest = refl
    by_test false there rest =
        let n = position_or_len (λ (one : Seat). eqb one.session new.session) seats in
        let more : 1 + n ≡ suc n = omega arith in
        subst (λ (k : ℕ). seat ∷ with_seat seats new ≡ set (seat ∷ seats) k new) (sym more)
        (ap (λ (others : List Seat). seat ∷ others) (rest (omega arith)))

seat_new : (seats : List Seat) (new : Seat) → length seats ≤ place new.session seats → with_seat seats new ≡ seats ++ new ∷ []
unfolding place
seat_new [] new none = refl
seat_new (seat ∷ seats) new none = by_test (eqb seat.session new.session) none (seat_new seats new)
  where
    by_test : (test : Bool) → length (seat ∷ seats) ≤ cond (not test) (1 + position_or_len (λ one. eqb one.session new.session) seats) 0
        → (length seats ≤ position_or_len (λ one. eqb one.session new.session) seats → with_seat seats new ≡ seats ++ new ∷ [])
        → cond test (new ∷ seats) (seat ∷ with_seat seats new) ≡ seat ∷ (seats ++ new ∷ [])
    by_test true none rest = absurd (omega arith)
    by_test false none rest = ap (λ (others : List Seat). seat ∷ others) (rest (omega arith))

-- how a session stands, and how many transactions it has begun, by its place
facts_there : (seats : List Seat) (session : ℕ) (d : Seat) → place session seats < length seats
    → (seat_state seats session ≡ (get_or seats (place session seats) d).state)
    × (begun_of seats session ≡ (get_or seats (place session seats) d).begun)
    × ((get_or seats (place session seats) d).session ≡ session)
unfolding place
facts_there [] session d there = absurd (omega arith)
facts_there (seat ∷ seats) session d there = by_test (eqb seat.session session) refl there (facts_there seats session d)
  where
    by_test : (test : Bool) → eqb seat.session session ≡ test
        → cond (not test) (1 + position_or_len (λ one. eqb one.session session) seats) 0 < length (seat ∷ seats)
        → (position_or_len (λ one. eqb one.session session) seats < length seats
        → (seat_state seats session ≡ (get_or seats (position_or_len (λ one. eqb one.session session) seats) d).state)
        × (begun_of seats session ≡ (get_or seats (position_or_len (λ one. eqb one.session session) seats) d).begun)
        × ((get_or seats (position_or_len (λ one. eqb one.session session) seats) d).session ≡ session))
        → (cond test seat.state (seat_state seats session)
        ≡ (get_or (seat ∷ seats) (cond (not test) (1 + position_or_len (λ one. eqb one.session session) seats) 0) d).state)
        × (cond test seat.begun (begun_of seats session)
        ≡ (get_or (seat ∷ seats) (cond (not test) (1 + position_or_len (λ one. eqb one.session session) seats) 0) d).begun)
        × ((get_or (seat ∷ seats) (cond (not test) (1 + position_or_len (λ one. eqb one.session session) seats) 0) d).session ≡ session)
    by_test true is there rest = (refl, refl, eqb-true seat.session session is)
    by_test false is there rest =
        let n = position_or_len (λ (one : Seat). eqb one.session session) seats in
        let more : 1 + n ≡ suc n = omega arith in
        subst (λ (k : ℕ). (seat_state seats session ≡ (get_or (seat ∷ seats) k d).state)
        × (begun_of seats session ≡ (get_or (seat ∷ seats) k d).begun) × ((get_or (seat ∷ seats) k d).session ≡ session)) (sym more)
        (rest (omega arith))

facts_absent : (seats : List Seat) (session : ℕ) → length seats ≤ place session seats
    → (seat_state seats session ≡ Out) × (begun_of seats session ≡ 0)
unfolding place
facts_absent [] session none = (refl, refl)
facts_absent (seat ∷ seats) session none = by_test (eqb seat.session session) none (facts_absent seats session)
  where
    by_test : (test : Bool) → length (seat ∷ seats) ≤ cond (not test) (1 + position_or_len (λ one. eqb one.session session) seats) 0
        → (length seats ≤ position_or_len (λ one. eqb one.session session) seats
        → (seat_state seats session ≡ Out) × (begun_of seats session ≡ 0))
        → (cond test seat.state (seat_state seats session) ≡ Out) × (cond test seat.begun (begun_of seats session) ≡ 0)
    by_test true none rest = absurd (omega arith)
    by_test false none rest = rest (omega arith)

-- What is known where a session has a seat.
pub record IsSeated (seats : List Seat) (session at : ℕ) : Type 0 where
  pub within : at < length seats
  pub state : (d : Seat) → seat_state seats session ≡ (get_or seats at d).state
  pub begun : (d : Seat) → begun_of seats session ≡ (get_or seats at d).begun
  pub session_is : (d : Seat) → (get_or seats at d).session ≡ session
  pub put : (new : Seat) → new.session ≡ session → with_seat seats new ≡ set seats at new

pub seated : (seats : List Seat) (session at : ℕ) → position (λ seat. eqb seat.session session) seats ≡ Some at → IsSeated seats session at
unfolding place
seated seats session at is =
    let n = position_or_len (λ (seat : Seat). eqb seat.session session) seats in
    let found = found_cases (ltb n (length seats)) n at is in
    let there : n < length seats = ltb-true n (length seats) found.1 in
    subst (λ (k : ℕ). IsSeated seats session k) (sym found.0) (record {
      within = there;
      state = λ d. (facts_there seats session d there).0;
      begun = λ d. (facts_there seats session d there).1;
      session_is = λ d. (facts_there seats session d there).2;
      put = λ new same. subst (λ (k : ℕ). place k seats < length seats → with_seat seats new ≡ set seats (place k seats) new) same (seat_put seats new) there;
    })

-- What is known where it has none.
pub record IsUnseated (seats : List Seat) (session : ℕ) : Type 0 where
  pub state : seat_state seats session ≡ Out
  pub begun : begun_of seats session ≡ 0
  pub put : (new : Seat) → new.session ≡ session → with_seat seats new ≡ seats ++ new ∷ []

pub unseated : (seats : List Seat) (session : ℕ) → position (λ seat. eqb seat.session session) seats ≡ None → IsUnseated seats session
unfolding place
unseated seats session is =
    let n = position_or_len (λ (seat : Seat). eqb seat.session session) seats in
    let none : length seats ≤ n = ltb-false n (length seats) (none_cases (ltb n (length seats)) n is) in
    record {
      state = (facts_absent seats session none).0;
      begun = (facts_absent seats session none).1;
      put = λ new same. subst (λ (k : ℕ). length seats ≤ place k seats → with_seat seats new ≡ seats ++ new ∷ []) same (seat_new seats new) none;
    }
