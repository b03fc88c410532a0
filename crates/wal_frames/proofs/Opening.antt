-- What the front of a log tells of its bytes.
use Rattle.std.proofs.Common.{◌≡◌, ℕ, ◌≤◌, ◌<◌, ◌&&◌, ◌||◌, ◌==◌, Bool, true, false, List, [], length, take, refl, sym, ◌∙◌, ap, arith, if◌then◌else◌, Option, Some, None}
use Rattle.std.proofs.lemmas.Bool.{eqb-true}
use Rattle.std.specs.Prelude.{Result, Ok, Err, IfOk}
use Rattle.page_spec.specs.Header.{is_page_size}
use Rattle.log_spec.specs.LogHeader.{header_size, LogFields, log_fields, is_signed, is_generation, foreign_at, own_version, big_magic, little_magic, IsOurs}
use Rattle.log_spec.specs.Accept.{Accepted as IsAccepted}
use Rattle.wal_frames.specs.Front.{IsLegalFront, HasRoom, front_of, header_in, signed_front, fields_for, words_of}
use Rattle.wal_frames.specs.Found.{FindsFrames, FindsAccepted, start_sum}
use Rattle.wal_frames.specs.declared.header.LogHeader.{LogHeader}
use Rattle.wal_frames.specs.declared.header.Front.{Front}
use Rattle.wal_frames.specs.declared.header.Front.TheVariants.{Nothing, Foreign, Ours}
use Rattle.wal_frames.specs.declared.found.Accepted.{Accepted}
use Rattle.log_spec.proofs.HeaderLaws.{fields-take, signed-take, signed_long}
use Rattle.wal_frames.proofs.Fronts.{short_is_unsigned, nothing_there}

pub short_front : (log : ℕ) (bytes : List ℕ) → length bytes < header_size → Nothing ≡ front_of log bytes
short_front log bytes short = nothing_there log bytes (sym (short_is_unsigned bytes short))

-- the front is told by the bytes of a header
pub front-take : (log : ℕ) (bytes : List ℕ) → header_size ≤ length bytes → front_of log (take header_size bytes) ≡ front_of log bytes
unfolding front_of header_in
front-take log bytes long =
    rw (signed-take bytes long, fields-take bytes) (ap (λ (front : Front). if is_signed bytes then front else Nothing) (either (foreign_at log (log_fields bytes))))
  where
    either : (at : Option ℕ) → signed_front (take header_size bytes) at ≡ signed_front bytes at
    either None = rw (fields-take bytes) refl
    either (Some at) = rw (fields-take bytes) refl

pub record OursParts (log : ℕ) (bytes : List ℕ) (header : LogHeader) : Type 0 where
  pub ours : IsOurs log bytes
  pub told : header ≡ header_in bytes

pub ours_parts : (log : ℕ) (bytes : List ℕ) (header : LogHeader) → front_of log bytes ≡ Ours header → OursParts log bytes header
unfolding front_of
ours_parts log bytes header h =
    let parts = go (is_signed bytes) (foreign_at log (log_fields bytes)) h in
    record { ours = record { signed = parts.0; own = parts.1 }; told = parts.2 }
  where
    go : (signed : Bool) (at : Option ℕ) → (if signed then signed_front bytes at else Nothing) ≡ Ours header
        → (signed ≡ true) × (at ≡ None) × (header ≡ header_in bytes)
    go false at h = absurd cc
    go true (Some at) h = absurd cc
    go true None h = (refl, refl, cc)

pub ours_front : (log : ℕ) (bytes : List ℕ) → IsOurs log bytes → front_of log bytes ≡ Ours (header_in bytes)
unfolding front_of
ours_front log bytes ours = rw (ours.signed, ours.own) refl

own_tests : (log : ℕ) (fields : LogFields) → foreign_at log fields ≡ None
    → ((fields.version == own_version) ≡ true) × (is_page_size fields.page_size ≡ true) × (is_generation log fields.generation ≡ true)
unfolding foreign_at
own_tests log fields h = go (fields.version == own_version) (is_page_size fields.page_size) (is_generation log fields.generation) h
  where
    go : (a b c : Bool) → if◌then◌else◌ {A = Option ℕ} a (if◌then◌else◌ {A = Option ℕ} b (if◌then◌else◌ {A = Option ℕ} c None (Some 12)) (Some 8)) (Some 4) ≡ None → (a ≡ true) × (b ≡ true) × (c ≡ true)
    go false b c h = absurd cc
    go true false c h = absurd cc
    go true true false h = absurd cc
    go true true true h = (refl, refl, refl)

right_magic : (bytes : List ℕ) → is_signed bytes ≡ true → ((log_fields bytes).magic == big_magic || (log_fields bytes).magic == little_magic) ≡ true
unfolding is_signed
right_magic bytes h = go _ _ _ h
  where
    go : (a b c : Bool) → (a && b && c) ≡ true → b ≡ true
    go true true c h = refl
    go true false c h = h
    go false b c h = absurd cc

magic_back : (n : ℕ) → (n == big_magic || n == little_magic) ≡ true → (if n == big_magic then big_magic else little_magic) ≡ n
magic_back n h = go (n == big_magic) (n == little_magic) refl refl h
  where
    go : (a b : Bool) → (n == big_magic) ≡ a → (n == little_magic) ≡ b → (a || b) ≡ true → (if a then big_magic else little_magic) ≡ n
    go true b p q h = sym (eqb-true n big_magic p)
    go false true p q h = sym (eqb-true n little_magic q)
    go false false p q h = absurd cc

pub fields_back : (log : ℕ) (bytes : List ℕ) → IsOurs log bytes → fields_for (header_in bytes) ≡ log_fields bytes
unfolding header_in
fields_back log bytes ours =
    let magic = magic_back (log_fields bytes).magic (right_magic bytes ours.signed) in
    let version : (log_fields bytes).version ≡ own_version = eqb-true (log_fields bytes).version own_version (own_tests log (log_fields bytes) ours.own).0 in
    rw (magic, ← version) refl

page_size_told : (log : ℕ) (bytes : List ℕ) (header : LogHeader) → OursParts log bytes header → is_page_size header.page_size ≡ true
unfolding header_in
page_size_told log bytes header parts = rw parts.told ((own_tests log (log_fields bytes) parts.ours.own).1)

generation_told : (log : ℕ) (bytes : List ℕ) (header : LogHeader) → OursParts log bytes header → is_generation log header.generation ≡ true
unfolding header_in
generation_told log bytes header parts = rw parts.told ((own_tests log (log_fields bytes) parts.ours.own).2)

-- a header of ours is a legal one
pub legal_front : (log : ℕ) (bytes : List ℕ) (front : Front) → front ≡ front_of log bytes → IsLegalFront log front
legal_front log bytes Nothing h = tt
legal_front log bytes (Foreign version at) h = tt
legal_front log bytes (Ours header) h =
    let parts = ours_parts log bytes header (sym h) in
    (page_size_told log bytes header parts, generation_told log bytes header parts)

-- and the bytes have room for it
pub room_for : (log : ℕ) (bytes : List ℕ) (size : ℕ) → length bytes ≤ size → (front : Front) → front ≡ front_of log bytes → HasRoom front size
room_for log bytes size within Nothing h = tt
room_for log bytes size within (Foreign version at) h = tt
room_for log bytes size within (Ours header) h = let long = signed_long bytes (ours_parts log bytes header (sym h)).ours.signed in omega arith

none_accepted : (log : ℕ) (bytes : List ℕ) → (IsOurs log bytes → ⊥) → IsAccepted log bytes []
none_accepted log bytes other = record {
  ours = λ some. absurd (some refl);
  committed = record { there = refl; valid = tt; committed = λ some. absurd (some refl) };
  longest = λ longer ours is. absurd (other ours);
}

-- without a header of ours nothing is accepted
pub found_none : (log : ℕ) (bytes : List ℕ) (found : Accepted) → found.front ≡ front_of log bytes → ((header : LogHeader) → found.front ≡ Ours header → ⊥)
    → found.pages.items ≡ [] → found.size ≡ 0 → words_of found.sum ≡ (0, 0) → FindsAccepted log bytes found
found_none log bytes found is other pages size sum = record {
  front = is;
  frames = ([], none_accepted log bytes (λ ours. other (header_in bytes) (is ∙ ours_front log bytes ours)), pages, size, sum ∙ sym (zero_start (front_of log bytes) (λ header h. other header (is ∙ h))));
}
  where
    zero_start : (front : Front) → ((header : LogHeader) → front ≡ Ours header → ⊥) → start_sum front ≡ (0, 0)
    zero_start Nothing other = refl
    zero_start (Foreign version at) other = refl
    zero_start (Ours header) other = absurd (other header refl)

-- with one, what the scan found is accepted
pub found_some : (log : ℕ) (bytes : List ℕ) (header : LogHeader) (found : Accepted) → Ours header ≡ front_of log bytes → found.front ≡ Ours header
    → FindsFrames header bytes found → FindsAccepted log bytes found
found_some log bytes header found is front frames =
    let parts = ours_parts log bytes header (sym is) in
    let fields : fields_for header ≡ log_fields bytes = ap fields_for parts.told ∙ fields_back log bytes parts.ours in
    let start : (log_fields bytes).sum ≡ start_sum (front_of log bytes) = ap (λ (f : LogFields). f.sum) (sym fields) ∙ ap start_sum is in
    let all = frames log parts.ours fields in
    record { front = front ∙ is; frames = (all.0, all.1, all.2, all.3, rw (← start) all.4) }

pub if_ok_2 : {A E : Type 0} (P Q R : A → Type 0) → ((x : A) → P x → Q x → R x) → (r : Result A E) → IfOk r P → IfOk r Q → IfOk r R
if_ok_2 P Q R all (Ok x) p q = all x p q
if_ok_2 P Q R all (Err e) p q = tt
