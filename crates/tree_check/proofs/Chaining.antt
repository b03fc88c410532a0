-- A chain that is walked page by page.
use Rattle.std.proofs.Common.{◌≡◌, ℕ, zero, suc, ◌+◌, ◌-◌, ◌<◌, ◌≤◌, Bool, true, List, [], ◌∷◌, ◌++◌, length, take, drop, min, refl, sym, subst, ap, ◌∙◌, arith, append-nil, append_assoc, inl, inr}
use Rattle.std.proofs.lemmas.Bool.{cases_lt}
use Rattle.std.proofs.lemmas.List.{take-take, take_all, length-take, length-append, length-drop}
use Rattle.page_spec.specs.Bytes.{u32_at}
use Rattle.page_spec.specs.View.{View}
use Rattle.tree_spec.specs.Shown.{Shown, shown_by}
use Rattle.tree_spec.specs.Chains.{IsChain, chain_bytes}
use Rattle.page_face.specs.declared.pages_tells.PagesTells.{Ghosts}
use Rattle.page_face.specs.Pages.{ReadsAtMost}
use Rattle.page_face.proofs.PageLaws.{reading_same, reading_join}
use Rattle.check_spec.specs.declared.fault.CheckFault.{CheckFault}
use Rattle.check_spec.specs.Walk.{Place, link_places}
use Rattle.tree_check.specs.Checking.{database_over}
use Rattle.tree_check.specs.declared.walk.Walk.{Walk}
use Rattle.tree_check.specs.Walking.{SuitsPages, ComesTo, WalksTo, BarsVisit, HasVisited}
use Rattle.tree_check.specs.Chained.{HasLink, BeginsChain, Gathers}
use Rattle.tree_check.proofs.Reaching.{begins, walks_then, bars_on}

-- the pages over a world, as chains see them
abbrev pub shown_at : {P : Type 0} → Ghosts P → P → View → Shown
shown_at pages old world = shown_by (pages.usable old) (pages.over old world)

-- Whatever chain goes on from here with so many bytes is the end of one from the first page on, and its bytes are those that were gathered before
-- with those that are left.
abbrev pub GathersOn : {P : Type 0} → Ghosts P → (old now : P) → (first size next left : ℕ) → (keep : Bool) → (before after : List ℕ) → Type 0
GathersOn pages old now first size next left keep before after = (world : View) → pages.tells now world → (rest : List ℕ)
    → IsChain (pages.usable old) (pages.last_page old) (shown_at pages old world) next left rest
    → (links : List ℕ) × IsChain (pages.usable old) (pages.last_page old) (shown_at pages old world) first size links
    × (keep ≡ true → after ++ chain_bytes (pages.usable old) (shown_at pages old world) rest left
    ≡ before ++ chain_bytes (pages.usable old) (shown_at pages old world) links size)
    × (length (chain_bytes (pages.usable old) (shown_at pages old world) rest left) ≡ left
    → length (chain_bytes (pages.usable old) (shown_at pages old world) links size) ≡ size)

-- A chain was walked as far as here.
pub record ChainMet {P : Type 0} (pages : Ghosts P) (old now : P) (before : Walk) (first size next left : ℕ) (keep : Bool) (walk : Walk) : Type 0 where
  pub reading : ReadsAtMost pages old now
  pub walks : WalksTo pages old now before walk (link_places first size) (link_places next left)
  pub suits : SuitsPages pages now walk
  pub begins : BeginsChain walk.last next left
  pub gathers : GathersOn pages old now first size next left keep before.payload.items walk.payload.items

pub no_link : {P : Type 0} (pages : Ghosts P) (old : P) (before : Walk) (first size : ℕ) (keep : Bool) → SuitsPages pages old before → BeginsChain before.last first size
    → ChainMet pages old old before first size first size keep before
no_link pages old before first size keep suits range = record {
  reading = reading_same pages old suits.ready (pages.follows_itself old);
  walks = begins pages old before (link_places first size);
  suits = suits;
  begins = range;
  gathers = λ world told rest chain. (rest, chain, λ kept. refl, λ whole. whole);
}

pub link_some : (page n : ℕ) → 0 < n → link_places page n ≡ Place.AtLink page n ∷ []
link_some page zero some = absurd (omega (arith, some))
link_some page (suc n) some = refl

pub link_none : (page n : ℕ) → n ≡ 0 → link_places page n ≡ []
link_none page zero none = refl
link_none page (suc n) none = absurd (omega (arith, none))

walks_to_link : {P : Type 0} (pages : Ghosts P) (old now : P) (before walk : Walk) (all : List Place) (next left : ℕ) → 0 < left
    → WalksTo pages old now before walk all (link_places next left) → WalksTo pages old now before walk all (Place.AtLink next left ∷ [])
walks_to_link pages old now before walk all next left some walks =
    subst (λ (l : List Place). WalksTo pages old now before walk all l) (link_some next left some) walks

-- the payload says nothing of what was met
pub paid_suits : {P : Type 0} (pages : Ghosts P) (now : P) (walk later : Walk) → later ≡ record walk { payload = later.payload } → SuitsPages pages now walk → SuitsPages pages now later
paid_suits pages now walk later same suits =
    subst (λ (w : Walk). SuitsPages pages now w) (sym same) (record {
      ready = suits.ready;
      page_size = suits.page_size;
      usable = suits.usable;
      last = suits.last;
      least = suits.least;
      fits = suits.fits;
      most = suits.most;
      room = suits.room;
      roots = suits.roots;
    })

pub paid_walks : {P : Type 0} (pages : Ghosts P) (old now : P) (before walk later : Walk) (all rest : List Place) → later ≡ record walk { payload = later.payload }
    → WalksTo pages old now before walk all rest → WalksTo pages old now before later all rest
paid_walks pages old now before walk later all rest same walks = λ world told past keeps.
    let come = walks world told past keeps in
    subst (λ (w : Walk). ComesTo (database_over pages old world) w before.roots.items past all rest) (sym same) (record {
      mid = come.mid;
      named = come.named;
      reaches = come.reaches;
      keeps = record { marks = come.keeps.marks; leaves = come.keeps.leaves };
      roots_are = come.roots_are;
    })

-- the first bytes of a piece, cut at the page's end
take_piece : (left room : ℕ) (bytes : List ℕ) → take left (take room bytes) ≡ take (min left room) bytes
take_piece left room bytes =
    elim (cases_lt left room) [
      | inl less ↦ let least : min left room ≡ left = omega (arith, less) in rw (least) (take-take left room bytes (omega (arith, less)))
      | inr more ↦
          let least : min left room ≡ room = omega (arith, more) in rw (least) (take_all left (take room bytes) (omega (arith, more, length-take room bytes)))
    ]

-- the bytes of a page and those behind it are as many as are to come
piece_long : (left room : ℕ) (page rest : List ℕ) → room + 4 ≤ length page → length rest ≡ left - room → length (take left (take room (drop 4 page)) ++ rest) ≡ left
piece_long left room page rest long behind =
    let front = length-take left (take room (drop 4 page)) in
    let inner = length-take room (drop 4 page) in
    let all = length-append (take left (take room (drop 4 page))) rest in
    let dropped = length-drop 4 page in
    omega (arith, front, inner, all, dropped, long, behind)

-- so many bytes more were kept, and so many fewer are to come
pub chain_grown : (before mid after buf : List ℕ) (left count total : ℕ) → mid ≡ before → after ≡ mid ++ take ((4 + count) - 4) (drop 4 buf) → 4 + count ≤ length buf
    → count ≤ left → length before + left ≡ total → length after + (left - count) ≡ total
chain_grown before mid after buf left count total same is long most so_far =
    let before_is : length mid ≡ length before = ap (λ (l : List ℕ). length l) same in
    let after_is : length after ≡ length (mid ++ take ((4 + count) - 4) (drop 4 buf)) = ap (λ (l : List ℕ). length l) is in
    omega (arith, before_is, after_is, length-append mid (take ((4 + count) - 4) (drop 4 buf)), length-take ((4 + count) - 4) (drop 4 buf), length-drop 4 buf, long, most, so_far)

-- one page more
pub chain_more : {P : Type 0} (pages : Ghosts P) (old now new : P) (before walk later after : Walk) (first size next left next_then left_then count : ℕ) (keep : Bool) (buf : List ℕ)
    → 0 < left → ChainMet pages old now before first size next left keep walk → ReadsAtMost pages now new → HasLink pages now walk next left buf new later
    → after ≡ record later { payload = after.payload } → (keep ≡ true → after.payload.items ≡ later.payload.items ++ take count (drop 4 buf))
    → next_then ≡ u32_at buf 0 → count ≡ min left (walk.usable - 4) → left_then ≡ left - count
    → ChainMet pages old new before first size next_then left_then keep after
chain_more pages old now new before walk later after first size next left next_then left_then count keep buf some so_far reading link same gathered next_is count_is left_is =
    let usable_is : walk.usable ≡ pages.usable now = so_far.suits.usable in
    let less : left_then ≡ left - (pages.usable now - 4) = omega (arith, left_is, count_is, usable_is) in
    let places : link_places (u32_at buf 0) (left - (pages.usable now - 4)) ≡ link_places next_then left_then =
    ap (λ (n : ℕ). link_places n (left - (pages.usable now - 4))) (sym next_is) ∙ ap (λ (n : ℕ). link_places next_then n) (sym less) in
    record {
      reading = reading_join pages old now new so_far.reading reading (pages.follows_on);
      walks = paid_walks pages old new before later after (link_places first size) (link_places next_then left_then) same
          (subst (λ (l : List Place). WalksTo pages old new before later (link_places first size) l) places
          (walks_then pages old now new before walk later (link_places first size) (Place.AtLink next left ∷ [])
          (link_places (u32_at buf 0) (left - (pages.usable now - 4))) so_far.reading reading
          (walks_to_link pages old now before walk (link_places first size) next left some so_far.walks) link.walks));
      suits = paid_suits pages new later after same link.suits;
      begins =
          let last_is : after.last ≡ later.last = ap (λ (w : Walk). w.last) same in
          subst (λ (n : ℕ). BeginsChain n next_then left_then) (sym last_is)
          (subst (λ (n : ℕ). BeginsChain later.last n left_then) (sym next_is)
          (subst (λ (n : ℕ). BeginsChain later.last (u32_at buf 0) n) (sym less) link.begins));
      gathers = λ world told rest chain.
          let told_now = reading.edits.narrows world told in
          let u = pages.usable old in
          let shown = shown_at pages old world in
          let bytes_are : buf ≡ pages.over old world next = link.bytes world told ∙ (so_far.reading.each world told_now).each next in
          let usable_old : pages.usable now ≡ u = so_far.reading.edits.usable in
          let last_old : walk.last ≡ pages.last_page old = so_far.suits.last ∙ so_far.reading.last in
          let range = so_far.begins.some some in
          let next_old : next_then ≡ (shown.link next).next = next_is ∙ ap (λ (l : List ℕ). u32_at l 0) bytes_are in
          let left_old : left_then ≡ left - (u - 4) = omega (arith, less, usable_old) in
          let chain_then : IsChain u (pages.last_page old) shown (shown.link next).next (left - (u - 4)) rest =
          subst (λ (n : ℕ). IsChain u (pages.last_page old) shown n (left - (u - 4)) rest) next_old
          (subst (λ (n : ℕ). IsChain u (pages.last_page old) shown next_then n rest) left_old chain) in
          let on = so_far.gathers world told_now (next ∷ rest) (some, refl, range.0, omega (arith, range.1, last_old), chain_then) in
          let count_old : count ≡ min left (u - 4) = omega (arith, count_is, usable_is, usable_old) in
          let piece : take count (drop 4 buf) ≡ take left (shown.link next).bytes =
          ap (λ (n : ℕ). take n (drop 4 buf)) count_old ∙ ap (λ (l : List ℕ). take (min left (u - 4)) (drop 4 l)) bytes_are
          ∙ sym (take_piece left (u - 4) (drop 4 (pages.over old world next))) in (
            on.0,
            on.1,
            λ kept.
                ap (λ (l : List ℕ). l ++ chain_bytes u shown rest left_then)
                (gathered kept ∙ ap (λ (l : List ℕ). l ++ take count (drop 4 buf)) (ap (λ (v : List ℕ). v) (paid link.payload)) ∙ ap (λ (l : List ℕ). walk.payload.items ++ l) piece)
                ∙ ap (λ (n : ℕ). (walk.payload.items ++ take left (shown.link next).bytes) ++ chain_bytes u shown rest n) left_old
                ∙ append_assoc walk.payload.items (take left (shown.link next).bytes) (chain_bytes u shown rest (left - (u - 4)))
                ∙ on.2 kept,
            λ whole.
                on.3 (piece_long left (u - 4) (pages.over old world next) (chain_bytes u shown rest (left - (u - 4)))
                (let long : u ≤ length (pages.over old world next) =
                subst (λ (l : List ℕ). u ≤ length l) bytes_are (omega (arith, link.long, usable_old)) in
                omega (arith, long, so_far.suits.least, usable_is, usable_old))
                (ap (λ (n : ℕ). length (chain_bytes u shown rest n)) (sym left_old) ∙ whole ∙ left_old)),
          );
    }
  where
    paid : later.payload ≡ walk.payload → later.payload.items ≡ walk.payload.items
    paid is = λ i. (is i).items

-- a page that couldn't be met
pub chain_bars : {P : Type 0} (pages : Ghosts P) (old now new : P) (before walk : Walk) (first size next left : ℕ) (keep : Bool) (why : CheckFault) → 0 < left
    → ChainMet pages old now before first size next left keep walk → ReadsAtMost pages now new → BarsVisit pages now new walk (Place.AtLink next left ∷ []) why
    → BarsVisit pages old new before (link_places first size) why
chain_bars pages old now new before walk first size next left keep why some so_far reading bars =
    bars_on pages old now new before walk (link_places first size) (Place.AtLink next left ∷ []) [] why so_far.reading reading
    (walks_to_link pages old now before walk (link_places first size) next left some so_far.walks) bars

-- the chain ends
pub chain_visited : {P : Type 0} (pages : Ghosts P) (old now : P) (before walk : Walk) (first size next left : ℕ) (keep : Bool) → left ≡ 0
    → ChainMet pages old now before first size next left keep walk → HasVisited pages old before (link_places first size) now walk
chain_visited pages old now before walk first size next left keep none so_far = record {
  walks = subst (λ (l : List Place). WalksTo pages old now before walk (link_places first size) l) (link_none next left none) so_far.walks;
  suits = so_far.suits;
}

pub chain_gathers : {P : Type 0} (pages : Ghosts P) (old now : P) (before walk : Walk) (first size next left : ℕ) (keep : Bool) → left ≡ 0
    → ChainMet pages old now before first size next left keep walk → Gathers pages old first size keep before.payload.items now walk.payload.items
chain_gathers pages old now before walk first size next left keep none so_far = λ world told.
    let on = so_far.gathers world told [] (none, so_far.begins.none none) in
    (on.0, on.1, λ kept. sym (append-nil walk.payload.items) ∙ on.2 kept, on.3 (sym none))
