-- Page 1's header and the freelist.
use Rattle.std.proofs.Common.{◌≡◌, ℕ, ◌+◌, ◌<◌, ◌≤◌, Bool, true, false, List, [], ◌∷◌, ◌++◌, length, refl, sym, subst, ap, ◌∙◌, arith, append-nil, inl, inr}
use Rattle.page_spec.specs.Bytes.{u32_at}
use Rattle.page_spec.specs.Header.{fields_of}
use Rattle.page_spec.specs.View.{View}
use Rattle.page_face.specs.declared.pages_tells.PagesTells.{Ghosts}
use Rattle.page_face.specs.Pages.{ReadsAtMost}
use Rattle.page_face.proofs.PageLaws.{reading_same, reading_join}
use Rattle.sound_spec.specs.Sound.{CountsPages}
use Rattle.check_spec.specs.declared.fault.CheckFault.{CheckFault}
use Rattle.check_spec.specs.declared.fault.CheckFault.TheVariants as fault
use Rattle.check_spec.specs.Forms.{is_inside_or_none}
use Rattle.check_spec.specs.Walk.{Place, Past, trunk_places, schema_spot, leads_to}
use Rattle.check_spec.proofs.CellsFit.{inside_or_none_is}
use Rattle.tree_check.specs.declared.walk.Walk.{Walk}
use Rattle.tree_check.specs.Met.{met_up_to}
use Rattle.tree_check.specs.Walking.{SuitsPages, KeepsPast, WalksTo, HasVisited, MeetsOver, BarsVisit}
use Rattle.tree_check.specs.Begun.{HasHeader, HasFront, HasFirst, behind_list}
use Rattle.tree_check.proofs.Beginning.{suits_read, last_stays}
use Rattle.tree_check.proofs.Reaching.{begins, stops_at, walks_inside, walks_on, bars_on}

first_trunk_is : (first : List ℕ) → (fields_of first).first_trunk ≡ u32_at first 32
unfolding fields_of
first_trunk_is first = refl

free_pages_is : (first : List ℕ) → (fields_of first).free_pages ≡ u32_at first 36
unfolding fields_of
free_pages_is first = refl

same_counts : (size last also : ℕ) (page_size : ℕ) (first bytes : List ℕ) → page_size ≡ size → last ≡ also → first ≡ bytes → CountsPages page_size last first → CountsPages size also bytes
same_counts size last also page_size first bytes one two three counts =
    subst (λ (l : List ℕ). CountsPages size also l) three
    (subst (λ (n : ℕ). CountsPages size n first) two (subst (λ (n : ℕ). CountsPages n last first) one counts))

abbrev pub at_header : List Place
at_header = Place.AtHeader ∷ []

-- there is no page 1
pub no_first : {P : Type 0} (pages : Ghosts P) (old : P) (walk : Walk) → SuitsPages pages old walk → walk.last ≡ 0 → MeetsOver pages old old walk at_header (fault.Page 1 28)
no_first pages old walk suits none =
    stops_at pages old old old walk walk at_header Place.AtHeader [] (fault.Page 1 28) (λ world told. told) (begins pages old walk at_header)
    (λ world told mid keeps. inl (λ counts. let some = counts.some in let last = suits.last in omega (arith, some, last, none), refl))

-- it doesn't begin with a header that counts the pages
pub header_broken : {P : Type 0} (pages : Ghosts P) (old new : P) (walk : Walk) (buf : List ℕ) → ReadsAtMost pages old new → SuitsPages pages old walk
    → ((world : View) → pages.tells new world → buf ≡ pages.over old world 1) → (CountsPages walk.page_size walk.last buf → ⊥)
    → MeetsOver pages old new walk at_header (fault.Page 1 28)
header_broken pages old new walk buf reading suits bytes never =
    stops_at pages old old new walk walk at_header Place.AtHeader [] (fault.Page 1 28) reading.edits.narrows (begins pages old walk at_header)
    (λ world told mid keeps. inl (
      λ counts. never
          (same_counts walk.page_size (pages.last_page old) walk.last (pages.page_size old) (pages.over old world 1) buf (sym suits.page_size) (sym suits.last)
          (sym (bytes world told)) counts),
      refl,
    ))

inside_over : {P : Type 0} (pages : Ghosts P) (old : P) (world : View) (walk : Walk) (buf : List ℕ) (is : Bool) → SuitsPages pages old walk → buf ≡ pages.over old world 1
    → is_inside_or_none walk.last (u32_at buf 32) ≡ is → is_inside_or_none (pages.last_page old) (fields_of (pages.over old world 1)).first_trunk ≡ is
inside_over pages old world walk buf is suits bytes inside =
    ap (λ (n : ℕ). is_inside_or_none (pages.last_page old) n) (first_trunk_is (pages.over old world 1))
    ∙ ap (λ (l : List ℕ). is_inside_or_none (pages.last_page old) (u32_at l 32)) (sym bytes)
    ∙ ap (λ (n : ℕ). is_inside_or_none n (u32_at buf 32)) (sym suits.last) ∙ inside

-- the first trunk is out of range
pub trunk_outside : {P : Type 0} (pages : Ghosts P) (old new : P) (walk : Walk) (buf : List ℕ) → ReadsAtMost pages old new → SuitsPages pages old walk
    → ((world : View) → pages.tells new world → buf ≡ pages.over old world 1) → CountsPages walk.page_size walk.last buf
    → is_inside_or_none walk.last (u32_at buf 32) ≡ false → MeetsOver pages old new walk at_header (fault.Page 1 32)
trunk_outside pages old new walk buf reading suits bytes counts outside =
    stops_at pages old old new walk walk at_header Place.AtHeader [] (fault.Page 1 32) reading.edits.narrows (begins pages old walk at_header)
    (λ world told mid keeps. inr (
      same_counts (pages.page_size old) walk.last (pages.last_page old) walk.page_size buf (pages.over old world 1) suits.page_size suits.last (bytes world told) counts,
      inside_over pages old world walk buf false suits (bytes world told) outside,
      refl,
    ))

first_range : (last trunk : ℕ) → is_inside_or_none last trunk ≡ true → 0 < trunk → (2 ≤ trunk) × (trunk ≤ last)
first_range last trunk inside some =
    elim (inside_or_none_is last trunk inside) [
      | inl none ↦ absurd (omega (arith, none, some))
      | inr range ↦ range
    ]

-- the header is in order
pub header_goes : {P : Type 0} (pages : Ghosts P) (old new : P) (walk : Walk) (buf : List ℕ) → ReadsAtMost pages old new → SuitsPages pages old walk
    → ((world : View) → pages.tells new world → buf ≡ pages.over old world 1) → CountsPages walk.page_size walk.last buf
    → is_inside_or_none walk.last (u32_at buf 32) ≡ true → HasHeader pages old walk buf new
header_goes pages old new walk buf reading suits bytes counts inside = record {
  walks = walks_inside pages old old new walk walk walk at_header Place.AtHeader (trunk_places (u32_at buf 32) ++ behind_list) [] reading.edits.narrows
      (sym (append-nil walk.roots.items)) (begins pages old walk at_header)
      (λ world told mid keeps. (
        mid,
        (
          same_counts (pages.page_size old) walk.last (pages.last_page old) walk.page_size buf (pages.over old world 1) suits.page_size suits.last (bytes world told) counts,
          inside_over pages old world walk buf true suits (bytes world told) inside,
          ap (λ (n : ℕ). leads_to mid (trunk_places n ++ behind_list))
              (ap (λ (l : List ℕ). u32_at l 32) (bytes world told) ∙ sym (first_trunk_is (pages.over old world 1))),
        ),
        keeps,
      ));
  suits = suits_read pages old new walk reading suits;
  bytes = bytes;
  some = counts.some;
  first = first_range walk.last (u32_at buf 32) inside;
}

-- a fault in the freelist
pub list_bars : {P : Type 0} (pages : Ghosts P) (old mid new : P) (before : Walk) (buf : List ℕ) (why : CheckFault) → ReadsAtMost pages old mid → ReadsAtMost pages mid new
    → HasHeader pages old before buf mid → BarsVisit pages mid new before (trunk_places (u32_at buf 32)) why → BarsVisit pages old new before at_header why
list_bars pages old mid new before buf why one two header bars =
    bars_on pages old mid new before before at_header (trunk_places (u32_at buf 32)) behind_list why one two header.walks bars

list_walks : {P : Type 0} (pages : Ghosts P) (old mid new : P) (before walk : Walk) (buf : List ℕ) → ReadsAtMost pages old mid → ReadsAtMost pages mid new
    → HasHeader pages old before buf mid → HasVisited pages mid before (trunk_places (u32_at buf 32)) new walk → WalksTo pages old new before walk at_header behind_list
list_walks pages old mid new before walk buf one two header list =
    walks_on pages old mid new before before walk at_header (trunk_places (u32_at buf 32)) behind_list one two header.walks list.walks

-- so many pages were met as the freelist has
met_free : (before walk : Walk) (past : Past) (count : ℕ) → met_up_to before.marks.bits.items before.last ≡ 0
    → met_up_to walk.marks.bits.items before.last ≡ met_up_to before.marks.bits.items before.last + count → walk.last ≡ before.last → KeepsPast walk past
    → length past.met ≡ count
met_free before walk past count fresh counted last keeps =
    let here : met_up_to walk.marks.bits.items before.last ≡ length past.met = subst (λ (n : ℕ). met_up_to walk.marks.bits.items n ≡ length past.met) last keeps.marks.counted in
    omega (arith, here, counted, fresh)

-- The freelist was walked, so many pages were met, and the first buffer has page 1's bytes.
pub record ListMet {P : Type 0} (pages : Ghosts P) (old new : P) (before walk : Walk) (count : ℕ) (buf : List ℕ) : Type 0 where
  pub reading : ReadsAtMost pages old new
  pub walks : WalksTo pages old new before walk at_header behind_list
  pub suits : SuitsPages pages new walk
  pub some : 1 ≤ walk.last
  pub bytes : (world : View) → pages.tells new world → buf ≡ pages.over old world 1
  pub met : (past : Past) → KeepsPast walk past → length past.met ≡ count

pub list_met : {P : Type 0} (pages : Ghosts P) (old mid new : P) (before walk : Walk) (count : ℕ) (buf : List ℕ) → SuitsPages pages old before
    → met_up_to before.marks.bits.items before.last ≡ 0 → ReadsAtMost pages old mid → ReadsAtMost pages mid new
    → HasHeader pages old before buf mid → HasVisited pages mid before (trunk_places (u32_at buf 32)) new walk
    → met_up_to walk.marks.bits.items before.last ≡ met_up_to before.marks.bits.items before.last + count → ListMet pages old new before walk count buf
list_met pages old mid new before walk count buf suits fresh one two header list counted =
    let all = reading_join pages old mid new one two (pages.follows_on) in
    let last = last_stays pages old new before walk all suits list.suits in
    record {
      reading = all;
      walks = list_walks pages old mid new before walk buf one two header list;
      suits = list.suits;
      some = omega (arith, header.some, last);
      bytes = λ world told. header.bytes world (two.edits.narrows world told);
      met = λ past keeps. met_free before walk past count fresh counted last keeps;
    }

-- the bytes of page 1, as they stand now
first_now : {P : Type 0} (pages : Ghosts P) (old new : P) (before walk : Walk) (count : ℕ) (buf : List ℕ) → ListMet pages old new before walk count buf
    → (world : View) → pages.tells new world → u32_at buf 36 ≡ (fields_of (pages.over new world 1)).free_pages
first_now pages old new before walk count buf list world told =
    ap (λ (l : List ℕ). u32_at l 36) (list.bytes world told ∙ sym ((list.reading.each world told).each 1)) ∙ sym (free_pages_is (pages.over new world 1))

-- the header counts as many
pub front_goes : {P : Type 0} (pages : Ghosts P) (old new : P) (before walk : Walk) (count : ℕ) (buf : List ℕ) → ListMet pages old new before walk count buf
    → count ≡ u32_at buf 36 → HasFront pages old before count buf new walk
front_goes pages old new before walk count buf list is = record {
  walks = walks_on pages old new new before walk walk at_header (Place.AtEnd ∷ []) (Place.AtNode schema_spot 1 ∷ []) list.reading
      (reading_same pages new list.suits.ready (pages.follows_itself new)) list.walks
      (walks_inside pages new new new walk walk walk (Place.AtEnd ∷ []) Place.AtEnd [] [] (λ world told. told) (sym (append-nil walk.roots.items))
      (begins pages new walk (Place.AtEnd ∷ []))
      (λ world told mid keeps. (mid, (list.met mid keeps ∙ is ∙ first_now pages old new before walk count buf list world told, refl), keeps)));
  suits = list.suits;
  bytes = list.bytes;
  some = list.some;
  counts = λ world told. is ∙ ap (λ (l : List ℕ). u32_at l 36) (list.bytes world told) ∙ sym (free_pages_is (pages.over old world 1));
}

-- or not
pub front_miscounts : {P : Type 0} (pages : Ghosts P) (old new : P) (before walk : Walk) (count : ℕ) (buf : List ℕ) → ListMet pages old new before walk count buf
    → (count ≡ u32_at buf 36 → ⊥) → MeetsOver pages old new before at_header (fault.Page 1 36)
front_miscounts pages old new before walk count buf list apart =
    stops_at pages old new new before walk at_header Place.AtEnd (Place.AtNode schema_spot 1 ∷ []) (fault.Page 1 36) (λ world told. told) list.walks
    (λ world told mid keeps. (
      λ same. apart
          (sym (list.met mid keeps) ∙ same ∙ free_pages_is (pages.over old world 1) ∙ ap (λ (l : List ℕ). u32_at l 36) (sym (list.bytes world told))),
      refl,
    ))

-- page 1's tree was visited
pub first_goes : {P : Type 0} (pages : Ghosts P) (old mid new : P) (before walk later : Walk) (free : ℕ) (buf : List ℕ) → ReadsAtMost pages old mid → ReadsAtMost pages mid new
    → HasFront pages old before free buf mid walk → HasVisited pages mid walk (Place.AtNode schema_spot 1 ∷ []) new later → HasFirst pages old before free new later
first_goes pages old mid new before walk later free buf one two front visited = record {
  walks = walks_on pages old mid new before walk later at_header (Place.AtNode schema_spot 1 ∷ []) [] one two front.walks visited.walks;
  suits = visited.suits;
  counts = λ world told. front.counts world (two.edits.narrows world told);
}

pub first_bars : {P : Type 0} (pages : Ghosts P) (old mid new : P) (before walk : Walk) (free : ℕ) (buf : List ℕ) (why : CheckFault) → ReadsAtMost pages old mid
    → ReadsAtMost pages mid new → HasFront pages old before free buf mid walk → BarsVisit pages mid new walk (Place.AtNode schema_spot 1 ∷ []) why
    → BarsVisit pages old new before at_header why
first_bars pages old mid new before walk free buf why one two front bars =
    bars_on pages old mid new before walk at_header (Place.AtNode schema_spot 1 ∷ []) [] why one two front.walks bars

-- the first buffer has page 1's bytes, as they stand now
pub front_bytes : {P : Type 0} (pages : Ghosts P) (old new : P) (before walk : Walk) (free : ℕ) (buf : List ℕ) → ReadsAtMost pages old new → HasFront pages old before free buf new walk
    → (world : View) → pages.tells new world → buf ≡ pages.over new world 1
front_bytes pages old new before walk free buf reading front world told = front.bytes world told ∙ sym ((reading.each world told).each 1)

-- the same, where the first trunk's number was read
pub list_met_from : {P : Type 0} (pages : Ghosts P) (old mid new : P) (before walk : Walk) (count first : ℕ) (buf : List ℕ) → first ≡ u32_at buf 32
    → SuitsPages pages old before → met_up_to before.marks.bits.items before.last ≡ 0 → ReadsAtMost pages old mid → ReadsAtMost pages mid new
    → HasHeader pages old before buf mid → HasVisited pages mid before (trunk_places first) new walk
    → met_up_to walk.marks.bits.items before.last ≡ met_up_to before.marks.bits.items before.last + count → ListMet pages old new before walk count buf
list_met_from pages old mid new before walk count first buf is suits fresh one two header list counted =
    list_met pages old mid new before walk count buf suits fresh one two header
    (subst (λ (n : ℕ). HasVisited pages mid before (trunk_places n) new walk) is list) counted

pub list_bars_from : {P : Type 0} (pages : Ghosts P) (old mid new : P) (before : Walk) (first : ℕ) (buf : List ℕ) (why : CheckFault) → first ≡ u32_at buf 32
    → ReadsAtMost pages old mid → ReadsAtMost pages mid new → HasHeader pages old before buf mid → BarsVisit pages mid new before (trunk_places first) why
    → BarsVisit pages old new before at_header why
list_bars_from pages old mid new before first buf why is one two header bars =
    list_bars pages old mid new before buf why one two header (subst (λ (n : ℕ). BarsVisit pages mid new before (trunk_places n) why) is bars)

pub list_range : {P : Type 0} (pages : Ghosts P) (old mid : P) (before : Walk) (first : ℕ) (buf : List ℕ) → first ≡ u32_at buf 32 → HasHeader pages old before buf mid
    → 0 < first → (2 ≤ first) × (first ≤ before.last)
list_range pages old mid before first buf is header =
    subst (λ (n : ℕ). 0 < n → (2 ≤ n) × (n ≤ before.last)) (sym is) header.first
