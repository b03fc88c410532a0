-- Commits of the engine in memory.
use Rattle.std.proofs.Common.{◌≡◌, ◌∙◌, ℕ, ◌+◌, ◌-◌, ◌*◌, ◌^◌, ◌<◌, ◌≤◌, ◌⊎◌, false, List, [], ◌∷◌, ◌++◌, length, drop, refl, sym, ap, subst, inl, inr, arith, All, Contains, get_or, length-append, length-drop, add-zero}
use Rattle.std.specs.Prelude.{slice_get, Some, None, suc, zero}
use Rattle.std.specs.List.{list_any}
use Rattle.std.proofs.lemmas.Bool.{or_parts, cases_lt}
use Rattle.std.proofs.lemmas.Option.{slice_get-get_or, get_or_from_slice_get, slice_get_cases}
use Rattle.std.proofs.lemmas.List.{get_or_append_left, get_or-drop}
use Rattle.std.proofs.lemmas.List.Elements.{All-append, All-cons}
use Rattle.std.proofs.Math.Seq.{get_or-append_seam}
use Rattle.page_spec.specs.PageMap.{PageMap, Agree}
use Rattle.engine_spec.specs.declared.pins.Pin.{Pin}
use Rattle.engine_spec.specs.declared.commits.Commit.{Commit}
use Rattle.engine_spec.specs.declared.commits.Mode.{Mode}
use Rattle.engine_spec.specs.declared.commits.Mode.TheVariants.{Concurrent}
use Rattle.engine_spec.specs.declared.commits.Who.{Who}
use Rattle.engine_spec.specs.Change.{Change, laid}
use Rattle.engine_spec.specs.History.{counts, is_written, conflict, NoConflict}
use Rattle.engine_spec.specs.TwoLogs.{frame_limit}
use Rattle.page_spec.specs.Header.{database_limit}
use Rattle.engine_spec.specs.Written.{commit_of, written}
use Rattle.engine_spec.specs.Events.{pages_after, frames_after}
use Rattle.engine_spec.specs.Good.{HasSizes}
use Rattle.engine_spec.proofs.WrittenSets.{writes_changed}
use Rattle.engine_spec.proofs.Laying.{legal_size, any_there, covers, CoversChange, agree_refl, agree_trans, agree_laid, laid-length, laid-whole, IsWhole}
use Rattle.engine_spec.proofs.Conflicts.{no_conflict}
use Rattle.page_face.specs.declared.prepared.Prepared.{Prepared}
use Rattle.page_face.specs.Prepared.{submitted, change_in, IsFit}
use Rattle.page_face.specs.Pins.{IsLive}
use Rattle.memory_engine.specs.Plain.{PlainState, IsPlain, PlainLive, LeadsOn, MayAdd, IsFree, newest_of, state_of, committed_state}
use Rattle.memory_engine.specs.PlainLaws.{held, inside}

-- where none of some commits wrote a page, each of them didn't
pub uncounted_at : (mode : Mode) (page : ℕ) (commits : List Commit) → is_written mode page commits ≡ false
    → (k : ℕ) (d : Commit) → k < length commits → counts mode page (get_or commits k d) ≡ false
uncounted_at mode page [] none k d within = absurd (omega arith)
uncounted_at mode page (commit ∷ commits) none zero d within =
    (or_parts (counts mode page commit) (list_any (counts mode page) commits) none).0
uncounted_at mode page (commit ∷ commits) none (suc k) d within =
    uncounted_at mode page commits (or_parts (counts mode page commit) (list_any (counts mode page) commits) none).1 k d (omega arith)

-- what stands inside a list is found
pub found_at : {X : Type 0} (xs : List X) (k : ℕ) → k < length xs → (x : X) × (slice_get xs k ≡ Some x)
found_at xs k within =
    elim ((slice_get_cases xs k).1) [ inl here ↦ (here.0, here.2) | inr past ↦ absurd (let bound = past.0 in omega arith) ]

-- a map agrees with one of d commits later on pages that none of these wrote
pub agree_steps : (plain : PlainState) → IsPlain plain → (numbers : List ℕ) (n d : ℕ) → n + d ≤ length plain.history
    → ((q k : ℕ) (commit : Commit) → Contains numbers q → n ≤ k → k < n + d → slice_get plain.history k ≡ Some commit
    → counts Concurrent q commit ≡ false)
    → Agree (get_or plain.maps n []) (get_or plain.maps (n + d) []) numbers
agree_steps plain whole numbers n zero within left =
    subst (λ (m : ℕ). Agree (get_or plain.maps n []) (get_or plain.maps m []) numbers) (sym (add-zero n))
    (agree_refl (get_or plain.maps n []) numbers)
agree_steps plain whole numbers n (suc d) within left =
    let before : Agree (get_or plain.maps n []) (get_or plain.maps (n + d) []) numbers =
    agree_steps plain whole numbers n d (omega arith) (λ q k commit there low high. left q k commit there low (omega arith)) in
    let here = found_at plain.history (n + d) (omega arith) in
    let old : slice_get plain.maps (n + d) ≡ Some (get_or plain.maps (n + d) []) =
    slice_get-get_or plain.maps (n + d) [] (omega (arith, whole.count)) in
    let next : slice_get plain.maps (n + d + 1) ≡ Some (get_or plain.maps (n + d + 1) []) =
    slice_get-get_or plain.maps (n + d + 1) [] (omega (arith, whole.count)) in
    let step : Agree (get_or plain.maps (n + d) []) (get_or plain.maps (n + d + 1) []) numbers =
    (whole.chain (n + d) (get_or plain.maps (n + d) []) (get_or plain.maps (n + d + 1) []) here.0 old here.1 next).agrees numbers
    (λ q there. left q (n + d) here.0 there (omega arith) (omega arith) here.1) in
    let same : n + d + 1 ≡ n + suc d = omega arith in
    subst (λ (m : ℕ). Agree (get_or plain.maps n []) (get_or plain.maps m []) numbers) same
    (agree_trans (get_or plain.maps n []) (get_or plain.maps (n + d) []) (get_or plain.maps (n + d + 1) []) numbers before step)

-- a map agrees with the newest one on pages that no later commit wrote
pub agree_since : (plain : PlainState) → IsPlain plain → (n : ℕ) → n ≤ length plain.history → (numbers : List ℕ)
    → NoConflict Concurrent numbers n plain.history → Agree (get_or plain.maps n []) (newest_of plain) numbers
agree_since plain whole n within numbers none =
    let rest : n + (length plain.history - n) ≡ length plain.history = omega arith in
    subst (λ (m : ℕ). Agree (get_or plain.maps n []) (get_or plain.maps m []) numbers) rest
    (agree_steps plain whole numbers n (length plain.history - n) (omega arith)
    (λ q k commit there low high found.
    let apart : k ≡ n + (k - n) = omega arith in
    let left : counts Concurrent q (get_or (drop n plain.history) (k - n) commit) ≡ false =
    uncounted_at Concurrent q (drop n plain.history) (none q there) (k - n) commit
    (omega (arith, length-drop n plain.history)) in
    let is : get_or (drop n plain.history) (k - n) commit ≡ commit =
    get_or-drop n plain.history (k - n) commit ∙ ap (λ (m : ℕ). get_or plain.history m commit) (sym apart)
    ∙ get_or_from_slice_get plain.history k commit commit found in
    subst (λ (one : Commit). counts Concurrent q one ≡ false) is left))

-- a transaction that is handed in may be laid over the newest map
pub may_add : {M : Type 0} (plain : PlainState) (pin : Pin) (prepared : Prepared M) → IsLive PlainLive plain pin
    → IsFit (state_of plain) pin prepared → MayAdd plain prepared
may_add plain pin prepared live fit =
    let hold = held plain pin live in
    let agree : Agree (get_or plain.maps pin.n []) (newest_of plain) [] =
    agree_since plain live.1.0 pin.n hold.n [] (λ q there. absurd (let bound = there.1 in omega arith)) in
    record {
      whole = live.1.0;
      snap = omega (arith, fit.snap, hold.n);
      in_range = λ k d within. ((fit.in_range k d within).0, omega (arith, (fit.in_range k d within).1, hold.size, agree.no_shorter));
      images = fit.whole;
      fresh = fit.fresh;
      freed = fit.freed;
    }

-- the change of such a transaction is whole
whole_change : {M : Type 0} (plain : PlainState) (prepared : Prepared M) → MayAdd plain prepared
    → IsWhole (length (newest_of plain)) plain.page_size (change_in prepared)
whole_change plain prepared may = record { in_range = may.in_range; whole = may.images; fresh = may.fresh }

-- the newest map has a page, fewer than 2^32, and whole ones
pub newest_whole : (plain : PlainState) → IsPlain plain
    → (1 ≤ length (newest_of plain)) × (length (newest_of plain) < 2 ^ 32) × HasSizes (newest_of plain) (length (newest_of plain)) plain.page_size
newest_whole plain whole =
    let within : length plain.history < length plain.maps = omega (arith, whole.count) in
    let few = whole.few (length plain.history) [] within in
    (few.0, few.1, whole.whole (length plain.history) [] within)

-- an element of a list with one more is an element of the list, or the last
pub more_cases : {X : Type 0} (xs : List X) (x : X) (k : ℕ) (y : X) → slice_get (xs ++ x ∷ []) k ≡ Some y
    → ((k < length xs) × (slice_get xs k ≡ Some y)) ⊎ ((k ≡ length xs) × (y ≡ x))
more_cases xs x k y found =
    let bound : k < length (xs ++ x ∷ []) = inside (xs ++ x ∷ []) k y found in
    let value : get_or (xs ++ x ∷ []) k y ≡ y = get_or_from_slice_get (xs ++ x ∷ []) k y y found in
    elim (cases_lt k (length xs)) [
      | inl low ↦ inl (low, slice_get-get_or xs k y low ∙ ap Some (sym (get_or_append_left xs (x ∷ []) y k low) ∙ value))
      | inr high ↦
          let last : k ≡ length xs = omega (arith, length-append xs (x ∷ [])) in
          inr (last, sym value ∙ ap (λ (m : ℕ). get_or (xs ++ x ∷ []) m y) last ∙ get_or-append_seam xs x [] y)
    ]

-- what holds of an element holds of the list of it alone
only_all : {X : Type 0} (P : X → Type 0) (x : X) → P x → All P (x ∷ [])
only_all P x here = All-cons P x [] here (λ k d within. absurd (omega arith))

-- what is told of it covers the change
covers_written : (change : Change) → change.fresh ≡ [] → CoversChange change (written change)
covers_written change none = covers None 0 change (written change) (writes_changed None 0 change none)

-- the commit leads from the newest map to the one with the change laid over it
pub leads_laid : {M : Type 0} (plain : PlainState) (prepared : Prepared M) (who : Who) → MayAdd plain prepared
    → LeadsOn (newest_of plain) (commit_of (submitted prepared who) (written (change_in prepared))) (laid (newest_of plain) (change_in prepared))
leads_laid plain prepared who may =
    let newest = newest_whole plain may.whole in
    let size = legal_size plain.page_size may.whole.legal in
    record {
      agrees = λ numbers left.
          agree_laid (newest_of plain) (submitted prepared who) (written (change_in prepared)) Concurrent (length (newest_of plain)) plain.page_size numbers
          (omega arith) (whole_change plain prepared may) (omega arith) newest.0 newest.2.each (covers_written (change_in prepared) may.fresh) left;
      first_page = any_there (written (change_in prepared)) 1 (covers_written (change_in prepared) may.fresh 1 (zero, omega arith, refl));
    }

-- each commit of the engine with one more leads from one map to the next
chain_more : {M : Type 0} (plain : PlainState) (prepared : Prepared M) (who : Who) → MayAdd plain prepared
    → (k : ℕ) (old new : PageMap) (commit : Commit)
    → slice_get (plain.maps ++ laid (newest_of plain) (change_in prepared) ∷ []) k ≡ Some old
    → slice_get (plain.history ++ commit_of (submitted prepared who) (written (change_in prepared)) ∷ []) k ≡ Some commit
    → slice_get (plain.maps ++ laid (newest_of plain) (change_in prepared) ∷ []) (k + 1) ≡ Some new → LeadsOn old commit new
chain_more plain prepared who may k old new commit is_old is_commit is_new =
    let count = may.whole.count in
    let next = laid (newest_of plain) (change_in prepared) in
    let last = commit_of (submitted prepared who) (written (change_in prepared)) in
    elim (more_cases plain.history last k commit is_commit) [
      | inl before ↦
          elim (more_cases plain.maps next k old is_old) [
            | inl here ↦
                elim (more_cases plain.maps next (k + 1) new is_new) [
                  | inl after ↦ may.whole.chain k old new commit here.1 before.1 after.1
                  | inr past ↦ absurd (let low = before.0 in let high = past.0 in omega arith)
                ]
            | inr past ↦ absurd (let low = before.0 in let high = past.0 in omega arith)
          ]
      | inr at ↦
          elim (more_cases plain.maps next k old is_old) [
            | inl here ↦
                elim (more_cases plain.maps next (k + 1) new is_new) [
                  | inl after ↦ absurd (let low = after.0 in let high = at.0 in omega arith)
                  | inr past ↦
                      let is_newest : newest_of plain ≡ old =
                      ap (λ (m : ℕ). get_or plain.maps m []) (sym at.0) ∙ get_or_from_slice_get plain.maps k old [] here.1 in
                      let one : LeadsOn (newest_of plain) last next = leads_laid plain prepared who may in
                      let two : LeadsOn old last next = subst (λ (m : PageMap). LeadsOn m last next) is_newest one in
                      let three : LeadsOn old commit next = subst (λ (c : Commit). LeadsOn old c next) (sym at.1) two in
                      subst (λ (m : PageMap). LeadsOn old commit m) (sym past.1) three
                ]
            | inr past ↦ absurd (let low = at.0 in let high = past.0 in omega arith)
          ]
    ]

-- the engine is whole with one commit more
pub plain_more : {M : Type 0} (plain : PlainState) (prepared : Prepared M) (who : Who) → MayAdd plain prepared
    → IsPlain (committed_state plain (submitted prepared who))
plain_more plain prepared who may =
    let whole = may.whole in
    let newest = newest_whole plain whole in
    let change = change_in prepared in
    let size = legal_size plain.page_size whole.legal in
    let count : length (laid (newest_of plain) change) ≡ length (newest_of plain) = laid-length (newest_of plain) change may.fresh in
    let each : All (λ page. length page ≡ plain.page_size) (laid (newest_of plain) change) =
    laid-whole (newest_of plain) change (length (newest_of plain)) plain.page_size (omega arith)
    (whole_change plain prepared may) (omega arith) newest.2.each in
    record {
      legal = whole.legal;
      usable_least = whole.usable_least;
      usable_most = whole.usable_most;
      count = omega (
        arith,
        whole.count,
        length-append plain.maps (laid (newest_of plain) change ∷ []),
        length-append plain.history (commit_of (submitted prepared who) (written (change_in prepared)) ∷ []),
      );
      few = All-append (λ (pages : PageMap). (1 ≤ length pages) × (length pages < 2 ^ 32)) plain.maps (laid (newest_of plain) change ∷ []) whole.few
          (only_all (λ (pages : PageMap). (1 ≤ length pages) × (length pages < 2 ^ 32)) (laid (newest_of plain) change)
          (omega (arith, count, newest.0), rw count newest.1));
      whole = All-append (λ (pages : PageMap). HasSizes pages (length pages) plain.page_size) plain.maps (laid (newest_of plain) change ∷ []) whole.whole
          (only_all (λ (pages : PageMap). HasSizes pages (length pages) plain.page_size) (laid (newest_of plain) change)
          (record { count = refl; each = each }));
      chain = chain_more plain prepared who may;
    }

-- how many pages the map of the commit has
pub pages_are : {M : Type 0} (plain : PlainState) (prepared : Prepared M) → MayAdd plain prepared
    → pages_after (state_of plain) (change_in prepared) ≡ length (newest_of plain)
pages_are plain prepared may = omega (arith, ap length may.fresh)

-- and how many frames there could be
pub frames_are : {M : Type 0} (plain : PlainState) (prepared : Prepared M) → MayAdd plain prepared
    → frames_after (state_of plain) (change_in prepared) ≡ length prepared.changed + 2
frames_are plain prepared may = omega (arith, ap length may.fresh, ap length may.freed)

-- nothing bars a transaction that conflicts with no commit and passes no limit
pub is_free : {M : Type 0} (plain : PlainState) (prepared : Prepared M) (pages frames : ℕ) → MayAdd plain prepared
    → conflict prepared.mode prepared.reads prepared.snap plain.history ≡ None
    → pages ≡ length (newest_of plain) → frames ≡ length prepared.changed + 2
    → pages * plain.page_size ≤ database_limit → frames ≤ frame_limit → IsFree plain prepared
is_free plain prepared pages frames may none is_pages is_frames few short = record {
  free = no_conflict prepared.mode prepared.reads prepared.snap plain.history none;
  fits = record {
    pages = subst (λ (n : ℕ). n * plain.page_size ≤ database_limit) (is_pages ∙ sym (pages_are plain prepared may)) few;
    frames = subst (λ (n : ℕ). n ≤ frame_limit) (is_frames ∙ sym (frames_are plain prepared may)) short;
  };
}

-- the engine is whole once the new map and the commit stand at the end of what it had
pub plain_pushed : {M : Type 0} (plain : PlainState) (prepared : Prepared M) (who : Who) → MayAdd plain prepared
    → (page_size usable : ℕ) (maps more_maps : List PageMap) (history more_history : List Commit) (pages : PageMap) (wrote : List ℕ)
    → page_size ≡ plain.page_size → usable ≡ plain.usable → maps ≡ plain.maps → history ≡ plain.history
    → pages ≡ laid (newest_of plain) (change_in prepared) → wrote ≡ written (change_in prepared)
    → more_maps ≡ maps ++ pages ∷ []
    → more_history ≡ history ++ (record {
      entry = record { session = who.session; ordinal = who.ordinal; snap = prepared.snap; statements = prepared.said };
      wrote = wrote;
      tail = prepared.tail;
    }) ∷ []
    → IsPlain (record { page_size = page_size; usable = usable; maps = more_maps; history = more_history })
plain_pushed plain prepared who may page_size usable maps more_maps history more_history pages wrote
    is_size is_usable is_maps is_history is_pages is_wrote maps_more history_more =
    rw (maps_more, history_more, is_wrote, is_pages, is_maps, is_history, is_size, is_usable) (plain_more plain prepared who may)
