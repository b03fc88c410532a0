-- What each world of page lines keeps, with the past that led to it: whatever page lines are run, the committed transactions were told
-- what they would have been told one after another, and all others what they would have been told alone on their snapshot.
use Rattle.std.proofs.Common.{◌≡◌, ℕ, ◌+◌, ◌-◌, ◌<◌, ◌≤◌, Bool, true, false, cond, eq-eqb, List, [], ◌∷◌, ◌++◌, length, drop, replicate, get_or, Option, Some, None, zero, suc, refl, sym, subst, ap, ◌∙◌, inl, inr, arith, length-append, length-drop, add-zero}
use Rattle.std.specs.Prelude.{Contains, All, slice_get, slice_index}
use Rattle.std.specs.List.{list_any, slice_index_or}
use Rattle.std.proofs.lemmas.Bool.{or_parts, cases_lt, cases_eq, ne_eqb}
use Rattle.std.proofs.lemmas.Option.{slice_get-get_or, get_or_from_slice_get, slice_get_within}
use Rattle.std.proofs.lemmas.List.{get_or_append_left, get_or-drop, length-replicate}
use Rattle.std.proofs.lemmas.List.Elements.{All-append, All-cons, All-nil, All-replicate}
use Rattle.page_spec.specs.PageMap.{PageMap, page_at, page_size_of, page_sizes, Agree}
use Rattle.engine_spec.specs.declared.commits.Commit.{Commit}
use Rattle.engine_spec.specs.declared.commits.Mode.{Mode}
use Rattle.engine_spec.specs.declared.commits.Mode.TheVariants.{Concurrent}
use Rattle.page_lines.specs.declared.lines.Act.{Act}
use Rattle.page_lines.specs.declared.lines.Act.TheVariants as act
use Rattle.page_lines.specs.declared.lines.Told.{Told}
use Rattle.page_lines.specs.declared.lines.Told.TheVariants as told
use Rattle.engine_spec.specs.declared.commits.Receipt.TheVariants.{At, ReadOnly}
use Rattle.page_lines.specs.PageLines.{AreImages, ReadPage, WritePage, read_text, write_text, with_image, page_after}
use Rattle.engine_spec.specs.Change.{laid}
use Rattle.engine_spec.specs.History.{counts, is_written, conflict, NoConflict}
use Rattle.page_lines.specs.World.{World, SessionState, Out, Open, Refused, PageTransaction, changed_at, map_number, newest_map, change_of, handed_in, commit_in, pages_written, shown, reads_with, moved, committed, decided, commit, begin_step, read_step, write_step, commit_step, rollback_step, step, Outcome, world_over, zeros}
use Rattle.page_lines.specs.Range.{IsInRange}
use Rattle.page_lines.specs.Exchanges.{Exchange, AcceptedStatement, is_begin, is_commit, commits_in, snapshot_of, accepted, transaction_of}
use Rattle.page_lines.specs.Serial.{IsToldAlone, statements_in}
use Rattle.page_lines.specs.Legal.{IsLegalCommit, IsLegalFrom}
use Rattle.page_lines.proofs.OneMore.{found_at, front_of, last_of, first_stays}
use Rattle.page_lines.proofs.Ordinals.{ArePast, AreOrdinals, ordinals_moved, ordinals_begun, ordinals_committed, ordinals_none}
use Rattle.engine_spec.proofs.Laying.{laid-page_size, laid-at, agree_refl, agree_trans, agree_laid}
use Rattle.page_lines.proofs.Written.{written_covers}
use Rattle.page_lines.proofs.GoodLines.{lines_whole, laid-store}
use Rattle.engine_spec.proofs.Laying.{legal_size}
use Rattle.page_lines.proofs.Alone.{IsStore, IsTied, page-long, tied_none, tied_read, tied_write}

-- A commit of page lines leads from one map to the next: the two agree on all pages that it doesn't count as having written, and it
-- is legal.
pub record Leads (number : ℕ) (old : PageMap) (commit : Commit) (new : PageMap) : Type 0 where
  pub agrees : (numbers : List ℕ) → ((q : ℕ) → Contains numbers q → counts Concurrent q commit ≡ false) → Agree old new numbers
  pub legal : IsLegalCommit number old commit new

-- A session's transaction began at this snapshot, which is one of these maps, and is tied to what it did.
abbrev pub IsHeld : ℕ → List PageMap → ℕ → List AcceptedStatement → SessionState → Type 0
IsHeld s maps snap done Out = Unit {0}
IsHeld s maps snap done (Open transaction) = (snap ≡ transaction.snap) × (transaction.snap < length maps)
    × IsTied s (slice_index_or maps transaction.snap []) transaction done
IsHeld s maps snap done (Refused transaction) = (snap ≡ transaction.snap) × (transaction.snap < length maps)
    × IsTied s (slice_index_or maps transaction.snap []) transaction done

-- what was done was told what it is told alone on this snapshot, which is one of these maps
abbrev pub IsAloneAt : List PageMap → ℕ → List AcceptedStatement → Type 0
IsAloneAt maps snap done = (snap < length maps) × IsToldAlone (slice_index_or maps snap []) done

-- What each world of page lines over this first map keeps, with the past that led to it, newest first: one map more than commits, and as
-- many as the past has; all maps page stores with pages of s bytes; each commit leading from one map to the next; each transaction tied
-- to what it did, and told that alone; and ordinals that rise.
pub record IsWorld (s : ℕ) (first : PageMap) (world : World) (past : List Exchange) : Type 0 where
  pub begins : slice_get world.maps 0 ≡ Some first
  pub maps_count : length world.maps ≡ length world.history + 1
  pub commits_count : commits_in past ≡ length world.history
  pub stores : All (IsStore s) world.maps
  pub leads : (k : ℕ) (old new : PageMap) (commit : Commit) → slice_get world.maps k ≡ Some old
      → slice_get world.history k ≡ Some commit → slice_get world.maps (k + 1) ≡ Some new → Leads k old commit new
  pub held : (session : ℕ) → IsHeld s world.maps (snapshot_of session past) (transaction_of session past) (world.sessions session)
  pub alone : (session : ℕ) → IsAloneAt world.maps (snapshot_of session past) (transaction_of session past)
  pub ordinals : AreOrdinals world.history world.begun world.sessions

-- what holds of each commit with its maps holds with one commit more, if it holds of that
pushed : (P : ℕ → PageMap → Commit → PageMap → Type 0) (maps : List PageMap) (history : List Commit) (next : PageMap) (commit : Commit)
    → length maps ≡ length history + 1
    → ((k : ℕ) (old new : PageMap) (one : Commit) → slice_get maps k ≡ Some old → slice_get history k ≡ Some one
    → slice_get maps (k + 1) ≡ Some new → P k old one new)
    → P (length history) (get_or maps (length history) []) commit next
    → (k : ℕ) (old new : PageMap) (one : Commit) → slice_get (maps ++ next ∷ []) k ≡ Some old
    → slice_get (history ++ commit ∷ []) k ≡ Some one → slice_get (maps ++ next ∷ []) (k + 1) ≡ Some new → P k old one new
pushed P maps history next commit more all here k old new one is_old is_one is_new =
    elim (cases_lt k (length history)) [
      | inl low ↦
          all k old new one (front_of maps next k old (omega arith) is_old) (front_of history commit k one low is_one)
          (front_of maps next (k + 1) new (omega arith) is_new)
      | inr high ↦
          (let bound : k < length (history ++ commit ∷ []) = slice_get_within (history ++ commit ∷ []) k one is_one in
          let last : k ≡ length history = omega (arith, length-append history (commit ∷ [])) in
          let first : old ≡ get_or maps (length history) [] =
          sym (get_or_from_slice_get maps k old [] (front_of maps next k old (omega arith) is_old))
          ∙ ap (λ (m : ℕ). get_or maps m []) last in
          rw (
            last,
            first,
            last_of history commit k one last is_one,
            last_of maps next (k + 1) new (omega arith) is_new,
          ) here)
    ]

-- where none of some commits wrote a page, each of them didn't
uncounted_at : (mode : Mode) (page : ℕ) (commits : List Commit) → is_written mode page commits ≡ false
    → (k : ℕ) (d : Commit) → k < length commits → counts mode page (get_or commits k d) ≡ false
uncounted_at mode page [] none k d within = absurd (omega arith)
uncounted_at mode page (commit ∷ commits) none zero d within =
    (or_parts (counts mode page commit) (list_any (counts mode page) commits) none).0
uncounted_at mode page (commit ∷ commits) none (suc k) d within =
    uncounted_at mode page commits (or_parts (counts mode page commit) (list_any (counts mode page) commits) none).1 k d (omega arith)

-- a map agrees with one of d commits later on pages that none of these wrote
agree_steps : (s : ℕ) (first : PageMap) (world : World) (past : List Exchange) → IsWorld s first world past → (numbers : List ℕ) (n d : ℕ) → n + d ≤ length world.history
    → ((q k : ℕ) (commit : Commit) → Contains numbers q → n ≤ k → k < n + d → slice_get world.history k ≡ Some commit
    → counts Concurrent q commit ≡ false)
    → Agree (get_or world.maps n []) (get_or world.maps (n + d) []) numbers
agree_steps s first world past whole numbers n zero within left =
    subst (λ (m : ℕ). Agree (get_or world.maps n []) (get_or world.maps m []) numbers) (sym (add-zero n))
    (agree_refl (get_or world.maps n []) numbers)
agree_steps s first world past whole numbers n (suc d) within left =
    let before : Agree (get_or world.maps n []) (get_or world.maps (n + d) []) numbers =
    agree_steps s first world past whole numbers n d (omega arith) (λ q k commit there low high. left q k commit there low (omega arith)) in
    let here = found_at world.history (n + d) (omega arith) in
    let old : slice_get world.maps (n + d) ≡ Some (get_or world.maps (n + d) []) =
    slice_get-get_or world.maps (n + d) [] (omega (arith, whole.maps_count)) in
    let next : slice_get world.maps (n + d + 1) ≡ Some (get_or world.maps (n + d + 1) []) =
    slice_get-get_or world.maps (n + d + 1) [] (omega (arith, whole.maps_count)) in
    let one : Agree (get_or world.maps (n + d) []) (get_or world.maps (n + d + 1) []) numbers =
    (whole.leads (n + d) (get_or world.maps (n + d) []) (get_or world.maps (n + d + 1) []) here.0 old here.1 next).agrees
    numbers (λ q there. left q (n + d) here.0 there (omega arith) (omega arith) here.1) in
    let same : n + d + 1 ≡ n + suc d = omega arith in
    subst (λ (m : ℕ). Agree (get_or world.maps n []) (get_or world.maps m []) numbers) same
    (agree_trans (get_or world.maps n []) (get_or world.maps (n + d) []) (get_or world.maps (n + d + 1) []) numbers before one)

-- a map agrees with the newest one on pages that no later commit wrote
pub agree_since : (s : ℕ) (first : PageMap) (world : World) (past : List Exchange) → IsWorld s first world past → (n : ℕ) → n ≤ length world.history → (numbers : List ℕ)
    → NoConflict Concurrent numbers n world.history → Agree (map_number world n) (newest_map world) numbers
agree_since s first world past whole n within numbers none =
    let rest : n + (length world.history - n) ≡ length world.history = omega arith in
    subst (λ (m : ℕ). Agree (get_or world.maps n []) (get_or world.maps m []) numbers) rest
    (agree_steps s first world past whole numbers n (length world.history - n) (omega arith)
    (λ q k commit there low high found.
    let apart : k ≡ n + (k - n) = omega arith in
    let left : counts Concurrent q (get_or (drop n world.history) (k - n) commit) ≡ false =
    uncounted_at Concurrent q (drop n world.history) (none q there) (k - n) commit (omega (arith, length-drop n world.history)) in
    let is : get_or (drop n world.history) (k - n) commit ≡ commit =
    get_or-drop n world.history (k - n) commit ∙ (ap (λ (m : ℕ). get_or world.history m commit) (sym apart)
    ∙ get_or_from_slice_get world.history k commit commit found) in
    subst (λ (one : Commit). counts Concurrent q one ≡ false) is left))

-- the change of a transaction of page lines leads from a page store to a page store
pub laid_is_store : (s : ℕ) (world : World) (transaction : PageTransaction) (pages : PageMap) → AreImages s transaction.changed
    → IsStore s pages → IsStore s (laid pages (change_of world transaction))
laid_is_store s world transaction pages images sound =
    let change = change_of world transaction in
    let there : AreImages (page_size_of pages) transaction.changed =
    subst (λ (n : ℕ). AreImages n transaction.changed) (sym sound.size) images in
    record {
      store = laid-store pages change refl refl there sound.store;
      size = laid-page_size pages change 16 (page_size_of pages) (omega (arith, legal_size (page_size_of pages) sound.store.size))
          (lines_whole change (page_size_of pages) there refl) (omega (arith, sound.store.count)) (omega (arith, sound.store.count))
          sound.store.each
          ∙ sound.size;
    }

-- what the statements of a transaction leave of a map that agrees with its snapshot is what laying its change leaves
pub leaves_laid : (s : ℕ) (world : World) (transaction : PageTransaction) (done : List AcceptedStatement) (snapshot pages : PageMap) → IsStore s pages
    → IsTied s snapshot transaction done
    → (page : ℕ) → 2 ≤ page → page ≤ 16 → page_at (laid pages (change_of world transaction)) page
    ≡ page_after page (statements_in done) (page_at pages page)
leaves_laid s world transaction done snapshot pages sound tied page low high =
    laid-at pages (change_of world transaction) 16 page refl tied.images.different tied.images.in_range (omega (arith, sound.store.count)) low
    ∙ sym (tied.fills page (page_at pages page) (page-long s pages page sound low high))

-- the commit of a transaction leads from the newest map to the next
leads_newest : (s : ℕ) (world : World) (session : ℕ) (transaction : PageTransaction) (done : List AcceptedStatement) (snapshot pages : PageMap)
    → IsStore s pages → transaction.snap ≤ length world.history → IsTied s snapshot transaction done
    → Leads (length world.history) pages (commit_in world session transaction) (laid pages (change_of world transaction))
leads_newest s world session transaction done snapshot pages sound within tied =
    let change = change_of world transaction in
    let size : 100 ≤ s = omega (arith, legal_size (page_size_of pages) sound.store.size, sound.size) in
    let count : 16 ≤ length pages = omega (arith, sound.store.count) in
    let each : All (λ (page : List ℕ). length page ≡ s) pages =
    subst (λ (n : ℕ). All (λ (page : List ℕ). length page ≡ n) pages) sound.size sound.store.each in
    let whole = lines_whole change s tied.images refl in
    record {
      agrees = λ numbers left.
          agree_laid pages (handed_in world session transaction) (pages_written transaction.changed) Concurrent 16 s numbers size whole count
          (omega arith) each (written_covers transaction.changed) left;
      legal = record {
        leads = record {
          statements = statements_in done;
          texts = tied.texts;
          pages = leaves_laid s world transaction done snapshot pages sound tied;
        };
        snap = within;
      };
    }

-- a transaction stays tied to its snapshot with one map more
held_more : (s : ℕ) (maps : List PageMap) (next : PageMap) (snap : ℕ) (done : List AcceptedStatement) (state : SessionState)
    → IsHeld s maps snap done state → IsHeld s (maps ++ next ∷ []) snap done state
held_more s maps next snap done Out held = tt
held_more s maps next snap done (Open transaction) held = (
  held.0,
  omega (arith, length-append maps (next ∷ []), held.1),
  subst (λ (pages : PageMap). IsTied s pages transaction done)
      (sym (get_or_append_left maps (next ∷ []) [] transaction.snap held.1)) held.2,
)
held_more s maps next snap done (Refused transaction) held = (
  held.0,
  omega (arith, length-append maps (next ∷ []), held.1),
  subst (λ (pages : PageMap). IsTied s pages transaction done)
      (sym (get_or_append_left maps (next ∷ []) [] transaction.snap held.1)) held.2,
)

-- and what was told alone stays so
alone_more : (maps more : List PageMap) (snap : ℕ) (done : List AcceptedStatement) → IsAloneAt maps snap done → IsAloneAt (maps ++ more) snap done
alone_more maps more snap done alone = (
  omega (arith, length-append maps more, alone.0),
  subst (λ (pages : PageMap). IsToldAlone pages done) (sym (get_or_append_left maps more [] snap alone.0)) alone.1,
)

-- a transaction that is tied to its snapshot was told alone there
alone_tied : (s : ℕ) (maps : List PageMap) (snap : ℕ) (transaction : PageTransaction) (done : List AcceptedStatement) → All (IsStore s) maps
    → snap ≡ transaction.snap → transaction.snap < length maps → IsTied s (slice_index_or maps transaction.snap []) transaction done
    → IsAloneAt maps snap done
alone_tied s maps snap transaction done stores is within tied =
    subst (λ (n : ℕ). IsAloneAt maps n done) (sym is) (
      within,
      tied.alone (slice_index_or maps transaction.snap []) (stores transaction.snap [] within)
          (agree_refl (slice_index_or maps transaction.snap []) transaction.reads),
    )

-- An exchange bears on one session alone: of all others the snapshot and what they did stay.
abbrev IsOf : ℕ → Exchange → List Exchange → Type 0
IsOf session one past = (other : ℕ) → (other ≡ session → ⊥)
    → (snapshot_of other (one ∷ past) ≡ snapshot_of other past) × (transaction_of other (one ∷ past) ≡ transaction_of other past)

-- what holds of all sessions, where it holds of this one and the others stay
changed_all : (P : ℕ → ℕ → List AcceptedStatement → SessionState → Type 0) (sessions : ℕ → SessionState) (session : ℕ) (state : SessionState)
    (one : Exchange) (past : List Exchange) → IsOf session one past
    → P session (snapshot_of session (one ∷ past)) (transaction_of session (one ∷ past)) state
    → ((other : ℕ) → P other (snapshot_of other past) (transaction_of other past) (sessions other))
    → (other : ℕ) → P other (snapshot_of other (one ∷ past)) (transaction_of other (one ∷ past)) (changed_at sessions session state other)
changed_all P sessions session state one past is_of here all other = elim (cases_eq other session) [
  | inl same ↦ rw (eq-eqb other session same)
      (subst (λ (n : ℕ). P n (snapshot_of n (one ∷ past)) (transaction_of n (one ∷ past)) state) (sym same) here)
  | inr apart ↦ rw (ne_eqb other session apart)
      (subst (λ (snap : ℕ). P other snap (transaction_of other (one ∷ past)) (sessions other)) (sym (is_of other apart).0)
      (subst (λ (done : List AcceptedStatement). P other (snapshot_of other past) done (sessions other)) (sym (is_of other apart).1) (all other)))
]

-- a session's state changed, by an exchange that is no commit
moved_keeps : (s : ℕ) (first : PageMap) (world : World) (past : List Exchange) (session : ℕ) (state : SessionState) (asked : Act)
    (answer : Told) → is_commit answer ≡ false → IsOf session (record { act = asked; told = answer }) past
    → IsHeld s world.maps (snapshot_of session (record { act = asked; told = answer } ∷ past))
    (transaction_of session (record { act = asked; told = answer } ∷ past)) state
    → IsAloneAt world.maps (snapshot_of session (record { act = asked; told = answer } ∷ past))
    (transaction_of session (record { act = asked; told = answer } ∷ past))
    → ArePast world.history session (world.begun session) state → IsWorld s first world past
    → IsWorld s first (moved world session state answer).world (record { act = asked; told = answer } ∷ past)
moved_keeps s first world past session state asked answer none is_of here alone before whole =
    let one : Exchange = record { act = asked; told = answer } in
    record {
      begins = whole.begins;
      maps_count = whole.maps_count;
      commits_count = ap (λ (test : Bool). cond test (commits_in past + 1) (commits_in past)) none ∙ whole.commits_count;
      stores = whole.stores;
      leads = whole.leads;
      held = changed_all (λ k snap done at. IsHeld s world.maps snap done at) world.sessions session state one past is_of here whole.held;
      alone = changed_all (λ k snap done at. IsAloneAt world.maps snap done) world.sessions session state one past is_of alone whole.alone;
      ordinals = ordinals_moved world.history world.begun world.sessions session state before whole.ordinals;
    }

-- an exchange that bears on nothing
pub stays : (s : ℕ) (first : PageMap) (world : World) (past : List Exchange) (one : Exchange) → is_commit one.told ≡ false
    → ((k : ℕ) → is_begin k one.act one.told ≡ false) → ((k : ℕ) → accepted k one.act one.told ≡ None)
    → IsWorld s first world past → IsWorld s first world (one ∷ past)
stays s first world past one none no_begin no_statement whole = record {
  begins = whole.begins;
  maps_count = whole.maps_count;
  commits_count = ap (λ (test : Bool). cond test (commits_in past + 1) (commits_in past)) none ∙ whole.commits_count;
  stores = whole.stores;
  leads = whole.leads;
  held = λ k. rw (no_begin k, no_statement k) (whole.held k);
  alone = λ k. rw (no_begin k, no_statement k) (whole.alone k);
  ordinals = whole.ordinals;
}

-- what follows of a world from an act, by its outcome
abbrev Keeps : ℕ → PageMap → List Exchange → Act → Outcome → Type 0
Keeps s first past asked outcome = IsWorld s first outcome.world (record { act = asked; told = outcome.told } ∷ past)

-- BEGIN
begin_keeps : (s : ℕ) (first : PageMap) (world : World) (past : List Exchange) (session : ℕ) (state : SessionState)
    → IsWorld s first world past → Keeps s first past (act.Begin session) (begin_step world session state)
begin_keeps s first world past session Out whole =
    let one : Exchange = record { act = act.Begin session; told = told.Ok } in
    let new : PageTransaction = record { snap = length world.history; reads = []; changed = []; said = []; wrote = false } in
    let is_of : IsOf session one past = λ other apart. rw (ne_eqb session other (λ e. apart (sym e))) (refl, refl) in
    let within : length world.history < length world.maps = omega (arith, whole.maps_count) in
    let tied = tied_none s (length world.history) (newest_map world) in
    let snap : snapshot_of session (one ∷ past) ≡ length world.history = rw (eq-eqb session session refl) whole.commits_count in
    let done : transaction_of session (one ∷ past) ≡ [] = rw (eq-eqb session session refl) refl in
    let held : IsHeld s world.maps (snapshot_of session (one ∷ past)) (transaction_of session (one ∷ past)) (Open new) = (
      snap,
      within,
      subst (λ (all : List AcceptedStatement). IsTied s (newest_map world) new all) (sym done) tied,
    ) in
    record {
      begins = whole.begins;
      maps_count = whole.maps_count;
      commits_count = whole.commits_count;
      stores = whole.stores;
      leads = whole.leads;
      held = changed_all (λ k snap done at. IsHeld s world.maps snap done at) world.sessions session (Open new) one past is_of held
          whole.held;
      alone = changed_all (λ k snap done at. IsAloneAt world.maps snap done) world.sessions session (Open new) one past is_of
          (alone_tied s world.maps (snapshot_of session (one ∷ past)) new (transaction_of session (one ∷ past)) whole.stores held.0 held.1
          held.2)
          whole.alone;
      ordinals = ordinals_begun world.history world.begun world.sessions session new whole.ordinals;
    }
begin_keeps s first world past session (Open transaction) whole =
    stays s first world past (record { act = act.Begin session; told = told.InTransaction }) refl (λ k. refl) (λ k. refl) whole
begin_keeps s first world past session (Refused transaction) whole =
    stays s first world past (record { act = act.Begin session; told = told.MustRollBack }) refl (λ k. refl) (λ k. refl) whole

-- READ
read_keeps : (s : ℕ) (first : PageMap) (world : World) (past : List Exchange) (session page : ℕ) (state : SessionState) → 2 ≤ page
    → page ≤ 16 → IsHeld s world.maps (snapshot_of session past) (transaction_of session past) state
    → ArePast world.history session (world.begun session) state → IsWorld s first world past
    → Keeps s first past (act.Read session page) (read_step world session page state)
read_keeps s first world past session page Out low high held before whole =
    stays s first world past (record { act = act.Read session page; told = told.NoTransaction }) refl (λ k. refl) (λ k. refl) whole
read_keeps s first world past session page (Open transaction) low high held before whole =
    let answer : Told = told.Byte (slice_index (shown world transaction page) 0) in
    let one : Exchange = record { act = act.Read session page; told = answer } in
    let is_of : IsOf session one past = λ other apart. rw (ne_eqb session other (λ e. apart (sym e))) (refl, refl) in
    let new : PageTransaction = record transaction { reads = reads_with transaction page; said = transaction.said ++ read_text page ∷ [] } in
    let done : transaction_of session (one ∷ past) ≡ transaction_of session past ++ record { statement = ReadPage page; told = answer } ∷ [] =
    rw (eq-eqb session session refl) refl in
    let tied : IsTied s (map_number world transaction.snap) new (transaction_of session (one ∷ past)) =
    subst (λ (all : List AcceptedStatement). IsTied s (map_number world transaction.snap) new all) (sym done)
    (tied_read s world transaction page (transaction_of session past) low high held.2) in
    moved_keeps s first world past session (Open new) (act.Read session page) answer refl is_of (held.0, held.1, tied)
    (alone_tied s world.maps (snapshot_of session past) new (transaction_of session (one ∷ past)) whole.stores held.0 held.1 tied) before whole
read_keeps s first world past session page (Refused transaction) low high held before whole =
    stays s first world past (record { act = act.Read session page; told = told.MustRollBack }) refl (λ k. refl) (λ k. refl) whole

-- the newest map is a page store
pub newest_store : (s : ℕ) (first : PageMap) (world : World) (past : List Exchange) → IsWorld s first world past → IsStore s (newest_map world)
newest_store s first world past whole = whole.stores (length world.history) [] (omega (arith, whole.maps_count))

-- WRITE
write_keeps : (s : ℕ) (first : PageMap) (world : World) (past : List Exchange) (session page byte : ℕ) (state : SessionState) → 2 ≤ page
    → page ≤ 16 → IsHeld s world.maps (snapshot_of session past) (transaction_of session past) state
    → ArePast world.history session (world.begun session) state → IsWorld s first world past
    → Keeps s first past (act.Write session page byte) (write_step world session page byte state)
write_keeps s first world past session page byte Out low high held before whole =
    stays s first world past (record { act = act.Write session page byte; told = told.NoTransaction }) refl (λ k. refl) (λ k. refl) whole
write_keeps s first world past session page byte (Open transaction) low high held before whole =
    let one : Exchange = record { act = act.Write session page byte; told = told.Ok } in
    let is_of : IsOf session one past = λ other apart. rw (ne_eqb session other (λ e. apart (sym e))) (refl, refl) in
    let size = page_size_of (newest_map world) in
    let new : PageTransaction = record transaction {
      changed = with_image transaction.changed page (replicate size byte);
      said = transaction.said ++ write_text page byte ∷ [];
      wrote = true;
    } in
    let done : transaction_of session (one ∷ past)
    ≡ transaction_of session past ++ record { statement = WritePage page byte; told = told.Ok } ∷ [] =
    rw (eq-eqb session session refl) refl in
    let tied : IsTied s (map_number world transaction.snap) new (transaction_of session (one ∷ past)) =
    subst (λ (all : List AcceptedStatement). IsTied s (map_number world transaction.snap) new all) (sym done)
    (tied_write s size (map_number world transaction.snap) transaction page byte (transaction_of session past) low high
    (newest_store s first world past whole).size held.2) in
    moved_keeps s first world past session (Open new) (act.Write session page byte) told.Ok refl is_of (held.0, held.1, tied)
    (alone_tied s world.maps (snapshot_of session past) new (transaction_of session (one ∷ past)) whole.stores held.0 held.1 tied) before whole
write_keeps s first world past session page byte (Refused transaction) low high held before whole =
    stays s first world past (record { act = act.Write session page byte; told = told.MustRollBack }) refl (λ k. refl) (λ k. refl) whole

-- COMMIT that nothing bars
committed_keeps : (s : ℕ) (first : PageMap) (world : World) (past : List Exchange) (session : ℕ) (transaction : PageTransaction)
    → IsHeld s world.maps (snapshot_of session past) (transaction_of session past) (Open transaction)
    → ArePast world.history session (world.begun session) (Open transaction) → IsWorld s first world past
    → Keeps s first past (act.Commit session) (committed world session transaction)
committed_keeps s first world past session transaction held before whole =
    let within : transaction.snap ≤ length world.history = omega (arith, held.1, whole.maps_count) in
    let newest = newest_map world in
    let next = laid newest (change_of world transaction) in
    let one = commit_in world session transaction in
    let exchange : Exchange = record { act = act.Commit session; told = told.Done (At (length world.history + 1)) } in
    let sound = newest_store s first world past whole in
    record {
      begins = first_stays world.maps next first whole.begins;
      maps_count = omega (arith, length-append world.maps (next ∷ []), length-append world.history (one ∷ []), whole.maps_count);
      commits_count = omega (arith, length-append world.history (one ∷ []), whole.commits_count);
      stores = All-append (IsStore s) world.maps (next ∷ []) whole.stores
          (All-cons (IsStore s) next [] (laid_is_store s world transaction newest held.2.images sound) (All-nil (IsStore s)));
      leads = pushed Leads world.maps world.history next one whole.maps_count whole.leads
          (leads_newest s world session transaction (transaction_of session past) (map_number world transaction.snap) newest sound within held.2);
      held = changed_all (λ k snap done at. IsHeld s (world.maps ++ next ∷ []) snap done at) world.sessions session Out exchange past
          (λ other apart. (refl, refl)) tt
          (λ other. held_more s world.maps next (snapshot_of other past) (transaction_of other past) (world.sessions other) (whole.held other));
      alone = λ other. alone_more world.maps (next ∷ []) (snapshot_of other past) (transaction_of other past) (whole.alone other);
      ordinals = ordinals_committed world.history world.begun world.sessions one transaction refl before whole.ordinals;
    }

-- COMMIT of a transaction that wrote
decided_keeps : (s : ℕ) (first : PageMap) (world : World) (past : List Exchange) (session : ℕ) (transaction : PageTransaction)
    (found : Option (ℕ × ℕ)) → IsHeld s world.maps (snapshot_of session past) (transaction_of session past) (Open transaction)
    → ArePast world.history session (world.begun session) (Open transaction) → IsWorld s first world past
    → Keeps s first past (act.Commit session) (decided world session transaction found)
decided_keeps s first world past session transaction None held before whole =
    committed_keeps s first world past session transaction held before whole
decided_keeps s first world past session transaction (Some found) held before whole =
    moved_keeps s first world past session (Refused transaction) (act.Commit session) (told.Busy found.0 found.1) refl
    (λ other apart. (refl, refl)) held (whole.alone session) before whole

-- COMMIT
commit_keeps : (s : ℕ) (first : PageMap) (world : World) (past : List Exchange) (session : ℕ) (state : SessionState)
    → IsHeld s world.maps (snapshot_of session past) (transaction_of session past) state
    → ArePast world.history session (world.begun session) state → IsWorld s first world past
    → Keeps s first past (act.Commit session) (commit_step world session state)
commit_keeps s first world past session Out held before whole =
    stays s first world past (record { act = act.Commit session; told = told.NoTransaction }) refl (λ k. refl) (λ k. refl) whole
commit_keeps s first world past session (Open transaction) held before whole = by_wrote transaction.wrote
  where
    by_wrote : (wrote : Bool) → Keeps s first past (act.Commit session) (cond wrote
        (decided world session transaction (conflict Concurrent transaction.reads transaction.snap world.history))
        (moved world session Out (told.Done (ReadOnly transaction.snap))))
    by_wrote true =
        decided_keeps s first world past session transaction (conflict Concurrent transaction.reads transaction.snap world.history) held
        before whole
    by_wrote false = moved_keeps s first world past session Out (act.Commit session) (told.Done (ReadOnly transaction.snap)) refl
        (λ other apart. (refl, refl)) tt (whole.alone session) tt whole
commit_keeps s first world past session (Refused transaction) held before whole =
    stays s first world past (record { act = act.Commit session; told = told.MustRollBack }) refl (λ k. refl) (λ k. refl) whole

-- ROLLBACK
rollback_keeps : (s : ℕ) (first : PageMap) (world : World) (past : List Exchange) (session : ℕ) (state : SessionState)
    → IsWorld s first world past → Keeps s first past (act.Rollback session) (rollback_step world session state)
rollback_keeps s first world past session Out whole =
    stays s first world past (record { act = act.Rollback session; told = told.NoTransaction }) refl (λ k. refl) (λ k. refl) whole
rollback_keeps s first world past session (Open transaction) whole =
    moved_keeps s first world past session Out (act.Rollback session) told.Ok refl (λ other apart. (refl, refl)) tt (whole.alone session) tt whole
rollback_keeps s first world past session (Refused transaction) whole =
    moved_keeps s first world past session Out (act.Rollback session) told.Ok refl (λ other apart. (refl, refl)) tt (whole.alone session) tt whole

-- each act
pub step_keeps : (s : ℕ) (first : PageMap) (world : World) (past : List Exchange) (asked : Act) → IsInRange asked
    → IsWorld s first world past → Keeps s first past asked (step world asked)
step_keeps s first world past (act.Begin session) range whole = begin_keeps s first world past session (world.sessions session) whole
step_keeps s first world past (act.Read session page) range whole =
    read_keeps s first world past session page (world.sessions session) range.0 range.1 (whole.held session) (whole.ordinals.past session) whole
step_keeps s first world past (act.Write session page byte) range whole =
    write_keeps s first world past session page byte (world.sessions session) range.0 range.1 (whole.held session)
    (whole.ordinals.past session) whole
step_keeps s first world past (act.Commit session) range whole =
    commit_keeps s first world past session (world.sessions session) (whole.held session) (whole.ordinals.past session) whole
step_keeps s first world past (act.Rollback session) range whole = rollback_keeps s first world past session (world.sessions session) whole
step_keeps s first world past act.Copy range whole = stays s first world past _ refl (λ k. refl) (λ k. refl) whole
step_keeps s first world past act.Step range whole = stays s first world past _ refl (λ k. refl) (λ k. refl) whole
step_keeps s first world past act.Logs range whole = stays s first world past _ refl (λ k. refl) (λ k. refl) whole

-- 16 pages of one legal size, with a zero at byte 100, are a page store
alike_are_store : (bytes : List ℕ) (s : ℕ) → length bytes ≡ s → Contains page_sizes s → slice_index bytes 100 ≡ 0
    → IsStore s (replicate 16 bytes)
alike_are_store bytes s is legal none = record {
  store = record {
    count = length-replicate 16 bytes;
    size = subst (Contains page_sizes) (sym is) legal;
    each = All-replicate (λ (page : List ℕ). length page ≡ length bytes) 16 bytes refl;
    no_tree = none;
  };
  size = is;
}

-- the map of a page store in memory is a page store
pub zeros_are_store : IsStore 4096 zeros
unfolding zeros
zeros_are_store =
    let bytes : List ℕ = replicate 4096 0 in
    let none : ℕ = 0 in
    alike_are_store bytes 4096 (length-replicate 4096 none) (3, omega arith, refl) refl

-- a world in which nothing has happened yet
pub world_over-is : (s : ℕ) (first : PageMap) → IsStore s first → IsWorld s first (world_over first) []
world_over-is s first sound = record {
  begins = refl;
  maps_count = refl;
  commits_count = refl;
  stores = All-cons (IsStore s) first [] sound (All-nil (IsStore s));
  leads = λ k old new commit is_old is_commit is_new.
      absurd (let bound = slice_get_within [] k commit is_commit in omega arith);
  held = λ session. tt;
  alone = λ session. (omega arith, refl);
  ordinals = ordinals_none (λ session. Out);
}

-- such a world's history is legal
pub world_is_legal : (s : ℕ) (first : PageMap) (world : World) (past : List Exchange) → IsWorld s first world past → IsLegalFrom first world
world_is_legal s first world past whole = record {
  begins = whole.begins;
  count = whole.maps_count;
  commits = λ number before after commit old one new. (whole.leads number before after commit old one new).legal;
  ordinals = whole.ordinals.rise;
}
