-- Page lines can't tell alike worlds apart: whatever page lines are run, two worlds whose maps have the same pages 2 to 16 answer the
-- same, and stay alike.
use Rattle.std.proofs.Common.{◌≡◌, ℕ, ◌+◌, ◌-◌, ◌≤◌, Bool, true, false, cond, eqb, List, [], ◌∷◌, ◌++◌, length, replicate, drop, get_or, Option, Some, None, zero, suc, refl, sym, subst, ap, ◌∙◌, inl, inr, arith, length-append}
use Rattle.std.specs.Prelude.{slice_index, unwrap_or}
use Rattle.std.proofs.lemmas.Bool.{cases_eq, cases_lt}
use Rattle.std.proofs.lemmas.List.{get_or_past, drop-drop, drop-append-le, drop_all}
use Rattle.std.proofs.lemmas.List.Elements.{All-head, All-tail}
use Rattle.page_spec.specs.PageMap.{PageMap, page_at, page_size_of}
use Rattle.engine_spec.specs.declared.commits.Commit.{Commit}
use Rattle.engine_spec.specs.declared.commits.Mode.{Mode}
use Rattle.engine_spec.specs.declared.commits.Mode.TheVariants.{Concurrent}
use Rattle.engine_spec.specs.declared.commits.Receipt.TheVariants.{At, ReadOnly}
use Rattle.page_lines.specs.declared.lines.Act.{Act}
use Rattle.page_lines.specs.declared.lines.Act.TheVariants as act
use Rattle.page_lines.specs.declared.lines.Told.{Told}
use Rattle.page_lines.specs.declared.lines.Told.TheVariants as told
use Rattle.page_lines.specs.PageLines.{with_image, read_text, write_text, AreImages}
use Rattle.engine_spec.specs.Change.{put_pages, with_header, image_of}
use Rattle.engine_spec.specs.Change.{laid}
use Rattle.engine_spec.specs.History.{conflict, first_writer, or_others}
use Rattle.disk_face.specs.Faults.{one_more}
use Rattle.page_lines.specs.Range.{IsInRange, AreInRange}
use Rattle.engine_spec.specs.Written.{commit_of}
use Rattle.page_lines.specs.World.{World, Outcome, SessionState, Out, Open, Refused, PageTransaction, changed_at, map_number, newest_map, shown, reads_with, read, write, change_of, commit_in, pages_written, moved, committed, decided, begin_step, read_step, write_step, commit_step, rollback_step, step, answers_to, world_after, world_over}
use Rattle.page_lines.specs.Alike.{AreAlike, AreAlikeWorlds, BeganSince, AreAlikeSince}
use Rattle.engine_spec.proofs.Laying.{laid-put, laid-at, put_pages-other, stamped-length}
use Rattle.page_lines.proofs.GoodLines.{lines_whole, first_absent}
use Rattle.engine_spec.proofs.Laying.{legal_size}
use Rattle.page_lines.proofs.Alone.{IsStore, page-long}
pub use Rattle.page_lines.proofs.GoingOn.{HasImages, MayGoOn, step_may, out_may, world_may}
use Rattle.page_lines.proofs.GoingOn.{newest_is}

-- two outcomes are the same answer, in worlds that are alike from the map with this number on
pub record AreSameAnswers (number : ℕ) (one other : Outcome) : Type 0 where
  pub told : one.told ≡ other.told
  pub alike : AreAlikeSince number one.world other.world

-- a map whose page 16 has bytes has 16 pages
has_pages : (pages : PageMap) → 1 ≤ length (page_at pages 16) → 16 ≤ length pages
has_pages pages some = elim (cases_lt (length pages) 16) [
  | inl few ↦
      (let none : page_at pages 16 ≡ [] = get_or_past ([] ∷ pages) 16 [] (omega arith) in
      absurd (omega (arith, ap length none)))
  | inr enough ↦ enough
]

-- a map that is alike to a page store has 16 pages as well
alike_has_pages : (s : ℕ) (one other : PageMap) → IsStore s one → AreAlike one other → 16 ≤ length other
alike_has_pages s one other sound alike =
    let size : 512 ≤ s = omega (arith, legal_size (page_size_of one) sound.store.size, sound.size) in
    let long : length (page_at one 16) ≡ s = page-long s one 16 sound (omega arith) (omega arith) in
    let same : length (page_at one 16) ≡ length (page_at other 16) = ap length (alike 16 (omega arith) (omega arith)) in
    has_pages other (omega arith)

-- with one more map in each of two lists, the maps of certain numbers are alike
pushed_alike : (P : ℕ → Type 0) (ones others : List PageMap) (one other : PageMap) → length ones ≡ length others
    → ((k : ℕ) → P k → AreAlike (get_or ones k []) (get_or others k [])) → AreAlike one other
    → (k : ℕ) → P k → AreAlike (get_or (ones ++ one ∷ []) k []) (get_or (others ++ other ∷ []) k [])
pushed_alike P [] [] one other same all here zero there = here
pushed_alike P [] [] one other same all here (suc k) there = λ page low high. refl
pushed_alike P [] (second ∷ others) one other same all here k there = absurd (omega arith)
pushed_alike P (first ∷ ones) [] one other same all here k there = absurd (omega arith)
pushed_alike P (first ∷ ones) (second ∷ others) one other same all here zero there = all zero there
pushed_alike P (first ∷ ones) (second ∷ others) one other same all here (suc k) there =
    pushed_alike (λ i. P (suc i)) ones others one other (omega arith) (λ i. all (suc i)) here k there

-- lists that are the same from one place on are so from a later one on
same_later : {X : Type 0} (xs ys : List X) (n m : ℕ) → n ≤ m → drop n xs ≡ drop n ys → drop m xs ≡ drop m ys
same_later xs ys n m below same =
    let apart : n + (m - n) ≡ m = omega arith in
    ap (λ (k : ℕ). drop k xs) (sym apart) ∙ (sym (drop-drop (m - n) n xs) ∙ (ap (drop (m - n)) same
    ∙ (drop-drop (m - n) n ys ∙ ap (λ (k : ℕ). drop k ys) apart)))

-- a conflict is a matter of the commits since the snapshot
same_conflict : (mode : Mode) (reads : List ℕ) (n : ℕ) (some others : List Commit) → drop n some ≡ drop n others
    → conflict mode reads n some ≡ conflict mode reads n others
same_conflict mode [] n some others same = refl
same_conflict mode (page ∷ pages) n some others same =
    ap (λ (commits : List Commit). or_others page (first_writer mode page n commits) (conflict mode pages n some)) same
    ∙ ap (or_others page (first_writer mode page n (drop n others))) (same_conflict mode pages n some others same)

-- a page of the map that a transaction of page lines makes
laid_at : (s : ℕ) (world : World) (transaction : PageTransaction) (pages : PageMap) (page : ℕ) → AreImages s transaction.changed
    → 16 ≤ length pages → 2 ≤ page
    → page_at (laid pages (change_of world transaction)) page ≡ unwrap_or (image_of transaction.changed page) (page_at pages page)
laid_at s world transaction pages page images count low =
    laid-at pages (change_of world transaction) 16 page refl images.different images.in_range count low

-- laid on alike maps a transaction makes alike maps
laid_alike : (s : ℕ) (one other : World) (transaction : PageTransaction) (ones others : PageMap) → AreImages s transaction.changed
    → IsStore s ones → AreAlike ones others
    → AreAlike (laid ones (change_of one transaction)) (laid others (change_of other transaction))
laid_alike s one other transaction ones others images sound alike page low high =
    laid_at s one transaction ones page images (omega (arith, sound.store.count)) low
    ∙ (ap (unwrap_or (image_of transaction.changed page)) (alike page low high)
    ∙ sym (laid_at s other transaction others page images (alike_has_pages s ones others sound alike) low))

-- setting page 1's header fields leaves its length
first_size : (pages : PageMap) → 100 ≤ page_size_of pages → page_size_of (with_header pages) ≡ page_size_of pages
first_size [] long = refl
first_size (first ∷ pages) long = stamped-length (length (first ∷ pages)) first long

-- the page size stays, whatever the other pages
laid_size : (s : ℕ) (world : World) (transaction : PageTransaction) (pages : PageMap) → AreImages s transaction.changed
    → 100 ≤ page_size_of pages → page_size_of (laid pages (change_of world transaction)) ≡ page_size_of pages
laid_size s world transaction pages images long =
    let change = change_of world transaction in
    let put = put_pages change.mode change.tail pages change.changed in
    let whole = lines_whole change s images refl in
    let same : page_at put 1 ≡ page_at pages 1 =
    put_pages-other change.mode change.tail pages change.changed 1 (λ k d within. (whole.in_range k d within).0)
    (first_absent transaction.changed s images) in
    ap page_size_of (laid-put pages change refl)
    ∙ (first_size put (subst (λ (n : ℕ). 100 ≤ n) (sym (ap length same)) long) ∙ ap length same)

-- with one session's state changed, each transaction began there or later
since_changed : (number : ℕ) (sessions : ℕ → SessionState) (session : ℕ) (state : SessionState) → BeganSince number state
    → ((k : ℕ) → BeganSince number (sessions k)) → (k : ℕ) → BeganSince number (changed_at sessions session state k)
since_changed number sessions session state here others k = by_test (eqb k session)
  where
    by_test : (test : Bool) → BeganSince number (cond test state (sessions k))
    by_test true = here
    by_test false = others k

-- worlds stay alike where a session's state becomes the same in both
moved_alike : (number : ℕ) (one other : World) (session : ℕ) (state : SessionState) (answer : Told) → BeganSince number state
    → AreAlikeSince number one other → AreSameAnswers number (moved one session state answer) (moved other session state answer)
moved_alike number one other session state answer here alike = record {
  told = refl;
  alike = record {
    within = alike.within;
    commits = alike.commits;
    history = alike.history;
    sessions = λ k. ap (λ (old : SessionState). cond (eqb k session) state old) (alike.sessions k);
    since = since_changed number one.sessions session state here alike.since;
    begun = alike.begun;
    count = alike.count;
    maps = alike.maps;
    page_size = alike.page_size;
  };
}

-- an answer that changes nothing
same_alike : (number : ℕ) (one other : World) (answer : Told) → AreAlikeSince number one other
    → AreSameAnswers number (record { told = answer; world = one }) (record { told = answer; world = other })
same_alike number one other answer alike = record { told = refl; alike = alike }

-- BEGIN
begin_alike : (number : ℕ) (one other : World) (session : ℕ) (state : SessionState) → AreAlikeSince number one other
    → AreSameAnswers number (begin_step one session state) (begin_step other session state)
begin_alike number one other session Out alike = record {
  told = refl;
  alike = record {
    within = alike.within;
    commits = alike.commits;
    history = alike.history;
    sessions = λ k.
        ap (λ (snap : ℕ). cond (eqb k session)
        (Open (record { snap = snap; reads = []; changed = []; said = []; wrote = false })) (one.sessions k))
        alike.commits
        ∙ ap (λ (old : SessionState). cond (eqb k session)
        (Open (record { snap = length other.history; reads = []; changed = []; said = []; wrote = false })) old)
        (alike.sessions k);
    since = since_changed number one.sessions session
        (Open (record { snap = length one.history; reads = []; changed = []; said = []; wrote = false }))
        alike.within alike.since;
    begun = λ k.
        ap (λ (count : ℕ). cond (eqb k session) (one_more count) (one.begun k)) (alike.begun session)
        ∙ ap (λ (old : ℕ). cond (eqb k session) (one_more (other.begun session)) old) (alike.begun k);
    count = alike.count;
    maps = alike.maps;
    page_size = alike.page_size;
  };
}
begin_alike number one other session (Open transaction) alike = same_alike number one other told.InTransaction alike
begin_alike number one other session (Refused transaction) alike = same_alike number one other told.MustRollBack alike

-- READ
read_alike : (number : ℕ) (one other : World) (session page : ℕ) (state : SessionState) → 2 ≤ page → page ≤ 16
    → BeganSince number state → AreAlikeSince number one other
    → AreSameAnswers number (read_step one session page state) (read_step other session page state)
read_alike number one other session page Out low high here alike = same_alike number one other told.NoTransaction alike
read_alike number one other session page (Open transaction) low high here alike =
    let seen : shown one transaction page ≡ shown other transaction page =
    ap (unwrap_or (image_of transaction.changed page)) (alike.maps transaction.snap here page low high) in
    subst (λ (bytes : List ℕ). AreSameAnswers number (read one session transaction page)
    (moved other session (Open (record transaction {
      reads = reads_with transaction page;
      said = transaction.said ++ read_text page ∷ [];
    })) (told.Byte (slice_index bytes 0)))) seen
    (moved_alike number one other session _ (told.Byte (slice_index (shown one transaction page) 0)) here alike)
read_alike number one other session page (Refused transaction) low high here alike =
    same_alike number one other told.MustRollBack alike

-- WRITE
write_alike : (number : ℕ) (one other : World) (session page byte : ℕ) (state : SessionState) → BeganSince number state
    → AreAlikeSince number one other
    → AreSameAnswers number (write_step one session page byte state) (write_step other session page byte state)
write_alike number one other session page byte Out here alike = same_alike number one other told.NoTransaction alike
write_alike number one other session page byte (Open transaction) here alike =
    subst (λ (size : ℕ). AreSameAnswers number (write one session transaction page byte)
    (moved other session (Open (record transaction {
      changed = with_image transaction.changed page (replicate size byte);
      said = transaction.said ++ write_text page byte ∷ [];
      wrote = true;
    })) told.Ok)) alike.page_size
    (moved_alike number one other session _ told.Ok here alike)
write_alike number one other session page byte (Refused transaction) here alike =
    same_alike number one other told.MustRollBack alike

-- the commits of the same transaction are the same
commit_same : (one other : World) (session : ℕ) (transaction : PageTransaction) → one.begun session ≡ other.begun session
    → commit_in one session transaction ≡ commit_in other session transaction
commit_same one other session transaction begun =
    ap (λ (ordinal : ℕ). commit_of (record {
      snap = transaction.snap;
      reads = transaction.reads;
      change = change_of one transaction;
      said = transaction.said;
      wrote = transaction.wrote;
      session = session;
      ordinal = ordinal;
    }) (pages_written transaction.changed)) begun

-- histories that are the same from one place on are so with the same commit more
same_more : (number : ℕ) (some others : List Commit) (one other : Commit) → number ≤ length some → length some ≡ length others
    → drop number some ≡ drop number others → one ≡ other → drop number (some ++ one ∷ []) ≡ drop number (others ++ other ∷ [])
same_more number some others one other within count same last =
    drop-append-le number some (one ∷ []) within
    ∙ (ap (λ (commits : List Commit). commits ++ one ∷ []) same
    ∙ (ap (λ (commit : Commit). drop number others ++ commit ∷ []) last
    ∙ sym (drop-append-le number others (other ∷ []) (omega arith))))

-- COMMIT that nothing bars
committed_alike : (s number : ℕ) (one other : World) (session : ℕ) (transaction : PageTransaction) → AreImages s transaction.changed
    → MayGoOn s one → AreAlikeSince number one other
    → AreSameAnswers number (committed one session transaction) (committed other session transaction)
committed_alike s number one other session transaction images may alike =
    let ones = newest_map one in
    let others = newest_map other in
    let next = laid ones (change_of one transaction) in
    let then = laid others (change_of other transaction) in
    let first = commit_in one session transaction in
    let second = commit_in other session transaction in
    let count : length other.maps ≡ length other.history + 1 = omega (arith, may.count, alike.count, alike.commits) in
    let long : 100 ≤ page_size_of ones = omega (arith, legal_size (page_size_of ones) may.newest.store.size) in
    let newest : AreAlike ones others =
    subst (λ (k : ℕ). AreAlike (map_number one (length one.history)) (map_number other k)) alike.commits
    (alike.maps (length one.history) alike.within) in
    record {
      told = ap (λ (k : ℕ). told.Done (At (k + 1))) alike.commits;
      alike = record {
        within = omega (arith, alike.within, length-append one.history (first ∷ []));
        commits = omega (arith, alike.commits, length-append one.history (first ∷ []), length-append other.history (second ∷ []));
        history = same_more number one.history other.history first second alike.within alike.commits alike.history
            (commit_same one other session transaction (alike.begun session));
        sessions = λ k. ap (λ (old : SessionState). cond (eqb k session) Out old) (alike.sessions k);
        since = since_changed number one.sessions session Out tt alike.since;
        begun = alike.begun;
        count = omega (arith, alike.count, length-append one.maps (next ∷ []), length-append other.maps (then ∷ []));
        maps = pushed_alike (λ k. number ≤ k) one.maps other.maps next then alike.count alike.maps
            (laid_alike s one other transaction ones others images may.newest newest);
        page_size = ap page_size_of (newest_is one.maps one.history next first may.count)
            ∙ (laid_size s one transaction ones images long ∙ (alike.page_size ∙ (sym (laid_size s other transaction others images (subst (λ (n : ℕ). 100 ≤ n) alike.page_size long))
            ∙ sym (ap page_size_of (newest_is other.maps other.history then second count)))));
      };
    }

-- COMMIT of a transaction that wrote
decided_alike : (s number : ℕ) (one other : World) (session : ℕ) (transaction : PageTransaction) (found : Option (ℕ × ℕ))
    → AreImages s transaction.changed → MayGoOn s one → AreAlikeSince number one other
    → AreSameAnswers number (decided one session transaction found) (decided other session transaction found)
decided_alike s number one other session transaction None images may alike =
    committed_alike s number one other session transaction images may alike
decided_alike s number one other session transaction (Some found) images may alike =
    moved_alike number one other session (Refused transaction) (told.Busy found.0 found.1) tt alike

-- COMMIT
commit_alike : (s number : ℕ) (one other : World) (session : ℕ) (state : SessionState) → HasImages s state → BeganSince number state
    → MayGoOn s one → AreAlikeSince number one other
    → AreSameAnswers number (commit_step one session state) (commit_step other session state)
commit_alike s number one other session Out images here may alike = same_alike number one other told.NoTransaction alike
commit_alike s number one other session (Open transaction) images here may alike = by_wrote transaction.wrote
  where
    by_wrote : (wrote : Bool) → AreSameAnswers number
        (cond wrote (decided one session transaction (conflict Concurrent transaction.reads transaction.snap one.history))
        (moved one session Out (told.Done (ReadOnly transaction.snap))))
        (cond wrote (decided other session transaction (conflict Concurrent transaction.reads transaction.snap other.history))
        (moved other session Out (told.Done (ReadOnly transaction.snap))))
    by_wrote true =
        subst (λ (found : Option (ℕ × ℕ)). AreSameAnswers number
        (decided one session transaction (conflict Concurrent transaction.reads transaction.snap one.history))
        (decided other session transaction found))
        (same_conflict Concurrent transaction.reads transaction.snap one.history other.history
        (same_later one.history other.history number transaction.snap here alike.history))
        (decided_alike s number one other session transaction
        (conflict Concurrent transaction.reads transaction.snap one.history) images may alike)
    by_wrote false = moved_alike number one other session Out (told.Done (ReadOnly transaction.snap)) tt alike
commit_alike s number one other session (Refused transaction) images here may alike =
    same_alike number one other told.MustRollBack alike

-- ROLLBACK
rollback_alike : (number : ℕ) (one other : World) (session : ℕ) (state : SessionState) → AreAlikeSince number one other
    → AreSameAnswers number (rollback_step one session state) (rollback_step other session state)
rollback_alike number one other session Out alike = same_alike number one other told.NoTransaction alike
rollback_alike number one other session (Open transaction) alike = moved_alike number one other session Out told.Ok tt alike
rollback_alike number one other session (Refused transaction) alike = moved_alike number one other session Out told.Ok tt alike

-- each act is answered the same, and the worlds stay alike
pub step_alike : (s number : ℕ) (one other : World) (asked : Act) → IsInRange asked → MayGoOn s one → AreAlikeSince number one other
    → AreSameAnswers number (step one asked) (step other asked)
step_alike s number one other (act.Begin session) range may alike =
    subst (λ (state : SessionState). AreSameAnswers number (begin_step one session (one.sessions session))
    (begin_step other session state)) (alike.sessions session)
    (begin_alike number one other session (one.sessions session) alike)
step_alike s number one other (act.Read session page) range may alike =
    subst (λ (state : SessionState). AreSameAnswers number (read_step one session page (one.sessions session))
    (read_step other session page state)) (alike.sessions session)
    (read_alike number one other session page (one.sessions session) range.0 range.1 (alike.since session) alike)
step_alike s number one other (act.Write session page byte) range may alike =
    subst (λ (state : SessionState). AreSameAnswers number (write_step one session page byte (one.sessions session))
    (write_step other session page byte state)) (alike.sessions session)
    (write_alike number one other session page byte (one.sessions session) (alike.since session) alike)
step_alike s number one other (act.Commit session) range may alike =
    subst (λ (state : SessionState). AreSameAnswers number (commit_step one session (one.sessions session))
    (commit_step other session state)) (alike.sessions session)
    (commit_alike s number one other session (one.sessions session) (may.images session) (alike.since session) may alike)
step_alike s number one other (act.Rollback session) range may alike =
    subst (λ (state : SessionState). AreSameAnswers number (rollback_step one session (one.sessions session))
    (rollback_step other session state)) (alike.sessions session)
    (rollback_alike number one other session (one.sessions session) alike)
step_alike s number one other act.Copy range may alike = record { told = refl; alike = alike }
step_alike s number one other act.Step range may alike = record { told = refl; alike = alike }
step_alike s number one other act.Logs range may alike = record { told = refl; alike = alike }

-- any acts are answered the same, whatever the commits and maps were before the worlds were alike
pub since_answers : (s number : ℕ) (one other : World) (acts : List Act) → AreInRange acts → MayGoOn s one
    → AreAlikeSince number one other → answers_to one acts ≡ answers_to other acts
since_answers s number one other [] range may alike = refl
since_answers s number one other (asked ∷ acts) range may alike =
    let here = All-head IsInRange asked acts range in
    let same = step_alike s number one other asked here may alike in
    ap (λ (answer : Told). answer ∷ answers_to (step one asked).world acts) same.told
    ∙ ap (λ (answers : List Told). (step other asked).told ∷ answers)
    (since_answers s number (step one asked).world (step other asked).world acts (All-tail IsInRange asked acts range)
    (step_may s one asked here may) same.alike)

-- and the worlds after them are alike
pub since_after : (s number : ℕ) (one other : World) (acts : List Act) → AreInRange acts → MayGoOn s one
    → AreAlikeSince number one other → AreAlikeSince number (world_after one acts) (world_after other acts)
since_after s number one other [] range may alike = alike
since_after s number one other (asked ∷ acts) range may alike =
    let here = All-head IsInRange asked acts range in
    since_after s number (step one asked).world (step other asked).world acts (All-tail IsInRange asked acts range)
    (step_may s one asked here may) (step_alike s number one other asked here may alike).alike

-- each transaction began at the first map or later
since_first : (state : SessionState) → BeganSince 0 state
since_first Out = tt
since_first (Open transaction) = omega arith
since_first (Refused transaction) = tt

-- alike worlds are alike from the first map on
alike_since : (one other : World) → AreAlikeWorlds one other → AreAlikeSince 0 one other
alike_since one other alike = record {
  within = omega arith;
  commits = ap length alike.history;
  history = ap (drop 0) alike.history;
  sessions = alike.sessions;
  since = λ session. since_first (one.sessions session);
  begun = alike.begun;
  count = alike.count;
  maps = λ later low. alike.maps later;
  page_size = alike.page_size;
}

-- alike worlds answer any acts the same
pub answers_alike : (s : ℕ) (one other : World) (acts : List Act) → AreInRange acts → MayGoOn s one → AreAlikeWorlds one other
    → answers_to one acts ≡ answers_to other acts
answers_alike s one other acts range may alike = since_answers s 0 one other acts range may (alike_since one other alike)

-- and stay alike
pub after_alike : (s : ℕ) (one other : World) (acts : List Act) → AreInRange acts → MayGoOn s one → AreAlikeWorlds one other
    → AreAlikeWorlds (world_after one acts) (world_after other acts)
after_alike s one other acts range may alike =
    let then = since_after s 0 one other acts range may (alike_since one other alike) in
    record {
      history = then.history;
      sessions = then.sessions;
      begun = then.begun;
      count = then.count;
      maps = λ number. then.maps number (omega arith);
      page_size = then.page_size;
    }

-- Worlds in which no session is in a transaction are alike from the newest map on where they have as many commits and their newest
-- maps are alike.
pub out_since : (one other : World) → length one.maps ≡ length one.history + 1 → length other.maps ≡ length other.history + 1
    → length one.history ≡ length other.history → ((session : ℕ) → one.sessions session ≡ Out)
    → ((session : ℕ) → other.sessions session ≡ Out) → ((session : ℕ) → one.begun session ≡ other.begun session)
    → AreAlike (newest_map one) (newest_map other) → page_size_of (newest_map one) ≡ page_size_of (newest_map other)
    → AreAlikeSince (length one.history) one other
out_since one other count count_too commits out out_too begun newest page_size = record {
  within = omega arith;
  commits = commits;
  history = drop_all (length one.history) one.history (omega arith)
      ∙ sym (drop_all (length one.history) other.history (omega arith));
  sessions = λ session. out session ∙ sym (out_too session);
  since = λ session. subst (BeganSince (length one.history)) (sym (out session)) tt;
  begun = begun;
  count = omega arith;
  maps = λ later low. elim (cases_eq later (length one.history)) [
    | inl last ↦
        subst (λ (k : ℕ). AreAlike (map_number one k) (map_number other k)) (sym last)
        (subst (λ (k : ℕ). AreAlike (newest_map one) (map_number other k)) (sym commits) newest)
    | inr past ↦
        (λ page above below. ap (λ (map : PageMap). page_at map page)
        (get_or_past one.maps later [] (omega arith) ∙ sym (get_or_past other.maps later [] (omega arith))))
  ];
  page_size = page_size;
}

-- the worlds in which nothing has happened yet are alike where their maps are page stores with pages of one size
pub over_alike : (one other : PageMap) (s : ℕ) → IsStore s one → IsStore s other → AreAlike one other
    → AreAlikeWorlds (world_over one) (world_over other)
over_alike one other s sound sound_too alike = record {
  history = refl;
  sessions = λ session. refl;
  begun = λ session. refl;
  count = refl;
  maps = λ number. pushed_alike (λ k. Unit {0}) [] [] one other refl (λ k there page low high. refl) alike number tt;
  page_size = sound.size ∙ sym sound_too.size;
}

-- two page stores with the same pages 2 to 16 answer any acts the same
pub stores_alike : (one other : PageMap) (s : ℕ) → IsStore s one → IsStore s other → AreAlike one other → (acts : List Act)
    → AreInRange acts → answers_to (world_over one) acts ≡ answers_to (world_over other) acts
stores_alike one other s sound sound_too alike acts range =
    answers_alike s (world_over one) (world_over other) acts range (out_may s (world_over one) refl sound (λ session. refl))
    (over_alike one other s sound sound_too alike)
