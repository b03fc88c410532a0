-- What a commit of the engine in memory tells, and what it keeps.
use Rattle.std.proofs.Common.{◌≡◌, ◌∙◌, ℕ, ◌+◌, ◌*◌, ◌<◌, ◌≤◌, List, [], ◌∷◌, ◌++◌, length, take, drop, refl, sym, ap, subst, inl, inr, arith, Contains, get_or, length-append, length-drop, add-zero, append-nil, Result, Ok, Err, true, false}
use Rattle.std.specs.Prelude.{slice_get, Option, Some, None, zero, suc, IfSome, MatchResult}
use Rattle.std.proofs.lemmas.Bool.{false≢true, cases_lt}
use Rattle.std.proofs.lemmas.Option.{slice_get-get_or, get_or_from_slice_get}
use Rattle.std.proofs.lemmas.List.{get_or_append_left, get_or-drop, take-append-le, take_all}
use Rattle.std.proofs.Math.Seq.{get_or-append_seam}
use Rattle.std.proofs.lemmas.Grind.{flat_map-append}
use Rattle.page_spec.specs.PageMap.{PageMap, page_size_of}
use Rattle.engine_spec.specs.declared.pins.Pin.{Pin}
use Rattle.engine_spec.specs.declared.commits.Commit.{Commit}
use Rattle.engine_spec.specs.declared.commits.Mode.{Mode}
use Rattle.engine_spec.specs.declared.commits.Mode.TheVariants.{Plain, Concurrent}
use Rattle.engine_spec.specs.declared.commits.Who.{Who}
use Rattle.engine_spec.specs.declared.commits.Receipt.{Receipt}
use Rattle.engine_spec.specs.declared.commits.CommitFault.{CommitFault}
use Rattle.engine_spec.specs.declared.commits.CommitFault.TheVariants as fault
use Rattle.engine_spec.specs.Change.{laid}
use Rattle.engine_spec.specs.History.{counts, NoConflict, statements_of, SnapsBefore}
use Rattle.crash_spec.specs.Opening.{Opening}
use Rattle.page_spec.specs.Header.{database_limit}
use Rattle.engine_spec.specs.Written.{Submitted, commit_of, numbers_from, written}
use Rattle.engine_spec.specs.Events.{AcceptsCommit, RefusesCommit, IsCommitted, IsClear, pages_after}
use Rattle.engine_spec.proofs.WrittenSets.{writes_changed}
use Rattle.engine_spec.specs.Good.{MayLayOn}
use Rattle.engine_spec.proofs.Laying.{laid-length, page_at-length}
use Rattle.page_face.specs.declared.means.Means.{Ghosts as Meaning}
use Rattle.page_face.specs.declared.engine_tells.EngineTells.{Ghosts}
use Rattle.page_face.specs.declared.prepared.Prepared.{Prepared}
use Rattle.page_face.specs.Prepared.{submitted, change_in, IsFit, IsGood, IsHandedBack}
use Rattle.page_face.specs.Calls.{IsLaidOn, IsLaidOnEach, CommitKeepsRuns}
use Rattle.page_face.specs.Pins.{IsLive, KeepsPins}
use Rattle.memory_engine.specs.Plain.{PlainState, IsPlain, IsOfMap, PlainLive, PlainRuns, MayAdd, Bars, IsFree, Adds, no_readers, newest_of, state_of, committed_state}
use Rattle.memory_engine.specs.PlainLaws.{held, plain_run}
use Rattle.memory_engine.proofs.PlainCommits.{plain_more, agree_since, more_cases, newest_whole, pages_are, found_at, uncounted_at, may_add}

-- a list with one more is one longer
one_longer : {X : Type 0} (xs : List X) (x : X) → length (xs ++ x ∷ []) ≡ suc (length xs)
one_longer xs x = omega (arith, length-append xs (x ∷ []))

-- the newest map once there is one more
newest_more : (plain : PlainState) (asked : Submitted) → IsPlain plain
    → newest_of (committed_state plain asked) ≡ laid (newest_of plain) asked.change
newest_more plain asked whole =
    let at : length (plain.history ++ commit_of asked (written asked.change) ∷ []) ≡ length plain.maps =
    omega (arith, one_longer plain.history (commit_of asked (written asked.change)), whole.count) in
    ap (λ (k : ℕ). get_or (plain.maps ++ laid (newest_of plain) asked.change ∷ []) k []) at
    ∙ get_or-append_seam plain.maps (laid (newest_of plain) asked.change) [] []

-- so many numbers and one more
numbers_more : (from count : ℕ) → numbers_from from (suc count) ≡ numbers_from from count ++ (from + count) ∷ []
numbers_more from zero = ap (λ (n : ℕ). n ∷ []) (omega arith)
numbers_more from (suc count) =
    ap (λ (rest : List ℕ). from ∷ rest)
    (numbers_more (from + 1) count ∙ ap (λ (n : ℕ). numbers_from (from + 1) count ++ n ∷ []) (omega arith))

-- nothing bars a transaction that wrote and is free
pub is_clear : {M : Type 0} (plain : PlainState) (prepared : Prepared M) (who : Who) → prepared.wrote ≡ true → IsFree plain prepared
    → IsClear (state_of plain) (submitted prepared who)
is_clear plain prepared who wrote free = record { wrote = wrote; running = refl; free = free.free; fits = free.fits }

-- the commit that nothing bars
pub is_committed : {M : Type 0} (opened : Opening → Type 0) (plain : PlainState) (prepared : Prepared M) (who : Who) → MayAdd plain prepared
    → IsClear (state_of plain) (submitted prepared who)
    → IsCommitted opened (state_of plain) (submitted prepared who) (length plain.history + 1)
    (state_of (committed_state plain (submitted prepared who)))
is_committed opened plain prepared who may clear =
    let asked = submitted prepared who in
    let more = commit_of asked (written asked.change) in
    let longer : length (plain.history ++ more ∷ []) ≡ suc (length plain.history) = one_longer plain.history more in
    let own : numbers_from 1 (length (plain.history ++ more ∷ [])) ≡ numbers_from 1 (length plain.history) ++ (length plain.history + 1) ∷ [] =
    ap (numbers_from 1) longer ∙ numbers_more 1 (length plain.history)
    ∙ ap (λ (n : ℕ). numbers_from 1 (length plain.history) ++ n ∷ []) (omega arith) in
    let newest : newest_of (committed_state plain asked) ≡ laid (newest_of plain) asked.change = newest_more plain asked may.whole in
    let size : length (newest_of (committed_state plain asked)) ≡ pages_after (state_of plain) asked.change =
    ap length newest ∙ laid-length (newest_of plain) asked.change may.fresh ∙ sym (pages_are plain prepared may) in
    record {
      clear = clear;
      number_is = refl;
      pages = written asked.change;
      wrote = writes_changed (Some (newest_of plain)) (length (newest_of plain)) asked.change may.fresh;
      moments = λ opening is. tt;
      after_is = λ i. record {
        history = plain.history ++ more ∷ [];
        own = own i;
        newest = Some (newest i);
        size = size i;
        stopped = None;
        faults = 0;
        page_size = plain.page_size;
        usable = plain.usable;
        always_begins = true;
        alone = true;
        logs = None;
        readers = no_readers;
        disk = None;
      };
    }

-- the pins that held hold, with the same maps
pub keeps_more : {M : Type 0} (plain : PlainState) (prepared : Prepared M) (who : Who) → MayAdd plain prepared
    → KeepsPins PlainLive (λ (p : PlainState) (q : Pin). slice_get p.maps q.n) plain (committed_state plain (submitted prepared who))
keeps_more plain prepared who may =
    let next = laid (newest_of plain) (change_in prepared) in
    let count = may.whole.count in
    record {
      hold = λ pins live. (
        plain_more plain prepared who may,
        λ k d within.
            let hold : IsOfMap plain (get_or pins k d) = live.1 k d within in
            let n = hold.n in
            record {
              n = omega (arith, one_longer plain.history (commit_of (submitted prepared who) (written (change_in prepared))));
              size = hold.size
                  ∙ ap length (sym (get_or_append_left plain.maps (next ∷ []) [] (get_or pins k d).n (omega arith)));
            },
      );
      maps = λ pin live.
          let n = (held plain pin live).n in
          let low : pin.n < length plain.maps = omega arith in
          let high : pin.n < length (plain.maps ++ next ∷ []) = omega (arith, one_longer plain.maps next) in
          slice_get-get_or (plain.maps ++ next ∷ []) pin.n [] high
          ∙ ap Some (get_or_append_left plain.maps (next ∷ []) [] pin.n low)
          ∙ sym (slice_get-get_or plain.maps pin.n [] low);
    }

-- the change may be laid on the newest map
pub may_lay : (plain : PlainState) → IsPlain plain → (mode : Mode) (reads : List ℕ) (n : ℕ) → n ≤ length plain.history
    → (mode ≡ Plain → Contains reads 1) → NoConflict mode reads n plain.history
    → MayLayOn mode (get_or plain.maps n []) reads (newest_of plain)
may_lay plain whole Concurrent reads n within first none = agree_since plain whole n within reads none
may_lay plain whole Plain reads n within first none =
    elim (cases_lt n (length plain.history)) [
      | inl low ↦
          let here = found_at plain.history n low in
          let count = whole.count in
          let old : slice_get plain.maps n ≡ Some (get_or plain.maps n []) = slice_get-get_or plain.maps n [] (omega arith) in
          let next : slice_get plain.maps (n + 1) ≡ Some (get_or plain.maps (n + 1) []) =
          slice_get-get_or plain.maps (n + 1) [] (omega arith) in
          let wrote : counts Plain 1 here.0 ≡ true =
          (whole.chain n (get_or plain.maps n []) (get_or plain.maps (n + 1) []) here.0 old here.1 next).first_page in
          let left : counts Plain 1 (get_or (drop n plain.history) 0 here.0) ≡ false =
          uncounted_at Plain 1 (drop n plain.history) (none 1 (first refl)) 0 here.0
          (omega (arith, length-drop n plain.history)) in
          let is : get_or (drop n plain.history) 0 here.0 ≡ here.0 =
          get_or-drop n plain.history 0 here.0 ∙ ap (λ (k : ℕ). get_or plain.history k here.0) (add-zero n)
          ∙ get_or_from_slice_get plain.history n here.0 here.0 here.1 in
          absurd (false≢true (sym (subst (λ (c : Commit). counts Plain 1 c ≡ false) is left) ∙ wrote))
      | inr high ↦
          let same : length plain.history ≡ n = omega arith in
          ap (λ (k : ℕ). get_or plain.maps k []) same
    ]

-- each commit began before itself, the last one too
pub snaps_push : (k : ℕ) (commits : List Commit) (commit : Commit) → SnapsBefore k commits → commit.entry.snap ≤ k + length commits
    → SnapsBefore k (commits ++ commit ∷ [])
snaps_push k [] commit before last = (omega arith, tt)
snaps_push k (one ∷ commits) commit before last =
    (before.0, snaps_push (k + 1) commits commit before.1 (omega arith))

-- what the commits with one more said
statements_more : (commits : List Commit) (commit : Commit)
    → statements_of (commits ++ commit ∷ []) ≡ statements_of commits ++ commit.entry.statements
statements_more commits commit =
    flat_map-append (λ (c : Commit). c.entry.statements) commits (commit ∷ [])
    ∙ ap (λ (texts : List (List ℕ)). statements_of commits ++ texts) (append-nil commit.entry.statements)

-- the engine stands for a run still, once a good change is laid over its newest map
pub runs_more : {M : Type 0} (sound : PageMap → Type 0) (leads : PageMap → PageMap → List (List ℕ) → PageMap → Type 0) (first : PageMap)
    → ((before between after : PageMap) (some others : List (List ℕ)) → leads first before some between
    → leads first between others after → leads first before (some ++ others) after)
    → (plain : PlainState) (pin : Pin) (prepared : Prepared M) (who : Who) → IsLive PlainLive plain pin
    → IsFit (state_of plain) pin prepared → IsClear (state_of plain) (submitted prepared who)
    → IfSome (slice_get plain.maps pin.n) (λ snapshot. IsGood sound (leads first) snapshot prepared)
    → PlainRuns sound (leads first) first plain → PlainRuns sound (leads first) first (committed_state plain (submitted prepared who))
runs_more sound leads first joins plain pin prepared who live fit clear good runs =
    let asked = submitted prepared who in
    let change = change_in prepared in
    let may : MayAdd plain prepared = may_add plain pin prepared live fit in
    let whole = runs.whole in
    let count = whole.count in
    let n : pin.n ≤ length plain.history = (held plain pin live).n in
    let snapshot : slice_get plain.maps pin.n ≡ Some (get_or plain.maps pin.n []) = slice_get-get_or plain.maps pin.n [] (omega arith) in
    let is_good : IsGood sound (leads first) (get_or plain.maps pin.n []) prepared =
    subst (λ (found : Option PageMap). IfSome found (λ s. IsGood sound (leads first) s prepared)) snapshot good in
    let newest : slice_get plain.maps (length plain.history) ≡ Some (newest_of plain) =
    slice_get-get_or plain.maps (length plain.history) [] (omega arith) in
    let stands : sound (newest_of plain) × leads first first (statements_of (take (length plain.history) plain.history)) (newest_of plain) =
    runs.each (length plain.history) (newest_of plain) newest in
    let all : take (length plain.history) plain.history ≡ plain.history = take_all (length plain.history) plain.history (omega arith) in
    let sizes = newest_whole plain whole in
    let page_size : page_size_of (newest_of plain) ≡ plain.page_size =
    page_at-length (newest_of plain) plain.page_size 1 sizes.2.each (omega arith) sizes.0 in
    let small : length (newest_of plain) * page_size_of (newest_of plain) ≤ database_limit =
    rw (page_size, ← pages_are plain prepared may) clear.fits.pages in
    let snap : prepared.snap ≡ pin.n = fit.snap in
    let none : NoConflict prepared.mode prepared.reads pin.n plain.history = rw (← snap) clear.free in
    let lay : MayLayOn prepared.mode (get_or plain.maps pin.n []) prepared.reads (newest_of plain) =
    may_lay plain whole prepared.mode prepared.reads pin.n n fit.first_page none in
    let laid_good : sound (laid (newest_of plain) change) × leads first (newest_of plain) prepared.said (laid (newest_of plain) change) =
    is_good (newest_of plain) stands.0 small lay in
    let led : leads first first (statements_of plain.history ++ prepared.said) (laid (newest_of plain) change) =
    joins first (newest_of plain) (laid (newest_of plain) change) (statements_of plain.history) prepared.said
    (rw all at stands.1) laid_good.1 in
    record {
      whole = plain_more plain prepared who may;
      snaps = snaps_push 0 plain.history (commit_of asked (written asked.change)) runs.snaps (omega arith);
      each = λ k pages found.
          elim (more_cases plain.maps (laid (newest_of plain) change) k pages found) [
            | inl old ↦
                let front : take k (plain.history ++ commit_of asked (written asked.change) ∷ []) ≡ take k plain.history =
                take-append-le k plain.history (commit_of asked (written asked.change) ∷ []) (let low = old.0 in omega arith) in
                let was : sound pages × leads first first (statements_of (take k plain.history)) pages = runs.each k pages old.1 in
                (was.0, rw front was.1)
            | inr last ↦
                let long : take k (plain.history ++ commit_of asked (written asked.change) ∷ []) ≡ plain.history ++ commit_of asked (written asked.change) ∷ [] =
                take_all k (plain.history ++ commit_of asked (written asked.change) ∷ [])
                (let at = last.0 in omega (arith, one_longer plain.history (commit_of asked (written asked.change)))) in (
                  subst sound (sym last.1) laid_good.0,
                  rw (long, statements_more plain.history (commit_of asked (written asked.change)), last.1) led,
                )
          ];
    }

-- what bars a transaction is the cause that is told
pub bars_refuses : {M : Type 0} (opened : Opening → Type 0) (stands : Type 0) (plain : PlainState) (prepared : Prepared M) (who : Who)
    (why : CommitFault) → prepared.wrote ≡ true → Bars plain prepared why
    → RefusesCommit opened stands (state_of plain) (submitted prepared who) why (state_of plain)
bars_refuses opened stands plain prepared who (fault.BusySnapshot page number) wrote bars = (wrote, refl, bars, refl)
bars_refuses opened stands plain prepared who (fault.SizeLimit pages frames) wrote bars = (wrote, refl, bars.0, bars.1, bars.2, bars.3, refl)
bars_refuses opened stands plain prepared who (fault.Stopped log at) wrote bars = absurd bars
bars_refuses opened stands plain prepared who fault.Memory wrote bars = absurd bars
bars_refuses opened stands plain prepared who fault.Disk wrote bars = absurd bars
bars_refuses opened stands plain prepared who (fault.Corrupt page) wrote bars = absurd bars

-- The map on which the commit is laid, where the engine stands for a run: it is sound, led to, and may be laid on.
pub laid_on : {M : Type 0} (sound : PageMap → Type 0) (leads : PageMap → List (List ℕ) → PageMap → Type 0) (first : PageMap)
    (plain : PlainState) (pin : Pin) (prepared : Prepared M) → IsLive PlainLive plain pin → IsFit (state_of plain) pin prepared
    → IsFree plain prepared → PlainRuns sound leads first plain
    → IsLaidOn sound (leads first) (slice_get plain.maps pin.n) prepared (state_of plain) (newest_of plain)
laid_on sound leads first plain pin prepared live fit free runs =
    let told = (plain_run sound leads first plain runs).newest (newest_of plain) refl in
    let hold = held plain pin live in
    let found : slice_get plain.maps pin.n ≡ Some (get_or plain.maps pin.n []) =
    slice_get-get_or plain.maps pin.n [] (omega (arith, live.1.0.count, hold.n)) in
    let snap : prepared.snap ≡ pin.n = fit.snap in
    record {
      is_sound = told.0;
      led = told.1;
      may_lay = subst (λ (snapshot : Option PageMap). IfSome snapshot (λ s. MayLayOn prepared.mode s prepared.reads (newest_of plain))) (sym found)
          (may_lay plain live.1.0 prepared.mode prepared.reads pin.n hold.n fit.first_page (rw (← snap) free.free));
    }

-- the answer of a commit that nothing bars, and on which map it was laid
pub match_added : {M : Type 0} (means : Meaning M) (told : Ghosts PlainState M) (opened : Opening → Type 0) (stands : Type 0)
    (plain : PlainState) (pin : Pin) (prepared : Prepared M) (who : Who) → MayAdd plain prepared
    → IsClear (state_of plain) (submitted prepared who)
    → ((first : PageMap) → told.stands_from plain first
    → IsLaidOn (means.sound first) (means.leads first first) (told.map_at plain pin) prepared (state_of plain) (newest_of plain))
    → (result : Result Receipt (CommitFault × Prepared M)) (new : PlainState) → Adds plain prepared who result new
    → MatchResult result
    (λ receipt. AcceptsCommit opened (state_of plain) (submitted prepared who) receipt (state_of new)
    × IsLaidOnEach means told plain pin prepared receipt (state_of plain))
    (λ refusal. IsHandedBack prepared refusal
    × RefusesCommit opened stands (state_of plain) (submitted prepared who) refusal.0 (state_of new))
match_added means told opened stands plain pin prepared who may clear laid (Ok receipt) new added =
    rw (added.0, added.1) (is_committed opened plain prepared who may clear, laid)
match_added means told opened stands plain pin prepared who may clear laid (Err refusal) new added =
    (added.1, rw added.0 (clear, ap state_of added.2))

-- the pins after it
pub pins_added : {M : Type 0} (plain : PlainState) (prepared : Prepared M) (who : Who) → MayAdd plain prepared
    → (result : Result Receipt (CommitFault × Prepared M)) (new : PlainState) → Adds plain prepared who result new
    → KeepsPins PlainLive (λ (p : PlainState) (q : Pin). slice_get p.maps q.n) plain new
pins_added plain prepared who may (Ok receipt) new added =
    subst (λ (s : PlainState). KeepsPins PlainLive (λ (p : PlainState) (q : Pin). slice_get p.maps q.n) plain s) (sym added.1)
    (keeps_more plain prepared who may)
pins_added plain prepared who may (Err refusal) new added =
    subst (λ (s : PlainState). KeepsPins PlainLive (λ (p : PlainState) (q : Pin). slice_get p.maps q.n) plain s) (sym added.2)
    (record { hold = λ pins live. live; maps = λ pin live. refl })

-- and the runs that go on
pub runs_added : {M : Type 0} (means : Meaning M) (told : Ghosts PlainState M) (plain : PlainState) (pin : Pin) (prepared : Prepared M) (who : Who)
    → ((first : PageMap) → told.stands_from plain first
    → IfSome (told.map_at plain pin) (λ snapshot. IsGood (means.sound first) (means.leads first) snapshot prepared)
    → told.stands_from (committed_state plain (submitted prepared who)) first)
    → (result : Result Receipt (CommitFault × Prepared M)) (new : PlainState) → Adds plain prepared who result new
    → CommitKeepsRuns means told plain pin prepared result new
runs_added means told plain pin prepared who more (Ok receipt) new added = rw (added.0, added.1) more
runs_added means told plain pin prepared who more (Err refusal) new added = λ first runs.
    subst (λ (s : PlainState). told.stands_from s first) (sym added.2) runs
