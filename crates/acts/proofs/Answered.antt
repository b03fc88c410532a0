-- A run of page lines over an engine that rests at a world is answered as the run over whole page maps is.
use Rattle.std.proofs.Common.{◌≡◌, ℕ, ◌+◌, ◌≤◌, true, List, [], ◌∷◌, ◌++◌, length, take, get_or, Option, Some, None, refl, sym, subst, ap, ◌∙◌, inl, inr, arith, length-append}
use Rattle.std.specs.Prelude.{◌⊎◌}
use Rattle.std.proofs.lemmas.List.{length-take-le, get_or_push}
use Rattle.std.proofs.lemmas.List.Elements.{All-head, All-tail}
use Rattle.disk_face.specs.Faults.{Rose}
use Rattle.page_spec.specs.PageMap.{PageMap, page_size_of}
use Rattle.engine_spec.specs.declared.pins.Pin.{Pin}
use Rattle.page_lines.specs.declared.lines.Act.{Act}
use Rattle.page_lines.specs.declared.lines.Told.{Told}
use Rattle.page_lines.specs.PageLines.{IsPageStore}
use Rattle.page_lines.specs.Range.{IsInRange, AreInRange}
use Rattle.crash_spec.specs.Opening.{Opening}
use Rattle.engine_spec.specs.State.{EngineState}
use Rattle.page_lines.specs.World.{World, newest_map, step, answers_to, world_over}
use Rattle.page_lines.specs.Alike.{AreAlike, AreAlikeSince}
use Rattle.page_lines.proofs.Alone.{IsStore, page-long}
use Rattle.page_lines.proofs.AlikeLaw.{since_answers, out_since}
use Rattle.page_lines.proofs.GoingOn.{out_may}
use Rattle.page_lines.proofs.Rises.{rose_first, rose_then}
use Rattle.acts.specs.declared.seats.Seat.{Seat}
use Rattle.acts.specs.declared.seats.State.TheVariants as seat
use Rattle.acts.specs.Pagers.{Between, Plays, AreSound}
use Rattle.acts.specs.Playing.{RestsAt, IsWithoutLogs, IsOfSession, AreSessions, HasNoLimit, HaveNoLimit}
use Rattle.acts.specs.Standing.{Matches, StandsAt}
use Rattle.acts.proofs.Growth.{GoesOn, acts_go, plays_go}
use Rattle.acts.proofs.Soundness.{acts_sound}
use Rattle.acts.proofs.Standing.{MindsNoLogs}
use Rattle.acts.proofs.StandingActs.{acts_stand}

-- there are no logs, or else the acts are of sessions and met no limit
abbrev pub MindNoLogs : EngineState → List Act → List Told → Type 0
MindNoLogs seen acts answers = IsWithoutLogs seen ⊎ (AreSessions acts × HaveNoLimit answers)

-- so it is of the first act
minds_first : (seen : EngineState) (one : Act) (acts : List Act) (answer : Told) (answers : List Told)
    → MindNoLogs seen (one ∷ acts) (answer ∷ answers) → MindsNoLogs seen one answer
minds_first seen one acts answer answers minds = elim minds [
  | inl none ↦ inl none
  | inr both ↦ inr (All-head IsOfSession one acts both.0, All-head HasNoLimit answer answers both.1)
]

-- and of the others
minds_others : (seen mid : EngineState) (one : Act) (acts : List Act) (answer : Told) (answers : List Told) → (seen.logs ≡ None → mid.logs ≡ None)
    → MindNoLogs seen (one ∷ acts) (answer ∷ answers) → MindNoLogs mid acts answers
minds_others seen mid one acts answer answers stays minds = elim minds [
  | inl none ↦ inl (stays none)
  | inr both ↦ inr (All-tail IsOfSession one acts both.0, All-tail HasNoLimit answer answers both.1)
]

-- Acts over an engine that is alone and stands at a world are answered as the world is, one after another.
plays_answered : (opened : Opening → Type 0) (old : EngineState) (maps : Pin → Option PageMap) (seats : List Seat) (acts : List Act)
    (answers : List Told) (new : EngineState) (world : World) → old.alone ≡ true → AreInRange acts → StandsAt old maps seats world
    → AreSound old.page_size seats → (Rose old.faults new.faults → ⊥) → MindNoLogs old acts answers
    → Plays opened old maps seats acts answers new → answers ≡ answers_to world acts
plays_answered opened old maps seats [] [] new world here range stands sound quiet minds plays = refl
plays_answered opened old maps seats [] (answer ∷ answers) new world here range stands sound quiet minds never = absurd never
plays_answered opened old maps seats (one ∷ acts) [] new world here range stands sound quiet minds never = absurd never
plays_answered opened old maps seats (one ∷ acts) (answer ∷ answers) new world here range stands sound quiet minds
    (mid, maps_then, seats_then, acted, keeps, leaves, rest) =
    let engine : Between =
    record { opened = opened; old = old; new = mid; map_before = maps; map_after = maps_then } in
    let goes : GoesOn old mid = acts_go opened old mid maps maps_then seats one answer seats_then acted in
    let others : GoesOn mid new = plays_go opened mid maps_then seats_then acts answers new rest in
    let leads = acts_stand engine seats seats_then world one answer (record {
      alone = here;
      stands = stands;
      sound = sound;
      quiet = λ rose. quiet (rose_first old.faults mid.faults new.faults others.grew.faults rose);
      maps = λ pin now was. keeps pin was now;
    }) (minds_first old one acts answer answers minds) acted in
    let sound_then : AreSound mid.page_size seats_then =
    subst (λ (size : ℕ). AreSound size seats_then) (sym goes.page_size)
    (acts_sound engine seats seats_then one answer (omega (arith, stands.tells.size)) (All-head IsInRange one acts range) sound acted) in
    ap (λ (told : Told). told ∷ answers) leads.0
    ∙ ap (λ (told : List Told). (step world one).told ∷ told)
    (plays_answered opened mid maps_then seats_then acts answers new (step world one).world (goes.alone ∙ here) (All-tail IsInRange one acts range)
    leads.1 sound_then (λ rose. quiet (rose_then old.faults mid.faults new.faults goes.grew.faults rose))
    (minds_others old mid one acts answer answers goes.no_logs minds) rest)

-- the world with the engine's own commits and newest map
resting : EngineState → World → PageMap → World
resting seen world pages = record world {
  history = seen.history;
  maps = take (length seen.history) world.maps ++ pages ∷ [];
}

-- some of these maps and then another are as many as there are commits, and one more
count_last : (maps : List PageMap) (n : ℕ) (pages : PageMap) → n ≤ length maps → length (take n maps ++ pages ∷ []) ≡ n + 1
count_last maps n pages within = omega (arith, length-append (take n maps) (pages ∷ []), length-take-le n maps within)

-- and that one is the last
last_is : (maps : List PageMap) (n : ℕ) (pages : PageMap) → n ≤ length maps → get_or (take n maps ++ pages ∷ []) n [] ≡ pages
last_is maps n pages within = get_or_push (take n maps) pages [] n (length-take-le n maps within)

-- page stores with the same pages 2 to 16 have one page size
alike_size : (one other : PageMap) → IsPageStore one → IsPageStore other → AreAlike one other → page_size_of one ≡ page_size_of other
alike_size one other store other_store alike =
    sym (page-long (page_size_of one) one 2 (record { store = store; size = refl }) (omega arith) (omega arith))
    ∙ ap length (alike 2 (omega arith) (omega arith))
    ∙ page-long (page_size_of other) other 2 (record { store = other_store; size = refl }) (omega arith) (omega arith)

-- the world has a map for each of the engine's commits
enough_maps : (seen : EngineState) (world : World) → RestsAt seen world → length seen.history ≤ length world.maps
enough_maps seen world rests = omega (arith, rests.commits, rests.count)

-- the engine's own map is the newest there
resting_newest : (seen : EngineState) (world : World) (rests : RestsAt seen world) → newest_map (resting seen world rests.pages) ≡ rests.pages
unfolding resting
resting_newest seen world rests = last_is world.maps (length seen.history) rests.pages (enough_maps seen world rests)

-- An engine that rests at a world stands at the one with its own commits and newest map, as long as no session has acted.
rests_stand : (seen : EngineState) (map_at : Pin → Option PageMap) (world : World) (rests : RestsAt seen world)
    → StandsAt seen map_at [] (resting seen world rests.pages)
unfolding resting
rests_stand seen map_at world rests =
    let newest = resting_newest seen world rests in
    record {
      tells = record {
        history_is = refl;
        newest = rests.newest ∙ ap Some (sym newest);
        store = subst IsPageStore (sym newest) rests.store;
        size = rests.size;
        page_size = rests.page_size ∙ ap page_size_of (sym newest);
        running = rests.running;
        count = count_last world.maps (length seen.history) rests.pages (enough_maps seen world rests);
      };
      sessions = λ session.
          subst (Matches map_at (take (length seen.history) world.maps ++ rests.pages ∷ []) seat.Out) (sym (rests.out session)) tt;
      begun = rests.none_begun;
    }

-- from its newest map on the two worlds are alike
rests_alike : (seen : EngineState) (world : World) (rests : RestsAt seen world)
    → AreAlikeSince (length seen.history) (resting seen world rests.pages) world
unfolding resting
rests_alike seen world rests =
    let own = resting seen world rests.pages in
    let newest : newest_map own ≡ rests.pages = resting_newest seen world rests in
    out_since own world (count_last world.maps (length seen.history) rests.pages (enough_maps seen world rests)) rests.count rests.commits
    rests.out rests.out (λ session. refl)
    (subst (λ (pages : PageMap). AreAlike pages (newest_map world)) (sym newest) rests.alike)
    (ap page_size_of newest ∙ alike_size rests.pages (newest_map world) rests.store rests.world_store rests.alike)

-- A run over an engine that is alone and rests at a world, and that counts no fault, is answered as the run over whole page maps.
pub rests_answered : (opened : Opening → Type 0) (old : EngineState) (maps : Pin → Option PageMap) (acts : List Act) (answers : List Told) (new : EngineState)
    (world : World) → old.alone ≡ true → AreInRange acts → RestsAt old world → (Rose old.faults new.faults → ⊥) → MindNoLogs old acts answers
    → Plays opened old maps [] acts answers new → answers ≡ answers_to world acts
unfolding resting
rests_answered opened old maps acts answers new world here range rests quiet minds plays =
    let own = resting old world rests.pages in
    let s = page_size_of rests.pages in
    plays_answered opened old maps [] acts answers new own here range (rests_stand old maps world rests)
    (λ k d within. absurd (omega arith)) quiet minds plays
    ∙ since_answers s (length old.history) own world acts range
    (out_may s own (count_last world.maps (length old.history) rests.pages (enough_maps old world rests))
    (subst (IsStore s) (sym (resting_newest old world rests)) (record { store = rests.store; size = refl })) rests.out)
    (rests_alike old world rests)

-- An engine to which nothing was committed yet rests at the world over any page store with its pages 2 to 16.
pub rests_over : (seen : EngineState) (own pages : PageMap) → seen.history ≡ [] → seen.newest ≡ Some own → seen.size ≡ 16
    → seen.page_size ≡ page_size_of own → seen.stopped ≡ None → IsPageStore own → IsPageStore pages → AreAlike own pages
    → RestsAt seen (world_over pages)
rests_over seen own pages history newest size page_size running own_store store alike = record {
  commits = ap length history;
  count = refl;
  pages = own;
  newest = newest;
  store = own_store;
  size = size;
  page_size = page_size;
  alike = alike;
  world_store = store;
  running = running;
  out = λ session. refl;
  none_begun = λ session. refl;
}

-- Two engines that are alone and rest at one world are answered alike, whatever each keeps beside it.
pub same_answers : (opened opened_too : Opening → Type 0) (one other : EngineState) (maps maps_too : Pin → Option PageMap) (acts : List Act)
    (answers answers_too : List Told) (one_then other_then : EngineState) (world : World) → one.alone ≡ true → other.alone ≡ true → AreInRange acts
    → RestsAt one world → RestsAt other world → (Rose one.faults one_then.faults → ⊥) → (Rose other.faults other_then.faults → ⊥)
    → MindNoLogs one acts answers → MindNoLogs other acts answers_too
    → Plays opened one maps [] acts answers one_then → Plays opened_too other maps_too [] acts answers_too other_then
    → answers ≡ answers_too
same_answers opened opened_too one other maps maps_too acts answers answers_too one_then other_then world here here_too range
    rests rests_too quiet quiet_too minds minds_too plays plays_too =
    rests_answered opened one maps acts answers one_then world here range rests quiet minds plays
    ∙ sym (rests_answered opened_too other maps_too acts answers_too other_then world here_too range rests_too quiet_too minds_too plays_too)
