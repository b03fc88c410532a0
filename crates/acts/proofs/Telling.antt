-- What an engine tells after its own calls, where it is alone.
use Rattle.std.proofs.Common.{◌≡◌, ◌∙◌, ℕ, ◌+◌, ◌*◌, ◌<◌, ◌≤◌, List, [], ◌∷◌, ◌++◌, length, map, refl, sym, ap, subst, inl, inr, arith, rules, get_or, length-append, eqb, eqb-true, true, false, Bool, cond, ◌&&◌, is_some}
use Rattle.std.specs.Prelude.{Option, Some, None, Contains, All}
use Rattle.std.specs.Option.{option_map}
use Rattle.std.specs.List.{IsDistinct, list_any}
use Rattle.std.proofs.lemmas.Bool.{ne_eqb}
use Rattle.std.proofs.lemmas.Grind.{get_or_default_zero}
use Rattle.std.proofs.lemmas.Map.Keys.{IsDistinct-from_apart}
use Rattle.std.proofs.lemmas.Map.Steps.{length-le_from_distinct_below}
use Rattle.std.proofs.lemmas.Map.Views.{Contains-from_any}
use Rattle.std.proofs.lemmas.List.{get_or_append_left, length-map, get_or-map}
use Rattle.std.proofs.lemmas.List.Elements.{All-contains, All-from_recursion}
use Rattle.std.proofs.Math.Seq.{get_or-append_seam}
use Rattle.disk_face.specs.Faults.{Rose}
use Rattle.page_spec.specs.PageMap.{PageMap, page_size_of, page_sizes}
use Rattle.engine_spec.specs.declared.pins.Pin.{Pin}
use Rattle.engine_spec.specs.declared.commits.PageImage.{PageImage}
use Rattle.engine_spec.specs.Change.{Change, laid}
use Rattle.engine_spec.specs.declared.commits.Commit.{Commit}
use Rattle.engine_spec.specs.declared.pins.Lock.{Lock}
use Rattle.engine_spec.specs.declared.pins.Readers.{Readers}
use Rattle.engine_spec.specs.TwoLogs.{TwoLogs, change_readers}
use Rattle.disk_face.specs.Steps.{History}
use Rattle.page_spec.specs.Header.{database_limit}
use Rattle.page_lines.specs.PageLines.{AreImages, IsPageStore}
use Rattle.engine_spec.specs.State.{EngineState}
use Rattle.engine_spec.specs.Events.{IsOver, pages_after, frames_after, with_readers}
use Rattle.engine_spec.proofs.Laying.{laid-page_size}
use Rattle.page_lines.proofs.GoodLines.{lines_whole, laid-store}
use Rattle.engine_spec.proofs.Laying.{legal_size}
use Rattle.acts.specs.Standing.{TellsMaps, PinStands}

-- where nothing but the faults, the logs, their readers and the disk's past changed, all stays
pub tells_as : (old new : EngineState) (maps : List PageMap) (history : List Commit) (faults : ℕ) (logs : Option TwoLogs) (readers : Readers)
    (disk : Option History) → new ≡ record old { faults = faults; logs = logs; readers = readers; disk = disk }
    → TellsMaps old maps history → TellsMaps new maps history
tells_as old new maps history faults logs readers disk is tells = subst (λ (s : EngineState). TellsMaps s maps history) (sym is) (record {
  history_is = tells.history_is;
  newest = tells.newest;
  store = tells.store;
  size = tells.size;
  page_size = tells.page_size;
  running = tells.running;
  count = tells.count;
})

-- where the readers of the logs changed, if there are some, all stays
pub tells_readers : (old new : EngineState) (maps : List PageMap) (history : List Commit) (change : ℕ → ℕ) (lock : Lock)
    → new ≡ with_readers change lock old → TellsMaps old maps history → TellsMaps new maps history
tells_readers old new maps history change lock is tells =
    subst (λ (s : EngineState). TellsMaps s maps history) (sym is) (by_test (old.always_begins && is_some old.logs))
  where
    by_test : (test : Bool) → TellsMaps (cond test (record old { readers = change_readers change old.readers lock }) old) maps history
    by_test true = tells_as old _ maps history old.faults old.logs (change_readers change old.readers lock) old.disk refl tells
    by_test false = tells

-- a count of no faults didn't rise
pub never_rose : (before after : ℕ) → before ≡ 0 → after ≡ 0 → Rose before after → ⊥
never_rose before after old new rose = elim (rose.counted) [ inl more ↦ absurd (omega arith) | inr last ↦ absurd (omega arith) ]

-- a list of maps and one with the same maps at its front
pub record Extends (maps after : List PageMap) : Type 0 where
  pub longer : length maps ≤ length after
  pub same : (n : ℕ) → n < length maps → get_or after n [] ≡ get_or maps n []

pub extends_same : (maps : List PageMap) → Extends maps maps
extends_same maps = record { longer = omega arith; same = λ n within. refl }

pub extends_push : (maps : List PageMap) (pages : PageMap) → Extends maps (maps ++ pages ∷ [])
extends_push maps pages = record {
  longer = omega (arith, length-append maps (pages ∷ []));
  same = λ n within. get_or_append_left maps (pages ∷ []) [] n within;
}

-- a pin that stands does so with more maps
pub pin_keeps : (map_before map_after : Pin → Option PageMap) (maps after : List PageMap) (pin : Pin) → Extends maps after
    → map_after pin ≡ map_before pin → PinStands map_before maps pin → PinStands map_after after pin
pin_keeps map_before map_after maps after pin extends same stands = record {
  n = omega (arith, extends.longer, stands.n);
  size = stands.size ∙ ap length (sym (extends.same pin.n stands.n));
  map = same ∙ stands.map ∙ ap Some (sym (extends.same pin.n stands.n));
}

-- the last of the maps once there is one commit more
newest_pushed : (maps : List PageMap) (pages : PageMap) (history : List Commit) (commit : Commit) → length maps ≡ length history + 1
    → get_or (maps ++ pages ∷ []) (length (history ++ commit ∷ [])) [] ≡ pages
newest_pushed maps pages history commit count =
    let at : length (history ++ commit ∷ []) ≡ length maps = omega (arith, length-append history (commit ∷ [])) in
    ap (λ (k : ℕ). get_or (maps ++ pages ∷ []) k []) at ∙ get_or-append_seam maps pages [] []

-- laying a change of page lines keeps the page size of a page store
laid_size : (pages : PageMap) (change : Change) → change.fresh ≡ [] → AreImages (page_size_of pages) change.changed → IsPageStore pages
    → page_size_of (laid pages change) ≡ page_size_of pages
laid_size pages change none images store =
    let size : 100 ≤ page_size_of pages = omega (arith, legal_size (page_size_of pages) store.size) in
    let count : length pages ≡ 16 = store.count in
    laid-page_size pages change 16 (page_size_of pages) size (lines_whole change (page_size_of pages) images none)
    (omega arith) (omega arith) store.each

-- once a change is committed, the engine tells of one map and one commit more
pub tells_more : (old new : EngineState) (maps : List PageMap) (history : List Commit) (change : Change) (commit : Commit)
    → change.fresh ≡ [] → change.tail ≡ false → AreImages old.page_size change.changed
    → new.history ≡ old.history ++ commit ∷ [] → new.newest ≡ option_map (λ (pages : PageMap). laid pages change) old.newest
    → new.size ≡ pages_after old change → new.page_size ≡ old.page_size → new.stopped ≡ old.stopped → TellsMaps old maps history
    → TellsMaps new (maps ++ laid (get_or maps (length history) []) change ∷ []) (history ++ commit ∷ [])
tells_more old new maps history change commit fresh tail images is_history is_newest is_size is_page_size is_stopped tells =
    let newest = get_or maps (length history) [] in
    let next = laid newest change in
    let there : get_or (maps ++ next ∷ []) (length (history ++ commit ∷ [])) [] ≡ next =
    newest_pushed maps next history commit tells.count in
    let whole : AreImages (page_size_of newest) change.changed = subst (λ (s : ℕ). AreImages s change.changed) tells.page_size images in
    let size : page_size_of next ≡ page_size_of newest = laid_size newest change fresh whole tells.store in
    record {
      history_is = is_history ∙ ap (λ (commits : List Commit). commits ++ commit ∷ []) tells.history_is;
      newest = is_newest ∙ ap (option_map (λ (pages : PageMap). laid pages change)) tells.newest ∙ ap Some (sym there);
      store = subst IsPageStore (sym there) (laid-store newest change fresh tail whole tells.store);
      size = omega (arith, is_size, tells.size, ap length fresh);
      page_size = is_page_size ∙ tells.page_size ∙ sym size ∙ ap page_size_of (sym there);
      running = is_stopped ∙ tells.running;
      count = omega (arith, tells.count, length-append maps (next ∷ []), length-append history (commit ∷ []));
    }

-- each legal page size is at most 65536 bytes
most_size : (s : ℕ) → Contains page_sizes s → s ≤ 65536
most_size s there =
    All-contains (λ (size : ℕ). size ≤ 65536) page_sizes s (All-from_recursion (λ (size : ℕ). size ≤ 65536) page_sizes (search rules)) there

-- images of page lines are few
few_images : (s : ℕ) (images : List PageImage) → AreImages s images → length images ≤ 17
few_images s images are =
    let pages = map (λ (image : PageImage). image.page) images in
    let count : length pages ≡ length images = length-map images (λ (image : PageImage). image.page) in
    let distinct : IsDistinct eqb pages =
    IsDistinct-from_apart eqb pages (λ i j d below within.
    let one : get_or pages i d ≡ get_or pages i 0 = get_or_default_zero pages i d (omega arith) in
    let other : get_or pages j d ≡ get_or pages j 0 = get_or_default_zero pages j d within in
    ne_eqb (get_or pages i d) (get_or pages j d) (λ e. are.different i j below within (sym one ∙ e ∙ other))) in
    let low : (q : ℕ) → list_any (eqb q) pages ≡ true → q < 17 = λ q found.
    below_all images are.in_range q (Contains-from_any (λ x y e. eqb-true x y e) q pages found) in
    omega (arith, count, length-le_from_distinct_below pages 17 distinct low)
  where
    below_all : (images : List PageImage) → All (λ (image : PageImage). (2 ≤ image.page) × (image.page ≤ 16)) images → (q : ℕ)
        → Contains (map (λ (image : PageImage). image.page) images) q → q < 17
    below_all images in_range q there =
        let within : there.0 < length images = omega (arith, there.1, length-map images (λ (image : PageImage). image.page)) in
        let d : PageImage = record { page = 0; bytes = [] } in
        let one : (get_or images there.0 d).page ≤ 16 = (in_range there.0 d within).1 in
        let is : get_or (map (λ (image : PageImage). image.page) images) there.0 q ≡ (get_or images there.0 d).page =
        get_or-map (λ (image : PageImage). image.page) images there.0 d q within in
        let at : q ≡ (get_or images there.0 d).page = sym there.2 ∙ is in
        omega arith

-- a change of page lines doesn't make the database too large
pub pages_fit : (seen : EngineState) (maps : List PageMap) (history : List Commit) (change : Change) → TellsMaps seen maps history
    → change.fresh ≡ [] → database_limit < pages_after seen change * seen.page_size → ⊥
pages_fit seen maps history change tells fresh pages =
    let count : pages_after seen change ≡ 16 = omega (arith, tells.size, ap length fresh) in
    let many : database_limit < 16 * seen.page_size = subst (λ (n : ℕ). database_limit < n * seen.page_size) count pages in
    let most : seen.page_size ≤ 65536 =
    subst (λ (s : ℕ). s ≤ 65536) (sym tells.page_size) (most_size (page_size_of (get_or maps (length history) [])) tells.store.size) in
    omega arith

-- where there are no logs, a change of page lines passes no limit
pub not_over : (seen : EngineState) (maps : List PageMap) (history : List Commit) (change : Change) → TellsMaps seen maps history
    → seen.logs ≡ None → change.fresh ≡ [] → change.freed ≡ [] → AreImages seen.page_size change.changed → IsOver seen change → ⊥
not_over seen maps history change tells no_logs fresh freed images over = elim over [
  | inl pages ↦ pages_fit seen maps history change tells fresh pages
  | inr frames ↦
      (let none : frames_after seen change ≡ 0 + length change.changed + length change.fresh + length change.freed + 2 = rw no_logs refl in
      omega (arith, none, ap length fresh, ap length freed, few_images seen.page_size change.changed images))
]
