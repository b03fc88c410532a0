use Rattle.std.proofs.Common.{◌≡◌, ◌∙◌, ℕ, ◌+◌, ◌*◌, ◌≤◌, length, refl, sym, ap, subst, inl, inr, arith, get_or, Some, None}
use Rattle.page_spec.specs.Header.{database_limit}
use Rattle.engine_spec.specs.TwoLogs.{frame_limit}
use Rattle.engine_spec.specs.History.{conflict}
use Rattle.engine_spec.proofs.Conflicts.{no_conflict, is_conflict}
use Rattle.memory_engine.specs.Plain.{PlainState, newest_of}
use Rattle.memory_engine.proofs.PlainPins.{newest_is}
use Rattle.memory_engine.proofs.PlainCommits.{is_free, pages_are, frames_are}
use Rattle.memory_engine.proofs.plain.Plain.bar.Goals as goal

pub returns-in-Some : goal.returns-in-Some
returns-in-Some g c =
    let history = ap (λ (s : PlainState). s.history) c.self.view_is in
    let found : conflict c.args.prepared.now.mode c.args.prepared.now.reads c.args.prepared.now.snap c.args.self.now.history
    ≡ Some (c.in-Some.page, c.in-Some.commit) =
    cc (c.find_conflict-found.ensures, c.in-Some.is, c.pages.ensures, c.as_slice.ensures.value, history) in
    is_conflict c.args.prepared.now.mode c.args.prepared.now.reads c.args.prepared.now.snap c.args.self.now.history
    c.in-Some.page c.in-Some.commit found

pub returns-then-is_over : goal.returns-then-is_over
returns-then-is_over g c =
    let history = ap (λ (s : PlainState). s.history) c.self.view_is in
    let none : conflict c.args.prepared.now.mode c.args.prepared.now.reads c.args.prepared.now.snap c.args.self.now.history ≡ None =
    cc (c.find_conflict-found.ensures, c.in_default.is, c.pages.ensures, c.as_slice.ensures.value, history) in
    let number : c.len.result ≡ length c.args.self.now.history =
    omega (arith, c.len.ensures, c.self.inside.history.ok.0, ap length history) in
    let newest : c.index.result.now ≡ newest_of c.args.self.now =
    newest_is c.args.self.now c.len.result c.index.result.now c.requires.add.whole number
    (c.index.ensures ∙ ap (λ (s : PlainState). get_or s.maps c.len.result c.index.result.now) c.self.view_is) in
    let pages : c.len-pages.result ≡ length (newest_of c.args.self.now) = c.len-pages.ensures ∙ ap length newest in
    let size : c.self.inside.page_size ≡ c.args.self.now.page_size = ap (λ (s : PlainState). s.page_size) c.self.view_is in
    let are = pages_are c.args.self.now c.args.prepared.now c.requires.add in
    let frames = frames_are c.args.self.now c.args.prepared.now c.requires.add in
    let count : length c.as_slice-2.result.now ≡ length c.args.prepared.now.changed = ap length c.as_slice-2.ensures in (
      no_conflict c.args.prepared.now.mode c.args.prepared.now.reads c.args.prepared.now.snap c.args.self.now.history none,
      elim (c.if-is_over.ensures.over refl) [
        | inl large ↦ inl (rw are (rw (← pages, ← size) large))
        | inr long ↦ inr (omega (arith, count, frames, long))
      ],
      pages ∙ sym are,
      omega (arith, count, frames),
    )

pub returns : goal.returns
returns g c =
    let history = ap (λ (s : PlainState). s.history) c.self.view_is in
    let none : conflict c.args.prepared.now.mode c.args.prepared.now.reads c.args.prepared.now.snap c.args.self.now.history ≡ None =
    cc (c.find_conflict-found.ensures, c.in_default.is, c.pages.ensures, c.as_slice.ensures.value, history) in
    let number : c.len.result ≡ length c.args.self.now.history =
    omega (arith, c.len.ensures, c.self.inside.history.ok.0, ap length history) in
    let newest : c.index.result.now ≡ newest_of c.args.self.now =
    newest_is c.args.self.now c.len.result c.index.result.now c.requires.add.whole number
    (c.index.ensures ∙ ap (λ (s : PlainState). get_or s.maps c.len.result c.index.result.now) c.self.view_is) in
    let pages : c.len-pages.result ≡ length (newest_of c.args.self.now) = c.len-pages.ensures ∙ ap length newest in
    let size : c.self.inside.page_size ≡ c.args.self.now.page_size = ap (λ (s : PlainState). s.page_size) c.self.view_is in
    let count : length c.as_slice-2.result.now + 2 ≡ length c.args.prepared.now.changed + 2 =
    omega (arith, ap length c.as_slice-2.ensures) in
    let within : (c.len-pages.result * c.self.inside.page_size ≤ database_limit) × (length c.as_slice-2.result.now + 2 ≤ frame_limit) =
    c.if-is_over.ensures.within refl in
    is_free c.args.self.now c.args.prepared.now c.len-pages.result (length c.as_slice-2.result.now + 2) c.requires.add
    none pages count
    (subst (λ (s : ℕ). c.len-pages.result * s ≤ database_limit) size within.0) within.1
