use Rattle.std.proofs.Common.{◌≡◌, ◌≤◌, true, false, List, length, subst, sym, ◌∙◌, ap}
use Rattle.page_spec.specs.Header.{is_page_size}
use Rattle.std.specs.Prelude.{IfSome}
use Rattle.recover.specs.Seeing.{SeenView}
use Rattle.recover.specs.declared.place.Place.{Place}
use Rattle.recover.proofs.SeenFiles.{legal_size, whole_told, some_told, new_told, ours_told, migrated_told, NewSays, OursSays, MigratedSays}
use Rattle.recover.proofs.settling.settle_seen.Goals as goal

pub settle_new-requires-clause-size : goal.settle_new-requires-clause-size
settle_new-requires-clause-size g c = legal_size (length c.args.buf.now) (subst (λ n. is_page_size n ≡ true) (sym c.requires.room) c.requires.whole.page_size)

pub settle_ours-requires-clause-size : goal.settle_ours-requires-clause-size
settle_ours-requires-clause-size g c = legal_size (length c.args.buf.now) (subst (λ n. is_page_size n ≡ true) (sym c.requires.room) c.requires.whole.page_size)

pub settle_migrated-requires-clause-size : goal.settle_migrated-requires-clause-size
settle_migrated-requires-clause-size g c = legal_size (length c.args.buf.now) (subst (λ n. is_page_size n ≡ true) (sym c.requires.room) c.requires.whole.page_size)

pub settle_migrated-requires-clause-whole : goal.settle_migrated-requires-clause-whole
settle_migrated-requires-clause-whole g c none =
    whole_told (length c.args.buf.now) (length c.args.buf.now) (length c.deref-else-seen-2.result.now) c.args.seen.now _ c.requires.room
    (ap (λ (places : List Place). length places) (c.deref-else-seen-2.ensures.value ∙ ap (λ (s : SeenView). s.places) c.seen.view_is)) c.requires.seen
    (ap (λ (s : SeenView). s.some_frames) (sym c.seen.view_is) ∙ none)

pub returns-then-seen-clause-moments : goal.returns-then-seen-clause-moments
returns-then-seen-clause-moments g c view one two h of =
    let seen : SeenView = c.args.seen.now in
    let is = sym c.seen.view_is in
    new_told c.args.kind (length c.args.buf.now) (length c.args.buf.now) seen c.requires.whole c.settle_new.result c.requires.room _ _ (ap (λ (s : SeenView). s.is_new) is ∙ c.if-seen.true)
    (subst (λ (s : SeenView). NewSays c.args.kind s.one s.two (length c.args.buf.now) c.settle_new.result (g.D.DiskTells.told c.args.disk.now) (g.D.DiskTells.told c.settle_new.new.disk)) (sym is) c.settle_new.ensures.moments)
    c.requires.seen view one two h of

pub returns-then-seen-2-clause-moments : goal.returns-then-seen-2-clause-moments
returns-then-seen-2-clause-moments g c view one two h of =
    let seen : SeenView = c.args.seen.now in
    let is = sym c.seen.view_is in
    let there : seen.is_new ≡ false = ap (λ (s : SeenView). s.is_new) is ∙ c.if-seen.false in
    ours_told c.args.kind (length c.args.buf.now) (length c.args.buf.now) seen c.requires.whole c.settle_ours.result c.requires.room _ _ there (ap (λ (s : SeenView). s.is_ours) is ∙ c.if-seen-2.true) (c.requires.named there)
    (subst (λ (s : SeenView). OursSays s.one s.two s.places s.some_frames (length c.args.buf.now) c.settle_ours.result (g.D.DiskTells.told c.args.disk.now) (g.D.DiskTells.told c.settle_ours.new.disk)) (sym is)
    (subst (λ (places : List Place). OursSays c.seen.inside.one c.seen.inside.two places c.seen.inside.some_frames (length c.args.buf.now) c.settle_ours.result (g.D.DiskTells.told c.args.disk.now) (g.D.DiskTells.told c.settle_ours.new.disk)) c.deref.ensures.value c.settle_ours.ensures.moments))
    c.requires.seen view one two h of

pub returns-else-seen-2-clause-moments : goal.returns-else-seen-2-clause-moments
returns-else-seen-2-clause-moments g c view one two h of =
    let seen : SeenView = c.args.seen.now in
    let is = sym c.seen.view_is in
    let there : seen.is_new ≡ false = ap (λ (s : SeenView). s.is_new) is ∙ c.if-seen.false in
    migrated_told c.args.kind (length c.args.buf.now) (length c.args.buf.now) seen c.requires.whole c.settle_migrated.result c.requires.room _ _ there (ap (λ (s : SeenView). s.is_ours) is ∙ c.if-seen-2.false) (c.requires.named there)
    (subst (λ (s : SeenView). MigratedSays s.one s.two s.places s.some_frames (length c.args.buf.now) c.settle_migrated.result (g.D.DiskTells.told c.args.disk.now) (g.D.DiskTells.told c.settle_migrated.new.disk)) (sym is)
    (subst (λ (places : List Place). MigratedSays c.seen.inside.one c.seen.inside.two places c.seen.inside.some_frames (length c.args.buf.now) c.settle_migrated.result (g.D.DiskTells.told c.args.disk.now) (g.D.DiskTells.told c.settle_migrated.new.disk)) c.deref-else-seen-2.ensures.value c.settle_migrated.ensures.moments))
    c.requires.seen view one two h of

pub settle_migrated-requires-clause-some : goal.settle_migrated-requires-clause-some
settle_migrated-requires-clause-some g c =
    let is = sym c.seen.view_is in
    subst (λ (places : List Place). IfSome (g.D.DiskTells.told c.args.disk.now) (λ told. 1 ≤ length places)) (ap (λ (s : SeenView). s.places) is ∙ sym c.deref-else-seen-2.ensures.value)
    (some_told (length c.args.buf.now) c.args.seen.now _ (ap (λ (s : SeenView). s.is_new) is ∙ c.if-seen.false) c.requires.seen)
