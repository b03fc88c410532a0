use Rattle.std.proofs.Common.{◌≡◌, ◌+◌, ◌++◌, ◌∷◌, [], List, ℕ, length, refl, ◌∙◌, ap, arith, length-append}
use Rattle.disk_face.specs.Files.{content}
use Rattle.disk_face.specs.Steps.{reads, History}
use Rattle.wal_frames.specs.Front.{words_of}
use Rattle.std.specs.Prelude.{vec_len}
use Rattle.wal_frames.specs.declared.header.Front.TheVariants.{Ours}
use Rattle.wal_frames.specs.declared.found.Accepted.{Accepted}
use Rattle.wal_frames.specs.Found.{FindsFrames}
use Rattle.wal_frames.proofs.Pieces.{if_some_2}
use Rattle.wal_frames.proofs.Knows.{Knows, knows_more, knows_commit, found_at_end}
use Rattle.disk_face.proofs.Calls.{reads_twice}
use Rattle.wal_frames.proofs.Kept.{keeps_more, keeps_commit, legal_found}
use Rattle.wal_frames.proofs.scan.scan.Goals as goal

counted : (count long : ℕ) (now was : List ℕ) (page : ℕ) → count ≡ long → long ≡ length now → now ≡ was ++ page ∷ [] → count ≡ length was + 1
counted count long now was page c l n = omega (arith, c, l, ap (λ (xs : List ℕ). length xs) n, length-append was (page ∷ []))

pub loop-pages-preserved : goal.loop-pages-preserved
loop-pages-preserved g c =
    let loop = c.loop-pages in
    let tells = rw (loop.invariant.stays.told, c.in-Some.is) at c.in_ok-frame.ensures.frame in
    let room = rw c.in-Some.is at c.in_ok-frame.ensures.room in
    record {
      within = omega (arith, room, c.frame_size-frame_size.ensures.value);
      attached = c.next_frame.ensures.stays.attached ∙ loop.invariant.attached;
      stays = reads_twice g.D.DiskTells c.args.disk.now loop.disk c.next_frame.new.disk loop.invariant.stays c.next_frame.ensures.stays;
      faults = c.in_ok-frame.ensures.faults ∙ loop.invariant.faults;
      kept =
          rw c.in_ok-add_page.ensures.ok
          (keeps_more loop.pages.items loop.kept loop.kept_size (words_of loop.kept_sum) (words_of c.args.header.now.sum) c.in-Some.frame.page (rw c.in-Some.is at c.in_ok-frame.ensures.numbered) loop.invariant.kept);
      scanned =
          rw (c.frame_size-frame_size.ensures.value, c.in_ok-add_page.ensures.ok)
          (if_some_2 _ _
          (λ (told : History). Knows (content (reads told) c.args.file) c.args.header.now (loop.at + (24 + c.args.header.now.page_size))
          (words_of c.in-Some.frame.sum) loop.kept loop.kept_size (words_of loop.kept_sum) (loop.pages.items ++ c.in-Some.frame.page ∷ []))
          (λ told knew next. knows_more (content (reads told) c.args.file) c.args.header.now loop.at (words_of loop.sum) loop.kept loop.kept_size (words_of loop.kept_sum) loop.pages.items c.in-Some.frame knew next c.if-frame-ne0.false)
          (g.D.DiskTells.told c.args.disk.now) loop.invariant.scanned tells);
    }

pub loop-pages-preserved-then-frame-ne0 : goal.loop-pages-preserved-then-frame-ne0
loop-pages-preserved-then-frame-ne0 g c =
    let loop = c.loop-pages in
    let tells = rw (loop.invariant.stays.told, c.in-Some.is) at c.in_ok-frame.ensures.frame in
    let room = rw c.in-Some.is at c.in_ok-frame.ensures.room in
    let count : c.len-kept.result ≡ length loop.pages.items + 1 = counted c.len-kept.result (vec_len c.add_page.new.pages) c.add_page.new.pages.items loop.pages.items c.in-Some.frame.page
    c.len-kept.ensures (omega (arith, c.add_page.new.pages.ok.0)) c.in_ok-add_page.ensures.ok in
    record {
      within = omega (arith, room, c.frame_size-frame_size.ensures.value);
      attached = c.next_frame.ensures.stays.attached ∙ loop.invariant.attached;
      stays = reads_twice g.D.DiskTells c.args.disk.now loop.disk c.next_frame.new.disk loop.invariant.stays c.next_frame.ensures.stays;
      faults = c.in_ok-frame.ensures.faults ∙ loop.invariant.faults;
      kept =
          rw c.in_ok-add_page.ensures.ok
          (keeps_commit loop.pages.items loop.kept loop.kept_size (words_of loop.kept_sum) (words_of c.args.header.now.sum) c.in-Some.frame.page c.len-kept.result c.in-Some.frame.size (words_of c.in-Some.frame.sum)
          (rw c.in-Some.is at c.in_ok-frame.ensures.numbered) c.if-frame-ne0.true count loop.invariant.kept);
      scanned =
          rw (c.frame_size-frame_size.ensures.value, c.in_ok-add_page.ensures.ok)
          (if_some_2 _ _
          (λ (told : History). Knows (content (reads told) c.args.file) c.args.header.now (loop.at + (24 + c.args.header.now.page_size))
          (words_of c.in-Some.frame.sum) c.len-kept.result c.in-Some.frame.size (words_of c.in-Some.frame.sum) (loop.pages.items ++ c.in-Some.frame.page ∷ []))
          (λ told knew next. knows_commit (content (reads told) c.args.file) c.args.header.now loop.at (words_of loop.sum) loop.kept loop.kept_size (words_of loop.kept_sum) loop.pages.items c.in-Some.frame c.len-kept.result knew next c.if-frame-ne0.true count)
          (g.D.DiskTells.told c.args.disk.now) loop.invariant.scanned tells);
    }

pub returns-clause-found : goal.returns-clause-found
returns-clause-found g c =
    let loop = c.loop-pages in
    let found : Accepted = record { front = Ours c.args.header.now; pages = c.truncate.new.self; size = loop.kept_size; sum = loop.kept_sum } in
    let none = rw (loop.invariant.stays.told, c.in_default.is) at c.in_ok-frame.ensures.frame in
    if_some_2 _ _
    (λ (told : History). FindsFrames c.args.header.now (content (reads told) c.args.file) found)
    (λ told knew stops. found_at_end (content (reads told) c.args.file) c.args.header.now loop.at (words_of loop.sum) loop.kept loop.kept_size (words_of loop.kept_sum)
    loop.pages.items found knew stops c.truncate.ensures.items refl refl)
    (g.D.DiskTells.told c.args.disk.now) loop.invariant.scanned none

pub returns-clause-legal : goal.returns-clause-legal
returns-clause-legal g c log legal =
    let loop = c.loop-pages in
    let found : Accepted = record { front = Ours c.args.header.now; pages = c.truncate.new.self; size = loop.kept_size; sum = loop.kept_sum } in
    legal_found log c.args.header.now loop.pages.items loop.kept loop.kept_size found legal loop.invariant.kept refl c.truncate.ensures.items refl
