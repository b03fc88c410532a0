use Rattle.std.proofs.Common.{◌+◌, ◌∙◌, true, false, List, ℕ, take, get_or, refl, sym, ap, subst, arith}
use Rattle.disk_face.proofs.Calls.{writes_twice}
use Rattle.engine_spec.specs.declared.commits.PageImage.{PageImage}
use Rattle.log_pair.specs.Pair.{current_file, current_header}
use Rattle.log_commit.specs.Commit.{IsCommitStep, no_image}
use Rattle.log_commit.specs.Pages.{images_of}
use Rattle.log_commit.specs.Appended.{HasAppended}
use Rattle.log_commit.proofs.Order.{one_image}
use Rattle.log_commit.proofs.Same.{same_refl, same_more}
use Rattle.log_commit.proofs.Steps.{goes_none, goes_more}
use Rattle.log_commit.proofs.Appending.{appended_none, appended_more, appended_again, fails_more}
use Rattle.log_commit.proofs.commit.append_pages.Goals as goal

pub loop-index-init : goal.loop-index-init
loop-index-init g c = record {
  within = omega arith;
  appended = appended_none c.args.pair.now (g.D.DiskTells.told c.args.disk.now);
  becomes = refl;
  counted = c.requires.sealed;
  reached = c.requires.reached;
  steps = goes_none (IsCommitStep (current_file c.args.pair.now) (current_header c.args.pair.now)) (g.D.DiskTells.told c.args.disk.now);
  elsewhere = same_refl (current_file c.args.pair.now) (g.D.DiskTells.told c.args.disk.now);
  stays = record { attached = refl; named = refl; journal_answer = refl; loans = refl };
  attached = c.requires.attached;
  faults = refl;
}

pub loop-index-preserved : goal.loop-index-preserved
loop-index-preserved g c =
    let i = c.loop-index.invariant in
    let e = c.in-Ok.ensures in
    let image : PageImage = get_or (images_of c.args.pages.now) c.loop-index.index no_image in
    let old = g.D.DiskTells.told c.args.disk.now in
    let mid = g.D.DiskTells.told c.loop-index.disk in
    let new = g.D.DiskTells.told c.append_page.new.disk in
    record {
      within = omega (arith, c.loop-index-test.true);
      appended = subst (λ (images : List PageImage). HasAppended c.args.pair.now c.append_page.new.pair images old new)
          (sym (one_image c.args.pages.now c.loop-index.index c.loop-index-test.true))
          (appended_more c.args.pair.now c.loop-index.pair c.append_page.new.pair (take c.loop-index.index (images_of c.args.pages.now)) image old mid new
          e.appends.0 i.becomes i.appended e.appends.1);
      becomes = appended_again c.args.pair.now c.loop-index.pair c.append_page.new.pair e.appends.0 i.becomes e.appends.1.becomes;
      counted = e.counted ∙ ap (λ (n : ℕ). n + 1) i.counted;
      reached = e.reached;
      steps = goes_more true c.args.pair.now c.loop-index.pair c.append_page.new.pair image 0 old mid new i.becomes i.steps e.appends;
      elsewhere = same_more true c.args.pair.now c.loop-index.pair c.append_page.new.pair image 0 old mid new i.becomes i.elsewhere e.appends;
      stays = writes_twice g.D.DiskTells c.args.disk.now c.loop-index.disk c.append_page.new.disk i.stays e.stays;
      attached = e.stays.attached ∙ i.attached;
      faults = e.faults ∙ i.faults;
    }

pub returns-in-Err-clause-fails : goal.returns-in-Err-clause-fails
returns-in-Err-clause-fails g c =
    let i = c.loop-index.invariant in
    let e = c.in-Err.ensures in
    fails_more c.args.pair.now c.loop-index.pair c.append_page.new.pair (take c.loop-index.index (images_of c.args.pages.now))
    (get_or (images_of c.args.pages.now) c.loop-index.index no_image) (g.D.DiskTells.told c.args.disk.now) (g.D.DiskTells.told c.loop-index.disk)
    (g.D.DiskTells.told c.append_page.new.disk) e.appends.0 i.becomes i.appended e.appends.1

pub returns-in-Err-clause-steps : goal.returns-in-Err-clause-steps
returns-in-Err-clause-steps g c =
    let i = c.loop-index.invariant in
    goes_more false c.args.pair.now c.loop-index.pair c.append_page.new.pair (get_or (images_of c.args.pages.now) c.loop-index.index no_image) 0
    (g.D.DiskTells.told c.args.disk.now) (g.D.DiskTells.told c.loop-index.disk) (g.D.DiskTells.told c.append_page.new.disk) i.becomes i.steps c.in-Err.ensures.appends

pub returns-in-Err-clause-elsewhere : goal.returns-in-Err-clause-elsewhere
returns-in-Err-clause-elsewhere g c =
    let i = c.loop-index.invariant in
    same_more false c.args.pair.now c.loop-index.pair c.append_page.new.pair (get_or (images_of c.args.pages.now) c.loop-index.index no_image) 0
    (g.D.DiskTells.told c.args.disk.now) (g.D.DiskTells.told c.loop-index.disk) (g.D.DiskTells.told c.append_page.new.disk) i.becomes i.elsewhere c.in-Err.ensures.appends
