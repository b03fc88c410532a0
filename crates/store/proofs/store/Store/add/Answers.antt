use Rattle.std.proofs.Common.{◌∙◌, ℕ, sym, ap, subst}
use Rattle.disk_face.specs.Faults.{Rose}
use Rattle.store.proofs.store.Store.add.Goals as goal
use Rattle.engine_spec.specs.Events.{IsClear}
use Rattle.engine_spec.specs.State.{EngineState}
use Rattle.page_face.specs.Prepared.{IsFit, submitted}
use Rattle.store.specs.declared.store.Store.{Store}
use Rattle.store.specs.CommittedFrom.{Before, CommittedFrom}
use Rattle.store.proofs.Resting.{rests_again, rests_planned, rests_laid, lives_on, state_same, before_same, no_memory, not_read}

pub returns-in-Err : goal.returns-in-Err
returns-in-Err g c pins pin live there fit =
    no_memory g.D.DiskTells g.W.Salts.loans c.args.readers.now c.args.self.now c.plan.new.self
    (rests_planned g.D.DiskTells g.W.Salts.loans c.args.self.now c.plan.new.self c.plan.ensures.kept c.plan.ensures.same c.plan.ensures.pages c.plan.ensures.bytes)
    g.M.Means pin c.args.prepared c.args.who live.able c.requires.clear
    (ap (λ (store : Store g.row.D.Denot g.row.W.Denot g.row.M.Denot). g.D.DiskTells.faults store.disk) c.plan.ensures.same)

pub lay-requires-clause-whole : goal.lay-requires-clause-whole
lay-requires-clause-whole g c =
    λ k d within. c.requires.live.4.whole k d within ∙ sym (ap (λ (store : Store g.row.D.Denot g.row.W.Denot g.row.M.Denot). store.page_size) c.plan.ensures.same)

pub write-requires-clause-live : goal.write-requires-clause-live
write-requires-clause-live g c = (
  c.requires.live.0,
  c.requires.live.1,
  lives_on g.D.DiskTells g.W.Salts.loans c.args.readers.now c.args.self.now c.lay.new.self
      (rests_again g.D.DiskTells g.W.Salts.loans c.args.self.now c.plan.new.self c.lay.new.self
      (rests_planned g.D.DiskTells g.W.Salts.loans c.args.self.now c.plan.new.self c.plan.ensures.kept c.plan.ensures.same c.plan.ensures.pages c.plan.ensures.bytes)
      (rests_laid g.D.DiskTells g.W.Salts.loans c.plan.new.self c.lay.new.self c.lay.ensures.same c.lay.ensures.size c.lay.ensures.stays))
      c.requires.live.0 c.requires.live.2,
  c.requires.live.3,
  subst (λ (state : EngineState). IsFit state c.requires.live.1 c.args.prepared) (sym (
      state_same g.D.DiskTells g.W.Salts.loans c.args.readers.now c.args.self.now c.lay.new.self
      (rests_again g.D.DiskTells g.W.Salts.loans c.args.self.now c.plan.new.self c.lay.new.self
      (rests_planned g.D.DiskTells g.W.Salts.loans c.args.self.now c.plan.new.self c.plan.ensures.kept c.plan.ensures.same c.plan.ensures.pages c.plan.ensures.bytes)
      (rests_laid g.D.DiskTells g.W.Salts.loans c.plan.new.self c.lay.new.self c.lay.ensures.same c.lay.ensures.size c.lay.ensures.stays))
      (c.in-Ok-lay.ensures.faults ∙ ap (λ (store : Store g.row.D.Denot g.row.W.Denot g.row.M.Denot). g.D.DiskTells.faults store.disk) c.plan.ensures.same)
      )) c.requires.live.4,
)

pub write-requires-clause-clear : goal.write-requires-clause-clear
write-requires-clause-clear g c =
    subst (λ (state : EngineState). IsClear state (submitted c.args.prepared c.args.who)) (sym (
    state_same g.D.DiskTells g.W.Salts.loans c.args.readers.now c.args.self.now c.lay.new.self
    (rests_again g.D.DiskTells g.W.Salts.loans c.args.self.now c.plan.new.self c.lay.new.self
    (rests_planned g.D.DiskTells g.W.Salts.loans c.args.self.now c.plan.new.self c.plan.ensures.kept c.plan.ensures.same c.plan.ensures.pages c.plan.ensures.bytes)
    (rests_laid g.D.DiskTells g.W.Salts.loans c.plan.new.self c.lay.new.self c.lay.ensures.same c.lay.ensures.size c.lay.ensures.stays))
    (c.in-Ok-lay.ensures.faults ∙ ap (λ (store : Store g.row.D.Denot g.row.W.Denot g.row.M.Denot). g.D.DiskTells.faults store.disk) c.plan.ensures.same)
    )) c.requires.clear

pub returns-in-Ok-lay : goal.returns-in-Ok-lay
returns-in-Ok-lay g c pins pin live there fit =
    let rests = rests_again g.D.DiskTells g.W.Salts.loans c.args.self.now c.plan.new.self c.lay.new.self
    (rests_planned g.D.DiskTells g.W.Salts.loans c.args.self.now c.plan.new.self c.plan.ensures.kept c.plan.ensures.same c.plan.ensures.pages c.plan.ensures.bytes)
    (rests_laid g.D.DiskTells g.W.Salts.loans c.plan.new.self c.lay.new.self c.lay.ensures.same c.lay.ensures.size c.lay.ensures.stays) in
    let faults = c.in-Ok-lay.ensures.faults ∙ ap (λ (store : Store g.row.D.Denot g.row.W.Denot g.row.M.Denot). g.D.DiskTells.faults store.disk) c.plan.ensures.same in
    subst (λ (before : Before). CommittedFrom g.D.DiskTells g.W.Salts.loans g.M.Means before c.args.readers.now pin c.args.prepared c.args.who c.write.result c.write.new.self)
    (before_same g.D.DiskTells g.W.Salts.loans c.args.readers.now c.args.self.now c.lay.new.self rests faults)
    (c.write.ensures pins pin (lives_on g.D.DiskTells g.W.Salts.loans c.args.readers.now c.args.self.now c.lay.new.self rests pins live) there
    (subst (λ (state : EngineState). IsFit state pin c.args.prepared) (sym (state_same g.D.DiskTells g.W.Salts.loans c.args.readers.now c.args.self.now c.lay.new.self rests faults)) fit))

pub returns-in-Err-lay : goal.returns-in-Err-lay
returns-in-Err-lay g c pins pin live there fit =
    not_read g.D.DiskTells g.W.Salts.loans c.args.readers.now c.args.self.now c.lay.new.self
    (rests_again g.D.DiskTells g.W.Salts.loans c.args.self.now c.plan.new.self c.lay.new.self
    (rests_planned g.D.DiskTells g.W.Salts.loans c.args.self.now c.plan.new.self c.plan.ensures.kept c.plan.ensures.same c.plan.ensures.pages c.plan.ensures.bytes)
    (rests_laid g.D.DiskTells g.W.Salts.loans c.plan.new.self c.lay.new.self c.lay.ensures.same c.lay.ensures.size c.lay.ensures.stays))
    g.M.Means pin c.args.prepared c.args.who live.able c.requires.clear
    (subst (λ (n : ℕ). Rose n (g.D.DiskTells.faults c.lay.new.self.disk)) (ap (λ (store : Store g.row.D.Denot g.row.W.Denot g.row.M.Denot). g.D.DiskTells.faults store.disk) c.plan.ensures.same) c.in-Err-lay.ensures.faults)
