use Rattle.std.proofs.Common.{refl}
use Rattle.page_face.proofs.EngineCalls.{reads_only, refused_so, answered_so}
use Rattle.memory_engine.specs.contracts.plain.PlainEngineTells.TheImpl.{ghosts}
use Rattle.memory_engine.proofs.PlainCommits.{may_add}
use Rattle.memory_engine.proofs.CommitKeeps.{is_clear, bars_refuses, laid_on, match_added, pins_added, runs_added, runs_more}
use Rattle.memory_engine.proofs.plain.PlainEngine.commit.Goals as goal

pub returns-then-not-prepared : goal.returns-then-not-prepared
returns-then-not-prepared g c =
    reads_only g.M.Means (ghosts g.row.M g.M.Means g.M.Means-dict) c.args.self.now c.args.pin.now c.args.prepared c.args.who
    c.if-not-prepared.true

pub bar-requires : goal.bar-requires
bar-requires g c = record { add = may_add c.args.self.now c.args.pin.now c.args.prepared c.requires.live c.requires.fit }

pub add-requires : goal.add-requires
add-requires g c = record { add = may_add c.args.self.now c.args.pin.now c.args.prepared c.requires.live c.requires.fit }

pub returns-in-Some : goal.returns-in-Some
returns-in-Some g c =
    refused_so g.M.Means (ghosts g.row.M g.M.Means g.M.Means-dict) c.args.self.now c.args.pin.now c.args.prepared c.args.who c.in-Some.fault
    (bars_refuses (λ opening. Unit {0}) _ c.args.self.now c.args.prepared c.args.who c.in-Some.fault
    c.if-not-prepared.false c.in-Some.ensures)

pub returns-in-None : goal.returns-in-None
returns-in-None g c =
    let told = ghosts g.row.M g.M.Means g.M.Means-dict in
    let plain = c.args.self.now in
    let pin = c.args.pin.now in
    let prepared = c.args.prepared in
    let may = may_add plain pin prepared c.requires.live c.requires.fit in
    let pins = pins_added plain prepared c.args.who may c.add.result c.add.new.self c.add.ensures in
    let clear = is_clear plain prepared c.args.who c.if-not-prepared.false c.in-None.ensures in
    record {
      answer = answered_so g.M.Means told plain pin prepared c.args.who c.add.result c.add.new.self
          (match_added g.M.Means told (λ opening. Unit {0}) _ plain pin prepared c.args.who may clear
          (λ first runs. laid_on (g.M.Means.sound first) (g.M.Means.leads first) first plain pin prepared c.requires.live c.requires.fit
          c.in-None.ensures runs)
          c.add.result c.add.new.self c.add.ensures);
      runs = runs_added g.M.Means told plain pin prepared c.args.who
          (λ first runs good. runs_more (g.M.Means.sound first) g.M.Means.leads first
          (λ before between after some others one two. g.M.Means.joins first before between after some others one two)
          plain pin prepared c.args.who c.requires.live c.requires.fit clear good runs)
          c.add.result c.add.new.self c.add.ensures;
      stays = record {
        pins = record { hold = pins.hold; maps = pins.maps };
        may_begin = λ may. may;
        opened = λ opening opened. opened;
        loans = refl;
      };
    }
