use Rattle.std.proofs.Common.{◌∷◌, ℕ, List, length, inl, refl, ap, arith}
use Rattle.recover.proofs.SeenFiles.{legal_size}
use Rattle.recover.proofs.RecoveredPages.{inside_told, read_told, still_looked, same_pages}
use Rattle.recover.proofs.recovered.RecoveredPages.fetch.Goals as goal

pub read_place-requires-clause-small : goal.read_place-requires-clause-small
read_place-requires-clause-small g c =
    let fits = legal_size c.args.self.now.seen.now.page_size c.requires.ready.whole.page_size in
    omega (arith, fits.1, c.requires.room)

pub read_place-requires-clause-inside : goal.read_place-requires-clause-inside
read_place-requires-clause-inside g c =
    inside_told g.D.DiskTells c.args.self.now.disk.now c.args.self.now.seen.now c.requires.ready c.args.page c.requires.page.0 c.requires.page.1 c.place_of-place.result
    (c.place_of-place.ensures c.place_of-place.result) (length c.args.buf.now) c.requires.room

pub returns-in-Ok : goal.returns-in-Ok
returns-in-Ok g c =
    let tells = g.D.DiskTells in
    let disk = c.args.self.now.disk in
    let seen = c.args.self.now.seen.now in
    let stays = c.in-Ok.ensures.stays in
    record {
      page_is = λ world view.
          read_told tells disk.now seen c.requires.ready c.args.page c.requires.page.0 c.requires.page.1 c.place_of-place.result (c.place_of-place.ensures c.place_of-place.result)
          (length c.args.buf.now) c.read_place.new.bytes c.read_place.new.disk world c.requires.room (omega arith) c.in-Ok.ensures.bytes stays view;
      read = refl;
      unread = tt;
      cause = tt;
      reading = record {
        each = λ world view. record {
          each = λ number. refl;
          list = record { stay = λ number free. free; none_more = λ number free. free; neat = λ neat. neat; spare = λ spare. spare; no_more_spare = λ spare. spare };
        };
        last = refl;
        has = λ number. refl;
        edits = record {
          narrows = λ world view. same_pages tells disk.now c.read_place.new.disk world stays view;
          last = omega arith;
          has = λ number has. has;
          reads = λ number read. read;
          ready = still_looked tells disk.now c.read_place.new.disk seen stays c.requires.ready;
          page_size = refl;
          usable = refl;
          faults = omega (arith, c.in-Ok.ensures.faults);
          loans = ap (λ (names : List ℕ). disk.ghost_name ∷ names) stays.loans;
          follows = record {
            seen = refl;
            stays = stays;
            counts = record { later = omega (arith, c.in-Ok.ensures.faults); none = λ is. (is, c.in-Ok.ensures.faults); some = λ is. inl is };
          };
        };
      };
    }
