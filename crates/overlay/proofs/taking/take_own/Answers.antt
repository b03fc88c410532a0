use Rattle.std.proofs.Common.{◌≡◌, ◌∙◌, ℕ, ◌≤◌, List, length, Ok, true, refl, sym, subst, ap, inl, inr, arith}
use Rattle.std.specs.Prelude.{is_some}
use Rattle.page_spec.specs.Bytes.{u32_at, DiffersOnlyWithin}
use Rattle.page_spec.specs.View.{View}
use Rattle.page_spec.proofs.BytesLaws.{u32_at-below, differs-trans}
use Rattle.engine_spec.specs.declared.pins.Pin.{Pin}
use Rattle.tree_spec.specs.Freelist.{IsFreelist}
use Rattle.overlay.specs.Overlay.{OverlayState, has_own_image, over_change, last_page, first_in_overlay}
use Rattle.overlay.specs.FreeNumbers.{trunk_field, count_field}
use Rattle.overlay.specs.Live.{MayBeRead, IsOfPin}
use Rattle.overlay.specs.Own.{ChangesOwn, HasTakenOwn}
use Rattle.overlay.proofs.Reading.{own_whole, over_own, read_page_size}
use Rattle.overlay.proofs.Writing.{size_from, over_first, has_first}
use Rattle.overlay.proofs.Taken.{written_back, took_one, took_none, names_taken, changes_first}
use Rattle.overlay.proofs.taking.take_own.Goals as goal

pub put_u32-requires : goal.put_u32-requires
put_u32-requires g c =
    let told = g.E.EngineTells in
    let own = c.args.own.now in
    let ready = c.requires.ready in
    let whole = own_whole own.overlay.now.change (told.state own.engine.now).page_size 1 c.args.first.items ready.whole c.requires.named.own in
    let least = size_from (told.state own.engine.now).page_size (told.legal own.engine.now ready.hold.0 ready.hold.1).0 in
    omega (arith, whole, least, ap length c.deref_mut.ensures.value)

pub put_u32-requires-in-Ok-Some : goal.put_u32-requires-in-Ok-Some
put_u32-requires-in-Ok-Some g c =
    let told = g.E.EngineTells in
    let own = c.args.own.now in
    let ready = c.requires.ready in
    let whole = own_whole own.overlay.now.change (told.state own.engine.now).page_size 1 c.args.first.items ready.whole c.requires.named.own in
    let least = size_from (told.state own.engine.now).page_size (told.legal own.engine.now ready.hold.0 ready.hold.1).0 in
    omega (arith, whole, least, ap length c.deref_mut.ensures.value, c.put_u32.ensures.others.same_length, ap length c.deref_mut-in-Ok-Some.ensures.value)

pub returns-in-Ok-Some-clause-taken : goal.returns-in-Ok-Some-clause-taken
returns-in-Ok-Some-clause-taken g c =
    let told = g.E.EngineTells in
    let own = c.args.own.now in
    let own_then = c.take.new.pages in
    let ready = c.requires.ready in
    let named = c.requires.named in
    let old = own.overlay.now in
    let mid = own_then.overlay.now in
    let free = c.args.free in
    let free_then = c.take.new.free in
    let first = c.args.first.items in
    let bytes = c.from_vec.result in
    let page = c.in-Ok-Some.page in
    let took = took_one page c.in-Ok-Some.field-0-is c.in-Ok-Some.ensures.taken in
    let edits = took.edits in
    let follows = edits.follows in
    let pin_is : own_then.pin.now ≡ own.pin.now = follows.0 in
    let told_then : (world : View) → MayBeRead (told.map_at own_then.engine.now own.pin.now) mid.reads world
    → MayBeRead (told.map_at own_then.engine.now own_then.pin.now) mid.reads world =
    λ world. subst (λ (p : Pin). MayBeRead (told.map_at own_then.engine.now p) mid.reads world) (sym pin_is) in
    let leaves : ChangesOwn told own.engine.now own.pin.now old own_then.engine.now mid = record {
      last = took.last;
      freed = follows.3;
      has = edits.has;
      reads = edits.reads;
      narrows = λ world may. edits.narrows world (told_then world may);
      ready = subst (λ (p : Pin). IsOfPin told own_then.engine.now p mid) pin_is edits.ready;
      still = follows.2;
      behind = follows.1;
    } in
    let some : 1 ≤ mid.change.base = subst (λ (n : ℕ). 1 ≤ n) (sym follows.2.base) named.base in
    let whole : length first ≡ (told.state own.engine.now).page_size =
    own_whole old.change (told.state own.engine.now).page_size 1 first ready.whole named.own in
    let one : DiffersOnlyWithin first c.put_u32.new.to 32 36 =
    subst (λ (l : List ℕ). DiffersOnlyWithin l c.put_u32.new.to 32 36) c.deref_mut.ensures.value c.put_u32.ensures.others in
    let len : length first ≡ c.args.first.len = sym c.args.first.ok.0 in
    let long : length c.put_u32.new.to ≡ c.args.first.len = one.same_length ∙ len in
    let back : c.deref_mut-in-Ok-Some.result.now ≡ c.put_u32.new.to =
    c.deref_mut-in-Ok-Some.ensures.value ∙ written_back first c.put_u32.new.to c.args.first.len long in
    let second : DiffersOnlyWithin c.put_u32.new.to c.put_u32-in-Ok-Some.new.to 36 40 =
    subst (λ (l : List ℕ). DiffersOnlyWithin l c.put_u32-in-Ok-Some.new.to 36 40) back c.put_u32-in-Ok-Some.ensures.others in
    let bytes_are : bytes ≡ c.put_u32-in-Ok-Some.new.to =
    c.from_vec.ensures ∙ written_back _ c.put_u32-in-Ok-Some.new.to c.args.first.len (second.same_length ∙ long) in
    let two : DiffersOnlyWithin c.put_u32.new.to bytes 36 40 = subst (λ (l : List ℕ). DiffersOnlyWithin c.put_u32.new.to l 36 40) (sym bytes_are) second in
    let trunk_then : u32_at bytes trunk_field ≡ free_then.trunk = u32_at-below two 32 (omega arith) ∙ c.put_u32.ensures.value in
    let count_then : u32_at bytes count_field ≡ free_then.count = ap (λ (l : List ℕ). u32_at l count_field) bytes_are ∙ c.put_u32-in-Ok-Some.ensures.value in
    let differs = differs-trans one two 32 40 (omega arith) (omega arith) (omega arith) (omega arith) in
    let whole_then : length bytes ≡ (told.state own_then.engine.now).page_size =
    differs.same_length ∙ (whole ∙ sym (read_page_size told own.engine.now own_then.engine.now follows.1)) in
    subst (λ (o : OverlayState). HasTakenOwn told own.engine.now own.pin.now old free.trunk (Ok page) own_then.engine.now o) (sym c.replace_first.ensures)
    (record {
      range = took.range;
      taken = λ world may.
          let may_then = told_then world may in
          names_taken (told.state own.engine.now).usable free.trunk page (over_change old.change world) (over_change mid.change world)
          (over_change (first_in_overlay mid bytes).change world) first bytes free free_then refl (sym (over_own old.change world 1 first named.own))
          (λ n. over_first mid bytes world n some) named.trunk named.count trunk_then count_then differs took.count
          (took.each world may_then)
          (took.list world may_then);
      cause = tt;
      exact = tt;
      back = tt;
      changed = λ number has. elim (has_first mid bytes number has) [
        | inl was ↦ took.has number was
        | inr is_first ↦ inl (subst (λ (n : ℕ). has_own_image old.change n ≡ true) (sym is_first) (ap is_some named.own))
      ];
      read = took.read;
      leaves = changes_first told own.engine.now own_then.engine.now own.pin.now old mid bytes whole_then leaves;
    })

pub returns-in-Err-clause-taken : goal.returns-in-Err-clause-taken
returns-in-Err-clause-taken g c =
    let told = g.E.EngineTells in
    let own = c.args.own.now in
    let own_then = c.take.new.pages in
    let named = c.requires.named in
    let old = own.overlay.now in
    let mid = own_then.overlay.now in
    let free = c.args.free in
    let first = c.args.first.items in
    let took = took_none c.in-Err.ensures.taken in
    let edits = took.edits in
    let follows = edits.follows in
    let pin_is : own_then.pin.now ≡ own.pin.now = follows.0 in
    let told_then : (world : View) → MayBeRead (told.map_at own_then.engine.now own.pin.now) mid.reads world
    → MayBeRead (told.map_at own_then.engine.now own_then.pin.now) mid.reads world =
    λ world. subst (λ (p : Pin). MayBeRead (told.map_at own_then.engine.now p) mid.reads world) (sym pin_is) in
    record {
      range = tt;
      taken = tt;
      cause = took.cause (told.state own.engine.now).page_size (omega (arith, named.low)) named.high;
      exact = λ world may list is. took.sound world (told_then world may) list
          (subst (λ (n : ℕ). IsFreelist (told.state own.engine.now).usable (last_page old.change) (over_change old.change world) n free.count list)
          (ap (λ (b : List ℕ). u32_at b trunk_field) (sym (over_own old.change world 1 first named.own)) ∙ named.trunk)
          (subst (λ (n : ℕ). IsFreelist (told.state own.engine.now).usable (last_page old.change) (over_change old.change world)
          (u32_at (over_change old.change world 1) trunk_field) n list)
          (ap (λ (b : List ℕ). u32_at b count_field) (sym (over_own old.change world 1 first named.own)) ∙ named.count) is));
      back = λ world may. took.each world (told_then world may);
      changed = λ number has. inl (sym (took.has number) ∙ has);
      read = took.read;
      leaves = record {
        last = took.last;
        freed = follows.3;
        has = edits.has;
        reads = edits.reads;
        narrows = λ world may. edits.narrows world (told_then world may);
        ready = subst (λ (p : Pin). IsOfPin told own_then.engine.now p mid) pin_is edits.ready;
        still = follows.2;
        behind = follows.1;
      };
    }
