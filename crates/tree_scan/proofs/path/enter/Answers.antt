use Rattle.std.proofs.Common.{◌≡◌, Bool, true, false, List, [], ◌∷◌, ◌++◌, length, Err, inl, inr, refl, ◌∙◌, sym, subst, arith, append_assoc}
use Rattle.tree_scan.specs.declared.level.Level.{Level}
use Rattle.tree_scan.specs.Bounded.{of_table}
use Rattle.tree_scan.specs.Coming.{IsSpent, gone_below}
use Rattle.tree_scan.specs.Placing.{HasLevel}
use Rattle.tree_scan.specs.Reads.{HasWalked}
use Rattle.tree_scan.specs.Scanning.{BreaksChild, BreaksDown, AreLevels, KeepsComing}
use Rattle.tree_scan.specs.Seeking.{IsSought}
use Rattle.overflow.specs.Following.{shown_over}
use Rattle.tree_scan.proofs.Shows.{top_of, inner_of, names_next, child_barred, with_child, child_comes, child_walked, child_failed, level_read, unread, levels_later, fresh_left, inner_left, child_sought, count_levels}
use Rattle.tree_scan.proofs.Lasts.{same_last, count_last}
use Rattle.tree_scan.proofs.path.enter.Goals as goal

pub returns-then-is_outside-clause-barred : goal.returns-then-is_outside-clause-barred
returns-then-is_outside-clause-barred g c = λ world told.
    let p = g.P.PagesTells in
    let bounds = c.args.bounds.now in
    let t = of_table bounds in
    let old = c.args.pages.now in
    let levels = c.args.levels.now.items in
    let r = c.requires.inner in
    let depth : c.len-depth.result ≡ length levels = omega (arith, c.len-depth.ensures, count_levels c.args.levels.now) in
    let found = top_of t p old levels r.0 r.1.0 c.index-top.result.now c.len-depth.result c.requires.levels.0 r.1.1.0 depth c.index-top.ensures in
    let top = c.index-top.result.now in
    let child = c.child_before-child.result in
    let inner = inner_of t p old top c.usable_of-usable.result child c.as_slice.result.now c.usable_of-usable.ensures.value c.as_slice.ensures.value
    found.1.is_level (subst (λ (l : Level). l.at_cell ≡ false) (sym found.0) r.1.1.1.0) (subst (λ (l : Level). IsSpent l → ⊥) (sym found.0) r.1.1.1.1) c.child_before-child.ensures in
    let outside = c.is_outside.ensures.outside c.if-is_outside.true in
    BreaksDown.AtChild (BreaksChild.Outside top child (names_next t p old levels top child found.1 inner world told) refl
    (elim outside [ inl low ↦ inl low | inr high ↦ inr (omega (arith, high, c.last.ensures)) ]))

pub returns-then-is_outside-clause-walked : goal.returns-then-is_outside-clause-walked
returns-then-is_outside-clause-walked g c =
    unread c.args.seek c.args.bounds.now g.P.PagesTells c.args.pages.now c.args.pages.now c.args.levels.now.items _ refl

pub returns-in-Err-clause-levels : goal.returns-in-Err-clause-levels
returns-in-Err-clause-levels g c =
    levels_later (of_table c.args.bounds.now) g.P.PagesTells c.args.pages.now c.read_level.new.pages c.args.levels.now.items c.in-Err.ensures.reading c.requires.levels

pub returns-in-Err-clause-barred : goal.returns-in-Err-clause-barred
returns-in-Err-clause-barred g c =
    let p = g.P.PagesTells in
    let bounds = c.args.bounds.now in
    let t = of_table bounds in
    let old = c.args.pages.now in
    let levels = c.args.levels.now.items in
    let r = c.requires.inner in
    let depth : c.len-depth.result ≡ length levels = omega (arith, c.len-depth.ensures, count_levels c.args.levels.now) in
    let found = top_of t p old levels r.0 r.1.0 c.index-top.result.now c.len-depth.result c.requires.levels.0 r.1.1.0 depth c.index-top.ensures in
    let top = c.index-top.result.now in
    let child = c.child_before-child.result in
    let inner = inner_of t p old top c.usable_of-usable.result child c.as_slice.result.now c.usable_of-usable.ensures.value c.as_slice.ensures.value
    found.1.is_level (subst (λ (l : Level). l.at_cell ≡ false) (sym found.0) r.1.1.1.0) (subst (λ (l : Level). IsSpent l → ⊥) (sym found.0) r.1.1.1.1) c.child_before-child.ensures in
    child_barred p old c.read_level.new.pages c.args.seek bounds levels top child c.len-depth.result c.in-Err.why found.1 inner c.in-Err.ensures.reading depth c.in-Err.ensures.barred

pub returns-in-Err-clause-walked : goal.returns-in-Err-clause-walked
returns-in-Err-clause-walked g c =
    let p = g.P.PagesTells in
    let bounds = c.args.bounds.now in
    let t = of_table bounds in
    let old = c.args.pages.now in
    let levels = c.args.levels.now.items in
    let r = c.requires.inner in
    let depth : c.len-depth.result ≡ length levels = omega (arith, c.len-depth.ensures, count_levels c.args.levels.now) in
    let found = top_of t p old levels r.0 r.1.0 c.index-top.result.now c.len-depth.result c.requires.levels.0 r.1.1.0 depth c.index-top.ensures in
    let top = c.index-top.result.now in
    let child = c.child_before-child.result in
    let inner = inner_of t p old top c.usable_of-usable.result child c.as_slice.result.now c.usable_of-usable.ensures.value c.as_slice.ensures.value
    found.1.is_level (subst (λ (l : Level). l.at_cell ≡ false) (sym found.0) r.1.1.1.0) (subst (λ (l : Level). IsSpent l → ⊥) (sym found.0) r.1.1.1.1) c.child_before-child.ensures in
    child_failed p old c.read_level.new.pages c.args.seek bounds levels top child c.len-depth.result c.in-Err.why c.in-Err.ensures.reading found.1 inner c.in-Err.ensures.barred.list
    c.in-Err.ensures.barred.read c.in-Err.ensures.barred.are

pub returns-in-Err-clause-coming : goal.returns-in-Err-clause-coming
returns-in-Err-clause-coming g c = λ is world told bound height own items comes. (own, comes)

pub returns-in-Err-clause-sought : goal.returns-in-Err-clause-sought
returns-in-Err-clause-sought g c = λ is world told bound height items sought. sought

pub attach-requires : goal.attach-requires
attach-requires g c =
    let p = g.P.PagesTells in
    let bounds = c.args.bounds.now in
    let t = of_table bounds in
    let old = c.args.pages.now in
    let levels = c.args.levels.now.items in
    let r = c.requires.inner in
    let depth : c.len-depth.result ≡ length levels = omega (arith, c.len-depth.ensures, count_levels c.args.levels.now) in
    let found = top_of t p old levels r.0 r.1.0 c.index-top.result.now c.len-depth.result c.requires.levels.0 r.1.1.0 depth c.index-top.ensures in
    let top = c.index-top.result.now in
    let child = c.child_before-child.result in
    let inner = inner_of t p old top c.usable_of-usable.result child c.as_slice.result.now c.usable_of-usable.ensures.value c.as_slice.ensures.value
    found.1.is_level (subst (λ (l : Level). l.at_cell ≡ false) (sym found.0) r.1.1.1.0) (subst (λ (l : Level). IsSpent l → ⊥) (sym found.0) r.1.1.1.1) c.child_before-child.ensures in
    (found.1.above, (top, (found.1.are, omega (arith, inner.inside, inner.decoded, top.node.cells.small, top.node.cells.ok.1))))

pub returns-in-Err-attach-clause-levels : goal.returns-in-Err-attach-clause-levels
returns-in-Err-attach-clause-levels g c = subst (AreLevels (of_table c.args.bounds.now) g.P.PagesTells c.read_level.new.pages) (sym c.in-Err-attach.ensures.kept)
    (levels_later (of_table c.args.bounds.now) g.P.PagesTells c.args.pages.now c.read_level.new.pages c.args.levels.now.items c.in-Ok.ensures.reading c.requires.levels)

pub returns-in-Err-attach-clause-walked : goal.returns-in-Err-attach-clause-walked
returns-in-Err-attach-clause-walked g c =
    let p = g.P.PagesTells in
    let bounds = c.args.bounds.now in
    let t = of_table bounds in
    let old = c.args.pages.now in
    let levels = c.args.levels.now.items in
    let r = c.requires.inner in
    let depth : c.len-depth.result ≡ length levels = omega (arith, c.len-depth.ensures, count_levels c.args.levels.now) in
    let found = top_of t p old levels r.0 r.1.0 c.index-top.result.now c.len-depth.result c.requires.levels.0 r.1.1.0 depth c.index-top.ensures in
    let top = c.index-top.result.now in
    let child = c.child_before-child.result in
    let inner = inner_of t p old top c.usable_of-usable.result child c.as_slice.result.now c.usable_of-usable.ensures.value c.as_slice.ensures.value
    found.1.is_level (subst (λ (l : Level). l.at_cell ≡ false) (sym found.0) r.1.1.1.0) (subst (λ (l : Level). IsSpent l → ⊥) (sym found.0) r.1.1.1.1) c.child_before-child.ensures in
    let has = c.in-Ok.ensures.level in
    subst (λ (l : List Level). HasWalked {T = Unit {0}} c.args.seek bounds p old levels l (Err c.in-Err-attach.why) c.read_level.new.pages) (sym c.in-Err-attach.ensures.kept)
    (child_failed p old c.read_level.new.pages c.args.seek bounds levels top child c.len-depth.result c.in-Err-attach.why c.in-Ok.ensures.reading found.1 inner (child ∷ has.list) has.read
    (level_read p old c.read_level.new.pages c.args.seek bounds child c.len-depth.result c.in-Ok.level has))

pub returns-in-Err-attach-clause-coming : goal.returns-in-Err-attach-clause-coming
returns-in-Err-attach-clause-coming g c = λ is.
    subst (λ (l : List Level). KeepsComing (of_table c.args.bounds.now) g.P.PagesTells c.args.pages.now c.args.levels.now.items l c.read_level.new.pages) (sym c.in-Err-attach.ensures.kept)
    (λ world told bound height own items comes. (own, comes))

pub returns-in-Err-attach-clause-sought : goal.returns-in-Err-attach-clause-sought
returns-in-Err-attach-clause-sought g c = λ is world told bound height items sought.
    subst (λ (l : List Level). IsSought (g.P.PagesTells.usable c.args.pages.now) bound (shown_over g.P.PagesTells c.args.pages.now world) height c.args.bounds.now l items)
    (sym c.in-Err-attach.ensures.kept) sought

pub returns-in-Ok-attach-clause-levels : goal.returns-in-Ok-attach-clause-levels
returns-in-Ok-attach-clause-levels g c =
    let p = g.P.PagesTells in
    let bounds = c.args.bounds.now in
    let t = of_table bounds in
    let old = c.args.pages.now in
    let levels = c.args.levels.now.items in
    let r = c.requires.inner in
    let depth : c.len-depth.result ≡ length levels = omega (arith, c.len-depth.ensures, count_levels c.args.levels.now) in
    let found = top_of t p old levels r.0 r.1.0 c.index-top.result.now c.len-depth.result c.requires.levels.0 r.1.1.0 depth c.index-top.ensures in
    let top = c.index-top.result.now in
    let child = c.child_before-child.result in
    let inner = inner_of t p old top c.usable_of-usable.result child c.as_slice.result.now c.usable_of-usable.ensures.value c.as_slice.ensures.value
    found.1.is_level (subst (λ (l : Level). l.at_cell ≡ false) (sym found.0) r.1.1.1.0) (subst (λ (l : Level). IsSpent l → ⊥) (sym found.0) r.1.1.1.1) c.child_before-child.ensures in
    let attached : (above : List Level) (last : Level) → levels ≡ above ++ last ∷ [] → c.attach.new.levels.items ≡ above ++ gone_below t last ∷ c.in-Ok.level ∷ [] =
    λ above last are. subst (λ (b : Bool). c.attach.new.levels.items ≡ above ++ gone_below b last ∷ c.in-Ok.level ∷ []) c.is_of_table.ensures (c.in-Ok-attach.ensures.ok above last are) in
    with_child p old c.read_level.new.pages c.args.seek bounds levels c.attach.new.levels.items top c.in-Ok.level child c.len-depth.result c.in-Ok.ensures.reading
    found.1 inner depth c.in-Ok.ensures.level (attached found.1.above top found.1.are)

pub returns-in-Ok-attach-clause-coming : goal.returns-in-Ok-attach-clause-coming
returns-in-Ok-attach-clause-coming g c = λ is.
    let p = g.P.PagesTells in
    let bounds = c.args.bounds.now in
    let t = of_table bounds in
    let old = c.args.pages.now in
    let levels = c.args.levels.now.items in
    let r = c.requires.inner in
    let depth : c.len-depth.result ≡ length levels = omega (arith, c.len-depth.ensures, count_levels c.args.levels.now) in
    let found = top_of t p old levels r.0 r.1.0 c.index-top.result.now c.len-depth.result c.requires.levels.0 r.1.1.0 depth c.index-top.ensures in
    let top = c.index-top.result.now in
    let child = c.child_before-child.result in
    let inner = inner_of t p old top c.usable_of-usable.result child c.as_slice.result.now c.usable_of-usable.ensures.value c.as_slice.ensures.value
    found.1.is_level (subst (λ (l : Level). l.at_cell ≡ false) (sym found.0) r.1.1.1.0) (subst (λ (l : Level). IsSpent l → ⊥) (sym found.0) r.1.1.1.1) c.child_before-child.ensures in
    let attached : (above : List Level) (last : Level) → levels ≡ above ++ last ∷ [] → c.attach.new.levels.items ≡ above ++ gone_below t last ∷ c.in-Ok.level ∷ [] =
    λ above last are. subst (λ (b : Bool). c.attach.new.levels.items ≡ above ++ gone_below b last ∷ c.in-Ok.level ∷ []) c.is_of_table.ensures (c.in-Ok-attach.ensures.ok above last are) in
    let has : HasLevel p old false bounds child c.len-depth.result c.in-Ok.level c.read_level.new.pages =
    subst (λ (s : Bool). HasLevel p old s bounds child c.len-depth.result c.in-Ok.level c.read_level.new.pages) is c.in-Ok.ensures.level in
    child_comes p old c.read_level.new.pages bounds levels c.attach.new.levels.items top c.in-Ok.level child c.len-depth.result c.in-Ok.ensures.reading
    found.1 inner has (attached found.1.above top found.1.are)

pub returns-in-Ok-attach-clause-walked : goal.returns-in-Ok-attach-clause-walked
returns-in-Ok-attach-clause-walked g c =
    let p = g.P.PagesTells in
    let bounds = c.args.bounds.now in
    let t = of_table bounds in
    let old = c.args.pages.now in
    let levels = c.args.levels.now.items in
    let r = c.requires.inner in
    let depth : c.len-depth.result ≡ length levels = omega (arith, c.len-depth.ensures, count_levels c.args.levels.now) in
    let found = top_of t p old levels r.0 r.1.0 c.index-top.result.now c.len-depth.result c.requires.levels.0 r.1.1.0 depth c.index-top.ensures in
    let top = c.index-top.result.now in
    let child = c.child_before-child.result in
    let inner = inner_of t p old top c.usable_of-usable.result child c.as_slice.result.now c.usable_of-usable.ensures.value c.as_slice.ensures.value
    found.1.is_level (subst (λ (l : Level). l.at_cell ≡ false) (sym found.0) r.1.1.1.0) (subst (λ (l : Level). IsSpent l → ⊥) (sym found.0) r.1.1.1.1) c.child_before-child.ensures in
    let attached : (above : List Level) (last : Level) → levels ≡ above ++ last ∷ [] → c.attach.new.levels.items ≡ above ++ gone_below t last ∷ c.in-Ok.level ∷ [] =
    λ above last are. subst (λ (b : Bool). c.attach.new.levels.items ≡ above ++ gone_below b last ∷ c.in-Ok.level ∷ []) c.is_of_table.ensures (c.in-Ok-attach.ensures.ok above last are) in
    child_walked p old c.read_level.new.pages c.args.seek bounds levels c.attach.new.levels.items top c.in-Ok.level child c.len-depth.result c.in-Ok.ensures.reading
    found.1 inner c.in-Ok.ensures.level (attached found.1.above top found.1.are)

pub returns-in-Ok-attach-clause-left : goal.returns-in-Ok-attach-clause-left
returns-in-Ok-attach-clause-left g c = λ is above last are spent.
    let p = g.P.PagesTells in
    let bounds = c.args.bounds.now in
    let t = of_table bounds in
    let old = c.args.pages.now in
    let levels = c.args.levels.now.items in
    let r = c.requires.inner in
    let depth : c.len-depth.result ≡ length levels = omega (arith, c.len-depth.ensures, count_levels c.args.levels.now) in
    let found = top_of t p old levels r.0 r.1.0 c.index-top.result.now c.len-depth.result c.requires.levels.0 r.1.1.0 depth c.index-top.ensures in
    let top = c.index-top.result.now in
    let child = c.child_before-child.result in
    let inner = inner_of t p old top c.usable_of-usable.result child c.as_slice.result.now c.usable_of-usable.ensures.value c.as_slice.ensures.value
    found.1.is_level (subst (λ (l : Level). l.at_cell ≡ false) (sym found.0) r.1.1.1.0) (subst (λ (l : Level). IsSpent l → ⊥) (sym found.0) r.1.1.1.1) c.child_before-child.ensures in
    let attached : (above : List Level) (last : Level) → levels ≡ above ++ last ∷ [] → c.attach.new.levels.items ≡ above ++ gone_below t last ∷ c.in-Ok.level ∷ [] =
    λ above last are. subst (λ (b : Bool). c.attach.new.levels.items ≡ above ++ gone_below b last ∷ c.in-Ok.level ∷ []) c.is_of_table.ensures (c.in-Ok-attach.ensures.ok above last are) in
    let range = c.is_outside.ensures.inside c.if-is_outside.false in
    let has : HasLevel p old false bounds child c.len-depth.result c.in-Ok.level c.read_level.new.pages =
    subst (λ (s : Bool). HasLevel p old s bounds child c.len-depth.result c.in-Ok.level c.read_level.new.pages) is c.in-Ok.ensures.level in
    let new_are = attached found.1.above top found.1.are in
    let same : last ≡ c.in-Ok.level = same_last above (found.1.above ++ gone_below t top ∷ []) last c.in-Ok.level
    (sym are ∙ (new_are ∙ sym (append_assoc found.1.above (gone_below t top ∷ []) (c.in-Ok.level ∷ [])))) in
    fresh_left p old c.read_level.new.pages bounds c.in-Ok.level child c.len-depth.result range.0 (omega (arith, depth, count_last levels found.1.above top found.1.are)) has
    (subst IsSpent same spent)

pub returns-in-Ok-attach-clause-sought : goal.returns-in-Ok-attach-clause-sought
returns-in-Ok-attach-clause-sought g c = λ is.
    let p = g.P.PagesTells in
    let bounds = c.args.bounds.now in
    let t = of_table bounds in
    let old = c.args.pages.now in
    let levels = c.args.levels.now.items in
    let r = c.requires.inner in
    let depth : c.len-depth.result ≡ length levels = omega (arith, c.len-depth.ensures, count_levels c.args.levels.now) in
    let found = top_of t p old levels r.0 r.1.0 c.index-top.result.now c.len-depth.result c.requires.levels.0 r.1.1.0 depth c.index-top.ensures in
    let top = c.index-top.result.now in
    let child = c.child_before-child.result in
    let inner = inner_of t p old top c.usable_of-usable.result child c.as_slice.result.now c.usable_of-usable.ensures.value c.as_slice.ensures.value
    found.1.is_level (subst (λ (l : Level). l.at_cell ≡ false) (sym found.0) r.1.1.1.0) (subst (λ (l : Level). IsSpent l → ⊥) (sym found.0) r.1.1.1.1) c.child_before-child.ensures in
    let attached : (above : List Level) (last : Level) → levels ≡ above ++ last ∷ [] → c.attach.new.levels.items ≡ above ++ gone_below t last ∷ c.in-Ok.level ∷ [] =
    λ above last are. subst (λ (b : Bool). c.attach.new.levels.items ≡ above ++ gone_below b last ∷ c.in-Ok.level ∷ []) c.is_of_table.ensures (c.in-Ok-attach.ensures.ok above last are) in
    let has : HasLevel p old true bounds child c.len-depth.result c.in-Ok.level c.read_level.new.pages =
    subst (λ (s : Bool). HasLevel p old s bounds child c.len-depth.result c.in-Ok.level c.read_level.new.pages) is c.in-Ok.ensures.level in
    child_sought p old c.read_level.new.pages bounds levels c.attach.new.levels.items top c.in-Ok.level child c.len-depth.result c.in-Ok.ensures.reading found.1 inner has attached

pub returns-in-Ok-attach-clause-inner : goal.returns-in-Ok-attach-clause-inner
returns-in-Ok-attach-clause-inner g c = λ above last are at spent.
    let p = g.P.PagesTells in
    let bounds = c.args.bounds.now in
    let t = of_table bounds in
    let old = c.args.pages.now in
    let levels = c.args.levels.now.items in
    let r = c.requires.inner in
    let depth : c.len-depth.result ≡ length levels = omega (arith, c.len-depth.ensures, count_levels c.args.levels.now) in
    let found = top_of t p old levels r.0 r.1.0 c.index-top.result.now c.len-depth.result c.requires.levels.0 r.1.1.0 depth c.index-top.ensures in
    let top = c.index-top.result.now in
    let child = c.child_before-child.result in
    let inner = inner_of t p old top c.usable_of-usable.result child c.as_slice.result.now c.usable_of-usable.ensures.value c.as_slice.ensures.value
    found.1.is_level (subst (λ (l : Level). l.at_cell ≡ false) (sym found.0) r.1.1.1.0) (subst (λ (l : Level). IsSpent l → ⊥) (sym found.0) r.1.1.1.1) c.child_before-child.ensures in
    let attached : (above : List Level) (last : Level) → levels ≡ above ++ last ∷ [] → c.attach.new.levels.items ≡ above ++ gone_below t last ∷ c.in-Ok.level ∷ [] =
    λ above last are. subst (λ (b : Bool). c.attach.new.levels.items ≡ above ++ gone_below b last ∷ c.in-Ok.level ∷ []) c.is_of_table.ensures (c.in-Ok-attach.ensures.ok above last are) in
    let new_are = attached found.1.above top found.1.are in
    let same : last ≡ c.in-Ok.level = same_last above (found.1.above ++ gone_below t top ∷ []) last c.in-Ok.level
    (sym are ∙ (new_are ∙ sym (append_assoc found.1.above (gone_below t top ∷ []) (c.in-Ok.level ∷ [])))) in
    inner_left p old c.read_level.new.pages c.args.seek bounds c.in-Ok.level child c.len-depth.result c.in-Ok.ensures.level (subst (λ (l : Level). l.at_cell ≡ false) same at)
    (subst IsSpent same spent)
