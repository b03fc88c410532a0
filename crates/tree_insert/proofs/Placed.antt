-- A key that was put into a tree stands in its place, and wasn't there before.
use Rattle.std.proofs.Common.{◌≡◌, ℕ, ℤ, ◌+◌, ◌<ℤ◌, List, [], ◌∷◌, ◌++◌, refl, sym, subst, ap, ◌∙◌, arith}
use Rattle.std.proofs.lemmas.Int.{ints}
use Rattle.std.specs.Prelude.{Result, Ok, Err, OnOk}
use Rattle.std.specs.Ordering.{ordering_reverse}
use Rattle.std.specs.declared.cmp.Ordering.TheVariants.{Less, Greater}
use Rattle.page_spec.specs.View.{View}
use Rattle.page_face.specs.declared.pages_tells.PagesTells.{Ghosts}
use Rattle.tree_spec.specs.Layout.{times, Each, Item}
use Rattle.tree_spec.specs.Shown.{Shown}
use Rattle.tree_spec.specs.Trees.{IsTree}
use Rattle.value_form.specs.declared.value.Value.{Value}
use Rattle.value_form.specs.Order.{row_order}
use Rattle.value_form.specs.Record.{IsRecord}
use Rattle.value_form.proofs.ReadingLaws.{record_once}
use Rattle.value_form.proofs.OrderLaws.{row_linear}
use Rattle.overflow.specs.Following.{shown_over}
use Rattle.edit_spec.specs.Places.{TakesItem, somewhere, place_of_key}
use Rattle.edit_spec.specs.Edits.{EditedPages, Exchanges, IsEditedTree, StandOnce}
use Rattle.edit_spec.proofs.Lists.{each_last, one_of_two}
use Rattle.edit_spec.proofs.InOrder.{AreInOrder, takes_in_order}
use Rattle.edit_spec.proofs.Roots.{table_takes}
use Rattle.node_edit.specs.Payloads.{key_of}
use Rattle.tree_read.specs.Entries.{IsAmong, RowsRise}
use Rattle.tree_edit.proofs.Edits.{still_used}
use Rattle.tree_keys.specs.Keys.{Sought, OfRow, OfEntry, is_row, rowid_of, place_of, place_of_entry, gap_of, entry_gap, AreOrdered, HasKey}
use Rattle.tree_keys.specs.Standing.{Stands}
use Rattle.tree_insert.specs.Inserting.{inserting, PutsIn, PutsInEach, PutsTree, PutsTreeEach}
use Rattle.tree_insert.proofs.Since.{once_made, made_free}

-- what the order of rows asks of two entries
abbrev Precedes : Item → Item → Type 0
Precedes item other = (row next : List Value) → IsRecord item.bytes row → IsRecord other.bytes next → row_order row next ≡ Less

rows_order : (items : List Item) → RowsRise items → AreInOrder Precedes items
rows_order [] rise = tt
rows_order (item ∷ items) rise = (rise.0, rows_order items rise.1)

takes_entry : (entry : List Value) (items : List Item) (item : Item) (items_then : List Item) → Exchanges (entry_gap entry) [] (item ∷ []) items items_then → RowsRise items
    → TakesItem (place_of_entry entry) items item items_then
takes_entry entry items item items_then is rise =
    takes_in_order Precedes (entry_gap entry) (place_of_entry entry) items item items_then is (rows_order items rise)
    (λ other before row is_row. subst (λ (r : List Value). row_order r entry ≡ Less) (record_once other.bytes before.0 row before.1.0 is_row) before.1.1)
    (λ other more precedes before row is_row. row_linear.transitive row before.0 entry (precedes row before.0 is_row before.1.0) before.1.1)
    (λ other behind row is_row. subst (λ (r : List Value). row_order r entry ≡ Greater) (record_once other.bytes behind.0 row behind.1.0 is_row) behind.1.1)
    (λ other more precedes behind row is_row.
    let less : row_order entry behind.0 ≡ Less = row_linear.reversed behind.0 entry ∙ ap ordering_reverse behind.1.1 in
    row_linear.reversed entry row ∙ ap ordering_reverse (row_linear.transitive entry behind.0 row less (precedes behind.0 row behind.1.0 is_row)))

takes : (sought : Sought) (usable last : ℕ) (shown : Shown) (height root : ℕ) (item : Item) (pages : EditedPages) (own : List ℕ) (items : List Item) → item.key ≡ key_of (rowid_of sought)
    → AreOrdered sought items → (done : IsEditedTree (is_row sought) usable last shown height root (gap_of sought) [] (item ∷ []) pages own items)
    → TakesItem (place_of sought) items item done.items_then
takes (OfRow rowid) usable last shown height root item pages own items key ordered done =
    subst (λ (k : ℤ). TakesItem (place_of_key k) items item done.items_then) key (table_takes usable last shown height root somewhere item pages own items done)
takes (OfEntry entry) usable last shown height root item pages own items key ordered done = takes_entry entry items item done.items_then done.exchanged ordered

each_join : (Is : Item → Type 0) (a b : List Item) → Each Is a → Each Is b → Each Is (a ++ b)
each_join Is [] b one two = two
each_join Is (item ∷ a) b one two = (one.0, each_join Is a b one.1 two)

each_of : (Is All : Item → Type 0) → ((item : Item) → Is item → All item) → (items : List Item) → Each Is items → Each All items
each_of Is All on [] each = tt
each_of Is All on (item ∷ items) each = (on item each.0, each_of Is All on items each.1)

-- what holds of the items before a place and behind it holds of each of them
of_items : (sought : Sought) (Is : Item → Type 0) (items : List Item) (item : Item) (items_then : List Item) → TakesItem (place_of sought) items item items_then
    → ((other : Item) → (place_of sought).Before other → Is other) → ((other : Item) → (place_of sought).Behind other → Is other) → (other : Item) → IsAmong items other → Is other
of_items sought Is items item items_then is before behind other there =
    let all : Each Is items = subst (Each Is) (sym is.items_are)
    (each_join Is is.before is.after (each_of (place_of sought).Before Is before is.before is.before_are) (each_of (place_of sought).Behind Is behind is.after is.behind_are)) in
    (each_last Is there.front (other ∷ there.back) (subst (Each Is) there.items_are all)).0

less_apart : (a b : ℤ) → a <ℤ b → a ≡ b → ⊥
less_apart a b less same = omega (arith, ints, less, same)

more_apart : (a b : ℤ) → b <ℤ a → a ≡ b → ⊥
more_apart a b more same = omega (arith, ints, more, same)

absent : (sought : Sought) (items : List Item) (item : Item) (items_then : List Item) → TakesItem (place_of sought) items item items_then → HasKey sought items → ⊥
absent (OfRow rowid) items item items_then is has =
    of_items (OfRow rowid) (λ (other : Item). other.key ≡ rowid → ⊥) items item items_then is
    (λ other before same. less_apart other.key rowid before same) (λ other behind same. more_apart other.key rowid behind same) has.0 has.1.0 has.1.1
absent (OfEntry entry) items item items_then is has =
    of_items (OfEntry entry) (λ (other : Item). IsRecord other.bytes entry → ⊥) items item items_then is
    (λ other before is_row. let less = sym (row_linear.same entry) ∙ before entry is_row in absurd (cc less))
    (λ other behind is_row. let more = sym (row_linear.same entry) ∙ behind entry is_row in absurd (cc more)) has.0 has.1.0 has.1.1

-- A tree that was edited so has the key in its place.
pub puts_in : {P : Type 0} (pages : Ghosts P) (old new : P) (world : View) (sought : Sought) (payload : List ℕ) (root height : ℕ) (own : List ℕ) (items : List Item) → pages.usable new ≡ pages.usable old
    → Stands pages old world (is_row sought) height root own items → AreOrdered sought items → PutsTree pages old sought payload root own items new world
    → PutsIn pages old sought payload root own items new world
puts_in pages old new world sought payload root height own items usable stands ordered puts =
    let done = puts.edited in
    let lists = inserting puts.read puts.put puts.made in
    let once : StandOnce own puts.made = once_made pages lists old new world own puts.edits refl stands.used in
    let counts : (n : ℕ) → times own n + times puts.made n ≡ times done.own_then n = λ n. omega (arith, done.moved.counts n) in
    let taken = takes sought (pages.usable old) (pages.last_page new) (shown_over pages new world) puts.height root puts.item (record { fresh = puts.made; lost = []; put = puts.put }) own items
    puts.is_put.key ordered done in
    record {
      item = puts.item;
      is_put = puts.is_put;
      height = puts.height;
      own_then = done.own_then;
      items_then = done.items_then;
      path = puts.path;
      read = puts.read;
      put = puts.put;
      made = puts.made;
      stands = record {
        neat = puts.edits.neat;
        tree = subst (λ (u : ℕ). IsTree (is_row sought) u (pages.last_page new) (shown_over pages new world) puts.height root done.own_then done.items_then) (sym usable) done.tree;
        used = λ n there. (
          omega (arith, counts n, once n),
          λ free. one_of_two (times own n) (times puts.made n) (omega (arith, counts n, there)) (λ here. still_used pages lists old new world puts.edits n (stands.used n here).1 refl free)
              (λ here. (made_free pages lists old new world puts.edits refl n here).1 free),
        );
      };
      takes = taken;
      absent = absent sought items puts.item done.items_then taken;
      moved = done.moved;
      on_path = puts.on_path;
      edits = puts.edits;
    }

pub each_placed : {P E : Type 0} (pages : Ghosts P) (old new : P) (sought : Sought) (payload text : List ℕ) (root : ℕ) (answer : Result (Unit {0}) E) → pages.usable new ≡ pages.usable old → payload ≡ text
    → OnOk answer (PutsTreeEach pages old sought payload root new) → OnOk answer (PutsInEach pages old sought text root new)
each_placed pages old new sought payload text root (Err why) usable same each = tt
each_placed pages old new sought payload text root (Ok done) usable same each = λ world told height own items stands ordered.
    subst (λ (bytes : List ℕ). PutsIn pages old sought bytes root own items new world) same
    (puts_in pages old new world sought payload root height own items usable stands ordered (each world told height own items stands))
