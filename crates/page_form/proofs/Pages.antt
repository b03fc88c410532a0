-- Pages read: refused with their first fault, or told as the node that they show.
use Rattle.std.proofs.Common.{◌≡◌, ℕ, ◌+◌, ◌-◌, ◌*◌, ◌<◌, ◌≤◌, suc, nat_le, Bool, None, Some, List, length, get_or, vec_len, refl, sym, ap, ◌∙◌, arith}
use Rattle.std.proofs.lemmas.Bool.Decides.{nat_tests}
use Rattle.page_spec.specs.Bytes.{u16_at}
use Rattle.node_spec.specs.declared.kinds.Kind.{Kind}
use Rattle.node_spec.specs.Kinds.{kind_of, header_at, pointers_at}
use Rattle.node_spec.specs.Layout.{taken, IsPageText}
use Rattle.node_spec.specs.Faults.{cells_in, blocks_in, page_fault, front_fault, content_fault, parts_fault}
use Rattle.node_spec.specs.Nodes.{Node, Shows, node_of, node_with, right_in, cell_bytes, free_of}
use Rattle.node_spec.proofs.FaultLaws.{unless_none, or_none}
use Rattle.node_spec.proofs.Decode.{flag_kind, no_fault_page, length-cells_in}
use Rattle.node_spec.proofs.NodeLaws.{header_fits, text_passes, shows_node, shown_bytes, shown_fits}
use Rattle.page_form.specs.declared.page.Page.{Page}
use Rattle.page_form.specs.Reading.{Tells}

-- a front without a fault has room for its pointers
pub front_room : (usable at pointers : ℕ) (page : List ℕ) → front_fault usable at pointers page ≡ None → pointers + 2 * u16_at page (at + 3) ≤ usable
unfolding front_fault
front_room usable at pointers page none =
    let parts = or_none _ _ none in
    let holds = unless_none (nat_le (pointers + 2 * u16_at page (at + 3)) usable) (at + 3) parts.0 in
    grind (arith, nat_tests)

-- the fault of a front, and that of a content behind a front without one
pub front_bad : (usable at pointers : ℕ) (kind : Kind) (page : List ℕ) (fault : ℕ) → front_fault usable at pointers page ≡ Some fault
    → parts_fault usable at pointers kind page ≡ Some fault
unfolding parts_fault
front_bad usable at pointers kind page fault is = rw is refl

pub front_good : (usable at pointers : ℕ) (kind : Kind) (page : List ℕ) → front_fault usable at pointers page ≡ None
    → parts_fault usable at pointers kind page ≡ content_fault usable at pointers kind page
unfolding parts_fault
front_good usable at pointers kind page none = rw none refl

no_text : (usable : ℕ) (first : Bool) (page : List ℕ) (fault : ℕ) → page_fault usable first page ≡ Some fault → IsPageText usable first page → ⊥
no_text usable first page fault is text = let none = text_passes text in cc

-- bytes of no kind, and such with a fault
pub no_kind : (usable : ℕ) (first : Bool) (page : List ℕ) (at : ℕ) → at ≡ header_at first → kind_of (get_or page at 0) ≡ None
    → (page_fault usable first page ≡ Some at) × (IsPageText usable first page → ⊥)
unfolding page_fault
no_kind usable first page at is none =
    let here = rw is at none in
    let fault : page_fault usable first page ≡ Some at = rw here (ap Some (sym is)) in
    (fault, no_text usable first page at fault)

pub bad_part : (usable : ℕ) (first : Bool) (page : List ℕ) (at pointers : ℕ) (kind : Kind) (fault : ℕ) → at ≡ header_at first → kind_of (get_or page at 0) ≡ Some kind
    → pointers ≡ pointers_at first kind → parts_fault usable at pointers kind page ≡ Some fault
    → (page_fault usable first page ≡ Some fault) × (IsPageText usable first page → ⊥)
unfolding page_fault
bad_part usable first page at pointers kind fault is some place fails =
    let here = rw is at some in
    let fails_here = rw (is, place) at fails in
    let told : page_fault usable first page ≡ Some fault = rw here fails_here in
    (told, no_text usable first page fault told)

-- a page without a fault shows a node
pub record GoodPage (usable : ℕ) (first : Bool) (page : List ℕ) (kind : Kind) (sum : ℕ) : Type 0 where
  pub node : Node
  pub shown : node_of usable first page ≡ Some node
  pub kind_is : node.kind ≡ kind
  pub count : length node.cells ≡ u16_at page (header_at first + 3)
  pub bytes : cell_bytes node.cells ≡ sum
  pub room : pointers_at first kind + 2 * u16_at page (header_at first + 3) + sum ≤ usable
  pub right : node.right ≡ right_in first kind page

pub good_page : (usable : ℕ) (first : Bool) (page : List ℕ) (at pointers : ℕ) (kind : Kind) (sum : ℕ) → 480 ≤ usable → usable ≤ 65536 → usable ≤ length page
    → at ≡ header_at first → kind_of (get_or page at 0) ≡ Some kind → pointers ≡ pointers_at first kind
    → parts_fault usable at pointers kind page ≡ None → sum ≡ taken (cells_in usable kind page pointers (u16_at page (at + 3)))
    → GoodPage usable first page kind sum
good_page usable first page at pointers kind sum least most long is some place none sum_is =
    let none_here = rw (is, place) at none in
    let sum_here : sum ≡ taken (cells_in usable kind page (pointers_at first kind) (u16_at page (header_at first + 3))) = rw (is, place) at sum_is in
    let some_here = rw is at some in
    let cells = cells_in usable kind page (pointers_at first kind) (u16_at page (header_at first + 3)) in
    let shows : Shows usable first page (node_with usable first kind page cells) = record {
      cells = cells;
      blocks = blocks_in (suc usable) page (u16_at page (header_at first + 1));
      is_page = no_fault_page usable (header_at first) (pointers_at first kind) kind page long least most (header_fits first kind)
          (flag_kind (get_or page (header_at first) 0) kind some_here) none_here;
      cells_are = refl;
      right_is = refl;
    } in
    let b = shown_bytes shows in
    let count : length (node_with usable first kind page cells).cells ≡ u16_at page (header_at first + 3) =
    b.0 ∙ length-cells_in usable kind page (pointers_at first kind) (u16_at page (header_at first + 3)) in
    record {
      node = node_with usable first kind page cells;
      shown = shows_node shows;
      kind_is = refl;
      count = count;
      bytes = b.1 ∙ sym sum_here;
      room = omega (arith, shown_fits shows, count, b.1, sum_here);
      right = refl;
    }

pub tells_page : {usable : ℕ} {first : Bool} {bytes : List ℕ} {kind : Kind} {sum : ℕ} (good : GoodPage usable first bytes kind sum)
    → (pointers count : ℕ) (page : Page) → pointers ≡ pointers_at first kind → count ≡ u16_at bytes (header_at first + 3)
    → page.kind ≡ kind → vec_len page.cells ≡ count → ((i : ℕ) → i < count → get_or page.cells.items i 0 ≡ u16_at bytes (pointers + 2 * i))
    → page.right ≡ right_in first kind bytes → page.free ≡ usable - (pointers + 2 * count + sum)
    → Tells usable first bytes page good.node
tells_page {usable} {first} {bytes} {kind} {sum} good pointers count page place count_is kind_is len same right free = record {
  shown = good.shown;
  kind = kind_is ∙ sym good.kind_is;
  count = len ∙ count_is ∙ sym good.count;
  pointers = λ i l.
      same i (omega (arith, good.count, count_is)) ∙ ap (λ n. u16_at bytes (n + 2 * i)) (place ∙ ap (pointers_at first) (sym good.kind_is));
  right = right ∙ sym good.right;
  free = free ∙ free_is;
}
  where
    free_is : usable - (pointers + 2 * count + sum) ≡ free_of usable first good.node
    free_is = omega (arith, place, ap (pointers_at first) good.kind_is, good.count, count_is, good.bytes)
