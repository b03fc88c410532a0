-- The checks of a content in their order.
use Rattle.std.proofs.Common.{◌≡◌, ℕ, suc, ◌+◌, ◌==◌, ◌&&◌, nat_le, true, false, None, Some, List, get_or, refl, sym, ap, ◌∙◌, arith}
use Rattle.page_spec.specs.Bytes.{u16_at}
use Rattle.node_spec.specs.declared.kinds.Kind.{Kind}
use Rattle.node_spec.specs.Layout.{taken, content_start}
use Rattle.node_spec.specs.Faults.{first_fault, cell_fault, cells_in, blocks_in, chain_fault, byte_fault, content_fault, has_fragments}

module _ (usable at pointers : ℕ) (kind : Kind) (page : List ℕ) (count content start : ℕ)
    (count_is : count ≡ u16_at page (at + 3)) (content_is : content ≡ content_start page at) (start_is : start ≡ u16_at page (at + 1)) where
  pub fault_in_cells : (fault : ℕ) → first_fault count (cell_fault usable kind page pointers) ≡ Some fault → content_fault usable at pointers kind page ≡ Some fault
  unfolding content_fault
  fault_in_cells fault cells = rw (sym count_is, cells) refl

  pub fault_in_blocks : (fault : ℕ) → first_fault count (cell_fault usable kind page pointers) ≡ None
      → chain_fault (suc usable) usable content page 0 start ≡ Some fault → content_fault usable at pointers kind page ≡ Some fault
  unfolding content_fault
  fault_in_blocks fault cells blocks = rw (sym count_is, sym content_is, sym start_is, cells, blocks) refl

  pub fault_in_bytes : (fault : ℕ) → first_fault count (cell_fault usable kind page pointers) ≡ None
      → chain_fault (suc usable) usable content page 0 start ≡ None
      → first_fault usable (byte_fault (cells_in usable kind page pointers count) (blocks_in (suc usable) page start)) ≡ Some fault
      → content_fault usable at pointers kind page ≡ Some fault
  unfolding content_fault
  fault_in_bytes fault cells blocks bytes = rw (sym count_is, sym content_is, sym start_is, cells, blocks, bytes) refl

  fragments_are : (cells blocks fragments : ℕ) → cells ≡ taken (cells_in usable kind page pointers count) → blocks ≡ taken (blocks_in (suc usable) page start)
      → has_fragments usable content (cells_in usable kind page pointers count) (blocks_in (suc usable) page start) fragments
      ≡ (nat_le fragments 60 && content + (cells + blocks) + fragments == usable)
  unfolding has_fragments
  fragments_are cells blocks fragments cells_are blocks_are =
      let sum : content + taken (cells_in usable kind page pointers count) + taken (blocks_in (suc usable) page start) + fragments ≡ content + (cells + blocks) + fragments = omega arith in
      ap (λ n. nat_le fragments 60 && n == usable) sum

  pub fault_in_fragments : (cells blocks : ℕ) → first_fault count (cell_fault usable kind page pointers) ≡ None
      → chain_fault (suc usable) usable content page 0 start ≡ None
      → first_fault usable (byte_fault (cells_in usable kind page pointers count) (blocks_in (suc usable) page start)) ≡ None
      → cells ≡ taken (cells_in usable kind page pointers count) → blocks ≡ taken (blocks_in (suc usable) page start)
      → (nat_le (get_or page (at + 7) 0) 60 && content + (cells + blocks) + get_or page (at + 7) 0 == usable) ≡ false
      → content_fault usable at pointers kind page ≡ Some (at + 7)
  unfolding content_fault
  fault_in_fragments cells blocks whole chain bytes cells_are blocks_are fails =
      let is = fragments_are cells blocks (get_or page (at + 7) 0) cells_are blocks_are ∙ fails in
      rw (sym count_is, sym content_is, sym start_is, whole, chain, bytes, is) refl

  pub no_fault : (cells blocks : ℕ) → first_fault count (cell_fault usable kind page pointers) ≡ None
      → chain_fault (suc usable) usable content page 0 start ≡ None
      → first_fault usable (byte_fault (cells_in usable kind page pointers count) (blocks_in (suc usable) page start)) ≡ None
      → cells ≡ taken (cells_in usable kind page pointers count) → blocks ≡ taken (blocks_in (suc usable) page start)
      → (nat_le (get_or page (at + 7) 0) 60 && content + (cells + blocks) + get_or page (at + 7) 0 == usable) ≡ true
      → content_fault usable at pointers kind page ≡ None
  unfolding content_fault
  no_fault cells blocks whole chain bytes cells_are blocks_are holds =
      let is = fragments_are cells blocks (get_or page (at + 7) 0) cells_are blocks_are ∙ holds in
      rw (sym count_is, sym content_is, sym start_is, whole, chain, bytes, is) refl
