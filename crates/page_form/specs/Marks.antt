-- What the checks of a page keep and tell.
use Rattle.std.specs.Prelude.{◌≡◌, ℕ, ◌+◌, min, List, slice_index, MatchResult, Result, None, Some}
use Rattle.page_spec.specs.Bytes.{u16_at}
use Rattle.node_spec.specs.declared.kinds.Kind.{Kind}
use Rattle.node_spec.specs.Layout.{Piece, cover, taken}
use Rattle.node_spec.specs.Faults.{cells_in, content_fault, parts_fault}

-- the marks tell in how many cells and freeblocks each byte is, up to 2
abbrev pub AreMarks : List ℕ → (cells blocks : List Piece) → Type 0
AreMarks marks cells blocks = (k : ℕ) → slice_index marks k ≡ min 2 (cover cells k + cover blocks k)

-- What a check of a page's content tells: how many bytes its cells have together, or the first field that breaks the text of a page.
abbrev pub IsCheckedContent : (usable at pointers : ℕ) → Kind → List ℕ → Result ℕ ℕ → Type 0
IsCheckedContent usable at pointers kind page told = MatchResult told
    (λ sum. (content_fault usable at pointers kind page ≡ None) × (sum ≡ taken (cells_in usable kind page pointers (u16_at page (at + 3)))))
    (λ fault. content_fault usable at pointers kind page ≡ Some fault)

-- the same of a check of all its parts
abbrev pub IsChecked : (usable at pointers : ℕ) → Kind → List ℕ → Result ℕ ℕ → Type 0
IsChecked usable at pointers kind page told = MatchResult told
    (λ sum. (parts_fault usable at pointers kind page ≡ None) × (sum ≡ taken (cells_in usable kind page pointers (u16_at page (at + 3)))))
    (λ fault. parts_fault usable at pointers kind page ≡ Some fault)
