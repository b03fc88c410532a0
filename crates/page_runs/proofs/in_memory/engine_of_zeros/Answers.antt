use Rattle.std.proofs.Common.{◌≡◌, ◌∙◌, ℕ, ◌≤◌, List, ◌∷◌, [], length, sym, ap, subst, arith, All}
use Rattle.std.specs.Prelude.{Contains}
use Rattle.std.specs.List.{slice_index_or}
use Rattle.page_spec.specs.PageMap.{PageMap, page_size_of, page_sizes}
use Rattle.engine_spec.specs.declared.commits.Commit.{Commit}
use Rattle.page_lines.specs.World.{zeros}
use Rattle.page_lines.proofs.SerialLaw.{zeros_are_store}
use Rattle.page_runs.proofs.in_memory.engine_of_zeros.Goals as goal

-- the newest map has the pages that page lines name
enough : (maps : List PageMap) (history : List Commit) → maps ≡ zeros ∷ [] → history ≡ []
    → 16 ≤ length (slice_index_or maps (length history) [])
enough maps history first none = rw (first, none) (let count = zeros_are_store.store.count in omega arith)

pub new-requires-clause-first : goal.new-requires-clause-first
new-requires-clause-first c = (let count = zeros_are_store.store.count in omega (arith, ap length c.in_ok-pages.ensures))

pub new-requires-clause-few : goal.new-requires-clause-few
new-requires-clause-few c = (let count = zeros_are_store.store.count in omega (arith, ap length c.in_ok-pages.ensures))

pub new-requires-clause-legal : goal.new-requires-clause-legal
new-requires-clause-legal c =
    subst (λ (pages : PageMap). Contains page_sizes (page_size_of pages)) (sym c.in_ok-pages.ensures) zeros_are_store.store.size

pub new-requires-clause-whole : goal.new-requires-clause-whole
new-requires-clause-whole c =
    subst (λ (pages : PageMap). All (λ (page : List ℕ). length page ≡ page_size_of pages) pages) (sym c.in_ok-pages.ensures)
    zeros_are_store.store.each

pub returns-clause-maps : goal.returns-clause-maps
returns-clause-maps c = c.in_ok-plain.ensures.maps ∙ ap (λ (pages : PageMap). pages ∷ []) c.in_ok-pages.ensures

pub returns-clause-page_size : goal.returns-clause-page_size
returns-clause-page_size c = c.in_ok-plain.ensures.page_size ∙ ap page_size_of c.in_ok-pages.ensures

pub returns-clause-pages : goal.returns-clause-pages
returns-clause-pages c =
    enough c.in_ok-plain.plain.maps c.in_ok-plain.plain.history
    (c.in_ok-plain.ensures.maps ∙ ap (λ (pages : PageMap). pages ∷ []) c.in_ok-pages.ensures) c.in_ok-plain.ensures.history
