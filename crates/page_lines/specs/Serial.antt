-- What a run of page lines amounts to: the committed transactions ran one after another, and all others saw their snapshot. It is said
-- of the acts and their answers alone.
use Rattle.std.specs.Prelude.{◌≡◌, ℕ, ◌+◌, ◌-◌, ◌≤◌, List, [], ◌∷◌, ◌++◌, length, map, slice_index, slice_get, Some}
use Rattle.std.specs.List.{slice_index_or}
use Rattle.page_spec.specs.PageMap.{PageMap, page_at}
use Rattle.engine_spec.specs.declared.commits.Receipt.TheVariants.{At, ReadOnly}
use Rattle.page_lines.specs.declared.lines.Act.TheVariants as act
use Rattle.page_lines.specs.declared.lines.Told.{Told}
use Rattle.page_lines.specs.declared.lines.Told.TheVariants as told
use Rattle.page_lines.specs.PageLines.{Statement, ReadPage, WritePage, page_after}
use Rattle.page_lines.specs.Exchanges.{Exchange, AcceptedStatement, past_of, commits_in, snapshot_of, transaction_of}

-- what some statements are told that run one after another on a map, with nothing in between; those before them are given
abbrev pub told_alone : PageMap → List Statement → List Statement → List Told
told_alone pages before [] = []
told_alone pages before (ReadPage page ∷ statements) =
    told.Byte (slice_index (page_after page before (page_at pages page)) 0) ∷ told_alone pages (before ++ ReadPage page ∷ []) statements
told_alone pages before (WritePage page byte ∷ statements) =
    told.Ok ∷ told_alone pages (before ++ WritePage page byte ∷ []) statements

-- the statements of a transaction
abbrev pub statements_in : List AcceptedStatement → List Statement
statements_in done = map (λ one. one.statement) done

-- a transaction was told what its statements are told alone on this map
abbrev pub IsToldAlone : PageMap → List AcceptedStatement → Type 0
IsToldAlone pages done = map (λ one. one.told) done ≡ told_alone pages [] (statements_in done)

-- Of these maps, a transaction that became the commit with this number was told what it is told alone on the map before it, and the
-- map after it is what its statements leave of that, on the pages that page lines speak of.
pub record IsSerialCommit (maps : List PageMap) (number : ℕ) (done : List AcceptedStatement) : Type 0 where
  pub alone : IsToldAlone (slice_index_or maps (number - 1) []) done
  pub leaves : (page : ℕ) → 2 ≤ page → page ≤ 16 → page_at (slice_index_or maps number []) page
      ≡ page_after page (statements_in done) (page_at (slice_index_or maps (number - 1) []) page)

-- A run is serial from a first map: there are maps, that one and then one after each commit, such that each COMMIT has the next number
-- and its transaction is serial as that commit; and at each moment each session was told since its last BEGIN what its statements are
-- told alone on its snapshot, which is what a COMMIT that wrote nothing names.
pub record IsSerial (first : PageMap) (run : List Exchange) : Type 0 where
  pub maps : List PageMap
  pub begins : slice_get maps 0 ≡ Some first
  pub count : length maps ≡ commits_in run + 1
  pub commits : (moment session number : ℕ) → slice_get run moment ≡ Some (record { act = act.Commit session; told = told.Done (At number) })
      → (number ≡ commits_in (past_of run moment) + 1) × IsSerialCommit maps number (transaction_of session (past_of run moment))
  pub snapshots : (moment session : ℕ)
      → IsToldAlone (slice_index_or maps (snapshot_of session (past_of run moment)) []) (transaction_of session (past_of run moment))
  pub read_only : (moment session number : ℕ)
      → slice_get run moment ≡ Some (record { act = act.Commit session; told = told.Done (ReadOnly number) })
      → number ≡ snapshot_of session (past_of run moment)
