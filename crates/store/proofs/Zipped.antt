-- Entries beside what their commits wrote.
use Rattle.std.proofs.Common.{◌≡◌, suc, List, [], ◌∷◌, ◌++◌, length, map, refl, ap, arith}
use Rattle.engine_spec.specs.declared.commits.Commit.{Commit}
use Rattle.engine_spec.specs.declared.commits.Entry.{Entry}
use Rattle.store.specs.Commits.{commits_of}
use Rattle.store.specs.declared.commits.Wrote.{Wrote}

pub count : (entries : List Entry) (wrote : List Wrote) → length entries ≡ length wrote → length (commits_of entries wrote) ≡ length entries
count [] wrote same = refl
count (entry ∷ entries) [] same = absurd (omega arith)
count (entry ∷ entries) (one ∷ wrote) same = ap suc (count entries wrote (omega arith))

pub entries_are : (entries : List Entry) (wrote : List Wrote) → length entries ≡ length wrote → entries ≡ map (λ (commit : Commit). commit.entry) (commits_of entries wrote)
entries_are [] wrote same = refl
entries_are (entry ∷ entries) [] same = absurd (omega arith)
entries_are (entry ∷ entries) (one ∷ wrote) same = ap (λ (rest : List Entry). entry ∷ rest) (entries_are entries wrote (omega arith))

pub one_more : (entries : List Entry) (wrote : List Wrote) (entry : Entry) (one : Wrote) → length entries ≡ length wrote
    → commits_of (entries ++ entry ∷ []) (wrote ++ one ∷ []) ≡ commits_of entries wrote ++ (record { entry = entry; wrote = one.pages; tail = one.tail }) ∷ []
one_more [] [] entry one same = refl
one_more [] (first ∷ wrote) entry one same = absurd (omega arith)
one_more (first ∷ entries) [] entry one same = absurd (omega arith)
one_more (first ∷ entries) (second ∷ wrote) entry one same =
    ap (λ (rest : List Commit). (record { entry = first; wrote = second.pages; tail = second.tail }) ∷ rest) (one_more entries wrote entry one (omega arith))
