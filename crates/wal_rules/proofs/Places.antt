-- Where the commits of a log stand among its frames.
use Rattle.std.proofs.Common.{◌≡◌, ◌∙◌, ℕ, zero, suc, ◌+◌, ◌<◌, List, [], ◌∷◌, ◌++◌, length, slice_index, refl, ap, arith, length-append}
use Rattle.std.proofs.lemmas.List.{get_or_append_left, get_or-append-add}
use Rattle.std.proofs.lemmas.Grind.{flat_map-append}
use Rattle.engine_spec.specs.declared.commits.Commit.{Commit}
use Rattle.engine_spec.specs.TwoLogs.{frames_of}
use Rattle.engine_spec.specs.Written.{numbers_from}
use Rattle.wal_index.specs.Commits.{start_of}
use Rattle.wal_rules.specs.Indexing.{ends_of}

-- a list around one of its elements
pub record Around {X : Type 0} (xs : List X) (place : ℕ) : Type 0 where
  pub before : List X
  pub one : X
  pub after : List X
  pub parts : xs ≡ before ++ one ∷ after
  pub place_is : length before ≡ place

pub around : {X : Type 0} (xs : List X) (place : ℕ) → place < length xs → Around xs place
around [] place inside = absurd (omega arith)
around (x ∷ xs) zero inside = record { before = []; one = x; after = xs; parts = refl; place_is = refl }
around (x ∷ xs) (suc place) inside =
    let rest = around xs place (omega arith) in
    record {
      before = x ∷ rest.before;
      one = rest.one;
      after = rest.after;
      parts = ap (λ ys. x ∷ ys) rest.parts;
      place_is = ap suc rest.place_is;
    }

-- how many numbers there are
pub numbers-length : (number count : ℕ) → length (numbers_from number count) ≡ count
numbers-length number zero = refl
numbers-length number (suc count) = ap suc (numbers-length (number + 1) count)

-- and which they are
pub number-at : (number count place : ℕ) → place < count → slice_index (numbers_from number count) place ≡ number + place
number-at number zero place inside = absurd (omega arith)
number-at number (suc count) zero inside = omega arith
number-at number (suc count) (suc place) inside = number-at (number + 1) count place (omega arith) ∙ omega arith

-- each commit has an end
pub ends-length : (before : ℕ) (commits : List Commit) → length (ends_of before commits) ≡ length commits
ends-length before [] = refl
ends-length before (commit ∷ commits) = ap suc (ends-length (before + length commit.wrote) commits)

-- the end of a commit is behind its frames and those of the commits before
pub end-at : (many : ℕ) (before : List Commit) (one : Commit) (after : List Commit)
    → slice_index (ends_of many (before ++ one ∷ after)) (length before) ≡ many + (length (frames_of before) + length one.wrote)
end-at many [] one after = omega arith
end-at many (commit ∷ before) one after =
    end-at (many + length commit.wrote) before one after ∙ omega (arith, length-append commit.wrote (frames_of before))

-- its first frame is behind those of the commits before
pub start-at : (before : List Commit) (one : Commit) (after : List Commit)
    → start_of (ends_of 0 (before ++ one ∷ after)) (length before) ≡ length (frames_of before)
start-at [] one after = refl
start-at (commit ∷ before) one after = go 0 commit before ∙ omega arith
  where
    go : (many : ℕ) (commit : Commit) (before : List Commit)
        → slice_index (ends_of many (commit ∷ (before ++ one ∷ after))) (length before) ≡ many + length (frames_of (commit ∷ before))
    go many commit [] = omega (arith, length-append commit.wrote [])
    go many commit (next ∷ before) =
        go (many + length commit.wrote) next before ∙ omega (arith, length-append commit.wrote (frames_of (next ∷ before)))

-- a frame of the commit, among all frames
pub frame-at : (before : List Commit) (one : Commit) (after : List Commit) (place : ℕ) → place < length one.wrote
    → slice_index (frames_of (before ++ one ∷ after)) (length (frames_of before) + place) ≡ slice_index one.wrote place
frame-at before one after place inside =
    ap (λ (pages : List ℕ). slice_index pages (length (frames_of before) + place)) (flat_map-append (λ (commit : Commit). commit.wrote) before (one ∷ after))
    ∙ get_or-append-add (frames_of before) (one.wrote ++ frames_of after) place 0
    ∙ get_or_append_left one.wrote (frames_of after) 0 place inside
