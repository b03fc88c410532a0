-- What is asked for is within its limits.
use Rattle.std.proofs.Common.{◌≡◌, ℕ, ◌≤◌, true, false, ◌&&◌, cond, leb, codes, bytes_eq, List, [], ◌∷◌, Option, Some, None, IfSome, IsTrue, is_none, unwrap_or, Bool, refl, subst, arith}
use Rattle.std.proofs.lemmas.Bool.{and_parts, leb-true}
use Rattle.std.proofs.lemmas.Option.{none-some, same_Some, cond_some, option_and_then_some}
use Rattle.page_spec.specs.Header.{is_page_size}
use Rattle.words.specs.Words.{GivenWords, nothing_given, is_path, is_number, is_limit, is_size, is_dashed, has_front, without_front, number_spelled, with_path, with_limit, with_size, with_word, given_as_paths, given_by, pages_of, path_alone, AreWithinLimits}

-- what is given so far is within its limits
pub record AreWithin (given : GivenWords) : Type 0 where
  pub path : IfSome given.path (λ path. IsTrue (is_path path))
  pub limit : IfSome given.limit (λ limit. (1 ≤ limit) × (limit ≤ 1000000))
  pub page_size : IfSome given.page_size (λ size. IsTrue (is_page_size size))

pub nothing_within : AreWithin nothing_given
nothing_within = record { path = tt; limit = tt; page_size = tt }

-- a limit is within its bounds
pub limit_within : (text : List ℕ) → is_limit text ≡ true → (1 ≤ number_spelled text) × (number_spelled text ≤ 1000000)
unfolding is_limit
limit_within text is =
    let parts = and_parts (is_number text && leb 1 (number_spelled text)) (leb (number_spelled text) 1000000) is in
    let first = and_parts (is_number text) (leb 1 (number_spelled text)) parts.0 in
    (leb-true 1 (number_spelled text) first.1, leb-true (number_spelled text) 1000000 parts.1)

-- each step leaves what is given within its limits
pub with_path_within : (word : List ℕ) (given next : GivenWords) → AreWithin given → with_path word given ≡ Some next → AreWithin next
unfolding with_path
with_path_within word given next within so =
    let parts = cond_some _ _ _ so in
    subst AreWithin parts.1 (record { path = (and_parts _ _ parts.0).1; limit = within.limit; page_size = within.page_size })

pub with_limit_within : (text : List ℕ) (given next : GivenWords) → AreWithin given → with_limit text given ≡ Some next → AreWithin next
unfolding with_limit
with_limit_within text given next within so =
    let parts = cond_some _ _ _ so in
    subst AreWithin parts.1 (record { path = within.path; limit = limit_within text (and_parts _ _ parts.0).1; page_size = within.page_size })

pub with_size_within : (text : List ℕ) (given next : GivenWords) → AreWithin given → with_size text given ≡ Some next → AreWithin next
unfolding with_size is_size
with_size_within text given next within so =
    let parts = cond_some _ _ _ so in
    let size = and_parts _ _ parts.0 in
    subst AreWithin parts.1 (record { path = within.path; limit = within.limit; page_size = (and_parts _ _ size.1).1 })

-- a choice of steps, of which each one does
pub either_within : (test : Bool) (one other : Option GivenWords) → ((next : GivenWords) → one ≡ Some next → AreWithin next) → ((next : GivenWords) → other ≡ Some next → AreWithin next)
    → (next : GivenWords) → cond test one other ≡ Some next → AreWithin next
either_within true one other by_one by_other = by_one
either_within false one other by_one by_other = by_other

pub with_word_within : (word : List ℕ) (given next : GivenWords) → AreWithin given → with_word word given ≡ Some next → AreWithin next
unfolding with_word
with_word_within word given next within so =
    either_within (has_front (codes "--limit=") word) _ _ (λ next so. with_limit_within (without_front (codes "--limit=") word) given next within so)
    (either_within (has_front (codes "--page-size=") word) _ _ (λ next so. with_size_within (without_front (codes "--page-size=") word) given next within so)
    (either_within (is_dashed word) _ _ (λ next so. absurd (none-some next so)) (λ next so. with_path_within word given next within so)))
    next so

pub paths_within : (words : List (List ℕ)) (given last : GivenWords) → AreWithin given → given_as_paths words given ≡ Some last → AreWithin last
unfolding given_as_paths
paths_within [] given last within so = subst AreWithin (same_Some given last so) within
paths_within (word ∷ words) given last within so =
    option_and_then_some (given_as_paths words) (with_path word given) last so (λ next one rest.
    paths_within words next last (with_path_within word given next within one) rest)

pub given_within : (words : List (List ℕ)) (given last : GivenWords) → AreWithin given → given_by words given ≡ Some last → AreWithin last
unfolding given_by
given_within [] given last within so = subst AreWithin (same_Some given last so) within
given_within (word ∷ []) given last within so =
    either_within (bytes_eq word (codes "--")) _ _ (λ last so. subst AreWithin (same_Some given last so) within) (λ last so. with_word_within word given last within so) last so
given_within (word ∷ next ∷ words) given last within so =
    either_within (bytes_eq word (codes "--")) _ _ (λ last so. paths_within (next ∷ words) given last within so)
    (either_within (bytes_eq word (codes "--limit")) _ _
    (λ last so. option_and_then_some (given_by words) (with_limit next given) last so (λ now one rest. given_within words now last (with_limit_within next given now within one) rest))
    (either_within (bytes_eq word (codes "--page-size")) _ _
    (λ last so. option_and_then_some (given_by words) (with_size next given) last so (λ now one rest. given_within words now last (with_size_within next given now within one) rest))
    (λ last so. option_and_then_some (given_by (next ∷ words)) (with_word word given) last so (λ now one rest. given_within (next ∷ words) now last (with_word_within word given now within one) rest))))
    last so

-- what stands where an option isn't given is within its limits too
pub filled_within : (given : GivenWords) → AreWithin given → AreWithinLimits (pages_of given)
unfolding is_page_size
filled_within given within = record {
  path = within.path;
  limit = limit_or given.limit within.limit;
  page_size = size_or given.page_size within.page_size;
}
  where
    limit_or : (limit : Option ℕ) → IfSome limit (λ limit. (1 ≤ limit) × (limit ≤ 1000000)) → (1 ≤ unwrap_or limit 1000) × (unwrap_or limit 1000 ≤ 1000000)
    limit_or None within = (omega arith, omega arith)
    limit_or (Some limit) within = within

    size_or : (size : Option ℕ) → IfSome size (λ size. IsTrue (is_page_size size)) → IsTrue (is_page_size (unwrap_or size 4096))
    size_or None within = refl
    size_or (Some size) within = within

-- a path that is all that is given is one
pub alone_within : (given : GivenWords) (path : List ℕ) → AreWithin given → path_alone given ≡ Some path → IsTrue (is_path path)
unfolding path_alone
alone_within given path within so = by_path given.path (is_none given.limit && is_none given.page_size) within.path so
  where
    by_path : (found : Option (List ℕ)) (alone : Bool) → IfSome found (λ path. IsTrue (is_path path)) → cond alone found None ≡ Some path → IsTrue (is_path path)
    by_path None true within so = absurd (none-some path so)
    by_path None false within so = absurd (none-some path so)
    by_path (Some one) true within so = subst (λ word. IsTrue (is_path word)) (same_Some one path so) within
    by_path (Some one) false within so = absurd (none-some path so)
