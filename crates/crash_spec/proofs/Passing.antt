-- Laws of calls that take a disk from one state to another.
use Rattle.std.proofs.Common.{◌≡◌, ℕ, ◌≤◌, List, [], ◌∷◌, ◌++◌, length, Option, Some, None, sym, ◌∙◌, ap, subst, arith, length-append, append_assoc, inl, inr}
use Rattle.disk_face.specs.declared.step.Piece.{Piece}
use Rattle.disk_face.specs.declared.step.Step.{Step}
use Rattle.disk_face.specs.declared.step.Step.TheVariants.{Refused}
use Rattle.disk_face.specs.Files.{Files}
use Rattle.disk_face.specs.Steps.{History, after, further}
use Rattle.disk_face.specs.Told.{Refuses}
use Rattle.disk_face.specs.Image.{MayLeave}
use Rattle.crash_spec.specs.Opening.{Opening, Since, grown, rebased}
use Rattle.crash_spec.specs.Moments.{EachLeft, AtEachMoment}
use Rattle.crash_spec.proofs.Moments.{each_now, each_further, each_join, each_weaker}
use Rattle.crash_spec.proofs.Since.{since_is_one}
use Rattle.crash_spec.specs.Passes.{Passes}

module _ (opening : Opening) (Leaves : History → Files → Type 0) where
  -- what a crash leaves in a state
  abbrev pub Gives : (History → Type 0) → Type 0
  Gives P = (told : History) → P told → (image : Files) → MayLeave opening.before told image → Leaves told image

  -- a call that makes no step
  pub passes_still : (P : History → Type 0) → Gives P → (old : Option History) → Since opening.start P old → Passes opening Leaves P old old
  passes_still P images None h = record { each_moment = tt; holds = tt }
  passes_still P images (Some told) (since, is, h) = record {
    each_moment = (since, [], is, is, each_now opening.before Leaves (rebased opening.start since) (images (rebased opening.start since) h));
    holds = (since, is, h);
  }

  -- one step
  pub passes_step : (P Q : History → Type 0) (step : Step) → Gives P → Gives Q → (old : Option History)
      → ((since : List Step) → old ≡ Some (grown since opening.start) → P (rebased opening.start since) → Q (further step (rebased opening.start since)))
      → Since opening.start P old → Passes opening Leaves Q old (after step old)
  passes_step P Q step images later None goes h = record { each_moment = tt; holds = tt }
  passes_step P Q step images later (Some told) goes (since, is, h) =
      let then = goes since (ap (λ (t : History). Some t) is) h in
      record {
        each_moment = (
          since,
          step ∷ [],
          is,
          ap (further step) is,
          each_further opening.before Leaves step (rebased opening.start since) (length since) (each_now opening.before Leaves (rebased opening.start since) (images (rebased opening.start since) h))
              (later (further step (rebased opening.start since)) then),
        );
        holds = (step ∷ since, ap (further step) is, then);
      }

  -- a write that was refused
  pub passes_refused : (P Q : History → Type 0) (piece : Piece) → Gives P → Gives Q → (old new : Option History)
      → ((told : History) → P told → Q told)
      → ((left : List ℕ) → length left ≤ length piece.bytes → (since : List Step) → old ≡ Some (grown since opening.start) → P (rebased opening.start since) → Q (further (Refused piece left) (rebased opening.start since)))
      → Since opening.start P old → Refuses piece old new → Passes opening Leaves Q old new
  passes_refused P Q piece images later old new weaker goes h (inl same) =
      subst (λ told. Passes opening Leaves Q old told) (sym same) (passes_still Q later old (weaken old h))
    where
      weaken : (told : Option History) → Since opening.start P told → Since opening.start Q told
      weaken None h = tt
      weaken (Some told) (since, is, h) = (since, is, weaker (rebased opening.start since) h)
  passes_refused P Q piece images later old new weaker goes h (inr (left, within, same)) =
      subst (λ told. Passes opening Leaves Q old told) (sym same) (passes_step P Q (Refused piece left) images later old (goes left within) h)

  -- two calls, one after the other
  pub since_join : (old mid new : Option History) → AtEachMoment opening Leaves old mid → AtEachMoment opening Leaves mid new → AtEachMoment opening Leaves old new
  since_join None None None one two = tt
  since_join None (Some mid) new one two = absurd one
  since_join (Some old) None new one two = absurd one
  since_join None None (Some new) one two = absurd two
  since_join (Some old) (Some mid) None one two = absurd two
  since_join (Some old) (Some mid) (Some new) (since, few, is, then, first) (later, more, same, last, second) =
      let steps : later ≡ few ++ since = since_is_one opening.start later (few ++ since) (sym same ∙ then) in
      let at_mid : EachLeft opening.before (rebased opening.start (more ++ (few ++ since))) (length (few ++ since)) Leaves = subst (λ (xs : List Step). EachLeft opening.before (rebased opening.start (more ++ xs)) (length xs) Leaves) steps second in
      let all : EachLeft opening.before (rebased opening.start (more ++ (few ++ since))) (length since) Leaves =
      each_join opening.before Leaves (rebased opening.start (few ++ since)) more (length since) (omega (arith, length-append few since)) first at_mid in
      let joined : more ++ (few ++ since) ≡ (more ++ few) ++ since = sym (append_assoc more few since) in (
        since,
        more ++ few,
        is,
        last ∙ ap (λ (xs : List Step). grown (more ++ xs) opening.start) steps ∙ ap (λ (xs : List Step). grown xs opening.start) joined,
        subst (λ (xs : List Step). EachLeft opening.before (rebased opening.start xs) (length since) Leaves) joined all,
      )

  pub passes_join : (P Q : History → Type 0) (old mid new : Option History) → Passes opening Leaves P old mid → Passes opening Leaves Q mid new → Passes opening Leaves Q old new
  passes_join P Q old mid new one two = record { each_moment = since_join old mid new one.each_moment two.each_moment; holds = two.holds }

-- what is weaker
pub passes_weaker : (opening : Opening) (Leaves Others : History → Files → Type 0) (P Q : History → Type 0)
    → ((told : History) (image : Files) → Leaves told image → Others told image) → ((told : History) → P told → Q told)
    → (old new : Option History) → Passes opening Leaves P old new → Passes opening Others Q old new
passes_weaker opening Leaves Others P Q images states old new passes = record { each_moment = each old new passes.each_moment; holds = state new passes.holds }
  where
    each : (old new : Option History) → AtEachMoment opening Leaves old new → AtEachMoment opening Others old new
    each None None one = tt
    each None (Some new) one = absurd one
    each (Some old) None one = absurd one
    each (Some old) (Some new) (since, more, is, then, all) = (since, more, is, then, each_weaker opening.before Leaves Others images (rebased opening.start (more ++ since)) (length since) all)

    state : (told : Option History) → Since opening.start P told → Since opening.start Q told
    state None h = tt
    state (Some told) (since, is, h) = (since, is, states (rebased opening.start since) h)
