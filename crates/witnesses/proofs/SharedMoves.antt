-- What others do inside a call, and the event that comes after it.
use Rattle.std.proofs.Common.{◌≡◌, ◌∙◌, ℕ, ◌≤◌, List, [], ◌∷◌, ◌++◌, length, refl, sym, ap, subst, arith}
use Rattle.std.specs.Prelude.{Option, Some, None, IfSome}
use Rattle.std.proofs.lemmas.List.Elements.{All-push}
use Rattle.page_spec.specs.PageMap.{PageMap}
use Rattle.engine_spec.specs.declared.pins.Pin.{Pin}
use Rattle.engine_spec.specs.State.{EngineState, Later, During}
use Rattle.engine_spec.specs.Written.{commit_of}
use Rattle.engine_spec.proofs.Here.{later_same}
use Rattle.page_face.specs.declared.means.Means.{Ghosts as Meaning}
use Rattle.page_face.specs.Pins.{IsLive, KeepsPins}
use Rattle.page_face.specs.Prepared.{IsGood}
use Rattle.memory_engine.specs.Plain.{PlainLive, PlainRuns, state_of}
use Rattle.witnesses.specs.declared.shared.Shared.{Shared}
use Rattle.witnesses.specs.declared.shared.Waiting.{Waiting}
use Rattle.witnesses.specs.Shared.{SharedLive, SharedRuns, TheirsCame, OthersCame, SomeCommitted, shared_state, plain_map, pin_of, viewed}
use Rattle.witnesses.specs.SharedLaws.{held_inside}
use Rattle.witnesses.proofs.OwnNumbers.{one_longer}
use Rattle.witnesses.proofs.SharedCommits.{later_theirs}
use Rattle.witnesses.proofs.SharedPins.{without_waiting}

-- what is said of what waits is said of it where it does
pub at_waiting : {M : Type 0} (found : Option (Waiting M)) (waiting : Waiting M) (P : Waiting M → Type 0) → found ≡ Some waiting → IfSome found P → P waiting
at_waiting {M = M} found waiting P is holds = subst (λ (one : Option (Waiting M)). IfSome one P) is holds

-- what waited became the commit of this number
pub theirs_came : {M : Type 0} (means : Meaning M) (old new : Shared M) (pins : List Pin) (waiting : Waiting M) (number : ℕ) → SharedLive old pins
    → old.waiting ≡ Some waiting → new.waiting ≡ None → new.theirs.items ≡ old.theirs.items ++ number ∷ [] → new.commits ≡ number
    → new.since ≡ old.since → new.barred ≡ old.barred → SomeCommitted old.plain number new.plain
    → KeepsPins PlainLive plain_map old.plain new.plain
    → ((first : PageMap) → PlainRuns (means.sound first) (means.leads first) first old.plain
    → IfSome (plain_map old.plain waiting.pin) (λ snapshot. IsGood (means.sound first) (means.leads first) snapshot waiting.prepared)
    → PlainRuns (means.sound first) (means.leads first) first new.plain)
    → TheirsCame means old new
theirs_came means old new pins waiting number live is none theirs commits since barred came keeps runs =
    let longer = one_longer old.plain.history (commit_of came.0 came.1.pages) in
    let grown : length new.plain.history ≡ length (old.plain.history ++ commit_of came.0 came.1.pages ∷ []) =
    ap (λ (s : EngineState). length s.history) came.1.after_is in
    let next = came.1.number_is in
    record {
      later = rw theirs
          (later_theirs old.theirs.items old.since old.readers new.since new.readers old.plain number new.plain
          (rw (← live.commits) live.theirs) came);
      pins = record {
        hold = λ held one. record {
          plain = rw none (keeps.hold held (without_waiting old.waiting old.plain held one.plain));
          fit = rw none tt;
          commits = omega (arith, commits, grown, longer, next);
          theirs = rw (theirs, commits)
              (All-push (λ (n : ℕ). n ≤ number) old.theirs.items number
              (λ k d within. let bound = one.theirs k d within in omega (arith, one.commits, next)) (omega arith));
          since = omega (arith, since, commits, one.since, one.commits, next);
        };
        maps = λ pin held. keeps.maps pin (held_inside old pin held);
      };
      runs = λ first run. record {
        plain = runs first run.plain (at_waiting old.waiting waiting
            (λ w. IfSome (plain_map old.plain w.pin) (λ snapshot. IsGood (means.sound first) (means.leads first) snapshot w.prepared)) is run.good);
        good = rw none tt;
      };
      none = none;
      barred = barred;
    }

-- what waited, if anything did, is gone, and the engine in memory tells what it told
pub none_came : {M : Type 0} (means : Meaning M) (old new : Shared M) → state_of new.plain ≡ state_of old.plain → new.waiting ≡ None
    → new.theirs.items ≡ old.theirs.items → new.commits ≡ old.commits → new.since ≡ old.since → new.readers ≡ old.readers
    → new.barred ≡ old.barred → KeepsPins PlainLive plain_map old.plain new.plain
    → ((first : PageMap) → SharedRuns (means.sound first) (means.leads first) first old
    → PlainRuns (means.sound first) (means.leads first) first new.plain)
    → TheirsCame means old new
none_came means old new same none theirs commits since readers barred keeps runs = record {
  later = subst (λ (s : EngineState). Later (shared_state old) s)
      (sym (ap (λ (s : EngineState). viewed new.theirs.items new.since new.readers s) same
      ∙ ap (λ (ts : List ℕ). viewed ts new.since new.readers (state_of old.plain)) theirs
      ∙ ap (λ (n : ℕ). viewed old.theirs.items n new.readers (state_of old.plain)) since
      ∙ ap (λ (n : ℕ). viewed old.theirs.items old.since n (state_of old.plain)) readers))
      (later_same (shared_state old));
  pins = record {
    hold = λ held one. record {
      plain = rw none (keeps.hold held (without_waiting old.waiting old.plain held one.plain));
      fit = rw none tt;
      commits = omega (arith, commits, one.commits, ap (λ (s : EngineState). length s.history) same);
      theirs = rw (theirs, commits) one.theirs;
      since = rw (since, commits) one.since;
    };
    maps = λ pin held. keeps.maps pin (held_inside old pin held);
  };
  runs = λ first run. record { plain = runs first run; good = rw none tt };
  none = none;
  barred = barred;
}

-- a call's event comes after what others did
pub after_them : {M : Type 0} (means : Meaning M) (old mid : Shared M) (event : EngineState → Type 0) → OthersCame means old mid
    → event (shared_state mid) → During (shared_state old) event
after_them means old mid event came here = (shared_state mid, came.came.later, here)

-- the pin of what waits holds in the engine in memory
pub waits_live : {M : Type 0} (shared : Shared M) (waiting : Waiting M) → shared.waiting ≡ Some waiting
    → ((pins : List Pin) × SharedLive shared pins) → IsLive PlainLive shared.plain waiting.pin
waits_live {M = M} shared waiting is (pins, live) =
    (waiting.pin ∷ pins, subst (λ (one : Option (Waiting M)). PlainLive shared.plain (pin_of one ++ pins)) is live.plain, (0, omega arith, refl))

-- the log begins anew, and the readers are counted again
pub log_anew : {M : Type 0} (means : Meaning M) (old mid : Shared M) (readers : ℕ) → TheirsCame means old mid
    → OthersCame means old (record mid { since = mid.commits; readers = readers })
log_anew means old mid readers came = record {
  came = record {
    later = let l = came.later in record {
      more = l.more;
      grown = l.grown;
      own = l.own;
      told = l.told;
      size = l.size;
      stopped = l.stopped;
      faults = l.faults;
      page_size = l.page_size;
      usable = l.usable;
      always_begins = l.always_begins;
      alone = l.alone;
      keeps_logs = refl;
      logs = λ always. absurd cc;
      readers = λ always. absurd cc;
      disk = l.disk;
      nobody = λ alone. absurd cc;
    };
    pins = record {
      hold = λ pins live. let one = came.pins.hold pins live in record {
        plain = one.plain;
        fit = one.fit;
        commits = one.commits;
        theirs = one.theirs;
        since = omega arith;
      };
      maps = λ pin live. came.pins.maps pin live;
    };
    runs = λ first run. let one = came.runs first run in record { plain = one.plain; good = one.good };
    none = came.none;
    barred = came.barred;
  };
  since = refl;
}
