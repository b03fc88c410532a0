use Rattle.std.proofs.Common.{ℕ, List, length, refl, sym, subst, inl, inr, arith}
use Rattle.std.specs.Prelude.{Contains}
use Rattle.engine_spec.proofs.PageSets.{with_has, with_keeps, with_cases}
use Rattle.witnesses.proofs.Shelves.{bounded_after}
use Rattle.witnesses.proofs.shelf.ShelfEditPages.give_up.Goals as goal

pub invariant_of-self-clause-held : goal.invariant_of-self-clause-held
invariant_of-self-clause-held c =
    bounded_after c.add.result c.args.self.now.given c.add.new.self c.args.page (length c.args.self.now.pages) c.add.ensures.ok
    c.add.ensures.err c.requires.page.1 c.args.self.now.held

pub returns-in-Ok : goal.returns-in-Ok
returns-in-Ok c =
    let given = c.args.self.now.given in
    let page = c.args.page in
    let e = c.in-Ok.ensures.ok in
    record {
      given = λ world told. record {
        given = inr (subst (λ (set : List ℕ). Contains set page) (sym e) (with_has given page));
        stay = λ number free. elim free [
          | inl past ↦ inl past
          | inr there ↦ inr (subst (λ (set : List ℕ). Contains set number) (sym e) (with_keeps given page number there))
        ];
        none_more = λ number apart free. elim free [
          | inl past ↦ inl past
          | inr there ↦ elim (with_cases given page number (subst (λ (set : List ℕ). Contains set number) e there)) [
            | inl same ↦ absurd (apart same)
            | inr others ↦ inr others
          ]
        ];
        each = λ number apart unfree. refl;
        neat = λ unfree neat. tt;
        no_more_spare = λ none. none;
      };
      refused = tt;
      cause = tt;
      last = refl;
      changed = λ world told neat number has. inl refl;
      read = λ world told neat number there. inl there;
      edits = record {
        narrows = λ world told. told;
        last = omega arith;
        has = λ number has. has;
        reads = λ number there. there;
        ready = tt;
        page_size = refl;
        usable = refl;
        faults = omega arith;
        loans = refl;
        follows = tt;
      };
    }
