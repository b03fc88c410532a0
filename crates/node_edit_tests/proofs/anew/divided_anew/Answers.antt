use Rattle.std.proofs.Common.{◌≡◌, ◌&&◌, false, List, ℕ, Some, sym, ap, subst, ◌∙◌, inl, inr, arith, All}
use Rattle.std.proofs.lemmas.Bool.{true≢false}
use Rattle.node_spec.specs.declared.kinds.Kind.{Kind}
use Rattle.node_spec.specs.Kinds.{is_leaf, is_table}
use Rattle.node_spec.specs.Cells.{IsOneCell}
use Rattle.node_spec.specs.Nodes.{node_of}
use Rattle.node_edit_tests.proofs.anew.divided_anew.Goals as goal

pub divide_joined-requires-clause-pages : goal.divide_joined-requires-clause-pages
divide_joined-requires-clause-pages c =
    let one = c.in_ok-page.ensures.told in
    let two = c.in_ok-other.ensures.told in (
      one.0,
      two.0,
      one.1.shown,
      subst (λ (b : List ℕ). node_of 512 false b ≡ Some two.0) (sym (c.take_over.ensures.same c.if-take_over.false)) two.1.shown,
      record {
        kind = sym two.1.kind ∙ c.is_same.ensures c.if-not-is_same.false ∙ one.1.kind;
        cells = subst (λ (k : Kind). All (IsOneCell k 512) c.args.between.now) one.1.kind (c.are_cells.ensures.all c.if-not-are_cells.false);
        few = omega (arith, c.if-between-gt2.false);
        rows = λ is. absurd (true≢false (sym is ∙ ap (λ (k : Kind). is_leaf k && is_table k) (sym one.1.kind) ∙ sym c.is_rows.ensures ∙ c.if-is_rows.false));
        thin = elim (c.is_thin.ensures c.if-not-is_thin.false) [
          | inl none ↦ inl (sym one.1.count ∙ none)
          | inr none ↦ inr (sym two.1.count ∙ none)
        ];
        lacks = c.take_over.ensures.lacks c.if-take_over.false one.0 two.0 one.1.shown two.1.shown;
      },
    )
