use Rattle.std.proofs.Common.{ℕ, sym, subst}
use Rattle.std.specs.Prelude.{OnOk}
use Rattle.tree_keys.specs.Keys.{sought_by}
use Rattle.tree_insert.specs.Inserting.{PutsTreeEach}
use Rattle.tree_insert.proofs.root.insert_at_node.Goals as goal

pub returns-then-is_first_leaf-clause-inserted : goal.returns-then-is_first_leaf-clause-inserted
returns-then-is_first_leaf-clause-inserted g c =
    subst (λ (n : ℕ). OnOk c.insert_in_first.result (PutsTreeEach g.P.PagesTells c.args.pages.now (sought_by c.args.key) c.args.payload.now n c.insert_in_first.new.pages))
    (sym (c.is_first_leaf.ensures.yes c.if-is_first_leaf.true).0) c.insert_in_first.ensures.inserted
