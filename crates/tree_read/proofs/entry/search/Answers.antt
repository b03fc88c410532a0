use Rattle.std.proofs.Common.{arith, inl, inr}
use Rattle.tree_read.proofs.Searching.{index_outside, no_buffers}
use Rattle.tree_read.proofs.entry.search.Goals.{then-root-lt1-via-then-root-lt1, then-root-lt1-via-else-root-lt1+then-root-last}
use Rattle.tree_read.proofs.entry.search.Goals as goal

pub returns-then-root-lt1-clause-searched : goal.returns-then-root-lt1-clause-searched
returns-then-root-lt1-clause-searched g c = index_outside g.P.PagesTells c.args.pages.now c.args.root c.args.entry.now (elim c.then-root-lt1.branch [
  | then-root-lt1-via-then-root-lt1 w ↦ inl w.if-root-lt1.true
  | then-root-lt1-via-else-root-lt1+then-root-last w ↦ inr (omega (arith, w.if-root-last.true, w.last.ensures))
])

pub returns-in-Err-clause-searched : goal.returns-in-Err-clause-searched
returns-in-Err-clause-searched g c = no_buffers g.P.PagesTells c.args.pages.now c.args.root c.args.entry.now c.in-Err.why c.in-Err.ensures.cause

pub returns-in-Err-page_buffer-clause-searched : goal.returns-in-Err-page_buffer-clause-searched
returns-in-Err-page_buffer-clause-searched g c = no_buffers g.P.PagesTells c.args.pages.now c.args.root c.args.entry.now c.in-Err-page_buffer.why c.in-Err-page_buffer.ensures.cause
