-- `bands::edge_rows::word_at` meets its contract.
use native.Mathlib.Omega.{arith}
use Prim.Native.Nat.{◌-◌}
use mathlib.Core.Path.{sym, ◌∙◌}
use borrow.Author.Tests.{lt-leb, le-leb}
use Rattle.base.proofs.Tests.{pick_true, pick_false}
use Rattle.bands.proofs.edge_rows.word_at.Goals as goal

pub returns-then-component-first : goal.returns-then-component-first
returns-then-component-first c = (sym (pick_false _ _ _ (lt-leb _ _ c.if-component-first.true)), c.requires.1.0)

pub returns : goal.returns
returns c = (
  c.from.ensures ∙ sym (pick_true _ _ _ (le-leb _ _ c.if-component-first.false)),
  omega (arith, c.from.ensures, c.type_inv.memory (c.args.cell - c.args.back)),
)
