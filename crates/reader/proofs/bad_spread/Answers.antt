-- `reader::bad_spread` meets its contract: what `any` answers over the range.
use mathlib.Core.Path.{◌≡◌, ◌∙◌, refl}
use Prim.Native.Nat.{◌-◌}
use mathlib.Core.Logic.{◌≢◌}
use native.Mathlib.Omega.{arith}
use borrow.Author.Rules.{rules}
use borrow.Author.Tests.{tests, lt-ltb}
use Rattle.std.proofs.lemmas.Iterator.{YieldsList-from_range}
use Rattle.std.proofs.lemmas.Iterator.Search.{any_from_yields_List}
use Rattle.base.proofs.Chains.{range_any}
use Rattle.base.proofs.Tests.{not-true}
use Rattle.base.specs.Tests.{◌or◌, not, some}
use Rattle.nest.specs.declared.Nest.{Nest}
use Rattle.nest.specs.Nest.{processor_count}
use Rattle.nest.specs.Reader.{bad_spread}
use Rattle.nest.proofs.Laws as L
use Rattle.reader.proofs.bad_spread.Goals as goal

later : (x : Nest) → processor_count x 0 ≢ 0 → some (L.spread_after x) (x.dimensions - 1) ≡ bad_spread x
unfolding bad_spread ◌or◌
later x h = simp (not-true (lt-ltb 0 (processor_count x 0) (omega arith)))

pub returns-then-nest-eq0 : goal.returns-then-nest-eq0
unfolding bad_spread ◌or◌ not
returns-then-nest-eq0 c = search rules

pub returns-else-nest-eq0 : goal.returns-else-nest-eq0
returns-else-nest-eq0 c =
    any_from_yields_List (L.spread_after c.args.nest) _ _ _ c.any.ensures.ran
    (YieldsList-from_range 0 (c.args.nest.dimensions - 1) (c.args.nest.dimensions - 1) refl (omega arith)) (λ x b q k. search (rules, tests))
    ∙ range_any _ _ ∙ later c.args.nest c.if-nest-eq0.false
