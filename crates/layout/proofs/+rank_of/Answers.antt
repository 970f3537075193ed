-- `layout::rank_of` meets its contract: the rank of the dimensions left, times the length, plus the component. `left` falls.
use native.Mathlib.Omega.{arith}
use mathlib.Core.Path.{sym}
use Prim.Native.Nat.{◌+◌, ◌-◌, ◌*◌, ◌≤◌}
use lib.ListN.{get_or}
use Rattle.nest.specs.Places as geometry
use Rattle.layout.proofs.Dims.{rank_turn}
use Rattle.layout.proofs.+rank_of.Goals as goal

pub returns-then-left-eq0 : goal.returns-then-left-eq0
unfolding geometry.rank
returns-then-left-eq0 t c = rw c.if-left-eq0.true

pub rank_of-requires : goal.rank_of-requires
rank_of-requires t c = (omega arith, (rank_turn _ _ _ c.if-left-eq0.false c.requires).ranks)

pub overflow_mul-result : goal.overflow_mul-result
overflow_mul-result t c = record { fits = omega (arith, (let it : c.rank_of.result * get_or c.args.lengths.now (c.args.left - 1) 0 + get_or c.args.at.now (c.args.left - 1) 0 ≤ 65536 = rw c.rank_of.ensures ((rank_turn _ _ _ c.if-left-eq0.false c.requires).fits) in it)) }

pub overflow_add-result : goal.overflow_add-result
overflow_add-result t c = record { fits = omega (arith, (let it : c.rank_of.result * get_or c.args.lengths.now (c.args.left - 1) 0 + get_or c.args.at.now (c.args.left - 1) 0 ≤ 65536 = rw c.rank_of.ensures ((rank_turn _ _ _ c.if-left-eq0.false c.requires).fits) in it)) }

pub returns : goal.returns
returns t c = rw c.rank_of.ensures (sym ((rank_turn _ _ _ c.if-left-eq0.false c.requires).is))
