-- `behind` meets its contract: ranks do not fall.
use Prim.Native.Nat.{◌+◌, ◌-◌}
use native.Mathlib.Omega.{arith}
use Rattle.rank_index.proofs.Ranks as ranks
use Rattle.rank_index.proofs.behind.Goals as goal

pub overflow_add-result : goal.overflow_add-result
overflow_add-result c = omega (arith, c.requires.ahead_value, c.requires.counted.1.0, c.requires.counted.0.1, ranks.rank_most c.args.marks.now (c.args.cell + c.args.ahead))

pub overflow_sub-result : goal.overflow_sub-result
overflow_sub-result c =
    omega (
      arith,
      c.rank-read.ensures,
      c.requires.ahead_value,
      ranks.rank_mono c.args.marks.now (c.args.cell + c.args.ahead - c.args.back) (c.args.cell + c.args.ahead) (omega arith),
    )

pub returns : goal.returns
returns c =
    omega (
      arith,
      c.rank-read.ensures,
      c.requires.ahead_value,
      ranks.rank_mono c.args.marks.now (c.args.cell + c.args.ahead - c.args.back) (c.args.cell + c.args.ahead) (omega arith),
    )
