-- `rows_alike` meets its contract: by the dimension before the last.
use native.Mathlib.Omega.{arith}
use Prim.Native.Nat.{ℕ, ◌-◌, ◌<◌}
use mathlib.Core.Path.{refl}
use native.Mathlib.Nat.{mod-lt}
use lib.ListN.{get_or}
use Rattle.nest.proofs.Shapes.{framed, row_inside}
use Rattle.part.proofs.Rows as rows
use Rattle.part.proofs.rows_alike.Goals as goal

pub row_place-at-requires : goal.row_place-at-requires
row_place-at-requires c = framed _ c.requires.0

pub overflow_sub-nest : goal.overflow_sub-nest
overflow_sub-nest c =
    let row = c.row_place-at in
    omega (
      arith,
      row_inside c.args.nest (framed _ c.requires.0) c.args.q row.result row.ensures (c.args.nest.dimensions - 2)
          (omega (arith, c.requires.0.dimensions_least)),
    )

pub place_along-requires : goal.place_along-requires
place_along-requires c =
    let row = c.row_place-at in
    let j : ℕ = c.args.nest.dimensions - 2 in
    let low : j < c.args.nest.dimensions = omega (arith, c.requires.0.dimensions_least) in (
      omega (
        arith,
        row_inside c.args.nest (framed _ c.requires.0) c.args.q row.result row.ensures j low,
        c.requires.0.length_most j,
      ),
      (c.requires.0.tiled j low, omega (arith, c.requires.0.tile_most j)),
    )

pub overflow_sub-k : goal.overflow_sub-k
overflow_sub-k c =
    let some = c.requires.0.tiled (c.args.nest.dimensions - 2) (omega (arith, c.requires.0.dimensions_least)) in
    omega (
      arith,
      c.place_along.ensures,
      mod-lt (get_or c.row_place-at.result (c.args.nest.dimensions - 2) 0) some,
    )

pub returns : goal.returns
returns c =
    let x = c.args.nest in
    let at = c.row_place-at in
    let j : ℕ = x.dimensions - 2 in
    let low : j < x.dimensions = omega (arith, c.requires.0.dimensions_least) in
    let inside = row_inside x (framed _ c.requires.0) c.args.q at.result at.ensures j low in
    let some = mod-lt (get_or at.result j 0) (c.requires.0.tiled j low) in
    let rest = c.place_along.ensures in
    let first = c.min-left.ensures in
    let second = c.min.ensures in (
      rows.alike x c.requires.0 c.args.q at.result at.ensures c.min.result (get_or at.result j 0) refl
          (omega (arith, first, second, rest, inside, some, c.requires.1)) (omega (arith, first, second)) (omega (arith, first, second, rest)),
      omega (arith, second),
    )
