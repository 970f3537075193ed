-- `values::shaped_values::copy_row` meets its contract: the row has one processor; its cells before and behind the span are outside.
use Prim.Native.Nat.{◌-◌}
use mathlib.Core.Path.{◌∙◌}
use native.Mathlib.Omega.{arith}
use Rattle.nest.proofs.Shapes.{framed}
use Rattle.values.proofs.shaped_values.Stores.{copied_row}
use Rattle.values.proofs.shaped_values.Words.{place_narrow, copy_low, copy_room, row_copied}
use Rattle.values.proofs.shaped_values.copy_row.Goals as goal

pub span_of-own-requires : goal.span_of-own-requires
span_of-own-requires c = (framed _ c.args.layout.now.sized.accepted, place_narrow _ c.args.layout.now.sized.accepted _ c.requires.located.0)

pub overlap-kept-requires : goal.overlap-kept-requires
overlap-kept-requires c = omega (arith, c.requires.located.1.1, c.args.layout.now.sized.accepted.length_most (c.args.layout.now.nest.dimensions - 1))

pub copy_part-requires : goal.copy_part-requires
copy_part-requires c =
    let l = copy_low _ c.args.layout.now.sized.accepted _ c.requires.located.0 _ c.requires.located.1.0 c.requires.located.1.1 _ _ c.span_of-own.ensures
    c.overlap-kept.ensures in
    let r = copy_room _ c.args.layout.now.sized.accepted _ _ _ _ _ c.processor_of-processor.ensures.1 c.args.layout.now.sized.cells c.requires.sized.0 l in
    (omega (arith, l, c.requires.sized.1), r.0)

pub returns : goal.returns
returns c =
    let l = copy_low _ c.args.layout.now.sized.accepted _ c.requires.located.0 _ c.requires.located.1.0 c.requires.located.1.1 _ _ c.span_of-own.ensures
    c.overlap-kept.ensures in
    let r = copy_room _ c.args.layout.now.sized.accepted _ _ _ _ _ c.processor_of-processor.ensures.1 c.args.layout.now.sized.cells c.requires.sized.0 l in
    row_copied _ c.args.layout.now.sized.accepted _ c.requires.located.0 _ c.requires.located.1.0 c.requires.located.1.1 _ _ c.span_of-own.ensures c.overlap-kept.ensures
    _ _ _ _ _ c.tile_of-tile.ensures.0 c.processor_of-processor.ensures.0 _ c.args.layout.now.sized.cells (c.copy_part.ensures
    ∙ copied_row _ _ _ _ _ (omega (arith, l, c.requires.sized.1)) r.0)
