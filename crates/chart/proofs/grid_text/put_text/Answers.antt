use native.Mathlib.Omega.{arith}
use mathlib.Core.Path.{refl}
use Rattle.nest.specs.Nest.{length_of}
use Rattle.nest.specs.Shape.{in_shape}
use Rattle.chart.proofs.grid_text.Lengths.{cells_are, text_most, text_end}
use Rattle.chart.proofs.grid_text.Steps.{text_head, text_rows, text_done}
use Rattle.chart.proofs.grid_text.put_text.Goals as goal

pub overflow_cast-rows : goal.overflow_cast-rows
overflow_cast-rows c = omega (arith, c.requires.0.length_most 0)

pub overflow_cast-columns : goal.overflow_cast-columns
overflow_cast-columns c = omega (arith, c.requires.0.length_most 1)

pub put_header-next-requires : goal.put_header-next-requires
put_header-next-requires c =
    let few = text_most c.args.nest c.requires.0 c.requires.1.0 c.args.x c.args.y c.ranges.x c.ranges.y c.args.size
    c.ranges.size.fits c.args.grid.now (λ i. omega (arith, c.type_inv.grid i)) in
    text_head (length_of
    c.args.nest 0) (length_of c.args.nest 1) c.args.x c.args.y c.args.size c.ranges.x c.ranges.y c.args.grid.now
    (in_shape c.args.nest) c.args.space.now few

pub put_rows-requires : goal.put_rows-requires
put_rows-requires c =
    let few = text_most c.args.nest c.requires.0 c.requires.1.0 c.args.x c.args.y c.ranges.x c.ranges.y c.args.size
    c.ranges.size.fits c.args.grid.now (λ i. omega (arith, c.type_inv.grid i)) in record {
      k_bound = text_rows (length_of c.args.nest 0)
          (length_of c.args.nest 1) c.args.x c.args.y c.args.size c.ranges.x c.ranges.y c.args.grid.now (in_shape
          c.args.nest) c.args.space.now few _ _ c.put_header-next.ensures;
      rows = record {
        accepted = c.requires.0;
        flat = c.requires.1.0;
        wide = refl;
        all = c.requires.1.1;
        few = omega (arith, c.requires.1.1, cells_are c.args.nest c.requires.1.0);
      };
    }

pub returns : goal.returns
returns c =
    let few = text_most c.args.nest c.requires.0 c.requires.1.0 c.args.x c.args.y c.ranges.x c.ranges.y c.args.size
    c.ranges.size.fits c.args.grid.now (λ i. omega (arith, c.type_inv.grid i)) in
    let done = text_done (length_of
    c.args.nest 0) (length_of c.args.nest 1) c.args.x c.args.y c.args.size c.ranges.x c.ranges.y
    c.args.grid.now (in_shape c.args.nest) c.args.space.now few _ _ c.put_header-next.ensures _
    c.put_rows.ensures in
    record { space_after = done; upper_bound = text_end _ _ _ _ _ done few }
