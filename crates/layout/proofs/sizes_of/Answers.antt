-- `layout::sizes_of` meets its contract.
use mathlib.Core.Path.{refl, ◌∙◌}
use Rattle.nest.specs.Nest.{cells, processors}
use Rattle.layout.proofs.Cells.{lengths_countable, across_countable, counts_countable, across_product}
use Rattle.layout.proofs.sizes_of.Goals as goal

pub product-cells-requires : goal.product-cells-requires
product-cells-requires c = lengths_countable _ c.requires

pub product-tiles-requires : goal.product-tiles-requires
product-tiles-requires c = across_countable _ c.requires _ c.across_of-across.ensures

pub product-processors-requires : goal.product-processors-requires
product-processors-requires c = counts_countable _ c.requires

pub returns : goal.returns
unfolding cells processors
returns c = (
  record {
    accepted = c.requires;
    cells = c.product-cells.ensures;
    tiles = c.product-tiles.ensures ∙ across_product _ c.requires _
        c.across_of-across.ensures;
    processors = c.product-processors.ensures;
    ways = c.ways_of-ways.ensures;
    across =
        c.across_of-across.ensures.each;
  },
  refl,
)
