-- `values::box_values` meets its contract: what is made once, then all rows.
use Prim.Native.Nat.{ℕ, ◌-◌}
use native.Mathlib.Omega.{arith}
use mathlib.Core.Path.{refl, ap, ◌∙◌}
use lib.ListN.{get_or}
use Rattle.base.specs.Lists.{store_all}
use Rattle.plan.specs.Geometry.{value}
use Rattle.bands.specs.lagged.Bands.{rows_of}
use Rattle.values.specs.row_values.Boxes.{row_at}
use Rattle.values.proofs.row_values.Boxes.{box_countable}
use Rattle.values.proofs.row_values.Rows.{given_box}
use borrow.Author.Rules.{rules}
use Rattle.values.proofs.box_values.Goals as goal

pub backs_of-back-requires : goal.backs_of-back-requires
backs_of-back-requires c = (c.requires.0, record { is = refl })

pub margins_of-margin-requires : goal.margins_of-margin-requires
margins_of-margin-requires c = (c.requires.0, record { is = refl })

pub lasts_of-lasts-requires : goal.lasts_of-lasts-requires
lasts_of-lasts-requires c = (c.requires.0, record { is = refl })

pub least_of-least-requires : goal.least_of-least-requires
least_of-least-requires c = c.requires.0

pub product-count-requires : goal.product-count-requires
product-count-requires c = box_countable _ c.requires.0 _ _ c.requires.1.0

pub all_rows-requires : goal.all_rows-requires
all_rows-requires c =
    let p = c.requires in
    let g = given_box c.args.nest _ _ _ _ _ c.args.source.now c.args.memory.now c.args.lengths c.args.corner p.0
    (record {
      given = record { is = refl };
      backs = c.backs_of-back.ensures;
      weights_are = refl;
      firsts = c.lasts_of-lasts.ensures;
      margins = c.margins_of-margin.ensures;
    }) p.1.1 p.1.0 (search rules) in
    let few = (box_countable _ p.0 _ _ p.1.0).few in
    (c.args.nest, (g, (c.by_fours-groups.ensures, omega (arith, c.product-count.ensures, few))))

pub returns : goal.returns
returns c =
    let p = c.requires in
    let g = given_box c.args.nest _ _ _ _ _ c.args.source.now c.args.memory.now c.args.lengths c.args.corner p.0
    (record {
      given = record { is = refl };
      backs = c.backs_of-back.ensures;
      weights_are = refl;
      firsts = c.lasts_of-lasts.ensures;
      margins = c.margins_of-margin.ensures;
    }) p.1.1 p.1.0 (search rules) in
    c.all_rows.ensures c.args.nest g
    ∙ ap
    (λ (n : ℕ). store_all (value c.args.nest c.args.source.now) c.args.memory.now
    (rows_of (row_at c.args.nest c.args.lengths c.args.corner) (get_or c.args.lengths (c.args.nest.dimensions - 1) 0) n)) c.product-count.ensures
