-- `values::shaped_values::sweep` meets its contract: the first q rows of the nest are stored, from a grid of the boundary's words.
use Prim.Native.Nat.{ℕ, ◌+◌}
use native.Mathlib.Omega.{arith}
use mathlib.Core.Path.{refl, ◌∙◌, ap}
use Rattle.nest.proofs.Shapes.{framed}
use Rattle.layout.proofs.Cells.{relocated}
use Rattle.std.specs.Prelude.{◌≡◌, length, replicate}
use Rattle.std.proofs.Common.{rules}
use Rattle.values.proofs.shaped_values.Stores.{filled_long, filled_at, storing_start, storing_long, storing_turn, swept}
use Rattle.values.proofs.shaped_values.Words.{row_begins, rows_done}
use Rattle.values.proofs.shaped_values.sweep.Goals as goal

pub boundary_of-requires : goal.boundary_of-requires
boundary_of-requires c = c.args.layout.now.sized.accepted.boundary_most

pub backs_of-back-requires : goal.backs_of-back-requires
backs_of-back-requires c = (c.args.layout.now.sized.accepted, record { is = refl })

pub row_count-rows-requires : goal.row_count-rows-requires
row_count-rows-requires c = framed _ c.args.layout.now.sized.accepted

pub loop-q-init : goal.loop-q-init
loop-q-init c = (omega arith, storing_start _ _ _ _)

pub row_cell-cell-requires : goal.row_cell-cell-requires
row_cell-cell-requires c = (c.args.layout.now.sized.accepted, (refl, row_begins _ c.args.layout.now.sized.accepted _ _ refl c.row_count-rows.ensures _ c.loop-q-test.true))

pub row-requires : goal.row-requires
row-requires c =
    let f : c.fill.new.self ≡ replicate (length c.args.grid.now) c.boundary_of.result = search rules in
    record {
      accepted = (
        c.args.layout.now.sized.accepted,
        (
          (record { is = refl }, (c.backs_of-back.ensures, refl)),
          (
            c.requires.0,
            storing_long _ _ _ _ _ c.loop-q.invariant.1
                ∙ filled_long _ _ _ f ∙ c.requires.1,
          ),
        ),
      );
      located = (relocated _ _ _ c.row_cell-cell.ensures.0, omega (arith, c.row_cell-cell.ensures.1));
    }

pub loop-q-preserved : goal.loop-q-preserved
loop-q-preserved c = (
  omega (arith, c.loop-q-test.true),
  storing_turn _ _ _ _ c.loop-q.q _ _ _ c.loop-q.invariant.1
      (λ y h. ap (λ (a : ℕ). a + y) c.row_cell-cell.ensures.0.number) c.row.ensures,
)

pub returns : goal.returns
returns c =
    let f : c.fill.new.self ≡ replicate (length c.args.grid.now) c.boundary_of.result = search rules in
    swept _ c.args.layout.now.sized.accepted _ (filled_long _ _ _ f ∙ c.requires.1) (λ i h. filled_at _ _ _ _ f c.requires.1 i h
    ∙ c.boundary_of.ensures) _ _ _ (rows_done _ c.args.layout.now.sized.accepted _ _ refl c.row_count-rows.ensures _
    c.loop-q.invariant.0 c.loop-q-test.false) c.loop-q.invariant.1
