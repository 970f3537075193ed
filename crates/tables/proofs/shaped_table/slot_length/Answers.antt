-- `tables::shaped_table::slot_length` meets its contract.
use mathlib.Core.Path.{sym, ap, ◌∙◌}
use lib.ListN.{length}
use native.Mathlib.Omega.{arith}
use Rattle.tables.proofs.shaped_table.Laws as L
use Rattle.tables.proofs.shaped_table.slot_length.Goals as goal

pub along_of-ahead-requires : goal.along_of-ahead-requires
along_of-ahead-requires c = rw c.requires.sized.0 c.requires.sized.1.1

pub leaves-requires : goal.leaves-requires
leaves-requires c = omega (arith, c.args.layout.now.sized.accepted.spread_low, c.args.layout.now.sized.accepted.dimensions_most)

pub returns-then-not-leaves : goal.returns-then-not-leaves
returns-then-not-leaves c = (
  λ t h e. L.stays_none _ c.args.layout.now.sized.accepted t c.args.way c.args.tile h c.requires.sized.1.1 e _
      (rw c.requires.sized.0 at c.along_of-ahead.ensures) (sym c.leaves.ensures ∙ c.if-not-leaves.true),
  omega arith,
)

pub beyond_last-requires : goal.beyond_last-requires
beyond_last-requires c = (
  omega (arith, c.args.layout.now.sized.accepted.spread_low, c.args.layout.now.sized.accepted.dimensions_most),
  L.steps_low _ c.args.layout.now.sized.accepted c.args.tile c.args.way _ _ c.args.layout.now.sizes.across c.requires.farthest.1
      (rw c.requires.sized.0 at c.along_of-ahead.ensures) c.args.layout.now.sized.across,
)

pub returns-then-beyond_last : goal.returns-then-beyond_last
returns-then-beyond_last c =
    let along-of = c.along_of-ahead in (
      λ t h e. sym (ap length (L.leaves_all _ c.args.layout.now.sized.accepted t c.args.way c.args.tile h c.requires.sized.1.1 e _
          (rw c.requires.sized.0 at along-of.ensures) (sym c.leaves.ensures ∙ c.if-not-leaves.false)) ∙ L.beyond_none _
          c.args.layout.now.sized.accepted c.args.tile c.args.way _ _ c.args.layout.now.sizes.across c.requires.farthest.1
          (rw c.requires.sized.0 at along-of.ensures) c.args.layout.now.sized.across (sym c.beyond_last.ensures ∙ c.if-beyond_last.true)),
      omega arith,
    )

pub count_of-requires : goal.count_of-requires
count_of-requires c = c.requires

pub returns : goal.returns
returns c =
    let count_of = c.count_of in (
      λ t h e. count_of.ensures.0 ∙ ap length (sym (L.leaves_all _ c.args.layout.now.sized.accepted t c.args.way c.args.tile h
          c.requires.sized.1.1 e _ (rw c.requires.sized.0 at c.along_of-ahead.ensures) (sym c.leaves.ensures
          ∙ c.if-not-leaves.false))),
      count_of.ensures.1,
    )
