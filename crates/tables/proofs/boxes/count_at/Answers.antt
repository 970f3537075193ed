-- `tables::boxes::count_at` meets its contract.
use native.Mathlib.Omega.{arith}
use Prim.Native.Nat.{ℕ, ◌*◌}
use mathlib.Core.Path.{◌≡◌, sym, ◌∙◌}
use lib.ListN.{length, take}
use lib.Seq.{length-take-le}
use lib.Dec.{ltb}
use Rattle.std.proofs.lemmas.List.Sums.{count_by-le-length}
use Rattle.layout.proofs.Steps.{ways_few}
use Rattle.tables.proofs.boxes.Scans as L
use Rattle.tables.proofs.boxes.Ends as E
use Rattle.tables.proofs.boxes.count_at.Goals as goal

pub slots_at-ends-requires : goal.slots_at-ends-requires
slots_at-ends-requires c = c.requires

pub overflow_mul-layout : goal.overflow_mul-layout
overflow_mul-layout c = omega (arith, L.slots_small _ _ c.args.layout.now.sized c.requires.plain)

pub slice_bounds-ends-end : goal.slice_bounds-ends-end
slice_bounds-ends-end c = omega (arith, c.slots_at-ends.ensures.1, c.args.layout.now.sized.ways, ways_few _ c.args.layout.now.sized.accepted c.args.layout.now.sizes.route)

pub slice_bounds-count_below-end : goal.slice_bounds-count_below-end
slice_bounds-count_below-end c =
    sym (length-take-le c.args.layout.now.sizes.ways c.slots_at-ends.result
    (omega (arith, c.slots_at-ends.ensures.1, c.args.layout.now.sized.ways, ways_few _ c.args.layout.now.sized.accepted c.args.layout.now.sizes.route)))

pub returns : goal.returns
returns c =
    let e : c.args.layout.now.sizes.ways ≡ length (take c.args.layout.now.sizes.ways c.slots_at-ends.result) =
    sym (length-take-le c.args.layout.now.sizes.ways c.slots_at-ends.result
    (omega (arith, c.slots_at-ends.ensures.1, c.args.layout.now.sized.ways, ways_few _ c.args.layout.now.sized.accepted c.args.layout.now.sizes.route))) in
    E.counted c.args.layout.now.sizes.route _ c.args.layout.now.sized.accepted _ _ (take c.args.layout.now.sizes.ways c.slots_at-ends.result)
    (E.ends_taken c.args.layout.now.sizes.route _ _ _ _ _ c.args.layout.now.sized.ways c.slots_at-ends.ensures.0) _ _ _
    c.args.layout.now.sized.ways (L.slots_are _ _ c.args.layout.now.sized) (c.count_below.ensures ∙ E.counted_all _ _ _ e)
    (omega (arith, c.count_below.ensures, count_by-le-length (λ (d : ℕ). ltb d (c.args.layout.now.sizes.tiles * c.args.layout.now.sizes.ways)) (take c.args.layout.now.sizes.ways c.slots_at-ends.result)))
