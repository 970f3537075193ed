-- The messages left to gather give the same memory and marks.
use Rattle.std.specs.Prelude.{ℕ, List}
use mathlib.Core.Path.{refl, sym, ap, ◌∙◌}
use Rattle.base.specs.Lists.{pack}
use Rattle.plan.specs.Shaped.{plan_of}
use Rattle.plan.proofs.ShapedSound.{sound}
use Rattle.network.specs.Own.{kept_cells}
use Rattle.part.specs.Part.{all_of}
use native.Mathlib.Omega.{arith}
use Rattle.stages.proofs.Parts as parts
use Rattle.part_calls.proofs.turn.Kept as kept
use Rattle.part_calls.proofs.turn.Stage as stage
use Rattle.part_calls.proofs.turn.Working as working
use Rattle.part_calls.proofs.turn.on_part.gather.Goals as goal

pub count_at-n-requires : goal.count_at-n-requires
count_at-n-requires c = c.requires.tile_bound.0

pub loop-j-init : goal.loop-j-init
loop-j-init c =
    let A = c.args in
    let count_at = c.count_at-n in (
      refl,
      working.gather_start A.table.now.layout.sizes.route A.table.now.layout.nest A.tile A.ordinals.now A.starts.now A.mail.now (all_of (plan_of A.table.now.layout.sizes.route A.table.now.layout.nest)
          A.b A.memory.now) A.marks.now
          count_at.result count_at.ensures.0,
    )

pub nth_at-place-requires : goal.nth_at-place-requires
nth_at-place-requires c =
    let count_at = c.count_at-n in
    let loop-test = c.loop-j-test in
    record { sized = c.requires.tile_bound.0; j_in_bounds = omega (arith, count_at.ensures.0, loop-test.true) }

pub offset_bounds-starts-number : goal.offset_bounds-starts-number
offset_bounds-starts-number c =
    let A = c.args in
    let loop = c.loop-j in
    let nth-at = c.nth_at-place in
    let loop-test = c.loop-j-test in
    omega (
      arith,
      working.number_low A.table.now.layout.sizes.route A.table.now.layout.nest A.tile loop.j nth-at.result (omega (arith, loop.invariant.1.all, loop-test.true))
          nth-at.ensures c.requires.tables.0.known.few,
    )

pub bounds-starts-number : goal.bounds-starts-number
bounds-starts-number c =
    let A = c.args in
    let loop = c.loop-j in
    let nth-at = c.nth_at-place in
    let loop-test = c.loop-j-test in
    working.number_low A.table.now.layout.sizes.route A.table.now.layout.nest A.tile loop.j nth-at.result (omega (arith, loop.invariant.1.all, loop-test.true)) nth-at.ensures
    c.requires.tables.0.known.few

pub take_from-requires : goal.take_from-requires
take_from-requires c =
    let A = c.args in
    let nth-at = c.nth_at-place in
    let loop = c.loop-j in
    let loop-test = c.loop-j-test in record {
      planned = parts.placed_self A.table.now.layout.sizes.route A.table.now.layout.nest _ nth-at.result nth-at.ensures;
      cells = (
        c.requires.tables.0.cells,
        stage.due_cells A.table.now A.b A.kept.now A.counts.now A.ordinals.now A.starts.now
            c.requires.tables.0 A.tile c.requires.tile_bound.1 loop.j nth-at.result (omega (arith, loop.invariant.1.all, loop-test.true)) nth-at.ensures,
      );
      memory_len = (
        loop.invariant.0 ∙ c.requires.tables.1.memory,
        working.place_low A.table.now.layout.sizes.route A.table.now.layout.nest A.tile loop.j nth-at.result (omega (arith, loop.invariant.1.all, loop-test.true))
            nth-at.ensures A.starts.now _ _
            (stage.placed A.table.now A.b A.kept.now A.counts.now A.ordinals.now A.starts.now c.requires.tables.0
            A.tile
            c.requires.tile_bound.1 A.mail.now c.requires.tables.1.mail) refl,
      );
    }

pub offset_bounds-ordinals-number : goal.offset_bounds-ordinals-number
offset_bounds-ordinals-number c =
    let A = c.args in
    let loop = c.loop-j in
    let nth-at = c.nth_at-place in
    let loop-test = c.loop-j-test in
    omega (
      arith,
      working.number_low A.table.now.layout.sizes.route A.table.now.layout.nest A.tile loop.j nth-at.result (omega (arith, loop.invariant.1.all, loop-test.true))
          nth-at.ensures c.requires.tables.0.known.few,
    )

pub bounds-ordinals-number : goal.bounds-ordinals-number
bounds-ordinals-number c =
    let A = c.args in
    let loop = c.loop-j in
    let nth-at = c.nth_at-place in
    let loop-test = c.loop-j-test in
    working.number_low A.table.now.layout.sizes.route A.table.now.layout.nest A.tile loop.j nth-at.result (omega (arith, loop.invariant.1.all, loop-test.true)) nth-at.ensures
    c.requires.tables.0.known.few

pub gathered-requires : goal.gathered-requires
gathered-requires c =
    let loop = c.loop-j in
    let A = c.args in
    let nth-at = c.nth_at-place in
    let loop-test = c.loop-j-test in
    omega (
      arith,
      loop.invariant.1.long_marks,
      working.rank_low A.table.now.layout.sizes.route A.table.now.layout.nest A.tile loop.j nth-at.result
          (omega (arith, loop.invariant.1.all, loop-test.true)) nth-at.ensures A.ordinals.now _ _ (stage.ranked A.table.now A.b A.kept.now A.counts.now A.ordinals.now A.starts.now c.requires.tables.0 A.tile c.requires.tile_bound.1 A.marks.now
          c.requires.tables.1.marks)
          refl,
    )

pub loop-j-preserved : goal.loop-j-preserved
loop-j-preserved c =
    let A = c.args in
    let loop = c.loop-j in
    let nth-at = c.nth_at-place in
    let take_from = c.take_from in
    let count_at = c.count_at-n in
    let gathered = c.gathered in
    let loop-test = c.loop-j-test in
    let p = plan_of A.table.now.layout.sizes.route A.table.now.layout.nest in
    let so = sound A.table.now.layout.sizes.route A.table.now.layout.nest c.args.table.now.layout.sized.accepted in
    let L = loop in
    let q = nth-at.ensures in
    let new = take_from.new.memory in (
      take_from.auto.memory ∙ L.invariant.0,
      working.gather_again A.table.now.layout.sizes.route A.table.now.layout.nest A.tile A.ordinals.now A.starts.now A.mail.now (all_of p A.b A.memory.now)
          A.marks.now
          count_at.result (all_of p A.b L.memory) (all_of p A.b new) L.marks gathered.new.marks L.j nth-at.result _
          _ L.invariant.1 loop-test.true q refl refl
          (kept.all_same p so A.b A.kept.now c.requires.tables.0.cells.are L.memory new)
          (kept.taken_all p so A.b A.kept.now c.requires.tables.0.cells.are nth-at.result.number (omega (arith, q.number, q.low))
          (stage.due_cells A.table.now A.b A.kept.now A.counts.now A.ordinals.now A.starts.now c.requires.tables.0
          A.tile
          c.requires.tile_bound.1 L.j nth-at.result (omega (arith, loop.invariant.1.all, loop-test.true)) q)
          L.memory (L.invariant.0 ∙ c.requires.tables.1.memory) _ new take_from.ensures) gathered.ensures,
    )

pub shape_of-memory : goal.shape_of-memory
shape_of-memory c =
    let loop = c.loop-j in
    loop.invariant.0

pub shape_of-marks : goal.shape_of-marks
shape_of-marks c =
    let loop = c.loop-j in
    loop.invariant.1.long_marks

pub returns : goal.returns
returns c =
    let A = c.args in
    let loop = c.loop-j in
    let count_at = c.count_at-n in
    let loop-test = c.loop-j-test in
    let p = plan_of A.table.now.layout.sizes.route A.table.now.layout.nest in
    let so = sound A.table.now.layout.sizes.route A.table.now.layout.nest c.args.table.now.layout.sized.accepted in
    let L = loop in
    let done = working.gather_done A.table.now.layout.sizes.route A.table.now.layout.nest A.tile A.ordinals.now A.starts.now A.mail.now (all_of p A.b A.memory.now)
    A.marks.now
    count_at.result (all_of p A.b L.memory) L.marks L.j L.invariant.1 loop-test.false in (
      sym (kept.part_back p so A.b A.kept.now c.requires.tables.0.cells.are L.memory (L.invariant.0 ∙ c.requires.tables.1.memory))
          ∙ ap (λ (l : List ℕ). pack l (kept_cells p A.b)) done.0,
      done.1,
    )
