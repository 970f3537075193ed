-- The cells as a list, and the read part where the message's words begin.
use Rattle.std.specs.Prelude.{ℕ, List}
use mathlib.Core.Path.{sym, ap, ◌∙◌}
use native.Mathlib.Omega.{arith}
use Rattle.base.specs.Lists.{unpack, pack}
use Rattle.machine.specs.Plan.{held_by}
use Rattle.plan.specs.Shaped.{plan_of}
use Rattle.plan.proofs.ShapedSound.{sound}
use Rattle.network.specs.Own.{kept_cells}
use Rattle.part.specs.Part.{all_of}
use Rattle.stages.proofs.Parts as parts
use Rattle.part_calls.proofs.turn.Kept as kept
use Rattle.part_calls.proofs.turn.on_part.take_from.Goals as goal

pub slice_bounds-cells-end : goal.slice_bounds-cells-end
slice_bounds-cells-end c =
    let A = c.args in
    kept.list_room A.place.words (kept.words_few A.table.now.layout.nest A.table.now.layout.sizes c.args.table.now.layout.sized A.place.number A.place c.requires.planned)

pub slice_bounds-cells_of-end : goal.slice_bounds-cells_of-end
slice_bounds-cells_of-end c =
    let A = c.args in
    sym (kept.list_lent A.place.words (kept.words_few A.table.now.layout.nest A.table.now.layout.sizes c.args.table.now.layout.sized A.place.number A.place c.requires.planned))

pub cells_of-requires : goal.cells_of-requires
cells_of-requires c =
    let A = c.args in record {
      sized = (c.args.table.now.tabled, c.requires.planned);
      cells_len = kept.list_lent A.place.words (kept.words_few A.table.now.layout.nest A.table.now.layout.sizes c.args.table.now.layout.sized
          A.place.number A.place c.requires.planned);
    }

pub slice_bounds-cells-end-2 : goal.slice_bounds-cells-end-2
slice_bounds-cells-end-2 c =
    let A = c.args in
    let Cells-of = c.cells_of in
    kept.list_again A.place.words (kept.words_few A.table.now.layout.nest A.table.now.layout.sizes c.args.table.now.layout.sized A.place.number A.place c.requires.planned)
    Cells-of.new.cells Cells-of.auto.cells

pub slice_bounds-take-end : goal.slice_bounds-take-end
slice_bounds-take-end c =
    let A = c.args in
    let Cells-of = c.cells_of in
    sym (kept.list_long A.place.words (kept.words_few A.table.now.layout.nest A.table.now.layout.sizes c.args.table.now.layout.sized A.place.number A.place c.requires.planned)
    Cells-of.new.cells Cells-of.auto.cells)

pub offset_bounds-mail-at : goal.offset_bounds-mail-at
offset_bounds-mail-at c = omega (arith, c.requires.memory_len.1, c.well_formed.1.1.1.1.1.1.0)

pub take-requires : goal.take-requires
take-requires c =
    let A = c.args in
    let Cells-of = c.cells_of in
    kept.listed (plan_of A.table.now.layout.sizes.route A.table.now.layout.nest) (sound A.table.now.layout.sizes.route A.table.now.layout.nest c.args.table.now.layout.sized.accepted) A.b A.kept.now
    c.requires.cells.0.are A.place.number c.requires.planned.low c.requires.cells.1 A.memory.now c.requires.memory_len.0
    c.args.table.now.layout.sized.accepted.cells_most A.counts.now _ _ c.requires.cells.0.counted (kept.list_is A.place.words (kept.words_few A.table.now.layout.nest
    A.table.now.layout.sizes c.args.table.now.layout.sized A.place.number A.place c.requires.planned) Cells-of.new.cells Cells-of.auto.cells ∙
    Cells-of.ensures)
    (parts.mid_length A.mail.now A.at A.place.words c.requires.memory_len.1 ∙ c.requires.planned.words)

pub returns : goal.returns
returns c =
    let A = c.args in
    let Cells-of = c.cells_of in
    let take = c.take in
    kept.taken_in (plan_of A.table.now.layout.sizes.route A.table.now.layout.nest) (sound A.table.now.layout.sizes.route A.table.now.layout.nest c.args.table.now.layout.sized.accepted) A.b A.kept.now
    c.requires.cells.0.are A.place.number c.requires.planned.low c.requires.cells.1 A.memory.now c.requires.memory_len.0 _ _ _ (kept.list_is
    A.place.words (kept.words_few A.table.now.layout.nest A.table.now.layout.sizes c.args.table.now.layout.sized A.place.number A.place c.requires.planned) Cells-of.new.cells
    Cells-of.auto.cells ∙ Cells-of.ensures) take.ensures
    ∙ ap (λ (ws : List ℕ). pack (unpack (all_of (plan_of A.table.now.layout.sizes.route A.table.now.layout.nest) A.b A.memory.now) (held_by (plan_of A.table.now.layout.sizes.route A.table.now.layout.nest)
    A.place.number) ws) (kept_cells (plan_of A.table.now.layout.sizes.route A.table.now.layout.nest) A.b))
    (parts.mid_is A.mail.now A.at A.place.words)
