-- The cells as a list; the mutable part where the message's words begin comes back as their words.
use mathlib.Core.Path.{sym, ◌∙◌}
use Rattle.plan.specs.Shaped.{plan_of}
use Rattle.plan.proofs.ShapedSound.{sound}
use Rattle.stages.proofs.Parts as parts
use Rattle.part_calls.proofs.turn.Kept as kept
use Rattle.part_calls.proofs.turn.Working as working
use Rattle.part_calls.proofs.turn.on_part.put_in.Goals as goal

pub slice_bounds-cells-end : goal.slice_bounds-cells-end
slice_bounds-cells-end c =
    let A = c.args in
    kept.list_room A.place.words (kept.words_few A.table.now.layout.nest A.table.now.layout.sizes c.args.table.now.layout.sized A.place.number A.place c.requires.planned)

pub slice_bounds-cells_of-end : goal.slice_bounds-cells_of-end
slice_bounds-cells_of-end c =
    let A = c.args in
    sym (kept.list_lent A.place.words (kept.words_few A.table.now.layout.nest A.table.now.layout.sizes c.args.table.now.layout.sized A.place.number A.place c.requires.planned))

pub cells_of-requires : goal.cells_of-requires
cells_of-requires c =
    let A = c.args in record {
      sized = (c.args.table.now.tabled, c.requires.planned);
      cells_len = kept.list_lent A.place.words (kept.words_few A.table.now.layout.nest A.table.now.layout.sizes c.args.table.now.layout.sized
          A.place.number A.place c.requires.planned);
    }

pub slice_bounds-cells-end-2 : goal.slice_bounds-cells-end-2
slice_bounds-cells-end-2 c =
    let A = c.args in
    let Cells-of = c.cells_of in
    kept.list_again A.place.words (kept.words_few A.table.now.layout.nest A.table.now.layout.sizes c.args.table.now.layout.sized A.place.number A.place c.requires.planned)
    Cells-of.new.cells Cells-of.auto.cells

pub slice_bounds-give-end : goal.slice_bounds-give-end
slice_bounds-give-end c =
    let A = c.args in
    let Cells-of = c.cells_of in
    sym (kept.list_long A.place.words (kept.words_few A.table.now.layout.nest A.table.now.layout.sizes c.args.table.now.layout.sized A.place.number A.place c.requires.planned)
    Cells-of.new.cells Cells-of.auto.cells)

pub give-requires : goal.give-requires
give-requires c =
    let A = c.args in
    let Cells-of = c.cells_of in
    kept.listed (plan_of A.table.now.layout.sizes.route A.table.now.layout.nest) (sound A.table.now.layout.sizes.route A.table.now.layout.nest c.args.table.now.layout.sized.accepted) A.b A.kept.now
    c.requires.cells.0.are A.place.number c.requires.planned.low c.requires.cells.1 A.memory.now c.requires.memory_len.0
    c.args.table.now.layout.sized.accepted.cells_most A.counts.now _ _ c.requires.cells.0.counted (kept.list_is A.place.words (kept.words_few A.table.now.layout.nest
    A.table.now.layout.sizes c.args.table.now.layout.sized A.place.number A.place c.requires.planned) Cells-of.new.cells Cells-of.auto.cells ∙
    Cells-of.ensures)
    (parts.mid_length A.mail.now A.at A.place.words c.requires.memory_len.1 ∙ c.requires.planned.words)

pub returns : goal.returns
returns c =
    let A = c.args in
    let give = c.give in
    let Cells-of = c.cells_of in
    working.put_back A.mail.now give.new.words _ A.at A.place.words c.requires.memory_len.1 give.auto.words
    (kept.given_out (plan_of A.table.now.layout.sizes.route A.table.now.layout.nest) (sound A.table.now.layout.sizes.route A.table.now.layout.nest c.args.table.now.layout.sized.accepted) A.b A.kept.now
    c.requires.cells.0.are A.place.number c.requires.planned.low c.requires.cells.1 A.memory.now c.requires.memory_len.0 _ _ (kept.list_is A.place.words
    (kept.words_few A.table.now.layout.nest A.table.now.layout.sizes c.args.table.now.layout.sized A.place.number A.place c.requires.planned) Cells-of.new.cells
    Cells-of.auto.cells ∙ Cells-of.ensures) give.ensures)
