-- `parcels::pack` meets its contract: the words of the first r rows are packed.
use native.Mathlib.Nat.{zero-mul, mul-le-mul_right}
use mathlib.Core.Path.{refl, sym, ap, ◌∙◌}
use Rattle.base.specs.Lists.{pack}
use Rattle.parcels.proofs.Packing.{packed_none, packed_room, packed_end}
use Rattle.parcels.proofs.Rows.{size_few, row_ranked}
use Rattle.parcels.proofs.Alike.{row_first, packed_over, packed_next}
use Rattle.parcels.proofs.Sendings.{full_found, words_found}
use Rattle.parcels.proofs.pack.Goals as goal

pub sending_at-sending-requires : goal.sending_at-sending-requires
sending_at-sending-requires c = c.requires.0

pub loop-r-init : goal.loop-r-init
loop-r-init c =
    rw (zero-mul c.sending_at-sending.result.width) (packed_none _ _ _ _ (words_found _ _ _ _ c.sending_at-sending.ensures _
    c.requires.1.1) (size_few _ c.args.layout.now.sized.accepted _ c.sending_at-sending.ensures.shape))

pub row_at-row-requires : goal.row_at-row-requires
row_at-row-requires c = (c.args.layout.now.sized.accepted, (record { is = refl }, (c.sending_at-sending.ensures.shape, c.loop-r-test.true)))

pub loop-r-preserved-then-row-eq0 : goal.loop-r-preserved-then-row-eq0
loop-r-preserved-then-row-eq0 c = packed_over _ _ _ _ c.row_at-row.ensures c.if-row-eq0.true _ _ _ c.loop-r.invariant

pub rank-number-requires : goal.rank-number-requires
rank-number-requires c = row_ranked _ _ _ _ c.row_at-row.ensures.place c.args.layout.now.sized.accepted c.sending_at-sending.ensures.shape

pub pack_row-count-requires : goal.pack_row-count-requires
pack_row-count-requires c =
    packed_room _ _ _ _ _ _ _ (row_first _ _ _ _ c.row_at-row.ensures _ c.rank-number.ensures) _ _ _ c.loop-r.invariant
    c.args.layout.now.sized.accepted c.requires.1.0

pub loop-r-preserved : goal.loop-r-preserved
loop-r-preserved c =
    packed_next _ _ _ _ c.row_at-row.ensures _ (row_first _ _ _ _ c.row_at-row.ensures _ c.rank-number.ensures) _ _ _ _ _
    c.loop-r.invariant c.pack_row-count.ensures

pub returns : goal.returns
returns c =
    packed_end _ _ _ _ _ _ c.loop-r.invariant (mul-le-mul_right c.sending_at-sending.result.width c.loop-r-test.false)
    ∙ ap (pack c.args.memory.now) (sym (full_found _ _ _ _ c.sending_at-sending.ensures _ c.requires.1.1))
