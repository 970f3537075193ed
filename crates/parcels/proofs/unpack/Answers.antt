-- `parcels::unpack` meets its contract: the words of the first r rows are at their cells.
use native.Mathlib.Omega.{arith}
use Prim.Native.Nat.{◌*◌}
use native.Mathlib.Nat.{zero-mul, mul-le-mul_right}
use mathlib.Core.Path.{refl, sym, ap, ◌∙◌}
use mathlib.Core.List.{List}
use Prim.Native.Nat.{ℕ}
use Rattle.base.specs.Lists.{unpack}
use Rattle.base.proofs.Copies.{put_row}
use Rattle.parcels.proofs.Walks.{found_few, unpacking_none, unpacking_long, unpacked}
use Rattle.parcels.proofs.Windows.{run_room}
use Rattle.parcels.proofs.Rows.{size_few, row_ranked}
use Rattle.parcels.proofs.Alike.{row_first, unpacked_over, unpacked_next}
use Rattle.parcels.proofs.Sendings.{full_found, words_found}
use Rattle.parcels.proofs.unpack.Goals as goal

pub sending_at-sending-requires : goal.sending_at-sending-requires
sending_at-sending-requires c = c.requires.0

pub loop-r-init : goal.loop-r-init
loop-r-init c = rw (zero-mul c.sending_at-sending.result.width) (unpacking_none _ _ _ _)

pub row_at-row-requires : goal.row_at-row-requires
row_at-row-requires c = (c.args.layout.now.sized.accepted, (record { is = refl }, (c.sending_at-sending.ensures.shape, c.loop-r-test.true)))

pub loop-r-preserved-then-row-eq0 : goal.loop-r-preserved-then-row-eq0
loop-r-preserved-then-row-eq0 c = unpacked_over _ _ _ _ c.row_at-row.ensures c.if-row-eq0.true _ _ _ _ c.loop-r.invariant

pub rank-number-requires : goal.rank-number-requires
rank-number-requires c = row_ranked _ _ _ _ c.row_at-row.ensures.place c.args.layout.now.sized.accepted c.sending_at-sending.ensures.shape

pub copy_part-requires : goal.copy_part-requires
copy_part-requires c = (
  omega (
    arith,
    (row_first _ _ _ _ c.row_at-row.ensures _ c.rank-number.ensures).low,
    c.row_at-row.ensures.run.low,
    unpacking_long _ _ _ _ _ _ _ c.loop-r.invariant,
    c.requires.1.0,
  ),
  omega (
    arith,
    run_room _ _ _ _ _ _ _ (row_first _ _ _ _ c.row_at-row.ensures _ c.rank-number.ensures) _ c.row_at-row.ensures.run _
        c.loop-r.invariant.count_is,
    (words_found _ _ _ _ c.sending_at-sending.ensures _ c.requires.1.1),
  ),
)

pub overflow_add-count : goal.overflow_add-count
overflow_add-count c =
    omega (
      arith,
      run_room _ _ _ _ _ _ _ (row_first _ _ _ _ c.row_at-row.ensures _ c.rank-number.ensures) _ c.row_at-row.ensures.run _
          c.loop-r.invariant.count_is,
      found_few c.args.layout.now.nest c.sending_at-sending.result
          (c.sending_at-sending.result.rows * c.sending_at-sending.result.width),
      size_few _ c.args.layout.now.sized.accepted _
          c.sending_at-sending.ensures.shape,
    )

pub loop-r-preserved : goal.loop-r-preserved
loop-r-preserved c =
    let first = row_first _ _ _ _ c.row_at-row.ensures _ c.rank-number.ensures in
    let room = run_room _ _ _ _ _ _ _ first _ c.row_at-row.ensures.run _ c.loop-r.invariant.count_is in
    let found = words_found _ _ _ _ c.sending_at-sending.ensures _ c.requires.1.1 in
    unpacked_next _ _ _ _ c.row_at-row.ensures _ first _ _ _ _ _ c.loop-r.invariant (omega (arith, room, found))
    (c.copy_part.ensures ∙ put_row _ _ _ _ _
    (omega (
      arith,
      first.low,
      c.row_at-row.ensures.run.low,
      unpacking_long _ _ _ _ _ _ _ c.loop-r.invariant,
      c.requires.1.0,
    ))
    (omega (arith, room, found)))

pub returns : goal.returns
returns c =
    unpacked _ _ _ _ _ _ _ c.loop-r.invariant (mul-le-mul_right c.sending_at-sending.result.width c.loop-r-test.false)
    (words_found _ _ _ _ c.sending_at-sending.ensures _ c.requires.1.1) ∙ ap (λ (l : List ℕ). unpack c.args.memory.now l
    c.args.words.now) (sym (full_found _ _ _ _ c.sending_at-sending.ensures _ c.requires.1.1))
