use Prim.Native.Nat.{◌+◌}
use mathlib.Core.List.{[], ◌∷◌}
use lib.ListN.{drop}
use Rattle.text.proofs.Steps.{going_start, going_fits, going_on, going_over, bytes_left, bytes_none}
use Rattle.text.proofs.put_bytes.Goals as goal

pub loop-byte-preserved : goal.loop-byte-preserved
loop-byte-preserved c =
    going_on c.args.space.now c.args.at c.args.bytes.now c.loop-byte.space c.loop-byte.place _
    (_ ∷ []) (drop (c.loop-byte.byte-index + 1) c.args.bytes.now) (bytes_left c.args.bytes.now c.loop-byte.byte-index c.loop-byte-test.true)
    c.loop-byte.invariant _ _ c.put-place.ensures c.put-place.auto.space

pub returns : goal.returns
returns c =
    going_over c.args.space.now c.args.at c.args.bytes.now c.loop-byte.space c.loop-byte.place _
    c.loop-byte.invariant (bytes_none c.args.bytes.now c.loop-byte.byte-index c.loop-byte-test.false)
