use mathlib.Core.Path.{refl}
use Rattle.text.specs.Writing.{pen}
use Rattle.text.proofs.Steps.{sign_minus, sign_rest, sign_done, plain_cast, plain_room, plain_done}
use Rattle.text.proofs.put_signed.Goals as goal

pub put-next-requires : goal.put-next-requires
put-next-requires c =
    sign_minus c.args.z c.ranges.z (pen c.args.at c.args.space.now) c.requires c.if-z-lt0.true _ refl

pub put_decimal-requires : goal.put_decimal-requires
put_decimal-requires c =
    sign_rest c.args.z c.ranges.z (pen c.args.at c.args.space.now) c.requires c.if-z-lt0.true c.unsigned_abs.result
    c.unsigned_abs.ensures.value _ c.put-next.ensures

pub returns-then-z-lt0 : goal.returns-then-z-lt0
returns-then-z-lt0 c =
    sign_done c.args.z c.ranges.z (pen c.args.at c.args.space.now) c.requires c.if-z-lt0.true c.unsigned_abs.result
    c.unsigned_abs.ensures.value _ c.put-next.ensures _ c.put_decimal.ensures

pub put_decimal-requires-2 : goal.put_decimal-requires-2
put_decimal-requires-2 c = plain_room c.args.z c.ranges.z (pen c.args.at c.args.space.now) c.requires c.if-z-lt0.false

pub returns : goal.returns
returns c =
    plain_done c.args.z c.ranges.z (pen c.args.at c.args.space.now) c.requires c.if-z-lt0.false _
    c.put_decimal-2.ensures
