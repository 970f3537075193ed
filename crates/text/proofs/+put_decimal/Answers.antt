use mathlib.Core.Path.{◌∙◌}
use native.Mathlib.Omega.{arith}
use Rattle.text.proofs.Steps.{small_room, small_done, high_room, last_room, last_done}
use Rattle.text.proofs.+put_decimal.Goals as goal

pub overflow_cast-n : goal.overflow_cast-n
overflow_cast-n t c = omega arith

pub overflow_add-n : goal.overflow_add-n
overflow_add-n t c = omega arith

pub put-requires : goal.put-requires
put-requires t c = small_room c.args.n c.if-n-lt10.true c.args.at c.requires

pub shape_of-space-then-n-lt10 : goal.shape_of-space-then-n-lt10
shape_of-space-then-n-lt10 t c = c.put.auto.space

pub returns-then-n-lt10 : goal.returns-then-n-lt10
returns-then-n-lt10 t c = small_done c.args.n c.if-n-lt10.true _ _ c.put.ensures

pub put_decimal-next-requires : goal.put_decimal-next-requires
put_decimal-next-requires t c =
    (omega (arith, c.if-n-lt10.false), high_room c.args.n c.if-n-lt10.false c.args.at c.requires)

pub overflow_cast-n-2 : goal.overflow_cast-n-2
overflow_cast-n-2 t c = omega arith

pub overflow_add-n-2 : goal.overflow_add-n-2
overflow_add-n-2 t c = omega arith

pub put-requires-2 : goal.put-requires-2
put-requires-2 t c =
    last_room c.args.n c.if-n-lt10.false c.args.at c.requires _ _ _
    c.put_decimal-next.ensures

pub shape_of-space : goal.shape_of-space
shape_of-space t c = c.put-2.auto.space ∙ c.put_decimal-next.auto.space

pub returns : goal.returns
returns t c = last_done c.args.n c.if-n-lt10.false c.args.at c.requires _ _ _ c.put_decimal-next.ensures _ c.put-2.ensures
