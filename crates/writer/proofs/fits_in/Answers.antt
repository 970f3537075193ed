-- `writer::fits_in` meets its contract: all numbers passed are in their limits.
use mathlib.Core.Path.{◌≡◌}
use native.Mathlib.Omega.{arith}
use lib.ListN.{get_or}
use Rattle.writer.proofs.Loops as S
use Rattle.writer.proofs.Tables.{number_at}
use Rattle.writer.proofs.fits_in.Goals as goal

pub loop-i-init : goal.loop-i-init
loop-i-init g c = λ numbers a. S.within_start c.args.n c.args.bound numbers

pub returns-then-of-limit : goal.returns-then-of-limit
returns-then-of-limit g c =
    λ numbers a. let is : c.of.result ≡ get_or numbers c.loop-i.i 0 = number_at a _ _ _ c.loop-i-test.true c.index-values-i.is c.of.ensures in
    S.without c.args.n c.args.bound numbers c.loop-i.i _ (omega (arith, a.long, c.loop-i-test.true)) c.limit.ensures (omega (arith, is, c.if-of-limit.true))

pub loop-i-preserved : goal.loop-i-preserved
loop-i-preserved g c =
    λ numbers a. let is : c.of.result ≡ get_or numbers c.loop-i.i 0 = number_at a _ _ _ c.loop-i-test.true c.index-values-i.is c.of.ensures in
    S.within_next c.args.n c.args.bound numbers c.loop-i.i _ (c.loop-i.invariant numbers a) c.limit.ensures (omega (arith, is, c.if-of-limit.false))

pub returns : goal.returns
returns g c =
    λ numbers a. S.within_end c.args.n c.args.bound numbers c.loop-i.i (omega (arith, a.long, c.loop-i.auto.i-end)) (omega (arith, a.long, c.loop-i-test.false))
    (c.loop-i.invariant numbers a)
