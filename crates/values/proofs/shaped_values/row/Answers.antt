-- `values::shaped_values::row` meets its contract: the cells before and behind the span are outside, those in it read as the distances' intervals say.
use Prim.Native.Nat.{◌-◌}
use native.Mathlib.Omega.{arith}
use Rattle.nest.proofs.Shapes.{framed}
use Rattle.values.proofs.shaped_values.Words.{place_narrow, row_readable, row_values_lem, row_none}
use Rattle.values.proofs.shaped_values.row.Goals as goal

pub span_of-own-requires : goal.span_of-own-requires
span_of-own-requires c = (framed _ c.requires.accepted.0, place_narrow _ c.requires.accepted.0 _ c.requires.located.0)

pub overlap-kept-requires : goal.overlap-kept-requires
overlap-kept-requires c = omega (arith, c.requires.located.1, c.requires.accepted.0.length_most (c.args.nest.dimensions - 1))

pub returns-then-few-eq0 : goal.returns-then-few-eq0
returns-then-few-eq0 c =
    row_none _ c.requires.accepted.0 _ c.requires.located.0 _ c.requires.located.1 _ _ c.span_of-own.ensures c.overlap-kept.ensures _ _
    c.if-few-eq0.true

pub reads_of-reads-requires : goal.reads_of-reads-requires
reads_of-reads-requires c = (c.requires.accepted.0, (c.requires.accepted.1.0.0, place_narrow _ c.requires.accepted.0 _ c.requires.located.0))

pub store_row-requires : goal.store_row-requires
store_row-requires c =
    row_readable _ c.requires.accepted.0 _ c.requires.located.0 _ c.requires.located.1 _ _ c.span_of-own.ensures c.overlap-kept.ensures _ _ _ _
    c.reads_of-reads.ensures c.requires.accepted.1.0.1.0 c.requires.accepted.1.0.1.1 _ _ c.requires.accepted.1.1.0 c.requires.accepted.1.1.1

pub returns : goal.returns
returns c =
    row_values_lem _ c.requires.accepted.0 _ c.requires.located.0 _ c.requires.located.1 _ _ c.span_of-own.ensures c.overlap-kept.ensures _ _ _ _
    c.reads_of-reads.ensures c.requires.accepted.1.0.1.0 c.requires.accepted.1.0.1.1 _ _ _ c.store_row.ensures
