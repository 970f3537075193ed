-- `parcels::end_in_row` meets its contract: the first j components come into the window.
use native.Mathlib.Omega.{arith}
use mathlib.Core.Path.{sym, ◌∙◌}
use Rattle.layout.proofs.Loops.{sofar_none, sofar_more}
use Rattle.parcels.proofs.Windows.{given_few, end_stops, end_some}
use Rattle.parcels.proofs.end_in_row.Goals as goal

pub loop-j-init : goal.loop-j-init
loop-j-init c = sofar_none _ _

pub carry-requires : goal.carry-requires
carry-requires c =
    let loop = c.loop-j in
    omega (
      arith,
      c.requires.dimensions_value.1 loop.j (omega (arith, c.loop-j-test.true)),
      given_few _ c.requires.accepted.0 _ c.requires.accepted.1.1
          c.args.e loop.j,
    )

pub returns-then-not-carry : goal.returns-then-not-carry
returns-then-not-carry c =
    let loop = c.loop-j in
    end_stops _ c.requires.accepted.0 c.args.window c.args.at.now _ _ c.requires.accepted.1.1 loop.j c.loop-j-test.true
    (sym c.carry.ensures ∙ c.if-not-carry.true)

pub loop-j-preserved : goal.loop-j-preserved
loop-j-preserved c =
    let loop = c.loop-j in
    sofar_more _ _ _ loop.invariant c.loop-j-test.true (sym c.carry.ensures ∙ c.if-not-carry.false)

pub returns : goal.returns
returns c =
    rw c.saturating_sub.ensures (end_some _ c.requires.accepted.0 c.args.window c.args.at.now _ _ c.requires.accepted.1.1 _
    c.loop-j.invariant c.loop-j-test.false c.requires.dimensions_value.0)
