-- `comparison::put_four` meets its contract.
use native.Mathlib.Omega.{arith}
use Rattle.comparison.proofs.Lines as L
use Rattle.text.specs.Writing.{pen}
use Rattle.comparison.proofs.put_four.Goals as goal

pub put_verdict-a-requires : goal.put_verdict-a-requires
put_verdict-a-requires c = (omega arith, c.requires)

pub put_verdict-b-requires : goal.put_verdict-b-requires
put_verdict-b-requires c = (omega (arith, c.put_verdict-a.ensures.upper_bound), c.requires)

pub put_verdict-c-requires : goal.put_verdict-c-requires
put_verdict-c-requires c = (omega (arith, c.put_verdict-b.ensures.upper_bound, c.put_verdict-a.ensures.upper_bound), c.requires)

pub put_verdict-requires : goal.put_verdict-requires
put_verdict-requires c = (omega (arith, c.put_verdict-c.ensures.upper_bound, c.put_verdict-b.ensures.upper_bound, c.put_verdict-a.ensures.upper_bound), c.requires)

pub returns : goal.returns
returns c =
    record {
      space_after = L.four_put c.args.encoded.now (pen 0 c.args.space.now) _ _ _ _ c.put_verdict-a.ensures.space_after
          c.put_verdict-b.ensures.space_after c.put_verdict-c.ensures.space_after c.put_verdict.ensures.space_after;
      upper_bound = omega (
        arith,
        c.put_verdict-a.ensures.upper_bound,
        c.put_verdict-b.ensures.upper_bound,
        c.put_verdict-c.ensures.upper_bound,
        c.put_verdict.ensures.upper_bound,
      );
    }
