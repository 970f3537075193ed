-- `plan_text::put_line` meets its contract.
use Rattle.plan_text.proofs.Laws as L
use Rattle.text.specs.Writing.{pen}
use native.Mathlib.Omega.{arith}
use Rattle.plan_text.proofs.put_line.Goals as goal

pub returns : goal.returns
returns c =
    record {
      space_after = L.line_done c.args.number c.args.of.sender c.args.of.taker c.args.of.from c.args.of.to c.args.of.words
          (pen c.args.at c.args.space.now) _ _ _ _ _ _ c.put_number-a.ensures.space_after c.put_number-b.ensures.space_after
          c.put_number-c.ensures.space_after c.put_number-d.ensures.space_after c.put_number-e.ensures.space_after c.put_number.ensures.space_after;
      upper_bound = omega (
        arith,
        c.put_number-a.ensures.upper_bound,
        c.put_number-b.ensures.upper_bound,
        c.put_number-c.ensures.upper_bound,
        c.put_number-d.ensures.upper_bound,
        c.put_number-e.ensures.upper_bound,
        c.put_number.ensures.upper_bound,
      );
    }
