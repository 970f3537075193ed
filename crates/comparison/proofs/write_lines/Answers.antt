-- `comparison::write_lines` meets its contract.
use Rattle.plan_text.proofs.Laws.{at_front}
use native.Mathlib.Omega.{arith}
use Rattle.comparison.proofs.write_lines.Goals as goal

pub returns : goal.returns
returns c =
    record {
      space_after = at_front _ c.args.space.now _ _ c.put_lines.ensures.space_after (omega (
        arith,
        c.put_lines.ensures.upper_bound,
        c.requires,
      ));
      upper_bound = c.put_lines.ensures.upper_bound;
    }
