-- `plan_text::put_refused` meets its contract.
use Rattle.plan_text.proofs.Laws as L
use Rattle.text.specs.Writing.{pen}
use native.Mathlib.Omega.{arith}
use Rattle.plan_text.proofs.put_refused.Goals as goal

pub returns : goal.returns
returns c =
    record {
      space_after = L.refused_done c.args.number _ (pen 0 c.args.space.now) c.put_field.ensures.space_after;
      upper_bound = omega (
        arith,
        c.put_field.ensures.upper_bound,
      );
    }
