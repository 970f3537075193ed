-- `plan_text::put_figures` meets its contract.
use Rattle.plan_text.proofs.Laws as L
use Rattle.text.specs.Writing.{pen}
use native.Mathlib.Omega.{arith}
use Rattle.plan_text.proofs.put_figures.Goals as goal

pub returns : goal.returns
returns c =
    record {
      space_after = L.figures_done c.args.of.tiles c.args.of.messages c.args.of.words c.args.of.steps (pen 0 c.args.space.now) _
          _ _ _ c.put_field-a.ensures.space_after c.put_field-b.ensures.space_after c.put_field-c.ensures.space_after c.put_field.ensures.space_after;
      upper_bound = omega
          (arith, c.put_field-a.ensures.upper_bound, c.put_field-b.ensures.upper_bound, c.put_field-c.ensures.upper_bound, c.put_field.ensures.upper_bound);
    }
