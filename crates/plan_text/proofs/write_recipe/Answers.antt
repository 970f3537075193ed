-- `plan_text::write_recipe` meets its contract.
use Rattle.plan_text.proofs.Laws as L
use native.Mathlib.Omega.{arith}
use Rattle.plan_text.proofs.write_recipe.Goals as goal

pub returns : goal.returns
returns c =
    record {
      space_after = L.at_front _ c.args.space.now _ _ c.put_recipe.ensures.space_after (omega (
        arith,
        c.put_recipe.ensures.upper_bound,
        c.requires,
      ));
      upper_bound = c.put_recipe.ensures.upper_bound;
    }
