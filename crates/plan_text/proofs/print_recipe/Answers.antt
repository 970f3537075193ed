-- `plan_text::print_recipe` meets its contract: word 0 names the direct route.
use Rattle.layout.specs.RouteWords.{route_of}
use Rattle.plan_text.proofs.print_recipe.Goals as goal

pub returns : goal.returns
unfolding route_of
returns g c = c.print_by.ensures
