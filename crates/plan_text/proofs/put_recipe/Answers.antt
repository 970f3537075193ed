-- `plan_text::put_recipe` meets its contract.
use Rattle.base.proofs.Codes.{code_some}
use Rattle.plan_text.proofs.Laws as L
use Rattle.text.specs.Writing.{pen}
use native.Mathlib.Omega.{arith}
use mathlib.Core.Path.{ap}
use Rattle.layout.specs.RouteWords.{route_of}
use Rattle.summary.specs.declared.Figures.{Figures}
use Rattle.plan_text.proofs.put_recipe.Goals as goal

pub returns-then-encoded-gt512 : goal.returns-then-encoded-gt512
returns-then-encoded-gt512 c =
    let A = c.args in
    record {
      space_after = L.too_long (route_of A.route) A.encoded.now _ (pen 0 A.space.now) c.if-encoded-gt512.true c.put_refused.ensures.space_after;
      upper_bound = omega (arith, c.put_refused.ensures.upper_bound);
    }

pub returns-in-Err : goal.returns-in-Err
returns-in-Err c =
    let A = c.args in
    let wrote = c.put_refused-in-Err in
    record {
      space_after = L.refused_text_lem (route_of A.route) A.encoded.now _ (pen 0 A.space.now) c.if-encoded-gt512.false _
          c.in-Err.ensures.number (code_some c.in-Err.refusal) (rw c.number.ensures at wrote.ensures.space_after);
      upper_bound = omega (arith, wrote.ensures.upper_bound);
    }

pub put_lines-requires : goal.put_lines-requires
put_lines-requires c =
    let layout = c.in-Ok.table.layout in
    let messages = ap (λ (x : Figures). x.messages) c.figures_of-figures.ensures in
    record {
      messages_bound = omega (
        arith,
        L.messages_most layout.sizes.route layout.nest layout.sized.accepted c.in-Ok.table.tabled.routed,
        messages,
        c.put_figures-next.ensures.upper_bound,
      );
      messages_value = messages;
    }

pub returns : goal.returns
returns c =
    let A = c.args in
    let layout = c.in-Ok.table.layout in
    let opened = c.in-Ok.ensures.layout.opened in
    record {
      space_after = L.planned (route_of A.route) A.encoded.now _ (pen 0 A.space.now) c.if-encoded-gt512.false _ opened.none opened.is _
          c.figures_of-figures.result c.figures_of-figures.ensures c.put_figures-next.ensures.space_after
          c.put_lines.ensures.space_after;
      upper_bound = omega (
        arith,
        L.messages_most layout.sizes.route layout.nest layout.sized.accepted c.in-Ok.table.tabled.routed,
        ap (λ (x : Figures). x.messages) c.figures_of-figures.ensures,
        c.put_figures-next.ensures.upper_bound,
        c.put_lines.ensures.upper_bound,
      );
    }
