-- `comparison::put_lines` meets its contract.
use mathlib.Core.Path.{refl, subst}
use native.Mathlib.Omega.{arith}
use Rattle.nest.specs.declared.Nest.{Nest}
use Rattle.nest.proofs.Answers.{accepted_read}
use Rattle.layout.specs.Sizes.{Sized}
use Rattle.plan_text.proofs.Laws.{at_end_lem}
use Rattle.comparison.proofs.Lines as L
use Rattle.comparison.proofs.Laws as laws
use Rattle.text.specs.Writing.{pen}
use Rattle.comparison.proofs.put_lines.Goals as goal

pub returns-then-encoded-gt512 : goal.returns-then-encoded-gt512
returns-then-encoded-gt512 c =
    let wrote = c.put_refused in
    let long = c.if-encoded-gt512.true in
    record { space_after = L.too_long c.args.encoded.now _ (pen 0 c.args.space.now) long wrote.ensures.space_after; upper_bound = omega (arith, wrote.ensures.upper_bound) }

pub returns-in-Err : goal.returns-in-Err
returns-in-Err c =
    let wrote = c.put_refused-in-Err in record {
      space_after = L.refused_put c.args.encoded.now _ (pen 0 c.args.space.now) c.if-encoded-gt512.false c.in-Err.ensures
          (rw c.number.ensures at wrote.ensures.space_after);
      upper_bound = omega (arith, wrote.ensures.upper_bound);
    }

pub of-layout-requires : goal.of-layout-requires
of-layout-requires c = accepted_read c.in-Ok.ensures

pub returns-then-is_beyond : goal.returns-then-is_beyond
returns-then-is_beyond c =
    let beyond = c.is_beyond in
    let second = c.narrow-processors in
    let first = c.narrow-cells in
    let layout = c.of-layout.result in
    let sized : Sized c.in-Ok.nest layout.sizes = subst (λ (x : Nest). Sized x layout.sizes) c.of-layout.ensures.0 layout.sized in
    let short = c.if-encoded-gt512.false in
    let wrote = c.put_bytes.ensures in record {
      space_after = L.beyond_put c.args.encoded.now _ (pen 0 c.args.space.now) short c.in-Ok.ensures layout.sizes sized
          first.result second.result first.ensures second.ensures beyond.result beyond.ensures c.if-is_beyond.true wrote;
      upper_bound = omega (arith, at_end_lem (pen 0 c.args.space.now) _ _ wrote);
    }

pub put_four-requires : goal.put_four-requires
put_four-requires c =
    let beyond = c.is_beyond in
    let second = c.narrow-processors in
    let first = c.narrow-cells in
    let layout = c.of-layout.result in
    let sized : Sized c.in-Ok.nest layout.sizes = subst (λ (x : Nest). Sized x layout.sizes) c.of-layout.ensures.0 layout.sized in
    let figures = c.summary-figures in
    laws.in_limits c.in-Ok.ensures layout.sizes figures.result first.result second.result
    sized first.ensures second.ensures (laws.not_beyond first.result second.result beyond.result beyond.ensures
    c.if-is_beyond.false) figures.ensures

pub returns : goal.returns
returns c =
    let beyond = c.is_beyond in
    let second = c.narrow-processors in
    let first = c.narrow-cells in
    let layout = c.of-layout.result in
    let sized : Sized c.in-Ok.nest layout.sizes = subst (λ (x : Nest). Sized x layout.sizes) c.of-layout.ensures.0 layout.sized in
    let short = c.if-encoded-gt512.false in
    let wrote = c.put_four in record {
      space_after = L.lines_put c.args.encoded.now _ (pen 0 c.args.space.now) short c.in-Ok.ensures layout.sizes sized
          first.result second.result first.ensures second.ensures beyond.result beyond.ensures c.if-is_beyond.false
          wrote.ensures.space_after;
      upper_bound = wrote.ensures.upper_bound;
    }
