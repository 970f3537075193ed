-- `values::shaped_values::read_of` meets its contract: the span of the row that is read, moved.
use Prim.Native.Nat.{◌-◌}
use native.Mathlib.Omega.{arith}
use mathlib.Core.Path.{sym, ◌∙◌}
use Rattle.nest.proofs.Shapes.{framed}
use Rattle.values.proofs.shaped_values.Runs.{read_none, read_some, read_empty, read_made, first_most}
use Rattle.values.proofs.shaped_values.read_of.Goals as goal

pub first_of-d-requires : goal.first_of-d-requires
first_of-d-requires c = (c.args.nest, (c.requires.0, (c.requires.1.0, c.requires.1.1.0)))

pub returns-then-d-eq1024 : goal.returns-then-d-eq1024
returns-then-d-eq1024 c = read_none _ c.requires.0 _ _ (sym (c.first_of-d.ensures c.args.nest (c.requires.0, (c.requires.1.0, c.requires.1.1.0))) ∙ c.if-d-eq1024.true)

pub behind_of-to-requires : goal.behind_of-to-requires
behind_of-to-requires c =
    record {
      accepted = (c.requires.0, (c.requires.1.0, c.requires.1.1.0));
      narrow = (
        c.requires.1.1.1,
        (read_some _ c.requires.0 _ _
            (λ z. c.if-d-eq1024.false ((c.first_of-d.ensures c.args.nest (c.requires.0, (c.requires.1.0, c.requires.1.1.0))) ∙ z))).0,
      );
    }

pub span_of-far-requires : goal.span_of-far-requires
span_of-far-requires c = (framed _ c.requires.0, c.behind_of-to.ensures.1)

pub returns-then-far : goal.returns-then-far
returns-then-far c =
    read_empty _ c.requires.0 _ _ _ _ (read_some _ c.requires.0 _ _ (λ z. c.if-d-eq1024.false
    ((c.first_of-d.ensures c.args.nest (c.requires.0, (c.requires.1.0, c.requires.1.1.0))) ∙ z))).0 c.behind_of-to.ensures.0
    c.span_of-far.ensures c.if-far.true

pub overflow_add-result : goal.overflow_add-result
overflow_add-result c =
    omega (
      arith,
      c.if-far.false,
      c.span_of-far.ensures.most,
      c.requires.0.length_most (c.args.nest.dimensions - 1),
      first_most _ c.requires.0 _ _ _
          (c.first_of-d.ensures c.args.nest (c.requires.0, (c.requires.1.0, c.requires.1.1.0))),
    )

pub overflow_add-result-2 : goal.overflow_add-result-2
overflow_add-result-2 c =
    omega (
      arith,
      c.span_of-far.ensures.most,
      c.requires.0.length_most (c.args.nest.dimensions - 1),
      first_most _ c.requires.0 _ _ _
          (c.first_of-d.ensures c.args.nest (c.requires.0, (c.requires.1.0, c.requires.1.1.0))),
    )

pub returns : goal.returns
returns c =
    let r = read_some _ c.requires.0 _ _ (λ z. c.if-d-eq1024.false ((c.first_of-d.ensures c.args.nest (c.requires.0, (c.requires.1.0, c.requires.1.1.0)))
    ∙ z)) in read_made _ c.requires.0 _ _ _ _ r.0 c.behind_of-to.ensures.0 c.span_of-far.ensures _ r.1
    (c.first_of-d.ensures c.args.nest (c.requires.0, (c.requires.1.0, c.requires.1.1.0)))
