-- `values::shaped_values::overlap` meets its contract: none, or from the later beginning to the earlier end.
use native.Mathlib.Omega.{arith}
use Rattle.std.specs.Prelude.{◌≡◌, ◌+◌, min}
use Rattle.std.proofs.Common.{rules}
use Rattle.values.proofs.shaped_values.Runs.{overlapping}
use Rattle.values.proofs.shaped_values.overlap.Goals as goal

pub returns-then-end-first : goal.returns-then-end-first
returns-then-end-first c =
    let e : c.min-end.result ≡ min c.args.s.to (c.args.first + c.args.width) = search rules in
    overlapping _ _ _ _ _ (omega arith) (omega arith) (omega arith) (λ a h k. absurd (omega arith))
    (λ a h k l m. absurd (omega (arith, c.if-end-first.true, e)))

pub returns-then-end-s : goal.returns-then-end-s
returns-then-end-s c =
    let e : c.min-end.result ≡ min c.args.s.to (c.args.first + c.args.width) = search rules in
    overlapping _ _ _ _ _ (omega arith) (omega arith) (omega arith) (λ a h k. absurd (omega arith))
    (λ a h k l m. absurd (omega (arith, c.if-end-s.true, e)))

pub returns-then-s-first : goal.returns-then-s-first
returns-then-s-first c =
    let e : c.min-end.result ≡ min c.args.s.to (c.args.first + c.args.width) = search rules in
    overlapping _ _ _ _ _ (omega arith) (omega (arith, c.if-end-first.false)) (omega (arith, e))
    (λ a h k. (omega (arith, c.if-s-first.true), omega (arith, e))) (λ a h k l m. (h, omega (arith, e)))

pub returns : goal.returns
returns c =
    let e : c.min-end.result ≡ min c.args.s.to (c.args.first + c.args.width) = search rules in
    overlapping _ _ _ _ _ (omega (arith, c.if-s-first.false)) (omega (arith, c.if-end-s.false)) (omega (arith, e))
    (λ a h k. (h, omega (arith, e))) (λ a h k l m. (l, omega (arith, e)))
