-- `kernels::store_column` meets its contract: each word of the column before stands until it is read.
use mathlib.Core.List.{[], ◌∷◌}
use native.Mathlib.Omega.{arith}
use Rattle.kernels.specs.Taps.{made}
use Rattle.kernels.proofs.Sums.{fits_at_lem}
use Rattle.kernels.proofs.Columns.{reads_one, reads_two, reads_three, reads_four, column_stands, column_is}
use Rattle.kernels.proofs.store_column.Goals as goal

pub store_after-first-requires : goal.store_after-first-requires
store_after-first-requires c =
    let f = made 1 (c.args.p.back ∷ []) (c.args.p.weight ∷ []) c.args.rule.outside c.args.rule.shift c.args.source.now in
    let low = c.requires.0.back 0 (omega arith) in
    (fits_at_lem c.requires.0 _ 1 _ (omega arith) (omega arith) (omega arith), reads_one f c.args.c c.requires.1.1.1 c.requires.1.0 low c.requires.1.1.0)

pub store_after-second-requires : goal.store_after-second-requires
store_after-second-requires c =
    let f = made 1 (c.args.p.back ∷ []) (c.args.p.weight ∷ []) c.args.rule.outside c.args.rule.shift c.args.source.now in
    let low = c.requires.0.back 0 (omega arith) in
    let e₁ = c.store_after-first.ensures.0 in
    (fits_at_lem c.requires.0 _ 1 _ (omega arith) (omega arith) (omega arith), reads_two f c.args.c c.requires.1.1.1 c.requires.1.0 low c.requires.1.1.0 e₁)

pub store_after-third-requires : goal.store_after-third-requires
store_after-third-requires c =
    let f = made 1 (c.args.p.back ∷ []) (c.args.p.weight ∷ []) c.args.rule.outside c.args.rule.shift c.args.source.now in
    let low = c.requires.0.back 0 (omega arith) in
    let e₁ = c.store_after-first.ensures.0 in
    let e₂ = c.store_after-second.ensures.0 in
    (fits_at_lem c.requires.0 _ 1 _ (omega arith) (omega arith) (omega arith), reads_three f c.args.c c.requires.1.1.1 c.requires.1.0 low c.requires.1.1.0 e₁ e₂)

pub store_after-fourth-requires : goal.store_after-fourth-requires
store_after-fourth-requires c =
    let f = made 1 (c.args.p.back ∷ []) (c.args.p.weight ∷ []) c.args.rule.outside c.args.rule.shift c.args.source.now in
    let low = c.requires.0.back 0 (omega arith) in
    let e₁ = c.store_after-first.ensures.0 in
    let e₂ = c.store_after-second.ensures.0 in
    let e₃ = c.store_after-third.ensures.0 in
    (fits_at_lem c.requires.0 _ 1 _ (omega arith) (omega arith) (omega arith), reads_four f c.args.c c.requires.1.1.1 c.requires.1.0 low c.requires.1.1.0 e₁ e₂ e₃)

pub returns : goal.returns
returns c =
    let f = made 1 (c.args.p.back ∷ []) (c.args.p.weight ∷ []) c.args.rule.outside c.args.rule.shift c.args.source.now in
    let low = c.requires.0.back 0 (omega arith) in
    let one = c.store_after-first.ensures in
    let two = c.store_after-second.ensures in
    let three = c.store_after-third.ensures in
    let four = c.store_after-fourth.ensures in (
      column_is f c.args.c c.requires.1.1.1 c.requires.1.0 low c.requires.1.1.0 one.0 two.0 three.0 four.0,
      column_stands f c.args.c c.requires.1.1.1 c.requires.1.0 low c.requires.1.1.0 one.0 two.0 three.0 four.0 _ one.1 two.1
          three.1 four.1,
    )
