-- `values::row_values::row` meets its contract: the distances read in the row as its first cell's place says.
use mathlib.Core.Path.{◌∙◌, sym}
use Rattle.bands.proofs.lagged.Words.{row_mixes, row_values_lem}
use Rattle.values.proofs.row_values.Margins.{inner_row, any_row, first_most, firsts_all, firsts_copied}
use Rattle.values.proofs.row_values.row.Goals as goal

pub edge_row-requires : goal.edge_row-requires
edge_row-requires c =
    let p = c.requires.1 in
    let q = p.0.1.0 in
    let i = sym c.inner.ensures ∙ c.if-inner.true in
    let r = inner_row _ p.0.0 _ p.1.0 _ p.1.1 _ _ _ _ _ q i in
    (row_mixes _ p.0.0 _ _ _ _ _ _ r _ _ q.weights_are p.0.1.1.0 p.0.1.1.1, first_most _ p.0.0 _ q.margins _ q.firsts)

pub returns-then-inner : goal.returns-then-inner
returns-then-inner c =
    let i = sym c.inner.ensures ∙ c.if-inner.true in
    λ x p. row_values_lem _ p.0.0 _ _ _ _ _ _ (inner_row _ p.0.0 _ p.1.0 _ p.1.1 _ _ _ _ _ p.0.1.0 i) _ _ _
    c.edge_row.ensures

pub firsts_of-firsts-requires : goal.firsts_of-firsts-requires
firsts_of-firsts-requires c =
    let p = c.requires in
    (p.0, (p.1.0.0, p.1.0.1.0.given))

pub short_row-requires : goal.short_row-requires
short_row-requires c =
    let s = c.requires in
    let p = s.1 in
    let q = p.0.1.0 in
    let f = firsts_copied _ p.0.0 _ _ (c.firsts_of-firsts.ensures s.0 p.0.0 q.given) in
    let r = any_row _ p.0.0 _ p.1.0 _ p.1.1 _ _ _ _ _ q _ f in
    (row_mixes _ p.0.0 _ _ _ _ _ _ r _ _ q.weights_are p.0.1.1.0 p.0.1.1.1, firsts_all _ p.0.0 _ q.margins _ _ f)

pub returns : goal.returns
returns c =
    λ x p.
    let f = firsts_copied _ p.0.0 _ _ (c.firsts_of-firsts.ensures x p.0.0 p.0.1.0.given) in
    row_values_lem _ p.0.0 _ _ _ _ _ _ (any_row _ p.0.0 _ p.1.0 _ p.1.1 _ _ _ _ _ p.0.1.0 _ f) _ _ _ c.short_row.ensures
