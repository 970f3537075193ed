-- `writer::nest_from` meets its contract: each table is made from its list.
use Rattle.std.proofs.Common.{rules}
use Rattle.writer.proofs.FromFields as F
use Rattle.writer.proofs.Tables as T
use native.Mathlib.Omega.{arith}
use Rattle.writer.proofs.nest_from.Goals as goal

pub table-spread_over-requires : goal.table-spread_over-requires
table-spread_over-requires c = (omega arith, (omega (arith, (F.agreed _ c.requires).dimensions, (F.agreed _ c.requires).counts), λ k d h. tt))

pub spread_of-requires : goal.spread_of-requires
spread_of-requires c = (F.agreed _ c.requires).dimensions

pub table-requires : goal.table-requires
table-requires c = (omega arith, ((F.agreed _ c.requires).dimensions, λ k d h. tt))

pub table-requires-2 : goal.table-requires-2
table-requires-2 c = (omega arith, (omega (arith, (F.agreed _ c.requires).dimensions, (F.agreed _ c.requires).tiling), λ k d h. tt))

pub table-requires-3 : goal.table-requires-3
table-requires-3 c = (omega arith, (omega (arith, (F.agreed _ c.requires).distances, (F.agreed _ c.requires).components), λ k d h. tt))

pub table-requires-4 : goal.table-requires-4
table-requires-4 c = (omega arith, ((F.agreed _ c.requires).distances, λ k d h. tt))

pub table-requires-5 : goal.table-requires-5
table-requires-5 c = (omega arith, ((F.agreed _ c.requires).sides, λ k d h. tt))

pub table-requires-6 : goal.table-requires-6
table-requires-6 c = (omega arith, (omega (arith, (F.agreed _ c.requires).sides, (F.agreed _ c.requires).bounded), λ k d h. tt))

pub table-requires-7 : goal.table-requires-7
table-requires-7 c = (omega arith, (omega (arith, (F.agreed _ c.requires).sides, (F.agreed _ c.requires).earlier), λ k d h. tt))

pub table-requires-8 : goal.table-requires-8
table-requires-8 c = (omega arith, (omega (arith, (F.agreed _ c.requires).sides, (F.agreed _ c.requires).slopes), λ k d h. tt))

pub table-requires-9 : goal.table-requires-9
table-requires-9 c = (omega arith, (omega (arith, (F.agreed _ c.requires).sides, (F.agreed _ c.requires).offsets), λ k d h. tt))

pub returns : goal.returns
returns c =
    F.from_made _ _ _ _ _ _ _ _ _ _ _ _ c.requires _ _ _ _ _ _ _ _ _ _ _ _ _
    (T.table_is c.table-spread_over.ensures (omega (arith, (F.agreed _ c.requires).dimensions, (F.agreed _ c.requires).counts)) _ (λ i y h m. search rules))
    c.spread_of.ensures
    (T.table_is c.table.ensures ((F.agreed _ c.requires).dimensions) _ (λ i y h m. search rules))
    (T.table_is c.table-2.ensures (omega (arith, (F.agreed _ c.requires).dimensions, (F.agreed _ c.requires).tiling)) _ (λ i y h m. search rules))
    (T.table_is c.table-3.ensures (omega (arith, (F.agreed _ c.requires).distances, (F.agreed _ c.requires).components)) _ (λ i y h m. search rules))
    (T.table_is c.table-4.ensures ((F.agreed _ c.requires).distances) _ (λ i y h m. search rules))
    (T.table_is c.table-5.ensures ((F.agreed _ c.requires).sides) _ (λ i y h m. search rules))
    (T.table_is c.table-6.ensures (omega (arith, (F.agreed _ c.requires).sides, (F.agreed _ c.requires).bounded)) _ (λ i y h m. search rules))
    (T.table_is c.table-7.ensures (omega (arith, (F.agreed _ c.requires).sides, (F.agreed _ c.requires).earlier)) _ (λ i y h m. search rules))
    (T.table_is c.table-8.ensures (omega (arith, (F.agreed _ c.requires).sides, (F.agreed _ c.requires).slopes)) _ (λ i y h m. search rules))
    (T.table_is c.table-9.ensures (omega (arith, (F.agreed _ c.requires).sides, (F.agreed _ c.requires).offsets)) _ (λ i y h m. search rules))
    c.from.ensures c.from-2.ensures
