-- `reading::fields_of` meets its contract: each table as it was read, its numbers in the widths of their fields.
use Prim.Native.Nat.{ℕ, ◌+◌, ◌%◌, ◌<◌}
use lib.ListN.{get_or}
use native.Mathlib.Omega.{arith}
use lib.Seq.{length-take-le}
use Rattle.std.proofs.Common.{rules}
use Rattle.nest.specs.declared.Nest.{Nest}
use mathlib.Core.Path.{◌≡◌}
use mathlib.Core.Bool.{true}
use Rattle.writer.specs.Writing.{nest_writable}
use Rattle.writer.specs.Demand202.{Tables}
use Rattle.writer.proofs.Fitting.{Fits, writable_fits}
use Rattle.writer.proofs.Told as T
use Rattle.writer.proofs.reading.fields_of.Goals as goal

fit : (x : Nest) → Tables x × (nest_writable x ≡ true) → Fits x
fit x p = writable_fits x p.0 p.1

pub overflow_cast-result : goal.overflow_cast-result
overflow_cast-result c = omega (arith, (fit c.args.nest c.requires).dimensions)

pub overflow_cast-result-2 : goal.overflow_cast-result-2
overflow_cast-result-2 c = omega (arith, (fit c.args.nest c.requires).distances)

pub overflow_cast-result-3 : goal.overflow_cast-result-3
overflow_cast-result-3 c = omega (arith, (fit c.args.nest c.requires).bounds)

pub overflow_cast-result-4 : goal.overflow_cast-result-4
overflow_cast-result-4 c = omega (arith, (fit c.args.nest c.requires).boundary)

pub table-requires : goal.table-requires
table-requires c =
    let f = fit c.args.nest c.requires in
    (omega arith, (omega (arith, f.lengths.long), λ k d h. let low : get_or c.args.nest.lengths k d < 65536 = T.table_each 4 _ 65536 _ (omega arith) f.lengths k d h in search rules))

pub table-requires-2 : goal.table-requires-2
table-requires-2 c =
    let f = fit c.args.nest c.requires in
    (omega arith, (omega (arith, f.tiling.long), λ k d h. let low : get_or c.args.nest.tiling k d < 65536 = T.table_each 4 _ 65536 _ (omega arith) f.tiling k d h in search rules))

pub table-requires-3 : goal.table-requires-3
table-requires-3 c =
    let f = fit c.args.nest c.requires in
    (omega arith, (omega (arith, f.counts.long), λ k d h. let low : get_or c.args.nest.counts k d < 65536 = T.table_each 4 _ 65536 _ (omega arith) f.counts k d h in search rules))

pub table-requires-4 : goal.table-requires-4
table-requires-4 c =
    let f = fit c.args.nest c.requires in
    (omega arith, (omega (arith, f.components.long), λ k d h. let low : get_or c.args.nest.components k d < 65536 = T.table_each 32 _ 65536 _ (omega arith) f.components k d h in search rules))

pub table-requires-5 : goal.table-requires-5
table-requires-5 c =
    let f = fit c.args.nest c.requires in
    (omega arith, (omega (arith, f.weights.long), λ k d h. let low : get_or c.args.nest.weights k d < 65536 = T.table_each 8 _ 65536 _ (omega arith) f.weights k d h in search rules))

pub shared_ref_as_front-table : goal.shared_ref_as_front-table
shared_ref_as_front-table c = let f = fit c.args.nest c.requires in omega (arith, f.bounds, f.offsets.long, f.slopes.long)

pub table-requires-6 : goal.table-requires-6
table-requires-6 c =
    let f = fit c.args.nest c.requires in
    (omega arith, (omega (arith, f.bounds, length-take-le c.args.nest.bounds c.args.nest.offsets (omega (arith, f.bounds, f.offsets.long))), λ k d h. tt))

pub table-requires-7 : goal.table-requires-7
table-requires-7 c =
    let f = fit c.args.nest c.requires in
    (omega arith, (omega (arith, f.bounds, length-take-le c.args.nest.bounds c.args.nest.slopes (omega (arith, f.bounds, f.slopes.long))), λ k d h. tt))

pub overflow_cast-result-5 : goal.overflow_cast-result-5
overflow_cast-result-5 c = omega (arith, (fit c.args.nest c.requires).shift)

pub returns : goal.returns
returns c =
    let f = fit c.args.nest c.requires in
    T.told_is c.args.nest f _ _ _ _ _ _ _
    (T.same_table 4 c.table.ensures f.lengths.long (λ i y h m. search rules))
    (T.same_table 4 c.table-2.ensures f.tiling.long (λ i y h m. search rules))
    (T.same_table 4 c.table-3.ensures f.counts.long (λ i y h m. search rules))
    (T.same_table 32 c.table-4.ensures f.components.long (λ i y h m. search rules))
    (T.same_table 8 c.table-5.ensures f.weights.long (λ i y h m. search rules))
    (T.part_table 4 _ c.args.nest.offsets (λ (v : ℕ). (v + 32768) % 65536) f.bounds f.offsets.long c.table-6.ensures (λ i y h m. search rules))
    (T.part_table 4 _ c.args.nest.slopes (λ (v : ℕ). (v + 255) % 256) f.bounds f.slopes.long c.table-7.ensures (λ i y h m. search rules))
