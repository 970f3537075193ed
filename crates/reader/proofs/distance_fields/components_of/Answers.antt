-- `reader::distance_fields::components_of` meets its contract: each number as it was made.
use native.Mathlib.Omega.{arith}
use Rattle.std.proofs.Common.{rules}
use Rattle.reader.proofs.Tables.{table_is}
use Rattle.reader.proofs.distance_fields.components_of.Goals as goal

pub returns : goal.returns
returns c = table_is c.table.ensures (omega arith) _ (λ i y h m. search rules)
