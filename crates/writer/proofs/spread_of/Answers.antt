-- `writer::spread_of` meets its contract: what `count` answers over the front.
use mathlib.Core.Path.{◌≡◌, ◌∙◌}
use native.Mathlib.Omega.{arith}
use lib.ListN.{take}
use lib.Dec.{ltb}
use Rattle.std.proofs.Common.{rules}
use Rattle.std.specs.List.{count_by}
use Rattle.reader.proofs.Counts.{front_count}
use Rattle.writer.proofs.spread_of.Goals as goal

pub returns : goal.returns
returns c =
    let counted : c.count.result ≡ count_by (λ m. ltb 0 m) (take c.args.n c.args.counts) = search rules in
    counted ∙ front_count (λ m. ltb 0 m) c.args.counts c.args.n (omega arith)
