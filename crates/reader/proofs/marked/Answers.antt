-- `reader::marked` meets its contract: what `count` answers over the front.
use mathlib.Core.Path.{◌≡◌, ◌∙◌}
use lib.ListN.{take}
use lib.Dec.{ltb}
use Rattle.std.proofs.Common.{rules}
use Rattle.std.specs.List.{count_by}
use Rattle.reader.proofs.Counts.{front_count}
use Rattle.reader.proofs.marked.Goals as goal

pub returns : goal.returns
returns c =
    let counted : c.count.result ≡ count_by (λ m. ltb 0 m) (take c.args.n c.args.marks.now) = search rules in
    counted ∙ front_count _ _ _ c.requires
