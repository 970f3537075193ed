-- `rolwyddac_fresh` meets its contract: what the call over words gave, and the records that are cleared have its words.
use Rattle.std.specs.Prelude.{ℕ, List}
use mathlib.Core.Path.{sym}
use Rattle.machine.specs.Machine.{state_of}
use Rattle.records.specs.Records.{flat_words}
use Rattle.records.proofs.Words.{length_words}
use Rattle.calls.proofs.Stores.{start_cleared}
use Rattle.calls.proofs.rolwyddac_fresh.Goals as goal

pub returns : goal.returns
returns c =
    let after = c.fresh.new in
    let rs = c.args.progress.now in
    start_cleared (λ (l : List ℕ). state_of after.memories after.buffer l after.status) rs _ _ _ _ c.clear.ensures c.number_of-number.ensures
    (c.fresh.ensures (flat_words rs) (sym (length_words rs)))
