-- `rolwyddac_part_fresh` meets its contract: what the call over words gave, and the records that are cleared have its words.
use Rattle.std.specs.Prelude.{ℕ, List}
use mathlib.Core.Path.{refl, sym}
use Rattle.machine.specs.Machine.{state_of}
use Rattle.records.specs.Records.{flat_words}
use Rattle.records.proofs.Words.{length_words}
use Rattle.calls.proofs.Stores.{start_cleared}
use Rattle.calls.proofs.board.rolwyddac_part_fresh.Goals as goal

pub returns : goal.returns
returns c =
    let after = c.fresh-number.new in
    let rs = c.args.progress.now in
    start_cleared (λ (l : List ℕ). state_of after.memory after.mail l after.marks) rs _ _ _ _ c.clear.ensures refl
    (c.fresh-number.ensures (flat_words rs) (sym (length_words rs)))
