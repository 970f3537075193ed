-- `rolwyddac_rounds` meets its contract: what the driver over words gave, and the records that are stored have the words it kept.
use Rattle.std.specs.Prelude.{List}
use mathlib.Core.Path.{ap, sym, ◌∙◌}
use Prim.Native.Nat.{ℕ}
use Rattle.machine.specs.Machine.{state_of}
use Rattle.rounds.specs.Rounds.{told}
use Rattle.records.specs.Records.{flat_words}
use Rattle.records.specs.declared.Progress.{Progress}
use Rattle.records.proofs.Words.{length_words}
use Rattle.engine.specs.Calls.{answer}
use Rattle.calls.proofs.DriverWords.{stored_words}
use Rattle.calls.proofs.round.rolwyddac_rounds.Goals as goal

pub returns : goal.returns
returns c =
    let after = c.drive-ran.new in
    let ran = c.drive-ran.result in
    let said = c.drive-ran.ensures in
    let rs = c.args.progress.now in
    ap (λ (l : List ℕ). answer ran.driven.number (told ran.driven.rounds (state_of after.memories after.buffer l after.status)))
    (ap (λ (l : List Progress). flat_words l) c.put_all.ensures ∙ stored_words ran.flat ran.driven.number rs said.1.1 said.1.0)
    ∙ said.0 (flat_words rs) (sym (length_words rs))
