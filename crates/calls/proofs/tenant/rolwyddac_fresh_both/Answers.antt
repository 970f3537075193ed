-- `rolwyddac_fresh_both` meets its contract: what the call over words gave, and the records that are cleared have its words.
use Rattle.std.specs.Prelude.{ℕ, List}
use mathlib.Core.Path.{sym}
use Rattle.machine.specs.Machine.{state_of}
use Rattle.tenants.specs.Tenants.{sharing_of}
use Rattle.records.specs.Records.{flat_words}
use Rattle.records.proofs.Words.{length_words}
use Rattle.calls.proofs.Stores.{both_cleared}
use Rattle.calls.proofs.tenant.rolwyddac_fresh_both.Goals as goal

pub returns : goal.returns
returns c =
    let after = c.fresh.new in
    let rs = c.args.first_progress.now in
    let ss = c.args.second_progress.now in
    both_cleared
    (λ (k l : List ℕ). sharing_of (state_of after.memories0 after.buffer0 k after.status0) (state_of after.memories1 after.buffer1 l after.status1) after.engaged)
    rs _ ss _ _ _ _ c.clear.ensures c.clear-2.ensures c.number_of-number.ensures
    (c.fresh.ensures (flat_words rs) (flat_words ss) (sym (length_words rs)) (sym (length_words ss)))
