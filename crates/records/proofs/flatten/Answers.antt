use Rattle.std.proofs.Common.{◌+◌, arith, sym, ap, ◌∙◌}
use lib.ListN.{drop}
use Rattle.records.specs.declared.Flat.{Flat}
use Rattle.records.proofs.Laws.{flat_from, more_of, none_of}
use Rattle.records.proofs.Words.{carries_flat}
use Rattle.records.proofs.flatten.Goals as goal

pub loop-i-preserved : goal.loop-i-preserved
loop-i-preserved c =
    ap (λ (f : Flat). flat_from (c.loop-i.i + 1) (drop (c.loop-i.i + 1) c.args.progress.now) f) c.with_record-flat.ensures
    ∙ sym (more_of _ _ _ c.loop-i-test.true) ∙ c.loop-i.invariant

pub returns : goal.returns
returns c = carries_flat _ _ (sym (none_of _ _ _ (omega arith)) ∙ c.loop-i.invariant)
