-- `soundings::fill_source` meets its contract: one law for each return.
use Prim.Native.Nat.{ℕ}
use mathlib.Core.Path.{sym, ◌∙◌}
use lib.ListN.{length-replicate, get_or-replicate}
use Rattle.soundings.proofs.Sifting as S
use Rattle.soundings.proofs.Returns as R
use Rattle.soundings.proofs.fill_source.Goals as goal

pub set_out-requires : goal.set_out-requires
set_out-requires c = (c.requires, record { long = length-replicate {A = ℕ} 49152 0; each = λ i h. get_or-replicate {A = ℕ} 49152 i 0 0 h })

pub sift-requires : goal.sift-requires
sift-requires c = (c.requires, S.sifted_none _ _ _ _ c.set_out.ensures)

pub returns-then-sift : goal.returns-then-sift
returns-then-sift c = R.off_22 _ _ _ (sym c.sift.ensures.value ∙ c.if-sift.true)

pub copy-requires : goal.copy-requires
copy-requires c = ((c.sift.ensures.sifted c.if-sift.false).long, c.requires)

pub returns : goal.returns
returns c =
    let A = c.args in
    let off = c.sift.ensures in
    let left = c.if-sift.false in
    R.filled_0 A.file.now A.value A.source.now (sym off.value ∙ left) _ (c.copy.ensures ∙ S.words_are _ _ _ _ _
    c.set_out.ensures (off.sifted left))
