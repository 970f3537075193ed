-- `soundings::note` meets its contract: one law for each way.
use Rattle.soundings.proofs.Sifting as S
use Rattle.soundings.proofs.note.Goals as goal

pub returns-then-counts : goal.returns-then-counts
returns-then-counts c =
    S.noted_taken _ _ _ _ _ _ _ c.word_at-day.ensures c.word_at-survey.ensures c.counts.ensures _
    c.word_at.ensures c.if-counts.true

pub returns-else-counts : goal.returns-else-counts
returns-else-counts c =
    S.noted_passed _ _ _ _ _ _ _ c.word_at-day.ensures c.word_at-survey.ensures c.counts.ensures
    c.if-counts.false
