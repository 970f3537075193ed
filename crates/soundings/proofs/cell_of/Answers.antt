-- `soundings::cell_of` meets its contract.
use Rattle.soundings.specs.Soundings.{cell_of}
use Rattle.soundings.proofs.cell_of.Goals as goal

pub returns : goal.returns
unfolding cell_of
returns c = c.word_at.ensures
