-- `soundings::ragged` meets its contract.
use Rattle.soundings.proofs.Sifting as S
use Rattle.soundings.proofs.ragged.Goals as goal

pub returns : goal.returns
returns c = S.ragged_is c.args.file.now
