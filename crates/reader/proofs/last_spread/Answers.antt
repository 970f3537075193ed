-- `reader::last_spread` meets its contract: it is the definition, computed.
use mathlib.Core.Path.{refl}
use Rattle.nest.specs.Reader.{last_spread}
use Rattle.reader.proofs.last_spread.Goals as goal

pub returns : goal.returns
unfolding last_spread
returns c = refl
