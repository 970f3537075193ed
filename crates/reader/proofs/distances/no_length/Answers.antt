-- `reader::distances::no_length` meets its contract: each return by its branches.
use borrow.Author.Tests.{eq-eqb, ne_eqb}
use Rattle.base.specs.Tests.{◌or◌}
use Rattle.nest.specs.Reader.{no_length}
use Rattle.reader.proofs.distances.no_length.Goals as goal

pub returns-then-v-eq0 : goal.returns-then-v-eq0
unfolding no_length ◌or◌
returns-then-v-eq0 c = simp (eq-eqb _ _ c.if-v-eq0.true)

pub returns-else-v-eq0 : goal.returns-else-v-eq0
unfolding no_length ◌or◌
returns-else-v-eq0 c = simp (ne_eqb _ _ c.if-v-eq0.false)
