-- By the chain.
use Rattle.schedule.proofs.Chains as chains
use Rattle.schedule.proofs.index.next.Goals as goal

pub returns : goal.returns
returns c = chains.chain_next _ _ _ _ _ _ c.requires.0 c.requires.1.0 c.requires.1.1.1 c.from.ensures
