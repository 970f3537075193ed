-- By the chain.
use Rattle.schedule.proofs.Chains as chains
use Rattle.schedule.proofs.index.first.Goals as goal

pub returns : goal.returns
returns c = chains.chain_first _ _ _ _ _ c.requires.0 c.requires.1 c.from.ensures
