-- The table at its put-chunk.
use borrow.Author.Rules.{rules}
use Rattle.packets.proofs.crc_table.entry.Goals as goal

pub returns : goal.returns
returns c = c.requires.at c.args.byte (search rules)
