-- The mutable part at the message's offset comes back as the packed words.
use Rattle.stages.proofs.Parts as parts
use Rattle.stages.proofs.put_message.Goals as goal

pub pack-requires : goal.pack-requires
pack-requires c =
    record {
      sized = c.requires.sized;
      memory_len = (
        c.requires.memory_len.0,
        parts.mid_words c.args.table.now.layout.sizes.route c.args.table.now.layout.nest c.args.place.number c.args.place c.requires.sized
            c.args.buffer.now c.requires.memory_len.1,
      );
    }

pub returns : goal.returns
returns c =
    let A = c.args in
    parts.packed_is A.table.now.layout.sizes.route A.table.now.layout.nest A.place.number A.place c.requires.sized A.memory.now A.buffer.now
    c.pack.new.words c.requires.memory_len.1 c.pack.auto.words c.pack.ensures
