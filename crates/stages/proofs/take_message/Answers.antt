-- The read part at the message's offset is its place in the buffer.
use Rattle.stages.proofs.Parts as parts
use Rattle.stages.proofs.take_message.Goals as goal

pub unpack-requires : goal.unpack-requires
unpack-requires c =
    record {
      sized = c.requires.sized;
      memory_len = (
        c.requires.memory_len.0,
        parts.mid_words c.args.table.now.layout.sizes.route c.args.table.now.layout.nest c.args.place.number c.args.place c.requires.sized
            c.args.buffer.now c.requires.memory_len.1,
      );
    }

pub returns : goal.returns
returns c =
    let A = c.args in
    parts.taken_is A.table.now.layout.sizes.route A.table.now.layout.nest A.place.number A.place c.requires.sized A.memory.now A.buffer.now
    c.unpack.new.memory c.unpack.ensures
