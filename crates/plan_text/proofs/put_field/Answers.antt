-- `plan_text::put_field` meets its contract.
use Rattle.plan_text.proofs.Laws as L
use Rattle.text.specs.Writing.{pen}
use Rattle.plan_text.proofs.put_field.Goals as goal

pub put_number-requires : goal.put_number-requires
put_number-requires c =
    L.field_room c.args.word.now c.args.number c.args.after (pen c.args.at c.args.space.now) _
    c.put_bytes-next.ensures c.requires

pub returns : goal.returns
returns c =
    record {
      space_after = L.field_done c.args.word.now c.args.number c.args.after (pen c.args.at c.args.space.now) _
          c.put_bytes-next.ensures _ c.put_number.ensures.space_after;
      upper_bound = L.field_end c.args.word.now c.args.number c.args.after
          (pen c.args.at c.args.space.now) _ c.put_bytes-next.ensures _ c.put_number.ensures.space_after
          c.put_number.ensures.upper_bound;
    }
