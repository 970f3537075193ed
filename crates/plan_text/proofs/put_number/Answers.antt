-- `plan_text::put_number` meets its contract.
use Rattle.plan_text.proofs.Laws as L
use Rattle.text.specs.Writing.{pen}
use Rattle.plan_text.proofs.put_number.Goals as goal

pub put_decimal-next-requires : goal.put_decimal-next-requires
put_decimal-next-requires c = L.number_room c.args.at c.args.number c.ranges.number.fits c.requires

pub put-requires : goal.put-requires
put-requires c =
    L.after_room c.args.number c.args.after c.ranges.number.fits (pen c.args.at c.args.space.now) _
    c.put_decimal-next.ensures c.requires

pub returns : goal.returns
returns c =
    record {
      space_after = L.number_done c.args.number c.args.after c.ranges.number.fits (pen c.args.at c.args.space.now) _
          c.put_decimal-next.ensures _ c.put.ensures;
      upper_bound = L.number_end c.args.number c.args.after c.ranges.number.fits (pen
          c.args.at c.args.space.now) _ c.put_decimal-next.ensures _ c.put.ensures;
    }
