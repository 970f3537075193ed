-- `inner::owner_at` meets its contract.
use Rattle.transport.proofs.RowOwners as owners
use Rattle.transport.proofs.inner.owner_at.Goals as goal
use Rattle.transport.proofs.inner.owner_at.Goals.{else-s-y-via-then-s-y+else-y-s, else-s-y-via-else-s-y}

pub returns-then-y-s : goal.returns-then-y-s
returns-then-y-s c = owners.inner c.args.s c.args.y c.args.processor c.args.none c.if-s-y.true c.if-y-s.true

pub returns-else-s-y : goal.returns-else-s-y
returns-else-s-y c =
    elim c.else-s-y.branch [
      | else-s-y-via-then-s-y+else-y-s w ↦ owners.behind c.args.s c.args.y c.args.processor c.args.none w.if-y-s.false
      | else-s-y-via-else-s-y w ↦ owners.before c.args.s c.args.y c.args.processor c.args.none w.if-s-y.false
    ]
