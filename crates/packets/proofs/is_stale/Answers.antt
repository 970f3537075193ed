-- Each return is a law of a line.
use Rattle.packets.proofs.Answers.{stale_recipe, stale_run}
use mathlib.Core.Path.{refl}
use Rattle.packets.proofs.is_stale.Goals as goal

pub returns-then-double_at-fingerprint : goal.returns-then-double_at-fingerprint
returns-then-double_at-fingerprint c =
    stale_recipe c.args.packet.now c.args.fingerprint c.args.run c.double_at.result c.double_at.ensures
    c.if-double_at-fingerprint.true

pub returns-else-double_at-fingerprint : goal.returns-else-double_at-fingerprint
returns-else-double_at-fingerprint c =
    stale_run c.args.packet.now c.args.fingerprint c.args.run c.double_at.result c.double_at-else-double_at-fingerprint.result _ c.double_at.ensures
    c.if-double_at-fingerprint.false c.double_at-else-double_at-fingerprint.ensures refl
