-- The recipe, and then the four bytes of the route, by both.
use Rattle.packets.proofs.Bytes.{put_whole, fingerprint_is}
use mathlib.Core.Path.{refl}
use Rattle.packets.proofs.fingerprint.Goals as goal

pub returns : goal.returns
returns c =
    fingerprint_is c.args.recipe.now c.put_word.new.space c.args.route c.fed.result c.fed-check.result c.mixed.result
    c.mixed-mix.result _
    (put_whole _ c.put_word.new.space c.args.route refl c.put_word.ensures) c.fed.ensures c.fed-check.ensures c.mixed.ensures
    c.mixed-mix.ensures c.double.ensures
