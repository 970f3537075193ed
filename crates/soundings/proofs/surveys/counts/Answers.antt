-- `soundings::surveys::counts` meets its contract: both keys as they are joined.
use Prim.Native.Nat.{ℕ}
use mathlib.Core.Path.{◌≡◌, refl}
use lib.Dec.{leb}
use Rattle.soundings.proofs.surveys.counts.Goals as goal

compared : (a b old new : ℕ) → a ≡ old → b ≡ new → leb a b ≡ leb old new
compared a b old new e f = rw (e, f) refl

pub returns : goal.returns
returns c = compared _ _ _ _ c.joined-old.ensures c.joined-new.ensures
