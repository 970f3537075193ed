-- Each refusal has a number of its own, never 0.
use mathlib.Core.Logic.{◌≢◌}
use native.Mathlib.Omega.{arith}
use Rattle.base.specs.declared.refusal.Refusal.{Refusal}
use Rattle.base.specs.declared.refusal.Refusal.TheVariants as refusal
use Rattle.base.specs.Refusals.{code}

pub code_some : (r : Refusal) → code r ≢ 0
code_some refusal.Ragged z = omega arith
code_some refusal.StrayRecord z = omega arith
code_some refusal.Length z = omega arith
code_some refusal.TooLarge z = omega arith
code_some refusal.Distance z = omega arith
code_some refusal.Tile z = omega arith
code_some refusal.Boards z = omega arith
code_some refusal.Tiles z = omega arith
code_some refusal.Area z = omega arith
code_some refusal.Unfit z = omega arith
code_some refusal.NoSuch z = omega arith
code_some refusal.Waiting z = omega arith
code_some refusal.Finished z = omega arith
code_some refusal.NoMail z = omega arith
code_some refusal.Early z = omega arith
code_some refusal.SpreadOrder z = omega arith
code_some refusal.LastSpread z = omega arith
code_some refusal.TooWide z = omega arith
code_some refusal.Engaged z = omega arith
code_some refusal.Empty z = omega arith
code_some refusal.DirectOnly z = omega arith
code_some refusal.OffTheBox z = omega arith
code_some refusal.NoChart z = omega arith
code_some refusal.Closed z = omega arith
code_some refusal.Hours z = omega arith
code_some refusal.Damaged z = omega arith
code_some refusal.Stale z = omega arith
