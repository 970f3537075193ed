-- A turn that gave 0 did its action's rule, word by word; a gather wrote every word of every message due.
use Rattle.std.specs.Prelude.{◌≡◌, ℕ, ◌<◌, true, List, ◌++◌, length}
use native.Mathlib.Omega.{arith}
use Rattle.base.specs.Tests.{not}
use Rattle.base.specs.Lists.{In}
use Rattle.base.specs.Numbers.{first_of}
use Rattle.base.proofs.Tests.{true_not}
use Rattle.base.proofs.Numbers.{none_first, none_front, none_behind}
use Rattle.machine.specs.Plan.{held_by, dues_of}
use Rattle.machine.specs.Machine.{State, Action, gather, next_action, turn_lines}
use Rattle.machine.specs.Words.{word_at, mail_at, cell_of, Unpacks, Does}
use Rattle.base.proofs.Entries.{at_in}
use Rattle.machine.proofs.Words.{turn_does}
use Rattle.nest.specs.Reader.{nest_of}
use Rattle.nest.specs.Accepted.{Accepted}
use Rattle.plan.proofs.ShapedSound.{sound}
use Rattle.conformance.proofs.Plans.{once}
use Rattle.layout.specs.RouteWords.{route_of}
use Rattle.recipe.specs.Routes.{lines_for}
use Rattle.recipe.proofs.Laws.{numbered_for}
use Rattle.engine.specs.Calls.{recipe, areas, area_lines, turn_call}
use Rattle.engine.proofs.Lines.{areas_are}
use Rattle.engine.proofs.AsSteps.{turn_is}

-- a turn that gave 0 found none of the first lines true, and the areas of their lengths
turn_open : (l : List ℕ) (route : ℕ) (source : List ℕ) (s : State) (b : ℕ) → (turn_call l route source s b).number ≡ 0
    → first_of (lines_for (route_of route) l) ≡ 0
unfolding turn_call
turn_open l route source s b z =
    none_front (lines_for (route_of route) l) (area_lines (recipe l route) source s ++ turn_lines (recipe l route) s b) z

turn_areas : (l : List ℕ) (route : ℕ) (source : List ℕ) (s : State) (b : ℕ) → (turn_call l route source s b).number ≡ 0
    → areas (recipe l route) source s ≡ true
unfolding turn_call
turn_areas l route source s b z =
    true_not (none_first 9 (not (areas (recipe l route) source s)) (turn_lines (recipe l route) s b) (λ q. omega arith)
    (none_behind (lines_for (route_of route) l) (area_lines (recipe l route) source s ++ turn_lines (recipe l route) s b) (numbered_for (route_of route) l) z)).0

module _ (bytes : List ℕ) (route : ℕ) (ok : Accepted (nest_of bytes)) where
  pub does : (source : List ℕ) (s : State) (b : ℕ) → (turn_call bytes route source s b).number ≡ 0
      → Does (recipe bytes route) source s (turn_call bytes route source s b).after b (next_action (recipe bytes route) s b)
  does source s b e =
      let a = turn_areas bytes route source s b e in
      let k = areas_are (recipe bytes route) source s a in
      let i = turn_is bytes route source s (turn_open bytes route source s b e) a b in
      rw i (turn_does (recipe bytes route) (sound (route_of route) (nest_of bytes) ok) source s b k.memories k.buffer (rw i at e))

  pub written : (source : List ℕ) (s after : State) (b t : ℕ) (a : Action) → Does (recipe bytes route) source s after b a → a ≡ gather t
      → (m q : ℕ) → In m (dues_of (recipe bytes route) t) → q < length (held_by (recipe bytes route) m)
      → word_at (recipe bytes route) after b (cell_of (recipe bytes route) m q) ≡ mail_at (recipe bytes route) s m q
  written source s after b t a d e m q i h =
      let u : Unpacks (recipe bytes route) s after b t = rw e at d in
      u.written m q i h (λ n k g. once (nest_of bytes) ok (route_of route) t n m (cell_of (recipe bytes route) m q) k i g
      (at_in (held_by (recipe bytes route) m) q h))
