-- Read this.
-- A message at its taker's: what is left of the call's lines once its areas are known to be fit; whose it is and how many words it has, network says.
-- Renders document 01, "The machine" and "Numbers a call gives", lines 9, 11 and 14.
use Rattle.std.specs.Prelude.{◌≡◌, ℕ, true, List, [], ◌∷◌, length, ◌==◌, slice_index}
use Rattle.base.specs.Tests.{not}
use Rattle.base.specs.Numbers.{line, first_of}
use Rattle.machine.specs.Plan.{Plan, count, words}
use Rattle.machine.specs.Machine.{State, Answered, answered}
use Rattle.network.specs.Apart.{received}
use Rattle.network.specs.Brought.{taken_by, as_long}

-- the areas into which a message is taken, and its words
pub record MayTake (p : Plan) (mail marks : List ℕ) (m : ℕ) (new : List ℕ) : Type 0 where
  pub buffer : length mail ≡ words p
  pub status : length marks ≡ count p
  pub long : as_long p m new ≡ true

-- past the lines before it: 11, 14, or the message taken in
abbrev pub received_or : Plan → State → ℕ → ℕ → List ℕ → Answered State
received_or p s b m new =
    answered (first_of (line 11 (not (taken_by p b m)) ∷ line 14 (not (slice_index s.status m == 0)) ∷ [])) (received p s m new) s
