-- Read this.
-- The calls by rounds, from the recipe's bytes and the lent areas: the driver, and each tile's round.
-- Renders document 02, W-213: the driver has a fresh start's lines, on the direct route, and goes on by rounds to the run's end.
use Rattle.std.specs.Prelude.{ℕ, List, [], ◌∷◌, ◌++◌, length, ◌==◌}
use Rattle.base.specs.Tests.{not}
use Rattle.base.specs.Numbers.{Line, line, first_of}
use Rattle.machine.specs.Machine as machine
use Rattle.machine.specs.Machine.{State, Answered, answered}
use Rattle.nest.specs.Reader.{read_lines}
use Rattle.rounds.specs.Rounds.{Told, told, drive, rounds_to}
use Rattle.engine.specs.Calls.{recipe, fresh_call_lines}
use Rattle.engine.specs.Demands.{calls}

-- number, rounds and areas: at a refusal no rounds and the areas as before, else what the driver tells whose every step is one of the calls
unfoldable pub rounds_call : List ℕ → List ℕ → State → Answered Told
rounds_call bytes source s =
    answered (first_of (fresh_call_lines bytes 0 source s))
    (drive (calls bytes 0 source) (recipe bytes 0) (recipe bytes 0).tiles 0 (machine.fresh (recipe bytes 0))) (told 0 s)

-- each tile's round is lent one word a tile
abbrev pub rounds_of_lines : List ℕ → List ℕ → List Line
rounds_of_lines bytes area = read_lines bytes ++ (line 9 (not (length area == (recipe bytes 0).tiles)) ∷ [])

unfoldable pub rounds_of_call : List ℕ → List ℕ → Answered (List ℕ)
rounds_of_call bytes area =
    answered (first_of (rounds_of_lines bytes area)) (rounds_to (recipe bytes 0) (recipe bytes 0).tiles) area
