-- What W-213 demands holds of the calls' definitions, for every recipe's bytes.
use Rattle.std.specs.Prelude.{◌≡◌, ℕ, ◌<◌, true, List, get_or}
use mathlib.Core.Path.{refl, sym, ap, ◌∙◌}
use Rattle.base.specs.Lists.{Bytes}
use Rattle.base.specs.Numbers.{first_of}
use Rattle.machine.specs.Machine as machine
use Rattle.machine.specs.Machine.{State}
use Rattle.nest.specs.Reader.{nest_of}
use Rattle.nest.proofs.Facts.{accepted}
use Rattle.plan.proofs.ShapedSound.{sound}
use Rattle.layout.specs.RouteWords.{route_of}
use Rattle.recipe.specs.Routes.{lines_for}
use Rattle.recipe.proofs.Laws.{reads_for}
use Rattle.rounds.specs.Rounds.{told, drive, rounds_to, tile_round, RoundsHold}
use Rattle.engine.specs.Calls.{recipe, areas, fresh_call_lines, fresh_call, collect_call}
use Rattle.engine.specs.Demands.{Fixed, calls}
use Rattle.engine.proofs.Lines.{areas_are}
use Rattle.engine.proofs.AsSteps.{fresh_gave}
use Rattle.engine.proofs.Demands.{fixed}
use Rattle.schedule.specs.Calls.{rounds_call, rounds_of_lines, rounds_of_call}
use Rattle.schedule.specs.Demands.{Demand213}
use Rattle.schedule.proofs.Called.{held}

module _ (bytes source : List ℕ) (s : State) where
  run : Fixed (rounds_call bytes source s) (fresh_call_lines bytes 0 source s)
      (drive (calls bytes 0 source) (recipe bytes 0) (recipe bytes 0).tiles 0 (machine.fresh (recipe bytes 0))) (told 0 s)
  unfolding rounds_call
  run = fixed (fresh_call_lines bytes 0 source s) _ (told 0 s)

  as_fresh : (rounds_call bytes source s).number ≡ (fresh_call bytes 0 source s).number
  unfolding rounds_call fresh_call
  as_fresh = refl

  module _ (b : Bytes bytes) (z : (rounds_call bytes source s).number ≡ 0) where
    gave : (first_of (lines_for (route_of 0) bytes) ≡ 0) × (areas (recipe bytes 0) source s ≡ true)
    gave = fresh_gave bytes 0 source s (sym as_fresh ∙ z)

    by_rounds : RoundsHold (calls bytes 0 source) (collect_call bytes 0 source) (recipe bytes 0) source
    by_rounds =
        held bytes source gave.0 (sound (route_of 0) (nest_of bytes) (accepted bytes b (reads_for (route_of 0) bytes gave.0)))
        (areas_are (recipe bytes 0) source s gave.1).source

rounds_of : (bytes area : List ℕ) → Fixed (rounds_of_call bytes area) (rounds_of_lines bytes area) (rounds_to (recipe bytes 0) (recipe bytes 0).tiles) area
unfolding rounds_of_call
rounds_of bytes area = fixed (rounds_of_lines bytes area) (rounds_to (recipe bytes 0) (recipe bytes 0).tiles) area

round_of : (bytes area : List ℕ) → (rounds_of_call bytes area).number ≡ 0
    → (t : ℕ) → t < (recipe bytes 0).tiles → get_or (rounds_of_call bytes area).after t 0 ≡ tile_round (recipe bytes 0) t
unfolding tile_round
round_of bytes area z t h = ap (λ (l : List ℕ). get_or l t 0) ((rounds_of bytes area).works z)

pub demand213 : Demand213
demand213 =
    record {
      run = run;
      rounds_of = rounds_of;
      as_fresh = as_fresh;
      tells = λ bytes source s b z.
          (run bytes source s).works z
          ∙ (by_rounds bytes source s b z).tells (recipe bytes 0).tiles (by_rounds bytes source s b z).few;
      by_rounds = by_rounds;
      round_of = round_of;
    }
