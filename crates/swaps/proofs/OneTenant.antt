-- Request W-214 for one tenant: for every sound plan, every source, every list of events and any two different events that can both be
-- taken; and for any calls that answer like the machine.
use Prim.Native.Nat.{ℕ}
use mathlib.Core.Path.{◌≡◌, ap}
use mathlib.Core.Logic.{◌≢◌}
use mathlib.Core.List.{List}
use Rattle.machine.specs.Plan.{Plan, Sound}
use Rattle.machine.specs.Machine.{State, Answered, fresh}
use Rattle.machine.specs.Runs.{Event, turn_of, delivery_of, act, state_after}
use Rattle.machine.proofs.Kept.{Inv}
use Rattle.machine.proofs.Fresh.{inv_fresh}
use Rattle.machine.proofs.Along.{run_inv, next_inv}
use Rattle.machine.proofs.Guards.{Guards, good_end}
use Rattle.machine.proofs.AnyCalls as any
use Rattle.swaps.specs.Swaps.{CanTake, EitherWay, Swaps}
use Rattle.swaps.specs.OneTenant.{Different, plainly, Demand214}
use Rattle.swaps.proofs.Pairs.{two_turns, turn_delivery, two_deliveries}
use Rattle.swaps.proofs.Carried.{turned_round, plain_taken, carried, rewinds}

-- in a state with the invariant
pub either_event : (p : Plan) → Sound p → (source : List ℕ) (s : State) → Inv p source s → (e f : Event) → e ≢ f
    → CanTake (act p source) s e → CanTake (act p source) s f → EitherWay (act p source) s e f
unfolding act
either_event p so source s inv (turn_of b) (turn_of c) ne x y = two_turns p so source s inv b c (λ q. ne (ap turn_of q)) x y
either_event p so source s inv (turn_of b) (delivery_of m) ne x y = turn_delivery p so source s inv b m x y
either_event p so source s inv (delivery_of m) (turn_of b) ne x y = turned_round (turn_delivery p so source s inv b m y x)
either_event p so source s inv (delivery_of m) (delivery_of k) ne x y = two_deliveries p so source s inv m k (λ q. ne (ap delivery_of q)) x y

pub swaps : (p : Plan) → Sound p → (source : List ℕ) (events : List Event)
    → Swaps (Different plainly) (act p source) (state_after (act p source) (fresh p) events)
swaps p so source events = record { either_way = either_event p so source _ (run_inv p so source events (fresh p) (inv_fresh p source)) }

-- ---- any calls that are guarded, as a turn at its minute
module _ (p : Plan) (so : Sound p) (source : List ℕ) {X : Type 0} (event_of : X → Event) (calls : State → X → Answered State)
    (allowed : X → Type 0) (gd : Guards (Inv p source) (act p source) calls event_of allowed) where
  module _ (s : State) (inv : Inv p source s) where
    taken_guarded : (x : X) → CanTake calls s x → CanTake (act p source) s (event_of x)
    taken_guarded = plain_taken (Inv p source) (act p source) calls event_of allowed gd (next_inv p so source) s inv

    guarded_at : Swaps (Different event_of) calls s
    guarded_at =
        record {
          either_way = λ x y ne zx zy.
              carried (Inv p source) (act p source) calls event_of allowed gd (next_inv p so source) s inv
              x y zx zy (either_event p so source s inv (event_of x) (event_of y) ne (taken_guarded x zx) (taken_guarded y zy));
        }

  swaps_run : (events : List X) → Swaps (Different event_of) calls (state_after calls (fresh p) events)
  swaps_run events =
      guarded_at _
      (good_end (Inv p source) (act p source) calls event_of allowed gd (next_inv p so source) events (fresh p) (inv_fresh p source))

  pub demand214 : Demand214 event_of calls (fresh p)
  demand214 = record { swaps = swaps_run; rewinds = rewinds (Different event_of) calls (fresh p) swaps_run }

-- ---- calls that answer as the machine does in every state with the invariant

pub likewise : (p : Plan) (source : List ℕ) (calls : State → Event → Answered State)
    → ((s : State) → Inv p source s → (e : Event) → calls s e ≡ act p source s e)
    → Guards (Inv p source) (act p source) calls plainly (λ e. Unit {0})
likewise = any.likewise
