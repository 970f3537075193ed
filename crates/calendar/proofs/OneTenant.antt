-- Request W-212 for one tenant: demand 3 of every run with hours, from the run theorem over those of its events that gave 0.
use Prim.Native.Nat.{ℕ, ◌<◌}
use mathlib.Core.Path.{◌≡◌, refl, sym, ◌∙◌}
use mathlib.Core.Bool.{true}
use mathlib.Core.List.{List, [], ◌∷◌, ◌++◌, map}
use native.Mathlib.Omega.{arith}
use lib.ListN.{length}
use borrow.Author.Tests.{ltb-true}
use Rattle.machine.specs.Plan.{Plan, Sound}
use Rattle.machine.specs.Machine.{State, Answered, tiles_left, collect, fresh}
use Rattle.machine.specs.Runs.{Event, turn_of, delivery_of, act, state_after, answers_to, total, turns_of, CarriedOut, Demand3, answers, last, steps}
use Rattle.machine.proofs.Turns.{turn_lines}
use Rattle.machine.proofs.Kept.{Inv}
use Rattle.machine.proofs.Fresh.{inv_fresh}
use Rattle.machine.proofs.Along.{next_inv}
use Rattle.machine.proofs.Theorem.{theorem}
use Rattle.machine.proofs.RunLaws.{after_of, Passed, ends, steps_same, turns_same}
use Rattle.machine.proofs.Once.{once_passed, collects_like}
use Rattle.machine.proofs.Guards.{Guards, is_plain, plain_zero, guarded_zero, good_end, passes}
use Rattle.calendar.specs.Windows.{week, open_at, Moment, moment_of, Timed, turn_at, mail_of, event_of, act_at}
use Rattle.calendar.specs.Demands212.{Faultless, OpensSometime, SomeStep, OnlyHours, Demand212}
use Rattle.calendar.proofs.Allowed.{Allowed, open_allowed, guards}

-- the lines of a turn that gives 0
pub turn_facts : (p : Plan) (source : List ℕ) (s : State) (b : ℕ) → (act p source s (turn_of b)).number ≡ 0 → (b < p.processors) × (tiles_left p s b ≡ true)
unfolding act
turn_facts p source s b z = let r = turn_lines p source s b z in (ltb-true _ _ r.0, r.2)

-- for any calls that do as the machine does where they are allowed, are refused elsewhere, and are allowed at open minutes of a faultless table
module _ (p : Plan) (so : Sound p) (source : List ℕ) (acts : State → Timed → Answered State) (allowed : Timed → Type 0)
    (gd : Guards (Inv p source) (act p source) acts event_of allowed)
    (mail-allowed : (m : ℕ) → allowed (mail_of m))
    (turn_allowed : (calendar : List ℕ) (minute b : ℕ) → Faultless p calendar → minute < week → open_at calendar b minute ≡ true → allowed
    (turn_at (moment_of calendar minute) b)) where
  good_next : (s : State) → Inv p source s → (e : Event) → Inv p source (act p source s e).after
  good_next s inv e = next_inv p so source s inv e

  module _ (ts : List Timed) where
    abbrev ended : State
    ended = last acts (fresh p) ts

    abbrev numbers : List ℕ
    numbers = answers acts (fresh p) ts

    abbrev events : List Event
    events = map event_of ts

    inv : Inv p source ended
    inv = good_end (Inv p source) (act p source) acts event_of allowed gd good_next ts (fresh p) (inv_fresh p source)

    -- those that gave 0
    passed : List Event
    passed = (passes (Inv p source) (act p source) acts event_of allowed gd good_next ts (fresh p) (inv_fresh p source)).0

    as_single : Passed (act p source) (fresh p) events numbers passed ended
    unfolding passed
    as_single = (passes (Inv p source) (act p source) acts event_of allowed gd good_next ts (fresh p) (inv_fresh p source)).1

    led_to : state_after (act p source) (fresh p) passed ≡ ended
    led_to = ends (act p source) as_single

    same_steps : steps (act p source) (fresh p) passed ≡ steps acts (fresh p) ts
    same_steps = steps_same (act p source) as_single

    single : Demand3 (act p source) (fresh p) passed p source (collect p)
    single = theorem p so source passed

    -- a turn that gave 0 is the next of its program
    carried : (h : Moment) (b : ℕ) → (acts ended (turn_at h b)).number ≡ 0 → CarriedOut p source ended (acts ended (turn_at h b)).after b
        (turns_of b events numbers)
    unfolding event_of
    carried h b z =
        rw (
          turns_same (act p source) b as_single,
          after_of
              (is_plain (Inv p source) (act p source) acts event_of allowed gd good_next ended inv (turn_at h b) z),
          sym led_to,
        )
        ((theorem p so source (passed ++ (turn_of b ∷ []))).carried_out passed [] b refl
        (rw led_to (plain_zero (Inv p source) (act p source) acts event_of allowed gd good_next ended inv (turn_at h b) z)))

    fewer : (x : Timed) → (acts ended x).number ≡ 0 → steps acts (fresh p) ts < total p
    fewer x z =
        let k = single.then_fewer (event_of x) (rw led_to (plain_zero (Inv p source) (act p source) acts event_of allowed gd good_next ended inv x z)) in
        omega (arith, same_steps)

    -- the machine's event, with hours
    with_hours : (calendar : List ℕ) → Faultless p calendar → (e : Event) → (act p source ended e).number ≡ 0 → OnlyHours acts (fresh p) ts p calendar
    unfolding event_of
    with_hours calendar f (turn_of b) z =
        let q = turn_facts p source ended b z in
        OnlyHours.when_open b q.0 q.1
        (λ minute low h. guarded_zero (Inv p source) (act p source) acts event_of allowed gd good_next ended inv (turn_at (moment_of calendar minute) b)
        (turn_allowed calendar minute b f low h) z)
    with_hours calendar f (delivery_of m) z =
        OnlyHours.by_mail m (guarded_zero (Inv p source) (act p source) acts event_of allowed gd good_next ended inv (mail_of m) (mail-allowed m) z)

    only_hours : (calendar : List ℕ) → Faultless p calendar → steps acts (fresh p) ts < total p → OnlyHours acts (fresh p) ts p calendar
    only_hours calendar f h =
        let g = single.goes_on (omega (arith, same_steps)) in
        with_hours calendar f g.0 (rw led_to at g).1

    at_open : (calendar : List ℕ) → ((b : ℕ) → b < p.processors → tiles_left p ended b ≡ true → OpensSometime calendar b) → OnlyHours acts (fresh p) ts p
        calendar
        → SomeStep acts (fresh p) ts calendar
    at_open calendar opens (OnlyHours.by_mail m z) = SomeStep.by_mail m z
    at_open calendar opens (OnlyHours.when_open b low left f) =
        let w = opens b low left in
        SomeStep.by_turn b w.0 w.1 w.2 (f w.0 w.1 w.2)

    module _ (collects : State → List ℕ → Answered (List ℕ))
        (same-grid : (s : State) → Inv p source s → (grid : List ℕ) → length grid ≡ p.cells → collects s grid ≡ collect p s grid) where
      grid_is : (grid : List ℕ) → length grid ≡ p.cells → collects ended grid ≡ collect p (state_after (act p source) (fresh p) passed) grid
      grid_is grid len = rw led_to (same-grid ended inv grid len)

      -- `carry`: what `carried` says of the lists before a turn
      demand : ((before : List Timed) (h : Moment) (b : ℕ) → (acts (state_after acts (fresh p) before) (turn_at h b)).number ≡ 0
          → CarriedOut p source (state_after acts (fresh p) before) (acts (state_after acts (fresh p) before) (turn_at h b)).after b
          (turns_of b (map event_of before) (answers_to acts (fresh p) before)))
          → Demand212 acts (fresh p) ts p source collects
      demand carry =
          record {
            once = once_passed p (act p source) as_single single.once;
            goes_on = λ calendar f opens h. at_open calendar opens (only_hours calendar f h);
            then_fewer = fewer;
            only_hours = only_hours;
            collecting =
                collects_like p source (steps acts (fresh p) ts ≡ total p) _ (collects ended) _ (λ e. same_steps ∙ e) (λ e. sym same_steps ∙ e) grid_is
                single.collecting;
            carried_out = λ before after h b e z. carry before h b z;
          }

  pub demand212_for : (ts : List Timed) (collects : State → List ℕ → Answered (List ℕ))
      → ((s : State) → Inv p source s → (grid : List ℕ) → length grid ≡ p.cells → collects s grid ≡ collect p s grid)
      → Demand212 acts (fresh p) ts p source collects
  demand212_for ts collects same-grid = demand ts collects same-grid carried

pub theorem212 : (p : Plan) → Sound p → (source : List ℕ) (events : List Timed) → Demand212 (act_at p source) (fresh p) events p source (collect p)
theorem212 p so source events =
    demand212_for p so source (act_at p source) (Allowed p) (guards p source) (λ m. tt) (λ calendar minute b f low h. open_allowed p calendar minute b f low h)
    events
    (collect p) (λ s inv grid len. refl)
