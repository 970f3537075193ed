-- A drive from a fresh start ends with every step taken: a round does something, or no call gives 0 any more.
use Prim.Native.Nat.{ℕ, zero, suc, ◌+◌, ◌≤◌, ◌<◌}
use mathlib.Core.Path.{◌≡◌, refl}
use mathlib.Core.Logic.{◌≢◌, ◌⊎◌, inl, inr}
use mathlib.Core.Bool.{Bool, true, false}
use mathlib.Core.List.{List, [], ◌++◌, append_assoc}
use native.Mathlib.Nat.{eq-or-lt_of_le}
use native.Mathlib.Omega.{arith}
use lib.ListN.{get_or}
use borrow.Author.Tests.{ltb-true, eqb-true}
use Rattle.base.specs.Tests.{pick}
use Rattle.base.specs.Lists.{count_if}
use Rattle.base.proofs.Tests.{true_not}
use Rattle.base.proofs.Numbers.{none_first, none_behind}
use Rattle.machine.specs.Plan.{count}
use Rattle.machine.specs.Machine.{State, Answered}
use Rattle.machine.specs.Runs.{Event, turn_of, delivery_of, state_after, answers_to, total, steps, Demand3}
use Rattle.base.specs.Lists.{Bytes}
use Rattle.layout.specs.RouteWords.{route_of}
use Rattle.recipe.specs.Routes.{lines_for}
use Rattle.recipe.proofs.Laws.{numbered_for}
use Rattle.engine.specs.Calls.{recipe, fresh_call, turn_call, deliver_call, collect_call}
use Rattle.engine.specs.Demands.{calls}
use Rattle.engine.proofs.Demands.{demands}
use Rattle.machine.proofs.RunLaws.{after_append, steps_append}
use Rattle.comparison.specs.drive.Drive.{took, round_of, rounds_of, Started}
use Rattle.comparison.specs.declared.drive.Order.{Order}
use Rattle.comparison.proofs.drive.Passes as passes
use Rattle.comparison.proofs.drive.Passes.{took_none, took_some}

-- what a call that gives 0 says
module _ (bytes source : List ℕ) (s : State) where
  pub turn_low : (b : ℕ) → (turn_call bytes 0 source s b).number ≡ 0 → b < (recipe bytes 0).processors
  unfolding turn_call
  turn_low b z =
      let x = none_behind (lines_for (route_of 0) bytes) _ (numbered_for (route_of 0) bytes) z in
      let y = none_first 9 _ _ (λ e. omega arith) x in
      let w = none_first 10 _ _ (λ e. omega arith) y.1 in
      let v = none_first 11 _ _ (λ e. omega arith) w.1 in
      ltb-true _ _ (true_not v.0)

  pub delivery_low : (m : ℕ) → (deliver_call bytes 0 source s m).number ≡ 0 → (m < count (recipe bytes 0)) × (get_or s.status m 0 ≡ 1)
  unfolding deliver_call
  delivery_low m z =
      let x = none_behind (lines_for (route_of 0) bytes) _ (numbered_for (route_of 0) bytes) z in
      let y = none_first 9 _ _ (λ e. omega arith) x in
      let w = none_first 10 _ _ (λ e. omega arith) y.1 in
      let v = none_first 11 _ _ (λ e. omega arith) w.1 in
      let u = none_first 14 _ _ (λ e. omega arith) v.1 in
      (ltb-true _ _ (true_not v.0), eqb-true _ _ (true_not u.0))

module _ (bytes source : List ℕ) where
  abbrev acts : State → Event → Answered State
  acts = calls bytes 0 source

  pub refuses : (s : State) (e : Event) → (acts s e).number ≢ 0 → (acts s e).after ≡ s
  unfolding calls
  refuses s (turn_of b) h = ((demands.one bytes 0 source s).turn b).refuses h
  refuses s (delivery_of m) h = ((demands.one bytes 0 source s).deliver m).refuses h

  -- after a round in which nothing was done no call gives 0
  module _ (o : Order) (sized : o.processors ≡ (recipe bytes 0).processors) (counted : o.messages ≡ count (recipe bytes 0)) where
    stuck : (s : State) → steps acts s (round_of acts o s) ≡ 0 → (e : Event) → (acts s e).number ≢ 0
    unfolding calls
    stuck s idle (turn_of b) z =
        passes.no_turn acts refuses o s idle b (omega (arith, sized, turn_low bytes source s b z)) z
    stuck s idle (delivery_of m) z =
        passes.no_delivery acts refuses o s idle m (omega (arith, counted, (delivery_low bytes source s m z).0)) z

    module _ (start : State) (run : (es : List Event) → Demand3 acts start es (recipe bytes 0) source (collect_call bytes 0 source)) where
      -- a round after the events `es`: it does something, or every step was taken before
      at_end_lem : (es : List Event) → steps acts (state_after acts start es) (round_of acts o (state_after acts start es)) ≡ 0
          → steps acts start es ≡ total (recipe bytes 0)
      at_end_lem es idle = go (eq-or-lt_of_le (run es).once.bound)
        where
          go : (steps acts start es ≡ total (recipe bytes 0)) ⊎ (steps acts start es < total (recipe bytes 0))
              → steps acts start es ≡ total (recipe bytes 0)
          go (inl e) = e
          go (inr l) = let r = (run es).goes_on l in absurd (stuck (state_after acts start es) idle r.0 r.1)

      module _ (es : List Event) where
        abbrev here : State
        here = state_after acts start es

        abbrev next : List Event
        next = round_of acts o here

        one_more : (t : Bool) (X : List Event) → took acts here next ≡ t
            → (t ≡ true → steps acts start ((es ++ next) ++ X) ≡ total (recipe bytes 0))
            → steps acts start (es ++ (next ++ pick t X [])) ≡ total (recipe bytes 0)
        unfolding pick answers_to count_if
        one_more true X e more = rw append_assoc at (more refl)
        one_more false X e more =
            let a : steps acts here next ≡ 0 = took_none acts here next e in
            omega (arith, steps_append acts start es (next ++ []), steps_append acts here next [], at_end_lem es a, a)

      all_taken : (n : ℕ) (es : List Event) → total (recipe bytes 0) ≤ n + steps acts start es
          → steps acts start (es ++ rounds_of acts o n (state_after acts start es)) ≡ total (recipe bytes 0)
      unfolding rounds_of answers_to count_if
      all_taken zero es h =
          let b = (run es).once.bound in
          omega (arith, steps_append acts start es [], h)
      all_taken (suc n) es h =
          one_more es (took acts (here es) (next es)) (rounds_of acts o n (state_after acts (here es) (next es))) refl
          (λ e. rw (after_append acts start es (next es)) at (all_taken n (es ++ next es)
          (omega (arith, steps_append acts start es (next es), took_some acts (here es) (next es) e, h))))

pub ended : (bytes source : List ℕ) (o : Order) (n : ℕ) (s : State) → Bytes bytes → Started bytes source o n s
    → steps (calls bytes 0 source) s (rounds_of (calls bytes 0 source) o n s) ≡ total (recipe bytes 0)
unfolding state_after
ended bytes source o n s b h =
    rw h.state
    (all_taken bytes source o h.processors h.messages (fresh_call bytes 0 source h.before).after
    (demands.three bytes 0 source h.before b h.given) n [] (omega (arith, h.rounds)))
