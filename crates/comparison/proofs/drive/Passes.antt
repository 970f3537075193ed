-- Laws of passes: the state and the steps of joined lists of events, and what is so where no event gave 0.
use Prim.Native.Nat.{ℕ, zero, suc, ◌+◌, ◌-◌, ◌≤◌, ◌<◌}
use mathlib.Core.Path.{◌≡◌, refl, sym, ap, ◌∙◌}
use mathlib.Core.Logic.{◌≢◌, ◌⊎◌, inl, inr}
use mathlib.Core.Bool.{Bool, true, false}
use mathlib.Core.List.{List, [], ◌∷◌, ◌++◌}
use native.Mathlib.Nat.{eq-or-lt_of_le}
use native.Mathlib.Omega.{arith}
use lib.Dec.{ltb, eqb}
use borrow.Author.Tests.{eq-eqb, lt-ltb, ltb-true, ltb-false}
use Rattle.base.specs.Tests.{◌and◌, ◌or◌, one, pick}
use Rattle.base.specs.Lists.{count_if}
use Rattle.base.proofs.Tests.{or_right, pick_true, pick_false, one_true}
use Rattle.machine.specs.Machine.{State, Answered}
use Rattle.machine.specs.Runs.{Event, turn_of, delivery_of, state_after, answers_to, steps}
use Rattle.machine.proofs.RunLaws.{steps_append, steps_one}
use Rattle.comparison.specs.drive.Drive.{in_order, turns_to, turns, deliveries_to, took, round_of}
use Rattle.comparison.specs.declared.drive.Order.{Order}

or_none : (t : Bool) → t ≡ (t or false)
unfolding ◌or◌
or_none true = refl
or_none false = refl

-- every processor has its place in the order
placed : (P : ℕ) (f : Bool) (b : ℕ) → b < P → (k : ℕ) × (k < P) × (in_order P f k ≡ b)
unfolding in_order ◌and◌
placed P true b l =
    (P - 1 - b, omega arith, pick_true _ (P - 1 - (P - 1 - b)) (P - 1 - b) (lt-ltb (P - 1 - b) P (omega arith)) ∙ back)
  where
    back : P - 1 - (P - 1 - b) ≡ b
    back = omega arith
placed P false b l = (b, l, pick_false false (P - 1 - b) b refl)

module _ (acts : State → Event → Answered State) where
  pub took_one : (s : State) (a : List Event) (e : Event) → took acts s (a ++ (e ∷ [])) ≡ (took acts s a or eqb (acts (state_after acts s a) e).number 0)
  unfolding took ◌or◌ one
  took_one s a e =
      go (steps acts s a) (steps acts s (a ++ (e ∷ []))) (eqb (acts (state_after acts s a) e).number 0)
      (steps_append acts s a (e ∷ []) ∙ ap (λ (n : ℕ). steps acts s a + n) (steps_one acts (state_after acts s a) e))
    where
      go : (n m : ℕ) (t : Bool) → m ≡ n + one t → ltb 0 m ≡ (ltb 0 n or t)
      go n m true e = lt-ltb 0 m (omega (arith, e)) ∙ sym (or_right (ltb 0 n) refl)
      go n m false e =
          let q : m ≡ n = omega (arith, e) in
          ap (ltb 0) q ∙ or_none (ltb 0 n)

  -- nothing was done
  pub took_none : (s : State) (es : List Event) → took acts s es ≡ false → steps acts s es ≡ 0
  unfolding took
  took_none s es h = omega (arith, ltb-false 0 (steps acts s es) h)

  pub took_some : (s : State) (es : List Event) → took acts s es ≡ true → 1 ≤ steps acts s es
  unfolding took
  took_some s es h = omega (arith, ltb-true 0 (steps acts s es) h)

  -- a refused event leaves the state as it was
  module _ (refuses : (s : State) (e : Event) → (acts s e).number ≢ 0 → (acts s e).after ≡ s) where
    pub idle_one : (s : State) (e : Event) → one (eqb (acts s e).number 0) ≡ 0 → (acts s e).number ≢ 0
    idle_one s e h z = omega (arith, h, one_true (eq-eqb _ _ z))

    pub idle_state : (s : State) (es : List Event) → steps acts s es ≡ 0 → state_after acts s es ≡ s
    unfolding state_after answers_to count_if
    idle_state s [] h = refl
    idle_state s (e ∷ es) h =
        let r = refuses s e (idle_one s e (omega (arith, h))) in
        let x : steps acts (acts s e).after es ≡ 0 = omega (arith, h) in
        ap (λ (t : State). state_after acts t es) r ∙ idle_state s es (rw r at x)

    pub idle_both : (s : State) (a b : List Event) → steps acts s (a ++ b) ≡ 0 → (steps acts s a ≡ 0) × (steps acts s b ≡ 0)
    idle_both s a b h =
        let x : steps acts s a ≡ 0 = omega (arith, h, steps_append acts s a b) in
        let y : steps acts (state_after acts s a) b ≡ 0 = omega (arith, h, steps_append acts s a b) in
        (x, rw (idle_state s a x) at y)

    pub idle_turn : (P : ℕ) (f : Bool) (s : State) (n : ℕ) → steps acts s (turns_to P f n) ≡ 0 → (k : ℕ) → k < n
        → (acts s (turn_of (in_order P f k))).number ≢ 0
    unfolding turns_to
    idle_turn P f s zero h k l = absurd (omega arith)
    idle_turn P f s (suc n) h k l =
        let x = idle_both s (turns_to P f n) (turn_of (in_order P f n) ∷ []) h in
        go (λ l. idle_turn P f s n x.0 k l) (idle_one s _ (sym (steps_one acts s _) ∙ x.1)) (eq-or-lt_of_le (omega arith))
      where
        go : (k < n → (acts s (turn_of (in_order P f k))).number ≢ 0) → (acts s (turn_of (in_order P f n))).number ≢ 0 → (k ≡ n) ⊎ (k < n)
            → (acts s (turn_of (in_order P f k))).number ≢ 0
        go below here (inl e) = rw e here
        go below here (inr l) = below l

    pub idle_delivery : (s : State) (n : ℕ) → steps acts s (deliveries_to n) ≡ 0 → (k : ℕ) → k < n → (acts s (delivery_of k)).number ≢ 0
    unfolding deliveries_to
    idle_delivery s zero h k l = absurd (omega arith)
    idle_delivery s (suc n) h k l =
        let x = idle_both s (deliveries_to n) (delivery_of n ∷ []) h in
        go (λ l. idle_delivery s n x.0 k l) (idle_one s _ (sym (steps_one acts s _) ∙ x.1)) (eq-or-lt_of_le (omega arith))
      where
        go : (k < n → (acts s (delivery_of k)).number ≢ 0) → (acts s (delivery_of n)).number ≢ 0 → (k ≡ n) ⊎ (k < n)
            → (acts s (delivery_of k)).number ≢ 0
        go below here (inl e) = rw e here
        go below here (inr l) = below l

    -- a round in which nothing was done: no turn gives 0, and no delivery
    module _ (o : Order) (s : State) (idle : steps acts s (round_of acts o s) ≡ 0) where
      idle_parts : (steps acts s (turns o) ≡ 0) × (steps acts s (deliveries_to o.messages) ≡ 0)
      unfolding round_of
      idle_parts = go (took acts s (turns o)) refl idle
        where
          go : (t : Bool) → took acts s (turns o) ≡ t → steps acts s (pick t (turns o) (turns o ++ deliveries_to o.messages)) ≡ 0
              → (steps acts s (turns o) ≡ 0) × (steps acts s (deliveries_to o.messages) ≡ 0)
          go true e h = absurd (omega (arith, took_some s (turns o) e, rw (pick_true true (turns o) (turns o ++ deliveries_to o.messages) refl) at h))
          go false e h = idle_both s (turns o) (deliveries_to o.messages) (rw (pick_false false (turns o) (turns o ++ deliveries_to o.messages) refl) at h)

      pub no_turn : (b : ℕ) → b < o.processors → (acts s (turn_of b)).number ≢ 0
      no_turn b l =
          let k = placed o.processors o.falling b l in
          rw k.2 at (idle_turn o.processors o.falling s o.processors idle_parts.0 k.0 k.1)

      pub no_delivery : (m : ℕ) → m < o.messages → (acts s (delivery_of m)).number ≢ 0
      no_delivery m l = idle_delivery s o.messages idle_parts.1 m l
