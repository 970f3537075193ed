-- All processors' areas beside the shared ones, along a run: the same answers, and they agree after every event.
use Prim.Native.Nat.{ℕ, ◌≤◌, ◌<◌}
use mathlib.Core.Path.{◌≡◌, refl, sym, ap, ◌∙◌}
use mathlib.Core.Logic.{◌≢◌}
use mathlib.Core.List.{List, [], ◌∷◌}
use native.Mathlib.Omega.{arith}
use native.Mathlib.Decide.{dec_lt, ℕ_discrete}
use borrow.Author.Tests.{ne_eqb, lt-ltb, le-ltb}
use Rattle.base.proofs.Tests.{not-true, not-false, pick_true, pick_false}
use Rattle.base.proofs.Numbers.{first_false, first_true}
use Rattle.machine.specs.Plan.{Plan, Sound}
use Rattle.machine.specs.Machine.{State, Answered, turn, fresh}
use Rattle.machine.specs.Runs.{Event, turn_of, delivery_of, act, state_after, answers_to}
use Rattle.machine.proofs.Kept.{Inv, inv_fit}
use Rattle.machine.proofs.Fresh.{inv_fresh, status_fresh}
use Rattle.machine.proofs.Along.{next_inv}
use Rattle.network.specs.Apart.{AreasApart, start_apart, replaced, turn_apart, act_apart}
use Rattle.network.proofs.Letters.{letter_both, replaced_same, replaced_other}
use Rattle.network.proofs.Agrees.{Agrees, Nothing, number_same}
use Rattle.network.proofs.Turn.{own_turn, away_turn}
use Rattle.network.proofs.Carry.{carry_number, carry_agrees}

pub record Together (Q : ℕ → Type 0) (p : Plan) (source : List ℕ) (s : State) (areas : AreasApart) : Type 0 where
  pub inv : Inv p source s
  pub each : (b : ℕ) → b < p.processors → Agrees Q Nothing p s b (areas b)

-- at the start
pub start_together : {Q : ℕ → Type 0} (p : Plan) (source : List ℕ) → ((m : ℕ) → Q m → ⊥) → Together Q p source (fresh p) (start_apart p)
unfolding start_apart
start_together p source no_one =
    record {
      inv = inv_fresh p source;
      each = λ b h. record {
        shape = (inv_fresh p source).shape;
        high = λ m lo. omega (arith, status_fresh p m);
        memory = refl;
        recorded = record { finished = refl; stage = refl; sent = refl };
        letters = λ m lo z. letter_both p b m _ _ _ _ (omega (arith, status_fresh p m)) refl refl (λ i n k. status_fresh p m) (λ k. absurd (no_one m k))
            (λ k. absurd (no_one m k)) (λ i k. omega (arith, status_fresh p m));
      };
    }

-- a turn by an existing processor, and by none
module _ (p : Plan) (source : List ℕ) (areas : AreasApart) (b : ℕ) where
  pub turn_here : b < p.processors
      → turn_apart p source areas b ≡ record { number = (turn p source (areas b) b).number; after = replaced areas b (turn p source (areas b) b).after }
  unfolding turn_apart
  turn_here h = pick_true _ _ _ (lt-ltb b p.processors h)

  pub turn_nowhere : p.processors ≤ b → turn_apart p source areas b ≡ record { number = 11; after = areas }
  unfolding turn_apart
  turn_nowhere h = pick_false _ _ _ (le-ltb b p.processors h)

module _ {Q : ℕ → Type 0} (p : Plan) (so : Sound p) (source : List ℕ) (s : State) (areas : AreasApart) (to : Together Q p source s areas) where
  refused_stays : (b : ℕ) → (turn p source s b).number ≢ 0 → (turn p source s b).after ≡ s
  unfolding turn
  refused_stays b n = pick_false _ _ _ (ne_eqb _ 0 n)

  module _ (b : ℕ) (h : p.processors ≤ b) where
    too_high : (turn p source s b).number ≡ 11
    unfolding turn
    too_high = first_false 10 _ _ (not-true (inv_fit p source s to.inv)) ∙ first_true 11 _ _ (not-false (le-ltb b p.processors h))

    stays_high : (turn p source s b).after ≡ s
    stays_high = refused_stays b (λ z. omega (arith, too_high))

  pub turn_number : (b : ℕ) → (turn_apart p source areas b).number ≡ (turn p source s b).number
  turn_number b = go (dec_lt b p.processors)
    where
      go : Dec (b < p.processors) → (turn_apart p source areas b).number ≡ (turn p source s b).number
      go (yes h) = ap (λ (x : Answered AreasApart). x.number) (turn_here p source areas b h) ∙ number_same p source s b (areas b) to.inv (to.each b h)
      go (no n) = ap (λ (x : Answered AreasApart). x.number) (turn_nowhere p source areas b (omega arith)) ∙ sym (too_high b (omega arith))

  pub turn_agrees : (b c : ℕ) → c < p.processors → Agrees Q Nothing p (turn p source s b).after c ((turn_apart p source areas b).after c)
  turn_agrees b c low = go (dec_lt b p.processors) (ℕ_discrete c b)
    where
      go : Dec (b < p.processors) → Dec (c ≡ b) → Agrees Q Nothing p (turn p source s b).after c ((turn_apart p source areas b).after c)
      go (yes h) (yes e) =
          rw (turn_here p source areas b h, e, replaced_same areas b (turn p source (areas b) b).after b refl)
          (own_turn p so source s b to.inv (areas b) (to.each b h))
      go (yes h) (no n) =
          rw (turn_here p source areas b h, replaced_other areas b (turn p source (areas b) b).after c n)
          (away_turn p so source s b to.inv c (areas c) n (to.each c low))
      go (no n) d = rw (turn_nowhere p source areas b (omega arith), stays_high b (omega arith)) (to.each c low)

module _ (p : Plan) (so : Sound p) (source : List ℕ) (s : State) (areas : AreasApart) (to : Together Nothing p source s areas) where
  -- any event
  pub event_number : (e : Event) → (act_apart p source areas e).number ≡ (act p source s e).number
  unfolding act_apart act
  event_number (turn_of b) = turn_number p so source s areas to b
  event_number (delivery_of m) = carry_number p so source s areas to.inv to.each m

  event_agrees : (e : Event) (c : ℕ) → c < p.processors → Agrees Nothing Nothing p (act p source s e).after c ((act_apart p source areas e).after c)
  unfolding act_apart act
  event_agrees (turn_of b) c low = turn_agrees p so source s areas to b c low
  event_agrees (delivery_of m) c low = carry_agrees p so source s areas to.inv to.each m c low

  pub event_together : (e : Event) → Together Nothing p source (act p source s e).after (act_apart p source areas e).after
  event_together e = record { inv = next_inv p so source s to.inv e; each = event_agrees e }

-- any list of events
module _ (p : Plan) (so : Sound p) (source : List ℕ) where
  pub run_together : (es : List Event) (s : State) (areas : AreasApart) → Together Nothing p source s areas
      → Together Nothing p source (state_after (act p source) s es) (state_after (act_apart p source) areas es)
  unfolding state_after
  run_together [] s areas to = to
  run_together (e ∷ es) s areas to = run_together es _ _ (event_together p so source s areas to e)

  pub run_answers : (es : List Event) (s : State) (areas : AreasApart) → Together Nothing p source s areas → answers_to (act_apart p source) areas es
      ≡ answers_to (act p source) s es
  unfolding answers_to
  run_answers [] s areas to = refl
  run_answers (e ∷ es) s areas to =
      let a = event_number p so source s areas to e in
      let b = run_answers es _ _ (event_together p so source s areas to e) in
      cc
