-- From a fresh start that gave 0 the calls answer, event by event, as the machine on the recipe's plan; so what holds of its runs
-- holds of theirs.
use Rattle.std.specs.Prelude.{◌≡◌, ℕ, true, List, [], ◌∷◌, ◌++◌, length}
use mathlib.Core.Path.{refl, sym, ap, ◌∙◌}
use borrow.Author.Tests.{eq-eqb}
use Rattle.base.specs.Numbers.{first_of}
use Rattle.base.proofs.Tests.{and_true}
use Rattle.machine.specs.Plan.{Plan, Sound, taker_of}
use Rattle.machine.specs.Machine.{State, Answered, Action, gather, send, collect, fresh}
use Rattle.machine.specs.Runs.{Event, turn_of, delivery_of, act, state_after, answers_to, turns_of, CarriedOut, Demand3}
use Rattle.machine.specs.Words.{word_at, cell_of, Did, Posted}
use Rattle.machine.specs.StatusTells.{StatusTells}
use Rattle.machine.proofs.Kept.{Inv}
use Rattle.machine.proofs.Fresh.{inv_fresh}
use Rattle.machine.proofs.Along.{run_inv, next_inv}
use Rattle.machine.proofs.RunLaws.{number_of}
use Rattle.machine.proofs.Once.{collects_like}
use Rattle.machine.proofs.Theorem.{theorem}
use Rattle.machine.proofs.Posted.{posted}
use Rattle.machine.proofs.StatusTells.{marks}
use Rattle.layout.specs.RouteWords.{route_of}
use Rattle.recipe.specs.Routes.{lines_for}
use Rattle.engine.specs.Calls.{recipe, areas, collect_call}
use Rattle.engine.specs.Demands.{calls}
use Rattle.engine.proofs.AsSteps.{turn_is, deliver_is, collect_is}

module _ (bytes : List ℕ) (route : ℕ) (source : List ℕ) (ok : first_of (lines_for (route_of route) bytes) ≡ 0)
    (so : Sound (recipe bytes route)) (long : length source ≡ (recipe bytes route).cells) where
  abbrev pub p : Plan
  p = recipe bytes route

  pub inv_areas : (s : State) → Inv p source s → areas p source s ≡ true
  unfolding areas
  inv_areas s inv =
      and_true (eq-eqb _ _ long)
      (and_true (eq-eqb _ _ inv.shape.memories)
      (and_true (eq-eqb _ _ inv.shape.buffer) (and_true (eq-eqb _ _ inv.shape.progress) (eq-eqb _ _ inv.shape.status))))

  pub same : (s : State) → Inv p source s → (e : Event) → calls bytes route source s e ≡ act p source s e
  unfolding calls act
  same s inv (turn_of b) = turn_is bytes route source s ok (inv_areas s inv) b
  same s inv (delivery_of m) = deliver_is bytes route source s ok (inv_areas s inv) m

  same_state : (es : List Event) (s : State) → Inv p source s → state_after (calls bytes route source) s es ≡ state_after (act p source) s es
  unfolding state_after
  same_state [] s inv = refl
  same_state (e ∷ es) s inv =
      ap (λ (a : Answered State). state_after (calls bytes route source) a.after es) (same s inv e)
      ∙ same_state es _ (next_inv p so source s inv e)

  same_answers : (es : List Event) (s : State) → Inv p source s → answers_to (calls bytes route source) s es ≡ answers_to (act p source) s es
  unfolding answers_to
  same_answers [] s inv = refl
  same_answers (e ∷ es) s inv =
      ap (λ (a : Answered State). a.number ∷ answers_to (calls bytes route source) a.after es) (same s inv e)
      ∙ ap (λ (l : List ℕ). (act p source s e).number ∷ l) (same_answers es _ (next_inv p so source s inv e))

  -- after the events `es` from the fresh start
  module _ (es : List Event) where
    abbrev here : State
    here = state_after (act p source) (fresh p) es

    inv_here : Inv p source here
    inv_here = run_inv p so source es (fresh p) (inv_fresh p source)

    state_is : state_after (calls bytes route source) (fresh p) es ≡ here
    state_is = same_state es (fresh p) (inv_fresh p source)

    answers_are : answers_to (calls bytes route source) (fresh p) es ≡ answers_to (act p source) (fresh p) es
    answers_are = same_answers es (fresh p) (inv_fresh p source)

    next_is : (e : Event) → calls bytes route source (state_after (calls bytes route source) (fresh p) es) e ≡ act p source here e
    next_is e = ap (λ (s : State). calls bytes route source s e) state_is ∙ same here inv_here e

    grid_is : (grid : List ℕ) → length grid ≡ p.cells
        → collect_call bytes route source (state_after (calls bytes route source) (fresh p) es) grid ≡ collect p here grid
    grid_is grid e =
        ap (λ (s : State). collect_call bytes route source s grid) state_is
        ∙ collect_is bytes route source here ok (inv_areas here inv_here) grid e

    -- the action that a turn then did
    did : (b : ℕ) (a : Action) → Did (calls bytes route source) (fresh p) p es b a → Did (act p source) (fresh p) p es b a
    did b a d = record { gave = sym (number_of (next_is (turn_of b))) ∙ d.gave; named = rw answers_are at d.named }

  -- ---- demand 3
  module _ (events : List Event) where
    abbrev claim : Type 0
    claim = Demand3 (act p source) (fresh p) events p source (collect p)

    carried : claim → (before after : List Event) (b : ℕ) → events ≡ before ++ (turn_of b ∷ after)
        → (calls bytes route source (state_after (calls bytes route source) (fresh p) before) (turn_of b)).number ≡ 0
        → CarriedOut p source (here before) (act p source (here before) (turn_of b)).after b (turns_of b before (answers_to (act p source) (fresh p) before))
    carried d before after b e z = d.carried_out before after b e (sym (number_of (next_is before (turn_of b))) ∙ z)

    demand3 : claim → Demand3 (calls bytes route source) (fresh p) events p source (collect_call bytes route source)
    demand3 d =
        record {
          once = rw answers_are d.once;
          goes_on = λ h. let r = d.goes_on (rw answers_are at h) in (r.0, number_of (next_is events r.0) ∙ r.1);
          then_fewer = λ e z. rw answers_are (d.then_fewer e (sym (number_of (next_is events e)) ∙ z));
          collecting = rw answers_are (collects_like p source _ _ _ _ (λ h. h) (λ h. h) (grid_is events) d.collecting);
          carried_out = λ before after b e z. rw (answers_are before, next_is before (turn_of b), state_is before) (carried d before after b e z);
        }

    pub run_demand3 : Demand3 (calls bytes route source) (fresh p) events p source (collect_call bytes route source)
    run_demand3 = demand3 (theorem p so source events)

    pub run_marks : StatusTells p (state_after (calls bytes route source) (fresh p) events) events (answers_to (calls bytes route source) (fresh p) events)
    run_marks = rw (state_is events, answers_are events) (marks p so source events)

  -- ---- what was sent
  module _ (before : List Event) (b m : ℕ) (d : Did (calls bytes route source) (fresh p) p before b (send m)) where
    mailed : Posted (act p source) (fresh p) p before b m
    mailed = posted p so source before b m (did before b (send m) d)

    pub run_posted : Posted (calls bytes route source) (fresh p) p before b m
    run_posted =
        record {
          stays = λ then q h. rw (state_is (before ++ (turn_of b ∷ then)), state_is before) (mailed.stays then q h);
          arrives = λ then c q h g.
              ap (λ (a : Answered State). word_at p a.after c (cell_of p m q)) (next_is (before ++ (turn_of b ∷ then)) (turn_of c))
              ∙ mailed.arrives then c q h (did (before ++ (turn_of b ∷ then)) c (gather (taker_of p m)) g)
              ∙ ap (λ (s : State). word_at p s b (cell_of p m q)) (sym (state_is before));
        }
