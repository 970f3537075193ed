-- What answers events as the machine does in every state of a run has the same rounds; so what holds of the machine's holds of its own.
use Prim.Native.Nat.{ℕ, zero, suc}
use mathlib.Core.Path.{◌≡◌, refl, sym, ap, ◌∙◌}
use mathlib.Core.Bool.{Bool}
use mathlib.Core.List.{List, [], ◌++◌}
use lib.ListN.{length}
use lib.Dec.{eqb}
use Rattle.base.specs.Tests.{◌and◌, pick, some}
use Rattle.base.specs.Lists.{count_if}
use Rattle.machine.specs.Plan.{Plan, Sound}
use Rattle.machine.specs.Machine.{State, Answered, stage_of, tiles_left, collect, fresh}
use Rattle.machine.specs.Runs.{Event, turn_of, act, state_after, answers_to}
use Rattle.machine.proofs.Kept.{Inv}
use Rattle.machine.proofs.Fresh.{inv_fresh}
use Rattle.machine.proofs.Along.{run_inv, next_inv}
use Rattle.machine.proofs.RunLaws.{number_of, after_of, same_end, same_numbers}
use Rattle.rounds.specs.Rounds.{could_gather, whole_tile, tiles_by, mail_in, round_by, round_from, rounds_from, rounds_of_other, rounds, drive, told}
use Rattle.rounds.specs.Rounds.{Told, RoundsHold}
use Rattle.rounds.proofs.Theorem.{theorem213}

module _ (p : Plan) (so : Sound p) (source : List ℕ) (acts : State → Event → Answered State)
    (same : (s : State) → Inv p source s → (e : Event) → acts s e ≡ act p source s e) where
  state_is : (s : State) → Inv p source s → (es : List Event) → state_after acts s es ≡ state_after (act p source) s es
  state_is s inv es = same_end (Inv p source) acts (act p source) same (next_inv p so source) es s inv

  could_is : (s : State) → Inv p source s → (b : ℕ) → could_gather acts p s b ≡ could_gather (act p source) p s b
  unfolding could_gather
  could_is s inv b = ap (λ (a : Answered State). eqb (stage_of s b) 0 and eqb a.number 0) (same s inv (turn_of b))

  -- only the tests ask what is answered
  tiles_are : (does does' : ℕ → Bool) (s : State) → ((b : ℕ) → does b ≡ does' b) → (n : ℕ) → tiles_by acts p does s n ≡ tiles_by (act p source) p does' s n
  unfolding tiles_by
  tiles_are does does' s e zero = refl
  tiles_are does does' s e (suc n) =
      ap (λ (l : List Event). l ++ pick (does n) (whole_tile acts p s n) []) (tiles_are does does' s e n)
      ∙ ap (λ (t : Bool). tiles_by (act p source) p does' s n ++ pick t (whole_tile (act p source) p s n) []) (e n)

  round_is : (does does' : ℕ → Bool) (s : State) → Inv p source s → ((b : ℕ) → does b ≡ does' b) → round_by acts p does s ≡ round_by (act p source) p does' s
  unfolding round_by mail_in
  round_is does does' s inv e =
      ap (λ (l : List Event). l ++ mail_in acts p (state_after acts s l)) (tiles_are does does' s e p.processors)
      ∙ ap (λ (x : State). tiles_by (act p source) p does' s p.processors ++ mail_in (act p source) p x)
      (state_is s inv (tiles_by (act p source) p does' s p.processors))

  -- a round from equal states
  round_from_lem : (s s' : State) → s ≡ s' → Inv p source s' → round_from acts p s ≡ round_from (act p source) p s'
  round_from_lem s s' e inv = ap (λ (x : State). round_from acts p x) e ∙ round_is (could_gather acts p s') (could_gather (act p source) p s') s' inv (could_is s' inv)

  inv_then : (es : List Event) → Inv p source (state_after (act p source) (fresh p) es)
  inv_then es = run_inv p so source es (fresh p) (inv_fresh p source)

  -- the events of the rounds
  pub events_are : (r : ℕ) → rounds_from acts p r ≡ rounds_from (act p source) p r
  unfolding rounds_from
  events_are zero = refl
  events_are (suc r) =
      ap (λ (l : List Event). l ++ round_from acts p (state_after acts (fresh p) l)) (events_are r)
      ∙ ap (λ (l : List Event). rounds_from (act p source) p r ++ l)
      (round_from_lem (state_after acts (fresh p) (rounds_from (act p source) p r)) (state_after (act p source) (fresh p) (rounds_from (act p source) p r))
      (state_is (fresh p) (inv_fresh p source) (rounds_from (act p source) p r)) (inv_then (rounds_from (act p source) p r)))

  others_are : (who : ℕ → ℕ → Bool) (r : ℕ) → rounds_of_other acts p who r ≡ rounds_of_other (act p source) p who r
  unfolding rounds_of_other
  others_are who zero = refl
  others_are who (suc r) =
      ap (λ (l : List Event). l ++ round_by acts p (λ b. could_gather acts p (state_after acts (fresh p) l) b and who r b) (state_after acts (fresh p) l))
      (others_are who r)
      ∙ ap (λ (x : State). before ++ round_by acts p (λ b. could_gather acts p x b and who r b) x) (state_is (fresh p) (inv_fresh p source) before)
      ∙ ap (λ (l : List Event). before ++ l)
      (round_is (λ b. could_gather acts p here b and who r b) (λ b. could_gather (act p source) p here b and who r b) here (inv_then before)
      (λ b. ap (λ (t : Bool). t and who r b) (could_is here (inv_then before) b)))
    where
      before : List Event
      before = rounds_of_other (act p source) p who r

      here : State
      here = state_after (act p source) (fresh p) before

  -- the driver
  drive_is : (most r : ℕ) (s : State) → Inv p source s → drive acts p most r s ≡ drive (act p source) p most r s
  unfolding drive
  drive_is zero r s inv = refl
  drive_is (suc most) r s inv =
      ap (λ (d : Told). pick (some (tiles_left p s) p.processors) d (told r s))
      (ap (λ (l : List Event). drive acts p most (suc r) (state_after acts s l)) (round_from_lem s s refl inv)
      ∙ ap (λ (x : State). drive acts p most (suc r) x) (state_is s inv (round_from (act p source) p s))
      ∙ drive_is most (suc r) (state_after (act p source) s (round_from (act p source) p s)) (run_inv p so source (round_from (act p source) p s) s inv))

  pub driver_is : (most : ℕ) → drive acts p most 0 (fresh p) ≡ drive (act p source) p most 0 (fresh p)
  driver_is most = drive_is most 0 (fresh p) (inv_fresh p source)

  -- the state and the answers after the rounds
  pub then_is : (r : ℕ) → state_after acts (fresh p) (rounds_from acts p r) ≡ state_after (act p source) (fresh p) (rounds_from (act p source) p r)
  then_is r = ap (λ (l : List Event). state_after acts (fresh p) l) (events_are r) ∙ state_is (fresh p) (inv_fresh p source) (rounds_from (act p source) p r)

  answers_are : (es : List Event) → answers_to acts (fresh p) es ≡ answers_to (act p source) (fresh p) es
  answers_are es = same_numbers (Inv p source) acts (act p source) same (next_inv p so source) es (fresh p) (inv_fresh p source)

  numbers_are : (r : ℕ) → answers_to acts (fresh p) (rounds_from acts p r) ≡ answers_to (act p source) (fresh p) (rounds_from (act p source) p r)
  numbers_are r = ap (λ (l : List Event). answers_to acts (fresh p) l) (events_are r) ∙ answers_are (rounds_from (act p source) p r)

  others_numbers : (who : ℕ → ℕ → Bool) (r : ℕ)
      → answers_to acts (fresh p) (rounds_of_other acts p who r) ≡ answers_to (act p source) (fresh p) (rounds_of_other (act p source) p who r)
  others_numbers who r = ap (λ (l : List Event). answers_to acts (fresh p) l) (others_are who r) ∙ answers_are (rounds_of_other (act p source) p who r)

  module _ (collects : State → List ℕ → Answered (List ℕ))
      (same-grid : (s : State) → Inv p source s → (grid : List ℕ) → length grid ≡ p.cells → collects s grid ≡ collect p s grid) where
    grid_is : (r : ℕ) (grid : List ℕ) → length grid ≡ p.cells
        → collects (state_after acts (fresh p) (rounds_from acts p r)) grid ≡ collect p (state_after (act p source) (fresh p) (rounds_from (act p source) p r)) grid
    grid_is r grid l =
        ap (λ (x : State). collects x grid) (then_is r) ∙ same-grid (state_after (act p source) (fresh p) (rounds_from (act p source) p r))
        (inv_then (rounds_from (act p source) p r)) grid l

    next_is : (r : ℕ) → round_from acts p (state_after acts (fresh p) (rounds_from acts p r)) ≡ round_from (act p source) p
        (state_after (act p source) (fresh p) (rounds_from (act p source) p r))
    next_is r = round_from_lem _ _ (then_is r) (inv_then (rounds_from (act p source) p r))

    pub rounds_hold : RoundsHold acts collects p source
    rounds_hold =
        let h = theorem213 p so source in
        record {
          round_is = h.round_is;
          all_done = λ r. rw (numbers_are r, events_are r) (h.all_done r);
          finished = λ r b low. rw (then_is r) (h.finished r b low);
          stage = λ r b low. rw (then_is r) (h.stage r b low);
          sent = λ r b low. rw (then_is r) (h.sent r b low);
          in_their_order = λ r t l k. rw (then_is r) (h.in_their_order r t l k);
          not_sooner = λ r t l k. rw (then_is r) (h.not_sooner r t l k);
          landed = λ r m lo k. rw (then_is r) (h.landed r m lo k);
          unsent = λ r m lo k. rw (then_is r) (h.unsent r m lo k);
          ends = λ r k. rw (numbers_are r) (h.ends r k);
          not_before = λ r k. rw (numbers_are r) (h.not_before r k);
          tells = λ most k. driver_is most ∙ h.tells most k ∙ ap (λ (x : State). told (rounds p) x) (sym (then_is (rounds p)));
          few = h.few;
          does_something = λ r k. rw (next_is r) (h.does_something r k);
          does_nothing = λ r k. next_is r ∙ h.does_nothing r k;
          collects = λ old l. number_of (grid_is (rounds p) old l) ∙ h.collects old l;
          grid = λ old l. after_of (grid_is (rounds p) old l) ∙ h.grid old l;
          own_plan = h.own_plan;
          no_tile_sooner = h.no_tile_sooner;
          no_sooner = h.no_sooner;
          no_driver_sooner = λ who r e. h.no_driver_sooner who r (sym (ap (λ (l : List ℕ). count_if (λ x. eqb x 0) l) (others_numbers who r)) ∙ e);
        }
