-- Demands 2 and 3 of any calls that do on their areas what the machine does wherever they give 0: from the machine's own, over the run of those that did.
use Prim.Native.Nat.{ℕ, ◌<◌}
use mathlib.Core.Path.{◌≡◌, refl, sym, ap, ◌∙◌, subst}
use mathlib.Core.Logic.{◌⊎◌, inl, inr, ◌≢◌}
use mathlib.Core.Bool.{Bool, true, false}
use mathlib.Core.List.{List, [], ◌∷◌, ◌++◌}
use native.Mathlib.Omega.{arith}
use native.Mathlib.Decide.{ℕ_discrete}
use lib.ListN.{length, get_or}
use Rattle.base.specs.Tests.{pick}
use Rattle.base.proofs.Tests.{never_both}
use Rattle.machine.specs.Plan.{Plan, Sound, taker_of}
use Rattle.machine.specs.Machine.{State, Answered, Action, gather, send, next_action, collect, fresh}
use Rattle.machine.specs.Runs.{Event, turn_of, delivery_of, act, state_after, answers_to, total, program, turns_of, CarriedOut, Demand3, steps}
use Rattle.machine.specs.Words.{Does, Did, Posted}
use Rattle.machine.specs.AnyCalls.{View, events_in, numbers_in, whole, mixed, either, numbers_of, steps_of, own_after, own_then, turns_in}
use Rattle.machine.specs.AnyCalls.{TurnIn, DidIn, Demand3In, PostedIn, WordsIn, Alone}
use Rattle.machine.proofs.Fit.{numbers}
use Rattle.machine.proofs.Kept.{Inv}
use Rattle.machine.proofs.Along.{next_inv}
use Rattle.machine.proofs.Theorem.{theorem, named_next}
use Rattle.machine.proofs.Posted.{did, posted, next_is}
use Rattle.machine.proofs.StatusTells.{marks_passed}
use Rattle.machine.proofs.RunLaws.{after_of, after_append, Passed, ends, steps_same, turns_same, one_end}
use Rattle.machine.proofs.Once.{once_passed, collects_like}
use Rattle.machine.proofs.Guards.{Guards, alike_guards, is_plain, plain_zero, good_after}

-- in a good state: a call of ours that gives 0 does what the machine's event does; any other leaves our areas; and good states stay good
pub record Follows {S X : Type 0} (p : Plan) (source : List ℕ) (Good : S → Type 0) (v : View S X) (acts : S → X → Answered S) : Type 0 where
  pub number : (s : S) → Good s → (x : X) → v.ours x ≡ true → (acts s x).number ≡ 0 → (act p source (v.own s) (v.event x)).number ≡ 0
  pub after : (s : S) → Good s → (x : X) → v.ours x ≡ true → (acts s x).number ≡ 0 → v.own (acts s x).after ≡ (act p source (v.own s) (v.event x)).after
  pub refused : (s : S) → Good s → (x : X) → (acts s x).number ≢ 0 → v.own (acts s x).after ≡ v.own s
  pub others : (s : S) → Good s → (x : X) → v.ours x ≡ false → v.own (acts s x).after ≡ v.own s
  pub next : (s : S) → Good s → (x : X) → Good (acts s x).after

module _ {S X : Type 0} (p : Plan) (so : Sound p) (source : List ℕ) (Good : S → Type 0) (v : View S X) (acts : S → X → Answered S)
    (fo : Follows p source Good v acts) where
  abbrev M : State → List Event → List ℕ → List Event → State → Type 0
  M = Passed (act p source)

  good_run : (xs : List X) (s : S) → Good s → Good (state_after acts s xs)
  unfolding state_after
  good_run [] s good = good
  good_run (x ∷ xs) s good = good_run xs _ (fo.next s good x)

  pub seen : (xs : List X) (s : S) → Good s
      → (ps : List Event) × M (v.own s) (events_in v xs) (numbers_in v xs (answers_to acts s xs)) ps (v.own (state_after acts s xs))
  unfolding events_in numbers_in answers_to state_after pick
  seen [] s good = ([], Passed.none)
  seen (x ∷ xs) s good = go (v.ours x) refl (ℕ_discrete (acts s x).number 0) (seen xs _ (fo.next s good x)).0 (seen xs _ (fo.next s good x)).1
    where
      P : State → List Event → Type 0
      P y qs = M y (events_in v xs) (numbers_in v xs (answers_to acts (acts s x).after xs)) qs (v.own (state_after acts (acts s x).after xs))

      go : (t : Bool) → v.ours x ≡ t → Dec ((acts s x).number ≡ 0) → (qs : List Event) → P (v.own (acts s x).after) qs
          → (ps : List Event)
          × M (v.own s) (pick t (v.event x ∷ events_in v xs) (events_in v xs))
          (pick t ((acts s x).number ∷ numbers_in v xs (answers_to acts (acts s x).after xs)) (numbers_in v xs (answers_to acts (acts s x).after xs))) ps
          (v.own (state_after acts (acts s x).after xs))
      go true o (yes e) qs m =
          (v.event x ∷ qs, Passed.step e (fo.number s good x o e) (subst (λ (y : State). P y qs) (fo.after s good x o e) m))
      go true o (no n) qs m = (qs, Passed.refused n (subst (λ (y : State). P y qs) (fo.refused s good x n) m))
      go false o d qs m = (qs, subst (λ (y : State). P y qs) (fo.others s good x o) m)

  -- ---- from a start that is good and, for these areas, fresh
  module _ (start : S) (Good-start : Good start) (fresh_start : v.own start ≡ fresh p) where
    -- the calls of a list that gave 0
    module _ (calls : List X) where
      good : Good (state_after acts start calls)
      good = good_run calls start Good-start

      passed : List Event
      passed = (seen calls start Good-start).0

      ran : M (fresh p) (events_in v calls) (numbers_of v acts start calls) passed (own_after v acts start calls)
      unfolding passed
      ran =
          subst (λ (y : State). M y (events_in v calls) (numbers_of v acts start calls) (seen calls start Good-start).0 (own_after v acts start calls))
          fresh_start (seen calls start Good-start).1

      led_to : state_after (act p source) (fresh p) passed ≡ own_after v acts start calls
      led_to = ends (act p source) ran

      same_steps : steps (act p source) (fresh p) passed ≡ steps_of v acts start calls
      same_steps = steps_same (act p source) ran

      same_turns : (b : ℕ) → turns_in v acts start calls b ≡ turns_of b passed (answers_to (act p source) (fresh p) passed)
      same_turns b = turns_same (act p source) b ran

      single : Demand3 (act p source) (fresh p) passed p source (collect p)
      single = theorem p so source passed

      -- a turn of ours that gives 0 is the machine's
      module _ (x : X) (b : ℕ) (t : TurnIn v acts start calls x b) where
        gives : (act p source (state_after (act p source) (fresh p) passed) (turn_of b)).number ≡ 0
        gives = rw (led_to, sym t.turn) (fo.number _ good x t.ours t.gave)

        leaves : own_then v acts start calls x ≡ (act p source (state_after (act p source) (fresh p) passed) (turn_of b)).after
        leaves = rw (led_to, sym t.turn) (fo.after _ good x t.ours t.gave)

        carried : CarriedOut p source (own_after v acts start calls) (own_then v acts start calls x) b (turns_in v acts start calls b)
        carried =
            rw (same_turns b, leaves, sym led_to) ((theorem p so source (passed ++ (turn_of b ∷ []))).carried_out passed [] b refl gives)

      module _ (x : X) (b : ℕ) (a : Action) (d : DidIn v acts start p calls x b a) where
        as_did : Did (act p source) (fresh p) p passed b a
        as_did = record { gave = gives x b d.turn; named = ap (λ (k : ℕ). get_or (program p b) k (gather 0)) (sym (same_turns b)) ∙ d.named }

        does : Does p source (own_after v acts start calls) (own_then v acts start calls x) b a
        does = rw (leaves x b d.turn, sym led_to) (did p so source passed b a as_did)

    -- ---- message m, sent by the call x after the calls `before`
    module _ (before : List X) (x : X) (b m : ℕ) (d : DidIn v acts start p before x b (send m)) where
      sent_did : Did (act p source) (fresh p) p (passed before) b (send m)
      sent_did = as_did before x b (send m) d

      P : Posted (act p source) (fresh p) p (passed before) b m
      P = posted p so source (passed before) b m sent_did

      -- x and the calls after it, from where `before` led
      module _ (then : List X) where
        abbrev all : List X
        all = before ++ (x ∷ then)

        rest : List Event
        rest = (seen then (acts (state_after acts start before) x).after (fo.next _ (good before) x)).0

        abbrev events : List Event
        events = passed before ++ (turn_of b ∷ rest)

        there : state_after (act p source) (fresh p) events ≡ own_after v acts start all
        unfolding rest state_after
        there =
            after_append (act p source) (fresh p) (passed before) (turn_of b ∷ rest)
            ∙ ap (λ (s : State). state_after (act p source) s rest) (sym (leaves before x b d.turn))
            ∙ ends (act p source) (seen then (acts (state_after acts start before) x).after (fo.next _ (good before) x)).1
            ∙ ap v.own (sym (after_append acts start before (x ∷ then)))

        -- a turn after them, as one after the machine's events: both name what its processor does next
        module _ (y : X) (c : ℕ) (a : Action) (g : DidIn v acts start p all y c a) where
          gave_there : (act p source (state_after (act p source) (fresh p) events) (turn_of c)).number ≡ 0
          gave_there =
              ap (λ (s : State). (act p source s (turn_of c)).number) (there ∙ sym (led_to all)) ∙ gives all y c g.turn

          did_there : Did (act p source) (fresh p) p events c a
          did_there =
              record {
                gave = gave_there;
                named =
                    (named_next p so source events c gave_there).1
                    ∙ ap (λ (s : State). next_action p s c) (there ∙ sym (led_to all))
                    ∙ next_is p so source (passed all) c a (as_did all y c a g);
              }

      pub posted_in : PostedIn v acts start p before x b m
      posted_in =
          record {
            stays = λ then q h. rw (sym (there then), sym (led_to before)) (P.stays (rest then) q h);
            arrives = λ then y c q h g.
                rw (leaves (all then) y c g.turn, led_to (all then), sym (there then), sym (led_to before))
                (P.arrives (rest then) c q h (did_there then y c (gather (taker_of p m)) g));
          }

    pub words_in : WordsIn v acts start p source
    words_in = record { does = does; posted = posted_in; marks = λ calls. marks_passed p so source (ran calls) }

    pub demand3_in : (collects : S → List ℕ → Answered (List ℕ))
        → ((s : S) → Good s → (grid : List ℕ) → length grid ≡ p.cells → collects s grid ≡ collect p (v.own s) grid)
        → (calls : List X) → Demand3In v acts start p source collects calls
    demand3_in collects same-grid calls =
        record {
          once = once_passed p (act p source) (ran calls) (single calls).once;
          then_fewer = λ x o z.
              let k = (single calls).then_fewer (v.event x) (rw (led_to calls) (fo.number _ (good calls) x o z)) in
              omega (arith, same_steps calls);
          collecting =
              collects_like p source (steps_of v acts start calls ≡ total p) _ (collects (state_after acts start calls)) _ (λ e. same_steps calls ∙ e)
              (λ e. sym (same_steps calls) ∙ e) grid_is (single calls).collecting;
          carried_out = λ before after x b e t. carried before x b t;
        }
      where
        grid_is : (grid : List ℕ) → length grid ≡ p.cells
            → collects (state_after acts start calls) grid ≡ collect p (state_after (act p source) (fresh p) (passed calls)) grid
        grid_is grid len = rw (led_to calls) (same-grid _ (good calls) grid len)

    -- while steps are left the machine has an event that would give 0
    pub goes_on : (calls : List X) → steps_of v acts start calls < total p → (e : Event) × ((act p source (own_after v acts start calls) e).number ≡ 0)
    goes_on calls h = let g = (single calls).goes_on (omega (arith, same_steps calls)) in (g.0, (rw (led_to calls) at g).1)

-- ---- two runs
pub alone : {S X S' X' : Type 0} (p : Plan) → Sound p → (source : List ℕ) (Good : S → Type 0) (v : View S X) (acts : S → X → Answered S)
    → Follows p source Good v acts → (start : S) → Good start → v.own start ≡ fresh p
    → (Good' : S' → Type 0) (v' : View S' X') (acts' : S' → X' → Answered S')
    → Follows p source Good' v' acts' → (start' : S') → Good' start' → v'.own start' ≡ fresh p → Alone v acts start v' acts' start'
alone p so source Good v acts fo start good own Good' v' acts' fo' start' good' own' =
    record {
      same_words = λ calls calls' e1 e2.
          one_end (act p source) (rw (e1, e2) at (ran p so source Good v acts fo start good own calls))
          (ran p so source Good' v' acts' fo' start' good' own' calls');
    }

-- ---- one tenant: calls that are guarded follow the machine
pub follows : {X : Type 0} (p : Plan) (so : Sound p) (source : List ℕ) (calls : State → X → Answered State) (event : X → Event) (allowed : X → Type 0)
    → Guards (Inv p source) (act p source) calls event allowed → Follows p source (Inv p source) (whole event) calls
follows p so source calls event allowed gd =
    record {
      number = λ s inv x o z. plain_zero (Inv p source) (act p source) calls event allowed gd (next_inv p so source) s inv x z;
      after = λ s inv x o z. after_of (is_plain (Inv p source) (act p source) calls event allowed gd (next_inv p so source) s inv x z);
      refused = λ s inv x n. gd.refuses s inv x n;
      others = λ s inv x o. absurd (never_both refl o);
      next = λ s inv x. good_after (Inv p source) (act p source) calls event allowed gd (next_inv p so source) s inv x;
    }

-- calls that answer as the machine does in every state with the invariant are guarded, and so is the machine itself
machine_refuses : (p : Plan) (source : List ℕ) (s : State) (e : Event) → (act p source s e).number ≢ 0 → (act p source s e).after ≡ s
unfolding act
machine_refuses p source s (turn_of b) n = (numbers p source s).turn_refused b n
machine_refuses p source s (delivery_of m) n = (numbers p source s).delivery_refused m n

pub likewise : (p : Plan) (source : List ℕ) (calls : State → Event → Answered State)
    → ((s : State) → Inv p source s → (e : Event) → calls s e ≡ act p source s e)
    → Guards (Inv p source) (act p source) calls (λ e. e) (λ e. Unit {0})
likewise p source calls alike = alike_guards (Inv p source) (act p source) calls alike (machine_refuses p source)

pub itself : (p : Plan) (source : List ℕ) → Guards (Inv p source) (act p source) (act p source) (λ e. e) (λ e. Unit {0})
itself p source = likewise p source (act p source) (λ s inv e. refl)

-- ---- calls of two kinds that are guarded are so in one list
module _ {S E X Y : Type 0} (Good : S → Type 0) (acts : S → E → Answered S) (calls : S → X → Answered S) (calls' : S → Y → Answered S)
    (plain : X → E) (plain' : Y → E) (allowed : X → Type 0) (allowed' : Y → Type 0) where
  abbrev pub Allowed : X ⊎ Y → Type 0
  Allowed (inl x) = allowed x
  Allowed (inr y) = allowed' y

  module _ (gd : Guards Good acts calls plain allowed) (gd' : Guards Good acts calls' plain' allowed') where
    works : (s : S) → Good s → (z : X ⊎ Y) → (mixed calls calls' s z).number ≡ 0 → Allowed z
    unfolding mixed
    works s good (inl x) e = gd.works s good x e
    works s good (inr y) e = gd'.works s good y e

    allows : (s : S) → Good s → (z : X ⊎ Y) → Allowed z → mixed calls calls' s z ≡ acts s (either plain plain' z)
    unfolding mixed either
    allows s good (inl x) h = gd.allows s good x h
    allows s good (inr y) h = gd'.allows s good y h

    refuses : (s : S) → Good s → (z : X ⊎ Y) → (mixed calls calls' s z).number ≢ 0 → (mixed calls calls' s z).after ≡ s
    unfolding mixed
    refuses s good (inl x) n = gd.refuses s good x n
    refuses s good (inr y) n = gd'.refuses s good y n

    pub guards_mixed : Guards Good acts (mixed calls calls') (either plain plain') Allowed
    guards_mixed = record { works = works; allows = allows; refuses = refuses }
