-- One call of a pass, and the passes as the code makes them: each return and each turn of a loop is one of these laws.
use Prim.Native.Nat.{ℕ, zero, suc, ◌+◌, ◌-◌, ◌≤◌, ◌<◌}
use mathlib.Core.Path.{◌≡◌, refl, sym, ap, ◌∙◌}
use mathlib.Core.Logic.{◌≢◌}
use mathlib.Core.Bool.{Bool, true, false}
use mathlib.Core.List.{List, [], ◌∷◌, ◌++◌}
use native.Mathlib.Numerals.{add-one}
use native.Mathlib.Omega.{arith}
use lib.ListN.{get_or}
use lib.Dec.{ltb, eqb}
use borrow.Author.Tests.{ne_eqb, lt-ltb, le-ltb, eqb-false}
use Rattle.base.specs.Tests.{◌and◌, ◌or◌}
use Rattle.base.specs.Lists.{count_if}
use Rattle.base.proofs.Tests.{pick_true, pick_false}
use Rattle.machine.specs.Machine.{State, Answered}
use Rattle.machine.specs.Runs.{Event, turn_of, delivery_of, state_after, answers_to, steps}
use Rattle.base.specs.Lists.{Bytes}
use Rattle.engine.specs.Calls.{answer, turn_call, deliver_call}
use Rattle.engine.specs.Demands.{calls}
use Rattle.engine.proofs.Demands.{demands}
use Rattle.machine.proofs.RunLaws.{after_append, steps_append, after_one}
use Rattle.comparison.specs.drive.Drive.{in_order, turns_to, turns, deliveries_to, took, round_of, rounds_of, Tried, Delivered, Driven}
use Rattle.comparison.specs.declared.drive.Order.{Order}
use Rattle.comparison.proofs.drive.Passes.{took_one, took_none}
use Rattle.comparison.proofs.drive.Whole.{delivery_low, ended}

-- ---- the order

pub order_falling : (P k : ℕ) → k < P → P - 1 - k ≡ in_order P true k
unfolding in_order ◌and◌
order_falling P k l = sym (pick_true _ (P - 1 - k) k (lt-ltb k P l))

pub order_past : (P k : ℕ) → P ≤ k → k ≡ in_order P true k
unfolding in_order ◌and◌
order_past P k l = sym (pick_false _ (P - 1 - k) k (le-ltb k P l))

pub order_rising : (P k : ℕ) → k ≡ in_order P false k
unfolding in_order ◌and◌
order_rising P k = sym (pick_false false (P - 1 - k) k refl)

-- ---- a pass, one event more

module _ (acts : State → Event → Answered State) (s : State) where
  begun : Tried acts s [] false s
  unfolding took state_after answers_to count_if
  begun = record { state = refl; some = refl }

  more : (es : List Event) (e : Event) (done next : Bool) (t u : State) (r : ℕ) → Tried acts s es done t → answer r u ≡ acts t e
      → next ≡ (done or eqb r 0) → Tried acts s (es ++ (e ∷ [])) next u
  more es e done next t u r h is n =
      record {
        state = ap (λ (a : Answered State). a.after) is ∙ ap (λ (x : State). (acts x e).after) h.state ∙ sym (after_one acts s es e);
        some =
            n ∙ ap (λ (x : ℕ). done or eqb x 0) (ap (λ (a : Answered State). a.number) is ∙ ap (λ (x : State). (acts x e).number) h.state)
            ∙ ap (λ (x : Bool). x or eqb (acts (state_after acts s es) e).number 0) h.some
            ∙ sym (took_one acts s es e);
      }

-- ---- a round, and what the rounds do after it

module _ (acts : State → Event → Answered State) (o : Order) (k : ℕ) (t : State) where
  goes_on : took acts t (round_of acts o t) ≡ true
      → state_after acts t (rounds_of acts o (suc k) t)
      ≡ state_after acts (state_after acts t (round_of acts o t)) (rounds_of acts o k (state_after acts t (round_of acts o t)))
  unfolding rounds_of
  goes_on e =
      ap (λ (es : List Event). state_after acts t (round_of acts o t ++ es)) (pick_true _ _ [] e) ∙ after_append acts t (round_of acts o t) _

  stops : took acts t (round_of acts o t) ≡ false → state_after acts t (rounds_of acts o (suc k) t) ≡ state_after acts t (round_of acts o t)
  unfolding rounds_of state_after
  stops e =
      ap (λ (es : List Event). state_after acts t (round_of acts o t ++ es)) (pick_false _ _ [] e) ∙ after_append acts t (round_of acts o t) []

module _ (bytes source : List ℕ) (s : State) where
  -- ---- turns

  pub turns_start : (P : ℕ) (f : Bool) → Tried (calls bytes 0 source) s (turns_to P f 0) false s
  unfolding turns_to
  turns_start P f = begun (calls bytes 0 source) s

  pub turns_next : (P : ℕ) (f : Bool) (n : ℕ) (taken next : Bool) (t u : State) (b r : ℕ)
      → Tried (calls bytes 0 source) s (turns_to P f n) taken t → b ≡ in_order P f n → answer r u ≡ turn_call bytes 0 source t b
      → next ≡ (taken or eqb r 0) → Tried (calls bytes 0 source) s (turns_to P f (n + 1)) next u
  unfolding turns_to calls
  turns_next P f n taken next t u b r h e is k =
      rw add-one (more (calls bytes 0 source) s (turns_to P f n) (turn_of (in_order P f n)) taken next t u r h (rw e at is) k)

  pub turns_done : (P : ℕ) (f : Bool) (n : ℕ) (taken : Bool) (t : State) → n ≤ P → P ≤ n
      → Tried (calls bytes 0 source) s (turns_to P f n) taken t → Tried (calls bytes 0 source) s (turns_to P f P) taken t
  turns_done P f n taken t l h x = let e : n ≡ P = omega arith in rw e at x

  -- ---- deliveries

  pub delivered : (m r : ℕ) (t : State) → answer r t ≡ deliver_call bytes 0 source s m
      → Delivered (deliver_call bytes 0 source s m) (eqb r 0) t
  delivered m r t is =
      record {
        state = ap (λ (a : Answered State). a.after) is;
        done = ap (λ (a : Answered State). eqb a.number 0) is;
      }

  pub not_delivered : (m : ℕ) → eqb (get_or s.status m 0) 1 ≡ false → Delivered (deliver_call bytes 0 source s m) false s
  not_delivered m e =
      let n : (deliver_call bytes 0 source s m).number ≢ 0 = (λ z. eqb-false _ _ e (delivery_low bytes source s m z).1) in
      record {
        state = sym (((demands.one bytes 0 source s).deliver m).refuses n);
        done = sym (ne_eqb _ 0 n);
      }

  pub deliveries_start : Tried (calls bytes 0 source) s (deliveries_to 0) false s
  unfolding deliveries_to
  deliveries_start = begun (calls bytes 0 source) s

  pub deliveries_next : (n : ℕ) (done this next : Bool) (t u : State) → Tried (calls bytes 0 source) s (deliveries_to n) done t
      → Delivered (deliver_call bytes 0 source t n) this u → next ≡ (done or this)
      → Tried (calls bytes 0 source) s (deliveries_to (n + 1)) next u
  unfolding deliveries_to calls
  deliveries_next n done this next t u h d k =
      rw add-one
      (more (calls bytes 0 source) s (deliveries_to n) (delivery_of n) done next t u (deliver_call bytes 0 source t n).number h
      (ap (λ (x : State). answer (deliver_call bytes 0 source t n).number x) d.state) (k ∙ ap (λ (x : Bool). done or x) d.done))

  pub deliveries_done : (M n : ℕ) (done : Bool) (t : State) → n ≤ M → M ≤ n → Tried (calls bytes 0 source) s (deliveries_to n) done t
      → Tried (calls bytes 0 source) s (deliveries_to M) done t
  deliveries_done M n done t l h x = let e : n ≡ M = omega arith in rw e at x

  -- ---- a round

  pub round_turns : (o : Order) (r : Bool) (t : State) → Tried (calls bytes 0 source) s (turns o) r t → r ≡ true
      → Tried (calls bytes 0 source) s (round_of (calls bytes 0 source) o s) true t
  unfolding round_of
  round_turns o r t h e =
      let is = pick_true (took (calls bytes 0 source) s (turns o)) (turns o) (turns o ++ deliveries_to o.messages) (sym h.some ∙ e) in
      rw is (rw e at h)

  pub round_both : (o : Order) (r q : Bool) (t u : State) → Tried (calls bytes 0 source) s (turns o) r t → r ≡ false
      → Tried (calls bytes 0 source) t (deliveries_to o.messages) q u
      → Tried (calls bytes 0 source) s (round_of (calls bytes 0 source) o s) q u
  unfolding round_of took
  round_both o r q t u h e d =
      let is = pick_false (took (calls bytes 0 source) s (turns o)) (turns o) (turns o ++ deliveries_to o.messages) (sym h.some ∙ e) in
      let idle = took_none (calls bytes 0 source) s (turns o) (sym h.some ∙ e) in
      rw is
      (record {
        state =
            d.state ∙ ap (λ (x : State). state_after (calls bytes 0 source) x (deliveries_to o.messages)) h.state
            ∙ sym (after_append (calls bytes 0 source) s (turns o) (deliveries_to o.messages));
        some = d.some ∙ ap (λ (x : State). ltb 0 (steps (calls bytes 0 source) x (deliveries_to o.messages))) h.state
            ∙ ap (ltb 0) (sum_behind idle);
      })
    where
      sum_behind : steps (calls bytes 0 source) s (turns o) ≡ 0
          → steps (calls bytes 0 source) (state_after (calls bytes 0 source) s (turns o)) (deliveries_to o.messages)
          ≡ steps (calls bytes 0 source) s (turns o ++ deliveries_to o.messages)
      sum_behind idle = omega (arith, idle, steps_append (calls bytes 0 source) s (turns o) (deliveries_to o.messages))

  -- ---- the drive: the rounds left from the state reached give what all the rounds give

  abbrev pub Left : Order → ℕ → ℕ → State → Type 0
  Left o n left t =
      state_after (calls bytes 0 source) t (rounds_of (calls bytes 0 source) o left t)
      ≡ state_after (calls bytes 0 source) s (rounds_of (calls bytes 0 source) o n s)

  pub drive_next : (o : Order) (n left : ℕ) (t u : State) (r : Bool) → 0 < left → Left o n left t
      → Tried (calls bytes 0 source) t (round_of (calls bytes 0 source) o t) r u → r ≡ true → Left o n (left - 1) u
  drive_next o n zero t u r l h p e = absurd (omega arith)
  drive_next o n (suc k) t u r l h p e =
      let less : suc k - 1 ≡ k = omega arith in
      rw (less, p.state) (sym (goes_on (calls bytes 0 source) o k t (sym p.some ∙ e)) ∙ h)

  pub drive_none : (o : Order) (n left : ℕ) (t u : State) (r : Bool) → 0 < left → Left o n left t
      → Tried (calls bytes 0 source) t (round_of (calls bytes 0 source) o t) r u → r ≡ false
      → u ≡ state_after (calls bytes 0 source) s (rounds_of (calls bytes 0 source) o n s)
  drive_none o n zero t u r l h p e = absurd (omega arith)
  drive_none o n (suc k) t u r l h p e = p.state ∙ sym (stops (calls bytes 0 source) o k t (sym p.some ∙ e)) ∙ h

  pub drive_end : (o : Order) (n left : ℕ) (t : State) → left ≡ 0 → Left o n left t
      → t ≡ state_after (calls bytes 0 source) s (rounds_of (calls bytes 0 source) o n s)
  unfolding rounds_of state_after
  drive_end o n zero t l h = h
  drive_end o n (suc k) t l h = absurd (omega (arith, l))

  pub drive_done : (o : Order) (n : ℕ) (t : State) → Bytes bytes
      → t ≡ state_after (calls bytes 0 source) s (rounds_of (calls bytes 0 source) o n s)
      → Driven bytes source o n s t
  drive_done o n t b h = record { state = h; whole = ended bytes source o n s b }
