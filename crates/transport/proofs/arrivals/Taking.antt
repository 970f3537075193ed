-- Laws of taking a message in: its length, its taker, its words into their place.
use Rattle.std.specs.Prelude.{◌≡◌, ℕ, ◌+◌, ◌-◌, ◌<◌, ◌≤◌, Bool, true, false, eqb, ◌≢◌, List, [], ◌∷◌, length, get_or, take, drop, set}
use mathlib.Core.Path.{refl, sym, ap, ◌∙◌}
use native.Mathlib.Omega.{arith}
use borrow.Author.Tests.{eqb-true, eq-eqb, ne_eqb, lt-ltb, le-ltb}
use borrow.Rule.Slice.PartMut.{put_mid}
use Rattle.base.specs.Tests.{◌or◌, not}
use Rattle.base.specs.Lists.{put}
use Rattle.base.specs.Numbers.{line, first_of}
use Rattle.base.proofs.Tests.{and_true, and_false, and_no, or_left, not-true, not-false}
use Rattle.base.proofs.Numbers.{first_true, first_false}
use Rattle.machine.specs.Plan.{Plan, count, words, held_by, offset}
use Rattle.machine.specs.Machine.{State, state_of, answered}
use Rattle.nest.specs.declared.Nest.{Nest}
use Rattle.plan.specs.declared.Route.{Route}
use Rattle.plan.specs.Shaped.{plan_of}
use Rattle.tables.specs.declared.scans.MessageSlot.{MessageSlot}
use Rattle.tables.specs.Tables.{FoundIn}
use Rattle.summary.specs.declared.MessageLine.{MessageLine}
use Rattle.summary.specs.Summary.{line_of}
use Rattle.network.specs.Apart.{taker_at, received}
use Rattle.stages.proofs.Parts.{back, mid_length}
use Rattle.engine.specs.Calls.{answer}
use Rattle.engine.specs.Given.{unfit_lines}
use Rattle.engine.proofs.Lines.{areas_are, unfit_none}
use Rattle.engine.proofs.Turns.{answered_no, answered_yes}
use Rattle.network.specs.Brought.{taken_by, as_long}
use Rattle.transport.specs.arrivals.Taking.{MayTake, received_or}

-- ---- as many words as the message has

or_right_of : (a b : Bool) → a ≡ false → (a or b) ≡ b
unfolding ◌or◌
or_right_of a b e = rw e refl

module _ (p : Plan) (m : ℕ) (l : List ℕ) where
  pub long_beyond : count p ≤ m → true ≡ as_long p m l
  long_beyond h = sym (or_left _ (not-false (le-ltb m (count p) h)))

  pub long_is : m < count p → as_long p m l ≡ eqb (length l) (length (held_by p m))
  long_is h = or_right_of _ _ (not-true (lt-ltb m (count p) h))

  pub long_by : m < count p → (n k : ℕ) → n ≡ length l → k ≡ length (held_by p m) → eqb n k ≡ as_long p m l
  long_by h n k e q = rw (e, q) (sym (long_is h))

  pub long_here : m < count p → as_long p m l ≡ true → length l ≡ length (held_by p m)
  long_here h e = eqb-true _ _ (sym (long_is h) ∙ e)

-- ---- past the lines before: 11, 14, or the message is taken in

module _ (p : Plan) (s : State) (b m : ℕ) (ws : List ℕ) where
  number : ℕ
  number = first_of (line 11 (not (taken_by p b m)) ∷ line 14 (not (eqb (get_or s.status m 0) 0)) ∷ [])

  refusal : (n : ℕ) → n ≢ 0 → n ≡ number → answer n s ≡ received_or p s b m ws
  unfolding number
  refusal n h e = answered_no n (received p s m ws) s h ∙ ap (λ (k : ℕ). answered k (received p s m ws) s) e

  another : taken_by p b m ≡ false → answer 11 s ≡ received_or p s b m ws
  unfolding number
  another e = refusal 11 (λ q. omega arith) (sym (first_true 11 _ _ (not-false e)))

  pub beyond : count p ≤ m → answer 11 s ≡ received_or p s b m ws
  beyond h = another (and_false _ _ (le-ltb m (count p) h))

  -- the code has the taker as it stands in the message's line
  module _ (r : MessageLine) (e : r ≡ line_of p m) where
    taker_is : r.to ≡ taker_at p m
    taker_is = ap (λ (x : MessageLine). x.to) e

    pub not_here : r.to ≢ b → answer 11 s ≡ received_or p s b m ws
    not_here h = another (and_no _ _ (ne_eqb _ _ (λ q. h (taker_is ∙ q))))

    module _ (low : m < count p) (here : r.to ≡ b) where
      behind : number ≡ first_of (line 14 (not (eqb (get_or s.status m 0) 0)) ∷ [])
      unfolding number
      behind = first_false 11 _ _ (not-true (and_true (lt-ltb m (count p) low) (eq-eqb _ _ (sym taker_is ∙ here))))

      pub came_before : get_or s.status m 0 ≢ 0 → answer 14 s ≡ received_or p s b m ws
      came_before h = refusal 14 (λ q. omega arith) (sym (behind ∙ first_true 14 _ _ (not-false (ne_eqb _ _ h))))

      free : get_or s.status m 0 ≡ 0 → number ≡ 0
      unfolding first_of
      free h = behind ∙ first_false 14 (not (eqb (get_or s.status m 0) 0)) [] (not-true (eq-eqb _ _ h))

      pub taken_in : get_or s.status m 0 ≡ 0 → (buffer : List ℕ) → buffer ≡ put s.buffer (offset p.messages m) ws
          → answer 0 (state_of s.memories buffer s.progress (set s.status m 2)) ≡ received_or p s b m ws
      unfolding number
      taken_in h buffer q = ap (λ (l : List ℕ). answer 0 (state_of s.memories l s.progress (set s.status m 2))) q ∙ answered_yes _
          (received p s m ws) s (free h)

-- ---- the words in their place

module _ (r : Route) (x : Nest) (m : ℕ) (at : MessageSlot) (f : FoundIn r x m at) (buffer : List ℕ) (long : length buffer ≡ words (plan_of r x)) where
  pub room : at.offset + at.words ≤ length buffer
  room = omega (arith, f.room)

  pub place_long : length (take (at.offset + at.words - at.offset) (drop at.offset buffer)) ≡ length (held_by (plan_of r x) m)
  place_long = mid_length buffer at.offset at.words room ∙ f.words

  pub put_in : (new ys : List ℕ) → length ys ≡ length (take (at.offset + at.words - at.offset) (drop at.offset buffer)) → ys ≡ new
      → put_mid at.offset (at.offset + at.words - at.offset) buffer ys ≡ put buffer (offset (plan_of r x).messages m) new
  put_in new ys n e = back buffer ys (λ _. new) at.offset at.words room n e ∙ ap (λ (i : ℕ). put buffer i new) f.offset

-- the areas that lines 9 and 10 let pass
pub may_take : (p : Plan) (source : List ℕ) (s : State) (r : ℕ) → r ≡ first_of (unfit_lines p source s) → r ≡ 0 → (m : ℕ) (ws : List ℕ) → as_long p m ws ≡ true
    → MayTake p s.buffer s.status m ws
may_take p source s r e z m ws h =
    let a = areas_are p source s (unfit_none p source s r e z).0 in
    record { buffer = a.buffer; status = a.status; long = h }
