-- A turn with hours is the turn without where the hours allow it; else it is refused.
use Prim.Native.Nat.{ℕ, ◌<◌}
use mathlib.Core.Path.{◌≡◌, refl, ap, ◌∙◌}
use mathlib.Core.Logic.{◌≢◌}
use mathlib.Core.Bool.{true, false}
use mathlib.Core.List.{List}
use native.Mathlib.Omega.{arith}
use borrow.Author.Tests.{ne_eqb, lt-ltb}
use Rattle.base.proofs.Tests.{not-true, or_false, pick_false}
use Rattle.base.proofs.Numbers.{first_false, none_first, first_cons}
use Rattle.machine.specs.Plan.{Plan}
use Rattle.machine.specs.Machine.{State, answered, carry_out, next_action, turn, deliver}
use Rattle.machine.specs.Runs.{act}
use Rattle.machine.proofs.Kept.{Inv}
use Rattle.machine.proofs.Guards.{Guards}
use Rattle.tenants.specs.Tenants.{TenantAreas, carry_out_for, turn_for, deliver_for, Sharing, Sources, source_for, other_of, lent_to, returned, put_back, act_for, act_on}
use Rattle.tenants.proofs.OneCall.{returned_same}
use Rattle.tenants.proofs.Engaged.{SharingInv}
use Rattle.calendar.specs.Windows.{week, open_at, faulty_minute, faulty_moment, faulty_for, closed, Moment, moment_of, timed_turn, timed_turn_for, Timed}
use Rattle.calendar.specs.Windows.{turn_at, mail_of, event_of, act_at, TimedCall, call_of, act_at_for, act_at_on}
use Rattle.calendar.specs.Demands212.{Faultless}

-- no faulty hours, and the processor is open; mail at any hour
abbrev pub Allowed : Plan → Timed → Type 0
Allowed p (turn_at h b) = (faulty_moment p h ≡ false) × (closed h b ≡ false)
Allowed p (mail_of m) = Unit {0}

-- the minutes at which a processor is open by a faultless table are allowed
pub open_allowed : (p : Plan) (calendar : List ℕ) (minute b : ℕ) → Faultless p calendar → minute < week → open_at calendar b minute ≡ true
    → Allowed p (turn_at (moment_of calendar minute) b)
unfolding faulty_for faulty_minute closed
open_allowed p calendar minute b f low e = (or_false f.windows (not-true (lt-ltb _ _ low)), not-true e)

-- ---- one tenant
module _ (p : Plan) (source : List ℕ) (s : State) where
  turn_needs : (h : Moment) (b : ℕ) → (timed_turn p source h s b).number ≡ 0 → Allowed p (turn_at h b)
  unfolding timed_turn
  turn_needs h b e0 =
      let e1 = none_first 10 _ _ (λ k. omega arith) e0 in
      let e2 = none_first 25 _ _ (λ k. omega arith) e1.1 in
      let e3 = none_first 11 _ _ (λ k. omega arith) e2.1 in
      let e4 = none_first 24 _ _ (λ k. omega arith) e3.1 in
      (e2.0, e4.0)

  turn_allowed : (h : Moment) (b : ℕ) → Allowed p (turn_at h b) → timed_turn p source h s b ≡ turn p source s b
  unfolding timed_turn turn
  turn_allowed h b a =
      ap (λ (n : ℕ). answered n (carry_out p source s b (next_action p s b)) s)
      (first_cons 10 _ _ _ (first_false 25 _ _ a.0 ∙ first_cons 11 _ _ _ (first_false 24 _ _ a.1)))

  needs_at : (x : Timed) → (act_at p source s x).number ≡ 0 → Allowed p x
  unfolding act_at
  needs_at (turn_at h b) z = turn_needs h b z
  needs_at (mail_of m) z = tt

  allowed_at : (x : Timed) → Allowed p x → act_at p source s x ≡ act p source s (event_of x)
  unfolding act_at act event_of
  allowed_at (turn_at h b) a = turn_allowed h b a
  allowed_at (mail_of m) a = refl

  refused_at : (x : Timed) → (act_at p source s x).number ≢ 0 → (act_at p source s x).after ≡ s
  unfolding act_at timed_turn deliver
  refused_at (turn_at h b) n = pick_false _ _ _ (ne_eqb _ 0 n)
  refused_at (mail_of m) n = pick_false _ _ _ (ne_eqb _ 0 n)

pub guards : (p : Plan) (source : List ℕ) → Guards (Inv p source) (act p source) (act_at p source) event_of (Allowed p)
guards p source =
    record {
      works = λ s inv x z. needs_at p source s x z;
      allows = λ s inv x a. allowed_at p source s x a;
      refuses = λ s inv x n. refused_at p source s x n;
    }

-- ---- two tenants
module _ (p : Plan) (source : List ℕ) (o : ℕ) (l : TenantAreas) (theirs : List ℕ) where
  turn_needs_for : (h : Moment) (b : ℕ) → (timed_turn_for p source o h l theirs b).number ≡ 0 → Allowed p (turn_at h b)
  unfolding timed_turn_for
  turn_needs_for h b e0 =
      let e1 = none_first 11 _ _ (λ k. omega arith) e0 in
      let e2 = none_first 10 _ _ (λ k. omega arith) e1.1 in
      let e3 = none_first 25 _ _ (λ k. omega arith) e2.1 in
      let e4 = none_first 11 _ _ (λ k. omega arith) e3.1 in
      let e5 = none_first 24 _ _ (λ k. omega arith) e4.1 in
      (e3.0, e5.0)

  turn_allowed_for : (h : Moment) (b : ℕ) → Allowed p (turn_at h b) → timed_turn_for p source o h l theirs b ≡ turn_for p source o l theirs b
  unfolding timed_turn_for turn_for
  turn_allowed_for h b a =
      ap (λ (n : ℕ). answered n (carry_out_for p source o l b (next_action p l.own b)) l)
      (first_cons 11 _ _ _ (first_cons 10 _ _ _ (first_false 25 _ _ a.0 ∙ first_cons 11 _ _ _ (first_false 24 _ _ a.1))))

  needs_for : (x : Timed) → (act_at_for p source o l theirs x).number ≡ 0 → Allowed p x
  unfolding act_at_for
  needs_for (turn_at h b) z = turn_needs_for h b z
  needs_for (mail_of m) z = tt

  allowed_for : (x : Timed) → Allowed p x → act_at_for p source o l theirs x ≡ act_for p source o l theirs (event_of x)
  unfolding act_at_for act_for event_of
  allowed_for (turn_at h b) a = turn_allowed_for h b a
  allowed_for (mail_of m) a = refl

  refused_for : (x : Timed) → (act_at_for p source o l theirs x).number ≢ 0 → (act_at_for p source o l theirs x).after ≡ l
  unfolding act_at_for timed_turn_for deliver_for
  refused_for (turn_at h b) n = pick_false _ _ _ (ne_eqb _ 0 n)
  refused_for (mail_of m) n = pick_false _ _ _ (ne_eqb _ 0 n)

module _ (p : Plan) (sources : Sources) (r : Sharing) (c : TimedCall) where
  needs_on : (act_at_on p sources r c).number ≡ 0 → Allowed p c.event
  unfolding act_at_on
  needs_on z = needs_for p (source_for sources c.tenant) c.tenant (lent_to r c.tenant) (other_of r c.tenant).progress c.event z

  allowed_on : Allowed p c.event → act_at_on p sources r c ≡ act_on p sources r (call_of c)
  unfolding act_at_on act_on call_of
  allowed_on a =
      ap (put_back r c.tenant)
      (allowed_for p (source_for sources c.tenant) c.tenant (lent_to r c.tenant) (other_of r c.tenant).progress c.event a)

  refused_on : (act_at_on p sources r c).number ≢ 0 → (act_at_on p sources r c).after ≡ r
  unfolding act_at_on
  refused_on n =
      ap (returned r c.tenant)
      (refused_for p (source_for sources c.tenant) c.tenant (lent_to r c.tenant) (other_of r c.tenant).progress c.event n)
      ∙ returned_same r c.tenant

pub guards_for : (p : Plan) (sources : Sources) → Guards (SharingInv p sources) (act_on p sources) (act_at_on p sources) call_of (λ c. Allowed p c.event)
guards_for p sources =
    record {
      works = λ r inv c z. needs_on p sources r c z;
      allows = λ r inv c a. allowed_on p sources r c a;
      refuses = λ r inv c n. refused_on p sources r c n;
    }
