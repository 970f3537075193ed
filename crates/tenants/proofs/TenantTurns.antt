-- A turn and a delivery of a tenant that can be taken, condition by condition.
use Prim.Native.Nat.{ℕ}
use mathlib.Core.Path.{◌≡◌, ◌∙◌}
use mathlib.Core.Bool.{true, false}
use mathlib.Core.List.{List}
use native.Mathlib.Omega.{arith}
use lib.Dec.{ltb, leb}
use Rattle.base.proofs.Tests.{not-true, true_not}
use Rattle.base.proofs.Numbers.{first_false, none_first, first_nil}
use Rattle.machine.specs.Plan.{Plan}
use Rattle.machine.specs.Machine.{tiles_left, waiting, deliver}
use Rattle.tenants.specs.Tenants.{TenantAreas, fit_for, held_by_other, turn_for, deliver_for}
use Rattle.tenants.proofs.OneCall.{deliver_number}

-- no line of the turn holds
pub record OpenTurn (p : Plan) (o : ℕ) (l : TenantAreas) (theirs : List ℕ) (b : ℕ) : Type 0 where
  pub tenant : leb o 1 ≡ true
  pub fits : fit_for p o l theirs ≡ true
  pub low : ltb b p.processors ≡ true
  pub free : held_by_other p o l b ≡ false
  pub ready : waiting p l.own b ≡ false
  pub left : tiles_left p l.own b ≡ true

module _ (p : Plan) (o : ℕ) (l : TenantAreas) (theirs : List ℕ) where
  module _ (source : List ℕ) (b : ℕ) where
    pub turn_open : (turn_for p source o l theirs b).number ≡ 0 → OpenTurn p o l theirs b
    unfolding turn_for
    turn_open e0 =
        let e1 = none_first 11 _ _ (λ k. omega arith) e0 in
        let e2 = none_first 10 _ _ (λ k. omega arith) e1.1 in
        let e3 = none_first 11 _ _ (λ k. omega arith) e2.1 in
        let e4 = none_first 19 _ _ (λ k. omega arith) e3.1 in
        let e5 = none_first 12 _ _ (λ k. omega arith) e4.1 in
        let e6 = none_first 13 _ _ (λ k. omega arith) e5.1 in
        record {
          tenant = true_not e1.0;
          fits = true_not e2.0;
          low = true_not e3.0;
          free = e4.0;
          ready = e5.0;
          left = true_not e6.0;
        }

    pub open_turn : OpenTurn p o l theirs b → (turn_for p source o l theirs b).number ≡ 0
    unfolding turn_for
    open_turn h =
        first_false 11 _ _ (not-true h.tenant) ∙ first_false 10 _ _ (not-true h.fits) ∙ first_false 11 _ _ (not-true h.low)
        ∙ first_false 19 _ _ h.free ∙ first_false 12 _ _ h.ready ∙ first_false 13 _ _ (not-true h.left) ∙ first_nil

  -- a delivery that the machine would carry out
  pub open_mail : (m : ℕ) → leb o 1 ≡ true → fit_for p o l theirs ≡ true → (deliver p l.own m).number ≡ 0
      → (deliver_for p o l theirs m).number ≡ 0
  open_mail m tenant fits e = deliver_number p o l theirs m (record { tenant = tenant; fits = fits }) ∙ e
