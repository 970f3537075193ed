-- One call of one tenant: past line 11 for the tenant, line 10 and line 19 it is the machine's call on the tenant's own areas.
use Prim.Native.Nat.{ℕ, ◌≤◌}
use mathlib.Core.Path.{◌≡◌, refl, sym, ap, ◌∙◌}
use mathlib.Core.Logic.{◌≢◌, ◌⊎◌, inl, inr}
use mathlib.Core.Bool.{Bool, true, false}
use mathlib.Core.List.{List, ◌∷◌}
use native.Mathlib.Omega.{arith}
use native.Mathlib.Decide.{ℕ_discrete}
use lib.Dec.{leb, eqb}
use borrow.Author.Tests.{eq-eqb, ne_eqb, leb-true}
use Rattle.base.specs.Tests.{not, pick}
use Rattle.base.specs.Numbers.{Line, line, first_of}
use Rattle.base.proofs.Tests.{both, not-true, true_not, pick_true, pick_false}
use Rattle.base.proofs.Numbers.{first_false, first_cons, none_first}
use Rattle.machine.specs.Plan.{Plan}
use Rattle.machine.specs.Machine.{State, fit, answered, next_action, collected, turn_lines, turn, deliver_lines, deliver, collect}
use Rattle.machine.specs.Runs.{Event, turn_of, delivery_of, act}
use Rattle.tenants.specs.Tenants.{TenantAreas, fit_for, held_by_other, turn_lines_for, carry_out_for, turn_for}
use Rattle.tenants.specs.Tenants.{deliver_lines_for, delivered_for, deliver_for, collect_for, act_for}
use Rattle.tenants.specs.Tenants.{of_tenant, Sharing, sharing_of, Sources, source_for, own_of, other_of, lent_to, returned, Call, act_on}

-- ---- what an answer leaves, by part
own_after : (n k : ℕ) (x y : TenantAreas) → n ≡ k → (pick (eqb n 0) x y).own ≡ pick (eqb k 0) x.own y.own
unfolding pick
own_after n k x y e = ap (λ (i : ℕ). (pick (eqb i 0) x y).own) e ∙ go (eqb k 0)
  where
    go : (t : Bool) → (pick t x y).own ≡ pick t x.own y.own
    go true = refl
    go false = refl

either_way : {A B : Type 0} (f : A → B) (t : Bool) (x y : A) → f x ≡ f y → f (pick t x y) ≡ f y
unfolding pick
either_way f true x y e = e
either_way f false x y e = refl

-- ---- the lines before the machine's own: the tenant's number, and line 10 over all that is lent
pub record Admits (p : Plan) (o : ℕ) (l : TenantAreas) (theirs : List ℕ) : Type 0 where
  pub tenant : leb o 1 ≡ true
  pub fits : fit_for p o l theirs ≡ true

module _ (p : Plan) (o : ℕ) (l : TenantAreas) (theirs : List ℕ) where
  abbrev behind : List Line → List Line
  behind ls = line 11 (not (leb o 1)) ∷ line 10 (not (fit_for p o l theirs)) ∷ ls

  admitted : (ls : List Line) → first_of (behind ls) ≡ 0 → Admits p o l theirs × (first_of ls ≡ 0)
  admitted ls z =
      let a = none_first 11 _ _ (λ k. omega arith) z in
      let b = none_first 10 _ _ (λ k. omega arith) a.1 in
      (record { tenant = true_not a.0; fits = true_not b.0 }, b.1)

  pub own_fits : fit_for p o l theirs ≡ true → fit p l.own ≡ true
  unfolding fit_for
  own_fits e = (both e).0

  -- the machine has its line 10 there
  own_lines : Admits p o l theirs → (ls : List Line) → first_of (behind ls) ≡ first_of (line 10 (not (fit p l.own)) ∷ ls)
  own_lines a ls =
      first_false 11 _ _ (not-true a.tenant) ∙ first_false 10 _ _ (not-true a.fits)
      ∙ sym (first_false 10 _ ls (not-true (own_fits a.fits)))

  -- ---- a turn
  module _ (source : List ℕ) (b : ℕ) where
    pub turn_admits : (turn_for p source o l theirs b).number ≡ 0 → Admits p o l theirs × (held_by_other p o l b ≡ false)
    unfolding turn_for
    turn_admits z =
        let a = admitted _ z in
        let k = none_first 11 _ _ (λ q. omega arith) a.1 in
        (a.0, (none_first 19 _ _ (λ q. omega arith) k.1).0)

    module _ (a : Admits p o l theirs) (free : held_by_other p o l b ≡ false) where
      turn_first : first_of (turn_lines_for p o l theirs b) ≡ first_of (turn_lines p l.own b)
      turn_first = own_lines a _ ∙ first_cons 10 _ _ _ (first_cons 11 _ _ _ (first_false 19 _ _ free))

      pub turn_number : (turn_for p source o l theirs b).number ≡ (turn p source l.own b).number
      unfolding turn_for turn
      turn_number = turn_first

      pub turn_own : (turn_for p source o l theirs b).after.own ≡ (turn p source l.own b).after
      unfolding turn_for turn carry_out_for
      turn_own = own_after _ _ (carry_out_for p source o l b (next_action p l.own b)) l turn_first

    pub turn_done : (turn_for p source o l theirs b).number ≡ 0
        → (turn_for p source o l theirs b).after ≡ carry_out_for p source o l b (next_action p l.own b)
    unfolding turn_for
    turn_done e = pick_true _ _ _ (eq-eqb _ 0 e)

  -- ---- a delivery
  module _ (m : ℕ) where
    pub deliver_admits : (deliver_for p o l theirs m).number ≡ 0 → Admits p o l theirs
    unfolding deliver_for
    deliver_admits z = (admitted _ z).0

    module _ (a : Admits p o l theirs) where
      deliver_first : first_of (deliver_lines_for p o l theirs m) ≡ first_of (deliver_lines p l.own m)
      deliver_first = own_lines a _

      pub deliver_number : (deliver_for p o l theirs m).number ≡ (deliver p l.own m).number
      unfolding deliver_for deliver
      deliver_number = deliver_first

      pub deliver_own : (deliver_for p o l theirs m).after.own ≡ (deliver p l.own m).after
      unfolding deliver_for deliver
      deliver_own = own_after _ _ (delivered_for l m) l deliver_first

    -- the shared words and the records stay, whatever the number
    pub deliver_words : (deliver_for p o l theirs m).after.engaged ≡ l.engaged
    unfolding deliver_for
    deliver_words = either_way (λ (x : TenantAreas). x.engaged) _ _ _ refl

    pub deliver_records : (deliver_for p o l theirs m).after.own.progress ≡ l.own.progress
    unfolding deliver_for
    deliver_records = either_way (λ (x : TenantAreas). x.own.progress) _ _ _ refl

  -- ---- collecting
  module _ (grid : List ℕ) where
    pub collect_admits : (collect_for p o l theirs grid).number ≡ 0 → Admits p o l theirs
    unfolding collect_for
    collect_admits z = (admitted _ z).0

    pub collect_is : Admits p o l theirs → collect_for p o l theirs grid ≡ collect p l.own grid
    unfolding collect_for collect
    collect_is a = ap (λ (n : ℕ). answered n (collected p l.own) grid) (own_lines a _)

  -- ---- any event that gives 0
  module _ (source : List ℕ) where
    pub act_admits : (e : Event) → (act_for p source o l theirs e).number ≡ 0 → Admits p o l theirs
    unfolding act_for
    act_admits (turn_of b) z = (turn_admits source b z).0
    act_admits (delivery_of m) z = deliver_admits m z

    pub act_number : (e : Event) → (act_for p source o l theirs e).number ≡ 0 → (act p source l.own e).number ≡ 0
    unfolding act_for act
    act_number (turn_of b) z = let a = turn_admits source b z in sym (turn_number source b a.0 a.1) ∙ z
    act_number (delivery_of m) z = sym (deliver_number m (deliver_admits m z)) ∙ z

    pub act_own : (e : Event) → (act_for p source o l theirs e).number ≡ 0
        → (act_for p source o l theirs e).after.own ≡ (act p source l.own e).after
    unfolding act_for act
    act_own (turn_of b) z = let a = turn_admits source b z in turn_own source b a.0 a.1
    act_own (delivery_of m) z = deliver_own m (deliver_admits m z)

    act_refused : (e : Event) → (act_for p source o l theirs e).number ≢ 0 → (act_for p source o l theirs e).after ≡ l
    unfolding act_for turn_for deliver_for
    act_refused (turn_of b) n = pick_false _ _ _ (ne_eqb _ 0 n)
    act_refused (delivery_of m) n = pick_false _ _ _ (ne_eqb _ 0 n)

-- ---- of two things, a tenant's

pub tenant_cases : (o : ℕ) → o ≤ 1 → (o ≡ 0) ⊎ (o ≡ 1)
tenant_cases o h = go (ℕ_discrete o 0)
  where
    go : Dec (o ≡ 0) → (o ≡ 0) ⊎ (o ≡ 1)
    go (yes e) = inl e
    go (no n) = inr (omega arith)

pub tenant_both : {A : Type 0} (o : ℕ) (a : A) → of_tenant o a a ≡ a
unfolding of_tenant
tenant_both {A = A} o a = either_way (λ (x : A). x) (eqb o 0) a a refl

-- one tenant's is the other's other
pub tenant_other : {A : Type 0} (o c : ℕ) (a b : A) → o ≤ 1 → c ≤ 1 → o ≢ c → of_tenant o a b ≡ of_tenant c b a
unfolding of_tenant pick
tenant_other o c a b h k n = go (tenant_cases o h) (tenant_cases c k)
  where
    go : (o ≡ 0) ⊎ (o ≡ 1) → (c ≡ 0) ⊎ (c ≡ 1) → pick (eqb o 0) a b ≡ pick (eqb c 0) b a
    go (inl e) (inl f) = absurd (n (e ∙ sym f))
    go (inl e) (inr f) = rw (e, f)
    go (inr e) (inl f) = rw (e, f)
    go (inr e) (inr f) = absurd (n (e ∙ sym f))

-- ---- the sharing after a call

module _ (r : Sharing) (o : ℕ) where
  pub returned_own : (l : TenantAreas) → own_of (returned r o l) o ≡ l.own
  unfolding returned of_tenant pick
  returned_own l = go (eqb o 0)
    where
      go : (t : Bool) → pick t (pick t l.own r.first) (pick t r.second l.own) ≡ l.own
      go true = refl
      go false = refl

  pub returned_other : (l : TenantAreas) → other_of (returned r o l) o ≡ other_of r o
  unfolding returned of_tenant pick
  returned_other l = go (eqb o 0)
    where
      go : (t : Bool) → pick t (pick t r.second l.own) (pick t l.own r.first) ≡ pick t r.second r.first
      go true = refl
      go false = refl

  pub returned_same : returned r o (lent_to r o) ≡ r
  unfolding returned of_tenant pick
  returned_same = go (eqb o 0)
    where
      own : Bool → State
      own t = pick t r.first r.second

      go : (t : Bool) → sharing_of (pick t (own t) r.first) (pick t r.second (own t)) r.engaged ≡ r
      go true = refl
      go false = refl

-- what a call does to either tenant's areas
module _ (p : Plan) (sources : Sources) (r : Sharing) (c : Call) where
  abbrev o : ℕ
  o = c.tenant

  abbrev theirs : List ℕ
  theirs = (other_of r o).progress

  abbrev source : List ℕ
  source = source_for sources o

  -- a refused call writes nothing
  pub call_refused : (act_on p sources r c).number ≢ 0 → (act_on p sources r c).after ≡ r
  unfolding act_on
  call_refused n = ap (returned r o) (act_refused p o (lent_to r o) theirs source c.event n) ∙ returned_same r o

  pub call_tenant : (act_on p sources r c).number ≡ 0 → c.tenant ≤ 1
  unfolding act_on
  call_tenant z = leb-true _ _ (act_admits p o (lent_to r o) theirs source c.event z).tenant

  -- one that gives 0 is the machine's on its own areas
  pub call_number : (act_on p sources r c).number ≡ 0 → (act p (source_for sources c.tenant) (own_of r c.tenant) c.event).number ≡ 0
  unfolding act_on
  call_number z = act_number p o (lent_to r o) theirs source c.event z

  pub call_own : (act_on p sources r c).number ≡ 0
      → own_of (act_on p sources r c).after c.tenant ≡ (act p (source_for sources c.tenant) (own_of r c.tenant) c.event).after
  unfolding act_on
  call_own z = returned_own r o _ ∙ act_own p o (lent_to r o) theirs source c.event z

  pub call_other : other_of (act_on p sources r c).after c.tenant ≡ other_of r c.tenant
  unfolding act_on
  call_other = returned_other r o _

  -- another tenant's areas stay
  pub call_away : (q : ℕ) → q ≤ 1 → q ≢ c.tenant → own_of (act_on p sources r c).after q ≡ own_of r q
  call_away q h n = go (ℕ_discrete (act_on p sources r c).number 0)
    where
      go : Dec ((act_on p sources r c).number ≡ 0) → own_of (act_on p sources r c).after q ≡ own_of r q
      go (yes z) = tenant_other q o _ _ h (call_tenant z) n ∙ call_other ∙ sym (tenant_other q o _ _ h (call_tenant z) n)
      go (no k) = ap (λ (x : Sharing). own_of x q) (call_refused k)
