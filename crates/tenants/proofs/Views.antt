-- Any calls that answer like the sharing but may refuse more follow the machine on each tenant's areas: demands 2 and 3 of both tenants' runs by them.
use Prim.Native.Nat.{ℕ, ◌≤◌, ◌<◌}
use mathlib.Core.Path.{◌≡◌, refl, sym, ap, ◌∙◌}
use mathlib.Core.Logic.{◌⊎◌, inl, inr, ◌≢◌}
use mathlib.Core.List.{List}
use native.Mathlib.Omega.{arith}
use native.Mathlib.Decide.{ℕ_discrete}
use lib.ListN.{length, replicate, length-replicate}
use borrow.Author.Tests.{eqb-true, eqb-false, eq-eqb, le-leb}
use Rattle.machine.specs.Plan.{Plan, Sound}
use Rattle.machine.specs.Machine.{Answered, collect, fresh}
use Rattle.machine.specs.Runs.{act, state_after, total}
use Rattle.machine.specs.AnyCalls.{whole, steps_of, Demand3In}
use Rattle.machine.proofs.Kept.{Inv}
use Rattle.machine.proofs.Fresh.{inv_fresh}
use Rattle.machine.proofs.RunLaws.{after_of, ends}
use Rattle.machine.proofs.Guards.{Guards, is_plain, plain_zero, guarded_zero, good_after, good_end, passes, alike_guards}
use Rattle.machine.proofs.AnyCalls.{Follows, demand3_in, words_in, alone, follows, itself}
use Rattle.tenants.specs.Tenants.{Sharing, Sources, source_for, own_of, other_of, lent_to, fresh_sharing, Call, act_on, collect_on}
use Rattle.tenants.specs.Demand208.{Demand208, steps_for}
use Rattle.tenants.specs.AnyCalls.{tenant_view, Words208, Demand3For, GoesOnFor, Alone208}
use Rattle.tenants.proofs.OneCall.{collect_is, tenant_both, tenant_cases, call_refused, call_tenant, call_away}
use Rattle.tenants.proofs.Engaged.{SharingInv, sharing_fit, inv_start, inv_next}
use Rattle.tenants.proofs.OneTenant.{step_number, step_own}
use Rattle.tenants.proofs.Theorem208.{theorem208}

-- collecting for a tenant is the machine's, on its own areas
collects_own : (p : Plan) (sources : Sources) (r : Sharing) → SharingInv p sources r → (o : ℕ) → o ≤ 1 → (grid : List ℕ)
    → collect_on p r o grid ≡ collect p (own_of r o) grid
unfolding collect_on
collects_own p sources r inv o low grid =
    collect_is p o (lent_to r o) (other_of r o).progress grid (record { tenant = le-leb _ _ low; fits = sharing_fit p sources r inv o low })

pub fresh_own : (p : Plan) (o : ℕ) → own_of (fresh_sharing p) o ≡ fresh p
unfolding fresh_sharing
fresh_own p o = tenant_both o (fresh p)

-- a call of the sharing itself is guarded
pub sharing_itself : (p : Plan) (sources : Sources) → Guards (SharingInv p sources) (act_on p sources) (act_on p sources) (λ c. c) (λ c. Unit {0})
sharing_itself p sources = alike_guards (SharingInv p sources) (act_on p sources) (act_on p sources) (λ r inv c. refl) (call_refused p sources)

module _ (p : Plan) (so : Sound p) (sources : Sources) {C : Type 0} (call_of : C → Call) (calls : Sharing → C → Answered Sharing) (allowed : C → Type 0)
    (gd : Guards (SharingInv p sources) (act_on p sources) calls call_of allowed) where
  abbrev G : Sharing → Type 0
  G = SharingInv p sources

  plain_is : (r : Sharing) → G r → (c : C) → (calls r c).number ≡ 0 → calls r c ≡ act_on p sources r (call_of c)
  plain_is r inv c z = is_plain G (act_on p sources) calls call_of allowed gd (inv_next p so sources) r inv c z

  plain_gives : (r : Sharing) → G r → (c : C) → (calls r c).number ≡ 0 → (act_on p sources r (call_of c)).number ≡ 0
  plain_gives r inv c z = plain_zero G (act_on p sources) calls call_of allowed gd (inv_next p so sources) r inv c z

  away : (r : Sharing) → G r → (c : C) (o : ℕ) → o ≤ 1 → (call_of c).tenant ≢ o → own_of (calls r c).after o ≡ own_of r o
  away r inv c o low n = go (ℕ_discrete (calls r c).number 0)
    where
      go : Dec ((calls r c).number ≡ 0) → own_of (calls r c).after o ≡ own_of r o
      go (yes z) = ap (λ (x : Sharing). own_of x o) (after_of (plain_is r inv c z)) ∙ call_away p sources r (call_of c) o low (λ e. n (sym e))
      go (no k) = ap (λ (x : Sharing). own_of x o) (gd.refuses r inv c k)

  good_next : (r : Sharing) → G r → (c : C) → G (calls r c).after
  good_next r inv c = good_after G (act_on p sources) calls call_of allowed gd (inv_next p so sources) r inv c

  pub follows_for : (o : ℕ) → o ≤ 1 → Follows p (source_for sources o) G (tenant_view call_of o) calls
  follows_for o low =
      record {
        number = λ r inv c h z. step_number p sources o low r (call_of c) (eqb-true _ _ h) (plain_gives r inv c z);
        after = λ r inv c h z.
            ap (λ (x : Sharing). own_of x o) (after_of (plain_is r inv c z)) ∙ step_own p sources o low r (call_of c) (eqb-true _ _ h) (plain_gives r inv c z);
        refused = λ r inv c n. ap (λ (x : Sharing). own_of x o) (gd.refuses r inv c n);
        others = λ r inv c h. away r inv c o low (eqb-false _ _ h);
        next = good_next;
      }

  pub good_at : (cs : List C) → G (state_after calls (fresh_sharing p) cs)
  good_at cs = good_end G (act_on p sources) calls call_of allowed gd (inv_next p so sources) cs (fresh_sharing p) (inv_start p sources)

  pub words208 : Words208 call_of calls (fresh_sharing p) p sources
  words208 =
      record {
        each = λ o low.
            words_in p so (source_for sources o) G (tenant_view call_of o) calls (follows_for o low) (fresh_sharing p) (inv_start p sources) (fresh_own p o);
        others = λ before c o low n. away _ (good_at before) c o low n;
      }

  module _ (collects : Sharing → ℕ → List ℕ → Answered (List ℕ))
      (same-grid : (r : Sharing) → G r → (o : ℕ) (grid : List ℕ) → length grid ≡ p.cells → collects r o grid ≡ collect_on p r o grid) (cs : List C) where
    each : (o : ℕ) → o ≤ 1 → Demand3In (tenant_view call_of o) calls (fresh_sharing p) p (source_for sources o) (λ r. collects r o) cs
    each o low =
        demand3_in p so (source_for sources o) G (tenant_view call_of o) calls (follows_for o low) (fresh_sharing p) (inv_start p sources) (fresh_own p o)
        (λ r. collects r o) (λ r inv grid len. same-grid r inv o grid len ∙ collects_own p sources r inv o low grid) cs

    fewer : (c : C) (o : ℕ) → (calls (state_after calls (fresh_sharing p) cs) c).number ≡ 0 → (call_of c).tenant ≡ o → (o ≡ 0) ⊎ (o ≡ 1)
        → (steps_of (tenant_view call_of 0) calls (fresh_sharing p) cs < total p) ⊎ (steps_of (tenant_view call_of 1) calls (fresh_sharing p) cs < total p)
    fewer c o z e (inl k) = inl ((each 0 (omega arith)).then_fewer c (eq-eqb _ 0 (e ∙ k)) z)
    fewer c o z e (inr k) = inr ((each 1 (omega arith)).then_fewer c (eq-eqb _ 1 (e ∙ k)) z)

    pub demand3_for : Demand3For call_of calls (fresh_sharing p) p sources collects cs
    demand3_for =
        record {
          each = each;
          then_fewer = λ c z.
              let low = call_tenant p sources _ (call_of c) (plain_gives _ (good_at cs) c z) in
              fewer c _ z refl (tenant_cases _ low);
        }

  -- ---- progress: some call of the sharing would give 0
  module _ (cs : List C) where
    abbrev ended : Sharing
    ended = state_after calls (fresh_sharing p) cs

    passed : List Call
    passed = (passes G (act_on p sources) calls call_of allowed gd (inv_next p so sources) cs (fresh_sharing p) (inv_start p sources)).0

    led_to : state_after (act_on p sources) (fresh_sharing p) passed ≡ ended
    unfolding passed
    led_to = ends (act_on p sources) (passes G (act_on p sources) calls call_of allowed gd (inv_next p so sources) cs (fresh_sharing p) (inv_start p sources)).1

    plainly : Demand208 (act_on p sources) (fresh_sharing p) passed p sources (collect_on p)
    plainly = theorem208 p so sources passed

    here : (o : ℕ) → o ≤ 1 → Demand3In (tenant_view call_of o) calls (fresh_sharing p) p (source_for sources o) (λ r. collect_on p r o) cs
    here = each (collect_on p) (λ r inv o grid len. refl) cs

    -- a tenant with steps left in one list has steps left in the other: else it could be collected
    there : (o : ℕ) → o ≤ 1 → steps_of (tenant_view call_of o) calls (fresh_sharing p) cs < total p → steps_for (act_on p sources) (fresh_sharing p) passed o < total p
    there o low h = go (ℕ_discrete (steps_for (act_on p sources) (fresh_sharing p) passed o) (total p))
      where
        go : Dec (steps_for (act_on p sources) (fresh_sharing p) passed o ≡ total p) → steps_for (act_on p sources) (fresh_sharing p) passed o < total p
        go (yes e) =
            let z = (plainly.each o low).collecting.can_collect e (replicate p.cells 0) (length-replicate _ _) in
            let k = (here o low).collecting.then_all (replicate p.cells 0) (length-replicate _ _) (rw led_to at z) in
            absurd (omega arith)
        go (no n) = let b = (plainly.each o low).once.bound in omega arith

    either_there : (steps_of (tenant_view call_of 0) calls (fresh_sharing p) cs < total p) ⊎ (steps_of (tenant_view call_of 1) calls (fresh_sharing p) cs < total p)
        → (steps_for (act_on p sources) (fresh_sharing p) passed 0 < total p) ⊎ (steps_for (act_on p sources) (fresh_sharing p) passed 1 < total p)
    either_there (inl h) = inl (there 0 (omega arith) h)
    either_there (inr h) = inr (there 1 (omega arith) h)

    pub goes_plain : (steps_of (tenant_view call_of 0) calls (fresh_sharing p) cs < total p) ⊎ (steps_of (tenant_view call_of 1) calls (fresh_sharing p) cs < total p)
        → (c : Call) × ((act_on p sources ended c).number ≡ 0)
    goes_plain h =
        let g = plainly.goes_on (either_there h) in
        (g.0, ap (λ (r : Sharing). (act_on p sources r g.0).number) (sym led_to) ∙ g.1)

    -- where every call of the sharing is one of these, allowed
    pub goes_on_for : (able : Call → C) → ((c : Call) → call_of (able c) ≡ c) → ((c : Call) → allowed (able c)) → GoesOnFor call_of calls (fresh_sharing p) p cs
    goes_on_for able is can =
        record {
          goes_on = λ h.
              let g = goes_plain h in (
                able g.0,
                guarded_zero G (act_on p sources) calls call_of allowed gd (inv_next p so sources) ended (good_at cs) (able g.0) (can g.0)
                    (ap (λ (x : Call). (act_on p sources ended x).number) (is g.0) ∙ g.1),
              );
        }

-- ---- isolation, by calls of any kinds
pub alone208 : (p : Plan) → Sound p → (o : ℕ) → o ≤ 1 → (sources sources' : Sources) → source_for sources' o ≡ source_for sources o
    → {C D : Type 0} (call_of : C → Call) (calls : Sharing → C → Answered Sharing) (allowed : C → Type 0)
    → Guards (SharingInv p sources) (act_on p sources) calls call_of allowed
    → (call_of' : D → Call) (calls' : Sharing → D → Answered Sharing) (allowed' : D → Type 0)
    → Guards (SharingInv p sources') (act_on p sources') calls' call_of' allowed'
    → Alone208 call_of calls call_of' calls' (act p (source_for sources o)) p o
alone208 p so o low sources sources' same call_of calls allowed gd call_of' calls' allowed' gd' =
    record {
      same_words =
          alone p so (source_for sources o) (SharingInv p sources) (tenant_view call_of o) calls (follows_for p so sources call_of calls allowed gd o low)
          (fresh_sharing p) (inv_start p sources) (fresh_own p o) (SharingInv p sources') (tenant_view call_of' o) calls'
          (rw same at (follows_for p so sources' call_of' calls' allowed' gd' o low)) (fresh_sharing p) (inv_start p sources') (fresh_own p o);
      as_single =
          alone p so (source_for sources o) (SharingInv p sources) (tenant_view call_of o) calls (follows_for p so sources call_of calls allowed gd o low)
          (fresh_sharing p) (inv_start p sources) (fresh_own p o) (Inv p (source_for sources o)) (whole (λ e. e)) (act p (source_for sources o))
          (follows p so (source_for sources o) (act p (source_for sources o)) (λ e. e) _ (itself p (source_for sources o))) (fresh p)
          (inv_fresh p (source_for sources o)) refl;
    }
