-- The claims for any calls that answer as the sharing of two tenants does wherever its invariant holds: what calls on bytes cite.
use Prim.Native.Nat.{ℕ, ◌≤◌}
use mathlib.Core.Path.{◌≡◌, sym, ap, ◌∙◌}
use mathlib.Core.List.{List}
use lib.ListN.{length}
use Rattle.machine.specs.Plan.{Plan, Sound}
use Rattle.machine.specs.Machine.{Answered}
use Rattle.machine.specs.Runs.{state_after, answers_to}
use Rattle.machine.proofs.RunLaws.{number_of, same_end, same_numbers}
use Rattle.machine.proofs.Once.{collects_like}
use Rattle.tenants.specs.Tenants.{Sharing, Sources, source_for, fresh_sharing, Call, turn_by, act_on, collect_on}
use Rattle.tenants.specs.Demand208.{TenantDemand, Demand208, Isolated}
use Rattle.tenants.proofs.Engaged.{SharingInv, inv_start, inv_next, inv_run}
use Rattle.tenants.proofs.Theorem208.{theorem208, isolated}

-- the calls answer alike in every sharing with the invariant
abbrev pub Alike : Plan → Sources → (Sharing → Call → Answered Sharing) → Type 0
Alike p sources acts = (r : Sharing) → SharingInv p sources r → (c : Call) → acts r c ≡ act_on p sources r c

module _ (p : Plan) (so : Sound p) (sources : Sources) (acts : Sharing → Call → Answered Sharing) (alike : Alike p sources acts) where
  -- a run of them is, sharing by sharing and number by number, a run of the sharing of two tenants
  module _ (cs : List Call) where
    sharing_is : state_after acts (fresh_sharing p) cs ≡ state_after (act_on p sources) (fresh_sharing p) cs
    sharing_is = same_end (SharingInv p sources) acts (act_on p sources) alike (inv_next p so sources) cs (fresh_sharing p) (inv_start p sources)

    answers_are : answers_to acts (fresh_sharing p) cs ≡ answers_to (act_on p sources) (fresh_sharing p) cs
    answers_are = same_numbers (SharingInv p sources) acts (act_on p sources) alike (inv_next p so sources) cs (fresh_sharing p) (inv_start p sources)

    inv_last : SharingInv p sources (state_after (act_on p sources) (fresh_sharing p) cs)
    inv_last = inv_run p so sources cs (fresh_sharing p) (inv_start p sources)

    next_is : (c : Call) → acts (state_after acts (fresh_sharing p) cs) c ≡ act_on p sources (state_after (act_on p sources) (fresh_sharing p) cs) c
    next_is c = ap (λ (r : Sharing). acts r c) sharing_is ∙ alike _ inv_last c

  module _ (collects : Sharing → ℕ → List ℕ → Answered (List ℕ))
      (same-grid : (r : Sharing) → SharingInv p sources r → (o : ℕ) (grid : List ℕ) → length grid ≡ p.cells
      → collects r o grid ≡ collect_on p r o grid)
      (cs : List Call) where
    whole : Demand208 (act_on p sources) (fresh_sharing p) cs p sources (collect_on p)
    whole = theorem208 p so sources cs

    grid_is : (o : ℕ) (grid : List ℕ) → length grid ≡ p.cells
        → collects (state_after acts (fresh_sharing p) cs) o grid ≡ collect_on p (state_after (act_on p sources) (fresh_sharing p) cs) o grid
    grid_is o grid e = ap (λ (r : Sharing). collects r o grid) (sharing_is cs) ∙ same-grid _ (inv_last cs) o grid e

    one_tenant : (o : ℕ) → o ≤ 1 → TenantDemand acts (fresh_sharing p) cs p o (source_for sources o) collects
    one_tenant o low =
        record {
          once = rw (answers_are cs) D.once;
          collecting = rw (answers_are cs) (collects_like p (source_for sources o) _ _ _ _ (λ e. e) (λ e. e) (grid_is o) D.collecting);
          carried_out = λ before after b e z.
              rw (answers_are before, next_is before (turn_by o b), sharing_is before)
              (D.carried_out before after b e (sym (number_of (next_is before (turn_by o b))) ∙ z));
        }
      where
        D : TenantDemand (act_on p sources) (fresh_sharing p) cs p o (source_for sources o) (collect_on p)
        D = whole.each o low

    pub demand208_for : Demand208 acts (fresh_sharing p) cs p sources collects
    demand208_for =
        record {
          each = one_tenant;
          goes_on = λ h. let g = whole.goes_on (rw (answers_are cs) at h) in (g.0, number_of (next_is cs g.0) ∙ g.1);
          then_fewer = λ c z. rw (answers_are cs) (whole.then_fewer c (sym (number_of (next_is cs c)) ∙ z));
        }

pub isolated_for : (p : Plan) → Sound p → (o : ℕ) → o ≤ 1 → (sources sources' : Sources) → source_for sources o ≡ source_for sources' o
    → (acts acts' : Sharing → Call → Answered Sharing) → Alike p sources acts → Alike p sources' acts'
    → Isolated o acts acts' (fresh_sharing p) (fresh_sharing p)
isolated_for p so o low sources sources' same acts acts' alike alike' =
    record {
      same_words = λ calls calls' e1 e2.
          rw (sharing_is p so sources acts alike calls, sharing_is p so sources' acts' alike' calls')
          ((isolated p o low sources sources' same).same_words calls calls' e1
          (rw (answers_are p so sources acts alike calls, answers_are p so sources' acts' alike' calls') at e2));
    }
