-- Laws of the calls for a tenant: the record of a turn that gave 0 is there; and each return of the view is what it tells by the line that counts.
use Rattle.std.specs.Prelude.{◌≡◌, ℕ, zero, suc, ◌*◌, ◌<◌, ◌≢◌, List, length}
use mathlib.Core.Path.{refl, sym, ap, ◌∙◌}
use native.Mathlib.Omega.{arith}
use Rattle.machine.specs.Plan.{Plan}
use Rattle.machine.specs.Machine.{state_of, Answered}
use Rattle.tenants.specs.Tenants.{TenantAreas, tenant_areas}
use Rattle.records.specs.declared.Progress.{Progress}
use Rattle.records.specs.Records.{flat_words}
use Rattle.records.proofs.Words.{length_words}
use Rattle.engine.specs.Calls.{answer, recipe}
use Rattle.sharing.specs.Calls.{turn_call_for, view_number}
use Rattle.sharing.proofs.Starts.{turn_inside}
use Rattle.calls.specs.declared.tenant.Viewed.{Viewed}
use Rattle.calls.specs.View.{no_view, view_if, view_of}

-- ---- a turn that gave 0 has a record there

pub record_there_for : (bytes : List ℕ) (route : ℕ) (source : List ℕ) (o : ℕ) (m u t e : List ℕ) (rs ss : List Progress) (b n : ℕ)
    (x : TenantAreas)
    → answer n x ≡ turn_call_for bytes route source o (tenant_areas (state_of m u (flat_words rs) t) e) (flat_words ss) b → n ≡ 0 → b < length rs
record_there_for bytes route source o m u t e rs ss b n x is z =
    omega (
      arith,
      length_words rs,
      turn_inside bytes route source o (tenant_areas (state_of m u (flat_words rs) t) e) (flat_words ss) b
          (ap (λ (y : Answered TenantAreas). y.number) (sym is) ∙ z),
    )

-- ---- the view

view_no : (n : ℕ) (p : Plan) (b : ℕ) → n ≢ 0 → view_if n p b ≡ no_view n
unfolding view_if
view_no zero p b h = absurd (h refl)
view_no (suc n) p b h = refl

module _ (bytes first second : List ℕ) (o b : ℕ) (n : ℕ) (is : n ≡ view_number bytes first second o b) where
  pub view_none : n ≢ 0 → no_view n ≡ view_of bytes first second o b
  unfolding view_of
  view_none h = sym (view_no n (recipe bytes 0) b h) ∙ ap (λ (k : ℕ). view_if k (recipe bytes 0) b) is

  pub view_done : n ≡ 0 → (start words : ℕ) → start ≡ b * (recipe bytes 0).cells → words ≡ (recipe bytes 0).cells
      → ◌≡◌ {A = Viewed} (record { number = 0; begin = start; length = words }) (view_of bytes first second o b)
  unfolding view_of view_if
  view_done z start words s w =
      ap (λ (k : ℕ). viewed k words) s ∙ ap (λ (k : ℕ). viewed (b * (recipe bytes 0).cells) k) w
      ∙ ap (λ (k : ℕ). view_if k (recipe bytes 0) b) (sym z ∙ is)
    where
      viewed : ℕ → ℕ → Viewed
      viewed i k = record { number = 0; begin = i; length = k }
