-- Request W-208 holds: of the definitions of a tenant's calls, and of every run of them.
use Rattle.std.specs.Prelude.{◌≡◌, ℕ, ◌*◌, Bool, true, false, eqb, List, [], length}
use mathlib.Core.Path.{refl, sym}
use Rattle.base.specs.Tests.{pick}
use Rattle.base.specs.Lists.{Bytes, sublist}
use Rattle.base.specs.Numbers.{first_of}
use Rattle.machine.specs.Plan.{Plan, Sound}
use Rattle.machine.specs.Machine.{memory_of}
use Rattle.tenants.specs.Tenants.{TenantAreas, of_tenant, Sharing, Sources, own_of, fresh_sharing}
use Rattle.tenants.proofs.AnyCalls.{isolated_for}
use Rattle.nest.specs.Reader.{nest_of}
use Rattle.nest.proofs.Facts.{accepted}
use Rattle.plan.proofs.ShapedSound.{sound}
use Rattle.layout.specs.RouteWords.{route_of}
use Rattle.recipe.specs.Routes.{lines_for}
use Rattle.recipe.proofs.Laws.{reads_for, numbered_for}
use Rattle.engine.specs.Calls.{recipe}
use Rattle.engine.specs.Demands.{Fixed, LentWords}
use Rattle.engine.proofs.Begins.{areas_fit, none_true}
use Rattle.engine.proofs.Demands.{fixed}
use Rattle.sharing.specs.Calls.{turn_call_lines_for, turn_call_for, deliver_call_lines_for, deliver_call_for, collect_call_lines_for, collect_call_for}
use Rattle.sharing.specs.Calls.{sharing_areas, fresh_sharing_lines, fresh_sharing_call, view_lines, view_part, sharing_calls}
use Rattle.sharing.specs.Demands.{FixedFor, Views, SharingDemands}
use Rattle.sharing.proofs.Starts.{all_there}
use Rattle.sharing.proofs.AsRuns.{alike, run_demand208, fresh_reads, fresh_sources, fresh_is}
use Rattle.sharing.proofs.Words.{run_words, run_alone}

fixed_for : (bytes : List ℕ) (route : ℕ) (source : List ℕ) (o : ℕ) (l : TenantAreas) (theirs : List ℕ) → FixedFor bytes route source o l theirs
unfolding turn_call_for deliver_call_for collect_call_for
fixed_for bytes route source o l theirs =
    record {
      turn = λ b. fixed (turn_call_lines_for bytes route source o l theirs b) _ l;
      deliver = λ m. fixed (deliver_call_lines_for bytes route source o l theirs m) _ l;
      collect = λ grid. fixed (collect_call_lines_for bytes route source o l theirs grid) _ grid;
    }

memory_is : (p : Plan) (r : Sharing) (o b : ℕ)
    → sublist (of_tenant o r.first.memories r.second.memories) (b * p.cells) p.cells ≡ memory_of p (own_of r o) b
unfolding of_tenant pick
memory_is p r o b = go (eqb o 0)
  where
    go : (t : Bool) → sublist (pick t r.first.memories r.second.memories) (b * p.cells) p.cells ≡ memory_of p (pick t r.first r.second) b
    go true = refl
    go false = refl

looks : (bytes : List ℕ) (r : Sharing) (o b : ℕ) → Views bytes r o b
unfolding view_part
looks bytes r o b =
    record {
      fixed =
          rw (sym (memory_is (recipe bytes 0) r o b)) (fixed (view_lines bytes r.first.memories r.second.memories o b) _ []);
    }

fresh_fixed : (bytes : List ℕ) (route : ℕ) (sources : Sources) (r : Sharing)
    → Fixed (fresh_sharing_call bytes route sources r) (fresh_sharing_lines bytes route sources r) (fresh_sharing (recipe bytes route)) r
unfolding fresh_sharing_call
fresh_fixed bytes route sources r = fixed (fresh_sharing_lines bytes route sources r) _ r

begins : (bytes : List ℕ) (route : ℕ) (sources : Sources) (r : Sharing) → first_of (lines_for (route_of route) bytes) ≡ 0
    → LentWords (recipe bytes route) sources.first r.first → LentWords (recipe bytes route) sources.second r.second
    → length r.engaged ≡ (recipe bytes route).processors → (fresh_sharing_call bytes route sources r).number ≡ 0
unfolding fresh_sharing_call
begins bytes route sources r z l m e =
    none_true (lines_for (route_of route) bytes) (numbered_for (route_of route) bytes) z (sharing_areas (recipe bytes route) sources r)
    (all_there (recipe bytes route) sources r (areas_fit (recipe bytes route) sources.first r.first l)
    (areas_fit (recipe bytes route) sources.second r.second m) e)

pub sound_plan : (bytes : List ℕ) (route : ℕ) → Bytes bytes → first_of (lines_for (route_of route) bytes) ≡ 0 → Sound (recipe bytes route)
sound_plan bytes route b z = sound (route_of route) (nest_of bytes) (accepted bytes b (reads_for (route_of route) bytes z))

pub sharing_demands : SharingDemands
sharing_demands =
    record {
      calls = fixed_for;
      fresh = fresh_fixed;
      looks = looks;
      begins = begins;
      runs = λ bytes route sources r b z calls.
          rw (fresh_is bytes route sources r z)
          (run_demand208 bytes route sources (fresh_reads bytes route sources r z) (fresh_sources bytes route sources r z)
          (sound_plan bytes route b (fresh_reads bytes route sources r z)) calls);
      apart = λ bytes route sources sources' r r' b z z' o low same.
          rw (fresh_is bytes route sources r z, fresh_is bytes route sources' r' z')
          (isolated_for (recipe bytes route) (sound_plan bytes route b (fresh_reads bytes route sources r z)) o low sources sources' same
          (sharing_calls bytes route sources) (sharing_calls bytes route sources')
          (alike bytes route sources (fresh_reads bytes route sources r z) (fresh_sources bytes route sources r z))
          (alike bytes route sources' (fresh_reads bytes route sources' r' z') (fresh_sources bytes route sources' r' z')));
      words = λ bytes route sources r b z.
          rw (fresh_is bytes route sources r z)
          (run_words bytes route sources (fresh_reads bytes route sources r z) (fresh_sources bytes route sources r z)
          (sound_plan bytes route b (fresh_reads bytes route sources r z)));
      alone = λ bytes route sources sources' r r' b z z' o low same.
          run_alone bytes route (fresh_reads bytes route sources r z) (sound_plan bytes route b (fresh_reads bytes route sources r z)) o low sources
          sources' same (fresh_sources bytes route sources r z) (fresh_sources bytes route sources' r' z');
    }
