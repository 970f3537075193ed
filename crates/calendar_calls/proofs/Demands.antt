-- Request W-212 holds: of the definitions of the calls with hours, and of every run of them.
use Rattle.std.specs.Prelude.{◌≡◌, ℕ, List}
use borrow.Author.Tests.{eq-eqb}
use Rattle.base.proofs.Tests.{pick_true}
use Rattle.machine.specs.Machine.{State, fresh}
use Rattle.calendar.specs.Windows.{Moment}
use Rattle.calendar.specs.Demands212.{TellsOpening}
use Rattle.calendar.proofs.Telling.{tells}
use Rattle.calendar.proofs.TwoTenants.{isolated_at}
use Rattle.engine.specs.Calls.{recipe, fresh_call}
use Rattle.engine.proofs.Lines.{areas_are}
use Rattle.engine.proofs.AsSteps.{fresh_gave}
use Rattle.engine.proofs.Demands.{fixed}
use Rattle.sharing.proofs.AsRuns.{fresh_reads, fresh_sources, fresh_is}
use Rattle.sharing.proofs.Demands.{sound_plan}
use Rattle.calendar_calls.specs.Calls.{turn_call_lines_at, turn_call_at, turn_call_lines_at_for, turn_call_at_for, opens_lines, opens_call, sharing_calls_at}
use Rattle.calendar_calls.specs.Demands.{FixedAt, TimedDemands}
use Rattle.calendar_calls.proofs.AsRuns.{run_demand212, guards_for, run_demand212_for}
use Rattle.calendar_calls.proofs.Mixed.{run_words, run_mixed, run_words_for, run_mixed_for, run_alone}

fixed_at : (bytes : List ℕ) (route : ℕ) (source : List ℕ) (h : Moment) (b : ℕ) → FixedAt bytes route source h b
unfolding turn_call_at turn_call_at_for opens_call
fixed_at bytes route source h b =
    record {
      turn = λ s. fixed (turn_call_lines_at bytes route source h s b) _ s;
      tenant_turn = λ o l theirs. fixed (turn_call_lines_at_for bytes route source o h l theirs b) _ l;
      opens = fixed (opens_lines bytes h b) _ _;
    }

told : (bytes : List ℕ) (h : Moment) (b : ℕ) → (opens_call bytes h b).number ≡ 0 → TellsOpening (opens_call bytes h b).after h.calendar h.minute b
unfolding opens_call
told bytes h b z = rw (pick_true _ _ _ (eq-eqb _ 0 z)) (tells h.calendar h.minute b)

fresh_fresh : (bytes : List ℕ) (route : ℕ) (source : List ℕ) (s : State) → (fresh_call bytes route source s).number ≡ 0
    → (fresh_call bytes route source s).after ≡ fresh (recipe bytes route)
unfolding fresh_call
fresh_fresh bytes route source s z = pick_true _ _ _ (eq-eqb _ 0 z)

pub timed_demands : TimedDemands
timed_demands =
    record {
      calls = fixed_at;
      tells = told;
      runs = λ bytes route source s b z events.
          let gave = fresh_gave bytes route source s z in
          rw (fresh_fresh bytes route source s z)
          (run_demand212 bytes route source gave.0 (sound_plan bytes route b gave.0)
          (areas_are (recipe bytes route) source s gave.1).source events);
      tenant_runs = λ bytes route sources r b z calls.
          rw (fresh_is bytes route sources r z)
          (run_demand212_for bytes route sources (fresh_reads bytes route sources r z) (fresh_sources bytes route sources r z)
          (sound_plan bytes route b (fresh_reads bytes route sources r z)) calls);
      apart = λ bytes route sources sources' r r' b z z' o low same.
          rw (fresh_is bytes route sources r z, fresh_is bytes route sources' r' z')
          (isolated_at (recipe bytes route) (sound_plan bytes route b (fresh_reads bytes route sources r z)) o low sources sources' same
          (sharing_calls_at bytes route sources) (sharing_calls_at bytes route sources') _ _
          (guards_for bytes route sources (fresh_reads bytes route sources r z) (fresh_sources bytes route sources r z))
          (guards_for bytes route sources' (fresh_reads bytes route sources' r' z') (fresh_sources bytes route sources' r' z')));
      words = λ bytes route source s b z.
          let gave = fresh_gave bytes route source s z in
          rw (fresh_fresh bytes route source s z)
          (run_words bytes route source gave.0 (sound_plan bytes route b gave.0) (areas_are (recipe bytes route) source s gave.1).source);
      tenant_words = λ bytes route sources r b z.
          rw (fresh_is bytes route sources r z)
          (run_words_for bytes route sources (fresh_reads bytes route sources r z) (sound_plan bytes route b (fresh_reads bytes route sources r z))
          (fresh_sources bytes route sources r z));
      mixed_runs = λ bytes route source s b z calls.
          let gave = fresh_gave bytes route source s z in
          rw (fresh_fresh bytes route source s z)
          (run_mixed bytes route source gave.0 (sound_plan bytes route b gave.0) (areas_are (recipe bytes route) source s gave.1).source calls);
      tenant_mixed_runs = λ bytes route sources r b z calls.
          rw (fresh_is bytes route sources r z)
          (run_mixed_for bytes route sources (fresh_reads bytes route sources r z) (sound_plan bytes route b (fresh_reads bytes route sources r z))
          (fresh_sources bytes route sources r z) calls);
      alone = λ bytes route sources sources' r r' b z z' o low same.
          run_alone bytes route (fresh_reads bytes route sources r z) (sound_plan bytes route b (fresh_reads bytes route sources r z)) o low sources
          sources' same (fresh_sources bytes route sources r z) (fresh_sources bytes route sources' r' z');
    }
