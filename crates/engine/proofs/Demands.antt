-- The three demands hold: of the calls' definitions, and of every run of them.
use Rattle.std.specs.Prelude.{◌≡◌, ℕ, zero, suc, ◌≢◌, List, [], length, replicate}
use mathlib.Core.Path.{refl, sym, ap, ◌∙◌}
use lib.ListN.{length-replicate}
use borrow.Author.Tests.{eq-eqb, ne_eqb}
use Rattle.base.specs.Numbers.{Line, first_of}
use Rattle.base.specs.Lists.{Bytes}
use Rattle.base.proofs.Tests.{pick_true, pick_false}
use Rattle.base.proofs.Numbers.{first_own}
use Rattle.machine.specs.Plan.{Plan, Sound}
use Rattle.machine.specs.Machine as machine
use Rattle.machine.specs.Machine.{State, answered}
use Rattle.machine.specs.Runs.{Event, last, answers, Demand3}
use Rattle.machine.specs.StatusTells.{StatusTells}
use Rattle.machine.proofs.Values.{sweep_fixed, sweep_outside}
use Rattle.nest.specs.declared.Nest.{Nest}
use Rattle.nest.specs.Nest.{cells}
use Rattle.nest.specs.Reader.{nest_of, read_lines}
use Rattle.nest.specs.Accepted.{Accepted}
use Rattle.nest.proofs.Facts.{accepted}
use Rattle.nest.proofs.Bounds.{bounds_mean}
use Rattle.plan.specs.declared.Route.{Route}
use Rattle.plan.specs.declared.Route.TheVariants.{Direct, Indirect}
use Rattle.plan.specs.Shaped.{plan_of}
use Rattle.plan.specs.Hops.{hops}
use Rattle.conformance.specs.Examples.{figures_if}
use Rattle.conformance.specs.Exact.{sequential, run_nest}
use Rattle.conformance.proofs.Plans.{not_empty}
use Rattle.plan.proofs.ShapedBox.{plan_of_box}
use Rattle.conformance.proofs.ShapedExact.{exact_shape}
use Rattle.conformance.proofs.InOrder.{in_order}
use Rattle.conformance.proofs.OneBody.{one_body}
use Rattle.conformance.proofs.Figure4.{figure4}
use Rattle.plan.proofs.ShapedSound.{sound}
use Rattle.conformance.proofs.Report.{report_agrees}
use Rattle.conformance.proofs.Exact.{exact}
use Rattle.layout.specs.RouteWords.{route_of}
use Rattle.recipe.specs.Routes.{lines_for}
use Rattle.recipe.proofs.Laws.{reads_for, indirect_box}
use Rattle.summary.specs.Summary.{as_figures, figures_of, no_figures, summary_of, line_of, no_line, message_lines, line_if, message_line_of, direction_of, hops_lines}
use Rattle.summary.specs.Summary.{no_hops, hops_if, hops_of}
use Rattle.summary.proofs.Answers.{directed}
use Rattle.summary.proofs.HopsTold.{hops_told}
use Rattle.engine.specs.Calls.{answer, recipe, fresh_call, turn_call, deliver_call, collect_call, sweep_call}
use Rattle.engine.specs.Demands.{Fixed, Demand1, Demand2, calls, Demands}
use Rattle.engine.proofs.Begins.{begins}
use Rattle.engine.proofs.Lines.{areas_are}
use Rattle.engine.proofs.AsSteps.{fresh_gave}
use Rattle.engine.proofs.AsRuns.{run_demand3, run_marks, run_posted}
use Rattle.engine.proofs.Exact.{does, written}

-- ---- demand 1

module _ {A : Type 0} (ls : List Line) (new old : A) where
  pub fixed : Fixed (answered (first_of ls) new old) ls new old
  fixed =
      record {
        first = refl;
        own = first_own ls;
        works = λ z. pick_true _ new old (eq-eqb (first_of ls) 0 z);
        refuses = λ z. pick_false _ new old (ne_eqb (first_of ls) 0 z);
      }

-- a call that tells what `tells` says of its number
module _ {A : Type 0} (ls : List Line) (number : A → ℕ) (tells : ℕ → A) (done : A) (none : ℕ → A) where
  told : ((n : ℕ) → number (tells n) ≡ n) → (tells 0 ≡ done) → ((n : ℕ) → tells (suc n) ≡ none (suc n))
      → Fixed (answer (number (tells (first_of ls))) (tells (first_of ls))) ls done (none (number (tells (first_of ls))))
  told is yes-told no-told =
      record {
        first = is (first_of ls);
        own = rw (is (first_of ls)) (first_own ls);
        works = λ z. ap tells (sym (is (first_of ls)) ∙ z) ∙ yes-told;
        refuses = λ z. rw (is (first_of ls)) (go (first_of ls) (λ e. z (is (first_of ls) ∙ e)));
      }
    where
      go : (n : ℕ) → n ≢ 0 → tells n ≡ none n
      go zero h = absurd (h refl)
      go (suc n) h = no-told n

module _ (bytes : List ℕ) (route : ℕ) where
  summary : Fixed (answer (summary_of (route_of route) bytes).number (summary_of (route_of route) bytes)) (lines_for (route_of route) bytes)
      (figures_of (recipe bytes route)) (no_figures (summary_of (route_of route) bytes).number)
  unfolding summary_of figures_if
  summary =
      told (lines_for (route_of route) bytes) (λ f. f.number) (λ n. as_figures (figures_if n (recipe bytes route))) _ no_figures (λ n. is n) refl (λ n. refl)
    where
      is : (n : ℕ) → (figures_if n (recipe bytes route)).number ≡ n
      is zero = refl
      is (suc n) = refl

  message : (m : ℕ)
      → Fixed (answer (message_line_of (route_of route) bytes m).number (message_line_of (route_of route) bytes m))
      (message_lines (route_of route) bytes m) (line_of (recipe bytes route) m) (no_line (message_line_of (route_of route) bytes m).number)
  unfolding message_line_of line_if
  message m =
      told (message_lines (route_of route) bytes m) (λ f. f.number) (λ n. line_if n (recipe bytes route) m) _ no_line (λ n. is n) refl
      (λ n. refl)
    where
      is : (n : ℕ) → (line_if n (recipe bytes route) m).number ≡ n
      is zero = refl
      is (suc n) = refl

told_hops : (bytes : List ℕ) (m : ℕ)
    → Fixed (answer (hops_of bytes m).number (hops_of bytes m)) (hops_lines bytes m)
    (record { number = 0; hops = hops (nest_of bytes) (direction_of (nest_of bytes) m) }) (no_hops (hops_of bytes m).number)
unfolding hops_of hops_if
told_hops bytes m =
    told (hops_lines bytes m) (λ f. f.number) (λ n. hops_if n (nest_of bytes) m) _ no_hops (λ n. is n) refl (λ n. refl)
  where
    is : (n : ℕ) → (hops_if n (nest_of bytes) m).number ≡ n
    is zero = refl
    is (suc n) = refl

demand1 : (bytes : List ℕ) (route : ℕ) (source : List ℕ) (s : State) → Demand1 bytes route source s
unfolding fresh_call turn_call deliver_call collect_call sweep_call
demand1 bytes route source s =
    record {
      fresh = fixed _ _ s;
      turn = λ b. fixed _ _ s;
      deliver = λ m. fixed _ _ s;
      collect = λ grid. fixed _ _ grid;
      sweep = λ grid. fixed _ _ grid;
      summary = summary bytes route;
      message = message bytes route;
      hops = told_hops bytes;
    }

-- ---- demand 2

-- the sweep is the same on every route that the recipe is open to
module _ (x : Nest) (ok : Accepted x) (none : x.bounds ≡ 0) (source : List ℕ) where
  array : List ℕ
  array = replicate (cells x) 0

  box_sweep : (r : Route) → machine.sweep (plan_of r x) source ≡ run_nest x source array (sequential x)
  unfolding array
  box_sweep r =
      ap (λ (p : Plan). machine.sweep p source) (plan_of_box r x ok none)
      ∙ sym ((exact x ok).sweep_is r source array (length-replicate (cells x) 0))

open_sweep : (bytes : List ℕ) → Accepted (nest_of bytes) → (r : Route) → first_of (lines_for r bytes) ≡ 0 → (source : List ℕ)
    → machine.sweep (plan_of r (nest_of bytes)) source ≡ machine.sweep (plan_of Direct (nest_of bytes)) source
open_sweep bytes ok Direct z source = refl
open_sweep bytes ok Indirect z source =
    box_sweep (nest_of bytes) ok (indirect_box bytes z) source Indirect ∙ sym (box_sweep (nest_of bytes) ok (indirect_box bytes z) source Direct)

module _ (bytes : List ℕ) (route : ℕ) (small : Bytes bytes) (z : first_of (read_lines bytes) ≡ 0) where
  ok : Accepted (nest_of bytes)
  ok = accepted bytes small z

  abbrev so : Sound (recipe bytes route)
  so = sound (route_of route) (nest_of bytes) ok

  abbrev straight : Sound (recipe bytes 0)
  straight = sound (route_of 0) (nest_of bytes) ok

  -- what a sweep call that gave 0 left
  left : (source grid : List ℕ) → (sweep_call bytes source grid).number ≡ 0
      → (sweep_call bytes source grid).after ≡ machine.sweep (plan_of Direct (nest_of bytes)) source
  unfolding route_of
  left source grid e = ((demand1 bytes 0 source (machine.state_of [] [] [] [])).sweep grid).works e

  demand2 : Demand2 bytes route
  unfolding route_of
  demand2 =
      record {
        box = plan_of_box (route_of route) (nest_of bytes) ok;
        report = λ none. report_agrees (nest_of bytes) ok;
        exact = λ none. exact (nest_of bytes) ok;
        shape = exact_shape (nest_of bytes) ok;
        index_order = in_order (nest_of bytes) ok;
        bounds_mean = bounds_mean bytes small z;
        one_body = one_body (nest_of bytes) ok;
        figure4 = figure4 (route_of route) (nest_of bytes) ok;
        sound = so;
        directed = directed (nest_of bytes);
        hops_told = hops_told bytes small;
        in_order = so.held_rising;
        not_empty = not_empty (nest_of bytes) ok (route_of route);
        turned = does bytes route ok;
        unpacked = λ source s b t e n. written bytes route ok source s _ b t _ (does bytes route ok source s b e) n;
        posted = λ source s e before b m.
            let gave = fresh_gave bytes route source s e in
            rw ((demand1 bytes route source s).fresh.works e)
            (run_posted bytes route source gave.0 so (areas_are (recipe bytes route) source s gave.1).source before b m);
        nest = λ none source grid array e l.
            left source grid e ∙ ap (λ (p : Plan). machine.sweep p source) (plan_of_box Direct (nest_of bytes) ok none)
            ∙ sym ((exact (nest_of bytes) ok).sweep_is Direct source array l);
        nest_shape = λ source grid array e l h. left source grid e ∙ sym ((exact_shape (nest_of bytes) ok).sweep_is source array l h);
        swept = λ source c l i. sym (sweep_fixed (recipe bytes 0) source (straight.local source) straight.earlier c l i);
        unswept = λ source c l o. sweep_outside (recipe bytes 0) source (straight.local source) straight.earlier c l o;
        same_sweep = open_sweep bytes ok (route_of route);
      }

-- ---- demand 3

module _ (bytes : List ℕ) (route : ℕ) (source : List ℕ) (s : State) (b : Bytes bytes) (z : (fresh_call bytes route source s).number ≡ 0) where
  opens : first_of (lines_for (route_of route) bytes) ≡ 0
  opens = (fresh_gave bytes route source s z).0

  long : length source ≡ (recipe bytes route).cells
  long = (areas_are (recipe bytes route) source s (fresh_gave bytes route source s z).1).source

  plan : Sound (recipe bytes route)
  plan = sound (route_of route) (nest_of bytes) (accepted bytes b (reads_for (route_of route) bytes opens))

  three : (events : List Event)
      → Demand3 (calls bytes route source) (fresh_call bytes route source s).after events (recipe bytes route) source
      (collect_call bytes route source)
  three events = rw ((demand1 bytes route source s).fresh.works z) (run_demand3 bytes route source opens plan long events)

  marks : (events : List Event)
      → StatusTells (recipe bytes route) (last (calls bytes route source) (fresh_call bytes route source s).after events) events
      (answers (calls bytes route source) (fresh_call bytes route source s).after events)
  marks events = rw ((demand1 bytes route source s).fresh.works z) (run_marks bytes route source opens plan long events)

pub demands : Demands
demands =
    record {
      one = demand1;
      two = demand2;
      begins = begins;
      three = three;
      marks = marks;
    }
