-- The calls on areas that no two processors share, with crashes and new starts, have what crate restarts proves.
use Prim.Native.Nat.{ℕ, ◌<◌}
use mathlib.Core.Path.{◌≡◌, refl, sym, ap, ◌∙◌}
use mathlib.Core.Bool.{true}
use mathlib.Core.List.{List, []}
use native.Mathlib.Omega.{arith}
use native.Mathlib.Decide.{dec_lt}
use lib.ListN.{length}
use borrow.Author.Tests.{lt-ltb, le-ltb}
use Rattle.base.specs.Numbers.{first_of}
use Rattle.base.proofs.Tests.{not-true, pick_true, pick_false}
use Rattle.base.proofs.Numbers.{first_nil, first_false, first_behind}
use Rattle.machine.specs.Plan.{Plan, Sound}
use Rattle.machine.specs.Machine.{State, Answered, fresh}
use Rattle.machine.proofs.Invariant.{sender_low}
use Rattle.machine.proofs.Kept.{status_of}
use Rattle.machine.proofs.Fresh.{status_fresh}
use Rattle.nest.specs.Reader.{nest_of}
use Rattle.nest.proofs.Facts.{accepted}
use Rattle.plan.proofs.ShapedSound.{sound}
use Rattle.layout.specs.RouteWords.{route_of}
use Rattle.recipe.specs.Routes.{lines_for}
use Rattle.recipe.proofs.Laws.{reads_for, numbered_for}
use Rattle.network.specs.Apart.{AreasApart, replaced, sender_at}
use Rattle.network.specs.Packets.{Network, network_of, status_at}
use Rattle.network.proofs.Network.{zero_answer}
use Rattle.engine.specs.Calls.{recipe, areas, area_lines, fresh_call, collect_call}
use Rattle.engine.proofs.Lines.{areas_are}
use Rattle.engine.proofs.AsSteps.{fresh_gave, collect_is}
use Rattle.network_runs.specs.Calls.{Sources, start_calls, start_network_calls}
use Rattle.network_runs.specs.Demands.{Begun}
use Rattle.network_runs.proofs.AsNetwork.{shape_areas, network_same}
use Rattle.restarts.specs.Restarts.{LifeEvent, plain, repost_of, restart_of, restart, act_lives, ByLives}
use Rattle.restarts.specs.FairLoss.{Endless, Fair, FairLoss, Ends}
use Rattle.restarts.proofs.Life.{fresh_lives}
use Rattle.restarts.proofs.Lives.{Alive, alive_fine, restart_gives, restart_zero, restart_high}
use Rattle.restarts.proofs.Theorem.{by_lives}
use Rattle.restarts.proofs.FairLoss.{fair_ends, loss_fair}
use Rattle.restart_runs.specs.Calls.{restart_by_call, calls_lives}
use Rattle.restart_runs.specs.Demands.{RestartDemands}

-- a fresh start in areas of their lengths
pub fresh_clean : (bytes : List ℕ) (route : ℕ) → first_of (lines_for (route_of route) bytes) ≡ 0 → (source : List ℕ) (s : State)
    → areas (recipe bytes route) source s ≡ true → fresh_call bytes route source s ≡ record { number = 0; after = fresh (recipe bytes route) }
unfolding fresh_call
fresh_clean bytes route ok source s h =
    zero_answer _ _ _
    (first_behind (lines_for (route_of route) bytes) (area_lines (recipe bytes route) source s) (numbered_for (route_of route) bytes) ok
    ∙ first_false 9 _ [] (not-true h) ∙ first_nil)

module _ (bytes : List ℕ) (route : ℕ) (source : List ℕ) (sources : Sources) (lent : AreasApart) (bg : Begun bytes route source sources lent) where
  abbrev p : Plan
  p = recipe bytes route

  so : Sound p
  so = sound (route_of route) (nest_of bytes) (accepted bytes bg.small (reads_for (route_of route) bytes bg.accepted))

  long : (b : ℕ) → b < p.processors → length (sources b) ≡ p.cells
  long b h = (areas_are p (sources b) (lent b) (fresh_gave bytes route (sources b) (lent b) (bg.gave b h)).1).source

  clean : (b : ℕ) (s : State) → areas p (sources b) s ≡ true → fresh_call bytes route (sources b) s ≡ record { number = 0; after = fresh p }
  clean b s h = fresh_clean bytes route bg.accepted (sources b) s h

  start_is : (b : ℕ) → b < p.processors → start_calls bytes route sources lent b ≡ fresh p
  unfolding start_calls
  start_is b h = ap (λ (x : Answered State). x.after) (clean b (lent b) (fresh_gave bytes route (sources b) (lent b) (bg.gave b h)).1)

  begins : Alive p source (start_network_calls bytes route sources lent)
  begins =
      record {
        each = λ b h. rw (start_is b h) (fresh_lives p source b);
        right = λ k h. absurd (omega arith);
        has = λ m lo aw q.
            let x : status_at (start_calls bytes route sources lent) (sender_at p m) m ≡ 0
            = ap (λ (s : State). status_of s m) (start_is (sender_at p m) (so.processor_low _ (sender_low p so m lo))) ∙ status_fresh p m in
            absurd (omega arith);
      }

  module _ (n : Network) (al : Alive p source n) where
    restart_same : (b : ℕ) → restart_by_call bytes route sources n b ≡ restart p n b
    unfolding restart_by_call
    restart_same b = go (dec_lt b p.processors)
      where
        go : Dec (b < p.processors) → restart_by_call bytes route sources n b ≡ restart p n b
        go (yes h) =
            pick_true _ _ _ (lt-ltb b p.processors h)
            ∙ ap (λ (x : Answered State). record { number = x.number; after = network_of (replaced n.areas b x.after) n.packets })
            (clean b (n.areas b) (shape_areas bytes route bg.accepted so (sources b) (n.areas b) (long b h) (al.each b h).held.shape))
            ∙ sym (restart_zero p so source n al b (restart_gives p so source n al b h))
        go (no k) = pick_false _ _ _ (le-ltb b p.processors (omega arith)) ∙ sym (restart_high p so source n al b (omega arith))

    same : (e : LifeEvent) → calls_lives bytes route sources n e ≡ act_lives p source n e
    unfolding calls_lives act_lives
    same (plain e) = network_same bytes route bg.accepted so source sources long bg.own n (alive_fine p source n al) e
    same (repost_of m) = refl
    same (restart_of b) = restart_same b

  lives : (events : List LifeEvent)
      → ByLives (calls_lives bytes route sources) (start_network_calls bytes route sources lent) events p source (collect_call bytes route source)
  lives events =
      by_lives p so source (calls_lives bytes route sources) same (start_network_calls bytes route sources lent) begins events
      (collect_call bytes route source)
      (λ s sh grid len. collect_is bytes route source s bg.accepted (shape_areas bytes route bg.accepted so source s bg.whole sh) grid len)

  ends : (es : Endless) → Fair (calls_lives bytes route sources) (start_network_calls bytes route sources lent) es p
      → Ends (calls_lives bytes route sources) (start_network_calls bytes route sources lent) es p source
  ends es fair = fair_ends p so source (calls_lives bytes route sources) same (start_network_calls bytes route sources lent) begins es fair

  ends_loss : (es : Endless) → FairLoss (calls_lives bytes route sources) (start_network_calls bytes route sources lent) es p
      → Ends (calls_lives bytes route sources) (start_network_calls bytes route sources lent) es p source
  ends_loss es fl = ends es (loss_fair p so source (calls_lives bytes route sources) same (start_network_calls bytes route sources lent) begins es fl)

pub restart_demands : RestartDemands
restart_demands = record { by_lives = lives; fair = ends; fair_loss = ends_loss; clean = clean }
