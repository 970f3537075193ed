-- The calls on areas that no two processors share have what crate network proves; messages go to other processors, indirect to the next; a turn is local.
use Prim.Native.Nat.{ℕ, ◌<◌}
use mathlib.Core.Path.{◌≡◌, refl, ap, ◌∙◌}
use mathlib.Core.Logic.{◌≢◌}
use mathlib.Core.List.{List, [], ◌++◌}
use native.Mathlib.Decide.{ℕ_discrete}
use lib.ListN.{length}
use Rattle.base.specs.Lists.{Bytes}
use Rattle.base.specs.Numbers.{first_of}
use Rattle.base.proofs.Tests.{not-true}
use Rattle.base.proofs.Numbers.{first_nil, first_false, first_some, first_behind}
use Rattle.machine.specs.Plan.{Plan, Sound, count}
use Rattle.machine.specs.Machine.{State, answered, carry_out, next_action, turn_lines, fresh}
use Rattle.machine.specs.Runs.{Event}
use Rattle.machine.proofs.Fresh.{inv_fresh}
use Rattle.nest.specs.Accepted.{Accepted}
use Rattle.nest.specs.Reader.{nest_of}
use Rattle.nest.proofs.Facts.{accepted}
use Rattle.plan.specs.declared.Route.{Route}
use Rattle.plan.specs.declared.Route.TheVariants.{Indirect}
use Rattle.plan.specs.Shaped.{plan_of}
use Rattle.plan.proofs.ShapedSound.{sound}
use Rattle.layout.specs.RouteWords.{route_of}
use Rattle.recipe.specs.Routes.{lines_for}
use Rattle.recipe.proofs.Laws.{reads_for, numbered_for}
use Rattle.network.specs.Apart.{AreasApart, start_apart, sender_at, taker_at, Demand3Apart}
use Rattle.network.specs.Packets.{NetworkEvent, ByPackets}
use Rattle.network.specs.Locality.{PlanLengths, Local}
use Rattle.network.specs.PartRuns.{PartRun}
use Rattle.network.proofs.Agrees.{Nothing}
use Rattle.network.proofs.Together.{Together, start_together}
use Rattle.network.proofs.Theorem.{demand3_apart}
use Rattle.network.proofs.Network.{Follows, some_answer, start_follows}
use Rattle.network.proofs.PacketTheorem.{by_packets}
use Rattle.network.proofs.Locality.{local, local_as, refusing_local}
use Rattle.network.proofs.Fine.{together_fine, follows_fine}
use Rattle.network.proofs.Own.{own_part}
use Rattle.network.proofs.PartRuns.{own_run}
use Rattle.engine.specs.Calls.{recipe, area_lines, fresh_call, turn_call, collect_call}
use Rattle.engine.specs.Demands.{calls}
use Rattle.engine.proofs.Lines.{areas_are}
use Rattle.engine.proofs.AsSteps.{fresh_gave, turn_is}
use Rattle.engine.proofs.Demands.{demands}
use Rattle.network_runs.specs.Calls.{Sources, start_calls, calls_apart, calls_network, start_network_calls}
use Rattle.network_runs.specs.Neighbours.{NextAlong}
use Rattle.network_runs.specs.Demands.{Begun, ApartDemands}
use Rattle.network_runs.proofs.Neighbours as between
use Rattle.network_runs.proofs.AsNetwork.{own_word, lent_areas, shared_like, apart_same, network_same}

nest_of_lem : (bytes : List ℕ) (route : ℕ) → Bytes bytes → first_of (lines_for (route_of route) bytes) ≡ 0 → Accepted (nest_of bytes)
nest_of_lem bytes route small z = accepted bytes small (reads_for (route_of route) bytes z)

module _ (bytes : List ℕ) (route : ℕ) (source : List ℕ) (sources : Sources) (lent : AreasApart) (bg : Begun bytes route source sources lent) where
  abbrev p : Plan
  p = recipe bytes route

  pub so : Sound p
  so = sound (route_of route) (nest_of bytes) (nest_of_lem bytes route bg.small bg.accepted)

  pub long : (b : ℕ) → b < p.processors → length (sources b) ≡ p.cells
  long b h = (areas_are p (sources b) (lent b) (fresh_gave bytes route (sources b) (lent b) (bg.gave b h)).1).source

  -- each fresh start is the machine's
  pub start_is : (b : ℕ) → b < p.processors → start_calls bytes route sources lent b ≡ fresh p
  unfolding start_calls
  start_is b h = (demands.one bytes route (sources b) (lent b)).fresh.works (bg.gave b h)

  begins_for : {Q : ℕ → Type 0} → Together Q p source (fresh p) (start_apart p) → Together Q p source (fresh p) (start_calls bytes route sources lent)
  unfolding start_apart
  begins_for to = record { inv = to.inv; each = λ b h. rw (start_is b h) (to.each b h) }

  begins : Together Nothing p source (fresh p) (start_calls bytes route sources lent)
  begins = begins_for (start_together p source (λ m z. z))

  follows : Follows p source (fresh p) (start_network_calls bytes route sources lent)
  follows = let fo = start_follows p so source in record { to = begins_for fo.to; right = fo.right; once = fo.once }

  deliveries : (events : List Event)
      → Demand3Apart (calls_apart bytes route sources) (start_calls bytes route sources lent) events p source (calls bytes route source)
      (collect_call bytes route source)
  deliveries =
      demand3_apart p so source (calls_apart bytes route sources)
      (λ s a to. apart_same bytes route bg.accepted so source sources long bg.own a (together_fine p source s a to))
      (start_calls bytes route sources lent) begins (calls bytes route source) (collect_call bytes route source)
      (shared_like bytes route bg.accepted so source bg.whole)

  packets : (events : List NetworkEvent)
      → ByPackets (calls_network bytes route sources) (start_network_calls bytes route sources lent) events p (calls bytes route source) source
      (collect_call bytes route source)
  packets =
      by_packets p so source (calls_network bytes route sources)
      (λ s n fo. network_same bytes route bg.accepted so source sources long bg.own n (follows_fine p source s n fo))
      (start_network_calls bytes route sources lent) follows refl (calls bytes route source) (collect_call bytes route source)
      (shared_like bytes route bg.accepted so source bg.whole)

  parts : (events : List NetworkEvent)
      → PartRun p (calls_network bytes route sources) (start_network_calls bytes route sources lent) events
  parts =
      own_run p so (own_word (route_of route) (nest_of bytes)) source bg.whole (calls_network bytes route sources)
      (network_same bytes route bg.accepted so source sources long bg.own) (start_network_calls bytes route sources lent) follows

-- ---- which processors talk
module _ (bytes : List ℕ) (route : ℕ) (small : Bytes bytes) (z : first_of (lines_for (route_of route) bytes) ≡ 0) where
  pub away : (m : ℕ) → m < count (recipe bytes route) → sender_at (recipe bytes route) m ≢ taker_at (recipe bytes route) m
  away = between.goes_away (nest_of bytes) (nest_of_lem bytes route small z) (route_of route)

  next : route_of route ≡ Indirect → (m : ℕ) → m < count (recipe bytes route)
      → NextAlong (nest_of bytes) (sender_at (recipe bytes route) m) (taker_at (recipe bytes route) m)
  next e = go (route_of route) e
    where
      go : (r : Route) → r ≡ Indirect → (m : ℕ) → m < count (plan_of r (nest_of bytes))
          → NextAlong (nest_of bytes) (sender_at (plan_of r (nest_of bytes)) m) (taker_at (plan_of r (nest_of bytes)) m)
      go r q = rw q (between.next_along (nest_of bytes) (nest_of_lem bytes route small z))

-- ---- a turn is local, or refused alike whatever it is lent
module _ (bytes : List ℕ) (route : ℕ) where
  barred : first_of (lines_for (route_of route) bytes) ≢ 0 → (source : List ℕ) (s : State) (b : ℕ)
      → turn_call bytes route source s b ≡ record { number = first_of (lines_for (route_of route) bytes); after = s }
  unfolding turn_call
  barred n source s b =
      ap (λ (k : ℕ). answered k (carry_out (recipe bytes route) source s b (next_action (recipe bytes route) s b)) s)
      (first_some (lines_for (route_of route) bytes) (area_lines (recipe bytes route) source s ++ turn_lines (recipe bytes route) s b) n)
      ∙ some_answer _ _ s n

  turn_local : Bytes bytes → Local (recipe bytes route) (turn_call bytes route)
  turn_local small = go (ℕ_discrete (first_of (lines_for (route_of route) bytes)) 0)
    where
      go : Dec (first_of (lines_for (route_of route) bytes) ≡ 0) → Local (recipe bytes route) (turn_call bytes route)
      go (yes z) =
          local_as (recipe bytes route) _ _
          (local (recipe bytes route) (sound (route_of route) (nest_of bytes) (nest_of_lem bytes route small z)) (own_word (route_of route) (nest_of bytes)))
          (λ source s b le. turn_is bytes route source s z (lent_areas bytes route source s le) b)
      go (no n) = refusing_local (recipe bytes route) (turn_call bytes route) _ (barred n)

-- ---- a fresh start in areas of their lengths gives 0
module _ (bytes : List ℕ) (route : ℕ) (source : List ℕ) (small : Bytes bytes) (z : first_of (lines_for (route_of route) bytes) ≡ 0)
    (long : length source ≡ (recipe bytes route).cells) where
  fresh_lent : PlanLengths (recipe bytes route) source (fresh (recipe bytes route))
  fresh_lent =
      let sh = (inv_fresh (recipe bytes route) source).shape in
      record { source = long; memories = sh.memories; buffer = sh.buffer; progress = sh.progress; status = sh.status }

  fresh_gives : (fresh_call bytes route source (fresh (recipe bytes route))).number ≡ 0
  unfolding fresh_call
  fresh_gives =
      first_behind (lines_for (route_of route) bytes) (area_lines (recipe bytes route) source (fresh (recipe bytes route)))
      (numbered_for (route_of route) bytes) z
      ∙ first_false 9 _ [] (not-true (lent_areas bytes route source (fresh (recipe bytes route)) fresh_lent)) ∙ first_nil

  begun : Begun bytes route source (λ b. source) (λ b. fresh (recipe bytes route))
  begun =
      record {
        small = small;
        accepted = z;
        whole = long;
        own = λ b h t c l e i. refl;
        gave = λ b h. fresh_gives;
      }

pub apart_demands : ApartDemands
apart_demands =
    record {
      begins = begun;
      by_deliveries = deliveries;
      by_packets = packets;
      away = away;
      all_mailed = λ bytes route small z. between.mailed_all (recipe bytes route) (away bytes route small z);
      neighbours = λ bytes route small e z. next bytes route small z e;
      local = turn_local;
      own_part = λ bytes route small z.
          own_part (recipe bytes route) (sound (route_of route) (nest_of bytes) (nest_of_lem bytes route small z)) (turn_call bytes route)
          (turn_local bytes route small);
      by_parts = parts;
    }
