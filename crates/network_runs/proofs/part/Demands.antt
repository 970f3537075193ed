-- Runs on the processors' parts beside runs of the machine's network, event by event; and the parts put into one grid.
use Prim.Native.Nat.{ℕ, zero, suc, ◌≤◌, ◌<◌}
use mathlib.Core.Path.{◌≡◌, refl, sym, ap, ◌∙◌}
use mathlib.Core.Logic.{◌≢◌}
use mathlib.Core.Bool.{Bool, true, false}
use mathlib.Core.List.{List, [], ◌∷◌}
use native.Mathlib.Omega.{arith}
use native.Mathlib.Decide.{ℕ_discrete}
use lib.ListN.{length, get_or}
use borrow.Author.Tests.{eq-eqb}
use Rattle.base.specs.Tests.{pick, some, tabulate}
use Rattle.base.specs.Lists.{Bytes, pack}
use Rattle.base.specs.Numbers.{first_of}
use Rattle.base.proofs.Tests.{is_false, pick_true, pick_false, none_some, length_tabulate, tabulate_at, tabulate_same}
use Rattle.base.proofs.Numbers.{first_true}
use Rattle.machine.specs.Plan.{Plan, Sound}
use Rattle.machine.specs.Machine.{State, memory_of, tiles_left, fit, Answered, fresh, sweep}
use Rattle.machine.specs.Runs.{act, total, state_after, answers_to}
use Rattle.machine.proofs.Fresh.{inv_fresh}
use Rattle.nest.specs.Accepted.{Accepted}
use Rattle.nest.specs.Nest.{processors}
use Rattle.nest.specs.Reader.{nest_of}
use Rattle.nest.proofs.Facts.{accepted}
use Rattle.plan.proofs.ShapedSound.{sound}
use Rattle.layout.specs.RouteWords.{route_of}
use Rattle.layout.proofs.Dims.{product_pos}
use Rattle.recipe.specs.Routes.{lines_for}
use Rattle.recipe.proofs.Laws.{reads_for}
use Rattle.engine.specs.Calls.{recipe}
use Rattle.network.specs.Apart.{AreasApart, start_apart, assembled, collect_apart}
use Rattle.network.specs.Packets.{Network, NetworkEvent, act_network, start_network, machine_events, last_network, MachineByPackets}
use Rattle.network.specs.Locality.{PlanLengths, Keeps, ReadsOwnWord}
use Rattle.network.specs.Own.{owns, own_cells}
use Rattle.network.proofs.Network.{Follows, start_follows, event_steps}
use Rattle.network.proofs.PacketTheorem.{theorem_packets}
use Rattle.network.proofs.PartRuns.{lent_here, fit_here}
use Rattle.network.proofs.Own.{own_test, test_own}
use Rattle.network_runs.proofs.AsNetwork.{own_word}
use Rattle.network_runs.proofs.Demands.{apart_demands}
use Rattle.part.specs.Part.{part_fits}
use Rattle.part_calls.specs.front.Calls.{from_part, to_part, part_collected, part_collect_call}
use Rattle.network_runs.specs.part.Runs.{PartSources, part_start, acts_on_parts, collected_to}
use Rattle.network_runs.specs.part.Demands.{BegunApart, own_after, steps_taken, PartDemand3, PartDemands}
use Rattle.network_runs.proofs.part.OnePart.{part_fits_lem, fresh_gives, fresh_leaves, collect_on_part, own_word_in}
use Rattle.network_runs.proofs.part.Steps.{Parts, Likened, event_likened}

pub nest_of_lem : (bytes : List ℕ) (route : ℕ) → Bytes bytes → first_of (lines_for (route_of route) bytes) ≡ 0 → Accepted (nest_of bytes)
nest_of_lem bytes route small z = accepted bytes small (reads_for (route_of route) bytes z)

pub some_processor : (bytes : List ℕ) (route : ℕ) → Bytes bytes → first_of (lines_for (route_of route) bytes) ≡ 0 → 1 ≤ (recipe bytes route).processors
unfolding processors
some_processor bytes route small z = product_pos _ _ (nest_of_lem bytes route small z).manned

-- ---- the parts of areas put into one grid
module _ (bytes : List ℕ) (route : ℕ) (ok : first_of (lines_for (route_of route) bytes) ≡ 0) (so : Sound (recipe bytes route)) (source : List ℕ)
    (a o : AreasApart) (parts : Parts (recipe bytes route) a o)
    (lent : (b : ℕ) → b < (recipe bytes route).processors → PlanLengths (recipe bytes route) source (a b))
    (fits : (b : ℕ) → b < (recipe bytes route).processors → fit (recipe bytes route) (a b) ≡ true)
    (done : (b : ℕ) → b < (recipe bytes route).processors → tiles_left (recipe bytes route) (a b) b ≡ false) where
  abbrev p : Plan
  p = recipe bytes route

  abbrev owner : ℕ → ℕ
  owner c = p.processor_of (p.tile_of c)

  abbrev word : ℕ → ℕ
  word c = get_or (memory_of p (a (owner c)) (owner c)) c 0

  collects : (b : ℕ) (h : b < p.processors) (grid : List ℕ) → length grid ≡ p.cells
      → part_collect_call bytes route (o b) b grid ≡ record { number = 0; after = part_collected p b (to_part p b (a b)) grid }
  collects b h grid long = rw (parts b h) (collect_on_part bytes route ok b h source (a b) (lent b h) (fits b h) (done b h) grid long)

  grid_long : (n : ℕ) → n ≤ p.processors → (old : List ℕ) → length old ≡ p.cells → length (collected_to bytes route o old n) ≡ p.cells
  unfolding collected_to part_collected
  grid_long zero h old e = e
  grid_long (suc b) h old e =
      ap (λ (x : Answered (List ℕ)). length x.after) (collects b (omega arith) (collected_to bytes route o old b) (grid_long b (omega arith) old e))
      ∙ length_tabulate _ p.cells

  -- an own cell's word, and a word of another processor's
  owner_owns : (c : ℕ) → c < p.cells → p.inside c ≡ true → owns p (owner c) c ≡ true
  owner_owns c l i = test_own p (owner c) c (p.tile_of c) (so.tile_low c l i) refl (so.cell_in c l i)

  owns_is : (b c : ℕ) → owns p b c ≡ true → owner c ≡ b
  owns_is b c e = let k = own_test p b c e in rw (so.cell_of k.0 c k.1 k.3) k.2

  abbrev put_at : ℕ → List ℕ → ℕ → ℕ
  put_at b grid c = pick (p.inside c) (pick (owns p b c) (get_or (memory_of p (from_part p b (to_part p b (a b))) b) c 0) (get_or grid c 0)) p.boundary

  put_own : (b : ℕ) (h : b < p.processors) (grid : List ℕ) (c : ℕ) → c < p.cells → p.inside c ≡ true → owner c ≡ b → put_at b grid c ≡ word c
  put_own b h grid c l i e =
      pick_true _ _ _ i ∙ pick_true _ _ _ (rw (sym e) (owner_owns c l i))
      ∙ own_word_in p b h source (a b) (lent b h) c l (Keeps.own (p.tile_of c) (so.tile_low c l i) e (so.cell_in c l i))
      ∙ rw e refl

  put_other : (b : ℕ) (grid : List ℕ) (c : ℕ) → p.inside c ≡ true → owner c ≢ b → put_at b grid c ≡ get_or grid c 0
  put_other b grid c i n = pick_true _ _ _ i ∙ pick_false _ _ _ (is_false (λ e. n (owns_is b c e)))

  -- a cell of one of the first n
  there : (n : ℕ) → n ≤ p.processors → (old : List ℕ) → length old ≡ p.cells
      → (c : ℕ) → c < p.cells → p.inside c ≡ true → owner c < n → get_or (collected_to bytes route o old n) c 0 ≡ word c
  unfolding collected_to part_collected
  there zero h old e c l i k = absurd (omega arith)
  there (suc b) h old e c l i k =
      ap (λ (x : Answered (List ℕ)). get_or x.after c 0)
      (collects b (omega arith) (collected_to bytes route o old b) (grid_long b (omega arith) old e))
      ∙ tabulate_at _ p.cells c l ∙ go (ℕ_discrete (owner c) b) (there b (omega arith) old e c l i)
    where
      go : Dec (owner c ≡ b) → (owner c < b → get_or (collected_to bytes route o old b) c 0 ≡ word c)
          → put_at b (collected_to bytes route o old b) c ≡ word c
      go (yes q) before = put_own b (omega arith) (collected_to bytes route o old b) c l i q
      go (no q) before = put_other b (collected_to bytes route o old b) c i q ∙ before (omega arith)

  module _ (old : List ℕ) (long : length old ≡ p.cells) where
    at_last : (b : ℕ) → suc b ≡ p.processors → (c : ℕ) → c < p.cells → (i : Bool) → p.inside c ≡ i
        → put_at b (collected_to bytes route o old b) c ≡ pick (p.inside c) (word c) p.boundary
    at_last b e c l true i = go (ℕ_discrete (owner c) b) ∙ sym (pick_true _ _ _ i)
      where
        low : owner c < p.processors
        low = so.processor_low (p.tile_of c) (so.tile_low c l i)

        go : Dec (owner c ≡ b) → put_at b (collected_to bytes route o old b) c ≡ word c
        go (yes q) = put_own b (omega arith) (collected_to bytes route o old b) c l i q
        go (no q) = put_other b (collected_to bytes route o old b) c i q ∙ there b (omega arith) old long c l i (omega (arith, low, e))
    at_last b e c l false i = pick_false _ _ _ i ∙ sym (pick_false _ _ _ i)

    pub all_there : (n : ℕ) → n ≡ p.processors → 1 ≤ n → collected_to bytes route o old n ≡ assembled p a
    unfolding collected_to part_collected assembled
    all_there zero e h = absurd (omega arith)
    all_there (suc b) e h =
        ap (λ (x : Answered (List ℕ)). x.after) (collects b (omega arith) (collected_to bytes route o old b) (grid_long b (omega arith) old long))
        ∙ tabulate_same _ _ p.cells (λ c l. at_last b e c l (p.inside c) refl)

-- ---- runs
module _ (bytes : List ℕ) (route : ℕ) (source : List ℕ) (sources : PartSources) (lent : AreasApart) (bg : BegunApart bytes route source sources lent) where
  abbrev plan : Plan
  plan = recipe bytes route

  pub so : Sound plan
  so = sound (route_of route) (nest_of bytes) (nest_of_lem bytes route bg.small bg.accepted)

  reads_own : ReadsOwnWord plan
  reads_own = own_word (route_of route) (nest_of bytes)

  record Relates (s : State) (n o : Network) : Type 0 where
    follows : Follows plan source s n
    packets : o.packets ≡ n.packets
    parts : Parts plan n.areas o.areas

  starts : Relates (fresh plan) (start_network plan) (part_start bytes route lent)
  unfolding part_start start_apart
  starts =
      record {
        follows = start_follows plan so source;
        packets = refl;
        parts = λ b h. fresh_leaves bytes route bg.accepted b h (lent b) (bg.gave b h);
      }

  module _ (s : State) (n o : Network) (re : Relates s n o) where
    likened : (e : NetworkEvent) → Likened plan (acts_on_parts bytes route sources o e) (act_network plan source n e)
    likened =
        event_likened bytes route bg.accepted so reads_own
        (apart_demands.away bytes route bg.small bg.accepted) source bg.whole sources bg.own s n o re.follows re.packets re.parts

    next : (e : NetworkEvent)
        → Relates (state_after (act plan source) s (machine_events plan n e (act_network plan source n e).number)) (act_network plan source n e).after
        (acts_on_parts bytes route sources o e).after
    next e =
        record {
          follows = (event_steps plan so source s n re.follows e).follows;
          packets = (likened e).packets;
          parts = (likened e).parts;
        }

  ends : (es : List NetworkEvent) (s : State) (n o : Network) → Relates s n o
      → (t : State) × Relates t (state_after (act_network plan source) n es) (state_after (acts_on_parts bytes route sources) o es)
  unfolding state_after
  ends [] s n o re = (s, re)
  ends (e ∷ es) s n o re = ends es _ _ _ (next s n o re e)

  same_all : (es : List NetworkEvent) (s : State) (n o : Network) → Relates s n o
      → answers_to (acts_on_parts bytes route sources) o es ≡ answers_to (act_network plan source) n es
  unfolding answers_to
  same_all [] s n o re = refl
  same_all (e ∷ es) s n o re =
      let a = (likened s n o re e).number in
      let b = same_all es _ _ _ (next s n o re e) in
      cc

  module _ (events : List NetworkEvent) where
    abbrev reached : (t : State) × Relates t (last_network plan source events) (own_after bytes route source sources lent events)
    reached = ends events (fresh plan) (start_network plan) (part_start bytes route lent) starts

    abbrev there_areas : AreasApart
    there_areas = (last_network plan source events).areas

    known : MachineByPackets plan source events
    known = theorem_packets plan so source events

    lent_there : (b : ℕ) → b < plan.processors → PlanLengths plan source (there_areas b)
    lent_there = lent_here plan so reads_own source bg.whole reached.0 (last_network plan source events) reached.1.follows

    fit_there : (b : ℕ) → b < plan.processors → fit plan (there_areas b) ≡ true
    fit_there = fit_here plan so reads_own source bg.whole reached.0 (last_network plan source events) reached.1.follows

    module _ (all : steps_taken bytes route source sources lent events ≡ total plan) where
      none_left : some (λ b. tiles_left plan (there_areas b) b) plan.processors ≡ false
      unfolding collect_apart
      none_left =
          is_false (λ e. let z = known.collecting.can_collect all (tabulate (λ c. 0) plan.cells) (length_tabulate (λ c. 0) plan.cells) in
          omega (arith, sym (first_true 15 _ [] e) ∙ z))

      done_there : (b : ℕ) → b < plan.processors → tiles_left plan (there_areas b) b ≡ false
      done_there = none_some (λ b. tiles_left plan (there_areas b) b) plan.processors none_left

      after_is : (old : List ℕ) → length old ≡ plan.cells → (collect_apart plan there_areas old).after ≡ assembled plan there_areas
      unfolding collect_apart
      after_is old long = pick_true _ _ _ (eq-eqb _ 0 (known.collecting.can_collect all old long))

      grid_is : (old : List ℕ) → length old ≡ plan.cells
          → collected_to bytes route (own_after bytes route source sources lent events).areas old plan.processors ≡ sweep plan source
      grid_is old long =
          all_there bytes route bg.accepted so source there_areas (own_after bytes route source sources lent events).areas reached.1.parts lent_there
          fit_there done_there old long plan.processors refl (some_processor bytes route bg.small bg.accepted)
          ∙ sym (after_is old long) ∙ known.collecting.grid all old long

    holds : PartDemand3 bytes route source sources lent events
    holds =
        record {
          same_answers = same_all events (fresh plan) (start_network plan) (part_start bytes route lent) starts;
          same_packets = reached.1.packets;
          by_packets = known;
          same_parts = reached.1.parts;
          each_collects = λ all b h grid long.
              ap (λ (x : Answered (List ℕ)). x.number)
              (collects bytes route bg.accepted so source there_areas (own_after bytes route source sources lent events).areas reached.1.parts lent_there
              fit_there (done_there all) b h grid long);
          grid = grid_is;
        }

-- ---- every accepted recipe can so begin
module _ (bytes : List ℕ) (route : ℕ) (source : List ℕ) (small : Bytes bytes) (z : first_of (lines_for (route_of route) bytes) ≡ 0)
    (long : length source ≡ (recipe bytes route).cells) where
  begun : (lent : AreasApart) → ((b : ℕ) → b < (recipe bytes route).processors → part_fits (recipe bytes route) b (lent b) ≡ true)
      → BegunApart bytes route source (λ b. pack source (own_cells (recipe bytes route) b)) lent
  begun lent fits =
      record {
        small = small;
        accepted = z;
        whole = long;
        own = λ b h. refl;
        gave = λ b h. fresh_gives bytes route z b h (lent b) (fits b h);
      }

  fresh_lent : PlanLengths (recipe bytes route) source (fresh (recipe bytes route))
  fresh_lent =
      let sh = (inv_fresh (recipe bytes route) source).shape in
      record { source = long; memories = sh.memories; buffer = sh.buffer; progress = sh.progress; status = sh.status }

  fresh_fits : (b : ℕ) → b < (recipe bytes route).processors
      → part_fits (recipe bytes route) b (to_part (recipe bytes route) b (fresh (recipe bytes route))) ≡ true
  fresh_fits b h = part_fits_lem (recipe bytes route) b h source (fresh (recipe bytes route)) fresh_lent

pub own_demands : PartDemands
own_demands = record { begins = begun; can_fit = fresh_fits; by_own_parts = holds }
