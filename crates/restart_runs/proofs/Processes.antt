-- The calls of processes that are one processor at the same time answer, event by event, as crate restarts has it on the recipe's plan.
use Prim.Native.Nat.{ℕ, ◌<◌}
use mathlib.Core.Path.{◌≡◌, refl, sym, ap, ◌∙◌}
use mathlib.Core.Logic.{◌≢◌}
use mathlib.Core.Bool.{true}
use mathlib.Core.List.{List, [], ◌++◌, append-nil}
use native.Mathlib.Omega.{arith}
use native.Mathlib.Decide.{ℕ_discrete}
use lib.ListN.{length, length-set, length-map}
use lib.Dec.{eqb}
use borrow.Author.Tests.{eq-eqb, ne_eqb}
use Rattle.base.specs.Tests.{pick}
use Rattle.base.specs.Lists.{Bytes}
use Rattle.base.specs.Numbers.{first_of}
use Rattle.base.proofs.Tests.{not-true, pick_true, pick_false}
use Rattle.base.proofs.Lists.{length_put}
use Rattle.base.proofs.Numbers.{first_false}
use Rattle.machine.specs.Plan.{Plan, Sound, count, held_by}
use Rattle.machine.specs.Machine.{State, Answered, answered, deliver, fresh}
use Rattle.machine.proofs.Progress.{Shape}
use Rattle.machine.proofs.Fresh.{inv_fresh}
use Rattle.nest.specs.Reader.{nest_of}
use Rattle.nest.proofs.Facts.{accepted}
use Rattle.plan.proofs.ShapedSound.{sound}
use Rattle.layout.specs.RouteWords.{route_of}
use Rattle.recipe.specs.Routes.{lines_for}
use Rattle.recipe.proofs.Laws.{reads_for}
use Rattle.network.specs.Apart.{AreasApart, replaced, marked, received}
use Rattle.network.specs.Transport.{copied}
use Rattle.network.specs.Packets.{Packet, Network, network_of, packet_at}
use Rattle.network.proofs.Letters.{words_fit}
use Rattle.network.proofs.Network.{zero_answer, some_answer}
use Rattle.network.proofs.Transport.{copied_both}
use Rattle.network.proofs.Locality.{source_same}
use Rattle.engine.specs.Calls.{recipe, areas, fresh_call, deliver_call}
use Rattle.engine.proofs.Lines.{areas_are}
use Rattle.engine.proofs.AsSteps.{fresh_gave, turn_is, deliver_is}
use Rattle.network_runs.specs.Calls.{Sources}
use Rattle.network_runs.proofs.AsNetwork.{own_word, lent_areas, shape_areas}
use Rattle.restarts.specs.Processes.{Roles, ProcessEvent, start_of, turn_from, post_from, repost_from, arrival_at, posted_from, post_from_lines, arrival_at_lines}
use Rattle.restarts.specs.Processes.{act_process, ByProcesses}
use Rattle.restarts.proofs.Life.{fresh_lives, life_fit}
use Rattle.restarts.proofs.Lives.{replaced_own}
use Rattle.restarts.proofs.Processes.{Several, arrival_asked, by_processes}
use Rattle.restart_runs.specs.Processes.{calls_process, start_processes, BegunProcesses, ProcessDemands}
use Rattle.restart_runs.proofs.Demands.{fresh_clean}

module _ (bytes : List ℕ) (route : ℕ) (source : List ℕ) (role : Roles) (sources : Sources) (lent : AreasApart)
    (bg : BegunProcesses bytes route source role sources lent) where
  abbrev p : Plan
  p = recipe bytes route

  so : Sound p
  so = sound (route_of route) (nest_of bytes) (accepted bytes bg.small (reads_for (route_of route) bytes bg.accepted))

  lengths : (q : ℕ) → areas p (sources q) (lent q) ≡ true
  lengths q = (fresh_gave bytes route (sources q) (lent q) (bg.gave q)).1

  long : (q : ℕ) → length (sources q) ≡ p.cells
  long q = (areas_are p (sources q) (lent q) (lengths q)).source

  start_is : (q : ℕ) → (fresh_call bytes route (sources q) (lent q)).after ≡ fresh p
  start_is q = ap (λ (x : Answered State). x.after) (fresh_clean bytes route bg.accepted (sources q) (lent q) (lengths q))

  begins : Several p source role (start_processes bytes route sources lent)
  begins = record { each = λ q. rw (start_is q) (fresh_lives p source (role q)); right = λ k h. absurd (omega arith) }

  module _ (n : Network) (se : Several p source role n) (q : ℕ) where
    abbrev s : State
    s = n.areas q

    sh : Shape p s
    sh = (se.each q).held.shape

    here : areas p (sources q) s ≡ true
    here = shape_areas bytes route bg.accepted so (sources q) s (long q) sh

    -- what a call on the process's own areas leaves of the network
    abbrev by : Answered State → Answered Network
    by x = record { number = x.number; after = network_of (replaced n.areas q x.after) n.packets }

    start_same : calls_process bytes route sources role n (start_of q) ≡ act_process p source role n (start_of q)
    unfolding calls_process act_process
    start_same = ap by (fresh_clean bytes route bg.accepted (sources q) s here)

    turn_same : calls_process bytes route sources role n (turn_from q) ≡ act_process p source role n (turn_from q)
    unfolding calls_process act_process
    turn_same =
        ap by (turn_is bytes route (sources q) s bg.accepted here (role q)
        ∙ source_same p (own_word (route_of route) (nest_of bytes)) (sources q) source s (role q) (bg.own q))

    -- ---- a post
    module _ (m : ℕ) where
      unfoldable left : Answered State → Answered Network
      left x =
          record {
            number = x.number;
            after = network_of (replaced n.areas q x.after) (n.packets ++ pick (eqb x.number 0) (posted_from p s m) []);
          }

      -- the delivery call without line 10
      delivers : deliver_call bytes route (sources q) s m ≡ answered (first_of (post_from_lines p n q m)) (marked s m) s
      unfolding deliver
      delivers =
          deliver_is bytes route (sources q) s bg.accepted here m
          ∙ ap (λ (k : ℕ). answered k (marked s m) s) (first_false 10 _ _ (not-true (life_fit p source (role q) s (se.each q))))

      stays : (x : ℕ) → x ≢ 0 → left (record { number = x; after = s }) ≡ record { number = x; after = n }
      unfolding left
      stays x z = rw (replaced_own n.areas q, pick_false (eqb x 0) (posted_from p s m) [] (ne_eqb x 0 z), append-nil n.packets) refl

      post_as : left (answered (first_of (post_from_lines p n q m)) (marked s m) s) ≡ act_process p source role n (post_from q m)
      unfolding left act_process
      post_as = go (ℕ_discrete (first_of (post_from_lines p n q m)) 0)
        where
          go : Dec (first_of (post_from_lines p n q m) ≡ 0) → left (answered (first_of (post_from_lines p n q m)) (marked s m) s)
              ≡ answered (first_of (post_from_lines p n q m)) (network_of (replaced n.areas q (marked s m)) (n.packets ++ posted_from p s m)) n
          go (yes z) =
              ap left (zero_answer _ (marked s m) s z)
              ∙ ap (λ (l : List Packet). record { number = 0; after = network_of (replaced n.areas q (marked s m)) (n.packets ++ l) })
              (pick_true (eqb 0 0) (posted_from p s m) [] (eq-eqb 0 0 refl))
              ∙ sym (zero_answer _ (network_of (replaced n.areas q (marked s m)) (n.packets ++ posted_from p s m)) n z)
          go (no k) =
              ap left (some_answer _ (marked s m) s k) ∙ stays _ k
              ∙ sym (some_answer _ (network_of (replaced n.areas q (marked s m)) (n.packets ++ posted_from p s m)) n k)

      post_same : calls_process bytes route sources role n (post_from q m) ≡ act_process p source role n (post_from q m)
      unfolding calls_process left
      post_same = ap left delivers ∙ post_as

    -- ---- an arrival
    module _ (k : ℕ) where
      abbrev m : ℕ
      m = (packet_at n.packets k).message

      abbrev ws : List ℕ
      ws = (packet_at n.packets k).words

      takes : m < count p → length ws ≡ length (held_by p m) → deliver_call bytes route (sources q) (copied p s m ws) m
          ≡ record { number = 0; after = received p s m ws }
      takes lo e =
          deliver_is bytes route (sources q) (copied p s m ws) bg.accepted
          (lent_areas bytes route (sources q) (copied p s m ws)
          (record {
            source = long q;
            memories = sh.memories;
            buffer = length_put s.buffer _ ws (words_fit p s.buffer m ws sh.buffer lo e) ∙ sh.buffer;
            progress = sh.progress;
            status = length-set s.status m 1 ∙ sh.status;
          })) m
          ∙ copied_both p s m ws lo sh (se.each q).held.statuses.high e

      arrival_same : calls_process bytes route sources role n (arrival_at q k) ≡ act_process p source role n (arrival_at q k)
      unfolding calls_process act_process
      arrival_same = go (ℕ_discrete (first_of (arrival_at_lines p role n q k)) 0)
        where
          go : Dec (first_of (arrival_at_lines p role n q k) ≡ 0)
              → pick (eqb (first_of (arrival_at_lines p role n q k)) 0) (by (deliver_call bytes route (sources q) (copied p s m ws) m))
              (record { number = first_of (arrival_at_lines p role n q k); after = n })
              ≡ answered (first_of (arrival_at_lines p role n q k)) (network_of (replaced n.areas q (received p s m ws)) n.packets) n
          go (yes z) =
              let a = arrival_asked p so source role n se q k z in
              let c = se.right k a.0 in
              pick_true _ _ _ (eq-eqb _ 0 z) ∙ ap by (takes c.low (ap length c.words ∙ length-map (held_by p m) _))
              ∙ sym (zero_answer _ _ n z)
          go (no x) = pick_false _ _ _ (ne_eqb _ 0 x) ∙ sym (some_answer _ _ n x)

  repost_same : (n : Network) (q m : ℕ) → calls_process bytes route sources role n (repost_from q m) ≡ act_process p source role n (repost_from q m)
  unfolding calls_process act_process
  repost_same n q m = refl

  same : (n : Network) → Several p source role n → (e : ProcessEvent) → calls_process bytes route sources role n e ≡ act_process p source role n e
  same n se (start_of q) = start_same n se q
  same n se (turn_from q) = turn_same n se q
  same n se (post_from q m) = post_same n se q m
  same n se (repost_from q m) = repost_same n q m
  same n se (arrival_at q k) = arrival_same n se q k

  processes : (events : List ProcessEvent)
      → ByProcesses (calls_process bytes route sources role) (start_processes bytes route sources lent) events p source role
  processes events = by_processes p so source role (calls_process bytes route sources role) same (start_processes bytes route sources lent) begins events

-- every accepted recipe can so begin
begun : (bytes : List ℕ) (route : ℕ) (source : List ℕ) (role : Roles) → Bytes bytes → first_of (lines_for (route_of route) bytes) ≡ 0
    → length source ≡ (recipe bytes route).cells → BegunProcesses bytes route source role (λ q. source) (λ q. fresh (recipe bytes route))
begun bytes route source role small ok long =
    record {
      small = small;
      accepted = ok;
      own = λ q t c l e i. refl;
      gave = λ q. ap (λ (x : Answered State). x.number)
          (fresh_clean bytes route ok source (fresh (recipe bytes route))
          (let sh = (inv_fresh (recipe bytes route) source).shape in
          lent_areas bytes route source (fresh (recipe bytes route))
          (record { source = long; memories = sh.memories; buffer = sh.buffer; progress = sh.progress; status = sh.status })));
    }

pub process_demands : ProcessDemands
process_demands = record { begins = begun; by_processes = processes }
