-- The calls on the processors' own areas answer, event by event, as crate network's processors on the recipe's plan, while these agree with the machine.
use Prim.Native.Nat.{ℕ, ◌≤◌, ◌<◌}
use mathlib.Core.Path.{◌≡◌, refl, sym, ap, ◌∙◌, fun_ext}
use mathlib.Core.Logic.{◌≢◌}
use mathlib.Core.Bool.{true}
use mathlib.Core.List.{List, [], ◌∷◌, ◌++◌, append-nil}
use native.Mathlib.Decide.{dec_lt, ℕ_discrete}
use native.Mathlib.Omega.{arith}
use lib.ListN.{length, length-set}
use lib.Dec.{ltb, eqb}
use borrow.Author.Tests.{eq-eqb, ne_eqb, lt-ltb, le-ltb}
use Rattle.base.specs.Tests.{◌and◌, not, pick}
use Rattle.base.specs.Numbers.{line, first_of}
use Rattle.base.proofs.Tests.{and_true, and_false, and_no, not-true, not-false, pick_true, pick_false}
use Rattle.base.proofs.Lists.{part_length, length_put}
use Rattle.base.proofs.Numbers.{first_false, first_true, first_behind}
use Rattle.machine.specs.Plan.{Plan, Sound, count, sender_of, taker_of, held_by, offset}
use Rattle.machine.specs.Machine.{State, place_of, fit, Answered, answered, turn, deliver, collect_lines, collect, collected}
use Rattle.machine.specs.Runs.{Event, turn_of, delivery_of}
use Rattle.machine.proofs.Values.{offset_apart}
use Rattle.machine.proofs.Progress.{Shape}
use Rattle.machine.proofs.Invariant.{sender_low}
use Rattle.machine.proofs.RunLaws.{after_of}
use Rattle.plan.specs.declared.Route.{Route}
use Rattle.plan.specs.declared.Route.TheVariants.{Direct, Indirect}
use Rattle.nest.specs.declared.Nest.{Nest}
use Rattle.nest.specs.Reader.{nest_of}
use Rattle.plan.specs.Geometry.{value}
use Rattle.plan.specs.Shaped.{shaped_value, plan_of}
use Rattle.layout.specs.RouteWords.{route_of}
use Rattle.recipe.specs.Routes.{lines_for}
use Rattle.recipe.proofs.Laws.{numbered_for}
use Rattle.network.specs.Apart.{AreasApart, replaced, sender_at, taker_at, marked, received, sent_off, arrived, carried, turn_apart, deliver_apart, act_apart}
use Rattle.network.specs.Transport.{copied}
use Rattle.network.specs.Packets.{Packet, Network, network_of, packet_at, NetworkEvent, turn_by, post_of, arrival_of, posted, post, arrival_lines, arrive}
use Rattle.network.specs.Packets.{turn_network, act_network}
use Rattle.network.specs.Locality.{PlanLengths, SameSource, ReadsOwnWord}
use Rattle.network.proofs.Letters.{replaced_same, replaced_other, replaced_own, words_fit}
use Rattle.network.proofs.Transport.{both_parts, copied_both, carried_home, carried_third, deliver_goes, deliver_after, deliver_stays, same_number}
use Rattle.network.proofs.Network.{some_answer, post_zero, post_some, arrive_zero, arrive_some, arrive_asks}
use Rattle.network.proofs.Fine.{Fine, FineNetwork, fine_fit}
use Rattle.network.proofs.Alike.{SharedLike}
use Rattle.network.proofs.Locality.{source_same}
use Rattle.engine.specs.Calls.{recipe, areas, turn_call, deliver_call, collect_call}
use Rattle.engine.specs.Demands.{calls}
use Rattle.engine.proofs.AsSteps.{turn_is, deliver_is, collect_is}
use Rattle.engine.proofs.AsRuns as runs
use Rattle.network_runs.specs.Calls.{Sources, turn_by_call, hands_over, takes_in, taken_in, deliver_by_calls, calls_apart, post_by_call, arrive_by_call}
use Rattle.network_runs.specs.Calls.{calls_network}

-- a value reads of the source its own cell's word
pub own_word : (r : Route) (x : Nest) → ReadsOwnWord (plan_of r x)
unfolding shaped_value value
own_word Direct x source source' memory c e = rw e refl
own_word Indirect x source source' memory c e = rw e refl

-- ---- answers on areas
deliver_refused : (p : Plan) (r : State) (m : ℕ) → (deliver p r m).number ≢ 0 → deliver p r m ≡ record { number = (deliver p r m).number; after = r }
unfolding deliver
deliver_refused p r m n = some_answer _ _ _ n

answer_is : {A : Type 0} (x : Answered A) (k : ℕ) (r : A) → x.number ≡ k → x.after ≡ r → x ≡ record { number = k; after = r }
answer_is {A} x k r e f = number_part x.number e ∙ ap (λ (y : A). record { number = k; after = y }) f
  where
    number_part : (i : ℕ) → i ≡ k → ◌≡◌ {A = Answered A} (record { number = i; after = x.after }) (record { number = k; after = x.after })
    number_part i q = rw q

sent_other : (p : Plan) (a : AreasApart) (m c : ℕ) → c ≢ sender_at p m → sent_off p a m c ≡ a c
unfolding sent_off
sent_other p a m c n = replaced_other a (sender_at p m) _ c n

-- ---- numbers that are no message's
module _ (p : Plan) where
  none_apart : (a : AreasApart) (m : ℕ) → count p ≤ m → deliver_apart p a m ≡ record { number = 11; after = a }
  unfolding deliver_apart
  none_apart a m h =
      ap (λ (k : ℕ). answered k (carried p a m) a) (first_true 11 _ _ (not-false (le-ltb m (count p) h))) ∙ some_answer 11 _ _ (λ z. omega arith)

  none_network : (n : Network) (m : ℕ) → count p ≤ m → post p n m ≡ record { number = 11; after = n }
  unfolding post
  none_network n m h =
      ap (λ (k : ℕ). answered k (network_of (sent_off p n.areas m) (n.packets ++ posted p n.areas m)) n)
      (first_true 11 _ _ (not-false (le-ltb m (count p) h)))
      ∙ some_answer 11 _ _ (λ z. omega arith)

module _ (bytes : List ℕ) (route : ℕ) (sources : Sources) where
  none_here : (a : AreasApart) (m : ℕ) → count (recipe bytes route) ≤ m → deliver_by_calls bytes route sources a m ≡ record { number = 11; after = a }
  unfolding deliver_by_calls
  none_here a m h = pick_false _ _ _ (le-ltb m (count (recipe bytes route)) h)

  none_post : (n : Network) (m : ℕ) → count (recipe bytes route) ≤ m → post_by_call bytes route sources n m ≡ record { number = 11; after = n }
  unfolding post_by_call
  none_post n m h = pick_false _ _ _ (le-ltb m (count (recipe bytes route)) h)

pub lent_areas : (bytes : List ℕ) (route : ℕ) (source : List ℕ) (s : State) → PlanLengths (recipe bytes route) source s → areas (recipe bytes route) source s ≡
    true
unfolding areas
lent_areas bytes route source s le =
    and_true (eq-eqb _ _ le.source)
    (and_true (eq-eqb _ _ le.memories)
    (and_true (eq-eqb _ _ le.buffer) (and_true (eq-eqb _ _ le.progress) (eq-eqb _ _ le.status))))

module _ (bytes : List ℕ) (route : ℕ) (ok : first_of (lines_for (route_of route) bytes) ≡ 0) (so : Sound (recipe bytes route)) where
  abbrev p : Plan
  p = recipe bytes route

  -- ---- areas of their lengths
  module _ (input : List ℕ) (s : State) (long : length input ≡ p.cells) (sh : Shape p s) where
    pub shape_areas : areas p input s ≡ true
    shape_areas =
        lent_areas bytes route input s
        (record { source = long; memories = sh.memories; buffer = sh.buffer; progress = sh.progress; status = sh.status })

    -- and with a message's words and status 1 copied in
    copied_areas : (m : ℕ) (ws : List ℕ) → m < count p → length ws ≡ length (held_by p m) → areas p input (copied p s m ws) ≡ true
    copied_areas m ws lo e =
        lent_areas bytes route input (copied p s m ws)
        (record {
          source = long;
          memories = sh.memories;
          buffer = length_put s.buffer _ ws (words_fit p s.buffer m ws sh.buffer lo e) ∙ sh.buffer;
          progress = sh.progress;
          status = length-set s.status m 1 ∙ sh.status;
        })

  -- ---- the same calls on shared areas
  module _ (source : List ℕ) (long : length source ≡ p.cells) where
    too_long : (s : State) (grid : List ℕ) → length grid ≢ p.cells → collect_call bytes route source s grid ≡ record { number = 9; after = grid }
    unfolding collect_call
    too_long s grid n = ap (λ (k : ℕ). answered k (collected p s) grid) nine ∙ some_answer 9 _ _ (λ z. omega arith)
      where
        nine : first_of (lines_for (route_of route) bytes
            ++ (line 9 (not (areas p source s and eqb (length grid) p.cells)) ∷ collect_lines p s)) ≡ 9
        nine =
            first_behind (lines_for (route_of route) bytes) _ (numbered_for (route_of route) bytes) ok
            ∙ first_true 9 _ _ (not-false (and_no (areas p source s) _ (ne_eqb _ _ n)))

    joining : (s j : State) → Shape p s → Shape p j → ((grid : List ℕ) → collect p j grid ≡ collect p s grid) → (grid : List ℕ)
        → collect_call bytes route source j grid ≡ collect_call bytes route source s grid
    joining s j x y same grid = go (ℕ_discrete (length grid) p.cells)
      where
        go : Dec (length grid ≡ p.cells) → collect_call bytes route source j grid ≡ collect_call bytes route source s grid
        go (yes e) =
            collect_is bytes route source j ok (shape_areas source j long y) grid e ∙ same grid
            ∙ sym (collect_is bytes route source s ok (shape_areas source s long x) grid e)
        go (no n) = too_long j grid n ∙ sym (too_long s grid n)

    pub shared_like : SharedLike p source (calls bytes route source) (collect_call bytes route source)
    shared_like =
        record {
          events = runs.same bytes route source ok so long;
          collecting = λ s inv grid e. collect_is bytes route source s ok (shape_areas source s long inv.shape) grid e;
          joining = joining;
          demand = runs.run_demand3 bytes route source ok so long;
        }

  -- ---- the processors' own: each source has its processor's words of the whole one
  module _ (source : List ℕ) (sources : Sources) (long : (b : ℕ) → b < p.processors → length (sources b) ≡ p.cells)
      (own : (b : ℕ) → b < p.processors → SameSource p b (sources b) source) where
    module _ (a : AreasApart) (fine : Fine p a) where
      -- ---- a turn
      pub turn_as : (b : ℕ) → b < p.processors → turn_call bytes route (sources b) (a b) b ≡ turn p source (a b) b
      turn_as b h =
          turn_is bytes route (sources b) (a b) ok (shape_areas (sources b) (a b) (long b h) (fine.shape b h)) b
          ∙ source_same p (own_word (route_of route) (nest_of bytes)) (sources b) source (a b) b (own b h)

      pub turn_same : (b : ℕ) → turn_by_call bytes route sources a b ≡ turn_apart p source a b
      unfolding turn_by_call turn_apart
      turn_same b = go (dec_lt b p.processors)
        where
          go : Dec (b < p.processors) → turn_by_call bytes route sources a b ≡ turn_apart p source a b
          go (yes h) =
              ap (λ (x : Answered State). pick (ltb b p.processors) (record { number = x.number; after = replaced a b x.after })
              (record { number = 11; after = a })) (turn_as b h)
          go (no n) =
              let f = le-ltb b p.processors (omega arith) in
              pick_false _ _ _ f ∙ sym (pick_false _ _ _ f)

      -- ---- message m
      module _ (m : ℕ) (lo : m < count p) where
        abbrev from : ℕ
        from = sender_at p m

        abbrev to' : ℕ
        to' = taker_at p m

        from_low : from < p.processors
        from_low = so.processor_low (sender_of p m) (sender_low p so m lo)

        to_low : to' < p.processors
        to_low = so.processor_low (taker_of p m) (so.taker_low m lo)

        hands_as : hands_over bytes route sources a m ≡ deliver p (a from) m
        hands_as = deliver_is bytes route (sources from) (a from) ok (shape_areas (sources from) (a from) (long from from_low) (fine.shape from from_low)) m

        fit_from : fit p (a from) ≡ true
        fit_from = fine_fit p a fine from from_low

        -- the taker's side on words of the message's length
        takes_as : (ws : List ℕ) → length ws ≡ length (held_by p m)
            → takes_in bytes route sources a m ws ≡ record { number = 0; after = received p (a to') m ws }
        takes_as ws e =
            deliver_is bytes route (sources to') (copied p (a to') m ws) ok
            (copied_areas (sources to') (a to') (long to' to_low) (fine.shape to' to_low) m ws lo e) m
            ∙ copied_both p (a to') m ws lo (fine.shape to' to_low) (fine.high to' to_low) e

        gone : (deliver p (a from) m).number ≡ 0 → deliver p (a from) m ≡ record { number = 0; after = marked (a from) m }
        gone z = both_parts (deliver p (a from) m) (marked (a from) m) z (deliver_goes p (a from) m z)

        place_long : length (place_of p (a from).buffer m) ≡ length (held_by p m)
        place_long =
            part_length (a from).buffer (offset p.messages m) (length (held_by p m))
            (rw (fine.shape from from_low).buffer (offset_apart p.messages m (count p) lo lo))

    -- ---- delivery as one event
    module _ (a : AreasApart) (fine : Fine p a) where
      module _ (m : ℕ) (lo : m < count p) where
        abbrev ws : List ℕ
        ws = place_of p (a (sender_at p m)).buffer m

        -- what the two calls leave, by the first one's answer
        unfoldable left : Answered State → Answered AreasApart
        left x =
            record {
              number = x.number;
              after = pick (eqb x.number 0 and not (eqb (sender_at p m) (taker_at p m)))
                  (taken_in bytes route sources (replaced a (sender_at p m) x.after) m ws) (replaced a (sender_at p m) x.after);
            }

        by_left : deliver_by_calls bytes route sources a m ≡ left (deliver p (a (sender_at p m)) m)
        unfolding deliver_by_calls left
        by_left = pick_true _ _ _ (lt-ltb m (count p) lo) ∙ ap left (hands_as a fine m lo)

        number_as : (deliver p (a (sender_at p m)) m).number ≡ (deliver_apart p a m).number
        number_as = same_number p a m (fit_from a fine m lo)

        -- carried home: its own words put back
        home_as : sender_at p m ≡ taker_at p m → sent_off p a m ≡ carried p a m
        unfolding sent_off
        home_as e = fun_ext (λ c. go c (ℕ_discrete c (sender_at p m)))
          where
            go : (c : ℕ) → Dec (c ≡ sender_at p m) → replaced a (sender_at p m) (marked (a (sender_at p m)) m) c ≡ carried p a m c
            go c (yes q) =
                replaced_same a (sender_at p m) (marked (a (sender_at p m)) m) c q
                ∙ sym (carried_home p a m e (fine.shape (sender_at p m) (from_low a fine m lo)).buffer lo)
                ∙ ap (carried p a m) (sym q)
            go c (no n) =
                replaced_other a (sender_at p m) (marked (a (sender_at p m)) m) c n ∙ sym (carried_third p a m c n (λ k. n (k ∙ sym e)))

        away_as : sender_at p m ≢ taker_at p m → taken_in bytes route sources (sent_off p a m) m ws ≡ carried p a m
        unfolding carried arrived
        away_as n =
            ap (replaced (sent_off p a m) (taker_at p m))
            (ap (λ (r : State). (deliver_call bytes route (sources (taker_at p m)) (copied p r m ws) m).after) there
            ∙ after_of (takes_as a fine m lo ws (place_long a fine m lo))
            ∙ ap (λ (r : State). received p r m ws) (sym there))
          where
            there : sent_off p a m (taker_at p m) ≡ a (taker_at p m)
            there = sent_other p a m (taker_at p m) (λ e. n (sym e))

        zero_as : (deliver p (a (sender_at p m)) m).number ≡ 0 → left (deliver p (a (sender_at p m)) m) ≡ record { number = 0; after = carried p a m }
        unfolding left ◌and◌ sent_off
        zero_as z =
            ap left (gone a fine m lo z)
            ∙ ap (λ (x : AreasApart). record { number = 0; after = x }) (go (ℕ_discrete (sender_at p m) (taker_at p m)))
          where
            go : Dec (sender_at p m ≡ taker_at p m)
                → pick (not (eqb (sender_at p m) (taker_at p m))) (taken_in bytes route sources (sent_off p a m) m ws) (sent_off p a m) ≡ carried p a m
            go (yes e) = pick_false _ _ _ (not-true (eq-eqb _ _ e)) ∙ home_as e
            go (no n) = pick_true _ _ _ (not-false (ne_eqb _ _ n)) ∙ away_as n

        some_as : (deliver p (a (sender_at p m)) m).number ≢ 0
            → left (deliver p (a (sender_at p m)) m) ≡ record { number = (deliver p (a (sender_at p m)) m).number; after = a }
        unfolding left
        some_as n =
            ap left (deliver_refused p (a (sender_at p m)) m n)
            ∙ ap (λ (x : AreasApart). record { number = (deliver p (a (sender_at p m)) m).number; after = x })
            (pick_false _ _ _ (and_false _ _ (ne_eqb _ 0 n)) ∙ replaced_own a (sender_at p m))

        low_same : deliver_by_calls bytes route sources a m ≡ deliver_apart p a m
        low_same = by_left ∙ go (ℕ_discrete (deliver p (a (sender_at p m)) m).number 0)
          where
            go : Dec ((deliver p (a (sender_at p m)) m).number ≡ 0) → left (deliver p (a (sender_at p m)) m) ≡ deliver_apart p a m
            go (yes z) = zero_as z ∙ sym (answer_is _ _ _ (sym number_as ∙ z) (deliver_after p a m (sym number_as ∙ z)))
            go (no n) =
                let k : (deliver_apart p a m).number ≢ 0 = (λ z. n (number_as ∙ z)) in
                some_as n ∙ sym (answer_is _ _ _ (sym number_as) (deliver_stays p a m k))

      pub deliver_same : (m : ℕ) → deliver_by_calls bytes route sources a m ≡ deliver_apart p a m
      deliver_same m = go (dec_lt m (count p))
        where
          go : Dec (m < count p) → deliver_by_calls bytes route sources a m ≡ deliver_apart p a m
          go (yes lo) = low_same m lo
          go (no n) = none_here bytes route sources a m (omega arith) ∙ sym (none_apart p a m (omega arith))

      pub apart_same : (e : Event) → calls_apart bytes route sources a e ≡ act_apart p source a e
      unfolding calls_apart act_apart
      apart_same (turn_of b) = turn_same a fine b
      apart_same (delivery_of m) = deliver_same m

    -- ---- delivery as two
    module _ (n : Network) (fo : FineNetwork p n) where
      module _ (m : ℕ) (lo : m < count p) where
        unfoldable leaves : Answered State → Answered Network
        leaves x =
            record {
              number = x.number;
              after = network_of (replaced n.areas (sender_at p m) x.after) (n.packets ++ pick (eqb x.number 0) (posted p n.areas m) []);
            }

        by_leaves : post_by_call bytes route sources n m ≡ leaves (deliver p (n.areas (sender_at p m)) m)
        unfolding post_by_call leaves
        by_leaves = pick_true _ _ _ (lt-ltb m (count p) lo) ∙ ap leaves (hands_as n.areas fo.areas m lo)

        post_number : (deliver p (n.areas (sender_at p m)) m).number ≡ (post p n m).number
        unfolding deliver post
        post_number = first_false 10 _ _ (not-true (fit_from n.areas fo.areas m lo))

        zero_post : (deliver p (n.areas (sender_at p m)) m).number ≡ 0
            → leaves (deliver p (n.areas (sender_at p m)) m)
            ≡ record { number = 0; after = network_of (sent_off p n.areas m) (n.packets ++ posted p n.areas m) }
        unfolding leaves sent_off pick
        zero_post z = ap leaves (gone n.areas fo.areas m lo z)

        some_post : (deliver p (n.areas (sender_at p m)) m).number ≢ 0
            → leaves (deliver p (n.areas (sender_at p m)) m) ≡ record { number = (deliver p (n.areas (sender_at p m)) m).number; after = n }
        unfolding leaves
        some_post k =
            ap leaves (deliver_refused p (n.areas (sender_at p m)) m k)
            ∙ same_parts (deliver p (n.areas (sender_at p m)) m).number (replaced_own n.areas (sender_at p m))
            (ap (λ (l : List Packet). n.packets ++ l) (pick_false _ _ _ (ne_eqb _ 0 k)) ∙ append-nil n.packets)
          where
            same_parts : (x : ℕ) {a b : AreasApart} {k l : List Packet} → a ≡ b → k ≡ l
                → ◌≡◌ {A = Answered Network} (record { number = x; after = network_of a k }) (record { number = x; after = network_of b l })
            same_parts x e f = rw (e, f)

        low_post : post_by_call bytes route sources n m ≡ post p n m
        low_post = by_leaves ∙ go (ℕ_discrete (deliver p (n.areas (sender_at p m)) m).number 0)
          where
            go : Dec ((deliver p (n.areas (sender_at p m)) m).number ≡ 0) → leaves (deliver p (n.areas (sender_at p m)) m) ≡ post p n m
            go (yes z) = zero_post z ∙ sym (post_zero p n m (sym post_number ∙ z))
            go (no k) =
                some_post k
                ∙ ap (λ (x : ℕ). record { number = x; after = n }) post_number
                ∙ sym (post_some p n m (λ z. k (post_number ∙ z)))

      pub post_same : (m : ℕ) → post_by_call bytes route sources n m ≡ post p n m
      post_same m = go (dec_lt m (count p))
        where
          go : Dec (m < count p) → post_by_call bytes route sources n m ≡ post p n m
          go (yes lo) = low_post m lo
          go (no k) = none_post bytes route sources n m (omega arith) ∙ sym (none_network p n m (omega arith))

      module _ (k : ℕ) where
        abbrev it : Packet
        it = packet_at n.packets k

        arrive_number : (arrive p n k).number ≡ first_of (arrival_lines p n k)
        unfolding arrive
        arrive_number = refl

        unfoldable brings : Answered State → Answered Network
        brings x = record { number = x.number; after = network_of (replaced n.areas (taker_at p it.message) x.after) n.packets }

        pub arrive_same : arrive_by_call bytes route sources n k ≡ arrive p n k
        unfolding arrive_by_call brings arrived
        arrive_same = go (ℕ_discrete (first_of (arrival_lines p n k)) 0)
          where
            go : Dec (first_of (arrival_lines p n k) ≡ 0)
                → pick (eqb (first_of (arrival_lines p n k)) 0) (brings (takes_in bytes route sources n.areas it.message it.words))
                (record { number = first_of (arrival_lines p n k); after = n }) ≡ arrive p n k
            go (yes z) =
                let y = arrive_number ∙ z in
                let h = (arrive_asks p n k y).0 in
                pick_true _ _ _ (eq-eqb _ 0 z)
                ∙ ap brings (takes_as n.areas fo.areas it.message (fo.low k h) it.words (fo.long k h))
                ∙ sym (arrive_zero p n k y)
            go (no q) =
                pick_false _ _ _ (ne_eqb _ 0 q)
                ∙ ap (λ (x : ℕ). record { number = x; after = n }) (sym arrive_number)
                ∙ sym (arrive_some p n k (λ z. q (sym arrive_number ∙ z)))

      pub network_same : (e : NetworkEvent) → calls_network bytes route sources n e ≡ act_network p source n e
      unfolding calls_network act_network turn_network
      network_same (turn_by b) =
          ap (λ (x : Answered AreasApart). record { number = x.number; after = network_of x.after n.packets }) (turn_same n.areas fo.areas b)
      network_same (post_of m) = post_same m
      network_same (arrival_of k) = arrive_same k
