-- An event on the processors' parts beside the same event on the machine's network: the same number, the same packets, and each has its part again.
use Prim.Native.Nat.{ℕ, ◌≤◌, ◌<◌}
use mathlib.Core.Path.{◌≡◌, refl, sym, ap, ◌∙◌}
use mathlib.Core.Logic.{◌≢◌}
use mathlib.Core.Bool.{true}
use mathlib.Core.List.{List, [], ◌∷◌, ◌++◌, append-nil}
use native.Mathlib.Omega.{arith}
use native.Mathlib.Decide.{dec_lt, ℕ_discrete}
use lib.ListN.{length, length-map}
use lib.Dec.{eqb}
use borrow.Author.Tests.{lt-ltb, le-ltb, eq-eqb, ne_eqb}
use Rattle.base.specs.Tests.{not, pick}
use Rattle.base.specs.Lists.{pack}
use Rattle.base.specs.Numbers.{line, first_of}
use Rattle.base.proofs.Tests.{or_left, not-true, not-false, pick_true, pick_false}
use Rattle.base.proofs.Numbers.{first_true, first_false}
use Rattle.machine.specs.Plan.{Plan, Sound, count, held_by}
use Rattle.machine.specs.Machine.{State, Answered, answered, turn}
use Rattle.layout.specs.RouteWords.{route_of}
use Rattle.recipe.specs.Routes.{lines_for}
use Rattle.engine.specs.Calls.{recipe}
use Rattle.network.specs.Apart.{AreasApart, replaced, sender_at, taker_at, marked, received, sent_off, arrived, turn_apart}
use Rattle.network.specs.Packets.{Packet, Network, network_of, packet_at, status_at, NetworkEvent, turn_by, post_of, arrival_of, posted, post, arrive}
use Rattle.network.specs.Packets.{turn_network, act_network}
use Rattle.network.specs.Locality.{PlanLengths, ReadsOwnWord}
use Rattle.network.specs.Own.{handles, own_cells}
use Rattle.network.proofs.Letters.{replaced_same, replaced_other}
use Rattle.network.proofs.Together.{turn_here, turn_nowhere}
use Rattle.network.proofs.Network.{Follows}
use Rattle.network.proofs.PartRuns.{lent_here, fit_here, from_low, to_low}
use Rattle.part_calls.specs.front.Calls.{to_part}
use Rattle.network_runs.specs.part.Runs.{PartSources, turned, turn_on_part, packet_in, handed_over, post_on_part, taken_in, arrive_on_part, acts_on_parts}
use Rattle.network_runs.proofs.part.OnePart.{turn_on_part_lem, post_on_part_lem, arrive_on_part_lem, words_in}

-- each processor's part of these areas
abbrev pub Parts : Plan → AreasApart → AreasApart → Type 0
Parts p a o = (b : ℕ) → b < p.processors → o b ≡ to_part p b (a b)

-- an answer on parts beside one on whole areas
pub record Likened (p : Plan) (x y : Answered Network) : Type 0 where
  pub number : x.number ≡ y.number
  pub packets : x.after.packets ≡ y.after.packets
  pub parts : Parts p y.after.areas x.after.areas

replaced_parts : (p : Plan) (a o : AreasApart) (b : ℕ) (x y : State) → Parts p a o → y ≡ to_part p b x → Parts p (replaced a b x) (replaced o b y)
replaced_parts p a o b x y v e c l = go (ℕ_discrete c b)
  where
    go : Dec (c ≡ b) → replaced o b y c ≡ to_part p c (replaced a b x c)
    go (yes q) = rw (replaced_same a b x c q, replaced_same o b y c q, q) e
    go (no n) = rw (replaced_other a b x c n, replaced_other o b y c n) (v c l)

-- a processor that keeps what it has
kept_parts : (p : Plan) (a o : AreasApart) (b : ℕ) (y : State) → Parts p a o → (b < p.processors → y ≡ to_part p b (a b)) → Parts p a (replaced o b y)
kept_parts p a o b y v e c l = go (ℕ_discrete c b)
  where
    go : Dec (c ≡ b) → replaced o b y c ≡ to_part p c (a c)
    go (yes q) = replaced_same o b y c q ∙ rw q (e (rw (sym q) l))
    go (no n) = replaced_other o b y c n ∙ v c l

module _ (bytes : List ℕ) (route : ℕ) (ok : first_of (lines_for (route_of route) bytes) ≡ 0) (so : Sound (recipe bytes route))
    (own : ReadsOwnWord (recipe bytes route))
    (away : (m : ℕ) → m < count (recipe bytes route) → sender_at (recipe bytes route) m ≢ taker_at (recipe bytes route) m)
    (source : List ℕ) (whole : length source ≡ (recipe bytes route).cells) (sources : PartSources)
    (owned : (b : ℕ) → b < (recipe bytes route).processors → sources b ≡ pack source (own_cells (recipe bytes route) b)) where
  abbrev p : Plan
  p = recipe bytes route

  module _ (s : State) (n o : Network) (fo : Follows p source s n) (same : o.packets ≡ n.packets) (parts : Parts p n.areas o.areas) where
    lent : (b : ℕ) → b < p.processors → PlanLengths p source (n.areas b)
    lent = lent_here p so own source whole s n fo

    -- ---- a turn
    turned_is : (b : ℕ) → b < p.processors
        → turned bytes route sources o b
        ≡ record { number = (turn p source (n.areas b) b).number; after = to_part p b (turn p source (n.areas b) b).after }
    turned_is b h =
        rw (owned b h, parts b h)
        (turn_on_part_lem bytes route ok b h source (n.areas b) (lent b h) (fit_here p so own source whole s n fo b h) so own)

    turn_in : (b : ℕ) → b < p.processors
        → turn_on_part bytes route sources o b
        ≡ record {
          number = (turned bytes route sources o b).number;
          after = network_of (replaced o.areas b (turned bytes route sources o b).after) o.packets;
        }
    unfolding turn_on_part
    turn_in b h = pick_true _ _ _ (lt-ltb b p.processors h)

    turn_out : (b : ℕ) → p.processors ≤ b → turn_on_part bytes route sources o b ≡ record { number = 11; after = o }
    unfolding turn_on_part
    turn_out b h = pick_false _ _ _ (le-ltb b p.processors h)

    turn_likened : (b : ℕ) → Likened p (turn_on_part bytes route sources o b) (turn_network p source n b)
    unfolding turn_network
    turn_likened b = go (dec_lt b p.processors)
      where
        go : Dec (b < p.processors)
            → Likened p (turn_on_part bytes route sources o b)
            (record { number = (turn_apart p source n.areas b).number; after = network_of (turn_apart p source n.areas b).after n.packets })
        go (yes h) =
            rw (turn_here p source n.areas b h, turn_in b h)
            (record {
              number = ap (λ (a : Answered State). a.number) (turned_is b h);
              packets = same;
              parts = replaced_parts p n.areas o.areas b _ _ parts (ap (λ (a : Answered State). a.after) (turned_is b h));
            })
        go (no k) =
            rw (turn_nowhere p source n.areas b (omega arith), turn_out b (omega arith))
            (record { number = refl; packets = same; parts = parts })

    -- ---- a post
    module _ (m : ℕ) (lo : m < count p) where
      abbrev from : ℕ
      from = sender_at p m

      from_here : from < p.processors
      from_here = from_low p so own source whole s n fo m lo

      -- 14 where it is not in flight
      abbrev flying : ℕ
      flying = first_of (line 14 (not (eqb (status_at n.areas from m) 1)) ∷ [])

      handed_is : handed_over bytes route o m ≡ answered flying (to_part p from (marked (n.areas from) m)) (to_part p from (n.areas from))
      handed_is =
          rw (parts from from_here)
          (post_on_part_lem bytes route ok from from_here source (n.areas from) (lent from from_here)
          (fit_here p so own source whole s n fo from from_here) m lo refl)

      mine : handles p from m ≡ true
      unfolding handles
      mine = or_left _ (eq-eqb from from refl)

      packet_is : packet_in p from (o.areas from) m ∷ [] ≡ posted p n.areas m
      unfolding posted
      packet_is =
          ap (λ (ws : List ℕ). record { message = m; words = ws } ∷ [])
          (rw (parts from from_here) (words_in p from from_here source (n.areas from) (lent from from_here) m lo mine))
          ∙ sym (pick_false _ _ _ (ne_eqb from (taker_at p m) (away m lo)))

      post_is : post p n m ≡ answered flying (network_of (sent_off p n.areas m) (n.packets ++ posted p n.areas m)) n
      unfolding post
      post_is =
          ap (λ (x : ℕ). answered x (network_of (sent_off p n.areas m) (n.packets ++ posted p n.areas m)) n)
          (first_false 11 _ _ (not-true (lt-ltb m (count p) lo)))

      on_part : post_on_part bytes route o m
          ≡ record {
            number = flying;
            after = network_of (replaced o.areas from (answered flying (to_part p from (marked (n.areas from) m)) (to_part p from (n.areas from))).after)
                (n.packets ++ pick (eqb flying 0) (posted p n.areas m) []);
          }
      unfolding post_on_part
      on_part = pick_true _ _ _ (lt-ltb m (count p) lo) ∙ rw (handed_is, same, packet_is) refl

      post_low : Likened p (post_on_part bytes route o m) (post p n m)
      unfolding sent_off
      post_low = rw (on_part, post_is) (go (ℕ_discrete flying 0))
        where
          go : Dec (flying ≡ 0)
              → Likened p
              (record {
                number = flying;
                after = network_of (replaced o.areas from (pick (eqb flying 0) (to_part p from (marked (n.areas from) m)) (to_part p from (n.areas from))))
                    (n.packets ++ pick (eqb flying 0) (posted p n.areas m) []);
              })
              (record {
                number = flying;
                after = pick (eqb flying 0)
                    (network_of (replaced n.areas from (marked (n.areas from) m)) (n.packets ++ posted p n.areas m)) n;
              })
          go (yes z) =
              rw (
                pick_true _ (to_part p from (marked (n.areas from) m)) (to_part p from (n.areas from)) (eq-eqb flying 0 z),
                pick_true _ (posted p n.areas m) [] (eq-eqb flying 0 z),
                pick_true _ (network_of (replaced n.areas from (marked (n.areas from) m)) (n.packets ++ posted p n.areas m)) n (eq-eqb flying 0 z),
              )
              (record { number = refl; packets = refl; parts = replaced_parts p n.areas o.areas from _ _ parts refl })
          go (no k) =
              rw (
                pick_false _ (to_part p from (marked (n.areas from) m)) (to_part p from (n.areas from)) (ne_eqb flying 0 k),
                pick_false _ (posted p n.areas m) [] (ne_eqb flying 0 k),
                pick_false _ (network_of (replaced n.areas from (marked (n.areas from) m)) (n.packets ++ posted p n.areas m)) n (ne_eqb flying 0 k),
              )
              (record {
                number = refl;
                packets = append-nil n.packets;
                parts = kept_parts p n.areas o.areas from _ parts (λ l. refl);
              })

    post_out : (m : ℕ) → count p ≤ m → post_on_part bytes route o m ≡ record { number = 11; after = o }
    unfolding post_on_part
    post_out m h = pick_false _ _ _ (le-ltb m (count p) h)

    post_none : (m : ℕ) → count p ≤ m → post p n m ≡ record { number = 11; after = n }
    unfolding post pick
    post_none m h =
        ap (λ (x : ℕ). answered x (network_of (sent_off p n.areas m) (n.packets ++ posted p n.areas m)) n)
        (first_true 11 _ _ (not-false (le-ltb m (count p) h)))

    post_likened : (m : ℕ) → Likened p (post_on_part bytes route o m) (post p n m)
    post_likened m = go (dec_lt m (count p))
      where
        go : Dec (m < count p) → Likened p (post_on_part bytes route o m) (post p n m)
        go (yes lo) = post_low m lo
        go (no k) = rw (post_out m (omega arith), post_none m (omega arith)) (record { number = refl; packets = same; parts = parts })

    -- ---- an arrival
    module _ (k : ℕ) (lo : k < length n.packets) where
      abbrev it : Packet
      it = packet_at n.packets k

      abbrev to : ℕ
      to = taker_at p it.message

      to_here : to < p.processors
      to_here = to_low p so own source whole s n fo it.message (fo.right k lo).low

      -- 14 where it came before
      abbrev taken : ℕ
      taken = first_of (line 14 (not (eqb (status_at n.areas to it.message) 0)) ∷ [])

      taken_is : taken_in bytes route o k ≡ answered taken (to_part p to (received p (n.areas to) it.message it.words)) (to_part p to (n.areas to))
      taken_is =
          rw (same, parts to to_here)
          (arrive_on_part_lem bytes route ok to to_here source (n.areas to) (lent to to_here) (fit_here p so own source whole s n fo to to_here) it.message
          (fo.right k lo).low refl it.words (ap length (fo.right k lo).words ∙ length-map (held_by p it.message) _))

      arrive_is : arrive p n k ≡ answered taken (network_of (arrived p n.areas it.message it.words) n.packets) n
      unfolding arrive
      arrive_is =
          ap (λ (x : ℕ). answered x (network_of (arrived p n.areas it.message it.words) n.packets) n)
          (first_false 11 _ _ (not-true (lt-ltb k (length n.packets) lo)))

      at_part : arrive_on_part bytes route o k
          ≡ record {
            number = taken;
            after = network_of (replaced o.areas to
                (answered taken (to_part p to (received p (n.areas to) it.message it.words)) (to_part p to (n.areas to))).after) n.packets;
          }
      unfolding arrive_on_part
      at_part = pick_true _ _ _ (rw same (lt-ltb k (length n.packets) lo)) ∙ rw (taken_is, same) refl

      arrive_low : Likened p (arrive_on_part bytes route o k) (arrive p n k)
      unfolding arrived
      arrive_low = rw (at_part, arrive_is) (go (ℕ_discrete taken 0))
        where
          go : Dec (taken ≡ 0)
              → Likened p
              (record {
                number = taken;
                after = network_of
                    (replaced o.areas to
                    (pick (eqb taken 0) (to_part p to (received p (n.areas to) it.message it.words)) (to_part p to (n.areas to))))
                    n.packets;
              })
              (record {
                number = taken;
                after = pick (eqb taken 0)
                    (network_of (replaced n.areas to (received p (n.areas to) it.message it.words)) n.packets) n;
              })
          go (yes z) =
              rw (
                pick_true _ (to_part p to (received p (n.areas to) it.message it.words)) (to_part p to (n.areas to)) (eq-eqb taken 0 z),
                pick_true _ (network_of (replaced n.areas to (received p (n.areas to) it.message it.words)) n.packets) n (eq-eqb taken 0 z),
              )
              (record { number = refl; packets = refl; parts = replaced_parts p n.areas o.areas to _ _ parts refl })
          go (no q) =
              rw (
                pick_false _ (to_part p to (received p (n.areas to) it.message it.words)) (to_part p to (n.areas to)) (ne_eqb taken 0 q),
                pick_false _ (network_of (replaced n.areas to (received p (n.areas to) it.message it.words)) n.packets) n (ne_eqb taken 0 q),
              )
              (record { number = refl; packets = refl; parts = kept_parts p n.areas o.areas to _ parts (λ l. refl) })

    arrive_out : (k : ℕ) → length n.packets ≤ k → arrive_on_part bytes route o k ≡ record { number = 11; after = o }
    unfolding arrive_on_part
    arrive_out k h = pick_false _ _ _ (rw same (le-ltb k (length n.packets) h))

    arrive_none : (k : ℕ) → length n.packets ≤ k → arrive p n k ≡ record { number = 11; after = n }
    unfolding arrive pick
    arrive_none k h =
        ap (λ (x : ℕ). answered x (network_of (arrived p n.areas (packet_at n.packets k).message (packet_at n.packets k).words) n.packets) n)
        (first_true 11 _ _ (not-false (le-ltb k (length n.packets) h)))

    arrive_likened : (k : ℕ) → Likened p (arrive_on_part bytes route o k) (arrive p n k)
    arrive_likened k = go (dec_lt k (length n.packets))
      where
        go : Dec (k < length n.packets) → Likened p (arrive_on_part bytes route o k) (arrive p n k)
        go (yes lo) = arrive_low k lo
        go (no h) = rw (arrive_out k (omega arith), arrive_none k (omega arith)) (record { number = refl; packets = same; parts = parts })

    pub event_likened : (e : NetworkEvent) → Likened p (acts_on_parts bytes route sources o e) (act_network p source n e)
    unfolding acts_on_parts act_network
    event_likened (turn_by b) = turn_likened b
    event_likened (post_of m) = post_likened m
    event_likened (arrival_of k) = arrive_likened k
