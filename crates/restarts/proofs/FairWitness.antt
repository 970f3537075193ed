-- Fair events, for every plan and every source: turns, posts and posts again of all there is, one after another, and what was posted last arrives.
use Prim.Native.Nat.{ℕ, zero, suc, ◌+◌, ◌*◌, ◌-◌, ◌/◌, ◌%◌, ◌≤◌, ◌<◌}
use mathlib.Core.Path.{◌≡◌, refl, sym, ap, ◌∙◌}
use mathlib.Core.Logic.{◌≢◌}
use mathlib.Core.Bool.{false}
use mathlib.Core.List.{List, ◌++◌}
use native.Mathlib.Nat.{le-mul_of_pos_right, mod-eq_of_lt, div-eq_of_lt, suc-mod, mul-add-mod_self_left, mul-add-mod_self_right, mul-add-div}
use native.Mathlib.Omega.{arith}
use lib.ListN.{length}
use Rattle.machine.specs.Plan.{Plan, Sound, count}
use Rattle.machine.specs.Runs.{state_after}
use Rattle.machine.proofs.RunLaws.{after_one}
use Rattle.network.specs.Apart.{sender_at, taker_at}
use Rattle.network.specs.Packets.{Packet, Network, network_of, status_at, turn_by, post_of, arrival_of, posted, start_network}
use Rattle.restarts.specs.Restarts.{LifeEvent, plain, repost_of, restart_of, act_lives}
use Rattle.restarts.specs.FairLoss.{Endless, firsts, new_start, when, Arrives, FairLoss, MachineEnds}
use Rattle.restarts.proofs.Lives.{Alive, start_alive, run_alive, repost_asks}
use Rattle.restarts.proofs.Theorem.{again_after, last_is, more_length}
use Rattle.restarts.proofs.FairLoss.{fair_ends, loss_fair}

-- which sort of event
kind : LifeEvent → ℕ
kind (plain e) = 0
kind (repost_of m) = 1
kind (restart_of b) = 2

-- by the time's rest from division by 4, of the i-th processor or message
unfoldable by_rest : ℕ → ℕ → Network → LifeEvent
by_rest zero i n = plain (turn_by i)
by_rest (suc zero) i n = plain (post_of i)
by_rest (suc (suc zero)) i n = repost_of i
by_rest (suc (suc (suc r))) i n = plain (arrival_of (length n.packets - 1))

never_starts : (r i : ℕ) (n : Network) → new_start (by_rest r i n) ≡ false
unfolding by_rest new_start
never_starts zero i n = refl
never_starts (suc zero) i n = refl
never_starts (suc (suc zero)) i n = refl
never_starts (suc (suc (suc r))) i n = refl

at_two : (r i m : ℕ) (n : Network) → by_rest r i n ≡ repost_of m → r ≡ 2
unfolding by_rest kind
at_two zero i m n e = absurd (let x : ◌≡◌ {A = ℕ} 0 1 = ap kind e in omega arith)
at_two (suc zero) i m n e = absurd (let x : ◌≡◌ {A = ℕ} 0 1 = ap kind e in omega arith)
at_two (suc (suc zero)) i m n e = refl
at_two (suc (suc (suc r))) i m n e = absurd (let x : ◌≡◌ {A = ℕ} 0 1 = ap kind e in omega arith)

module _ (p : Plan) (so : Sound p) (source : List ℕ) where
  abbrev wide : ℕ
  wide = suc (p.processors + count p)

  unfoldable chosen : ℕ → Network → LifeEvent
  chosen k n = by_rest (k % 4) (k / 4 % wide) n

  unfoldable driven : ℕ → Network
  driven zero = start_network p
  driven (suc k) = (act_lives p source (driven k) (chosen k (driven k))).after

  unfoldable events : Endless
  events k = chosen k (driven k)

  abbrev at : ℕ → Network
  at k = when (act_lives p source) (start_network p) events k

  as_driven : (k : ℕ) → at k ≡ driven k
  unfolding firsts state_after driven events
  as_driven zero = refl
  as_driven (suc k) =
      after_one (act_lives p source) (start_network p) (firsts events k) (events k)
      ∙ ap (λ (n : Network). (act_lives p source n (events k)).after) (as_driven k)

  event_is : (k r i : ℕ) → k % 4 ≡ r → k / 4 % wide ≡ i → events k ≡ by_rest r i (driven k)
  unfolding events chosen
  event_is k r i e f = ap (λ (x : ℕ). by_rest x (k / 4 % wide) (driven k)) e ∙ ap (λ (x : ℕ). by_rest r x (driven k)) f

  -- the n-th time that i comes with rest r
  module _ (n i r : ℕ) (low : i < wide) (small : r < 4) where
    abbrev spot : ℕ
    spot = 4 * (n * wide + i) + r

    spot_late : n ≤ spot
    spot_late = let h : n ≤ n * wide = le-mul_of_pos_right n (omega arith) in omega arith

    spot_rest : spot % 4 ≡ r
    spot_rest = mul-add-mod_self_left 4 (n * wide + i) r ∙ mod-eq_of_lt small

    spot_item : spot / 4 % wide ≡ i
    spot_item =
        ap (λ (x : ℕ). x % wide) (mul-add-div (omega arith) (n * wide + i) r ∙ ap (λ (x : ℕ). n * wide + i + x) (div-eq_of_lt small) ∙ omega arith)
        ∙ mul-add-mod_self_right n wide i ∙ mod-eq_of_lt low

    spot_event : events spot ≡ by_rest r i (driven spot)
    spot_event = event_is spot r i spot_rest spot_item

  alive_at : (k : ℕ) → Alive p source (at k)
  alive_at k = run_alive p so source (act_lives p source) (λ n al e. refl) (firsts events k) (start_network p) (start_alive p so source)

  -- after a post again that gave 0 its packet arrives
  module _ (m : ℕ) (lo : m < count p) (away : sender_at p m ≢ taker_at p m) (k : ℕ) (e : events k ≡ repost_of m)
      (z : (act_lives p source (at k) (repost_of m)).number ≡ 0) where
    two : 2 ≤ status_at (at k).areas (sender_at p m) m
    unfolding act_lives
    two = (repost_asks p so source (at k) (alive_at k) m z).1

    abbrev more : List Packet
    more = (at k).packets ++ posted p (at k).areas m

    next_is : at (suc k) ≡ network_of (at k).areas more
    unfolding firsts
    next_is =
        after_one (act_lives p source) (start_network p) (firsts events k) (events k) ∙ ap (λ (x : LifeEvent). (act_lives p source (at k) x).after) e
        ∙ again_after p so source (at k) (alive_at k) m lo away two

    then_three : suc k % 4 ≡ 3
    unfolding events chosen
    then_three = suc-mod k 4 ∙ ap (λ (x : ℕ). suc x % 4) (at_two (k % 4) (k / 4 % wide) m (driven k) e)

    then_arrives : events (suc k) ≡ plain (arrival_of (length (at k).packets))
    unfolding by_rest
    then_arrives =
        event_is (suc k) 3 (suc k / 4 % wide) then_three refl
        ∙ ap (λ (n : Network). plain (arrival_of (length n.packets - 1))) (sym (as_driven (suc k)) ∙ next_is)
        ∙ ap (λ (x : ℕ). plain (arrival_of x)) (omega (arith, more_length p so source (at k) (alive_at k) m lo away two))

    arrives : Arrives (act_lives p source) (start_network p) events m (suc k)
    arrives =
        record {
          packet = length (at k).packets;
          low = rw next_is (omega (arith, more_length p so source (at k) (alive_at k) m lo away two));
          is = rw next_is (last_is p so source (at k) (alive_at k) m lo away two);
          event = then_arrives;
        }

  pub fair_events : (es : Endless) × FairLoss (act_lives p source) (start_network p) es p
  unfolding by_rest events chosen
  fair_events = (
    events,
    record {
      tries = record {
        calm = 0;
        no_start = λ k h. never_starts (k % 4) (k / 4 % wide) (driven k);
        turns = λ b n low.
            (spot n b 0 (omega arith) (omega arith), spot_late n b 0 (omega arith) (omega arith), λ h. spot_event n b 0 (omega arith) (omega arith));
        posts = λ m n lo.
            (spot n m 1 (omega arith) (omega arith), spot_late n m 1 (omega arith) (omega arith), λ h. spot_event n m 1 (omega arith) (omega arith));
      };
      asked = λ m n lo away.
          (spot n m 2 (omega arith) (omega arith), spot_late n m 2 (omega arith) (omega arith), spot_event n m 2 (omega arith) (omega arith));
      not_all_lost = λ m lo away again n.
          let r = again n in (suc r.0, omega (arith, r.1), arrives m lo away r.0 r.2.0 r.2.1);
    },
  )

pub machine_ends : (p : Plan) → Sound p → (source : List ℕ) → MachineEnds p source
machine_ends p so source =
    record {
      fair = λ es f. fair_ends p so source (act_lives p source) (λ n al e. refl) (start_network p) (start_alive p so source) es f;
      fair_loss = λ es f.
          fair_ends p so source (act_lives p source) (λ n al e. refl) (start_network p) (start_alive p so source) es
          (loss_fair p so source (act_lives p source) (λ n al e. refl) (start_network p) (start_alive p so source) es f);
      witness = fair_events p so source;
    }
