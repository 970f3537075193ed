-- Read this.
-- A run without an end over a transport that loses packets, but not every packet for ever: it finishes. Which events come, how often something is lost
-- before it arrives, and how often processors start again before they stop doing so, nothing is assumed of.
-- Renders document 01, "Runs", for processors that may lose all they have, and a transport that is fair.
use Rattle.std.specs.Prelude.{ℕ, zero, suc, ◌≤◌, ◌<◌, ◌≡◌, ◌≢◌, Bool, true, false, List, [], ◌∷◌, ◌++◌, length}
use Rattle.machine.specs.Plan.{Plan, count}
use Rattle.machine.specs.Machine.{Answered, tiles_left, sweep}
use Rattle.network.specs.Apart.{sender_at, taker_at, collect_apart}
use Rattle.network.specs.Packets.{Network, packet_at, status_at, turn_by, post_of, arrival_of, start_network}
use Rattle.restarts.specs.Restarts.{LifeEvent, plain, repost_of, restart_of, act_lives, Finished, lived}

-- events without an end, and the first n of them
abbrev pub Endless : Type 0
Endless = ℕ → LifeEvent

unfoldable pub firsts : Endless → ℕ → List LifeEvent
firsts es zero = []
firsts es (suc n) = firsts es n ++ (es n ∷ [])

unfoldable pub new_start : LifeEvent → Bool
new_start (plain e) = false
new_start (repost_of m) = false
new_start (restart_of b) = true

-- at time n or later
abbrev pub Later : ℕ → (ℕ → Type 0) → Type 0
Later n Q = (k : ℕ) × (n ≤ k) × Q k

-- message m is awaited: its sender has posted it since its last start, its taker has not received it since its own
abbrev pub Awaited : Plan → Network → ℕ → Type 0
Awaited p n m = (2 ≤ status_at n.areas (sender_at p m) m) × (status_at n.areas (taker_at p m) m ≡ 0)

module _ (acts : Network → LifeEvent → Answered Network) (start : Network) (es : Endless) where
  -- the network at time k, to which event k comes
  abbrev pub when : ℕ → Network
  when k = lived acts start (firsts es k)

  -- event k is the arrival of a packet of message m
  pub record Arrives (m k : ℕ) : Type 0 where
    pub packet : ℕ
    pub low : packet < length (when k).packets
    pub is : (packet_at (when k).packets packet).message ≡ m
    pub event : es k ≡ plain (arrival_of packet)

  -- what the processors do
  pub record Tries (p : Plan) : Type 0 where
    -- from some time on none starts again
    pub calm : ℕ
    pub no_start : (k : ℕ) → calm ≤ k → new_start (es k) ≡ false
    -- again and again each has its turn, or has no tiles left
    pub turns : (b n : ℕ) → b < p.processors → Later n (λ k. tiles_left p ((when k).areas b) b ≡ true → es k ≡ plain (turn_by b))
    -- again and again each message is posted, or is not in flight at its sender's
    pub posts : (m n : ℕ) → m < count p → Later n (λ k. status_at (when k).areas (sender_at p m) m ≡ 1 → es k ≡ plain (post_of m))

  -- and no message is awaited for ever: again and again a packet of it arrives, or it is not awaited. Whoever asks for it, whoever posts it again, and
  -- whatever else is lost
  pub record Fair (p : Plan) : Type 0 where
    pub tries : Tries p
    pub arrivals : (m n : ℕ) → m < count p → Later n (λ k. Awaited p (when k) m → Arrives m k)

  -- or, in two parts: what the processors do besides, and what the transport promises. One who asks only while it waits is Fair all the same
  pub record FairLoss (p : Plan) : Type 0 where
    pub tries : Tries p
    -- each message that goes to another processor is asked for again and again, and its sender then tries to post it again
    pub asked : (m n : ℕ) → m < count p → sender_at p m ≢ taker_at p m → Later n (λ k. es k ≡ repost_of m)
    -- of a message that is posted again and again, packets arrive again and again: as many are lost as may be, but not all
    pub not_all_lost : (m : ℕ) → m < count p → sender_at p m ≢ taker_at p m
        → ((n : ℕ) → Later n (λ k. (es k ≡ repost_of m) × ((acts (when k) (repost_of m)).number ≡ 0)))
        → (n : ℕ) → Later n (Arrives m)

  -- ---- the claim
  pub record Ends (p : Plan) (source : List ℕ) : Type 0 where
    -- from some time on no processor has tiles left, and what is collected then is the sequential sweep
    pub at : ℕ
    pub finished : (k : ℕ) → at ≤ k → Finished p (when k).areas
    pub grid : (k : ℕ) → at ≤ k → (old : List ℕ) → collect_apart p (when k).areas old ≡ record { number = 0; after = sweep p source }

-- ---- of the machine
pub record MachineEnds (p : Plan) (source : List ℕ) : Type 0 where
  pub fair : (es : Endless) → Fair (act_lives p source) (start_network p) es p → Ends (act_lives p source) (start_network p) es p source
  pub fair_loss : (es : Endless) → FairLoss (act_lives p source) (start_network p) es p → Ends (act_lives p source) (start_network p) es p source
  -- there are such events, for every plan
  pub witness : (es : Endless) × FairLoss (act_lives p source) (start_network p) es p
