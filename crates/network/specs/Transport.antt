-- Read this.
-- What carrying a message is in the machine's own calls, so that a transport has only words and a status to copy: the sender's side is the
-- machine's delivery on the sender's areas, the taker's side is that same call once the message's words and its status 1 were copied there.
use Rattle.std.specs.Prelude.{ℕ, ◌≡◌, ◌≢◌, List, set}
use Rattle.base.specs.Lists.{put}
use Rattle.machine.specs.Plan.{Plan, offset}
use Rattle.machine.specs.Machine.{State, state_of, place_of, Answered, deliver}
use Rattle.machine.specs.Runs.{Event, delivery_of}
use Rattle.network.specs.Apart.{AreasApart, sender_at, taker_at, act_apart, last_apart}

-- these words are copied into the place of message m, and its status is 1, in flight
abbrev pub copied : Plan → State → ℕ → List ℕ → State
copied p s m ws = state_of s.memories (put s.buffer (offset p.messages m) ws) s.progress (set s.status m 1)

module _ (p : Plan) (source : List ℕ) (events : List Event) (m : ℕ) where
  -- the delivery of message m after these events
  abbrev pub delivery : Answered AreasApart
  delivery = act_apart p source (last_apart p source events) (delivery_of m)

  abbrev pub at_sender : State
  at_sender = last_apart p source events (sender_at p m)

  abbrev pub at_taker : State
  at_taker = last_apart p source events (taker_at p m)

  pub record ByCalls : Type 0 where
    -- the number is what the call gives at the sender's
    pub asks : (deliver p at_sender m).number ≡ delivery.number
    -- and where it is 0 the sender has what that call leaves, also if it is the taker itself
    pub sender_side : delivery.number ≡ 0 → delivery.after (sender_at p m) ≡ (deliver p at_sender m).after
    -- another processor that takes it has what the call gives there, with 0, on the copy
    pub taker_side : delivery.number ≡ 0 → sender_at p m ≢ taker_at p m
        → deliver p (copied p at_taker m (place_of p at_sender.buffer m)) m ≡ record { number = 0; after = delivery.after (taker_at p m) }
    -- and no third one is touched
    pub others : (c : ℕ) → c ≢ sender_at p m → c ≢ taker_at p m → delivery.after c ≡ last_apart p source events c
