-- For contracts below the calls: no reader needs it.
-- The table of message lengths by slot of a nest without bounds, and where a message is found by it.
-- No sentence of document 01.
use Rattle.std.specs.Prelude.{ℕ, suc, zero, ◌+◌, ◌-◌, ◌*◌, ◌%◌, ◌≤◌, ◌<◌, ◌≡◌, Bool, List, length, get_or}
use Rattle.base.specs.Tests.{one, those}
use Rattle.machine.specs.Plan as machine
use Rattle.machine.specs.Plan.{Plan, count, message, sender_of, taker_of}
use Rattle.nest.specs.declared.Nest.{Nest}
use Rattle.nest.specs.Nest.{box_tiles}
use Rattle.plan.specs.declared.Route.{Route}
use Rattle.plan.specs.Messages.{ways, slots, slot_parcel, slot_message, messages, box_plan}
use Rattle.layout.specs.Sizes.{end_at}
use Rattle.parcels.specs.Twins.{Twin}
use Rattle.tables.specs.declared.scans.MessageSlot.{MessageSlot}

-- the nest has no bounds, and `lens` has the length of each slot's parcel
pub record Table (r : Route) (x : Nest) (lens : List ℕ) : Type 0 where
  pub plain : x.bounds ≡ 0
  pub long : length lens ≡ 9217
  pub each : (s : ℕ) → s < slots r x → get_or lens s 0 ≡ length (slot_parcel r x s)

-- so far for the first s slots
pub record Filling (r : Route) (x : Nest) (lens : List ℕ) (s : ℕ) : Type 0 where
  pub plain : x.bounds ≡ 0
  pub low : s ≤ slots r x
  pub long : length lens ≡ 9217
  pub each : (i : ℕ) → i < s → get_or lens i 0 ≡ length (slot_parcel r x i)

-- the n places of a dimension from `at` on have one before them, or two, and after them another of full length
pub record Likes (at : ℕ) (two : Bool) (tiling length n : ℕ) : Type 0 where
  pub each : (i : ℕ) → i < n → (one two < at + i) × ((at + i + 2) * tiling ≤ length)
  pub few : n ≤ 1024

-- the n tiles from t on have parcels as long as those of the tiles k before them
pub record Twins (r : Route) (x : Nest) (t k n : ℕ) : Type 0 where
  pub room : t + n ≤ box_tiles x
  pub far : 0 < n → (1 ≤ k) × (k ≤ t)
  pub each : (i : ℕ) → i < n → Twin r x (t + i) (t + i - k)

-- the tile at an end of a message: 0 the sender, else the taker
abbrev pub end_of : ℕ → Plan → ℕ → ℕ
end_of zero p m = sender_of p m
end_of (suc i) p m = taker_of p m

-- the messages with tile t at that end: sends (0) or dues
abbrev pub at_end : ℕ → Plan → ℕ → List ℕ
at_end side p t = those (end_of side p) t (count p)

-- q is the only slot along way w whose message has tile t at that end; it is no slot, if there is none
pub record Only (r : Route) (x : Nest) (side t w q : ℕ) : Type 0 where
  pub there : q < slots r x → (q % ways r x ≡ w) × ((end_at r x side q ≡ t) × (0 < length (slot_parcel r x q)))
  pub only : (s : ℕ) → s < slots r x → s % ways r x ≡ w → end_at r x side s ≡ t → 0 < length (slot_parcel r x s) → s ≡ q

-- `ends` has that slot for each way
pub record Ends (r : Route) (x : Nest) (side t : ℕ) (ends : List ℕ) : Type 0 where
  pub each : (w : ℕ) → w < ways r x → Only r x side t w (get_or ends w 0)

-- message m is found at p
pub record FoundAt (r : Route) (x : Nest) (m : ℕ) (p : MessageSlot) : Type 0 where
  pub number : p.number ≡ m
  pub low : m < count (box_plan r x)
  pub offset : p.offset ≡ machine.offset (messages r x) m
  pub slot : p.slot < slots r x
  pub is : message (box_plan r x) m ≡ slot_message r x p.slot
  pub words : p.words ≡ length (slot_parcel r x p.slot)
  pub full : 0 < p.words
  pub room : p.offset + p.words ≤ machine.words (box_plan r x)
