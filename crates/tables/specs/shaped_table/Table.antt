-- For contracts below the calls: no reader needs it.
-- The table of a nest with bounds: message lengths by slot; behind them the tiles' numbers in the box, their processors, and how many tiles there are.
-- No sentence of document 02.
use Rattle.std.specs.Prelude.{ℕ, suc, zero, ◌+◌, ◌*◌, ◌≤◌, ◌<◌, ◌≡◌, ◌≢◌, List, length, get_or, ltb}
use Rattle.base.specs.Tests.{those}
use Rattle.machine.specs.Plan.{Plan, Message, count, sender_of, taker_of}
use Rattle.nest.specs.declared.Nest.{Nest}
use Rattle.nest.specs.Nest.{box_tiles}
use Rattle.nest.specs.Places.{tile_at}
use Rattle.nest.specs.Shape.{exists, tiles}
use Rattle.plan.specs.Geometry.{processor_of}
use Rattle.plan.specs.Messages.{ahead, directions}
use Rattle.plan.specs.Shaped.{box_tile, shaped_slot_parcel, shaped_message, shaped_slots}

-- `marks` says of each tile of the box whether it holds a cell of the shape
pub record Marks (x : Nest) (marks : List ℕ) : Type 0 where
  pub long : length marks ≡ 16384
  pub each : (u : ℕ) → u < box_tiles x → ltb 0 (get_or marks u 0) ≡ exists x u

-- the first n tiles' numbers in the box stand from place 7,168 on
pub record Numbered (x : Nest) (lens : List ℕ) (n : ℕ) : Type 0 where
  pub long : length lens ≡ 9217
  pub low : n ≤ tiles x
  pub boxes : (t : ℕ) → t < n → get_or lens (7168 + t) 0 ≡ box_tile x t

-- all of them, and how many there are
pub record Tiles (x : Nest) (lens : List ℕ) : Type 0 where
  pub numbers : Numbered x lens (tiles x)
  pub count : get_or lens 9216 0 ≡ tiles x

-- and, from place 8,192 on, the processors of the first n
pub record Owned (x : Nest) (lens : List ℕ) (n : ℕ) : Type 0 where
  pub tiled : Tiles x lens
  pub owners : (t : ℕ) → t < n → get_or lens (8192 + t) 0 ≡ processor_of x (box_tile x t)

-- and the lengths of the first n slots' parcels
pub record Filling (x : Nest) (lens : List ℕ) (n : ℕ) : Type 0 where
  pub owned : Owned x lens (tiles x)
  pub low : n ≤ shaped_slots x
  pub each : (s : ℕ) → s < n → get_or lens s 0 ≡ length (shaped_slot_parcel x s)

-- tile p is an earlier one, and along each way its parcel is as long as that of tile t
pub record Like (x : Nest) (t p : ℕ) : Type 0 where
  pub later : p < t
  pub same : (w : ℕ) → w < directions x → length (shaped_slot_parcel x (t * directions x + w)) ≡ length (shaped_slot_parcel x (p * directions x + w))

abbrev pub ShapedTable : Nest → List ℕ → Type 0
ShapedTable x lens = Filling x lens (shaped_slots x)

-- how far the box's number of t plus v is from that of t
pub record Steps (x : Nest) (steps : List ℕ) : Type 0 where
  pub each : (w : ℕ) → w < directions x → get_or steps w 0 ≡ tile_at x (ahead x (w + 1))

-- the tile at an end of a message: 0 the sender, else the taker
abbrev pub end_of : ℕ → Message → ℕ
end_of zero m = m.sender
end_of (suc i) m = m.taker

-- messages with tile t at that end stand among the slots from the first number on, below the second
pub record Ranged (x : Nest) (side t first end : ℕ) : Type 0 where
  pub first_low : first ≤ end
  pub end_low : end ≤ shaped_slots x
  pub before : (s : ℕ) → s < first → 0 < length (shaped_slot_parcel x s) → end_of side (shaped_message x s) ≢ t
  pub after : (s : ℕ) → end ≤ s → s < shaped_slots x → 0 < length (shaped_slot_parcel x s) → end_of side (shaped_message x s) ≢ t

-- the messages with tile t at that end: sends (0) or dues
abbrev pub at_end : ℕ → Plan → ℕ → List ℕ
at_end zero p t = those (sender_of p) t (count p)
at_end (suc i) p t = those (taker_of p) t (count p)
