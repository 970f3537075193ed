-- For contracts below the calls: no reader needs it.
-- What the code of a round is given: the nest's table, its messages listed and chained; and what a tile leaves.
-- No sentence of document 02.
use Rattle.std.specs.Prelude.{◌≡◌, ℕ, ◌<◌, ◌≤◌, List, [], ◌∷◌, map, length, ◌==◌, slice_index, Result, Ok, Err}
use Rattle.base.specs.declared.refusal.Refusal.{Refusal}
use Rattle.base.specs.Tests.{pick, those}
use Rattle.base.specs.Lists.{put, pack, set_all, store_all}
use Rattle.machine.specs.Plan.{Plan, count, offset, held_by, sends_of, dues_of}
use Rattle.machine.specs.Machine.{unpack_all}
use Rattle.nest.specs.declared.Nest.{Nest}
use Rattle.plan.specs.Shaped.{plan_of}
use Rattle.layout.specs.declared.Sizes.{Sizes}
use Rattle.tables.specs.boxes.Table.{end_of}
use Rattle.rounds.specs.Rounds.{greatest, last_of, tile_round}
use Rattle.schedule.specs.Index.{Listed, Chained}

-- the chain of the messages by the tile at an end, beside a mark for each
pub record Mailed (x : Nest) (z : Sizes) (side : ℕ) (chain status : List ℕ) : Type 0 where
  pub chained : Chained (end_of side (plan_of z.route x)) (count (plan_of z.route x)) chain
  pub marks : length status ≡ count (plan_of z.route x)
  pub few : count (plan_of z.route x) ≤ 7168

-- the messages listed, and chained by both ends
pub record Indexed (x : Nest) (z : Sizes) (lens spots sends dues : List ℕ) : Type 0 where
  pub listed : Listed z.route x lens spots
  pub by_sender : Chained (end_of 0 (plan_of z.route x)) (count (plan_of z.route x)) sends
  pub by_taker : Chained (end_of 1 (plan_of z.route x)) (count (plan_of z.route x)) dues
  pub few : count (plan_of z.route x) ≤ 7168

-- the n messages listed, and chained by their takers
pub record Dued (x : Nest) (z : Sizes) (lens spots dues : List ℕ) (n : ℕ) : Type 0 where
  pub listed : Listed z.route x lens spots
  pub by_taker : Chained (end_of 1 (plan_of z.route x)) (count (plan_of z.route x)) dues
  pub all : n ≡ count (plan_of z.route x)

-- ---- what a whole tile leaves

-- the buffer with messages packed from a memory, one after the other
unfoldable pub put_all : Plan → List ℕ → List ℕ → List ℕ → List ℕ
put_all p memory buffer [] = buffer
put_all p memory buffer (m ∷ ms) = put_all p memory (put buffer (offset p.messages m) (pack memory (held_by p m))) ms

-- its processor's memory, gathered and calculated
abbrev pub memory_then : Plan → List ℕ → List ℕ → List ℕ → ℕ → List ℕ
memory_then p source buffer memory t = store_all (p.value source) (unpack_all p buffer memory (dues_of p t)) (p.cells_of t)

-- the marks: what was due is taken, what it sends is in flight
abbrev pub status_then : Plan → List ℕ → ℕ → List ℕ
status_then p status t = set_all (set_all status (dues_of p t) 3) (sends_of p t) 1

-- a mark once mail in flight is delivered
unfoldable pub mark_then : ℕ → ℕ
mark_then m = pick (m == 1) 2 m

-- the rounds that the driver tells: none at a refusal
abbrev pub rounds_told : Result ℕ Refusal → ℕ
rounds_told (Ok n) = n
rounds_told (Err _) = 0

-- ---- each tile's round

-- the rounds of the tiles before t stand in the table
pub record TellsTo (p : Plan) (table : List ℕ) (t : ℕ) : Type 0 where
  pub long : length table ≡ p.tiles
  pub low : t ≤ p.tiles
  pub each : (u : ℕ) → u < t → slice_index table u ≡ tile_round p u

-- the round of processor b's last tile before t, 0 where it has none
unfoldable pub last_before : Plan → ℕ → ℕ → ℕ
last_before p b t = greatest (map (tile_round p) (last_of (those p.processor_of b t)))

pub record Lasts (p : Plan) (lasts : List ℕ) (t : ℕ) : Type 0 where
  pub each : (b : ℕ) → b < p.processors → slice_index lasts b ≡ last_before p b t
