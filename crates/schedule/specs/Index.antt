-- For contracts below the calls: no reader needs it.
-- The messages of a plan listed by number, and chained by the tile at an end of each.
-- No sentence of document 02.
use Rattle.std.specs.Prelude.{◌≡◌, ℕ, suc, ◌+◌, ◌<◌, ◌≤◌, List, length, slice_index, slice_index_or}
use Rattle.base.specs.Tests.{those}
use Rattle.machine.specs.Plan.{count}
use Rattle.nest.specs.declared.Nest.{Nest}
use Rattle.plan.specs.declared.Route.{Route}
use Rattle.plan.specs.Shaped.{plan_of}
use Rattle.tables.specs.declared.scans.MessageSlot.{MessageSlot}
use Rattle.tables.specs.Tables.{FoundIn}

-- where message m is by the list: its slot is at m, its offset 7168 further
abbrev pub spot_of : List ℕ → List ℕ → ℕ → MessageSlot
spot_of lens spots m = record { slot = slice_index spots m; number = m; offset = slice_index spots (7168 + m); words = slice_index lens (slice_index spots m) }

pub record Listed (r : Route) (x : Nest) (lens spots : List ℕ) : Type 0 where
  pub long : length spots ≡ 14336
  pub few : count (plan_of r x) ≤ 7168
  pub low : (m : ℕ) → m < count (plan_of r x) → slice_index spots m < 7168
  pub found : (m : ℕ) → m < count (plan_of r x) → FoundIn r x m (spot_of lens spots m)

-- the messages from m on, of n, are chained by the tile that `end` names: the first of each tile 7168 further, then each one's next; n stands for none
pub record ChainedFrom (end : ℕ → ℕ) (n m : ℕ) (chain : List ℕ) : Type 0 where
  pub long : length chain ≡ 8192
  pub first : (t : ℕ) → t < 1024 → slice_index chain (7168 + t) ≡ slice_index_or (those end t n) (length (those end t m)) n
  pub next : (k : ℕ) → m ≤ k → k < n → slice_index chain k ≡ slice_index_or (those end (end k) n) (suc (length (those end (end k) k))) n

abbrev pub Chained : (ℕ → ℕ) → ℕ → List ℕ → Type 0
Chained end n chain = ChainedFrom end n 0 chain
