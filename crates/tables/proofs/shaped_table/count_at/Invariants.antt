-- `tables::shaped_table::count_at` meets its contract: of the slots before s.
use Prim.Native.Nat.{◌-◌, ◌≤◌}
use mathlib.Core.Path.{◌≡◌}
use Rattle.plan.specs.Shaped.{shaped_message, shaped_slots}
use Rattle.tables.specs.shaped_table.Table.{end_of}
use Rattle.tables.proofs.scans.Laws.{seen}
use Rattle.tables.proofs.shaped_table.count_at.Given as goal

abbrev pub invariant-loop-s : goal.invariant-loop-s
invariant-loop-s l = (l.s ≤ l.end) × (l.count ≡ seen (shaped_message l.layout.nest) (shaped_slots l.layout.nest) (end_of l.side) l.tile l.s)

abbrev pub decreases-loop-s : goal.decreases-loop-s
decreases-loop-s l = l.end - l.s
