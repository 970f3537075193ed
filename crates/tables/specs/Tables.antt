-- For contracts below the calls: no reader needs it.
-- The table of a nest, without bounds or with them, and where a message of its plan is found by it.
-- No sentence of document 02.
use Rattle.std.specs.Prelude.{ℕ, ◌+◌, ◌≤◌, ◌<◌, ◌≡◌, ◌≢◌, List, length}
use Rattle.machine.specs.Plan as machine
use Rattle.machine.specs.Plan.{count, held_by, message}
use Rattle.nest.specs.declared.Nest.{Nest}
use Rattle.plan.specs.declared.Route.{Route}
use Rattle.plan.specs.Messages.{slots, slot_message}
use Rattle.plan.specs.Shaped.{shaped_slots, shaped_message, plan_of}
use Rattle.layout.specs.declared.Sizes.{Sizes}
use Rattle.layout.specs.Sizes.{Sized, Routed}
use Rattle.tables.specs.declared.scans.MessageSlot.{MessageSlot}
use Rattle.tables.specs.boxes.Table.{Table}
use Rattle.tables.specs.shaped_table.Table.{ShapedTable}

pub record Tabled (x : Nest) (z : Sizes) (lens : List ℕ) : Type 0 where
  pub routed : Routed x z
  pub box : x.bounds ≡ 0 → Table z.route x lens
  pub shape : x.bounds ≢ 0 → ShapedTable x lens

-- all that the code below the calls is given of a nest: its counts and its table
abbrev pub Planned : Nest → Sizes → List ℕ → Type 0
Planned x z lens = Sized x z × Tabled x z lens

-- message m of the nest's plan is found at p, being that of p's slot
pub record FoundIn (r : Route) (x : Nest) (m : ℕ) (p : MessageSlot) : Type 0 where
  pub number : p.number ≡ m
  pub low : m < count (plan_of r x)
  pub offset : p.offset ≡ machine.offset (plan_of r x).messages m
  pub words : p.words ≡ length (held_by (plan_of r x) m)
  pub full : 0 < p.words
  pub room : p.offset + p.words ≤ machine.words (plan_of r x)
  pub box : x.bounds ≡ 0 → (p.slot < slots r x) × (message (plan_of r x) m ≡ slot_message r x p.slot)
  pub shape : x.bounds ≢ 0 → (p.slot < shaped_slots x) × (message (plan_of r x) m ≡ shaped_message x p.slot)
