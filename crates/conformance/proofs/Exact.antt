-- Demand 2 to the letter: what is proved of messages, of reads, of journeys, of orders and of the report's programs, put together.
use Prim.Native.Nat.{ℕ, ◌<◌}
use mathlib.Core.Logic.{◌↔◌}
use Rattle.base.specs.Lists.{In}
use Rattle.machine.specs.Plan.{count, held_by}
use Rattle.nest.specs.declared.Nest.{Nest}
use Rattle.nest.specs.Accepted.{Accepted}
use Rattle.plan.specs.declared.Route.TheVariants.{Direct, Indirect}
use Rattle.plan.specs.Messages.{passed, box_plan}
use Rattle.conformance.specs.Exact.{cells_by, MessageBy, Read, Exact}
use Rattle.plan.proofs.Slots.{full_in}
use Rattle.plan.proofs.Homes.{hops_all}
use Rattle.conformance.proofs.Travels.{travels}
use Rattle.conformance.proofs.Ways.{taker_apart}
use Rattle.conformance.proofs.Carried.{message, messages, one, order, once}
use Rattle.conformance.proofs.Readers.{read_as, on_its_way, forwarded}
use Rattle.conformance.proofs.Nested.{cells_in_order, tiles_in_order, tile_in_order, sweep_is}
use Rattle.conformance.proofs.Program.{cell_order, tile_order, processor_order, direction_order, program}
use Rattle.conformance.proofs.Tiled.{tiled_is}

-- ---- what a message holds

module _ (x : Nest) (ok : Accepted x) where
  pub reads : (m c : ℕ) → m < count (box_plan Direct x) → In c (held_by (box_plan Direct x) m) ↔ Read x m c
  reads m c h = let a = message x ok Direct m h in read_as x ok m a.0 a.1.0 c a.1.1

  held_on : (m t q c : ℕ) → MessageBy Indirect x m t q → {P : Type 0} → In c (passed x t q) ↔ P → In c (held_by (box_plan Indirect x) m) ↔ P
  held_on m t q c k p = rw k.holds p

-- ---- all of it
pub exact : (x : Nest) → Accepted x → Exact x
exact x ok =
    record {
      reads = reads x ok;
      passes = λ m t q c k. held_on x ok m t q c k (on_its_way x ok t q c k.tile k.way);
      forwards = λ m t q c k. held_on x ok m t q c k (forwarded x ok t q c k.tile);
      travels = travels x ok;
      hops_are = λ more v. hops_all x v more;
      message = message x ok;
      messages = messages x ok;
      apart = λ more r t w lt h full. let f = full_in (cells_by r x t w) full in taker_apart x ok more r t w f.0 lt h f.1;
      order = order x ok;
      one = one x ok;
      once = once x ok;
      cell_order = cell_order x ok;
      tile_order = tile_order x ok;
      processor_order = processor_order x ok;
      direction_order = direction_order x ok;
      cells_in_order = cells_in_order x ok;
      tiles_in_order = tiles_in_order x ok;
      tile_in_order = tile_in_order x ok;
      program = program x ok;
      sweep_is = λ r source array len. sweep_is x ok source r array len;
      tiled_is = tiled_is x ok;
    }
