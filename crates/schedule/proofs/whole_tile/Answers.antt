-- Gathered, calculated and sent.
use native.Mathlib.Omega.{arith}
use mathlib.Core.Path.{ap, ◌∙◌}
use Rattle.std.specs.Prelude.{ℕ, List}
use Rattle.base.specs.Lists.{set_all, store_all}
use Rattle.plan.specs.Shaped.{plan_of}
use Rattle.machine.specs.Plan.{sends_of}
use Rattle.schedule.proofs.Listing as L
use Rattle.schedule.proofs.whole_tile.Goals as goal

pub gather-requires : goal.gather-requires
gather-requires c =
    record {
      planned = c.requires.indexed.0.listed;
      mailed = (
        record { chained = c.requires.indexed.0.by_taker; marks = c.requires.buffer_len.1; few = c.requires.indexed.0.few },
        omega (arith, c.requires.indexed.1, L.tiles_few _ _ _ c.args.table.now.layout.sized c.args.table.now.tabled),
      );
      memory_len = (c.requires.source_len.1, c.requires.buffer_len.0);
    }

pub calculate-requires : goal.calculate-requires
calculate-requires c = record { sized = c.requires.indexed.1; source_len = (c.requires.source_len.0, c.gather.auto.memory ∙ c.requires.source_len.1) }

pub send-requires : goal.send-requires
send-requires c =
    let gather = c.gather in record {
      planned = c.requires.indexed.0.listed;
      mailed = (
        record { chained = c.requires.indexed.0.by_sender; marks = gather.auto.status ∙ c.requires.buffer_len.1; few = c.requires.indexed.0.few },
        omega (arith, c.requires.indexed.1, L.tiles_few _ _ _ c.args.table.now.layout.sized c.args.table.now.tabled),
      );
      memory_len = (c.calculate.auto.memory ∙ (gather.auto.memory ∙ c.requires.source_len.1), c.requires.buffer_len.0);
    }

pub returns : goal.returns
returns c =
    let calculate = c.calculate in
    let gather = c.gather in
    let send = c.send in (
      calculate.ensures ∙ ap (λ (m : List ℕ). store_all ((plan_of c.args.table.now.layout.sizes.route c.args.table.now.layout.nest).value c.args.source.now) m
          ((plan_of c.args.table.now.layout.sizes.route c.args.table.now.layout.nest).cells_of c.args.t)) gather.ensures.0,
      (
        send.ensures.0,
        send.ensures.1 ∙ ap (λ (l : List ℕ). set_all l (sends_of (plan_of c.args.table.now.layout.sizes.route c.args.table.now.layout.nest) c.args.t) 1)
            gather.ensures.1,
      ),
    )
