use mathlib.Core.Bool.{false≢true}
use mathlib.Core.Path.{sym, ap, ◌∙◌}
use Rattle.std.specs.Prelude.{eqb, length}
use Rattle.machine.specs.Machine.{state_of}
use Rattle.plan.specs.Shaped.{plan_of}
use Rattle.engine.proofs.Lines as lines
use Rattle.engine.proofs.inner.areas_fit.Goals as goal

pub returns-then-source-cells : goal.returns-then-source-cells
returns-then-source-cells c =
    let A = c.args in (
      λ l h. lines.no_source (plan_of A.table.now.layout.sizes.route A.table.now.layout.nest) A.source.now (state_of A.memories.now A.buffer.now l A.status.now)
          (λ q. c.if-source-cells.true (q ∙ sym c.args.table.now.layout.sized.cells)),
      λ q. absurd (false≢true q),
    )

pub returns-then-memories-processors : goal.returns-then-memories-processors
returns-then-memories-processors c =
    let A = c.args in (
      λ l h. lines.no_memories (plan_of A.table.now.layout.sizes.route A.table.now.layout.nest) A.source.now (state_of A.memories.now A.buffer.now l A.status.now)
          (λ q. c.if-memories-processors.true (q ∙ sym (lines.area_is A.table.now.layout.nest A.table.now.layout.sizes c.args.table.now.layout.sized))),
      λ q. absurd (false≢true q),
    )

pub returns-then-buffer-t : goal.returns-then-buffer-t
returns-then-buffer-t c =
    let A = c.args in (
      λ l h. lines.no_buffer (plan_of A.table.now.layout.sizes.route A.table.now.layout.nest) A.source.now (state_of A.memories.now A.buffer.now l A.status.now)
          (λ q. c.if-buffer-t.true (q ∙ sym c.totals-t.ensures.1.0)),
      λ q. absurd (false≢true q),
    )

pub returns-then-words-processors : goal.returns-then-words-processors
returns-then-words-processors c =
    let A = c.args in (
      λ l h. lines.no_progress (plan_of A.table.now.layout.sizes.route A.table.now.layout.nest) A.source.now (state_of A.memories.now A.buffer.now l A.status.now)
          (λ q. c.if-words-processors.true (h ∙ q ∙ sym (lines.records_are A.table.now.layout.nest A.table.now.layout.sizes c.args.table.now.layout.sized))),
      λ q. absurd (false≢true q),
    )

pub returns : goal.returns
returns c =
    let A = c.args in
    let T = c.totals-t.ensures in
    let e = c.if-words-processors.false ∙ lines.records_are A.table.now.layout.nest A.table.now.layout.sizes c.args.table.now.layout.sized in (
      λ l h. ap (eqb (length A.status.now)) T.0 ∙ lines.by_status (plan_of A.table.now.layout.sizes.route A.table.now.layout.nest) A.source.now (state_of A.memories.now
          A.buffer.now l A.status.now) (c.if-source-cells.false ∙ c.args.table.now.layout.sized.cells) (c.if-memories-processors.false ∙ lines.area_is A.table.now.layout.nest A.table.now.layout.sizes c.args.table.now.layout.sized)
          (c.if-buffer-t.false ∙ T.1.0) (sym h ∙ e),
      λ _. e,
    )
