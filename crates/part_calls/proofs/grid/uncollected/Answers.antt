-- `grid::uncollected` meets its contract: each return by the line that counts.
use mathlib.Core.Path.{refl, sym, ◌∙◌}
use native.Mathlib.Omega.{arith}
use Rattle.plan.specs.Shaped.{plan_of}
use Rattle.part_calls.proofs.Collecting as collecting
use Rattle.part_calls.proofs.grid.uncollected.Goals as goal
use Rattle.part_calls.proofs.grid.uncollected.Goals.{then-memory-many-via-then-memory-many, then-memory-many-via-else-memory-many+then-progress-ne3, then-memory-many-via-else-memory-many+else-progress-ne3+then-grid-table}

pub bounds-words-0 : goal.bounds-words-0
bounds-words-0 c = omega (arith, c.requires.1.1)

pub bounds-words-1 : goal.bounds-words-1
bounds-words-1 c = omega (arith, c.requires.1.1)

pub bounds-words-2 : goal.bounds-words-2
bounds-words-2 c = omega (arith, c.requires.1.1)

pub returns-then-not-fit_own-clause-lines : goal.returns-then-not-fit_own-clause-lines
returns-then-not-fit_own-clause-lines c =
    let A = c.args in
    let if1 = c.if-memory-many in
    let if2 = c.if-progress-ne3 in
    let if3 = c.if-grid-table in
    let fit-own = c.fit_own in
    let if4 = c.if-not-fit_own in
    let kept-many = c.requires.1.0 in
    λ l h. collecting.unfit (plan_of A.table.now.layout.sizes.route A.table.now.layout.nest) A.b c.requires.0 A.memory.now l A.grid.now (if1.false ∙ kept-many)
    (sym h.counted ∙ if2.false) (if3.false ∙ c.args.table.now.layout.sized.cells) A.progress h
    fit-own.result fit-own.ensures if4.true

pub bounds-words-0-2 : goal.bounds-words-0-2
bounds-words-0-2 c = omega (arith, c.requires.1.1)

pub returns-then-words-tile_count-clause-lines : goal.returns-then-words-tile_count-clause-lines
returns-then-words-tile_count-clause-lines c =
    let A = c.args in
    let if1 = c.if-memory-many in
    let if2 = c.if-progress-ne3 in
    let if3 = c.if-grid-table in
    let fit-own = c.fit_own in
    let if4 = c.if-not-fit_own in
    let tile-count = c.tile_count in
    let if5 = c.if-words-tile_count in
    let kept-many = c.requires.1.0 in
    λ l h. collecting.left (plan_of A.table.now.layout.sizes.route A.table.now.layout.nest) A.b c.requires.0 A.memory.now l A.grid.now (if1.false ∙ kept-many)
    (sym h.counted ∙ if2.false) (if3.false ∙ c.args.table.now.layout.sized.cells) A.progress h
    fit-own.result fit-own.ensures if4.false
    _ tile-count.result refl tile-count.ensures.0 if5.true

pub returns-clause-lines : goal.returns-clause-lines
returns-clause-lines c =
    let A = c.args in
    let if1 = c.if-memory-many in
    let if2 = c.if-progress-ne3 in
    let if3 = c.if-grid-table in
    let fit-own = c.fit_own in
    let if4 = c.if-not-fit_own in
    let tile-count = c.tile_count in
    let if5 = c.if-words-tile_count in
    let kept-many = c.requires.1.0 in
    λ l h. collecting.none (plan_of A.table.now.layout.sizes.route A.table.now.layout.nest) A.b c.requires.0 A.memory.now l A.grid.now (if1.false ∙ kept-many)
    (sym h.counted ∙ if2.false) (if3.false ∙ c.args.table.now.layout.sized.cells) A.progress h
    fit-own.result fit-own.ensures if4.false
    _ tile-count.result refl tile-count.ensures.0 if5.false

pub returns-then-memory-many-clause-lines : goal.returns-then-memory-many-clause-lines
returns-then-memory-many-clause-lines c =
    let A = c.args in
    let p = plan_of A.table.now.layout.sizes.route A.table.now.layout.nest in
    let kept-many = c.requires.1.0 in
    elim c.then-memory-many.branch [
      | then-memory-many-via-then-memory-many w ↦
          λ l h. collecting.no_memory p A.b c.requires.0 A.memory.now l A.grid.now (λ q. w.if-memory-many.true (q ∙ sym kept-many))
      | then-memory-many-via-else-memory-many+then-progress-ne3 w ↦
          λ l h. collecting.no_record p A.b c.requires.0 A.memory.now l A.grid.now (λ q. w.if-progress-ne3.true (h.counted ∙ q))
      | then-memory-many-via-else-memory-many+else-progress-ne3+then-grid-table w ↦
          λ l h. collecting.no_grid p A.b c.requires.0 A.memory.now l A.grid.now (λ q. w.if-grid-table.true (q ∙ sym c.args.table.now.layout.sized.cells))
    ]

pub returns-clause-lengths : goal.returns-clause-lengths
returns-clause-lengths c = (c.if-memory-many.false ∙ c.requires.1.0, c.if-grid-table.false ∙ c.args.table.now.layout.sized.cells)
