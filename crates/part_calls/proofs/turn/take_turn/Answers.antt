-- 9 where the source has another length; else the rest, on what is found once.
use Rattle.std.specs.Prelude.{ℕ, List, replicate}
use mathlib.Core.Path.{refl, sym, subst, ◌∙◌}
use lib.ListN.{length-replicate}
use Rattle.machine.specs.Machine.{state_of}
use Rattle.plan.specs.Shaped.{plan_of}
use Rattle.tables.specs.Given.{plan_of_table}
use Rattle.network.specs.Own.{keeps}
use Rattle.part_calls.specs.front.Given.{Cells}
use Rattle.part_calls.proofs.front.Front as front
use Rattle.part_calls.proofs.turn.Turned as turned
use Rattle.part_calls.proofs.turn.take_turn.Goals as goal

pub returns-then-source-own_count : goal.returns-then-source-own_count
returns-then-source-own_count c =
    let A = c.args in
    let p = plan_of A.layout.now.sizes.route A.layout.now.nest in
    λ l h. turned.no_source p A.b A.source.now (state_of A.memory.now A.mail.now l A.marks.now)
    (λ q. c.if-source-own_count.true (q ∙ sym c.own_count.ensures.0))

pub prepare-messages-requires : goal.prepare-messages-requires
prepare-messages-requires c = record { routed = c.requires.routed; low = c.requires.low; lengths = (refl, (refl, refl)) }

pub slice_bounds-kept-end : goal.slice_bounds-kept-end
slice_bounds-kept-end c =
    let A = c.args in
    front.cells_fit A.layout.now.nest A.layout.now.sizes A.b A.layout.now.sized (replicate {A = ℕ} 16384 0) (length-replicate {A = ℕ} 16384 0)

pub slice_bounds-keep_cells-end : goal.slice_bounds-keep_cells-end
slice_bounds-keep_cells-end c =
    let A = c.args in
    front.lent_cells A.layout.now.nest A.layout.now.sizes A.b A.layout.now.sized (replicate {A = ℕ} 16384 0) (length-replicate {A = ℕ} 16384 0)

pub keep_cells-many-requires : goal.keep_cells-many-requires
keep_cells-many-requires c =
    let A = c.args in (
      c.prepare-messages.ensures.known.0.low,
      (
        rw c.prepare-messages.ensures.table
            (front.lent_long A.layout.now.nest A.layout.now.sizes A.b A.layout.now.sized (replicate {A = ℕ} 16384 0)
            (length-replicate {A = ℕ} 16384 0)),
        refl,
      ),
    )

pub slice_bounds-kept-end-2 : goal.slice_bounds-kept-end-2
slice_bounds-kept-end-2 c =
    let A = c.args in
    let keep-cells = c.keep_cells-many in
    front.back_room A.layout.now.nest A.layout.now.sizes A.b A.layout.now.sized (replicate {A = ℕ} 16384 0) keep-cells.new.kept (length-replicate {A = ℕ}
    16384 0) keep-cells.auto.kept

pub slice_bounds-turn_in-end : goal.slice_bounds-turn_in-end
slice_bounds-turn_in-end c =
    let A = c.args in
    let keep-cells = c.keep_cells-many in
    front.back_lent A.layout.now.nest A.layout.now.sizes A.b A.layout.now.sized (replicate {A = ℕ} 16384 0) keep-cells.new.kept (length-replicate {A = ℕ}
    16384 0) keep-cells.auto.kept

pub turn_in-requires : goal.turn_in-requires
turn_in-requires c =
    let S = c in
    let A = S.args in
    let keep-cells = c.keep_cells-many in
    let found = c.prepare-messages in
    let if1 = c.if-source-own_count in
    let own-count =
    c.own_count in
    let p = plan_of_table found.result.table in
    let is = front.back_is A.layout.now.nest A.layout.now.sizes A.b A.layout.now.sized (replicate {A = ℕ} 16384 0) keep-cells.new.kept (length-replicate {A =
    ℕ} 16384 0) keep-cells.auto.kept in record {
      tables = (
        record {
          known = found.ensures.known.0;
          cells = subst (λ (k : List ℕ). Cells found.result.table.layout.nest (keeps p A.b) k keep-cells.new.counts) (sym is) keep-cells.ensures.0;
        },
        (record { messages = found.ensures.known.1; kept = keep-cells.ensures.1 }, S.requires.words_len),
      );
      source_len = rw found.ensures.table (if1.false ∙ own-count.ensures.0);
    }

pub returns : goal.returns
returns c = λ l h. rw (sym c.prepare-messages.ensures.table) (c.turn_in.ensures l h)
