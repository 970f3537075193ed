-- `listing::messages_part` meets its contract: each return by the line that counts.
use Rattle.std.specs.Prelude.{ℕ, ◌*◌}
use mathlib.Core.Path.{refl, sym, ap, ◌∙◌}
use native.Mathlib.Omega.{arith}
use Rattle.tables.specs.Given.{plan_of_table}
use Rattle.part_calls.proofs.front.Front as front
use Rattle.part_calls.proofs.Rows as rows
use Rattle.part_calls.proofs.listing.messages_part.Goals as goal

pub prepare-messages-requires : goal.prepare-messages-requires
prepare-messages-requires c = record { routed = c.requires.routed; low = c.requires.low; lengths = (refl, (refl, refl)) }

pub offset_bounds-ordinals-messages : goal.offset_bounds-ordinals-messages
offset_bounds-ordinals-messages c =
    let A = c.args in
    let found = c.prepare-messages in
    omega (arith, front.last_low found.result.table A.b _ _ found.ensures.known.0 found.result.messages found.ensures.known.1)

pub bounds-ordinals-messages : goal.bounds-ordinals-messages
bounds-ordinals-messages c =
    let A = c.args in
    let found = c.prepare-messages in
    front.last_low found.result.table A.b _ _ found.ensures.known.0 found.result.messages found.ensures.known.1

pub overflow_cast-ordinals : goal.overflow_cast-ordinals
overflow_cast-ordinals c =
    let A = c.args in
    let found = c.prepare-messages in
    let p = plan_of_table found.result.table in
    omega (
      arith,
      rows.rank_few p A.b _ _ (front.all_handled found.result.table A.b _ _ found.ensures.known.0
          found.result.messages found.ensures.known.1),
      found.ensures.known.1,
      found.ensures.known.0.few,
    )

pub overflow_mul-ordinals : goal.overflow_mul-ordinals
overflow_mul-ordinals c =
    let A = c.args in
    let found = c.prepare-messages in
    let p = plan_of_table found.result.table in
    omega (
      arith,
      rows.rank_few p A.b _ _ (front.all_handled found.result.table A.b _ _ found.ensures.known.0
          found.result.messages found.ensures.known.1),
      found.ensures.known.1,
      found.ensures.known.0.few,
    )

pub returns-then-out-ordinals : goal.returns-then-out-ordinals
returns-then-out-ordinals c =
    let A = c.args in
    let found = c.prepare-messages in
    let if1 = c.if-out-ordinals in
    let p = plan_of_table found.result.table in
    rw (sym found.ensures.table)
    (rows.rows_nine p A.b A.out.now _ (front.all_handled found.result.table A.b _ _
    found.ensures.known.0 found.result.messages found.ensures.known.1) if1.true)

pub put_rows-requires : goal.put_rows-requires
put_rows-requires c =
    let found = c.prepare-messages in
    let if1 = c.if-out-ordinals in
    let A = c.args in record {
      known = (found.ensures.known.0, found.ensures.known.1);
      out_len = if1.false ∙ ap (λ (n : ℕ). 7 * n) (front.all_handled found.result.table A.b _ _ found.ensures.known.0 found.result.messages
          found.ensures.known.1);
    }

pub returns : goal.returns
returns c =
    let A = c.args in
    let found = c.prepare-messages in
    let if1 = c.if-out-ordinals in
    let put-rows = c.put_rows in
    let p = plan_of_table found.result.table in
    rw (sym found.ensures.table)
    (rows.rows_done p A.b A.out.now _ (front.all_handled found.result.table A.b _ _
    found.ensures.known.0 found.result.messages found.ensures.known.1) if1.false _ put-rows.ensures)
