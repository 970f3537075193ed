-- `reader::fields::count_distances` meets its contract: no kind is counted more often than there are records.
use native.Mathlib.Omega.{arith}
use Rattle.nest.proofs.Laws as L
use Rattle.reader.proofs.fields.count_distances.Goals as goal

pub overflow_add-result : goal.overflow_add-result
overflow_add-result c =
    omega (
      arith,
      c.count_kind-narrow.ensures,
      c.count_kind-wide.ensures,
      L.kinds_few c.args.encoded.now 2,
      L.kinds_few c.args.encoded.now 4,
    )

pub returns : goal.returns
returns c = rw (c.count_kind-narrow.ensures, c.count_kind-wide.ensures)
