-- `reader::fields::byte_at` meets its contract: a byte is below 256.
use native.Mathlib.Omega.{arith}
use Rattle.reader.proofs.fields.byte_at.Goals as goal

pub returns : goal.returns
returns c = record { value = c.from.ensures; upper_bound = omega (arith, c.from.ensures, c.type_inv.encoded c.args.at) }
