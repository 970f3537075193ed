-- `calls::rolwyddac_write` meets its contract: the writer's own, and each number is a value of its argument's type.
use native.Mathlib.Omega.{arith}
use Rattle.calls.proofs.rolwyddac_write.Goals as goal

pub returns : goal.returns
returns c =
    record {
      gave = c.write.ensures;
      typed =
          record {
            lengths = λ i. omega (arith, c.shared_slice_known-1.given i);
            tiling = λ i. omega (arith, c.shared_slice_known-2-1.given i);
            counts = λ i. omega (arith, c.shared_slice_known-3-1.given i);
            components = λ i. omega (arith, c.shared_slice_known-4-1.given i);
            weights = λ i. omega (arith, c.shared_slice_known-5-1.given i);
            sides = λ i. omega (arith, c.shared_slice_known-6-1.given i);
            bounded = λ i. omega (arith, c.shared_slice_known-7-1.given i);
            earlier = λ i. omega (arith, c.shared_slice_known-8-1.given i);
            slopes = λ i. omega (arith, c.shared_slice_known-9-1.given i);
            offsets = λ i. omega (arith, c.shared_slice_known-10-1.given i);
            shift = omega (arith, c.ranges.shift);
            boundary = omega (arith, c.ranges.boundary);
          };
    }
