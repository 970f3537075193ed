-- `writer::fits` meets its contract: each table's test, one after the other.
use Prim.Native.Nat.{◌*◌}
use mathlib.Core.Path.{◌≡◌}
use Rattle.std.proofs.Common.{rules}
use Rattle.base.specs.Tests.{◌and◌}
use Rattle.writer.specs.Writing.{fits_in, fits}
use Rattle.writer.proofs.Tables.{as_they_stand}
use Rattle.writer.proofs.fits.Goals as goal

pub returns-then-nest-lt4294967296 : goal.returns-then-nest-lt4294967296
unfolding fits ◌and◌
returns-then-nest-lt4294967296 c =
    let lengths : c.fits_in-lengths.result ≡ fits_in c.args.nest.dimensions 65536 c.args.nest.lengths = c.fits_in-lengths.ensures _ (as_they_stand _ (λ x y m. search rules)) in
    let tiling : c.fits_in-tiling.result ≡ fits_in c.args.nest.dimensions 65536 c.args.nest.tiling = c.fits_in-tiling.ensures _ (as_they_stand _ (λ x y m. search rules)) in
    let counts : c.fits_in-counts.result ≡ fits_in c.args.nest.dimensions 65536 c.args.nest.counts = c.fits_in-counts.ensures _ (as_they_stand _ (λ x y m. search rules)) in
    let components : c.fits_in-components.result ≡ fits_in (4 * c.args.nest.distances) 65536 c.args.nest.components = c.fits_in-components.ensures _ (as_they_stand _ (λ x y m. search rules)) in
    let weights : c.fits_in-weights.result ≡ fits_in c.args.nest.distances 65536 c.args.nest.weights = c.fits_in-weights.ensures _ (as_they_stand _ (λ x y m. search rules)) in
    search rules

pub returns-else-nest-lt4294967296 : goal.returns-else-nest-lt4294967296
unfolding fits ◌and◌
returns-else-nest-lt4294967296 c =
    let lengths : c.fits_in-lengths.result ≡ fits_in c.args.nest.dimensions 65536 c.args.nest.lengths = c.fits_in-lengths.ensures _ (as_they_stand _ (λ x y m. search rules)) in
    let tiling : c.fits_in-tiling.result ≡ fits_in c.args.nest.dimensions 65536 c.args.nest.tiling = c.fits_in-tiling.ensures _ (as_they_stand _ (λ x y m. search rules)) in
    let counts : c.fits_in-counts.result ≡ fits_in c.args.nest.dimensions 65536 c.args.nest.counts = c.fits_in-counts.ensures _ (as_they_stand _ (λ x y m. search rules)) in
    let components : c.fits_in-components.result ≡ fits_in (4 * c.args.nest.distances) 65536 c.args.nest.components = c.fits_in-components.ensures _ (as_they_stand _ (λ x y m. search rules)) in
    let weights : c.fits_in-weights.result ≡ fits_in c.args.nest.distances 65536 c.args.nest.weights = c.fits_in-weights.ensures _ (as_they_stand _ (λ x y m. search rules)) in
    search rules
