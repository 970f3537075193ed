-- `writer::bounds_fit` meets its contract: each table's test, one after the other.
use mathlib.Core.Path.{◌≡◌}
use Rattle.std.proofs.Common.{rules}
use Rattle.base.specs.Tests.{◌and◌}
use Rattle.writer.specs.Writing.{fits_in, bounds_fit}
use Rattle.writer.proofs.Tables.{as_they_stand}
use Rattle.writer.proofs.bounds_fit.Goals as goal

pub returns-then-slopes : goal.returns-then-slopes
unfolding bounds_fit ◌and◌
returns-then-slopes c =
    let sides : c.fits_in-sides.result ≡ fits_in c.args.nest.bounds 256 c.args.nest.sides = c.fits_in-sides.ensures _ (as_they_stand _ (λ x y m. search rules)) in
    let bounded : c.fits_in-bounded.result ≡ fits_in c.args.nest.bounds 256 c.args.nest.bounded = c.fits_in-bounded.ensures _ (as_they_stand _ (λ x y m. search rules)) in
    let earlier : c.fits_in-earlier.result ≡ fits_in c.args.nest.bounds 256 c.args.nest.earlier = c.fits_in-earlier.ensures _ (as_they_stand _ (λ x y m. search rules)) in
    let slopes : c.fits_in-slopes.result ≡ fits_in c.args.nest.bounds 256 c.args.nest.slopes = c.fits_in-slopes.ensures _ (as_they_stand _ (λ x y m. search rules)) in
    let offsets : c.fits_in-offsets.result ≡ fits_in c.args.nest.bounds 65536 c.args.nest.offsets = c.fits_in-offsets.ensures _ (as_they_stand _ (λ x y m. search rules)) in
    search rules

pub returns-else-slopes : goal.returns-else-slopes
unfolding bounds_fit ◌and◌
returns-else-slopes c =
    let sides : c.fits_in-sides.result ≡ fits_in c.args.nest.bounds 256 c.args.nest.sides = c.fits_in-sides.ensures _ (as_they_stand _ (λ x y m. search rules)) in
    let bounded : c.fits_in-bounded.result ≡ fits_in c.args.nest.bounds 256 c.args.nest.bounded = c.fits_in-bounded.ensures _ (as_they_stand _ (λ x y m. search rules)) in
    let earlier : c.fits_in-earlier.result ≡ fits_in c.args.nest.bounds 256 c.args.nest.earlier = c.fits_in-earlier.ensures _ (as_they_stand _ (λ x y m. search rules)) in
    let slopes : c.fits_in-slopes.result ≡ fits_in c.args.nest.bounds 256 c.args.nest.slopes = c.fits_in-slopes.ensures _ (as_they_stand _ (λ x y m. search rules)) in
    let offsets : c.fits_in-offsets.result ≡ fits_in c.args.nest.bounds 65536 c.args.nest.offsets = c.fits_in-offsets.ensures _ (as_they_stand _ (λ x y m. search rules)) in
    search rules
