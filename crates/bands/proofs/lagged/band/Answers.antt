-- `bands::lagged::band` meets its contract: the first columns, the wave, the last columns.
use native.Mathlib.Omega.{arith}
use Rattle.bands.specs.lagged.Bands.{four}
use Rattle.bands.proofs.lagged.Waves.{band_mixes, band_stored, wave_fits, tail_fits}
use Rattle.bands.proofs.lagged.band.Goals as goal

pub edge_row-requires : goal.edge_row-requires
edge_row-requires c =
    let p = c.requires.1 in
    band_mixes _ p.0.0 (four c.args.a c.args.b c.args.c c.args.d) _ _ _ _ _ _ p.0.1.0 0 _ (omega arith)
    (omega (arith, p.0.1.0.low)) _ _ p.0.1.1.0 p.0.1.1.1

pub edge_row-requires-2 : goal.edge_row-requires-2
edge_row-requires-2 c =
    let p = c.requires.1 in
    band_mixes _ p.0.0 (four c.args.a c.args.b c.args.c c.args.d) _ _ _ _ _ _ p.0.1.0 1 _ (omega arith)
    (omega (arith, p.0.1.0.low)) _ _ p.0.1.1.0 (omega arith)

pub edge_row-requires-3 : goal.edge_row-requires-3
edge_row-requires-3 c =
    let p = c.requires.1 in
    band_mixes _ p.0.0 (four c.args.a c.args.b c.args.c c.args.d) _ _ _ _ _ _ p.0.1.0 2 _ (omega arith)
    (omega (arith, p.0.1.0.low)) _ _ p.0.1.1.0 (omega arith)

pub edge_row-requires-4 : goal.edge_row-requires-4
edge_row-requires-4 c =
    let p = c.requires.1 in
    band_mixes _ p.0.0 (four c.args.a c.args.b c.args.c c.args.d) _ _ _ _ _ _ p.0.1.0 3 _ (omega arith)
    (omega (arith, p.0.1.0.low)) _ _ p.0.1.1.0 (omega arith)

pub wave-requires : goal.wave-requires
wave-requires c =
    let p = c.requires.1 in
    wave_fits _ p.0.0 (four c.args.a c.args.b c.args.c c.args.d) _ _ _ _ _ _ p.0.1.0 p.1 _ _ p.0.1.1.0 (omega arith)

pub row-requires : goal.row-requires
row-requires c =
    let p = c.requires.1 in
    tail_fits _ p.0.0 (four c.args.a c.args.b c.args.c c.args.d) _ _ _ _ _ _ p.0.1.0 1 1 _ _ (omega arith) (omega arith)
    (omega arith) p.0.1.1.0 (omega arith)

pub row-requires-2 : goal.row-requires-2
row-requires-2 c =
    let p = c.requires.1 in
    tail_fits _ p.0.0 (four c.args.a c.args.b c.args.c c.args.d) _ _ _ _ _ _ p.0.1.0 2 2 _ _ (omega arith) (omega arith)
    (omega arith) p.0.1.1.0 (omega arith)

pub row-requires-3 : goal.row-requires-3
row-requires-3 c =
    let p = c.requires.1 in
    tail_fits _ p.0.0 (four c.args.a c.args.b c.args.c c.args.d) _ _ _ _ _ _ p.0.1.0 3 3 _ _ (omega arith) (omega arith)
    (omega arith) p.0.1.1.0 (omega arith)

pub returns : goal.returns
returns c =
    λ x p.
    band_stored _ p.0.0 (four c.args.a c.args.b c.args.c c.args.d) _ _ _ _ _ _ p.0.1.0 _ _ p.0.1.1.1 p.1 _ _ _ _ _ _ _ _
    c.edge_row.ensures c.edge_row-2.ensures c.edge_row-3.ensures c.edge_row-4.ensures c.wave.ensures c.row.ensures
    c.row-2.ensures
    c.row-3.ensures
