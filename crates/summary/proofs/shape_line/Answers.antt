-- `summary::shape_line` meets its contract.
use mathlib.Core.Path.{refl}
use Prim.Native.Nat.{◌/◌}
use native.Mathlib.Omega.{arith}
use Rattle.tables.proofs.Laws.{some_ways, sender_low}
use Rattle.summary.proofs.Answers as L
use Rattle.summary.proofs.shape_line.Goals as goal

pub nonzero_div-sender : goal.nonzero_div-sender
nonzero_div-sender c =
    some_ways _ c.args.table.now.layout.sized.accepted _ c.requires.sized (c.args.table.now.tabled.routed c.requires.sized) _ _ c.requires.found_in _
    c.args.table.now.layout.sized.ways

pub taker_of-taker-requires : goal.taker_of-taker-requires
taker_of-taker-requires c = (
  c.args.table.now.tabled.routed c.requires.sized,
  (c.args.table.now.tabled.shape c.requires.sized, (c.requires.found_in.shape c.requires.sized).0),
)

pub owner_of-from-requires : goal.owner_of-from-requires
owner_of-from-requires c = (
  c.args.table.now.layout.sized.accepted,
  (
    (c.args.table.now.tabled.shape c.requires.sized).owned,
    sender_low _ c.args.table.now.layout.sized.accepted _ c.requires.sized (c.args.table.now.tabled.routed c.requires.sized) _ _ c.requires.found_in _
        c.args.table.now.layout.sized.ways,
  ),
)

pub owner_of-to-requires : goal.owner_of-to-requires
owner_of-to-requires c = (
  c.args.table.now.layout.sized.accepted,
  (
    (c.args.table.now.tabled.shape c.requires.sized).owned,
    L.shape_taker_low _ _ _ _ c.args.table.now.layout.sized.accepted c.requires.found_in c.requires.sized
        (c.args.table.now.tabled.routed c.requires.sized) _
        (c.taker_of-taker.ensures (L.shape_full _ _ _ _ c.args.table.now.layout.sized.accepted c.requires.found_in c.requires.sized)),
  ),
)

pub overflow_cast-result : goal.overflow_cast-result
overflow_cast-result c =
    omega (
      arith,
      sender_low _ c.args.table.now.layout.sized.accepted _ c.requires.sized (c.args.table.now.tabled.routed c.requires.sized) _ _ c.requires.found_in _
          c.args.table.now.layout.sized.ways,
      c.args.table.now.layout.sized.accepted.tiles_most,
    )

pub overflow_cast-result-2 : goal.overflow_cast-result-2
overflow_cast-result-2 c =
    omega (
      arith,
      L.shape_taker_low _ _ _ _ c.args.table.now.layout.sized.accepted c.requires.found_in c.requires.sized (c.args.table.now.tabled.routed c.requires.sized)
          _ (c.taker_of-taker.ensures (L.shape_full _ _ _ _ c.args.table.now.layout.sized.accepted c.requires.found_in c.requires.sized)),
      c.args.table.now.layout.sized.accepted.tiles_most,
    )

pub overflow_cast-result-5 : goal.overflow_cast-result-5
overflow_cast-result-5 c = omega (arith, L.shape_words _ _ _ _ c.args.table.now.layout.sized.accepted c.requires.found_in c.requires.sized)

pub returns : goal.returns
returns c =
    let taker-of = c.taker_of-taker in
    let owner_of = c.owner_of-from in
    let owner-of2 = c.owner_of-to in
    L.shape_line_is _ _ _ _ c.args.table.now.layout.sized.accepted c.requires.found_in c.requires.sized (c.args.table.now.tabled.routed c.requires.sized)
    c.args.table.now.layout.sizes.ways (c.args.place.slot / c.args.table.now.layout.sizes.ways) taker-of.result owner_of.result owner-of2.result
    c.args.table.now.layout.sized.ways refl (taker-of.ensures (L.shape_full _ _ _ _ c.args.table.now.layout.sized.accepted c.requires.found_in c.requires.sized))
    owner_of.ensures.0 owner-of2.ensures.0
