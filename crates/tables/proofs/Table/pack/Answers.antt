-- `tables::pack` meets its contract.
use mathlib.Core.Path.{sym, ap, ◌∙◌}
use Rattle.base.specs.Lists.{pack}
use Rattle.tables.proofs.Laws as L
use Rattle.tables.proofs.Table.pack.Goals as goal

pub pack-requires : goal.pack-requires
pack-requires c = (
  (c.requires.sized.box c.if-self-eq0.true).0,
  (
    c.requires.memory_len.0,
    L.box_long c.args.self.now.layout.nest c.args.self.now.layout.sized.accepted
        c.args.self.now.layout.sizes.route c.if-self-eq0.true c.args.place.number _ c.args.place c.requires.sized c.requires.memory_len.1,
  ),
)

pub returns-then-self-eq0 : goal.returns-then-self-eq0
returns-then-self-eq0 c =
    c.pack.ensures ∙ ap (λ l. pack c.args.memory.now l)
    (sym (L.box_held c.args.self.now.layout.nest c.args.self.now.layout.sized.accepted c.args.self.now.layout.sizes.route c.if-self-eq0.true c.args.place.number
    c.args.place c.requires.sized))

pub nonzero_div-slot : goal.nonzero_div-slot
nonzero_div-slot c =
    L.some_ways c.args.self.now.layout.nest c.args.self.now.layout.sized.accepted c.args.self.now.layout.sizes.route c.if-self-eq0.false
    (c.args.self.now.tabled.routed c.if-self-eq0.false) c.args.place.number c.args.place c.requires.sized c.args.self.now.layout.sizes.ways
    c.args.self.now.layout.sized.ways

pub box_of-tile-requires : goal.box_of-tile-requires
box_of-tile-requires c = (
  c.args.self.now.layout.sized.accepted,
  (
    (c.args.self.now.tabled.shape c.if-self-eq0.false).owned.tiled,
    L.sender_low c.args.self.now.layout.nest
        c.args.self.now.layout.sized.accepted c.args.self.now.layout.sizes.route c.if-self-eq0.false (c.args.self.now.tabled.routed c.if-self-eq0.false)
        c.args.place.number c.args.place c.requires.sized c.args.self.now.layout.sizes.ways c.args.self.now.layout.sized.ways,
  ),
)

pub nonzero_rem-slot : goal.nonzero_rem-slot
nonzero_rem-slot c =
    L.some_ways c.args.self.now.layout.nest c.args.self.now.layout.sized.accepted c.args.self.now.layout.sizes.route c.if-self-eq0.false
    (c.args.self.now.tabled.routed c.if-self-eq0.false) c.args.place.number c.args.place c.requires.sized c.args.self.now.layout.sizes.ways
    c.args.self.now.layout.sized.ways

pub pack-requires-2 : goal.pack-requires-2
pack-requires-2 c =
    record {
      sized = (
        c.args.self.now.tabled.routed c.if-self-eq0.false,
        (
          c.box_of-tile.ensures.1,
          L.way_low c.args.self.now.layout.nest c.args.self.now.layout.sized.accepted c.args.self.now.layout.sizes.route c.if-self-eq0.false
              (c.args.self.now.tabled.routed c.if-self-eq0.false) c.args.place.number c.args.place c.requires.sized
              c.args.self.now.layout.sizes.ways
              c.args.self.now.layout.sized.ways,
        ),
      );
      memory_len = (
        c.requires.memory_len.0,
        L.shape_long c.args.self.now.layout.nest c.args.self.now.layout.sized.accepted c.args.self.now.layout.sizes.route
            c.if-self-eq0.false (c.args.self.now.tabled.routed c.if-self-eq0.false) c.args.place.number c.args.place c.requires.sized
            c.args.self.now.layout.sizes.ways c.args.self.now.layout.sized.ways _ _ c.box_of-tile.ensures.0 c.requires.memory_len.1,
      );
    }

pub returns : goal.returns
returns c =
    c.pack-2.ensures ∙ ap (λ l. pack c.args.memory.now l)
    (sym (L.shape_held c.args.self.now.layout.nest c.args.self.now.layout.sized.accepted c.args.self.now.layout.sizes.route c.if-self-eq0.false
    (c.args.self.now.tabled.routed c.if-self-eq0.false) c.args.place.number c.args.place c.requires.sized c.args.self.now.layout.sizes.ways
    c.args.self.now.layout.sized.ways _ c.box_of-tile.ensures.0))
