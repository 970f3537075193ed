-- `tables::fill` meets its contract.
use Rattle.tables.proofs.fill.Goals as goal

pub fill-requires : goal.fill-requires
fill-requires c = (c.if-layout-eq0.true, c.requires.lens_len)

pub returns-then-layout-eq0 : goal.returns-then-layout-eq0
returns-then-layout-eq0 c = record { routed = c.requires.routed; box = λ h. c.fill.ensures; shape = λ h. absurd (h c.if-layout-eq0.true) }

pub fill-requires-2 : goal.fill-requires-2
fill-requires-2 c = (c.requires.routed c.if-layout-eq0.false, c.requires.lens_len)

pub returns : goal.returns
returns c = record { routed = c.requires.routed; box = λ h. absurd (c.if-layout-eq0.false h); shape = λ h. c.fill-2.ensures }
