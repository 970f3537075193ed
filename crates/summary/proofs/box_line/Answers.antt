-- `summary::box_line` meets its contract.
use native.Mathlib.Omega.{arith}
use Rattle.tables.proofs.shaped_table.Laws.{box_few}
use Rattle.summary.proofs.Answers as L
use Rattle.summary.proofs.box_line.Goals as goal

pub end_of-sender-requires : goal.end_of-sender-requires
end_of-sender-requires c = (c.requires.1.box c.requires.0).0

pub end_of-taker-requires : goal.end_of-taker-requires
end_of-taker-requires c = (c.requires.1.box c.requires.0).0

pub processor_of-from-requires : goal.processor_of-from-requires
processor_of-from-requires c = omega (arith, c.end_of-sender.ensures, L.from_low _ _ _ _ c.args.layout.now.sized.accepted c.requires.1 c.requires.0)

pub processor_of-to-requires : goal.processor_of-to-requires
processor_of-to-requires c = omega (arith, c.end_of-taker.ensures, L.to_low _ _ _ _ c.args.layout.now.sized.accepted c.requires.1 c.requires.0)

pub overflow_cast-result : goal.overflow_cast-result
overflow_cast-result c =
    omega (
      arith,
      c.end_of-sender.ensures,
      L.from_low _ _ _ _ c.args.layout.now.sized.accepted c.requires.1 c.requires.0,
      box_few _ c.args.layout.now.sized.accepted,
    )

pub overflow_cast-result-2 : goal.overflow_cast-result-2
overflow_cast-result-2 c =
    omega (
      arith,
      c.end_of-taker.ensures,
      L.to_low _ _ _ _ c.args.layout.now.sized.accepted c.requires.1 c.requires.0,
      box_few _ c.args.layout.now.sized.accepted,
    )

pub overflow_cast-result-5 : goal.overflow_cast-result-5
overflow_cast-result-5 c = omega (arith, L.box_words _ _ _ _ c.args.layout.now.sized.accepted c.requires.1 c.requires.0)

pub returns : goal.returns
returns c =
    let end_of_lem = c.end_of-sender in
    let end-of2 = c.end_of-taker in
    let processor-of = c.processor_of-from in
    let processor-of2 = c.processor_of-to in
    L.box_line_is _ _ _ _ c.args.layout.now.sized.accepted c.requires.1 c.requires.0 end_of_lem.result end-of2.result processor-of.result
    processor-of2.result end_of_lem.ensures end-of2.ensures processor-of.ensures.0 processor-of2.ensures.0
