-- Each mark is at most 3, or one is above.
use Rattle.std.proofs.Common.{rules, ◌≤◌, ◌<◌}
use borrow.Author.Tests.{tests}
use Rattle.std.proofs.lemmas.Iterator.{cases_from_all, YieldsList-from_slice}
use Rattle.stages.proofs.Parts.{every_low}
use Rattle.stages.proofs.fit_status.Goals as goal

pub returns : goal.returns
returns c =
    every_low c.args.status.now 3 c.all.result
    (cases_from_all _ _ _ (λ x. x ≤ 3) (λ x. 3 < x) c.all.ensures.ran (YieldsList-from_slice c.args.status.now cc)
    (λ x q k. search (rules, tests)) (λ x q k. search (rules, tests)))
