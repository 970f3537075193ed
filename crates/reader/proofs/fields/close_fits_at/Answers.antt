-- `reader::fields::close_fits_at` meets its contract: each return by its branches.
use mathlib.Core.Path.{sym, ◌∙◌}
use borrow.Author.Tests.{lt-leb, le-leb}
use Rattle.base.proofs.Tests.{and_left, and_false}
use Rattle.reader.proofs.fields.close_fits_at.Goals as goal

pub returns-then-from-r : goal.returns-then-from-r
returns-then-from-r c = c.close_fits.ensures ∙ sym (and_left _ _ (le-leb _ _ c.if-from-r.true))

pub returns-else-from-r : goal.returns-else-from-r
returns-else-from-r c =
    let before = lt-leb _ _ c.if-from-r.false in
    before ∙ sym (and_false _ _ before)
