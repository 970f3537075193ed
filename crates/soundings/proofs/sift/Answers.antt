-- `soundings::sift` meets its contract: the records passed name cells of the box, and are noted.
use mathlib.Core.Path.{◌≡◌, sym, ◌∙◌}
use mathlib.Core.Bool.{true≢false}
use native.Mathlib.Omega.{arith}
use Rattle.nest.specs.Reader.{records}
use Rattle.soundings.proofs.Sifting as S
use borrow.Author.Tests.{leb-false}
use Rattle.soundings.proofs.sift.Goals as goal

pub loop-r-init : goal.loop-r-init
loop-r-init c = record { few = omega arith; in_box = S.off_none _ _; sifted = c.requires.1 }

pub returns-then-beyond_box : goal.returns-then-beyond_box
returns-then-beyond_box c =
    record {
      value = S.off_yes _ _ c.loop-r.r _ c.loop-r-test.true c.cell_of-cell.ensures
          (sym c.beyond_box.ensures ∙ c.if-beyond_box.true);
      sifted = λ e. absurd (true≢false e);
    }

pub note-requires : goal.note-requires
note-requires c =
    let inside = leb-false c.args.size c.cell_of-cell.result (sym c.beyond_box.ensures ∙ c.if-beyond_box.false) in
    (c.loop-r-test.true, (omega (arith, c.requires.0, inside), c.loop-r.invariant.sifted.long))

pub loop-r-preserved : goal.loop-r-preserved
loop-r-preserved c =
    let x = c.loop-r.invariant in
    let inside = sym c.beyond_box.ensures ∙ c.if-beyond_box.false in
    record {
      few = omega arith;
      in_box = S.off_more _ _ _ _ x.in_box c.cell_of-cell.ensures inside;
      sifted = S.sifted_more
          _ (λ i. omega (arith, c.type_inv.file i)) _ _ _ _ _ x.sifted c.cell_of-cell.ensures
          (leb-false _ _ inside) c.requires.0 _ c.note.ensures;
    }

pub returns : goal.returns
returns c =
    let x = c.loop-r.invariant in
    let e : c.loop-r.r ≡ records c.args.file.now = omega (arith, x.few, c.loop-r-test.false) in
    record { value = S.off_end _ _ _ e x.in_box; sifted = λ z. rw e at x.sifted }
