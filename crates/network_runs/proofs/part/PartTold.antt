-- Lengths told are the lengths that fit, and a row stands at its message's rank.
use Prim.Native.Nat.{ℕ, zero, suc, ◌*◌, ◌-◌, ◌<◌}
use mathlib.Core.Path.{◌≡◌, refl, sym, ap, ◌∙◌}
use mathlib.Core.Bool.{true}
use mathlib.Core.List.{List, [], ◌∷◌}
use native.Mathlib.Omega.{arith}
use lib.ListN.{length, get_or}
use borrow.Author.Tests.{eq-eqb, eqb-true}
use Rattle.base.specs.Tests.{not}
use Rattle.base.specs.Lists.{sublist}
use Rattle.base.specs.Numbers.{line, first_of}
use Rattle.base.proofs.Tests.{both, and_true, true_not}
use Rattle.base.proofs.Select.{keep_lt, keep_at}
use Rattle.base.proofs.Lists.{part_left, part_right}
use Rattle.base.proofs.Numbers.{none_first}
use Rattle.machine.specs.Plan.{Plan, count}
use Rattle.machine.specs.Machine.{State}
use Rattle.layout.specs.RouteWords.{route_of}
use Rattle.recipe.specs.Routes.{lines_for}
use Rattle.engine.specs.Calls.{recipe}
use Rattle.network.specs.Own.{handles, handled, own_cells, kept_cells}
use Rattle.part.specs.Part.{words_of, rank_of, part_fits}
use Rattle.part_calls.specs.declared.AreaLengths.{AreaLengths}
use Rattle.part_calls.specs.front.Calls.{lengths_of, part_row, part_rows, part_fresh_call}
use Rattle.network_runs.specs.part.PartTold.{lengths_had, PartTells}
use Rattle.network_runs.proofs.part.OnePart.{past, fresh_gives}

module _ (p : Plan) (b : ℕ) where
  row_long : (m : ℕ) → length (part_row p b m) ≡ 7
  unfolding part_row
  row_long m = refl

  whole_row : (m : ℕ) → sublist (part_row p b m) 0 7 ≡ part_row p b m
  unfolding sublist part_row
  whole_row m = refl

  rows_at : (ms : List ℕ) (i : ℕ) → i < length ms → sublist (part_rows p b ms) (7 * i) 7 ≡ part_row p b (get_or ms i 0)
  unfolding part_rows
  rows_at [] i h = absurd (omega arith)
  rows_at (m ∷ ms) zero h = part_left (part_row p b m) (part_rows p b ms) 0 7 (omega (arith, row_long m)) ∙ whole_row m
  rows_at (m ∷ ms) (suc i) h =
      let z : 7 * suc i - length (part_row p b m) ≡ 7 * i = omega (arith, row_long m) in
      part_right (part_row p b m) (part_rows p b ms) (7 * suc i) 7 (omega (arith, row_long m))
      ∙ ap (λ (j : ℕ). sublist (part_rows p b ms) j 7) z ∙ rows_at ms i (omega arith)

  row_of : (m : ℕ) → m < count p → handles p b m ≡ true → sublist (part_rows p b (handled p b)) (7 * rank_of p b m) 7 ≡ part_row p b m
  row_of m lo e =
      rows_at (handled p b) (rank_of p b m) (keep_lt (handles p b) (count p) m lo e) ∙ ap (part_row p b) (keep_at (handles p b) (count p) m lo e)

  -- lengths
  fits : (source : List ℕ) (s : State) → lengths_had source s ≡ lengths_of p b → length s.progress ≡ 3 → part_fits p b s ≡ true
  unfolding lengths_of part_fits
  fits source s e r =
      and_true (eq-eqb _ _ (ap (λ (l : AreaLengths). l.kept) e))
      (and_true (eq-eqb _ _ (ap (λ (l : AreaLengths). l.words) e)) (and_true (eq-eqb _ _ r) (eq-eqb _ _ (ap (λ (l : AreaLengths). l.messages) e))))

  fitting : (source : List ℕ) (s : State) → length source ≡ length (own_cells p b) → part_fits p b s ≡ true → lengths_had source s ≡ lengths_of p b
  unfolding lengths_of part_fits
  fitting source s e f =
      let x = both f in
      let y = both x.1 in
      let z = both y.1 in
      let m : length s.memories ≡ length (kept_cells p b) = eqb-true _ _ x.0 in
      let u : length s.buffer ≡ words_of p (handled p b) = eqb-true _ _ y.0 in
      let q : length s.status ≡ length (handled p b) = eqb-true _ _ z.1 in
      rw (e, m, u, q) refl

fresh_asks : (bytes : List ℕ) (route b : ℕ) → first_of (lines_for (route_of route) bytes) ≡ 0 → b < (recipe bytes route).processors → (s : State)
    → (part_fresh_call bytes route s b).number ≡ 0 → part_fits (recipe bytes route) b s ≡ true
unfolding part_fresh_call
fresh_asks bytes route b ok low s z =
    true_not (none_first 9 (not (part_fits (recipe bytes route) b s)) [] (λ q. omega arith)
    (sym (past bytes route ok b low (line 9 (not (part_fits (recipe bytes route) b s)) ∷ [])) ∙ z)).0

pub part_tells : PartTells
part_tells bytes route b ok low =
    record {
      begins = λ source s e r. fresh_gives bytes route ok b low s (fits (recipe bytes route) b source s e r);
      then_told = λ source s e z. fitting (recipe bytes route) b source s e (fresh_asks bytes route b ok low s z);
      row = row_of (recipe bytes route) b;
    }
