-- Laws of the view at a processor's memory: its number by the line that counts, and its part.
use Rattle.std.specs.Prelude.{◌≡◌, ℕ, ◌+◌, ◌-◌, ◌*◌, ◌<◌, ◌≤◌, false, ltb, leb, ◌≢◌, List, [], ◌∷◌, length, take, drop}
use mathlib.Core.Path.{sym, ap, ◌∙◌}
use native.Mathlib.Nat.{mul-le-mul_right, suc-mul}
use native.Mathlib.Omega.{arith}
use borrow.Author.Tests.{eq-eqb, ne_eqb, lt-ltb, le-ltb, le-leb}
use Rattle.base.specs.Tests.{◌and◌, not}
use Rattle.base.specs.Lists.{sublist}
use Rattle.base.specs.Numbers.{Line, line, first_of}
use Rattle.base.proofs.Tests.{and_true, and_false, and_no, not-true, not-false, pick_true, pick_false}
use Rattle.base.proofs.Numbers.{first_true, first_false, first_some, first_behind}
use Rattle.machine.specs.Plan.{Plan}
use Rattle.tenants.specs.Tenants.{of_tenant}
use Rattle.nest.specs.Reader.{read_lines}
use Rattle.nest.proofs.Numbered.{numbered}
use Rattle.layout.specs.RouteWords.{route_of}
use Rattle.recipe.proofs.Laws.{reads_for}
use Rattle.engine.specs.Calls.{recipe}
use Rattle.engine.proofs.Lines.{Opened}
use Rattle.sharing.specs.Calls.{memories_long, view_number, view_part}
use Rattle.sharing.specs.view.Given.{SeenAt}
use Rattle.sharing.specs.declared.view.inner.Seen.{Seen}

module _ (bytes a c : List ℕ) (o b : ℕ) where
  pub look_read : (n : ℕ) → n ≡ first_of (read_lines bytes) → n ≢ 0 → n ≡ view_number bytes a c o b
  look_read n e h = e ∙ sym (first_some (read_lines bytes) _ (λ q. h (e ∙ q)))

  module _ (p : Plan) (op : Opened bytes 0 p) where
    lines : Plan → List Line
    lines q = line 9 (not (memories_long q a and memories_long q c)) ∷ line 11 (not (leb o 1 and ltb b q.processors)) ∷ []

    view_at : first_of (lines p) ≡ view_number bytes a c o b
    unfolding lines
    view_at =
        ap (λ (q : Plan). first_of (lines q)) op.is
        ∙ sym (first_behind (read_lines bytes) (lines (recipe bytes 0)) (numbered bytes) (reads_for (route_of 0) bytes op.none))

    pub look_first : length a ≢ p.processors * p.cells → 9 ≡ view_number bytes a c o b
    unfolding lines
    look_first n = sym (first_true 9 _ _ (not-false (and_false _ _ (ne_eqb _ _ n)))) ∙ view_at

    pub look_second : length c ≢ p.processors * p.cells → 9 ≡ view_number bytes a c o b
    unfolding lines
    look_second n = sym (first_true 9 _ _ (not-false (and_no _ _ (ne_eqb _ _ n)))) ∙ view_at

    module _ (first : length a ≡ p.processors * p.cells) (second : length c ≡ p.processors * p.cells) where
      behind : first_of (lines p) ≡ first_of (line 11 (not (leb o 1 and ltb b p.processors)) ∷ [])
      unfolding lines
      behind = first_false 9 _ _ (not-true (and_true (eq-eqb _ _ first) (eq-eqb _ _ second)))

      pub look_tenant : leb o 1 ≡ false → 11 ≡ view_number bytes a c o b
      look_tenant e = sym (behind ∙ first_true 11 _ _ (not-false (and_false _ _ e))) ∙ view_at

      pub look_beyond : p.processors ≤ b → 11 ≡ view_number bytes a c o b
      look_beyond h = sym (behind ∙ first_true 11 _ _ (not-false (and_no _ _ (le-ltb b p.processors h)))) ∙ view_at

      found : o ≤ 1 → b < p.processors → first_of (line 11 (not (leb o 1 and ltb b p.processors)) ∷ []) ≡ 0
      unfolding first_of
      found h k = first_false 11 (not (leb o 1 and ltb b p.processors)) [] (not-true (and_true (le-leb o 1 h) (lt-ltb b p.processors k)))

      pub look_found : o ≤ 1 → b < p.processors → 0 ≡ view_number bytes a c o b
      look_found h k = sym (behind ∙ found h k) ∙ view_at

  -- ---- the part

  module _ (n : ℕ) (e : n ≡ view_number bytes a c o b) where
    pub part_none : n ≢ 0 → [] ≡ view_part bytes a c o b
    unfolding view_part
    part_none h = sym (pick_false _ _ _ (ne_eqb _ 0 (λ q. h (e ∙ q))))

    module _ (z : n ≡ 0) (start words : ℕ) (s : start ≡ b * (recipe bytes 0).cells) (w : words ≡ (recipe bytes 0).cells) where
      part_of : take (start + words - start) (drop start (of_tenant o a c)) ≡ view_part bytes a c o b
      unfolding view_part sublist
      part_of =
          ap (λ (k : ℕ). take k (drop start (of_tenant o a c))) (size start words ∙ w)
          ∙ ap (λ (k : ℕ). take (recipe bytes 0).cells (drop k (of_tenant o a c))) s
          ∙ sym (pick_true _ _ _ (eq-eqb _ 0 (sym e ∙ z)))
        where
          size : (i k : ℕ) → i + k - i ≡ k
          size i k = omega arith

      pub part_first : o ≡ 0 → take (start + words - start) (drop start a) ≡ view_part bytes a c o b
      unfolding of_tenant
      part_first h = ap (λ (l : List ℕ). take (start + words - start) (drop start l)) (sym (pick_true _ a c (eq-eqb o 0 h))) ∙ part_of

      pub part_second : o ≢ 0 → take (start + words - start) (drop start c) ≡ view_part bytes a c o b
      unfolding of_tenant
      part_second h = ap (λ (l : List ℕ). take (start + words - start) (drop start l)) (sym (pick_false _ a c (ne_eqb o 0 h))) ∙ part_of

-- a processor's part ends within the memories
pub part_inside : (n b c : ℕ) → b < n → b * c + c ≤ n * c
part_inside n b c h = omega (arith, suc-mul b c, mul-le-mul_right c h)

-- ---- what `view_at` gives, for memories of these lengths

pub seen_at : (p q : Plan) → p ≡ q → (first second b n cells : ℕ) (r : Seen) → first ≡ n * cells → second ≡ n * cells → cells ≡ p.cells
    → b < n → n * cells ≤ 1048576 → r.start ≡ b * cells → r.words ≡ cells → SeenAt q first second b r
seen_at p q e first second b n cells r f s c h low x y =
    rw (sym e)
    (record {
      start = x ∙ ap (λ (k : ℕ). b * k) c;
      words = y ∙ c;
      in_first = omega (arith, x, y, f, part_inside n b cells h);
      in_second = omega (arith, x, y, s, part_inside n b cells h);
      word = omega (arith, x, y, low, part_inside n b cells h);
    })
