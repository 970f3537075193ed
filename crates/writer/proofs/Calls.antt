-- What writing answers, by the line that counts; and the returns of `write_nest`.
use Prim.Native.Nat.{ℕ, ◌+◌, ◌*◌, ◌≤◌, ◌<◌}
use mathlib.Core.Path.{◌≡◌, refl, sym, ap, ◌∙◌}
use mathlib.Core.Logic.{◌≢◌}
use mathlib.Core.Bool.{Bool, true, false}
use mathlib.Core.List.{List, [], ◌∷◌, ◌++◌}
use native.Mathlib.Omega.{arith}
use native.Mathlib.Decide.{ℕ_discrete}
use lib.ListN.{length, get_or, take}
use lib.Seq.{ext_get_or, get_or-take, length-take-le}
use lib.Dec.{eqb}
use borrow.Author.Tests.{eq-eqb, ne_eqb, leb-true}
use Rattle.base.specs.Tests.{not}
use Rattle.base.specs.Numbers.{line, first_of}
use Rattle.base.proofs.Tests.{both, not-true, not-false, is_true, pick_true, pick_false}
use Rattle.base.proofs.Numbers.{first_nil, first_true, first_false, first_some, first_behind}
use Rattle.machine.specs.Machine.{Answered, answered}
use Rattle.nest.specs.declared.Nest.{Nest}
use Rattle.nest.specs.Reader.{filled, read_lines}
use Rattle.nest.specs.Encode.{encode}
use Rattle.nest.proofs.Laws.{filled_length, filled_in}
use Rattle.nest.proofs.Numbered.{numbered}
use Rattle.writer.specs.Writing.{written, write_lines, writing, nest_writable, write_nest_call}
use Rattle.writer.proofs.Places.{encode_length}

-- ---- by the line that counts

refused : (k : ℕ) (new old : List ℕ) → k ≢ 0 → answered k new old ≡ written k old
refused k new old h = ap (written k) (pick_false _ new old (ne_eqb k 0 h))

done : (k : ℕ) (new old : List ℕ) → k ≡ 0 → answered k new old ≡ written 0 new
done k new old h = rw h (ap (written 0) (pick_true (eqb 0 0) new old refl))

module _ (can : Bool) (b s : List ℕ) where
  by_line : (k : ℕ) → first_of (write_lines can b (length s)) ≡ k → k ≢ 0 → writing can b s ≡ written k s
  unfolding writing
  by_line k e h = rw e (refused k b s h)

  pub two : can ≡ false → writing can b s ≡ written 2 s
  unfolding write_lines
  two h = by_line 2 (first_true 2 (not can) _ (not-false h)) (λ e. omega arith)

  module _ (h : can ≡ true) where
    pub line_read : first_of (write_lines can b (length s)) ≡ first_of (read_lines b ++ (line 9 (not (eqb (length s) (length b))) ∷ []))
    unfolding write_lines
    line_read = first_false 2 (not can) _ (not-true h)

    pub number : first_of (read_lines b) ≢ 0 → writing can b s ≡ written (first_of (read_lines b)) s
    number r = by_line (first_of (read_lines b)) (line_read ∙ first_some (read_lines b) _ r) r

    line_room : first_of (read_lines b) ≡ 0 → first_of (write_lines can b (length s)) ≡ first_of (line 9 (not (eqb (length s) (length b))) ∷ [])
    line_room z = line_read ∙ first_behind (read_lines b) _ (numbered b) z

    pub nine : first_of (read_lines b) ≡ 0 → length s ≢ length b → writing can b s ≡ written 9 s
    nine z q = by_line 9 (line_room z ∙ first_true 9 (not (eqb (length s) (length b))) [] (not-false (ne_eqb _ _ q))) (λ e. omega arith)

    pub produces : first_of (read_lines b) ≡ 0 → length s ≡ length b → writing can b s ≡ written 0 b
    unfolding writing
    produces z q = done _ b s (line_room z ∙ (first_false 9 (not (eqb (length s) (length b))) [] (not-true (eq-eqb _ _ q)) ∙ first_nil))

  pub untouched : (writing can b s).number ≢ 0 → (writing can b s).after ≡ s
  unfolding writing
  untouched h = ap (λ (w : Answered (List ℕ)). w.after) (refused _ b s h)

  pub record Done : Type 0 where
    pub can_be : can ≡ true
    pub accepted : first_of (read_lines b) ≡ 0
    pub after : (writing can b s).after ≡ b

  after_is : (writing can b s).number ≡ 0 → (writing can b s).after ≡ b
  unfolding writing
  after_is e = ap (λ (w : Answered (List ℕ)). w.after) (done _ b s e)

  pub was_done : (writing can b s).number ≡ 0 → Done
  was_done h = record { can_be = can_be; accepted = accepted (ℕ_discrete (first_of (read_lines b)) 0); after = after_is h }
    where
      can_be : can ≡ true
      can_be = is_true (λ e. let z = ap (λ (w : Answered (List ℕ)). w.number) (two e) in omega (arith, z, h))

      accepted : Dec (first_of (read_lines b) ≡ 0) → first_of (read_lines b) ≡ 0
      accepted (yes z) = z
      accepted (no z) = absurd (z (sym (ap (λ (w : Answered (List ℕ)). w.number) (number can_be z)) ∙ h))

-- ---- the returns

pub writable_few : (x : Nest) → nest_writable x ≡ true → (x.dimensions ≤ 4) × (x.distances ≤ 8) × (x.bounds ≤ 4)
unfolding nest_writable
writable_few x h =
    let p = both h in
    let q = both p.1 in
    let r = both q.1 in
    (leb-true _ _ p.0, leb-true _ _ q.0, leb-true _ _ r.0)

module _ (x : Nest) (s : List ℕ) where
  pub not_writable : nest_writable x ≡ false → written 2 s ≡ write_nest_call x s
  unfolding write_nest_call
  not_writable h = sym (two (nest_writable x) (encode x) s h)

  module _ (can : nest_writable x ≡ true) (k : ℕ) (b : List ℕ)
      (len : k ≡ 16 * (x.dimensions + x.bounds + x.distances + 1))
      (is : b ≡ filled 272 (16 * (x.dimensions + x.bounds + x.distances + 1)) (λ (p : ℕ). get_or (encode x) p 0)) where
    few : (x.dimensions ≤ 4) × (x.distances ≤ 8) × (x.bounds ≤ 4)
    few = writable_few x can

    room : k ≤ 272
    room = omega (arith, few.0, few.1, few.2)

    long : length (encode x) ≡ k
    long = encode_length x ∙ sym len

    byte_is : (i : ℕ) → i < k → get_or b i 0 ≡ get_or (encode x) i 0
    byte_is i h =
        rw is (filled_in 272 (λ (p : ℕ). get_or (encode x) p 0) (16 * (x.dimensions + x.bounds + x.distances + 1)) i (omega arith) (omega (arith, room)))

    pub part_long : length (take k b) ≡ k
    part_long = let l : length b ≡ 272 = ap length is ∙ filled_length 272 _ _ in length-take-le k b (rw l room)

    recipe_is : take k b ≡ encode x
    recipe_is =
        ext_get_or 0 (take k b) (encode x) (part_long ∙ sym long)
        (λ i h. let q : i < k = rw part_long at h in get_or-take k b i 0 q ∙ byte_is i q)

    module _ (r : ℕ) (read : r ≡ first_of (read_lines (take k b))) where
      read_is : first_of (read_lines (encode x)) ≡ r
      read_is = sym (read ∙ ap (λ (l : List ℕ). first_of (read_lines l)) recipe_is)

      pub refused_by : r ≢ 0 → written r s ≡ write_nest_call x s
      unfolding write_nest_call
      refused_by z = ap (λ (n : ℕ). written n s) (sym read_is) ∙ sym (number (nest_writable x) (encode x) s can (λ q. z (sym read_is ∙ q)))

      pub no_room : r ≡ 0 → length s ≢ k → written 9 s ≡ write_nest_call x s
      unfolding write_nest_call
      no_room z q = sym (nine (nest_writable x) (encode x) s can (read_is ∙ z) (λ e. q (e ∙ long)))

      pub recipe_written : r ≡ 0 → length s ≡ k → (t : List ℕ) → t ≡ take k b → written 0 t ≡ write_nest_call x s
      unfolding write_nest_call
      recipe_written z q t e = ap (written 0) (e ∙ recipe_is) ∙ sym (produces (nest_writable x) (encode x) s can (read_is ∙ z) (q ∙ sym long))
