-- What a bound says in signed numbers: `Integers`, composed with the bytes that an accepted recipe has; and small shapes, computed.
use Prim.Native.Nat.{ℕ, ◌+◌, ◌*◌, ◌<◌}
use mathlib.Core.Path.{◌≡◌, refl, sym, ap, ◌∙◌}
use mathlib.Core.Logic.{◌↔◌}
use mathlib.Core.Bool.{true}
use mathlib.Core.List.{List}
use native.Mathlib.Decide.{ℕ_discrete}
use native.Mathlib.Omega.{arith}
use lib.ListN.{get_or}
use lib.Dec.{eqb}
use lib.IntN.{ℤ, pos, sub_ℕ, ◌+ℤ◌, ◌*ℤ◌}
use lib.Signed.{le_z}
use borrow.Author.Tests.{eq-eqb, ne_eqb, eqb-true}
use Rattle.base.specs.Tests.{◌and◌, ◌or◌, not, pick, every, keep, those, tabulate, product}
use Rattle.base.specs.Lists.{Bytes}
use Rattle.base.specs.Numbers.{first_of}
use Rattle.base.proofs.Tests.{both, every_at, every_all, pick_true, pick_false}
use Rattle.base.proofs.Numbers.{none_first}
use Rattle.nest.specs.declared.Nest.{Nest}
use Rattle.nest.specs.Nest.{side, bounded, earlier, slope, bound_offset, cells}
use Rattle.nest.specs.Places.{place, cell_place}
use Rattle.base.specs.Bytes.{half}
use Rattle.nest.specs.Reader.{kind, of_kind, records, distances_of, slope_at, offset_at, filled, nest_by, nest_of, ragged, fits_at}
use Rattle.nest.specs.Reader.{stray_record, read_lines}
use Rattle.nest.specs.Shape.{level, raised, meets, in_shape}
use Rattle.nest.specs.Bounds.{signed_byte, signed_half, component_of, earlier_of, line_of, Meets, BoundsMean, BoundExamples}
use Rattle.nest.proofs.Laws.{filled_in, Formed, stands_bound}
use Rattle.nest.proofs.Facts.{bound_in, stray_no}
use Rattle.nest.proofs.Integers.{line_at, meets_integers, slope_signed, offset_signed}

-- ---- the nest's bound k is that of record n + k

module _ (bytes : List ℕ) (n m e : ℕ) (b : Bytes bytes) (f : Formed bytes n m e) (k : ℕ) (l : k < m) where
  abbrev x : Nest
  x = nest_by bytes n m e

  kind_is : kind bytes (n + k) ≡ 5
  unfolding fits_at
  kind_is =
      let p = both (every_at (fits_at bytes n m e) (records bytes) f.fit (n + k) (omega (arith, f.total))) in
      eqb-true _ _ (sym (stands_bound n m e (n + k) _ (omega arith) (omega arith)) ∙ p.0)

  side_is : side x k ≡ get_or bytes (16 * (n + k) + 1) 0
  unfolding nest_by
  side_is = filled_in 4 (λ i. get_or bytes (16 * (n + i) + 1) 0) m k l f.bounds_most

  bounded_is : bounded x k ≡ get_or bytes (16 * (n + k) + 2) 0
  unfolding nest_by
  bounded_is = filled_in 4 (λ i. get_or bytes (16 * (n + i) + 2) 0) m k l f.bounds_most

  earlier_is : earlier x k ≡ get_or bytes (16 * (n + k) + 3) 0
  unfolding nest_by
  earlier_is = filled_in 4 (λ i. get_or bytes (16 * (n + i) + 3) 0) m k l f.bounds_most

  slope_is : slope x k ≡ slope_at bytes (n + k)
  unfolding nest_by
  slope_is = filled_in 4 (λ i. slope_at bytes (n + i)) m k l f.bounds_most

  offset_is : bound_offset x k ≡ offset_at bytes (n + k)
  unfolding nest_by
  offset_is = filled_in 4 (λ i. offset_at bytes (n + i)) m k l f.bounds_most

  half_low : half bytes (16 * (n + k) + 6) < 65536
  half_low = omega (arith, b (16 * (n + k) + 6), b (16 * (n + k) + 6 + 1))

  line_is : (i : ℕ → ℕ) → line_at x k i ≡ line_of bytes (n + k) i
  unfolding line_of signed_byte signed_half
  line_is i =
      ap (λ (s : ℕ). sub_ℕ s 1 *ℤ pos (i (earlier x k)) +ℤ sub_ℕ (bound_offset x k) 32768) slope_is
      ∙ (ap (λ (o : ℕ). sub_ℕ (slope_at bytes (n + k)) 1 *ℤ pos (i (earlier x k)) +ℤ sub_ℕ o 32768) offset_is
      ∙ (ap (λ (j : ℕ). sub_ℕ (slope_at bytes (n + k)) 1 *ℤ pos (i j) +ℤ sub_ℕ (offset_at bytes (n + k)) 32768) earlier_is
      ∙ (ap (λ (z : ℤ). z *ℤ earlier_of bytes (n + k) i +ℤ sub_ℕ (offset_at bytes (n + k)) 32768)
      (slope_signed (get_or bytes (16 * (n + k) + 4) 0) (b (16 * (n + k) + 4)) (omega (arith, (bound_in bytes n m e f k l).slope)))
      ∙ ap (λ (z : ℤ). signed_byte (get_or bytes (16 * (n + k) + 4) 0) *ℤ earlier_of bytes (n + k) i +ℤ z)
      (offset_signed (half bytes (16 * (n + k) + 6)) half_low))))

  component_is : (i : ℕ → ℕ) → pos (i (bounded x k)) ≡ component_of bytes (n + k) i
  component_is i = ap (λ (j : ℕ). pos (i j)) bounded_is

  module _ (i : ℕ → ℕ) where
    meets_is : meets x i k ≡ pick (eqb (get_or bytes (16 * (n + k) + 1) 0) 0) (le_z (line_of bytes (n + k) i) (component_of bytes (n + k) i))
        (le_z (component_of bytes (n + k) i) (line_of bytes (n + k) i))
    meets_is =
        meets_integers x i k (omega (arith, slope_is, (bound_in bytes n m e f k l).slope))
        ∙ (ap (λ (s : ℕ). pick (eqb s 0) (le_z (line_at x k i) (pos (i (bounded x k)))) (le_z (pos (i (bounded x k))) (line_at x k i))) side_is
        ∙ (ap (λ (z : ℤ). pick (eqb (get_or bytes (16 * (n + k) + 1) 0) 0) (le_z z (pos (i (bounded x k)))) (le_z (pos (i (bounded x k))) z)) (line_is i)
        ∙ ap (λ (z : ℤ). pick (eqb (get_or bytes (16 * (n + k) + 1) 0) 0) (le_z (line_of bytes (n + k) i) z) (le_z z (line_of bytes (n + k) i))) (component_is i)))

    met : meets x i k ≡ true → Meets bytes (n + k) i
    met h =
        record {
          lower = λ s. sym (pick_true _ _ _ (eq-eqb _ 0 s)) ∙ (sym meets_is ∙ h);
          upper = λ s. sym (pick_false _ _ _ (ne_eqb (get_or bytes (16 * (n + k) + 1) 0) 0 (λ z. omega (arith, s, z)))) ∙ (sym meets_is ∙ h);
        }

    meet : Meets bytes (n + k) i → meets x i k ≡ true
    meet h = go (ℕ_discrete (get_or bytes (16 * (n + k) + 1) 0) 0)
      where
        go : Dec (get_or bytes (16 * (n + k) + 1) 0 ≡ 0) → meets x i k ≡ true
        go (yes s) = meets_is ∙ (pick_true _ _ _ (eq-eqb _ 0 s) ∙ h.lower s)
        go (no s) = meets_is ∙ (pick_false _ _ _ (ne_eqb _ 0 s) ∙ h.upper (omega (arith, (bound_in bytes n m e f k l).side)))

-- ---- an accepted recipe's

module _ (bytes : List ℕ) (n m e : ℕ) (b : Bytes bytes) (f : Formed bytes n m e) (c : ℕ) where
  every_bound : (in_shape (nest_by bytes n m e) c ≡ true) → (k : ℕ) → k < m → meets (nest_by bytes n m e) (cell_place (nest_by bytes n m e) c) k ≡ true
  unfolding in_shape nest_by
  every_bound h k l = every_at _ m h k l

  all_bounds : ((k : ℕ) → k < m → meets (nest_by bytes n m e) (cell_place (nest_by bytes n m e) c) k ≡ true) → in_shape (nest_by bytes n m e) c ≡ true
  unfolding in_shape nest_by
  all_bounds h = every_all _ m h

  shape_is : (in_shape (nest_by bytes n m e) c ≡ true) ↔ ((k : ℕ) → k < m → Meets bytes (n + k) (cell_place (nest_by bytes n m e) c))
  shape_is = (
    (λ h k l. met bytes n m e b f k l (cell_place (nest_by bytes n m e) c) (every_bound h k l)),
    (λ h. all_bounds (λ k l. meet bytes n m e b f k l (cell_place (nest_by bytes n m e) c) (h k l))),
  )

pub bounds_mean : (bytes : List ℕ) → Bytes bytes → first_of (read_lines bytes) ≡ 0 → BoundsMean bytes
unfolding read_lines nest_of
bounds_mean bytes b h =
    let p1 = none_first 1 (ragged bytes) _ (λ e. omega arith) h in
    let p2 = none_first 2 (stray_record bytes) _ (λ e. omega arith) p1.1 in
    let f = stray_no bytes p2.0 in
    record {
      stands = λ k l. kind_is bytes (of_kind bytes 1) (of_kind bytes 5) (distances_of bytes) b f k l;
      sided = λ k l. (bound_in bytes (of_kind bytes 1) (of_kind bytes 5) (distances_of bytes) f k l).side;
      is_in_shape = λ c. shape_is bytes (of_kind bytes 1) (of_kind bytes 5) (distances_of bytes) b f c;
    }

-- ---- small shapes

pub bound_rows : BoundExamples
unfolding ◌and◌ ◌or◌ not pick every keep those tabulate product place cell_place cells of_kind filled nest_by nest_of level raised meets in_shape signed_byte
    signed_half
bound_rows =
    record {
      byte = refl;
      half_is = refl;
      rising = refl;
      lowered = refl;
      falling = refl;
      level = refl;
      under = refl;
      corner = refl;
      below = refl;
      all = refl;
      none = refl;
    }
