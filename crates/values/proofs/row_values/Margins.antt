-- Inner rows: those in which all distances read once far enough along.
use Prim.Native.Nat.{ℕ, zero, suc, ◌+◌, ◌*◌, ◌-◌, ◌≤◌, ◌<◌, max}
use mathlib.Core.Path.{◌≡◌, refl, sym, ap, ◌∙◌}
use mathlib.Core.Logic.{◌⊎◌, inl, inr}
use mathlib.Core.Bool.{Bool, true, false}
use mathlib.Core.List.{List, [], ◌∷◌}
use native.Mathlib.Nat.{eq-or-lt_of_le, max-le}
use native.Mathlib.Numerals.{add-one}
use native.Mathlib.Omega.{arith}
use lib.ListN.{get_or}
use lib.Dec.{leb}
use borrow.Author.Tests.{leb-true, le-leb}
use Rattle.base.specs.Tests.{pick, every}
use Rattle.base.proofs.Tests.{pick_true, pick_false, every_at, every_all, every_same}
use Rattle.nest.specs.declared.Nest.{Nest}
use Rattle.nest.specs.Accepted.{Accepted}
use Rattle.nest.specs.Nest.{component, length_of, cells}
use Rattle.layout.specs.declared.Cell.{Cell}
use Rattle.layout.specs.Places.{Has, Located}
use Rattle.layout.specs.CellRows.{Given}
use Rattle.layout.proofs.CellRows.{row_last, row_low}
use Rattle.nest.specs.Places.{place, cell_place}
use Rattle.bands.specs.lagged.Bands.{four, Band, Banded, InRow}
use Rattle.values.specs.row_values.Waves.{most_in, most_of, Lasts, RowTables, Inner, Inners, Fours}
use Rattle.values.specs.row_values.Reads.{first_read, Firsts}
use Rattle.values.proofs.row_values.Words.{in_row}
use Rattle.bands.proofs.lagged.Waves.{each_four}

pub record Mosting (l : List ℕ) (j n most e : ℕ) : Type 0 where
  pub low : e ≤ n
  pub is : most ≡ most_in l j e

module _ (l : List ℕ) (j n : ℕ) where
  pub mosting_none : Mosting l j n 0 0
  unfolding most_in
  mosting_none = record { low = omega arith; is = refl }

  pub mosting_more : (most e r : ℕ) → Mosting l j n most e → e < n → r ≡ max most (get_or l (4 * e + j) 0) → Mosting l j n r (e + 1)
  unfolding most_in
  mosting_more most e r s h q = record { low = omega arith; is = rw (add-one e) (q ∙ ap (λ (a : ℕ). max a (get_or l (4 * e + j) 0)) s.is) }

  pub mosting_end : (most e : ℕ) → Mosting l j n most e → n ≤ e → most ≡ most_in l j n
  mosting_end most e s h = let z : e ≡ n = omega (arith, s.low) in rw z at s.is

most_least : (l : List ℕ) (j n e : ℕ) → e < n → get_or l (4 * e + j) 0 ≤ most_in l j n
unfolding most_in
most_least l j zero e h = absurd (omega arith)
most_least l j (suc n) e h = let q : e ≤ n = omega arith in go (eq-or-lt_of_le q) (most_least l j n e)
  where
    go : (e ≡ n) ⊎ (e < n) → (e < n → get_or l (4 * e + j) 0 ≤ most_in l j n) → get_or l (4 * e + j) 0 ≤ max (most_in l j n) (get_or l (4 * n + j) 0)
    go (inl z) ih = rw z (omega arith)
    go (inr z) ih = omega (arith, ih z)

pub most_most : (x : Nest) → Accepted x → (j n : ℕ) → most_of x j n ≤ 1024
unfolding most_in
most_most x ok j zero = omega arith
most_most x ok j (suc n) = max-le (most_most x ok j n) (ok.component_most n j)

module _ (x : Nest) (ok : Accepted x) (margin : List ℕ) (m : Has margin (λ j. most_of x j x.distances) x.dimensions) where
  pub margin_most : get_or margin (x.dimensions - 1) 0 ≤ 1024
  margin_most = omega (arith, m.each (x.dimensions - 1) (omega (arith, ok.dimensions_least)), most_most x ok (x.dimensions - 1) x.distances)

  module _ (first : List ℕ) (l : Lasts x first) where
    pub inner_firsts : (i : List ℕ) → Inner margin i (x.dimensions - 1) → Firsts x i first
    unfolding first_read
    inner_firsts i h =
        record {
          each =
              λ e k. l.each e k ∙ sym (pick_true (every (λ j. leb (component x e j) (get_or i j 0)) (x.dimensions - 1)) (component x e (x.dimensions - 1)) 1024
              (every_all (λ j. leb (component x e j) (get_or i j 0)) (x.dimensions - 1)
              (λ j q. le-leb (component x e j) (get_or i j 0)
              (omega (
                arith,
                leb-true (get_or margin j 0) (get_or i j 0) (every_at (λ j. leb (get_or margin j 0) (get_or i j 0)) (x.dimensions - 1) h j q),
                m.each j (omega arith),
                most_least x.components j x.distances e k,
              )))));
        }

    pub first_most : (e : ℕ) → e < x.distances → get_or first e 0 ≤ get_or margin (x.dimensions - 1) 0
    first_most e k =
        omega (
          arith,
          l.each e k,
          m.each (x.dimensions - 1) (omega (arith, ok.dimensions_least)),
          most_least x.components (x.dimensions - 1)
              x.distances e k,
        )

pub lasts_are : (x : Nest) (components first : List ℕ) → Given x components → ((e : ℕ) → e < x.distances → get_or first e 0 ≡ get_or components
    (4 * e + (x.dimensions - 1)) 0) → Lasts x first
lasts_are x components first g h = record { each = λ e k. h e k ∙ ap (λ (l : List ℕ). get_or l (4 * e + (x.dimensions - 1)) 0) g.is }

pub most_is : (x : Nest) (components : List ℕ) (j : ℕ) → Given x components → (r : ℕ) → r ≡ most_in components j x.distances → r ≡ most_of x j x.distances
most_is x components j g r e = e ∙ ap (λ (l : List ℕ). most_in l j x.distances) g.is

-- a distance that reads in a row at all reads from the margin on
pub firsts_all : (x : Nest) (ok : Accepted x) (margin : List ℕ) → Has margin (λ j. most_of x j x.distances) x.dimensions → (i first : List ℕ)
    → Firsts x i first → (e : ℕ) → e < x.distances
    → (get_or first e 0 ≤ get_or margin (x.dimensions - 1) 0) ⊎ (get_or first e 0 ≡ 1024)
unfolding first_read
firsts_all x ok margin m i first f e h = go (every (λ j. leb (component x e j) (get_or i j 0)) (x.dimensions - 1)) (f.each e h)
  where
    low : component x e (x.dimensions - 1) ≤ get_or margin (x.dimensions - 1) 0
    low = omega (arith, m.each (x.dimensions - 1) (omega (arith, ok.dimensions_least)), most_least x.components (x.dimensions - 1) x.distances e h)

    go : (t : Bool) → get_or first e 0 ≡ pick t (component x e (x.dimensions - 1)) 1024 → (get_or first e 0 ≤ get_or margin (x.dimensions - 1) 0) ⊎
        (get_or first e 0 ≡ 1024)
    go true q = inl (omega (arith, q ∙ pick_true true (component x e (x.dimensions - 1)) 1024 refl, low))
    go false q = inr (q ∙ pick_false false (component x e (x.dimensions - 1)) 1024 refl)

-- a place copied word by word
pub firsts_copied : (x : Nest) (ok : Accepted x) (at first : List ℕ)
    → Firsts x (get_or at 0 0 ∷ get_or at 1 0 ∷ get_or at 2 0 ∷ get_or at 3 0 ∷ []) first → Firsts x at first
unfolding first_read
firsts_copied x ok at first f =
    record {
      each = λ e h. f.each e h
          ∙ ap (λ (t : Bool). pick t (component x e (x.dimensions - 1)) 1024)
          (every_same _ (λ j. leb (component x e j) (get_or at j 0)) (x.dimensions - 1)
          (λ j k. ap (λ (a : ℕ). leb (component x e j) a)
          (each_four (λ j. four (get_or at 0 0) (get_or at 1 0) (get_or at 2 0) (get_or at 3 0) j ≡ get_or at j 0) refl refl refl refl j
          (omega (arith, ok.dimensions_most)))));
    }

-- ---- one row, inner or not

module _ (x : Nest) (ok : Accepted x) (r : Cell) (q : Located x r.number r) (n : ℕ) (fits : get_or r.place (x.dimensions - 1) 0 + n ≤ length_of x
    (x.dimensions - 1))
    (components lasts back weights margin : List ℕ) (lent : RowTables x components lasts back weights margin) where
  pub inner_row : Inner margin r.place (x.dimensions - 1) → InRow x r.number (get_or r.place (x.dimensions - 1) 0) n lasts back weights
  inner_row i =
      in_row x ok r q lasts back weights (inner_firsts x ok margin lent.margins lasts lent.firsts r.place i) lent.backs lent.weights_are n fits

  pub any_row : (first : List ℕ) → Firsts x r.place first → InRow x r.number (get_or r.place (x.dimensions - 1) 0) n first back weights
  any_row first f = in_row x ok r q first back weights f lent.backs lent.weights_are n fits

-- ---- four rows

module _ (x : Nest) (ok : Accepted x) (a b c d : Cell) (w : ℕ) (h : Fours x a b c d w) where
  fours_column : (r : Cell) → Located x r.number r → get_or r.place (x.dimensions - 1) 0 ≡ get_or a.place (x.dimensions - 1) 0 → (y : ℕ) → y < w
      → cell_place x (r.number + y) (x.dimensions - 1) ≡ cell_place x a.number (x.dimensions - 1) + y
  unfolding cell_place
  fours_column r l e y k =
      row_last (length_of x) x.dimensions r.number y (omega (arith, ok.dimensions_least)) (omega (arith, there, e, h.fits))
      ∙ ap (λ (q : ℕ). q + y) (sym there ∙ e ∙ h.one.place.each (x.dimensions - 1) (omega (arith, ok.dimensions_least)))
    where
      there : get_or r.place (x.dimensions - 1) 0 ≡ place (length_of x) x.dimensions r.number (x.dimensions - 1)
      there = l.place.each (x.dimensions - 1) (omega (arith, ok.dimensions_least))

  fours_low : (r : Cell) → Located x r.number r → get_or r.place (x.dimensions - 1) 0 ≡ get_or a.place (x.dimensions - 1) 0 → (y : ℕ) → y < w
      → r.number + y < cells x
  unfolding cell_place cells
  fours_low r l e y k =
      row_low (length_of x) x.dimensions r.number y (omega (arith, ok.dimensions_least))
      (omega (arith, l.place.each (x.dimensions - 1) (omega (arith, ok.dimensions_least)), e, h.fits)) l.low

  pub fours_band : Band x (four a.number b.number c.number d.number) w 4
  fours_band =
      record {
        low =
            λ k y l i. each_four (λ k. four a.number b.number c.number d.number k + y < cells x) (fours_low a h.one refl y i)
            (fours_low b h.two h.same_two y i)
            (fours_low c h.three h.same_three y i) (fours_low d h.fourth h.same_fourth y i) k l;
        apart = λ j k q l. apart j k q l;
        column =
            λ k y l i. each_four (λ k. cell_place x (four a.number b.number c.number d.number k + y) (x.dimensions - 1) ≡ cell_place x a.number
            (x.dimensions - 1) + y)
            (fours_column a h.one refl y i) (fours_column b h.two h.same_two y i) (fours_column c h.three h.same_three y i)
            (fours_column d h.fourth h.same_fourth y i) k l;
      }
    where
      steps : (k : ℕ) → suc k < 4 → four a.number b.number c.number d.number k + w ≤ four a.number b.number c.number d.number (suc k)
      steps zero l = h.then_two
      steps (suc zero) l = h.then_three
      steps (suc (suc zero)) l = h.then_fourth
      steps (suc (suc (suc k))) l = absurd (omega arith)

      apart : (j k : ℕ) → j < k → k < 4 → four a.number b.number c.number d.number j + w ≤ four a.number b.number c.number d.number k
      apart j zero q l = absurd (omega arith)
      apart j (suc k) q l = go (eq-or-lt_of_le (low q)) (λ z. apart j k z (omega arith))
        where
          low : j < suc k → j ≤ k
          low z = omega arith

          go : (j ≡ k) ⊎ (j < k) → (j < k → four a.number b.number c.number d.number j + w ≤ four a.number b.number c.number d.number k)
              → four a.number b.number c.number d.number j + w ≤ four a.number b.number c.number d.number (suc k)
          go (inl z) ih = rw z (steps k l)
          go (inr z) ih = omega (arith, ih z, steps k l)

  pub fours_banded : (components lasts back weights margin : List ℕ) → RowTables x components lasts back weights margin
      → (from : ℕ) → (3 ≤ from) × ((get_or margin (x.dimensions - 1) 0 + 3 ≤ get_or a.place (x.dimensions - 1) 0 + from) × (from ≤ 1027)) → from ≤ w
      → Inners margin a.place b.place c.place d.place (x.dimensions - 1)
      → Banded x (four a.number b.number c.number d.number) (get_or a.place (x.dimensions - 1) 0) from w lasts back weights
  fours_banded components lasts back weights margin lent from s l t =
      record {
        rows = fours_band;
        each = each_four (λ k. InRow x (four a.number b.number c.number d.number k) (get_or a.place (x.dimensions - 1) 0) w lasts back weights)
            (rows a h.one refl t.one) (rows b h.two h.same_two t.two) (rows c h.three h.same_three t.three)
            (rows d h.fourth h.same_fourth t.fourth);
        three = s.0;
        low = l;
        reads = λ e k. omega (arith, first_most x ok margin lent.margins lasts lent.firsts e k, s.1.0);
      }
    where
      rows : (r : Cell) → Located x r.number r → get_or r.place (x.dimensions - 1) 0 ≡ get_or a.place (x.dimensions - 1) 0 → Inner margin r.place
          (x.dimensions - 1)
          → InRow x r.number (get_or a.place (x.dimensions - 1) 0) w lasts back weights
      rows r q e i = rw e at (inner_row x ok r q w (omega (arith, e, h.fits)) components lasts back weights margin lent i)
