-- The place after another: the last component one more; or none, and one more before it. Rows counted so.
use Prim.Native.Nat.{ℕ, zero, suc, ◌+◌, ◌*◌, ◌-◌, ◌/◌, ◌%◌, ◌≤◌, ◌<◌}
use mathlib.Core.Path.{◌≡◌, refl, sym, ap, ◌∙◌}
use mathlib.Core.Logic.{◌⊎◌, inl, inr, ◌≢◌}
use mathlib.Core.Bool.{Bool, true, false}
use mathlib.Core.List.{List}
use native.Mathlib.Nat.{eq-or-lt_of_le, le_of_suc-le-suc, div-add-mod', mul-div_cancel, add-mul, one-mul, mod-lt, zero-mod, zero-div, mul-mod_left}
use native.Mathlib.Omega.{arith}
use lib.ListN.{length, get_or, set}
use lib.Seq.{get_or-set_same, get_or-set_other}
use lib.Dec.{eqb}
use Rattle.base.specs.Tests.{pick}
use Rattle.nest.specs.declared.Nest.{Nest}
use Rattle.nest.specs.Accepted.{Accepted}
use Rattle.nest.specs.Places.{rank, place}
use Rattle.plan.specs.Box.{box_cell}
use Rattle.nest.proofs.Rank.{place_last, place_before, place_low}
use Rattle.layout.specs.declared.Bounds.{Bounds}
use Rattle.layout.specs.Places.{nth, Ranked, Places, Placed, Inside, Follows, Located, Bounded}
use Rattle.layout.proofs.Cells.{box_places, box_ranked, located}
use Rattle.layout.proofs.CellRows.{row_before, row_last}

-- ---- the first place

pick_both : {A : Type 0} (t : Bool) (a : A) → pick t a a ≡ a
unfolding pick
pick_both true a = refl
pick_both false a = refl

place_zero : (N : ℕ → ℕ) (l j : ℕ) → place N l 0 j ≡ 0
unfolding place
place_zero N zero j = refl
place_zero N (suc l) j = rw (zero-mod (N l), zero-div (N l), place_zero N l j) (pick_both (eqb j l) 0)

pub placed_start : (N from : List ℕ) (left : ℕ) → Placed N from 0 left from
placed_start N from left = record { first = λ j h. omega (arith, place_zero (nth N) left j); rest = λ j h. refl }

-- ---- a number that fills its row, and the next

module _ (n k : ℕ) (e : n % k + 1 ≡ k) where
  filled : n + 1 ≡ (n / k + 1) * k
  filled = omega (arith, div-add-mod' n k, add-mul (n / k) 1 k, one-mul k)

  filled_div : (n + 1) / k ≡ n / k + 1
  filled_div = ap (λ (a : ℕ). a / k) filled ∙ mul-div_cancel (n / k + 1) (omega arith)

  filled_mod : (n + 1) % k ≡ 0
  filled_mod = ap (λ (a : ℕ). a % k) filled ∙ mul-mod_left (n / k + 1) k

-- ---- one turn of the recursion

pub follows_none : (N from at : List ℕ) (left : ℕ) → left ≡ 0 → Follows N from left at at
follows_none N from at left e = record { next = λ n p. record { first = λ j h. absurd (omega arith); rest = p.rest } }

module _ (N from at : List ℕ) (left : ℕ) (f : left ≢ 0) (long : left ≤ length at) where
  pub follows_step : get_or at (left - 1) 0 + 1 < get_or from (left - 1) 0 + get_or N (left - 1) 0 → Follows N from left at
      (set at (left - 1) (get_or at (left - 1) 0 + 1))
  follows_step h = record { next = λ n p. record { first = λ j k. go n p j (eq-or-lt_of_le (low j k)); rest = λ j k. other j (omega arith) ∙ p.rest j k } }
    where
      low : (j : ℕ) → j < left → j ≤ left - 1
      low j k = omega arith

      other : (j : ℕ) → j ≢ left - 1 → get_or (set at (left - 1) (get_or at (left - 1) 0 + 1)) j 0 ≡ get_or at j 0
      other j k = get_or-set_other at (left - 1) j (get_or at (left - 1) 0 + 1) 0 k

      room : (n : ℕ) → Placed N from n left at → place (nth N) left n (left - 1) + 1 < get_or N (left - 1) 0
      room n p = omega (arith, p.first (left - 1) (omega arith))

      go : (n : ℕ) → Placed N from n left at → (j : ℕ) → (j ≡ left - 1) ⊎ (j < left - 1)
          → get_or (set at (left - 1) (get_or at (left - 1) 0 + 1)) j 0 ≡ get_or from j 0 + place (nth N) left (n + 1) j
      go n p j (inl e) =
          rw e (omega (
            arith,
            get_or-set_same at (left - 1) (get_or at (left - 1) 0 + 1) 0 (omega arith),
            p.first (left - 1) (omega arith),
            row_last (nth N) left n 1 (omega arith) (room n p),
          ))
      go n p j (inr k) =
          other j (λ e. omega arith) ∙ p.first j (omega arith) ∙ ap (λ (a : ℕ). get_or from j 0 + a)
          (sym (row_before (nth N) left n 1 (omega arith) (room n p) j k))

  module _ (p : Places N from left) where
    pub places_fewer : Places N from (left - 1)
    places_fewer = record { low = omega (arith, p.low); positive = λ j h. p.positive j (omega arith); small = λ j h. p.small j (omega arith) }

    pub inside_fits : Inside N from left at → get_or at (left - 1) 0 + 1 ≤ 4096
    inside_fits i = omega (arith, i.each (left - 1) (omega arith), p.small (left - 1) (omega arith))

  pub inside_fewer : (v : ℕ) → Inside N from left at → Inside N from (left - 1) (set at (left - 1) v)
  inside_fewer v i = record { each = λ j h. rw (get_or-set_other at (left - 1) j v 0 (λ e. omega arith)) (i.each j (omega arith)) }

pub follows_carry : (N from at r : List ℕ) (left : ℕ) → left ≢ 0 → left ≤ length at → Places N from left → get_or from (left - 1) 0 + get_or N (left - 1) 0
    ≤ get_or at (left - 1) 0 + 1
    → Follows N from (left - 1) (set at (left - 1) (get_or from (left - 1) 0)) r → Follows N from left at r
follows_carry N from at r zero f long p h s = absurd (f refl)
follows_carry N from at r (suc l) f long p h s =
    record { next = λ n q. record { first = λ j k. go n q j (eq-or-lt_of_le (le_of_suc-le-suc k)); rest = λ j k. (after n q).rest j (omega arith) } }
  where
    z : suc l - 1 ≡ l
    z = omega arith

    full : get_or from l 0 + get_or N l 0 ≤ get_or at l 0 + 1
    full = rw z at h

    s' : Follows N from l (set at l (get_or from l 0)) r
    s' = rw z at s

    fills : (n : ℕ) → Placed N from n (suc l) at → n % get_or N l 0 + 1 ≡ get_or N l 0
    fills n q = omega (arith, full, q.first l (omega arith), place_last (nth N) l n, mod-lt n (p.positive l (omega arith)))

    before : (n : ℕ) → Placed N from n (suc l) at → Placed N from (n / get_or N l 0) l (set at l (get_or from l 0))
    before n q =
        record {
          first =
              λ j k. get_or-set_other at l j (get_or from l 0) 0 (λ e. omega arith) ∙ q.first j (omega arith) ∙ ap (λ (a : ℕ). get_or from j 0 + a)
              (place_before (nth N) l n j k);
          rest = λ j k. same j (eq-or-lt_of_le k);
        }
      where
        same : (j : ℕ) → (l ≡ j) ⊎ (l < j) → get_or (set at l (get_or from l 0)) j 0 ≡ get_or from j 0
        same j (inl e) = rw (← e) (get_or-set_same at l (get_or from l 0) 0 (omega arith))
        same j (inr k) = get_or-set_other at l j (get_or from l 0) 0 (λ e. omega arith) ∙ q.rest j (omega arith)

    after : (n : ℕ) → Placed N from n (suc l) at → Placed N from (n / get_or N l 0 + 1) l r
    after n q = s'.next (n / get_or N l 0) (before n q)

    go : (n : ℕ) → Placed N from n (suc l) at → (j : ℕ) → (j ≡ l) ⊎ (j < l) → get_or r j 0 ≡ get_or from j 0 + place (nth N) (suc l) (n + 1) j
    go n q j (inl e) = rw e (omega (arith, (after n q).rest l (omega arith), place_last (nth N) l (n + 1), filled_mod n (get_or N l 0) (fills n q)))
    go n q j (inr k) =
        (after n q).first j k
        ∙ ap (λ (a : ℕ). get_or from j 0 + place (nth N) l a j) (sym (filled_div n (get_or N l 0) (fills n q)))
        ∙ ap (λ (a : ℕ). get_or from j 0 + a) (sym (place_before (nth N) l (n + 1) j k))

-- ---- the place of a row: its first cell's

pub placed_row : (N from at : List ℕ) (r d : ℕ) → 1 ≤ d → 1 ≤ get_or N (d - 1) 0 → Placed N from r (d - 1) at → Placed N from (r * get_or N (d - 1) 0) d at
placed_row N from at r zero h k p = absurd (omega arith)
placed_row N from at r (suc l) h k p =
    rw z (record { first = λ j i. go j (eq-or-lt_of_le (le_of_suc-le-suc i)); rest = λ j i. p'.rest j (omega arith) })
  where
    z : suc l - 1 ≡ l
    z = omega arith

    p' : Placed N from r l at
    p' = rw z at p

    wide : 1 ≤ get_or N l 0
    wide = rw z at k

    go : (j : ℕ) → (j ≡ l) ⊎ (j < l) → get_or at j 0 ≡ get_or from j 0 + place (nth N) (suc l) (r * get_or N l 0) j
    go j (inl e) = rw e (omega (arith, p'.rest l (omega arith), place_last (nth N) l (r * get_or N l 0), mul-mod_left r (get_or N l 0)))
    go j (inr i) =
        p'.first j i
        ∙ ap (λ (a : ℕ). get_or from j 0 + place (nth N) l a j) (sym (mul-div_cancel r {n = get_or N l 0} wide))
        ∙ ap (λ (a : ℕ). get_or from j 0 + a) (sym (place_before (nth N) l (r * get_or N l 0) j i))

pub placed_inside : (N from at : List ℕ) (r left : ℕ) → Places N from left → Placed N from r left at → Inside N from left at
placed_inside N from at r left p q = record { each = λ j h. omega (arith, q.first j h, place_low (nth N) left r p.positive j h) }

-- ---- the rows of a tile's box

module _ (x : Nest) (ok : Accepted x) where
  deep : 1 ≤ x.dimensions
  deep = omega (arith, ok.dimensions_least)

  pub rows_places : (N from : List ℕ) → Places N from x.dimensions → Places N from (x.dimensions - 1)
  rows_places N from p = record { low = omega (arith, p.low); positive = λ j h. p.positive j (omega arith); small = λ j h. p.small j (omega arith) }

  module _ (b : Bounds) (is : Bounded x b) (r : ℕ) (at : List ℕ) (p : Placed b.lengths b.corner r (x.dimensions - 1) at) where
    first : Placed b.lengths b.corner (r * get_or b.lengths (x.dimensions - 1) 0) x.dimensions at
    first = placed_row b.lengths b.corner at r x.dimensions deep ((box_places x ok b is 0).positive (x.dimensions - 1) (omega (arith, deep))) p

    pub row_ranked : Ranked x.lengths at x.dimensions
    row_ranked = box_ranked x ok b is _ at first

    pub row_located : (n : ℕ) → n ≡ rank (nth x.lengths) (nth at) x.dimensions
        → Located x (box_cell x b.tile (r * get_or b.lengths (x.dimensions - 1) 0)) (record { number = n; place = at })
    row_located = located x ok b is _ at first

    pub row_inside : Places b.lengths b.corner (x.dimensions - 1) × Inside b.lengths b.corner (x.dimensions - 1) at
    row_inside =
        let q = rows_places b.lengths b.corner (box_places x ok b is 0) in (q, placed_inside b.lengths b.corner at r (x.dimensions - 1) q p)
