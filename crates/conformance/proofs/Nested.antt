-- The sequential nest meets the cells in index order, Figure 4's inner loops a tile's; run over any array, the nest leaves the sweep.
use Prim.Native.Nat.{ℕ, zero, suc, ◌+◌, ◌*◌, ◌-◌, ◌/◌, ◌%◌, ◌^◌, ◌≤◌, ◌<◌, min, max}
use mathlib.Core.Path.{◌≡◌, refl, sym, ap, ◌∙◌}
use mathlib.Core.Logic.{◌⊎◌, inl, inr}
use mathlib.Core.Bool.{Bool, true}
use mathlib.Core.List.{List, [], ◌∷◌, ◌++◌, map}
use native.Mathlib.Nat.{div-one}
use native.Mathlib.Decide.{dec_lt}
use native.Mathlib.Omega.{arith}
use lib.ListN.{length, get_or}
use lib.Seq.{ext_get_or}
use lib.Dec.{leb, eqb}
use borrow.Author.Tests.{eq-eqb, ne_eqb}
use Rattle.base.specs.Tests.{pick, keep, product, tabulate}
use Rattle.base.specs.Lists.{In, store_all}
use Rattle.base.proofs.Tests.{pick_true, pick_false, sum_same, tabulate_same}
use Rattle.base.proofs.Select.{keep_in, in_keep, keep_rising, in_append}
use Rattle.base.proofs.Lists.{store_length}
use Rattle.machine.specs.Plan.{Plan, Sound}
use Rattle.machine.specs.Machine.{sweep}
use Rattle.machine.proofs.Values.{stored_right, sweep_fits, sweep_length}
use Rattle.nest.specs.declared.Nest.{Nest}
use Rattle.nest.specs.Accepted.{Accepted}
use Rattle.nest.specs.Nest.{length_of, tile_length, component, weight, tile_count, cells, box_tiles}
use Rattle.nest.specs.Places.{rank, place, cell_at, cell_place, tile_at, tile_place}
use Rattle.plan.specs.Geometry.{cells_of, has_read, read_at, value}
use Rattle.plan.specs.declared.Route.{Route}
use Rattle.plan.specs.Messages.{box_plan}
use Rattle.plan.specs.Box.{box_length, box_size, box_place, box_cell}
use Rattle.plan.specs.Loops.{values, do_loop, for_each, extend, last_tile, nested}
use Rattle.conformance.specs.Report.{Index}
use Rattle.conformance.specs.Exact.{sequential, inner, outer, read_from, body, run_nest}
use Rattle.nest.proofs.Rank.{Within, Positive, rank_same, rank_place, place_last, place_before}
use Rattle.plan.proofs.Tiles.{cell_at_same, cell_place_cell_at, tile_count_pos, tile_place_low, tile_inside}
use Rattle.plan.proofs.Grid.{keep_all, for_each_tabulate, every_same}
use Rattle.plan.proofs.Box.{cells_of_box}
use Rattle.plan.proofs.Loops.{number, for_each_rank}
use Rattle.plan.proofs.Sound.{box_sound}

-- ---- one loop of stride 1

tabulate_first : (f : ℕ → ℕ) (n : ℕ) → tabulate f (suc n) ≡ f 0 ∷ tabulate (λ u. f (suc u)) n
unfolding tabulate
tabulate_first f zero = refl
tabulate_first f (suc n) = rw (tabulate_first f n)

tabulate_none : (f : ℕ → ℕ) → [] ≡ tabulate f 0
unfolding tabulate
tabulate_none f = refl

values_one : (s n : ℕ) → values s 1 n ≡ tabulate (λ u. s + u) n
unfolding values
values_one s zero = tabulate_none (λ u. s + u)
values_one s (suc n) =
    ap (λ (l : List ℕ). s ∷ l) (values_one (s + 1) n ∙ tabulate_same (λ u. s + 1 + u) (λ u. s + suc u) n (λ u h. omega arith))
    ∙ ap (λ (y : ℕ). y ∷ tabulate (λ u. s + suc u) n) {x = s} {y = s + 0} (omega arith)
    ∙ sym (tabulate_first (λ u. s + u) n)

-- the length of a loop from f to the less of two bounds
width : (n k f : ℕ) → 1 ≤ n → 1 ≤ k → f < n → min (n - 1) (f + k - 1) + 1 - f ≡ min k (n - f)
width n k f a b h = go (dec_lt (n - f) k)
  where
    go : Dec (n - f < k) → min (n - 1) (f + k - 1) + 1 - f ≡ min k (n - f)
    go (yes l) = omega arith
    go (no l) = omega arith

max_zero : (f : ℕ) → max 0 f ≡ f
max_zero f = omega arith

pub loop_one : (s b : ℕ) → do_loop s b 1 ≡ tabulate (λ u. s + u) (b + 1 - s)
unfolding do_loop
loop_one s b = rw (div-one (b + 1 - s)) (values_one s (b + 1 - s))

-- ---- loops in one another

module _ (N : ℕ → ℕ) where
  -- where the j-th loop runs over b j numbers from a j on, the loops meet a box in index order
  module _ (range : ℕ → List ℕ) (a b : ℕ → ℕ) where
    pub nested_box : (l : ℕ) → ((j : ℕ) → j < l → range j ≡ tabulate (λ u. a j + u) (b j))
        → map (number N l) (nested range l) ≡ tabulate (λ q. rank N (λ j. a j + place b l q j) l) (product b l)
    unfolding nested product rank tabulate
    nested_box zero h = refl
    nested_box (suc l) h =
        for_each_rank N l (range l) (nested range l)
        ∙ rw (nested_box l (λ j k. h j (omega arith)), h l (omega arith))
        (for_each_tabulate (λ q. rank N (λ j. a j + place b l q j) l) (λ u. a l + u) (N l) (product b l) (b l))
        ∙ tabulate_same _ _ (product b l * b l)
        (λ q k. ap (λ (c : ℕ). c * N l + (a l + q % b l)) (before q)
        ∙ ap (λ (c : ℕ). rank N (λ j. a j + place b (suc l) q j) l * N l + (a l + c)) (sym (place_last b l q)))
      where
        before : (q : ℕ) → rank N (λ j. a j + place b l (q / b l) j) l ≡ rank N (λ j. a j + place b (suc l) q j) l
        before q = rank_same N _ _ l (λ j k. ap (λ (c : ℕ). a j + c) (sym (place_before b l q j k)))

-- where each loop runs over all its numbers, the places are met in index order
all_in_order : (N : ℕ → ℕ) (l : ℕ) (range : ℕ → List ℕ) → Positive N l → ((j : ℕ) → j < l → range j ≡ tabulate (λ u. 0 + u) (N j))
    → map (number N l) (nested range l) ≡ tabulate (λ c. c) (product N l)
all_in_order N l range pos h =
    nested_box N range (λ j. 0) N l h
    ∙ tabulate_same _ (λ c. c) (product N l) (λ q k. rank_same N _ (place N l q) l (λ j i. omega arith) ∙ rank_place N l q pos k)

module _ (x : Nest) (ok : Accepted x) where
  abbrev seq : ℕ → List ℕ
  seq j = do_loop 0 (length_of x j - 1) 1

  seq_range : (j : ℕ) → j < x.dimensions → seq j ≡ tabulate (λ u. 0 + u) (length_of x j)
  seq_range j h =
      let e : length_of x j - 1 + 1 - 0 ≡ length_of x j = omega (arith, ok.long j h) in
      loop_one 0 (length_of x j - 1) ∙ ap (tabulate (λ u. 0 + u)) e

  pub cells_in_order : map (cell_at x) (sequential x) ≡ tabulate (λ c. c) (cells x)
  unfolding sequential cell_at cells
  cells_in_order = all_in_order (length_of x) x.dimensions seq ok.long seq_range

  abbrev over : ℕ → List ℕ
  over j = do_loop 0 (last_tile x j) 1

  over_range : (j : ℕ) → j < x.dimensions → over j ≡ tabulate (λ u. 0 + u) (tile_count x j)
  unfolding tile_count
  over_range j h =
      let e : last_tile x j + 1 - 0 ≡ last_tile x j + 1 = omega arith in
      loop_one 0 (last_tile x j) ∙ ap (tabulate (λ u. 0 + u)) e

  pub tiles_in_order : map (tile_at x) (outer x) ≡ tabulate (λ t. t) (box_tiles x)
  unfolding outer tile_at box_tiles
  tiles_in_order = all_in_order (tile_count x) x.dimensions over (tile_count_pos x ok) over_range

  module _ (t : ℕ) (lt : t < box_tiles x) where
    abbrev first : ℕ → ℕ
    first j = tile_place x t j * tile_length x j

    abbrev own : ℕ → List ℕ
    own j = do_loop (max 0 (first j)) (min (length_of x j - 1) (first j + tile_length x j - 1)) 1

    own_range : (j : ℕ) → j < x.dimensions → own j ≡ tabulate (λ u. first j + u) (box_length x t j)
    unfolding box_length
    own_range j h =
        rw (max_zero (first j))
        (loop_one (first j) _
        ∙ ap (tabulate (λ u. first j + u)) (width (length_of x j) (tile_length x j) (first j) (ok.long j h) (ok.tiled j h)
        (tile_inside x ok (tile_place x t j) j h (tile_place_low x ok t j h))))

    pub tile_in_order : map (cell_at x) (inner x (tile_place x t)) ≡ cells_of x t
    unfolding inner cell_at box_size box_cell box_place
    tile_in_order =
        nested_box (length_of x) own first (box_length x t) x.dimensions own_range ∙ sym (cells_of_box x ok t lt)

-- ---- the indices that the sequential nest meets are indices

abbrev pub Each : ((ℕ → ℕ) → Type 0) → List (ℕ → ℕ) → Type 0
Each P [] = Unit {0}
Each P (i ∷ is) = P i × Each P is

pub each_append : (P : (ℕ → ℕ) → Type 0) (a b : List (ℕ → ℕ)) → Each P a → Each P b → Each P (a ++ b)
each_append P [] b h k = k
each_append P (i ∷ a) b h k = (h.0, each_append P a b h.1 k)

module _ (N : ℕ → ℕ) (range : ℕ → List ℕ) where
  extend_each : (l : ℕ) (i : ℕ → ℕ) (vs : List ℕ) → Within N i l → ((v : ℕ) → In v vs → v < N l)
      → Each (λ i. Within N i (suc l)) (map (extend i l) vs)
  extend_each l i [] w h = tt
  extend_each l i (v ∷ vs) w h = ((λ j k. go j k (dec_lt j l)), extend_each l i vs w (λ y q. h y (inr q)))
    where
      go : (j : ℕ) → j < suc l → Dec (j < l) → extend i l v j < N j
      go j k (yes q) = rw (pick_false (eqb j l) v (i j) (ne_eqb j l (λ (e : j ≡ l). omega arith))) (w j q)
      go j k (no q) =
          let e : j ≡ l = omega arith in
          rw (e, pick_true (eqb l l) v (i l) (eq-eqb l l refl)) (h v (inl refl))

  for_each_each : (l : ℕ) (is : List (ℕ → ℕ)) → Each (λ i. Within N i l) is → ((v : ℕ) → In v (range l) → v < N l)
      → Each (λ i. Within N i (suc l)) (for_each (λ i. map (extend i l) (range l)) is)
  unfolding for_each
  for_each_each l [] e h = tt
  for_each_each l (i ∷ is) e h =
      each_append (λ i. Within N i (suc l)) (map (extend i l) (range l)) _ (extend_each l i (range l) e.0 h) (for_each_each l is e.1 h)

  pub nested_each : (l : ℕ) → ((j v : ℕ) → j < l → In v (range j) → v < N j) → Each (λ i. Within N i l) (nested range l)
  unfolding nested
  nested_each zero h = ((λ j k. absurd (omega arith)), tt)
  nested_each (suc l) h = for_each_each l (nested range l) (nested_each l (λ j v k q. h j v (omega arith) q)) (λ v q. h l v (omega arith) q)

tabulate_in : (f : ℕ → ℕ) (n v : ℕ) → In v (tabulate f n) → (u : ℕ) × (u < n) × (v ≡ f u)
unfolding tabulate
tabulate_in f zero v i = absurd i
tabulate_in f (suc n) v i = go (tabulate_in f n v) (in_append v (tabulate f n) (f n ∷ []) i)
  where
    go : (In v (tabulate f n) → (u : ℕ) × (u < n) × (v ≡ f u)) → In v (tabulate f n) ⊎ In v (f n ∷ []) → (u : ℕ) × (u < suc n) × (v ≡ f u)
    go ih (inl k) = let q = ih k in (q.0, omega (arith, q.1), q.2)
    go ih (inr (inl k)) = (n, omega arith, k)
    go ih (inr (inr k)) = absurd k

-- a loop of stride 1 goes no further than its last number
pub loop_most : (s b v : ℕ) → In v (do_loop s b 1) → v ≤ b
loop_most s b v i = let q = tabulate_in (λ u. s + u) (b + 1 - s) v (rw (loop_one s b) at i) in omega (arith, q.1, q.2)

-- ---- the nest's run

module _ (x : Nest) (ok : Accepted x) (source : List ℕ) where
  pub body_value : (array : List ℕ) (i : ℕ → ℕ) → Index x i → body x source array i ≡ value x source array (cell_at x i)
  unfolding body read_from value has_read read_at
  body_value array i w =
      ap (λ (a : ℕ). (get_or source (cell_at x i) 0 + a) / 2 ^ x.shift % 2 ^ 32)
      (sum_same _ _ x.distances (λ e l.
      ap (λ (t : Bool). weight x e * pick t (get_or array (cell_at x (λ j. i j - component x e j)) 0) x.boundary)
      (every_same _ _ x.dimensions (λ j h. ap (leb (component x e j)) (sym (cell_place_cell_at x ok i w j h))))
      ∙ ap (λ (r : ℕ). weight x e * pick (has_read x (cell_at x i) e) (get_or array r 0) x.boundary) (back e)))
    where
      back : (e : ℕ) → cell_at x (λ j. i j - component x e j) ≡ read_at x (cell_at x i) e
      back e =
          cell_at_same x (λ j. i j - component x e j) (λ j. cell_place x (cell_at x i) j - component x e j)
          (λ j h. ap (λ (a : ℕ). a - component x e j) (sym (cell_place_cell_at x ok i w j h)))

  pub run_stores : (is : List (ℕ → ℕ)) (array : List ℕ) → Each (Index x) is
      → run_nest x source array is ≡ store_all (value x source) array (map (cell_at x) is)
  unfolding run_nest store_all
  run_stores [] array w = refl
  run_stores (i ∷ is) array w = rw (body_value array i w.0) (run_stores is _ w.1)

  pub sequential_each : Each (Index x) (sequential x)
  unfolding sequential
  sequential_each =
      nested_each (length_of x) (seq x ok) x.dimensions (λ j v h i. omega (arith, loop_most 0 (length_of x j - 1) v i, ok.long j h))

  -- storing the values of all cells in index order; the sweep of either route's plan is the same
  module _ (route : Route) (array : List ℕ) (len : length array ≡ cells x) where
    abbrev all : List ℕ
    all = keep (λ c. true) (cells x)

    abbrev p : Plan
    p = box_plan route x

    abbrev so : Sound p
    so = box_sound route x ok

    all_low : (c : ℕ) → In c all → c < cells x
    all_low c i = (keep_in (λ c. true) (cells x) c i).0

    in_all : (c : ℕ) → c < cells x → In c all
    in_all c h = in_keep (λ c. true) (cells x) c h refl

    stored_at : (c : ℕ) → c < cells x → get_or (store_all (value x source) array all) c 0 ≡ get_or (sweep p source) c 0
    stored_at c h =
        stored_right p source (λ c. get_or (sweep p source) c 0) (sweep_fits p source (so.local source) so.earlier) all (λ r. ⊥)
        (λ c r i k. let q = so.earlier c r (all_low c i) k in inl (in_all r (omega (arith, all_low c i)), q)) all_low (λ c i. refl) all array
        (keep_rising (λ c. true) (cells x)) (λ y i. i) len (λ y i. absurd i) (λ y i. inl i) c (inr (in_all c h))

    stored : store_all (value x source) array all ≡ sweep p source
    stored =
        ext_get_or 0 (store_all (value x source) array all) (sweep p source)
        (store_length (value x source) all array ∙ len ∙ sym (sweep_length p source (so.local source) so.earlier (cells x)))
        (λ c k. stored_at c (rw (store_length (value x source) all array ∙ len) at k))

    pub sweep_is : run_nest x source array (sequential x) ≡ sweep (box_plan route x) source
    sweep_is =
        run_stores (sequential x) array sequential_each
        ∙ ap (store_all (value x source) array) (cells_in_order x ok ∙ sym (keep_all (λ c. true) (cells x) (λ c h. refl)))
        ∙ stored
