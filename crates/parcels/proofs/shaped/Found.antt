-- The cells of a slot of a nest with bounds are those found in its box, and in the smaller one of its rows near the window; they grow by rows.
use Prim.Native.Nat.{ℕ, zero, suc, ◌+◌, ◌*◌, ◌-◌, ◌/◌, ◌≤◌, ◌<◌}
use mathlib.Core.Path.{◌≡◌, refl, sym, ap, ◌∙◌}
use mathlib.Core.Bool.{Bool, true, false}
use mathlib.Core.List.{List, [], ◌∷◌, ◌++◌, map, append_assoc, append-nil}
use native.Mathlib.Nat.{add-zero, add_assoc, suc-mul, mul-le-mul_right}
use native.Mathlib.Numerals.{add-one}
use native.Mathlib.Omega.{arith}
use lib.ListN.{length, get_or, take, length-append, length-map}
use lib.Seq.{length-take-le, take-add}
use lib.Dec.{eqb, ltb, leb}
use borrow.Author.Tests.{eqb-true, eq-eqb, ltb-true, lt-ltb}
use Rattle.base.specs.Tests.{◌and◌, every, some, keep}
use Rattle.base.specs.Lists.{sublist, pack, unpack}
use Rattle.base.proofs.Tests.{both, and_true, same_test, every_at, every_all, some_at, some_one, some_same}
use Rattle.base.proofs.Select.{keep_hit, keep_none, keep_few, keep_mono, keep_same}
use Rattle.base.proofs.Lists.{pack_append, unpack_append, unpack_length}
use Rattle.nest.specs.declared.Nest.{Nest}
use Rattle.nest.specs.Accepted.{Accepted}
use Rattle.nest.specs.Nest.{length_of, tile_length, component, cells, box_tiles}
use Rattle.nest.specs.Places.{cell_place, tile_place, box_tile_of}
use Rattle.nest.specs.Shape.{in_shape}
use Rattle.nest.specs.Spans.{last}
use Rattle.plan.specs.declared.Route.TheVariants.{Direct}
use Rattle.plan.specs.Geometry.{inside}
use Rattle.plan.specs.Messages.{ahead, reaches, slots, slot_tile, slot_direction}
use Rattle.layout.specs.Regions.{Region, among, region_size, region_cell, direct_box, direct_window, slot_box, slot_window}
use Rattle.plan.specs.Shaped.{reaches_shape, shaped_parcel}
use Rattle.plan.proofs.Grid.{map-append, keep_both}
use Rattle.plan.proofs.Box.{box_tile_of_is}
use Rattle.plan.proofs.Tiles.{cell_at_low, cell_place_low, cell_place_cell_at, tile_place_box_tile_of}
use Rattle.plan.proofs.Parcels.{slot_tile_low}
use Rattle.layout.proofs.Regions.{among_at, among_all, box_at, box_all, window_stays, window_at, window_all, region_cells}
use Rattle.parcels.specs.declared.Sending.{Sending}
use Rattle.parcels.specs.declared.Window.{Window}
use Rattle.parcels.specs.Windows.{window_of}
use Rattle.parcels.specs.Sendings.{box_of, place_in, cell_in, Boxed, Windowed, BoxOfRows, Sends}
use Rattle.parcels.proofs.Sendings.{size_is}
use Rattle.parcels.proofs.Rows.{box_within, cell_before, cell_last, cell_number, row_corner}
use Rattle.runs.specs.Runs.{is_hit, hit_row, Packed, Unpacked}
use Rattle.runs.proofs.Laws.{hit_start, hit_one, hit_none}
use Rattle.parcels.specs.shaped.Runs.{reaches_place, comes_shaped}
use Rattle.parcels.specs.shaped.Parcels.{shaped_found, Near, RowRuns}
use Rattle.parcels.proofs.shaped.Runs.{place_same, shape_cell, shape_at}

-- ---- a slot's cells are those found in its box

module _ (x : Nest) (ok : Accepted x) where
  comes_same : (w v : Region) (i k : ℕ → ℕ) → ((j : ℕ) → j < x.dimensions → i j ≡ k j)
      → ((j : ℕ) → j < x.dimensions → (w.low j ≡ v.low j) × (w.high j ≡ v.high j)) → comes_shaped x w i ≡ comes_shaped x v k
  unfolding comes_shaped among
  comes_same w v i k h g =
      some_same _ _ x.distances (λ e l. rw (
        place_same x ok i k h,
        place_same x ok (λ j. i j + component x e j) (λ j. k j + component x e j) (λ j o. ap (λ (a : ℕ). a + component x e j) (h j o)),
        tests e,
      ))
    where
      tests : (e : ℕ) → every (λ j. leb (w.low j) (i j + component x e j) and ltb (i j + component x e j) (w.high j)) x.dimensions
          ≡ every (λ j. leb (v.low j) (k j + component x e j) and ltb (k j + component x e j) (v.high j)) x.dimensions
      tests e = same_test
          (λ t. every_all _ x.dimensions (λ j o. rw (← h j o, ← (g j o).0, ← (g j o).1) (every_at _ x.dimensions t j o)))
          (λ t. every_all _ x.dimensions (λ j o. rw (h j o, (g j o).0, (g j o).1) (every_at _ x.dimensions t j o)))

  module _ (t v c : ℕ) (lt : t < box_tiles x) (lc : c < cells x) where
    abbrev shaped_test : Bool
    shaped_test = among x (direct_box x t) (cell_place x c) and comes_shaped x (direct_window x t v) (cell_place x c)

    abbrev crosses_shape : Bool
    crosses_shape = in_shape x c and eqb (box_tile_of x c) t and some (reaches_shape x t v c) x.distances

    there : crosses_shape ≡ true → shaped_test ≡ true
    unfolding reaches_shape reaches inside comes_shaped
    there h =
        let b = both h in
        let q = both b.1 in
        let r = some_at (reaches_shape x t v c) x.distances q.1 in
        let m = both r.2 in
        let d = both m.0 in
        let stays : (j : ℕ) → j < x.dimensions → cell_place x c j + component x r.0 j < length_of x j =
        λ j l. ltb-true _ _ (every_at _ x.dimensions d.0 j l) in
        let steps : (j : ℕ) → j < x.spread → (cell_place x c j + component x r.0 j) / tile_length x j ≡ tile_place x t j + ahead x v j =
        λ j l. eqb-true _ _ (every_at _ x.spread d.1 j l) in
        let own : (j : ℕ) → j < x.dimensions → cell_place x c j / tile_length x j ≡ tile_place x t j =
        λ j l. sym (tile_place_box_tile_of x ok c j l) ∙ ap (λ (u : ℕ). tile_place x u j) (eqb-true _ _ q.0) in
        and_true
        (box_all x ok _ _ (cell_place x c) (cell_place_low x ok c) (λ j l. (omega (arith, own j l), omega (arith, own j l))))
        (some_one _ x.distances r.0 r.1 (and_true (sym (shape_cell x ok c) ∙ b.0)
        (and_true (window_all x ok _ _ (λ j. cell_place x c j + component x r.0 j) stays (λ j s. (omega (arith, steps j s), omega (arith, steps j s))))
        (sym (shape_at x ok (λ j. cell_place x c j + component x r.0 j) stays) ∙ m.1))))

    back : shaped_test ≡ true → crosses_shape ≡ true
    unfolding reaches_shape reaches inside comes_shaped
    back h =
        let b = both h in
        let r = some_at (λ e. reaches_place x (direct_window x t v) e (cell_place x c)) x.distances b.1 in
        let m = both r.2 in
        let n = both m.1 in
        let stays = window_stays x ok _ _ (λ j. cell_place x c j + component x r.0 j) n.0 in
        let steps = window_at x ok _ _ (λ j. cell_place x c j + component x r.0 j) n.0 in
        and_true (shape_cell x ok c ∙ m.0)
        (and_true (eq-eqb (box_tile_of x c) t (box_tile_of_is x ok c t lt (λ j l. let p = box_at x ok _ _ (cell_place x c) b.0 j l in omega (arith, p.0, p.1))))
        (some_one (reaches_shape x t v c) x.distances r.0 r.1
        (and_true
        (and_true (every_all (λ j. ltb (cell_place x c j + component x r.0 j) (length_of x j)) x.dimensions (λ j l. lt-ltb _ _ (stays j l)))
        (every_all (λ j. eqb ((cell_place x c j + component x r.0 j) / tile_length x j) (tile_place x t j + ahead x v j)) x.spread
        (λ j s. eq-eqb ((cell_place x c j + component x r.0 j) / tile_length x j) (tile_place x t j + ahead x v j)
        (let p = steps j s in omega (arith, p.0, p.1)))))
        (shape_at x ok (λ j. cell_place x c j + component x r.0 j) stays ∙ n.1))))

    shaped_test_lem : crosses_shape ≡ shaped_test
    shaped_test_lem = same_test there back

  -- the smaller box has the same
  module _ (s : ℕ) (l : s < slots Direct x) (z : Sending) (p : Sends Direct x s z) (y : Sending) (q : Near x z y) where
    abbrev near_test : ℕ → Bool
    near_test c = among x (box_of y.block) (cell_place x c) and comes_shaped x (window_of y.window) (cell_place x c)

    window_is : (i : ℕ → ℕ) → comes_shaped x (slot_window Direct x s) i ≡ comes_shaped x (window_of y.window) i
    window_is i =
        comes_same (slot_window Direct x s) (window_of z.window) i i (λ j o. refl) (λ j o. (sym (p.window.low.each j o), sym (p.window.high.each j o)))
        ∙ ap (λ (w : Window). comes_shaped x (window_of w) i) (sym q.window)

    inner : (i : ℕ → ℕ) → among x (slot_box Direct x s) i ≡ true → comes_shaped x (slot_window Direct x s) i ≡ true → among x (box_of y.block) i ≡ true
    unfolding comes_shaped
    inner i b c =
        let r = some_at (λ e. reaches_place x (slot_window Direct x s) e i) x.distances c in
        let w = (both (both r.2).1).0 in
        among_all x (box_of y.block) i (λ j o.
        let a = among_at x (slot_box Direct x s) i b j o in
        let m = among_at x (slot_window Direct x s) (λ k. i k + component x r.0 k) w j o in
        let f = p.box.corner.each j o in
        let g = p.box.lengths.each j o in (
          q.has r.0 j (i j) r.1 o (omega (arith, a.0, f)) (omega (arith, a.0, a.1, f, g)) (omega (arith, m.0, p.window.low.each j o)),
          omega (arith, a.0, a.1, f, g, q.to j o),
        ))

    outer : (i : ℕ → ℕ) → among x (box_of y.block) i ≡ true → among x (slot_box Direct x s) i ≡ true
    outer i b = among_all x (slot_box Direct x s) i (λ j o.
        let a = among_at x (box_of y.block) i b j o in
        let f = p.box.corner.each j o in
        let g = p.box.lengths.each j o in
        (omega (arith, a.0, f, q.from j o), omega (arith, a.1, f, g, q.to j o, p.shape.least j o)))

    near_test_lem : (c : ℕ) (h : c < cells x) → crosses_shape (slot_tile Direct x s) (slot_direction x s) c (slot_tile_low x Direct s l) h ≡ near_test c
    near_test_lem c h =
        shaped_test_lem (slot_tile Direct x s) (slot_direction x s) c (slot_tile_low x Direct s l) h
        ∙ same_test
        (λ t. let b = both t in and_true (inner (cell_place x c) b.0 b.1) (sym (window_is (cell_place x c)) ∙ b.1))
        (λ t. let b = both t in and_true (outer (cell_place x c) b.0) (window_is (cell_place x c) ∙ b.1))

    boxed : Boxed x (box_of y.block) y.block
    boxed = record { corner = record { each = λ j o. refl }; lengths = record { each = λ j o. omega arith } }

    windowed : Windowed x (window_of y.window) y.window
    windowed = record { low = record { each = λ j o. refl }; high = record { each = λ j o. refl } }

    pub near_found : shaped_parcel x (slot_tile Direct x s) (slot_direction x s) ≡ shaped_found x y (y.rows * y.width)
    unfolding shaped_parcel shaped_found region_cell
    near_found =
        keep_same _ near_test (cells x) near_test_lem
        ∙ keep_both (λ c. among x (box_of y.block) (cell_place x c)) (λ c. comes_shaped x (window_of y.window) (cell_place x c))
        (cell_in x y) (cells x) (region_size x (box_of y.block)) (region_cells x (box_of y.block) (λ j h. (omega arith, q.shape.inside j h)))
        ∙ ap (map (cell_in x y)) (keep_same _ _ (region_size x (box_of y.block))
        (λ n h. comes_same (window_of y.window) (window_of y.window) (cell_place x (cell_in x y n)) (place_in x y n)
        (λ j k. cell_place_cell_at x ok (place_in x y n) (box_within x ok y q.shape n) j k) (λ j k. (refl, refl))))
        ∙ ap (λ (n : ℕ). map (cell_in x y) (keep (λ i. comes_shaped x (window_of y.window) (place_in x y i)) n))
        (size_is x (box_of y.block) (window_of y.window) y boxed windowed (omega (arith, ok.dimensions_least)) q.shape.rows q.shape.width)

-- ---- they grow by rows

abbrev test : Nest → Sending → ℕ → Bool
test x z q = comes_shaped x (window_of z.window) (place_in x z q)

module _ (x : Nest) (z : Sending) where
  found_none : shaped_found x z 0 ≡ []
  unfolding shaped_found keep
  found_none = refl

  found_hit : (q : ℕ) → test x z q ≡ true → shaped_found x z (q + 1) ≡ shaped_found x z q ++ (cell_in x z q ∷ [])
  unfolding shaped_found
  found_hit q e = rw (add-one q, keep_hit (test x z) q e) (map-append (cell_in x z) (keep (test x z) q) (q ∷ []))

  found_miss : (q : ℕ) → test x z q ≡ false → shaped_found x z (q + 1) ≡ shaped_found x z q
  unfolding shaped_found
  found_miss q e = rw (add-one q, keep_none (test x z) q e)

  pub found_few : (q : ℕ) → length (shaped_found x z q) ≤ q
  unfolding shaped_found
  found_few q = simp length-map (keep_few (test x z) q)

  found_upto : (q n : ℕ) → q ≤ n → length (shaped_found x z q) ≤ length (shaped_found x z n)
  unfolding shaped_found
  found_upto q n h = simp length-map (keep_mono (test x z) n q h)

module _ (x : Nest) (ok : Accepted x) (z : Sending) (p : BoxOfRows x z) (r : ℕ) (at : List ℕ) (n : ℕ) (starts ends : List ℕ)
    (f : RowRuns x z r at n starts ends) where
  abbrev first : ℕ
  first = r * z.width

  abbrev edge : ℕ
  edge = get_or z.block.corner (last x) 0

  row_test : (y : ℕ) → y < z.width → is_hit starts ends n (edge + y) ≡ test x z (first + y)
  row_test y h =
      ap (is_hit starts ends n) (sym (cell_last x ok z p r y h))
      ∙ f.runs.is (place_in x z (first + y)) (λ j o. cell_before x ok z p r y h j o ∙ sym (f.place.each j (omega arith)))
      (box_within x ok z p (first + y) (last x) (omega (arith, ok.dimensions_least)))

  row_grows : (y : ℕ) → y ≤ z.width → shaped_found x z (first + y) ≡ shaped_found x z first ++ hit_row starts ends n (cell_in x z first) edge y
  row_grows zero h = rw (add-zero first, hit_start starts ends n (cell_in x z first) edge) (sym (append-nil _))
  row_grows (suc y) h = rw (← add-one y, ← add_assoc first y 1) (go _ refl (row_grows y (omega arith)))
    where
      go : (t : Bool) → is_hit starts ends n (edge + y) ≡ t
          → shaped_found x z (first + y) ≡ shaped_found x z first ++ hit_row starts ends n (cell_in x z first) edge y
          → shaped_found x z (first + y + 1) ≡ shaped_found x z first ++ hit_row starts ends n (cell_in x z first) edge (y + 1)
      go true e ih =
          found_hit x z (first + y) (sym (row_test y (omega arith)) ∙ e)
          ∙ rw (ih, hit_one starts ends n (cell_in x z first) edge y e, cell_number x ok z p r y (omega arith)) (append_assoc (shaped_found x z first) _ _)
      go false e ih =
          found_miss x z (first + y) (sym (row_test y (omega arith)) ∙ e) ∙ rw (hit_none starts ends n (cell_in x z first) edge y e) ih

  -- the whole row, by the place's last component
  pub row_last : get_or at (last x) 0 ≡ edge
  row_last = f.place.each (last x) (omega (arith, ok.dimensions_least)) ∙ row_corner x ok z p r

  pub row_found : shaped_found x z ((r + 1) * z.width)
      ≡ shaped_found x z (r * z.width) ++ hit_row starts ends n (cell_in x z (r * z.width)) (get_or at (last x) 0) z.width
  row_found = rw (next_row r z.width, row_last) (row_grows z.width (omega arith))
    where
      next_row : (r w : ℕ) → (r + 1) * w ≡ r * w + w
      next_row r w = rw (add-one r) (suc-mul r w)

-- its cells are the nest's
pub row_cells : (x : Nest) (ok : Accepted x) (z : Sending) (p : BoxOfRows x z) (r : ℕ) → r < z.rows → cell_in x z (r * z.width) + z.width ≤ cells x
unfolding region_cell
row_cells x ok z p r h =
    let w : 1 ≤ z.width = omega (arith, p.width, p.least (last x) (omega (arith, ok.dimensions_least))) in
    omega (
      arith,
      cell_number x ok z p r (z.width - 1) (omega arith),
      cell_at_low x ok (place_in x z (r * z.width + (z.width - 1))) (box_within x ok z p (r * z.width + (z.width - 1))),
    )

-- ---- the count, the packed words and the memory that grow by rows

pub record Counting (x : Nest) (z : Sending) (count r : ℕ) : Type 0 where
  pub low : r ≤ z.rows
  pub is : count ≡ length (shaped_found x z (r * z.width))

pub record Packing (x : Nest) (z : Sending) (memory words : List ℕ) (count r : ℕ) : Type 0 where
  pub counted : Counting x z count r
  pub long : length words ≡ length (shaped_found x z (z.rows * z.width))
  pub is : take count words ≡ pack memory (shaped_found x z (r * z.width))

pub record Unpacking (x : Nest) (z : Sending) (memory₀ words memory : List ℕ) (count r : ℕ) : Type 0 where
  pub counted : Counting x z count r
  pub is : memory ≡ unpack memory₀ (shaped_found x z (r * z.width)) (take count words)

module _ (x : Nest) (z : Sending) where
  none_yet : shaped_found x z (0 * z.width) ≡ []
  none_yet = rw (zero_times z.width) (found_none x z)
    where
      zero_times : (n : ℕ) → 0 * n ≡ 0
      zero_times n = omega arith

  pub counting_none : Counting x z 0 0
  counting_none = record { low = omega arith; is = ap length (sym none_yet) }

  pub packing_none : (memory words : List ℕ) → length words ≡ length (shaped_found x z (z.rows * z.width)) → Packing x z memory words 0 0
  unfolding pack
  packing_none memory words h = record { counted = counting_none; long = h; is = ap (pack memory) (sym none_yet) }

  pub unpacking_none : (memory words : List ℕ) → Unpacking x z memory words memory 0 0
  unfolding unpack
  unpacking_none memory words = record { counted = counting_none; is = ap (λ (l : List ℕ). unpack memory l []) (sym none_yet) }

  pub unpacking_long : (memory₀ words memory : List ℕ) (count r : ℕ) → Unpacking x z memory₀ words memory count r → length memory ≡ length memory₀
  unpacking_long memory₀ words memory count r g = ap length g.is ∙ unpack_length (shaped_found x z (r * z.width)) (take count words) memory₀

  pub counting_few : (count r : ℕ) → Counting x z count r → count ≤ r * z.width
  counting_few count r g = omega (arith, g.is, found_few x z (r * z.width))

  pub counting_upto : (count r : ℕ) → Counting x z count r → count ≤ length (shaped_found x z (z.rows * z.width))
  counting_upto count r g =
      omega (arith, g.is, found_upto x z (r * z.width) (z.rows * z.width) (mul-le-mul_right z.width g.low))

  module _ (ok : Accepted x) (p : BoxOfRows x z) (r : ℕ) (low : r < z.rows) (at : List ℕ) (n : ℕ) (starts ends : List ℕ)
      (f : RowRuns x z r at n starts ends) where
    abbrev cell : ℕ
    cell = cell_in x z (r * z.width)

    abbrev row_hits : ℕ → List ℕ
    row_hits c = hit_row starts ends n c (get_or at (last x) 0) z.width

    pub counting_row : (count more : ℕ) → Counting x z count r → ((c : ℕ) → more ≡ length (row_hits c)) → Counting x z (count + more) (r + 1)
    counting_row count more g h =
        record {
          low = omega arith;
          is = omega (
            arith,
            g.is,
            h cell,
            ap length (row_found x ok z p r at n starts ends f),
            length-append (shaped_found x z (r * z.width)) (row_hits cell),
          );
        }

    module _ (count : ℕ) (g : Counting x z count r) where
      counted : (count' : ℕ) → count' ≡ count + length (row_hits cell) → Counting x z count' (r + 1)
      counted count' e =
          record {
            low = omega arith;
            is = omega (
              arith,
              e,
              g.is,
              ap length (row_found x ok z p r at n starts ends f),
              length-append (shaped_found x z (r * z.width)) (row_hits cell),
            );
          }

      pub counting_room : count + length (row_hits cell) ≤ length (shaped_found x z (z.rows * z.width))
      counting_room = counting_upto _ (r + 1) (counted _ refl)

    module _ (c : ℕ) (is : c ≡ cell) where
      pub packing_row : (memory words : List ℕ) (count : ℕ) → Packing x z memory words count r → (words' : List ℕ) (count' : ℕ)
          → Packed starts ends n c (get_or at (last x) 0) z.width memory words count words' count' → Packing x z memory words' count' (r + 1)
      packing_row memory words count g words' count' d =
          let d' : Packed starts ends n cell (get_or at (last x) 0) z.width memory words count words' count' = rw is at d in
          record {
            counted = counted count g.counted count' d'.count_is;
            long = d'.long ∙ g.long;
            is = d'.is
                ∙ ap (λ (l : List ℕ). l ++ pack memory (row_hits cell)) g.is
                ∙ sym (ap (pack memory) (row_found x ok z p r at n starts ends f) ∙ pack_append memory (shaped_found x z (r * z.width)) (row_hits cell));
          }

      pub unpacking_row : (memory₀ words memory : List ℕ) (count : ℕ) → Unpacking x z memory₀ words memory count r → count ≤ length words
          → (memory' : List ℕ) (count' : ℕ) → Unpacked starts ends n c (get_or at (last x) 0) z.width memory words count memory' count'
          → Unpacking x z memory₀ words memory' count' (r + 1)
      unfolding sublist
      unpacking_row memory₀ words memory count g low memory' count' d =
          let d' : Unpacked starts ends n cell (get_or at (last x) 0) z.width memory words count memory' count' = rw is at d in
          record {
            counted = counted count g.counted count' d'.count_is;
            is = d'.is
                ∙ ap (λ (l : List ℕ). unpack l (row_hits cell) (sublist words count (length (row_hits cell)))) g.is
                ∙ sym (unpack_append memory₀ (shaped_found x z (r * z.width)) (row_hits cell) (take count words) (sublist words count (length (row_hits cell)))
                (length-take-le count words low ∙ g.counted.is))
                ∙ ap (λ (l : List ℕ). unpack memory₀ l (take count words ++ sublist words count (length (row_hits cell))))
                (sym (row_found x ok z p r at n starts ends f))
                ∙ ap (unpack memory₀ (shaped_found x z ((r + 1) * z.width)))
                (sym (take-add count (length (row_hits cell)) words) ∙ ap (λ (i : ℕ). take i words) (sym d'.count_is));
          }
