-- A slot's cells as the code counts, packs and unpacks them: the slot of a tile and a way, its rows, a row's room, all rows.
use Prim.Native.Nat.{ℕ, ◌+◌, ◌*◌, ◌≤◌, ◌<◌}
use mathlib.Core.Path.{◌≡◌, refl, sym, ap, ◌∙◌}
use mathlib.Core.List.{List}
use native.Mathlib.Nat.{mul-le-mul_right}
use native.Mathlib.Omega.{arith}
use lib.ListN.{length, get_or, take}
use lib.Seq.{take-length}
use Rattle.base.specs.Lists.{pack, unpack}
use Rattle.nest.specs.declared.Nest.{Nest}
use Rattle.nest.specs.Accepted.{Accepted}
use Rattle.nest.specs.Nest.{length_of, cells, box_tiles}
use Rattle.nest.specs.Places.{rank, tile_place}
use Rattle.nest.specs.Spans.{last}
use Rattle.nest.proofs.Shapes.{box_tiles_most}
use Rattle.plan.specs.declared.Route.{Route}
use Rattle.plan.specs.declared.Route.TheVariants.{Direct}
use Rattle.plan.specs.Messages.{ahead, ways, slots, slot_tile, slot_direction}
use Rattle.plan.specs.Shaped.{shaped_parcel}
use Rattle.plan.proofs.Parcels.{slot_low, slot_tile_lem, slot_way}
use Rattle.layout.proofs.Regions.{high_rest}
use Rattle.layout.specs.Sizes.{along}
use Rattle.layout.specs.Places.{nth, Has}
use Rattle.layout.proofs.Steps.{ways_few}
use Rattle.parcels.specs.declared.Sending.{Sending}
use Rattle.parcels.specs.Sendings.{Headed, BoxOfRows, Sends, cell_in}
use Rattle.parcels.proofs.Rows.{size_few, row_number}
use Rattle.runs.specs.Runs.{Room}
use Rattle.parcels.specs.shaped.Parcels.{shaped_found, Near, Rows, RowRuns}
use Rattle.parcels.proofs.shaped.Found.{near_found, found_few, row_last, row_cells, Counting, counting_few, counting_room, Packing, Unpacking}

-- ---- the slot of a tile of the box and a way

module _ (r : Route) (x : Nest) (n : ℕ) (is : n ≡ ways r x) (t w : ℕ) (h : t < box_tiles x) (l : w < ways r x) where
  pub slot_fits : Accepted x → (t * n ≤ 114688) × (t * n + w ≤ 114695)
  slot_fits ok =
      let m : t * n ≤ 16384 * n = mul-le-mul_right n (omega (arith, box_tiles_most x ok)) in
      (omega (arith, ways_few x ok r), omega (arith, ways_few x ok r))

  pub slot_headed : (at steps : List ℕ) → Has at (tile_place x t) x.dimensions → Has steps (along r x w) x.dimensions → Headed r x (t * n + w) at steps
  slot_headed at steps p q =
      rw is (record { low = slot_low x r t w h l; tile = rw (slot_tile_lem x r t w h l) p; way = rw (slot_way x r t w h l) q })

  pub slot_under : t * n + w < slots r x
  slot_under = rw is (slot_low x r t w h l)

module _ (x : Nest) (n : ℕ) (is : n ≡ ways Direct x) (t w : ℕ) (h : t < box_tiles x) (l : w < ways Direct x) where
  pub slot_parcel_lem : shaped_parcel x (slot_tile Direct x (t * n + w)) (slot_direction x (t * n + w)) ≡ shaped_parcel x t (w + 1)
  slot_parcel_lem = rw (is, slot_tile_lem x Direct t w h l, slot_way x Direct t w h l) refl

-- ---- the rows of a slot

module _ (x : Nest) (ok : Accepted x) (q : Route) (direct : q ≡ Direct) (n t w : ℕ) (is : n ≡ ways q x) (h : t < box_tiles x) (l : w < ways Direct x)
    (z : Sending) (s : Sends q x (t * n + w) z) where
  own : n ≡ ways Direct x
  own = rw direct at is

  sends : Sends Direct x (t * n + w) z
  sends = rw direct at s

  to : ℕ → ℕ
  to j = tile_place x (slot_tile Direct x (t * n + w)) j + ahead x (slot_direction x (t * n + w)) j

  window_high : get_or z.window.high (last x) 0 ≤ length_of x (last x)
  unfolding to
  window_high =
      let e = sends.window.high.each (last x) (omega (arith, ok.dimensions_least)) in
      omega (arith, e, high_rest x to to (last x) (omega (arith, ok.spread_low)))

  pub rows_are : (y : Sending) → Near x z y → Rows x t (w + 1) y
  rows_are y k =
      record {
        shape = k.shape;
        ends = rw k.window window_high;
        cells = sym (slot_parcel_lem x n own t w h l) ∙ near_found x ok (t * n + w) (slot_under Direct x n own t w h l) z sends y k;
      }

-- ---- a row

module _ (x : Nest) (ok : Accepted x) (z : Sending) (p : BoxOfRows x z) (r : ℕ) (low : r < z.rows) (at : List ℕ) (n : ℕ) (starts ends : List ℕ)
    (f : RowRuns x z r at n starts ends) where
  pub row_small : get_or at (last x) 0 + z.width ≤ 1024
  row_small = omega (
    arith,
    row_last x ok z p r at n starts ends f,
    p.width,
    p.inside (last x) (omega (arith, ok.dimensions_least)),
    ok.length_most (last x),
  )

  pub row_room : (count : ℕ) → Counting x z count r → (c : ℕ) → c ≡ rank (nth x.lengths) (nth at) x.dimensions → (memory words : ℕ)
      → memory ≡ cells x → words ≡ length (shaped_found x z (z.rows * z.width))
      → Room starts ends n c (get_or at (last x) 0) z.width memory words count
  row_room count g c is memory words m e =
      record {
        few = f.runs.few;
        low = omega (arith, here, row_cells x ok z p r low, m);
        small = row_small;
        room = rw (here, e) (counting_room x z ok p r low at n starts ends f count g);
        short = (omega (arith, m, ok.cells_most), omega (arith, e, found_few x z (z.rows * z.width), size_few x ok z p));
      }
    where
      here : c ≡ cell_in x z (r * z.width)
      here = is ∙ row_number x z r at f.place

-- ---- all rows

module _ (x : Nest) (u v : ℕ) (z : Sending) (q : Rows x u v z) where
  pub words_found : (words : ℕ) → words ≡ length (shaped_parcel x u v) → words ≡ length (shaped_found x z (z.rows * z.width))
  words_found words e = e ∙ ap length q.cells

  all_found : (count r : ℕ) → Counting x z count r → z.rows ≤ r → shaped_found x z (r * z.width) ≡ shaped_parcel x u v
  all_found count r g k = let e : r ≡ z.rows = omega (arith, g.low) in ap (λ (i : ℕ). shaped_found x z (i * z.width)) e ∙ sym q.cells

module _ (x : Nest) (ok : Accepted x) (u v : ℕ) (z : Sending) (q : Rows x u v z) where
  pub counts_few : (count r : ℕ) → Counting x z count r → count ≤ 16384
  counts_few count r g =
      omega (arith, counting_few x z count r g, size_few x ok z q.shape, mul-le-mul_right z.width g.low)

  pub counts_all : (count r : ℕ) → Counting x z count r → z.rows ≤ r → (count ≡ length (shaped_parcel x u v)) × (count ≤ 16384)
  counts_all count r g k = (g.is ∙ ap length (all_found x u v z q count r g k), counts_few count r g)

  pub packs_all : (memory words : List ℕ) (count r : ℕ) → Packing x z memory words count r → z.rows ≤ r → words ≡ pack memory (shaped_parcel x u v)
  packs_all memory words count r g k =
      let e : count ≡ length words = (counts_all count r g.counted k).0 ∙ sym (g.long ∙ ap length (sym q.cells)) in
      sym (take-length words) ∙ ap (λ (i : ℕ). take i words) (sym e) ∙ g.is ∙ ap (pack memory) (all_found x u v z q count r g.counted k)

  pub unpacks_all : (memory₀ words memory : List ℕ) (count r : ℕ) → Unpacking x z memory₀ words memory count r → z.rows ≤ r
      → length words ≡ length (shaped_parcel x u v) → memory ≡ unpack memory₀ (shaped_parcel x u v) words
  unpacks_all memory₀ words memory count r g k h =
      let e : count ≡ length words = (counts_all count r g.counted k).0 ∙ sym h in
      g.is
      ∙ ap (λ (l : List ℕ). unpack memory₀ l (take count words)) (all_found x u v z q count r g.counted k)
      ∙ ap (unpack memory₀ (shaped_parcel x u v)) (ap (λ (i : ℕ). take i words) e ∙ take-length words)
