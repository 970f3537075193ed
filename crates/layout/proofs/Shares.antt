-- A processor's shares of the dimensions: its tiles counted, and the tile after so many others.
use Prim.Native.Nat.{ℕ, zero, suc, ◌+◌, ◌*◌, ◌-◌, ◌/◌, ◌%◌, ◌≤◌, ◌<◌}
use mathlib.Core.Path.{◌≡◌, refl, sym, ap, ◌∙◌}
use mathlib.Core.Logic.{◌⊎◌, inl, inr}
use mathlib.Core.Bool.{Bool, true, false}
use mathlib.Core.List.{List}
use native.Mathlib.Nat.{add-div_right, add-mul, div-le_self, div-one, eq-or-lt_of_le, le-div_iff_mul-le, le_of_suc-le-suc, mod-eq_of_lt, mod-one}
use native.Mathlib.Nat.{mul_assoc, mul_comm, mul-le-mul_left, mul-le-mul_right, mul-one, one-mul, suc-mul, zero-mul}
use native.Mathlib.Decide.{dec_lt}
use native.Mathlib.Omega.{arith}
use lib.ListN.{length, get_or, length-map}
use lib.Dec.{ltb, eqb}
use borrow.Author.Tests.{lt-ltb, le-ltb, ltb-true, ne_eqb}
use Rattle.base.specs.Tests.{pick, product, those}
use Rattle.base.proofs.Tests.{pick_true, pick_false}
use Rattle.machine.specs.Plan.{tiles_of}
use Rattle.nest.specs.declared.Nest.{Nest}
use Rattle.nest.specs.Accepted.{Accepted}
use Rattle.nest.specs.Nest.{length_of, tile_length, processor_count, tile_count, processors, box_tiles}
use Rattle.nest.specs.Places.{rank, place, tile_at}
use Rattle.plan.specs.Geometry.{processor_of}
use Rattle.plan.specs.declared.Route.{Route}
use Rattle.plan.specs.Messages.{box_plan}
use Rattle.plan.specs.Loops.{values, tile_loop, loops}
use Rattle.nest.proofs.Rank.{Positive, place_last, place_before, place_low, rank_same, div_le}
use Rattle.plan.proofs.Tiles.{processor_of_low}
use Rattle.plan.proofs.Grid.{keep_nothing}
use Rattle.plan.proofs.Loops.{loops_are_tiles}
use Rattle.layout.specs.declared.Share.{Share}
use Rattle.layout.specs.declared.Sizes.{Sizes}
use Rattle.layout.specs.Sizes.{Sized}
use Rattle.layout.specs.Places.{nth, Has, Shared}
use Rattle.layout.proofs.Dims.{product_pos, place_lengths, rank_lengths}
use Rattle.layout.proofs.Cells.{across_product, across_countable, count_most, box_few}
use Rattle.layout.proofs.Nested.{loop_same, map_at, pos_left, pos_right, loops_length, loops_at}

-- ---- dimension by dimension, from the last on: the first j components of c over N are those of r

pub record Peeled (N : ℕ → ℕ) (m c j r : ℕ) : Type 0 where
  pub each : (i : ℕ) → i < j → place N j r i ≡ place N m c i

peeled_none : (N : ℕ → ℕ) (m c : ℕ) → Peeled N m c m c
peeled_none N m c = record { each = λ i h. refl }

module _ (N : ℕ → ℕ) (m c l r : ℕ) (p : Peeled N m c (suc l) r) where
  peeled_last : r % N l ≡ place N m c l
  peeled_last = sym (place_last N l r) ∙ p.each l (omega arith)

  peeled_more : Peeled N m c l (r / N l)
  peeled_more = record { each = λ i h. sym (place_before N l r i h) ∙ p.each i (omega arith) }

-- ---- bounds of products

factor : (N : ℕ → ℕ) (l j : ℕ) → Positive N l → j < l → N j ≤ product N l
unfolding product
factor N zero j p h = absurd (omega arith)
factor N (suc l) j p h = go (dec_lt j l) (λ k. factor N l j (λ q r. p q (omega arith)) k)
  where
    go : Dec (j < l) → (j < l → N j ≤ product N l) → N j ≤ product N l * N l
    go (yes k) ih = omega (arith, ih k, mul-le-mul_left (product N l) (p l (omega arith)), mul-one (product N l))
    go (no k) ih = let z : j ≡ l = omega arith in rw z (omega (arith, mul-le-mul_right (N l) (product_pos N l (λ q r. p q (omega arith))), one-mul (N l)))

-- factors of what is not nothing
factors_pos : (N : ℕ → ℕ) (l : ℕ) → 1 ≤ product N l → Positive N l
unfolding product
factors_pos N zero h j k = absurd (omega arith)
factors_pos N (suc l) h j k = go (eq-or-lt_of_le (le_of_suc-le-suc k)) (factors_pos N l (pos_left (product N l) (N l) h))
  where
    go : (j ≡ l) ⊎ (j < l) → Positive N l → 1 ≤ N j
    go (inl e) ih = rw e (pos_right (product N l) (N l) h)
    go (inr e) ih = ih j e

-- ---- one turn, in numbers

share_most : (b s f : ℕ) → 1 ≤ b → 1 ≤ s → (b - 1 + s - f) / s ≤ b
share_most b s f h k = omega (arith, div_le s (b - 1 + s - f) (b - 1 + s) k (omega arith), add-div_right (b - 1) k, div-le_self (b - 1) s)

share_within : (b s f k : ℕ) → 1 ≤ b → f < s → k < (b - 1 + s - f) / s → f + k * s < b
share_within b s f k h l q = omega (arith, (le-div_iff_mul-le {k = s} {x = suc k} {y = b - 1 + s - f} (omega arith)).0 q, suc-mul k s)

value_same : (k : ℕ) {f g i t s u q : ℕ} → f ≡ g → t ≡ q → k % q ≡ i → s ≡ u → f + k % t * s ≡ g + i * u
value_same k e z y w = rw (e, z, y, w)

count_step : (n v a b : ℕ) → n * (a * v) ≡ b → n * v * a ≡ b
count_step n v a b e = mul_assoc n v a ∙ ap (λ (k : ℕ). n * k) (mul_comm v a) ∙ e

few_step : (n v c a b : ℕ) → v ≤ c → n * (a * c) ≤ b → n * v * a ≤ b
few_step n v c a b h e = omega (arith, count_step n v a (n * (a * v)) refl, mul-le-mul_left n (mul-le-mul_left a h))

rank_step : (r c u w t : ℕ) → (r * c + u) * w + t ≡ r * (w * c) + (t + u * w)
rank_step r c u w t = omega (arith, add-mul (r * c) u w, mul_assoc r c w, ap (λ (k : ℕ). r * k) (mul_comm c w))

weight_step : (a c w b : ℕ) → a * c * w ≡ b → a * (w * c) ≡ b
weight_step a c w b e = ap (λ (k : ℕ). a * k) (mul_comm w c) ∙ sym (mul_assoc a c w) ∙ e

under_step : (t u w c : ℕ) → t < w → u < c → t + u * w < w * c
under_step t u w c h k = omega (arith, mul-le-mul_right w k, suc-mul u w, mul_comm c w)

weight_most : (a w b : ℕ) → 1 ≤ a → a * w ≡ b → w ≤ b
weight_most a w b h e = omega (arith, mul-le-mul_right w h, one-mul w)

-- ---- one share

module _ (b c p : ℕ) (spread : Bool) where
  pub shared_all : spread ≡ false → 1 ≤ b → Shared b (pick spread c 1) p (record { first = 0; stride = 1; tiles = b; rest = p })
  shared_all e h =
      rw (pick_false spread c 1 e) (record {
        first = sym (mod-one p);
        stride_is = refl;
        tiles = sym (div-one _ ∙ omega (arith, mod-one p));
        rest = sym
            (div-one p);
      })

  pub shared_some : spread ≡ true → Shared b (pick spread c 1) p (record { first = p % c; stride = c; tiles = (b - 1 + c - p % c) / c; rest = p / c })
  shared_some e = rw (pick_true spread c 1 e) (record { first = refl; stride_is = refl; tiles = refl; rest = refl })

-- ---- the shares, as the code has them

module _ (counts across : List ℕ) (spread m p : ℕ) where
  abbrev pub stride : ℕ → ℕ
  stride j = pick (ltb j spread) (get_or counts j 0) 1

  abbrev pub first : ℕ → ℕ
  first j = place stride m p j

  abbrev pub many : ℕ → ℕ
  many j = (get_or across j 0 - 1 + stride j - first j) / stride j

  -- the tile after f others
  abbrev pub after : ℕ → ℕ → ℕ
  after f j = first j + place many m f j * stride j

  pub record Counting (j rest n : ℕ) : Type 0 where
    pub low : j ≤ m
    pub peeled : Peeled stride m p j rest
    pub is : n * product many j ≡ product many m
    pub few : n * product (nth across) j ≤ product (nth across) m

  pub record Finding (f j rest left weight tile : ℕ) : Type 0 where
    pub low : j ≤ m
    pub peeled : Peeled stride m p j rest
    pub lefts : Peeled many m f j left
    pub is : rank (nth across) (after f) m ≡ rank (nth across) (after f) j * weight + tile
    pub few : product (nth across) j * weight ≡ product (nth across) m
    pub under : tile < weight

  -- what the code makes of a share, and where it stands then
  pub record Turn (f l left weight tile : ℕ) (r : Share) : Type 0 where
    pub some : 0 < r.tiles
    pub narrow : get_or across l 0 ≤ 1024
    pub in_range : r.first + left % r.tiles * r.stride < get_or across l 0
    pub room : tile + (r.first + left % r.tiles * r.stride) * weight < weight * get_or across l 0
    pub wide : weight * get_or across l 0 ≤ 16384
    pub next : Finding f l r.rest (left / r.tiles) (weight * get_or across l 0) (tile + (r.first + left % r.tiles * r.stride) * weight)

pub no_tiles : (r : Route) (x : Nest) → Accepted x → (p : ℕ) → processors x ≤ p → length (tiles_of (box_plan r x) p) ≡ 0
unfolding those
no_tiles r x ok p h =
    ap length (keep_nothing (λ t. eqb (processor_of x t) p) (box_tiles x) (λ t l. ne_eqb (processor_of x t) p (λ e. omega (arith, processor_of_low x ok t))))

module _ (route : Route) (x : Nest) (ok : Accepted x) (across : List ℕ) (a : Has across (tile_count x) x.dimensions) (p : ℕ) where
  abbrev N : ℕ → ℕ
  N = nth across

  abbrev S : ℕ → ℕ
  S = stride x.counts across x.spread x.dimensions p

  abbrev F : ℕ → ℕ
  F = first x.counts across x.spread x.dimensions p

  abbrev M : ℕ → ℕ
  M = many x.counts across x.spread x.dimensions p

  -- ---- the strides

  stride_in : (j : ℕ) → j < x.spread → S j ≡ processor_count x j
  stride_in j h = pick_true _ _ _ (lt-ltb j x.spread h)

  stride_out : (j : ℕ) → x.spread ≤ j → S j ≡ 1
  stride_out j h = pick_false _ _ _ (le-ltb j x.spread h)

  stride_pos : (j : ℕ) → 1 ≤ S j
  stride_pos j = go (dec_lt j x.spread)
    where
      go : Dec (j < x.spread) → 1 ≤ S j
      go (yes h) = rw (stride_in j h) (ok.manned j h)
      go (no h) = omega (arith, stride_out j (omega arith))

  pub count_few : (j : ℕ) → j < x.spread → get_or x.counts j 0 ≤ 4096
  unfolding processors
  count_few j h = omega (arith, factor (processor_count x) x.spread j ok.manned h, ok.processors_most)

  first_low : (j : ℕ) → j < x.dimensions → F j < S j
  first_low = place_low S x.dimensions p (λ j h. stride_pos j)

  -- the processor's place, 0 in the dimensions that are not spread
  first_in : (l j : ℕ) → x.spread ≤ l → j < x.spread → place S l p j ≡ place (processor_count x) x.spread p j
  first_in zero j h k = absurd (omega arith)
  first_in (suc l) j h k = go (eq-or-lt_of_le h) (λ q. first_in l j q k)
    where
      go : (x.spread ≡ suc l) ⊎ (x.spread < suc l) → (x.spread ≤ l → place S l p j ≡ place (processor_count x) x.spread p j) → place S (suc l) p j
          ≡ place (processor_count x) x.spread p j
      go (inl e) ih = ap (λ (i : ℕ). place S i p j) (sym e) ∙ place_lengths S (processor_count x) x.spread p j stride_in
      go (inr e) ih =
          let le : x.spread ≤ l = le_of_suc-le-suc e in
          place_before S l p j (omega arith) ∙ ap (λ (c : ℕ). place S l c j) (ap (λ (s : ℕ). p / s) (stride_out l le) ∙ div-one p) ∙ ih le

  first_out : (j : ℕ) → j < x.dimensions → x.spread ≤ j → F j ≡ 0
  first_out j h k = omega (arith, first_low j h, stride_out j k)

  -- ---- each loop of Figure 4

  abbrev at : ℕ → ℕ
  at = place (processor_count x) x.spread p

  last_is : (j : ℕ) → j < x.dimensions → (length_of x j - 1) / tile_length x j ≡ get_or across j 0 - 1
  unfolding tile_count
  last_is j h = omega (arith, a.each j h)

  loop_is : (j : ℕ) → j < x.dimensions → tile_loop x at j ≡ values (F j) (S j) (M j)
  unfolding tile_loop
  loop_is j h = go (dec_lt j x.spread)
    where
      go : Dec (j < x.spread) → tile_loop x at j ≡ values (F j) (S j) (M j)
      go (yes l) =
          pick_true _ _ _ (lt-ltb j x.spread l)
          ∙ loop_same (mod-eq_of_lt (place_low (processor_count x) x.spread p ok.manned j l)
          ∙ sym (first_in x.dimensions j (omega (arith, ok.spread_low)) l)) (last_is j h) (sym (stride_in j l))
      go (no l) =
          pick_false _ _ _ (le-ltb j x.spread (omega arith))
          ∙ loop_same (sym (first_out j h (omega arith))) (last_is j h) (sym (stride_out j (omega arith)))

  -- ---- its tiles

  pub count_is : p < processors x → product M x.dimensions ≡ length (tiles_of (box_plan route x) p)
  count_is low =
      sym (loops_length x at F S M x.dimensions loop_is x.dimensions (omega arith))
      ∙ sym (length-map (loops x at x.dimensions) (tile_at x))
      ∙ ap length (loops_are_tiles x ok p route low)

  pub tile_is : p < processors x → (f : ℕ) → f < product M x.dimensions → rank N (after x.counts across x.spread x.dimensions p f)
      x.dimensions ≡ get_or (tiles_of (box_plan route x) p) f 0
  unfolding tile_at
  tile_is low f h =
      rank_lengths N (tile_count x) _ x.dimensions a.each
      ∙ sym (rank_same (tile_count x) _ _ x.dimensions (loops_at x at F S M x.dimensions loop_is x.dimensions (omega arith) f h))
      ∙ sym (map_at (tile_at x) (loops x at x.dimensions) f (λ j. 0) 0
      (omega (arith, loops_length x at F S M x.dimensions loop_is x.dimensions (omega arith))))
      ∙ ap (λ (l : List ℕ). get_or l f 0) (loops_are_tiles x ok p route low)

  -- ---- counting them

  across_pos : Positive N x.dimensions
  across_pos = (across_countable x ok across a).positive

  across_few : product N x.dimensions ≤ 16384
  across_few = omega (arith, across_product x ok across a, box_few x ok)

  pub share_asks : (j : ℕ) → 0 < j → j ≤ x.dimensions
      → (1 ≤ get_or across (j - 1) 0) × ((get_or across (j - 1) 0 ≤ 1024) × (ltb (j - 1) x.spread ≡ true → (1 ≤ get_or x.counts (j - 1) 0) ×
      (get_or x.counts (j - 1) 0 ≤ 4096)))
  share_asks j h k =
      let l : j - 1 < x.dimensions = omega arith in (
        across_pos (j - 1) l,
        (
          omega (arith, a.each (j - 1) l, count_most x ok (j - 1) l),
          λ t. (
            ok.manned (j - 1) (ltb-true _ _ t),
            count_few (j - 1) (ltb-true _ _ t),
          ),
        ),
      )

  abbrev C : ℕ → ℕ → ℕ → Type 0
  C = Counting x.counts across x.spread x.dimensions p

  tiles_are : (l rest : ℕ) (r : Share) → Peeled S x.dimensions p (suc l) rest → Shared (N l) (S l) rest r → r.tiles ≡ M l
  tiles_are l rest r q h = h.tiles ∙ ap (λ (f : ℕ). (get_or across l 0 - 1 + S l - f) / S l) (peeled_last S x.dimensions p l rest q)

  rest_is : (l rest : ℕ) (r : Share) → Peeled S x.dimensions p (suc l) rest → Shared (N l) (S l) rest r → Peeled S x.dimensions p l r.rest
  rest_is l rest r q h = rw h.rest (peeled_more S x.dimensions p l rest q)

  pub counting_none : C x.dimensions p 1
  counting_none =
      record {
        low = omega arith;
        peeled = peeled_none S x.dimensions p;
        is = one-mul (product M x.dimensions);
        few = omega (arith, one-mul (product N x.dimensions));
      }

  counting_step : (l rest n : ℕ) (r : Share) → C (suc l) rest n → Shared (N l) (S l) rest r → C l r.rest (n * r.tiles)
  unfolding product
  counting_step l rest n r c h =
      record {
        low = omega (arith, c.low);
        peeled = rest_is l rest r c.peeled h;
        is = ap (λ (v : ℕ). n * v * product M l) (tiles_are l rest r c.peeled h) ∙ count_step n (M l) (product M l) (product M x.dimensions) c.is;
        few =
            rw (tiles_are l rest r c.peeled h) (few_step n (M l) (N l) (product N l) (product N x.dimensions)
            (share_most (N l) (S l) (F l) (across_pos l c.low) (stride_pos l)) c.few);
      }

  pub counting_more : (j rest n : ℕ) (r : Share) → 0 < j → C j rest n → Shared (N (j - 1)) (S (j - 1)) rest r → C (j - 1) r.rest (n * r.tiles)
  counting_more zero rest n r h c e = absurd (omega arith)
  counting_more (suc l) rest n r h c e = let z : suc l - 1 ≡ l = omega arith in rw z (counting_step l rest n r c (rw z at e))

  pub counting_few : (j rest n : ℕ) → C j rest n → n ≤ 16384
  counting_few j rest n c =
      omega (
        arith,
        c.few,
        across_few,
        weight_most (product N j) n (product N j * n) (product_pos N j (λ i h. across_pos i (omega (arith, c.low)))) refl,
        mul_comm n (product N j),
      )

  pub counting_end : p < processors x → (j rest n : ℕ) → C j rest n → j ≡ 0 → n ≡ length (tiles_of (box_plan route x) p)
  unfolding product
  counting_end low j rest n c e =
      let q : n * 1 ≡ product M x.dimensions = rw e at c.is in
      sym (mul-one n) ∙ q ∙ count_is low

  -- ---- finding one

  module _ (f : ℕ) (held : f < length (tiles_of (box_plan route x) p)) where
    abbrev U : ℕ → ℕ
    U = after x.counts across x.spread x.dimensions p f

    abbrev D : ℕ → ℕ → ℕ → ℕ → ℕ → Type 0
    D = Finding x.counts across x.spread x.dimensions p f

    abbrev T : ℕ → ℕ → ℕ → ℕ → Share → Type 0
    T = Turn x.counts across x.spread x.dimensions p f

    low : p < processors x
    low = go (dec_lt p (processors x))
      where
        go : Dec (p < processors x) → p < processors x
        go (yes h) = h
        go (no h) = absurd (omega (arith, no_tiles route x ok p (omega arith)))

    few : f < product M x.dimensions
    few = rw (count_is low) held

    many_pos : Positive M x.dimensions
    many_pos = factors_pos M x.dimensions (omega (arith, few))

    after_low : (j : ℕ) → j < x.dimensions → U j < N j
    after_low j h = share_within (N j) (S j) (F j) (place M x.dimensions f j) (across_pos j h) (first_low j h) (place_low M x.dimensions f many_pos j h)

    pub finding_none : D x.dimensions p f 1 0
    finding_none =
        record {
          low = omega arith;
          peeled = peeled_none S x.dimensions p;
          lefts = peeled_none M x.dimensions f;
          is = omega (arith, mul-one (rank N U x.dimensions));
          few = mul-one (product N x.dimensions);
          under = omega arith;
        }

    pub finding_end : (j rest left weight tile : ℕ) → D j rest left weight tile → j ≡ 0 → (tile ≡ get_or (tiles_of (box_plan route x) p) f 0) × (tile < box_tiles x)
    unfolding product rank
    finding_end zero rest left weight tile c e =
        (omega (arith, zero-mul weight, c.is, tile_is low f few), omega (arith, c.few, one-mul weight, c.under, across_product x ok across a))
    finding_end (suc j) rest left weight tile c e = absurd (omega arith)

    finding_step : (l rest left weight tile : ℕ) (r : Share) → D (suc l) rest left weight tile → Shared (N l) (S l) rest r → T l left weight tile r
    unfolding product rank
    finding_step l rest left weight tile r c h =
        record {
          some = rw t (many_pos l c.low);
          narrow = omega (arith, a.each l c.low, count_most x ok l c.low);
          in_range = below;
          room = under_step tile v weight (N l) c.under below;
          wide =
              omega (
                arith,
                weight_most (product N l) (weight * N l) (product N x.dimensions)
                    (product_pos N l (λ i k. across_pos i (omega (arith, c.low)))) weighs,
                across_few,
              );
          next =
              record {
                low = omega (arith, c.low);
                peeled = rest_is l rest r c.peeled h;
                lefts = rw t (peeled_more M x.dimensions f l left c.lefts);
                is = c.is ∙ rank_step (rank N U l) (N l) (U l) weight tile ∙ ap (λ (k : ℕ). rank N U l * (weight * N l) + (tile + k * weight)) (sym e);
                few = weighs;
                under = under_step tile v weight (N l) c.under below;
              };
        }
      where
        v : ℕ
        v = r.first + left % r.tiles * r.stride

        t : r.tiles ≡ M l
        t = tiles_are l rest r c.peeled h

        e : r.first + left % r.tiles * r.stride ≡ U l
        e = value_same left (h.first ∙ peeled_last S x.dimensions p l rest c.peeled) t (peeled_last M x.dimensions f l left c.lefts) h.stride_is

        below : r.first + left % r.tiles * r.stride < N l
        below = rw e (after_low l c.low)

        weighs : product N l * (weight * N l) ≡ product N x.dimensions
        weighs = weight_step (product N l) (N l) weight (product N x.dimensions) c.few

    pub finding_more : (j rest left weight tile : ℕ) (r : Share) → 0 < j → D j rest left weight tile → Shared (N (j - 1)) (S (j - 1)) rest r
        → T (j - 1) left weight tile r
    finding_more zero rest left weight tile r h c e = absurd (omega arith)
    finding_more (suc l) rest left weight tile r h c e = let z : suc l - 1 ≡ l = omega arith in rw z (finding_step l rest left weight tile r c (rw z at e))

-- the same of a nest's counts
pub finding_turn : (x : Nest) (z : Sizes) → Sized x z → (p f : ℕ) → f < length (tiles_of (box_plan z.route x) p)
    → (j rest left weight tile : ℕ) (r : Share) → 0 < j
    → Finding x.counts z.across x.spread x.dimensions p f j rest left weight tile
    → Shared (get_or z.across (j - 1) 0) (stride x.counts z.across x.spread x.dimensions p (j - 1)) rest r
    → Turn x.counts z.across x.spread x.dimensions p f (j - 1) left weight tile r
finding_turn x z s p f h = finding_more z.route x s.accepted z.across (record { each = s.across }) p f h
