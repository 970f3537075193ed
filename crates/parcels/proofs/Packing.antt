-- Packing by rows: the cells of a row that some distance reads, their words from a place on, and the parcel that grows by a row.
use Prim.Native.Nat.{ℕ, zero, suc, ◌+◌, ◌*◌, ◌-◌, ◌≤◌, ◌<◌}
use mathlib.Core.Path.{◌≡◌, refl, sym, ap, ◌∙◌}
use mathlib.Core.Bool.{Bool, true, false}
use mathlib.Core.List.{List, [], ◌∷◌, ◌++◌, map, append_assoc, append-nil}
use native.Mathlib.Nat.{add-zero, add_assoc}
use native.Mathlib.Numerals.{add-one}
use native.Mathlib.Omega.{arith}
use lib.ListN.{length, get_or, take, drop, set, length-append, length-map, length-take, length-drop}
use lib.Seq.{drop-cons, set_at, take_at, take-length}
use lib.Dec.{ltb}
use borrow.Author.Tests.{lt-ltb, le-ltb, ltb-false}
use Rattle.base.specs.Tests.{◌or◌, some, keep}
use Rattle.base.specs.Lists.{put, pack}
use Rattle.base.proofs.Tests.{some_one, some_none, some_same, tabulate_same}
use Rattle.base.proofs.Select.{keep_hit, keep_none, keep_lt, keep_mono}
use Rattle.base.proofs.Lists.{length_put, put_none, pack_length}
use Rattle.nest.specs.declared.Nest.{Nest}
use Rattle.nest.specs.Accepted.{Accepted}
use Rattle.nest.specs.Nest.{cells}
use Rattle.layout.specs.Regions.{comes_into}
use Rattle.plan.proofs.Grid.{map-append, keep_add, keep_nothing, keep_run, map_tabulate}
use Rattle.layout.specs.CellRows.{row_of}
use Rattle.parcels.specs.declared.Sending.{Sending}
use Rattle.parcels.specs.Windows.{is_read, Leading, row_parcel, RowRoom, RowPacked}
use Rattle.parcels.specs.Sendings.{found, RowEnds}
use Rattle.parcels.proofs.Walks.{meets, found_none, found_hit, found_miss, found_few, found_mono, pack_append}

-- ---- the cells of a row that some distance reads

-- the row from cell 20 of row B's second message: its last cell is read by no distance
row_of_B : row_parcel (7 ∷ []) 1 20 4 4 ≡ 20 ∷ 21 ∷ 22 ∷ []
unfolding row_parcel keep some ◌or◌
row_of_B = refl

-- cell 20 is read by both distances, 21 and 22 by the second alone
row_of_two : row_parcel (5 ∷ 7 ∷ []) 2 20 4 4 ≡ 20 ∷ 21 ∷ 22 ∷ []
unfolding row_parcel keep some ◌or◌
row_of_two = refl

keep_rest : (f : ℕ → Bool) (y w : ℕ) → y ≤ w → ((i : ℕ) → y ≤ i → i < w → f i ≡ false) → keep f w ≡ keep f y
keep_rest f y w h none =
    let k : w ≡ y + (w - y) = omega arith in
    ap (keep f) k
    ∙ keep_add f y (w - y)
    ∙ rw (keep_nothing (λ t. f (y + t)) (w - y) (λ t l. none (y + t) (omega arith) (omega arith))) (append-nil (keep f y))

module _ (ends : List ℕ) (n c a : ℕ) where
  row_none : row_parcel ends n c a 0 ≡ []
  unfolding row_parcel keep
  row_none = refl

  module _ (y : ℕ) where
    row_hit : is_read ends n (a + y) ≡ true → row_parcel ends n c a (y + 1) ≡ row_parcel ends n c a y ++ ((c + y) ∷ [])
    unfolding row_parcel
    row_hit h =
        rw (add-one y, keep_hit (λ i. is_read ends n (a + i)) y h) (map-append (λ i. c + i) (keep (λ i. is_read ends n (a + i)) y) (y ∷ []))

    row_miss : is_read ends n (a + y) ≡ false → row_parcel ends n c a (y + 1) ≡ row_parcel ends n c a y
    unfolding row_parcel
    row_miss h = rw (add-one y, keep_none (λ i. is_read ends n (a + i)) y h)

    -- none is read after one that no distance reads
    row_rest : (w : ℕ) → y ≤ w → ((e : ℕ) → e < n → ltb (a + y) (get_or ends e 0) ≡ false) → row_parcel ends n c a w ≡ row_parcel ends n c a y
    unfolding row_parcel
    row_rest w h f =
        ap (map (λ i. c + i)) (keep_rest (λ i. is_read ends n (a + i)) y w h
        (λ i k l. some_none _ n (λ e o. le-ltb (a + i) (get_or ends e 0) (omega (arith, ltb-false (a + y) (get_or ends e 0) (f e o))))))

    row_more : (w : ℕ) → y ≤ w → length (row_parcel ends n c a y) ≤ length (row_parcel ends n c a w)
    unfolding row_parcel
    row_more w h = simp length-map (keep_mono (λ i. is_read ends n (a + i)) w y h)

    row_lt : (w : ℕ) → y < w → is_read ends n (a + y) ≡ true → length (row_parcel ends n c a y) < length (row_parcel ends n c a w)
    unfolding row_parcel
    row_lt w h t = simp length-map (keep_lt (λ i. is_read ends n (a + i)) w y h t)

  -- they are the first ones
  pub row_run : (w r : ℕ) → Leading ends n a w r → row_parcel ends n c a w ≡ row_of c r
  unfolding row_parcel
  row_run w r p =
      ap (map (λ i. c + i)) (keep_run (λ i. is_read ends n (a + i)) 0 r w (omega (arith, p.low))
      (λ i h. absurd (omega arith))
      (λ i h. sym (p.is (0 + i) (omega (arith, p.low))) ∙ lt-ltb (0 + i) r (omega arith))
      (λ i h k. sym (p.is i k) ∙ le-ltb i r (omega arith)))
      ∙ map_tabulate (λ i. c + i) (λ i. 0 + i) r
      ∙ tabulate_same _ _ r (λ i h. omega arith)

-- ---- words put from a place on

module _ (l : List ℕ) (i : ℕ) (s : List ℕ) where
  take_put : i + length s ≤ length l → take (i + length s) (put l i s) ≡ take i l ++ s
  unfolding put
  take_put h =
      ap (take (i + length s)) (sym (append_assoc (take i l) s _))
      ∙ take_at (take i l ++ s) _ (i + length s) (simp (length-append, length-take) (omega arith))

  -- and one more
  put_more : (v : ℕ) → i + length s < length l → set (put l i s) (i + length s) v ≡ put l i (s ++ (v ∷ []))
  unfolding put
  put_more v h =
      let k : length s < length (drop i l) = rw length-drop (omega arith) in
      let e : length (s ++ (v ∷ [])) ≡ suc (length s) = simp length-append (add-one (length s)) in
      ap (λ (z : List ℕ). set (take i l ++ (s ++ z)) (i + length s) v) (drop-cons (drop i l) (length s) 0 k)
      ∙ ap (λ (z : List ℕ). set z (i + length s) v) (sym (append_assoc (take i l) s _))
      ∙ set_at (take i l ++ s) _ (drop (suc (length s)) (drop i l)) v (i + length s) (simp (length-append, length-take) (omega arith))
      ∙ append_assoc (take i l) s _
      ∙ ap (λ (z : List ℕ). take i l ++ z) (sym (append_assoc s (v ∷ []) _))
      ∙ ap (λ (m : ℕ). take i l ++ ((s ++ (v ∷ [])) ++ drop m (drop i l))) (sym e)

-- ---- a row being packed

-- between two cells
pub record Packing (ends : List ℕ) (n c a w : ℕ) (memory words₀ : List ℕ) (packed : ℕ) (words : List ℕ) (count y : ℕ) : Type 0 where
  pub low : y ≤ w
  pub first : RowPacked ends n c a y memory words₀ packed words count

-- between two distances of the cell at y₁: nothing has changed, and none of those before e reads it
pub record Searching (f : ℕ → Bool) (n : ℕ) (words₁ : List ℕ) (count₁ y₁ : ℕ) (words : List ℕ) (count y e : ℕ) : Type 0 where
  pub same_words : words ≡ words₁
  pub same_count : count ≡ count₁
  pub same_y : y ≡ y₁
  pub low : e ≤ n
  pub none : (i : ℕ) → i < e → f i ≡ false

module _ (ends : List ℕ) (n c a w : ℕ) (memory words₀ : List ℕ) (packed : ℕ) where
  pub packing_none : Packing ends n c a w memory words₀ packed words₀ packed 0
  unfolding pack
  packing_none =
      record {
        low = omega arith;
        first = record {
          count_is = omega (arith, ap length (row_none ends n c a));
          is = sym (ap (λ (z : List ℕ). put words₀ packed (pack memory z)) (row_none ends n c a) ∙ put_none words₀ packed);
        };
      }

  pub packing_end : (words : List ℕ) (count y : ℕ) → Packing ends n c a w memory words₀ packed words count y → w ≤ y
      → RowPacked ends n c a w memory words₀ packed words count
  packing_end words count y p h = let z : y ≡ w = omega (arith, p.low) in rw z at p.first

  module _ (k : RowRoom ends n c a w memory words₀ packed) where
    pub packing_long : (words : List ℕ) (count y : ℕ) → y ≤ w → RowPacked ends n c a y memory words₀ packed words count
        → length words ≡ length words₀
    packing_long words count y h p =
        ap length p.is
        ∙ length_put words₀ packed (pack memory (row_parcel ends n c a y))
        (omega (arith, k.room, pack_length (row_parcel ends n c a y) memory, row_more ends n c a y w h))

    module _ (words₁ : List ℕ) (count₁ y₁ : ℕ) (p : Packing ends n c a w memory words₀ packed words₁ count₁ y₁) (h : y₁ < w)
        (words : List ℕ) (count y e : ℕ) (f : Searching (λ d. ltb (a + y₁) (get_or ends d 0)) n words₁ count₁ y₁ words count y e) where
      module _ (l : e < n) (hit : a + y₁ < get_or ends e 0) where
        met : is_read ends n (a + y₁) ≡ true
        met = some_one _ n e l (lt-ltb _ _ hit)

        pub packing_room : (count < length words) × (count < 16384)
        packing_room =
            let m : count < length words₀ = omega (arith, f.same_count, p.first.count_is, k.room, row_lt ends n c a y₁ w h met) in
            (omega (arith, ap length f.same_words, packing_long words₁ count₁ y₁ p.low p.first), omega (arith, k.most))

        pub packing_hit : Packing ends n c a w memory words₀ packed (set words count (get_or memory (c + y₁) 0)) (count + 1) (y + 1)
        unfolding pack
        packing_hit =
            record {
              low = omega (arith, f.same_y);
              first = rw (f.same_words, f.same_count, f.same_y) (record {
                count_is = omega (arith, p.first.count_is, ap length found, length-append (row_parcel ends n c a y₁) ((c + y₁) ∷ []));
                is = ap (λ (z : List ℕ). set z count₁ (get_or memory (c + y₁) 0)) p.first.is
                    ∙ ap (λ (m : ℕ). set (put words₀ packed (pack memory (row_parcel ends n c a y₁))) m (get_or memory (c + y₁) 0))
                    (p.first.count_is ∙ ap (λ (m : ℕ). packed + m) (sym as_long_lem))
                    ∙ put_more words₀ packed (pack memory (row_parcel ends n c a y₁)) (get_or memory (c + y₁) 0)
                    (omega (arith, k.room, as_long_lem, row_lt ends n c a y₁ w h met))
                    ∙ ap (put words₀ packed) (sym (ap (pack memory) found ∙ pack_append memory (row_parcel ends n c a y₁) ((c + y₁) ∷ [])));
              });
            }
          where
            found : row_parcel ends n c a (y₁ + 1) ≡ row_parcel ends n c a y₁ ++ ((c + y₁) ∷ [])
            found = row_hit ends n c a y₁ met

            as_long_lem : length (pack memory (row_parcel ends n c a y₁)) ≡ length (row_parcel ends n c a y₁)
            as_long_lem = pack_length (row_parcel ends n c a y₁) memory

      pub packing_left : n ≤ e → RowPacked ends n c a w memory words₀ packed words count
      packing_left l =
          rw (f.same_words, f.same_count) (record {
            count_is = p.first.count_is ∙ ap (λ (z : List ℕ). packed + length z) (sym rest);
            is = p.first.is ∙ ap (λ (z : List ℕ). put words₀ packed (pack memory z)) (sym rest);
          })
        where
          rest : row_parcel ends n c a w ≡ row_parcel ends n c a y₁
          rest = row_rest ends n c a y₁ w p.low (λ i j. f.none i (omega arith))

-- ---- the parcel grows by a row

-- the first `count` words are those of the slot's cells among the first q of the box; all will fit
pub record PackedTo (x : Nest) (z : Sending) (memory words : List ℕ) (count q : ℕ) : Type 0 where
  pub low : q ≤ z.rows * z.width
  pub long : length words ≡ length (found x z (z.rows * z.width))
  pub small : z.rows * z.width ≤ 16384
  pub count_is : count ≡ length (found x z q)
  pub is : take count words ≡ pack memory (found x z q)

pub packed_none : (x : Nest) (z : Sending) (memory words : List ℕ) → length words ≡ length (found x z (z.rows * z.width))
    → z.rows * z.width ≤ 16384 → PackedTo x z memory words 0 0
unfolding pack
packed_none x z memory words long small =
    record {
      low = omega arith;
      long = long;
      small = small;
      count_is = ap length (sym (found_none x z));
      is = ap (pack memory) (sym (found_none x z));
    }

pub packed_end : (x : Nest) (z : Sending) (memory words : List ℕ) (count q : ℕ) → PackedTo x z memory words count q
    → z.rows * z.width ≤ q → words ≡ pack memory (found x z (z.rows * z.width))
packed_end x z memory words count q p h =
    let e : q ≡ z.rows * z.width = omega (arith, p.low) in
    let k : count ≡ length words = p.count_is ∙ ap (λ (m : ℕ). length (found x z m)) e ∙ sym p.long in
    sym (take-length words) ∙ ap (λ (m : ℕ). take m words) (sym k) ∙ p.is ∙ ap (λ (m : ℕ). pack memory (found x z m)) e

module _ (x : Nest) (z : Sending) (first c a w : ℕ) (ends : List ℕ) (f : RowEnds x z first c a w ends) where
  pub row_meets : (y : ℕ) → y < w → is_read ends x.distances (a + y) ≡ meets x z (first + y)
  unfolding comes_into
  row_meets y k = some_same _ _ x.distances (λ e i. f.tests y e k i)

  row_found : (y : ℕ) → y ≤ w → found x z (first + y) ≡ found x z first ++ row_parcel ends x.distances c a y
  row_found zero k = rw (add-zero first, row_none ends x.distances c a) (sym (append-nil _))
  row_found (suc y) k = rw (← add-one y, ← add_assoc first y 1) (go _ refl (row_found y (omega arith)))
    where
      go : (t : Bool) → is_read ends x.distances (a + y) ≡ t
          → found x z (first + y) ≡ found x z first ++ row_parcel ends x.distances c a y
          → found x z (first + y + 1) ≡ found x z first ++ row_parcel ends x.distances c a (y + 1)
      go true e ih =
          found_hit x z (first + y) (sym (row_meets y (omega arith)) ∙ e)
          ∙ rw (ih, row_hit ends x.distances c a y e, f.number y (omega arith))
          (append_assoc (found x z first) (row_parcel ends x.distances c a y) _)
      go false e ih = found_miss x z (first + y) (sym (row_meets y (omega arith)) ∙ e) ∙ rw (row_miss ends x.distances c a y e) ih

  pub row_all : found x z (first + w) ≡ found x z first ++ row_parcel ends x.distances c a w
  row_all = row_found w (omega arith)

  row_long : length (found x z (first + w)) ≡ length (found x z first) + length (row_parcel ends x.distances c a w)
  row_long = ap length row_all ∙ length-append (found x z first) (row_parcel ends x.distances c a w)

  module _ (memory words : List ℕ) (count : ℕ) (p : PackedTo x z memory words count first) where
    all_room : count + length (row_parcel ends x.distances c a w) ≤ length words
    all_room = omega (arith, p.count_is, p.long, row_long, found_mono x z (z.rows * z.width) (first + w) f.room)

    pub packed_room : Accepted x → length memory ≡ cells x → RowRoom ends x.distances c a w memory words count
    packed_room ok m =
        record {
          few = ok.distances_most;
          low = omega (arith, f.low);
          short = omega (arith, ok.cells_most);
          small = f.small;
          room = all_room;
          most = omega (arith, p.long, p.small, found_few x z (z.rows * z.width));
        }

    as_long_lem : length (pack memory (row_parcel ends x.distances c a w)) ≡ length (row_parcel ends x.distances c a w)
    as_long_lem = pack_length (row_parcel ends x.distances c a w) memory

    pub packed_row : (words' : List ℕ) (count' : ℕ) → RowPacked ends x.distances c a w memory words count words' count'
        → PackedTo x z memory words' count' (first + w)
    packed_row words' count' r =
        let h : count + length (pack memory (row_parcel ends x.distances c a w)) ≤ length words = omega (arith, all_room, as_long_lem) in
        record {
          low = f.room;
          long = ap length r.is ∙ length_put words count (pack memory (row_parcel ends x.distances c a w)) h ∙ p.long;
          small = p.small;
          count_is = omega (arith, r.count_is, p.count_is, row_long);
          is = ap (λ (m : ℕ). take m words') (r.count_is ∙ ap (λ (m : ℕ). count + m) (sym as_long_lem))
              ∙ ap (take (count + length (pack memory (row_parcel ends x.distances c a w)))) r.is
              ∙ take_put words count (pack memory (row_parcel ends x.distances c a w)) h
              ∙ ap (λ (k : List ℕ). k ++ pack memory (row_parcel ends x.distances c a w)) p.is
              ∙ sym (ap (pack memory) row_all ∙ pack_append memory (found x z first) (row_parcel ends x.distances c a w));
        }
