-- Laws of runs: what lies ahead in a row, the cells of it that are hit, by pieces, its words packed and unpacked by pieces.
use Prim.Native.Nat.{ℕ, zero, suc, ◌+◌, ◌-◌, ◌≤◌, ◌<◌}
use mathlib.Core.Path.{◌≡◌, refl, sym, ap, ◌∙◌}
use mathlib.Core.Logic.{◌⊎◌, inl, inr}
use mathlib.Core.Bool.{Bool, true, false}
use mathlib.Core.List.{List, [], ◌∷◌, ◌++◌, append_assoc, append-nil}
use native.Mathlib.Nat.{add-zero}
use native.Mathlib.Numerals.{add-one}
use native.Mathlib.Decide.{dec_lt}
use native.Mathlib.Omega.{arith}
use lib.ListN.{length, get_or, take, drop, length-append}
use lib.Seq.{take-add, drop-drop}
use borrow.Author.Tests.{le-leb, lt-leb, lt-ltb, le-ltb}
use Rattle.base.specs.Tests.{◌or◌, some, keep_if, tabulate}
use Rattle.base.specs.Lists.{sublist, put, pack, unpack}
use Rattle.base.proofs.Tests.{and_true, and_false, and_no, or_left, or_right, or_false, length_tabulate}
use Rattle.base.proofs.Lists.{part_length, length_put, pack_append, unpack_append, unpack_length}
use Rattle.base.proofs.Copies.{part_row, put_row, take_put}
use Rattle.runs.specs.Runs.{within, is_hit, hit_row, cells_from, AllHit, NoneHit, AheadIs, PieceIs, Fits, Room, Packed, Unpacked}

-- ---- what lies ahead in a row, by its first runs

module _ (starts ends : List ℕ) where
  hit_more : (n a : ℕ) → is_hit starts ends (n + 1) a ≡ (is_hit starts ends n a or within (get_or starts n 0) (get_or ends n 0) a)
  unfolding some
  hit_more n a = rw (add-one n) refl

  pub ahead_none : (a b : ℕ) → a < b → AheadIs starts ends 0 a b a b
  unfolding some
  ahead_none a b h = record { begun = omega arith; later = h; cut = omega arith; all = λ m k l. absurd (omega arith); none = λ r m k l. refl }

  module _ (n a b reach next : ℕ) (p : AheadIs starts ends n a b reach next) where
    pub ahead_more : (reach' next' : ℕ)
        → (reach ≤ reach') × ((get_or starts n 0 ≤ a → get_or ends n 0 ≤ reach') × ((reach' ≡ reach) ⊎ ((reach' ≡ get_or ends n 0) × (get_or starts n 0 ≤ a))))
        → (next' ≤ next) × ((a < get_or starts n 0 → next' ≤ get_or starts n 0) × ((next' ≡ next) ⊎ ((next' ≡ get_or starts n 0) × (a < get_or starts n 0))))
        → AheadIs starts ends (n + 1) a b reach' next'
    ahead_more reach' next' f g =
        record {
          begun = omega (arith, p.begun, f.0);
          later = later g.1.1;
          cut = omega (arith, p.cut, g.0);
          all = λ m k l. hit_more n m ∙ all m k l f.1.1 (dec_lt m reach);
          none = λ r m k l. hit_more n m
              ∙ or_false (p.none (omega (arith, f.0)) m k (omega (arith, g.0))) (none r m k l (dec_lt a (get_or starts n 0)));
        }
      where
        later : (next' ≡ next) ⊎ ((next' ≡ get_or starts n 0) × (a < get_or starts n 0)) → a < next'
        later (inl q) = omega (arith, p.later)
        later (inr q) = omega (arith, q.0, q.1)

        all : (m : ℕ) → a ≤ m → m < reach' → (reach' ≡ reach) ⊎ ((reach' ≡ get_or ends n 0) × (get_or starts n 0 ≤ a)) → Dec (m < reach)
            → (is_hit starts ends n m or within (get_or starts n 0) (get_or ends n 0) m) ≡ true
        all m k l q (yes o) = or_left _ (p.all m k o)
        all m k l (inl q) (no o) = absurd (omega arith)
        all m k l (inr q) (no o) =
            or_right (is_hit starts ends n m) (and_true (le-leb (get_or starts n 0) m (omega (arith, q.1))) (lt-ltb m (get_or ends n 0) (omega (arith, q.0))))

        none : reach' ≤ a → (m : ℕ) → a ≤ m → m < next' → Dec (a < get_or starts n 0) → within (get_or starts n 0) (get_or ends n 0) m ≡ false
        none r m k l (yes o) = and_false _ _ (lt-leb (get_or starts n 0) m (omega (arith, g.1.0 o)))
        none r m k l (no o) = and_no _ _ (le-ltb m (get_or ends n 0) (omega (arith, f.1.0 (omega arith))))

-- ---- the cells of a row that are hit

module _ (starts ends : List ℕ) (n c a : ℕ) where
  pub hit_start : hit_row starts ends n c a 0 ≡ []
  unfolding hit_row
  hit_start = refl

  pub hit_one : (y : ℕ) → is_hit starts ends n (a + y) ≡ true → hit_row starts ends n c a (y + 1) ≡ hit_row starts ends n c a y ++ ((c + y) ∷ [])
  unfolding hit_row
  hit_one y h = rw (add-one y, h) refl

  pub hit_none : (y : ℕ) → is_hit starts ends n (a + y) ≡ false → hit_row starts ends n c a (y + 1) ≡ hit_row starts ends n c a y
  unfolding hit_row
  hit_none y h = rw (add-one y, h) (append-nil (hit_row starts ends n c a y))

  hit_few : (y : ℕ) → length (hit_row starts ends n c a y) ≤ y
  unfolding hit_row
  hit_few zero = omega arith
  hit_few (suc y) = go (is_hit starts ends n (a + y)) (hit_few y)
    where
      go : (t : Bool) → length (hit_row starts ends n c a y) ≤ y → length (hit_row starts ends n c a y ++ keep_if t (c + y)) ≤ suc y
      go true h = simp length-append (omega arith)
      go false h = simp length-append (omega arith)

  hit_more_few : (y m : ℕ) → length (hit_row starts ends n c a y) ≤ length (hit_row starts ends n c a (y + m))
  unfolding hit_row
  hit_more_few y zero = rw (add-zero y) (omega arith)
  hit_more_few y (suc m) =
      let e : y + suc m ≡ suc (y + m) = omega arith in
      let h = hit_more_few y m in
      rw e (simp length-append (omega arith))

  hit_upto : (y w : ℕ) → y ≤ w → length (hit_row starts ends n c a y) ≤ length (hit_row starts ends n c a w)
  hit_upto y w h = let e : y + (w - y) ≡ w = omega arith in rw e at (hit_more_few y (w - y))

  -- by pieces

  hit_all : (y m : ℕ) → AllHit starts ends n (a + y) (a + y + m) → hit_row starts ends n c a (y + m) ≡ hit_row starts ends n c a y ++ cells_from (c + y) m
  unfolding tabulate
  hit_all y zero h = rw (add-zero y) (sym (append-nil (hit_row starts ends n c a y)))
  hit_all y (suc m) h =
      let e : y + suc m ≡ y + m + 1 = omega arith in
      let k : c + (y + m) ≡ c + y + m = omega arith in
      ap (hit_row starts ends n c a) e ∙ hit_one (y + m) (h (a + (y + m)) (omega arith) (omega arith))
      ∙ rw (hit_all y m (λ i l o. h i l (omega arith)), k) (append_assoc (hit_row starts ends n c a y) (cells_from (c + y) m) ((c + y + m) ∷ []))

  hit_nowhere : (y m : ℕ) → NoneHit starts ends n (a + y) (a + y + m) → hit_row starts ends n c a (y + m) ≡ hit_row starts ends n c a y
  hit_nowhere y zero h = rw (add-zero y) refl
  hit_nowhere y (suc m) h =
      let e : y + suc m ≡ y + m + 1 = omega arith in
      ap (hit_row starts ends n c a) e ∙ hit_none (y + m) (h (a + (y + m)) (omega arith) (omega arith)) ∙ hit_nowhere y m (λ i l o. h i l (omega arith))

  hit_piece : (b at end hits : ℕ) → a ≤ at → PieceIs starts ends n at b end hits
      → hit_row starts ends n c a (end - a) ≡ hit_row starts ends n c a (at - a) ++ cells_from (c + (at - a)) hits
  unfolding tabulate
  hit_piece b at end hits l p = go p.alike
    where
      there : a + (at - a) ≡ at
      there = omega arith

      over : a + (at - a) + (end - at) ≡ end
      over = omega (arith, p.some)

      sum : end - a ≡ at - a + (end - at)
      sum = omega (arith, p.some)

      go : ((hits ≡ end - at) × AllHit starts ends n at end) ⊎ ((hits ≡ 0) × NoneHit starts ends n at end)
          → hit_row starts ends n c a (end - a) ≡ hit_row starts ends n c a (at - a) ++ cells_from (c + (at - a)) hits
      go (inl (k, h)) = rw (sum, k) (hit_all (at - a) (end - at) (rw (over, there) h))
      go (inr (k, h)) = rw (sum, k) (hit_nowhere (at - a) (end - at) (rw (over, there) h) ∙ sym (append-nil (hit_row starts ends n c a (at - a))))

  piece_count : (b at end hits : ℕ) → a ≤ at → PieceIs starts ends n at b end hits
      → length (hit_row starts ends n c a (at - a)) + hits ≡ length (hit_row starts ends n c a (end - a))
  piece_count b at end hits l p =
      omega (
        arith,
        ap length (hit_piece b at end hits l p),
        length-append (hit_row starts ends n c a (at - a)) (cells_from (c + (at - a)) hits),
        length_tabulate (λ y. c + (at - a) + y) hits,
      )

-- ---- a row being counted, by pieces

pub record Counts (starts ends : List ℕ) (n a w at count : ℕ) : Type 0 where
  pub from : a ≤ at
  pub to : at ≤ a + w
  pub is : (c : ℕ) → count ≡ length (hit_row starts ends n c a (at - a))

module _ (starts ends : List ℕ) (n a w : ℕ) where
  pub counts_none : Counts starts ends n a w a 0
  counts_none =
      record {
        from = omega arith;
        to = omega arith;
        is = λ c. let e : a - a ≡ 0 = omega arith in rw e (ap length (sym (hit_start starts ends n c a)));
      }

  module _ (at count : ℕ) (p : Counts starts ends n a w at count) where
    pub counts_more : (end hits : ℕ) → PieceIs starts ends n at (a + w) end hits → Counts starts ends n a w end (count + hits)
    counts_more end hits q =
        record {
          from = omega (arith, p.from, q.some);
          to = q.cut;
          is = λ c. omega (arith, p.is c, piece_count starts ends n c a (a + w) at end hits p.from q);
        }

    pub counts_few : (end hits : ℕ) → PieceIs starts ends n at (a + w) end hits → count + hits ≤ w
    counts_few end hits q = let m = counts_more end hits q in omega (arith, m.is 0, m.to, hit_few starts ends n 0 a (end - a))

    pub counts_end : a + w ≤ at → ((c : ℕ) → count ≡ length (hit_row starts ends n c a w)) × (count ≤ w)
    counts_end h =
        let e : at - a ≡ w = omega (arith, p.to) in
        (λ c. p.is c ∙ ap (λ (i : ℕ). length (hit_row starts ends n c a i)) e, omega (arith, p.is 0, hit_few starts ends n 0 a (at - a)))

-- ---- a row being packed and unpacked, by pieces

-- a copy of a piece's words, to or from the words behind the first `count`, fits
module _ (starts ends : List ℕ) (n c a w memory words packed : ℕ) (k : Room starts ends n c a w memory words packed) (at count : ℕ)
    (from : a ≤ at) (is : count ≡ packed + length (hit_row starts ends n c a (at - a))) (end hits : ℕ)
    (q : PieceIs starts ends n at (a + w) end hits) where
  hits_few : hits ≤ end - at
  hits_few = go q.alike
    where
      go : ((hits ≡ end - at) × AllHit starts ends n at end) ⊎ ((hits ≡ 0) × NoneHit starts ends n at end) → hits ≤ end - at
      go (inl h) = omega (arith, h.0)
      go (inr h) = omega (arith, h.0)

  pub piece_words : count + hits ≤ words
  piece_words =
      omega (arith, is, k.room, piece_count starts ends n c a (a + w) at end hits from q, hit_upto starts ends n c a (end - a) w (omega (arith, q.cut)))

  piece_cells : c + (at - a) + hits ≤ memory
  piece_cells = omega (arith, hits_few, q.some, q.cut, k.low)

  pub packs_fit : Fits words memory count (c + (at - a)) hits
  packs_fit = record { inner = piece_words; outer = piece_cells; short = (k.short.1, k.short.0) }

  pub unpacks_fit : Fits memory words (c + (at - a)) count hits
  unpacks_fit = record { inner = piece_cells; outer = piece_words; short = k.short }

pub record Packing (starts ends : List ℕ) (n c a w : ℕ) (memory words₀ : List ℕ) (packed : ℕ) (words : List ℕ) (at count : ℕ) : Type 0 where
  pub from : a ≤ at
  pub to : at ≤ a + w
  pub first : Packed starts ends n c a (at - a) memory words₀ packed words count

module _ (starts ends : List ℕ) (n c a w : ℕ) (memory words₀ : List ℕ) (packed : ℕ) where
  pub packing_none : Packing starts ends n c a w memory words₀ packed words₀ a packed
  unfolding hit_row pack
  packing_none =
      let e : a - a ≡ 0 = omega arith in
      record {
        from = omega arith;
        to = omega arith;
        first = rw e (record { long = refl; count_is = omega arith; is = sym (append-nil (take packed words₀)) });
      }

  module _ (words : List ℕ) (at count : ℕ) (p : Packing starts ends n c a w memory words₀ packed words at count) where
    pub packing_more : Room starts ends n c a w (length memory) (length words₀) packed → (end hits : ℕ) → PieceIs starts ends n at (a + w) end hits
        → (words' : List ℕ) → words' ≡ put words count (sublist memory (c + (at - a)) hits)
        → Packing starts ends n c a w memory words₀ packed words' end (count + hits)
    packing_more k end hits q words' e =
        record {
          from = omega (arith, p.from, q.some);
          to = q.cut;
          first = record {
            long = ap length e ∙ length_put words count piece fits ∙ p.first.long;
            count_is = omega (arith, p.first.count_is, piece_count starts ends n c a (a + w) at end hits p.from q);
            is = ap (take (count + hits)) e
                ∙ ap (λ (i : ℕ). take (count + i) (put words count piece)) (sym long)
                ∙ take_put words piece count fits
                ∙ ap (λ (l : List ℕ). take count words ++ l) (part_row memory (c + (at - a)) hits f.outer)
                ∙ ap (λ (l : List ℕ). l ++ pack memory (cells_from (c + (at - a)) hits)) p.first.is
                ∙ append_assoc (take packed words₀) _ _
                ∙ ap (λ (l : List ℕ). take packed words₀ ++ l)
                (sym (ap (pack memory) (hit_piece starts ends n c a (a + w) at end hits p.from q)
                ∙ pack_append memory (hit_row starts ends n c a (at - a)) (cells_from (c + (at - a)) hits)));
          };
        }
      where
        f : Fits (length words₀) (length memory) count (c + (at - a)) hits
        f = packs_fit starts ends n c a w _ _ packed k at count p.from p.first.count_is end hits q

        piece : List ℕ
        piece = sublist memory (c + (at - a)) hits

        long : length piece ≡ hits
        long = part_length memory (c + (at - a)) hits f.outer

        fits : count + length piece ≤ length words
        fits = omega (arith, f.inner, p.first.long, long)

    pub packing_end : a + w ≤ at → Packed starts ends n c a w memory words₀ packed words count
    packing_end h = let e : at - a ≡ w = omega (arith, p.to) in rw e at p.first

pub record Unpacking (starts ends : List ℕ) (n c a w : ℕ) (memory₀ words : List ℕ) (unpacked : ℕ) (memory : List ℕ) (at count : ℕ) : Type 0 where
  pub from : a ≤ at
  pub to : at ≤ a + w
  pub first : Unpacked starts ends n c a (at - a) memory₀ words unpacked memory count

part_add : (l : List ℕ) (i m k : ℕ) → sublist l i (m + k) ≡ sublist l i m ++ sublist l (i + m) k
unfolding sublist
part_add l i m k = take-add m k (drop i l) ∙ ap (λ (z : List ℕ). take m (drop i l) ++ take k z) (drop-drop m i l)

module _ (starts ends : List ℕ) (n c a w : ℕ) (memory₀ words : List ℕ) (unpacked : ℕ) where
  pub unpacking_none : Unpacking starts ends n c a w memory₀ words unpacked memory₀ a unpacked
  unfolding hit_row unpack
  unpacking_none =
      let e : a - a ≡ 0 = omega arith in
      record { from = omega arith; to = omega arith; first = rw e (record { count_is = omega arith; is = refl }) }

  module _ (memory : List ℕ) (at count : ℕ) (p : Unpacking starts ends n c a w memory₀ words unpacked memory at count) where
    pub unpacking_long : length memory ≡ length memory₀
    unpacking_long = ap length p.first.is ∙ unpack_length (hit_row starts ends n c a (at - a)) _ memory₀

    pub unpacking_more : Room starts ends n c a w (length memory₀) (length words) unpacked → (end hits : ℕ) → PieceIs starts ends n at (a + w) end hits
        → (memory' : List ℕ) → memory' ≡ put memory (c + (at - a)) (sublist words count hits)
        → Unpacking starts ends n c a w memory₀ words unpacked memory' end (count + hits)
    unpacking_more k end hits q memory' e =
        record {
          from = omega (arith, p.from, q.some);
          to = q.cut;
          first = record {
            count_is = omega (arith, p.first.count_is, counted);
            is = e
                ∙ put_row memory words (c + (at - a)) count hits (omega (arith, f.inner, unpacking_long)) f.outer
                ∙ ap (λ (i : ℕ). unpack memory (cells_from (c + (at - a)) hits) (sublist words i hits)) p.first.count_is
                ∙ ap (λ (l : List ℕ). unpack l (cells_from (c + (at - a)) hits) (sublist words (unpacked + length before) hits)) p.first.is
                ∙ sym (unpack_append memory₀ before (cells_from (c + (at - a)) hits) (sublist words unpacked (length before))
                (sublist words (unpacked + length before) hits)
                (part_length words unpacked (length before) (omega (arith, p.first.count_is, f.outer))))
                ∙ ap (unpack memory₀ (before ++ cells_from (c + (at - a)) hits)) (sym (part_add words unpacked (length before) hits))
                ∙ ap (λ (i : ℕ). unpack memory₀ (before ++ cells_from (c + (at - a)) hits) (sublist words unpacked i)) counted
                ∙ ap (λ (l : List ℕ). unpack memory₀ l (sublist words unpacked (length (hit_row starts ends n c a (end - a)))))
                (sym (hit_piece starts ends n c a (a + w) at end hits p.from q));
          };
        }
      where
        before : List ℕ
        before = hit_row starts ends n c a (at - a)

        f : Fits (length memory₀) (length words) (c + (at - a)) count hits
        f = unpacks_fit starts ends n c a w _ _ unpacked k at count p.from p.first.count_is end hits q

        counted : length before + hits ≡ length (hit_row starts ends n c a (end - a))
        counted = piece_count starts ends n c a (a + w) at end hits p.from q

    pub unpacking_end : a + w ≤ at → Unpacked starts ends n c a w memory₀ words unpacked memory count
    unpacking_end h = let e : at - a ≡ w = omega (arith, p.to) in rw e at p.first
