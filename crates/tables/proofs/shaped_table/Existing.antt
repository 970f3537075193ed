-- Laws of the table of a nest with bounds: the tiles that exist, listed, and their processors.
use Prim.Native.Nat.{ℕ, ◌+◌, ◌*◌, ◌≤◌, ◌<◌}
use mathlib.Core.Path.{◌≡◌, refl, sym, ap, ◌∙◌}
use mathlib.Core.Logic.{◌⊎◌, inl, inr, ◌≢◌}
use mathlib.Core.Bool.{Bool, true, false}
use mathlib.Core.List.{List}
use native.Mathlib.Nat.{eq-or-lt_of_le}
use native.Mathlib.Numerals.{add-one}
use native.Mathlib.Omega.{arith}
use lib.ListN.{length, get_or, set, replicate, length-set, length-replicate}
use lib.Seq.{get_or-set_same, get_or-set_other}
use Rattle.base.specs.Tests.{some, keep}
use Rattle.base.proofs.Select.{keep_none, keep_more}
use Rattle.nest.specs.declared.Nest.{Nest}
use Rattle.nest.specs.Accepted.{Accepted}
use Rattle.nest.specs.Nest.{length_of, cells, box_tiles}
use Rattle.nest.specs.Shape.{exists, existing, tiles}
use Rattle.nest.specs.Spans.{last, holds}
use Rattle.nest.proofs.Shapes.{Counting}
use Rattle.plan.specs.Geometry.{processor_of}
use Rattle.plan.specs.Shaped.{box_tile}
use Rattle.plan.proofs.ShapedTiles.{number_low, box_tile_number}
use Rattle.tables.specs.shaped_table.Table.{Marks, Numbered, Tiles, Owned}

-- ---- which tiles exist

pub marks_all : (x : Nest) (q rows : ℕ) (marks : List ℕ) → Counting x q marks → q ≤ rows → rows ≤ q → rows * length_of x (last x) ≡ cells x → Marks x marks
unfolding exists
marks_all x q rows marks c h k e =
    let z : q ≡ rows = omega arith in
    record { long = c.long; each = λ u l. c.marked u ∙ ap (some (holds x u)) (ap (λ (a : ℕ). a * length_of x (last x)) z ∙ e) }

pub zeros_long : (l : List ℕ) → l ≡ replicate 16384 0 → length l ≡ 16384
zeros_long l e = rw e (length-replicate {A = ℕ} 16384 0)

-- a number of the array that is not the one set
pub other : (l : List ℕ) (i j v : ℕ) → j ≢ i → get_or (set l i v) j 0 ≡ get_or l j 0
other l i j v h = get_or-set_other l i j v 0 h

pub record Listing (x : Nest) (lens : List ℕ) (n u : ℕ) : Type 0 where
  pub low : u ≤ box_tiles x
  pub tiled : Numbered x lens n
  pub is : n ≡ length (keep (exists x) u)

module _ (x : Nest) (ok : Accepted x) where
  -- ---- the tiles listed

  pub listing_none : (lens : List ℕ) → length lens ≡ 9217 → Listing x lens 0 0
  unfolding keep
  listing_none lens h =
      record { low = omega arith; tiled = record { long = h; low = omega arith; boxes = λ t l. absurd (omega arith) }; is = refl }

  module _ (lens : List ℕ) (n u : ℕ) (f : Listing x lens n u) (l : u < box_tiles x) where
    pub listing_room : exists x u ≡ true → n < 1024
    listing_room e = omega (arith, f.is, number_low x u l e, ok.tiles_most)

    pub listing_turn : (t : Bool) → t ≡ exists x u → (lens' : List ℕ) (n' : ℕ)
        → ((t ≡ true) × (lens' ≡ set lens (7168 + n) u) × (n' ≡ n + 1)) ⊎ ((t ≡ false) × (lens' ≡ lens) × (n' ≡ n)) → Listing x lens' n' (u + 1)
    listing_turn t e lens' n' (inl (h, q, k)) =
        rw (q, k) (record {
          low = omega arith;
          tiled = record {
            long = length-set lens (7168 + n) u ∙ f.tiled.long;
            low = omega (arith, f.is, number_low x u l (sym e ∙ h));
            boxes = λ i m. go i (eq-or-lt_of_le (below i m));
          };
          is = rw (add-one u) (omega (arith, f.is, keep_more (exists x) u (sym e ∙ h)));
        })
      where
        below : (i : ℕ) → i < n + 1 → i ≤ n
        below i m = omega arith

        go : (i : ℕ) → (i ≡ n) ⊎ (i < n) → get_or (set lens (7168 + n) u) (7168 + i) 0 ≡ box_tile x i
        go i (inl z) =
            rw z (get_or-set_same lens (7168 + n) u 0 (omega (arith, f.tiled.long, listing_room (sym e ∙ h)))
            ∙ sym (box_tile_number x u l (sym e ∙ h)) ∙ ap (box_tile x) (sym f.is))
        go i (inr z) = other lens (7168 + n) (7168 + i) u (λ m. omega arith) ∙ f.tiled.boxes i z
    listing_turn t e lens' n' (inr (h, q, k)) =
        rw (q, k) (record {
          low = omega arith;
          tiled = f.tiled;
          is = f.is ∙ rw (add-one u) (ap length (sym (keep_none (exists x) u (sym e ∙ h))));
        })

  pub listing_end : (lens : List ℕ) (n u k : ℕ) → Listing x lens n u → k ≡ box_tiles x → k ≤ u → (n ≤ 1024) × Tiles x (set lens 9216 n)
  unfolding tiles existing
  listing_end lens n u k f e h =
      let z : u ≡ box_tiles x = omega (arith, f.low) in
      let m : n ≡ tiles x = f.is ∙ ap (λ (a : ℕ). length (keep (exists x) a)) z in (
        omega (arith, ok.tiles_most),
        record {
          numbers = record {
            long = length-set lens 9216 n ∙ f.tiled.long;
            low = omega arith;
            boxes = λ t l. other lens 9216 (7168 + t) n (λ q. omega (arith, ok.tiles_most)) ∙ f.tiled.boxes t (omega arith);
          };
          count = get_or-set_same lens 9216 n 0 (omega (arith, f.tiled.long)) ∙ m;
        },
      )

  -- ---- the processors of the first t tiles

  module _ (lens : List ℕ) where
    pub owned_none : Tiles x lens → Owned x lens 0
    owned_none f = record { tiled = f; owners = λ t l. absurd (omega arith) }

    pub owned_more : (t v : ℕ) → Owned x lens t → t < tiles x → v ≡ processor_of x (box_tile x t) → Owned x (set lens (8192 + t) v) (t + 1)
    owned_more t v f l e =
        record {
          tiled = record {
            numbers = record {
              long = length-set lens (8192 + t) v ∙ f.tiled.numbers.long;
              low = omega arith;
              boxes = λ i h. other lens (8192 + t) (7168 + i) v (λ q. omega (arith, ok.tiles_most)) ∙ f.tiled.numbers.boxes i h;
            };
            count = other lens (8192 + t) 9216 v (λ q. omega (arith, ok.tiles_most)) ∙ f.tiled.count;
          };
          owners = λ i h. go i (eq-or-lt_of_le (below i h));
        }
      where
        below : (i : ℕ) → i < t + 1 → i ≤ t
        below i h = omega arith

        go : (i : ℕ) → (i ≡ t) ⊎ (i < t) → get_or (set lens (8192 + t) v) (8192 + i) 0 ≡ processor_of x (box_tile x i)
        go i (inl z) = rw z (get_or-set_same lens (8192 + t) v 0 (omega (arith, f.tiled.numbers.long, ok.tiles_most)) ∙ e)
        go i (inr z) = other lens (8192 + t) (8192 + i) v (λ m. omega arith) ∙ f.owners i z

    pub owned_end : (t : ℕ) → Owned x lens t → tiles x ≤ t → Owned x lens (tiles x)
    owned_end t f h = record { tiled = f.tiled; owners = λ i l. f.owners i (omega arith) }
