-- The reader's lines in a form that computes in few steps: without bounds lines 20 and 8 need no cell looked at.
-- The computed rows use it; `quick` says that it gives the same numbers.
use Prim.Native.Nat.{ℕ}
use mathlib.Core.Path.{◌≡◌, refl, sym, ap, ◌∙◌}
use mathlib.Core.Bool.{Bool, true, false}
use mathlib.Core.List.{List, [], ◌∷◌, map}
use lib.Dec.{eqb, leb}
use borrow.Author.Tests.{eqb-true, leb-true, leb-false}
use Rattle.base.specs.Tests.{pick}
use Rattle.base.specs.Numbers.{Line, line, first_of}
use Rattle.base.proofs.Tests.{not-true, pick_true, pick_false}
use Rattle.base.proofs.Numbers.{first_true, first_false}
use Rattle.nest.specs.declared.Nest.{Nest}
use Rattle.nest.specs.Nest.{box_tiles}
use Rattle.nest.specs.Reader.{needlessly_wide, nest_of, ragged, stray_record, bad_length, too_large, no_cell, bad_distance, bad_tile, bad_spread, last_spread}
use Rattle.nest.specs.Reader.{bad_processors, too_many_tiles, nest_lines, read_lines}
use Rattle.nest.proofs.Boxes.{unbounded_some}
use Rattle.nest.proofs.Shapes.{few_in_box, many_in_box}
use Rattle.nest.proofs.Facts.{length_in, tile_in}

abbrev pub quick_cell : Nest → Bool
quick_cell x = pick (eqb x.bounds 0) false (no_cell x)

abbrev pub quick_tiles : Nest → Bool
quick_tiles x = pick (leb (box_tiles x) 1024) false (pick (eqb x.bounds 0) true (too_many_tiles x))

abbrev pub quick_lines : Bool → Nest → List Line
quick_lines needless x =
    line 3 (bad_length x) ∷ line 4 (too_large x) ∷ line 18 needless ∷ line 20 (quick_cell x) ∷ line 5 (bad_distance x)
    ∷ line 6 (bad_tile x) ∷ line 16 (bad_spread x) ∷ line 17 (last_spread x) ∷ line 7 (bad_processors x) ∷ line 8 (quick_tiles x) ∷ []

abbrev pub quick_number : List ℕ → ℕ
quick_number bytes = first_of (line 1 (ragged bytes) ∷ line 2 (stray_record bytes) ∷ quick_lines (needlessly_wide bytes) (nest_of bytes))

-- the lines behind one count only where that one is false
behind : (n : ℕ) (t : Bool) (ls ms : List Line) → (t ≡ false → first_of ls ≡ first_of ms) → first_of (line n t ∷ ls) ≡ first_of (line n t ∷ ms)
behind n true ls ms h = first_true n true ls refl ∙ sym (first_true n true ms refl)
behind n false ls ms h = first_false n false ls refl ∙ (h refl ∙ sym (first_false n false ms refl))

module _ (x : Nest) (h3 : bad_length x ≡ false) where
  cell_same : no_cell x ≡ quick_cell x
  unfolding no_cell
  cell_same = go (eqb x.bounds 0) refl
    where
      go : (t : Bool) → eqb x.bounds 0 ≡ t → no_cell x ≡ quick_cell x
      go true e = not-true (unbounded_some x (λ j l. (length_in x h3 j l).0) (eqb-true x.bounds 0 e)) ∙ sym (pick_true (eqb x.bounds 0) false (no_cell x) e)
      go false e = sym (pick_false (eqb x.bounds 0) false (no_cell x) e)

  tiles_same : bad_tile x ≡ false → too_many_tiles x ≡ quick_tiles x
  tiles_same h6 = go (leb (box_tiles x) 1024) refl (eqb x.bounds 0) refl
    where
      rest : Bool
      rest = pick (eqb x.bounds 0) true (too_many_tiles x)

      go : (s : Bool) → leb (box_tiles x) 1024 ≡ s → (t : Bool) → eqb x.bounds 0 ≡ t → too_many_tiles x ≡ quick_tiles x
      go true e t f = few_in_box x (box_tiles x) refl (leb-true (box_tiles x) 1024 e) ∙ sym (pick_true (leb (box_tiles x) 1024) false _ e)
      go false e true f =
          many_in_box x (λ j l. (length_in x h3 j l).0) (λ j l. (tile_in x h6 j l).0) (box_tiles x) refl (leb-false (box_tiles x) 1024 e) (eqb-true x.bounds 0 f)
          ∙ sym (pick_false (leb (box_tiles x) 1024) false _ e ∙ pick_true (eqb x.bounds 0) true (too_many_tiles x) f)
      go false e false f = sym (pick_false (leb (box_tiles x) 1024) false _ e ∙ pick_false (eqb x.bounds 0) true (too_many_tiles x) f)

quick_nest : (needless : Bool) (x : Nest) → first_of (nest_lines needless x) ≡ first_of (quick_lines needless x)
unfolding nest_lines
quick_nest needless x =
    behind 3 (bad_length x) _ _ (λ h3.
    behind 4 (too_large x) _ _ (λ h4.
    behind 18 needless _ _ (λ h18.
    ap (λ (t : Bool). first_of (line 20 t ∷ line 5 (bad_distance x) ∷ line 6 (bad_tile x) ∷ line 16 (bad_spread x) ∷ line 17 (last_spread x)
    ∷ line 7 (bad_processors x) ∷ line 8 (too_many_tiles x) ∷ [])) (cell_same x h3)
    ∙ behind 20 (quick_cell x) _ _ (λ h20.
    behind 5 (bad_distance x) _ _ (λ h5.
    behind 6 (bad_tile x) _ _ (λ h6.
    ap (λ (t : Bool). first_of (line 16 (bad_spread x) ∷ line 17 (last_spread x) ∷ line 7 (bad_processors x) ∷ line 8 t ∷ [])) (tiles_same x h3 h6)))))))

pub quick : (bytes : List ℕ) → first_of (read_lines bytes) ≡ quick_number bytes
unfolding read_lines
quick bytes =
    behind 1 (ragged bytes) _ _ (λ h1. behind 2 (stray_record bytes) _ _ (λ h2. quick_nest (needlessly_wide bytes) (nest_of bytes)))

-- the numbers that reading gives for these recipes
unfoldable pub told : List (List ℕ) → List ℕ
told rows = map (λ (b : List ℕ). first_of (read_lines b)) rows

pub quick_all : (rows : List (List ℕ)) → told rows ≡ map quick_number rows
unfolding told
quick_all [] = refl
quick_all (b ∷ rows) = rw (quick b, quick_all rows)
