-- What the call for a message's hops tells; row C's and row Line's, computed.
use Prim.Native.Nat.{ℕ, zero, suc, ◌-◌, ◌≤◌, ◌<◌}
use mathlib.Core.Path.{◌≡◌, refl, sym, ap, ◌∙◌}
use mathlib.Core.Bool.{true}
use mathlib.Core.List.{List, [], ◌∷◌, ◌++◌, map}
use native.Mathlib.Omega.{arith}
use lib.Dec.{ltb}
use borrow.Author.Tests.{ltb-true}
use Rattle.base.specs.Tests.{◌and◌, ◌or◌, not, pick, every, some, keep, tabulate, product}
use Rattle.base.specs.Lists.{Bytes}
use Rattle.base.specs.Numbers.{first_of}
use Rattle.base.proofs.Tests.{true_not}
use Rattle.base.proofs.Lists.{small, small_bytes}
use Rattle.base.proofs.Numbers.{none_first, none_front, none_behind}
use Rattle.machine.specs.Plan.{Plan, count, sender_of, taker_of}
use Rattle.nest.specs.declared.Nest.{Nest}
use Rattle.nest.specs.Accepted.{Accepted}
use Rattle.nest.specs.Nest.{tile_count, cells, box_tiles}
use Rattle.nest.specs.Places.{rank, place, cell_at, cell_place, tile_at, tile_place, box_tile_of}
use Rattle.nest.specs.Reader.{read_lines, nest_of}
use Rattle.nest.specs.Recipes.{row_c}
use Rattle.nest.proofs.Facts.{accepted}
use Rattle.nest.proofs.Numbered.{numbered}
use Rattle.nest.proofs.Rank.{rank_same}
use Rattle.plan.specs.declared.Route.TheVariants.{Direct}
use Rattle.plan.specs.Geometry.{processor_of, inside}
use Rattle.plan.specs.Hops.{hops_along, hops}
use Rattle.plan.specs.Messages.{two, directions, ahead, reaches, crosses, parcel, taker, slot_cells, slot_taker, at_home, slot_parcel, messages_to, box_plan}
use Rattle.plan.specs.Shaped.{plan_of}
use Rattle.plan.proofs.ShapedBox.{box_tile_is, plan_of_box}
use Rattle.conformance.specs.ExactShape.{stands_at}
use Rattle.conformance.specs.Examples.{row_line}
use Rattle.conformance.proofs.AToH.{rows}
use Rattle.conformance.proofs.RowNests.{nest_c, is_c, nest_line, is_line}
use Rattle.conformance.proofs.SingleCounts.{single_counts}
use Rattle.conformance.proofs.InOrder.{in_order}
use Rattle.conformance.proofs.ShapedExact.{message}
use Rattle.layout.specs.RouteWords.{route_of}
use Rattle.summary.specs.declared.HopCount.{HopCount}
use Rattle.summary.specs.Summary.{direction_of, no_hops, hops_if, hops_lines, hops_of}
use Rattle.summary.specs.HopsTold.{HopsTold, hops_of_first, told, HopsExamples}
use Rattle.recipe.proofs.Laws.{direct_opened}
use Rattle.summary.proofs.Answers.{directed, hops_none, hops_is}
use Rattle.summary.proofs.Examples.{box_read, box_many, row_c_small, row_c_none, row_line_small, row_line_none}

-- the number of what is told is the first line's
told_number : (n : ℕ) (x : Nest) (m : ℕ) → (hops_if n x m).number ≡ n
unfolding hops_if
told_number zero x m = refl
told_number (suc n) x m = refl

told_hops : (n : ℕ) (x : Nest) (m : ℕ) → n ≡ 0 → (hops_if n x m).hops ≡ hops x (direction_of x m)
unfolding hops_if
told_hops zero x m h = refl
told_hops (suc n) x m h = absurd (omega arith)

module _ (bytes : List ℕ) (b : Bytes bytes) (m : ℕ) (z : (hops_of bytes m).number ≡ 0) where
  none : first_of (hops_lines bytes m) ≡ 0
  unfolding hops_of
  none = sym (told_number _ _ m) ∙ z

  ok : Accepted (nest_of bytes)
  unfolding hops_lines
  ok = accepted bytes b (none_front (read_lines bytes) _ none)

  low : m < count (plan_of Direct (nest_of bytes))
  unfolding hops_lines
  low =
      ltb-true _ _ (true_not (none_first 11 (not (ltb m (count (plan_of Direct (nest_of bytes))))) [] (λ q. omega arith)
      (none_behind (read_lines bytes) _ (numbered bytes) none)).0)

  is : (hops_of bytes m).hops ≡ hops (nest_of bytes) (direction_of (nest_of bytes) m)
  unfolding hops_of
  is = told_hops _ (nest_of bytes) m none

  at_least : 1 ≤ (hops_of bytes m).hops
  at_least =
      let a = message (nest_of bytes) ok m low in
      let e = (directed (nest_of bytes)).is m a.0 a.1.0 a.1.1 in
      let h = (in_order (nest_of bytes) ok).hops_least m a.0 a.1.0 a.1.1 in
      rw (is, e) h

  at_most : (hops_of bytes m).hops ≤ (nest_of bytes).spread
  at_most = rw is ((in_order (nest_of bytes) ok).hops_most (direction_of (nest_of bytes) m))

pub hops_told : (bytes : List ℕ) → Bytes bytes → HopsTold bytes
hops_told bytes b = record { least = at_least bytes b; most = at_most bytes b }

-- ---- rows without bounds

-- the hops that message m of the box's plan has, by its taker's place less its sender's
abbrev box_hops : Nest → ℕ → ℕ
box_hops x m =
    hops x (rank two (λ j. tile_place x (taker_of (box_plan Direct x) m) j - tile_place x (sender_of (box_plan Direct x) m) j) x.spread)

direction_box : (x : Nest) → Accepted x → x.bounds ≡ 0 → (m : ℕ) → hops x (direction_of x m) ≡ box_hops x m
unfolding direction_of
direction_box x ok none m =
    ap (λ (p : Plan). hops x (rank two (λ j. stands_at x (taker_of p m) j - stands_at x (sender_of p m) j) x.spread)) (plan_of_box Direct x ok none)
    ∙ ap (hops x) (rank_same two _ _ x.spread (λ j l. same j))
  where
    same : (j : ℕ) → stands_at x (taker_of (box_plan Direct x) m) j - stands_at x (sender_of (box_plan Direct x) m) j
        ≡ tile_place x (taker_of (box_plan Direct x) m) j - tile_place x (sender_of (box_plan Direct x) m) j
    same j =
        ap (λ (t : ℕ). tile_place x t j - stands_at x (sender_of (box_plan Direct x) m) j) (box_tile_is x ok none (taker_of (box_plan Direct x) m))
        ∙ ap (λ (t : ℕ). tile_place x (taker_of (box_plan Direct x) m) j - tile_place x t j) (box_tile_is x ok none (sender_of (box_plan Direct x) m))

map-append : (a b : List ℕ) → map told (a ++ b) ≡ map told a ++ map told b
map-append [] b = refl
map-append (l ∷ a) b = ap (λ (m : List HopCount). told l ∷ m) (map-append a b)

module _ (bytes : List ℕ) (bytes_small : small bytes ≡ true) (none : (nest_of bytes).bounds ≡ 0) (n : ℕ) (read : first_of (read_lines bytes) ≡ 0)
    (many : count (box_plan Direct (nest_of bytes)) ≡ n) where
  nest_ok : Accepted (nest_of bytes)
  nest_ok = accepted bytes (small_bytes bytes bytes_small) read

  count_is : count (plan_of Direct (nest_of bytes)) ≡ n
  count_is = ap (λ (p : Plan). count p) (plan_of_box Direct (nest_of bytes) nest_ok none) ∙ many

  first_hops : (m : ℕ) → m ≤ n → hops_of_first bytes m ≡ map told (tabulate (box_hops (nest_of bytes)) m)
  unfolding hops_of_first tabulate
  first_hops zero h = refl
  first_hops (suc m) h =
      ap (λ (l : List HopCount). l ++ (hops_of bytes m ∷ [])) (first_hops m (omega arith))
      ∙ (ap (λ (k : HopCount). map told (tabulate (box_hops (nest_of bytes)) m) ++ (k ∷ []))
      (sym (hops_is bytes m _ (direct_opened bytes read) (omega (arith, count_is)) (nest_of bytes) refl (box_hops (nest_of bytes) m)
      (sym (direction_box (nest_of bytes) nest_ok none m))))
      ∙ sym (map-append (tabulate (box_hops (nest_of bytes)) m) (box_hops (nest_of bytes) m ∷ [])))

  all_hops : (ls : List ℕ) → tabulate (box_hops (nest_of bytes)) n ≡ ls → hops_of_first bytes (suc n) ≡ map told ls ++ (no_hops 11 ∷ [])
  unfolding hops_of_first
  all_hops ls h =
      ap (λ (l : List HopCount). l ++ (hops_of bytes n ∷ [])) (first_hops n (omega arith) ∙ ap (map told) h)
      ∙ ap (λ (k : HopCount). map told ls ++ (k ∷ [])) (sym (hops_none bytes n _ (direct_opened bytes read) (omega (arith, count_is))))

hops_c : tabulate (box_hops nest_c) 10 ≡ 1 ∷ 1 ∷ 2 ∷ 1 ∷ 1 ∷ 2 ∷ 1 ∷ 1 ∷ 1 ∷ 1 ∷ []
unfolding tabulate hops hops_along ◌and◌ ◌or◌ pick every some keep product tile_count cells box_tiles rank place cell_at cell_place tile_at tile_place box_tile_of inside
    directions ahead reaches crosses parcel taker slot_cells slot_taker at_home slot_parcel messages_to processor_of
hops_c = refl

hops_line : tabulate (box_hops nest_line) 1 ≡ 1 ∷ []
unfolding tabulate hops hops_along ◌and◌ ◌or◌ pick every some keep product tile_count cells box_tiles rank place cell_at cell_place tile_at tile_place box_tile_of inside
    directions ahead reaches crosses parcel taker slot_cells slot_taker at_home slot_parcel messages_to processor_of
hops_line = refl

pub hops_rows : HopsExamples
unfolding route_of
hops_rows =
    record {
      C = all_hops row_c row_c_small row_c_none 10 (box_read 0 row_c row_c_small row_c_none 8 10 144 36 rows.C)
          (box_many 0 row_c row_c_small row_c_none 8 10 144 36 rows.C) (1 ∷ 1 ∷ 2 ∷ 1 ∷ 1 ∷ 2 ∷ 1 ∷ 1 ∷ 1 ∷ 1 ∷ []) (rw is_c hops_c);
      line = all_hops row_line row_line_small row_line_none 1 (box_read 0 row_line row_line_small row_line_none 4 1 4 10 single_counts.line)
          (box_many 0 row_line row_line_small row_line_none 4 1 4 10 single_counts.line) (1 ∷ []) (rw is_line hops_line);
    }
