-- Cells listed are packed from their own numbers: the numbers, cells side by side put into a list, a row's room.
use Prim.Native.Nat.{ℕ, ◌+◌, ◌≤◌, ◌<◌}
use mathlib.Core.Path.{◌≡◌, refl, sym, ap, ◌∙◌}
use mathlib.Core.List.{List, [], ◌∷◌, map}
use native.Mathlib.Omega.{arith}
use lib.ListN.{length}
use Rattle.base.specs.Lists.{sublist, put, pack}
use Rattle.base.proofs.Tests.{length_tabulate}
use Rattle.base.proofs.Lists.{pack_right}
use Rattle.base.proofs.Copies.{part_row}
use Rattle.machine.specs.Plan.{count, held_by}
use Rattle.nest.specs.declared.Nest.{Nest}
use Rattle.nest.specs.Accepted.{Accepted}
use Rattle.nest.specs.Nest.{cells}
use Rattle.plan.specs.declared.Route.{Route}
use Rattle.plan.specs.Shaped.{plan_of}
use Rattle.plan.proofs.ShapedSound.{sound}
use Rattle.layout.specs.CellRows.{row_of}
use Rattle.parcels.specs.Windows.{Leading, row_parcel, RowPacked}
use Rattle.parcels.proofs.Packing.{row_run}
use Rattle.runs.specs.Runs.{Room}
use Rattle.runs.specs.listed.Numbers.{numbers}
use Rattle.runs.proofs.listed.Numbers.{numbers_long, numbers_at}

-- ---- numbers

map_self : (l : List ℕ) → map (λ c. c) l ≡ l
map_self [] = refl
map_self (x ∷ l) = ap (λ (r : List ℕ). x ∷ r) (map_self l)

-- what a message holds is packed from them as it is
pub held_listed : (r : Route) (x : Nest) → Accepted x → (m : ℕ) → m < count (plan_of r x) → pack numbers (held_by (plan_of r x) m) ≡ held_by (plan_of r x) m
held_listed r x ok m h =
    pack_right (λ c. c) (held_by (plan_of r x) m) numbers
    (λ c i. numbers_at c (omega (arith, (sound r x ok).held_low m c h i, ok.cells_most)))
    ∙ map_self (held_by (plan_of r x) m)

-- ---- a row

-- of a box: its first cells
pub run_listed : (ends : List ℕ) (n c a w run : ℕ) → Leading ends n a w run → (words words' : List ℕ) (at : ℕ) → at + run ≤ length words
    → c + run ≤ 16384 → words' ≡ put words at (sublist numbers c run)
    → RowPacked ends n c a w numbers words at words' (at + run)
run_listed ends n c a w run p words words' at h k e =
    record {
      count_is = ap (λ (i : ℕ). at + i) (sym (ap length row ∙ length_tabulate _ run));
      is = e
          ∙ ap (put words at) (part_row numbers c run low ∙ ap (pack numbers) (sym row));
    }
  where
    row : row_parcel ends n c a w ≡ row_of c run
    row = row_run ends n c a w run p

    low : c + run ≤ length numbers
    low = rw numbers_long k

-- of a nest with bounds: the numbers have the nest's cells
pub room_numbers : (x : Nest) → Accepted x → (starts ends : List ℕ) (n c a w words at : ℕ) → Room starts ends n c a w (cells x) words at
    → Room starts ends n c a w 16384 words at
room_numbers x ok starts ends n c a w words at k =
    record {
      few = k.few;
      low = omega (arith, k.low, ok.cells_most);
      small = k.small;
      room = k.room;
      short = (omega arith, k.short.1);
    }
