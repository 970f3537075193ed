-- Read this.
-- Row D of document 01's table by the exported calls for two tenants, and by those with hours, computed: every number of a run, and what is collected.
-- Renders document 02, W-208 and W-212. Ruled out: a processor that two tenants hold at once, hours that end at the close minute or a minute early.
use Rattle.std.specs.Prelude.{ℕ, ◌≡◌, List, [], ◌∷◌, ◌++◌, length, replicate}
use Rattle.tenants.specs.Tenants.{Sources, sources_of, Call, turn_by, delivery_by}
use Rattle.calendar.specs.Windows.{Moment, moment_of, Timed, turn_at, mail_of}
use Rattle.nest.specs.Recipes.{row_d}
use Rattle.calls.specs.Gave.{Areas, SharingAreas, FreshGave, CollectGave, FreshBothGave, TimedGave}
use Rattle.guarantees.specs.OverRecords.{Gave}
use Rattle.guarantees.specs.OverSharing.{CallsGave, CollectGaveFor}

-- ---- two tenants

abbrev pub sources_d : Sources
sources_d = sources_of (4 ∷ 5 ∷ 5 ∷ 6 ∷ []) (1 ∷ 1 ∷ 1 ∷ 1 ∷ [])

-- tenant 0 gathers on processor 0, which tenant 1 then finds engaged until the tile is sent; both have sent, and tenant 0 waits on processor 1 for its
-- message; deliveries, one of them again; on processor 1 tenant 0 first, and tenant 1 once that tile is calculated
abbrev pub calls_d : List Call
calls_d =
    turn_by 0 0 ∷ turn_by 1 0 ∷ turn_by 0 0 ∷ turn_by 0 0 ∷ turn_by 1 0 ∷ turn_by 1 0 ∷ turn_by 1 0 ∷ turn_by 0 1 ∷ delivery_by 0 0 ∷ delivery_by 1 0 ∷ delivery_by 1 0
    ∷ turn_by 0 1 ∷ turn_by 1 1 ∷ turn_by 0 1 ∷ turn_by 1 1 ∷ turn_by 1 1 ∷ turn_by 1 1 ∷ []

abbrev pub numbers_d : List ℕ
numbers_d = 0 ∷ 19 ∷ 0 ∷ 0 ∷ 0 ∷ 0 ∷ 0 ∷ 12 ∷ 0 ∷ 0 ∷ 14 ∷ 0 ∷ 19 ∷ 0 ∷ 0 ∷ 0 ∷ 13 ∷ []

-- ---- with hours

-- processor 0 opens from minute 20 to 30 and from 50 to 60, processor 1 from 40 to 50
abbrev pub at : ℕ → Moment
at minute = moment_of (20 ∷ 30 ∷ 50 ∷ 60 ∷ replicate 24 0 ++ (40 ∷ 50 ∷ replicate 26 0)) minute

-- processor 0 closed, gathers, closed, calculates, sends in its second window; processor 1 waits; mail; it is closed, gathers, calculates, is closed; a
-- minute of no week, and a processor that there is none of
abbrev pub events_d : List Timed
events_d =
    turn_at (at 19) 0 ∷ turn_at (at 20) 0 ∷ turn_at (at 30) 0 ∷ turn_at (at 29) 0 ∷ turn_at (at 55) 0 ∷ turn_at (at 45) 1 ∷ mail_of 0 ∷ turn_at (at 39) 1
    ∷ turn_at (at 40) 1 ∷ turn_at (at 49) 1 ∷ turn_at (at 50) 1 ∷ turn_at (at 10080) 1 ∷ turn_at (at 20) 2 ∷ []

abbrev pub timed_numbers_d : List ℕ
timed_numbers_d = 24 ∷ 0 ∷ 24 ∷ 0 ∷ 0 ∷ 12 ∷ 0 ∷ 24 ∷ 0 ∷ 0 ∷ 24 ∷ 25 ∷ 11 ∷ []

pub record RowD : Type 0 where
  pub tenants : (a start b : SharingAreas) (numbers : List ℕ) → FreshBothGave row_d 0 sources_d a 0 start → CallsGave row_d 0 sources_d start calls_d numbers b
      → numbers ≡ numbers_d
  -- then each collects its own sweep
  pub first_grid : (a start b : SharingAreas) (numbers : List ℕ) → FreshBothGave row_d 0 sources_d a 0 start → CallsGave row_d 0 sources_d start calls_d numbers b
      → (old grid : List ℕ) (n : ℕ) → length old ≡ 4 → CollectGaveFor row_d 0 sources_d b 0 old n grid → (n ≡ 0) × (grid ≡ 4 ∷ 9 ∷ 14 ∷ 20 ∷ [])
  pub second_grid : (a start b : SharingAreas) (numbers : List ℕ) → FreshBothGave row_d 0 sources_d a 0 start → CallsGave row_d 0 sources_d start calls_d numbers b
      → (old grid : List ℕ) (n : ℕ) → length old ≡ 4 → CollectGaveFor row_d 0 sources_d b 1 old n grid → (n ≡ 0) × (grid ≡ 1 ∷ 2 ∷ 3 ∷ 4 ∷ [])
  pub hours : (a start b : Areas) (numbers : List ℕ) → FreshGave row_d 0 sources_d.first a 0 start
      → Gave (TimedGave row_d 0 sources_d.first) start events_d numbers b → numbers ≡ timed_numbers_d
  pub hours_grid : (a start b : Areas) (numbers : List ℕ) → FreshGave row_d 0 sources_d.first a 0 start
      → Gave (TimedGave row_d 0 sources_d.first) start events_d numbers b
      → (old grid : List ℕ) (n : ℕ) → length old ≡ 4 → CollectGave row_d 0 sources_d.first b old n grid → (n ≡ 0) × (grid ≡ 4 ∷ 9 ∷ 14 ∷ 20 ∷ [])
