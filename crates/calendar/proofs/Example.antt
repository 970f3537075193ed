-- The claims say something, and the premise of progress is needed: a plan and a table that meet it, and a table of zeros, by which nothing ever goes.
use Rattle.std.specs.Prelude.{None}
use Prim.Native.Nat.{ℕ, zero, suc, ◌+◌, ◌*◌, ◌<◌}
use mathlib.Core.Path.{◌≡◌, refl}
use mathlib.Core.Logic.{◌≢◌}
use mathlib.Core.Bool.{true, false}
use mathlib.Core.List.{List, ◌∷◌, ◌++◌}
use native.Mathlib.Omega.{arith}
use lib.ListN.{get_or, replicate}
use borrow.Author.Tests.{le-ltb}
use Rattle.base.specs.Tests.{◌and◌, ◌or◌, not, every, some}
use Rattle.base.proofs.Tests.{and_no, never_both, not-false, some_none, every_at}
use Rattle.machine.specs.Plan.{Plan}
use Rattle.machine.specs.Machine.{collect, fresh}
use Rattle.machine.specs.Runs.{total, steps}
use Rattle.machine.proofs.Fresh.{status_fresh}
use Rattle.machine.proofs.Turns.{Delivered, delivered}
use Rattle.machine.proofs.Fresh.{inv_fresh}
use Rattle.machine.proofs.ComputedRun.{rows}
use Rattle.machine.proofs.Example.{sound}
use Rattle.tenants.specs.Tenants.{Sources, fresh_sharing, collect_on}
use Rattle.calendar.specs.Windows.{closes_at, is_window, is_faulty, faulty_board, faulty_table, covers, open_at, closed, moment_of}
use Rattle.calendar.specs.Windows.{Timed, turn_at, mail_of, act_at, TimedCall, act_at_on, until_open}
use Rattle.calendar.specs.Waits.{Fair}
use Rattle.calendar.specs.Demands212.{Faultless, SomeStep, Demand212, Demand212For}
use Rattle.calendar.proofs.Telling.{tells}
use Rattle.calendar.proofs.Allowed.{guards}
use Rattle.calendar.proofs.OneTenant.{theorem212}
use Rattle.calendar.proofs.TwoTenants.{theorem212_for}

-- the 16-tile plan of the machine's example
one_tenant : (source : List ℕ) (events : List Timed) → Demand212 (act_at rows source) (fresh rows) events rows source (collect rows)
one_tenant = theorem212 rows sound

two_tenants : (sources : Sources) (calls : List TimedCall) → Demand212For (act_at_on rows sources) (fresh_sharing rows) calls rows sources (collect_on rows)
two_tenants = theorem212_for rows sound

-- each processor is open for one minute of the week, processor b in the b-th
unfoldable short : List ℕ
short =
    (0 ∷ 1 ∷ replicate 26 0) ++ ((1 ∷ 2 ∷ replicate 26 0) ++ ((2 ∷ 3 ∷ replicate 26 0) ++ (3 ∷ 4 ∷ replicate 26 0)))

faultless : Faultless rows short
unfolding rows short faulty_table faulty_board is_faulty is_window some ◌and◌ ◌or◌ not
faultless = record { long = refl; windows = refl }

opened : every (λ b. open_at short b b) 4 ≡ true
unfolding short open_at covers is_window every some ◌and◌ ◌or◌ not
opened = refl

goes : (source : List ℕ) (events : List Timed) → steps (act_at rows source) (fresh rows) events < total rows → SomeStep (act_at rows source) (fresh rows)
    events short
unfolding rows
goes source events h =
    (one_tenant source events).goes_on short faultless (λ b low left. (b, omega arith, every_at (λ b. open_at short b b) 4 opened b low)) h

-- Waits.Fair: open for the whole week, and no window
fair : Fair 0 10080 × Fair 0 0
fair = (
  record { most = omega arith; order = λ n. omega arith; none = λ e. absurd (omega arith) },
  record { most = omega arith; order = λ n. absurd (n refl); none = λ e. refl },
)

-- ---- a table of zeros
get_d_zeros : (n i : ℕ) → ◌≡◌ {A = ℕ} (get_or (replicate n 0) i 0) 0
get_d_zeros zero i = refl
get_d_zeros (suc n) zero = refl
get_d_zeros (suc n) (suc i) = get_d_zeros n i

zeros_shut : (n b minute : ℕ) → open_at (replicate n 0) b minute ≡ false
unfolding open_at covers
zeros_shut n b minute =
    some_none _ 14 (λ w h. and_no _ _ (and_no _ _ (le-ltb minute (closes_at (replicate n 0) b w) (omega (arith, get_d_zeros n (28 * b + 2 * w + 1))))))

zeros_never : (n b minute : ℕ) → until_open (replicate n 0) minute b ≡ None
zeros_never n b minute = (tells (replicate n 0) minute b).if_never (λ i h. zeros_shut n b i)

-- after a fresh start nothing gives 0, whatever the plan and the minute
module _ (p : Plan) (source : List ℕ) where
  no_turn : (n minute b : ℕ) → (act_at p source (fresh p) (turn_at (moment_of (replicate n 0) minute) b)).number ≢ 0
  unfolding closed
  no_turn n minute b z =
      never_both (not-false (zeros_shut n b minute)) ((guards p source).works (fresh p) (inv_fresh p source) (turn_at (moment_of (replicate n 0) minute) b) z).1

  no_mail : (m : ℕ) → (act_at p source (fresh p) (mail_of m)).number ≢ 0
  unfolding act_at
  no_mail m z = go _ (delivered p (fresh p) m) z
    where
      go : (a : _) → Delivered p (fresh p) m a → a.number ≡ 0 → ⊥
      go a (Delivered.unfit h) z = omega arith
      go a Delivered.no_such z = omega arith
      go a (Delivered.not_flying h) z = omega arith
      go a (Delivered.delivers lo e) z = omega (arith, status_fresh p m)
