-- Read this.
-- What is demanded of the calls where processors crash and start again, for a recipe's bytes and a route; any word may name the route.
-- Renders the customer's demand 3 for them, made of the definitions in Calls.
use Rattle.std.specs.Prelude.{ℕ, ◌≡◌, true, List}
use Rattle.machine.specs.Machine.{State, fresh}
use Rattle.network.specs.Apart.{AreasApart}
use Rattle.restarts.specs.Restarts.{LifeEvent, ByLives}
use Rattle.restarts.specs.FairLoss.{Endless, Fair, FairLoss, Ends}
use Rattle.engine.specs.Calls.{recipe, areas, fresh_call, collect_call}
use Rattle.network_runs.specs.Calls.{Sources, start_network_calls}
use Rattle.network_runs.specs.Demands.{Begun}
use Rattle.restart_runs.specs.Calls.{calls_lives}

pub record RestartDemands : Type 0 where
  -- every list of turns, posts, arrivals, posts again and new starts; collecting is given areas joined from the processors' parts
  pub by_lives : (bytes : List ℕ) (route : ℕ) (source : List ℕ) (sources : Sources) (lent : AreasApart) → Begun bytes route source sources lent
      → (events : List LifeEvent)
      → ByLives (calls_lives bytes route sources) (start_network_calls bytes route sources lent) events (recipe bytes route) source
      (collect_call bytes route source)
  -- a run without an end that is fair finishes, and so does one over a transport that loses, but not all
  pub fair : (bytes : List ℕ) (route : ℕ) (source : List ℕ) (sources : Sources) (lent : AreasApart) → Begun bytes route source sources lent → (es : Endless)
      → Fair (calls_lives bytes route sources) (start_network_calls bytes route sources lent) es (recipe bytes route)
      → Ends (calls_lives bytes route sources) (start_network_calls bytes route sources lent) es (recipe bytes route) source
  pub fair_loss : (bytes : List ℕ) (route : ℕ) (source : List ℕ) (sources : Sources) (lent : AreasApart) → Begun bytes route source sources lent
      → (es : Endless) → FairLoss (calls_lives bytes route sources) (start_network_calls bytes route sources lent) es (recipe bytes route)
      → Ends (calls_lives bytes route sources) (start_network_calls bytes route sources lent) es (recipe bytes route) source
  -- whatever a crash left in a processor's areas: a new start writes over it
  pub clean : (bytes : List ℕ) (route : ℕ) (source : List ℕ) (sources : Sources) (lent : AreasApart) → Begun bytes route source sources lent
      → (b : ℕ) (s : State) → areas (recipe bytes route) (sources b) s ≡ true
      → fresh_call bytes route (sources b) s ≡ record { number = 0; after = fresh (recipe bytes route) }
