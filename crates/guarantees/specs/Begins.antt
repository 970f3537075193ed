-- Read this.
-- A run can begin: every accepted recipe on a route that is open to it, lent areas of their lengths and as many records as there are processors, is
-- given 0 by the fresh start; so the claims about runs from a fresh start speak of something. Renders document 01, "Numbers a call gives", lines 1 to 9,
-- and document 02, W-208, W-209 and W-213. Ruled out: records that count other than three words each. Of the calls over words engine and sharing say it, in
-- `begins` of their Demands.
use Rattle.std.specs.Prelude.{ℕ, ◌*◌, ◌≡◌, List, length}
use Rattle.base.specs.Numbers.{first_of}
use Rattle.machine.specs.Plan.{Plan, count, words}
use Rattle.tenants.specs.Tenants.{Sources}
use Rattle.layout.specs.RouteWords.{route_of}
use Rattle.recipe.specs.Routes.{lines_for}
use Rattle.engine.specs.Calls.{recipe}
use Rattle.schedule.specs.declared.Driven.{Driven}
use Rattle.calls.specs.Gave.{Areas, SharingAreas, FreshGave, FreshBothGave, RoundsGave}

-- areas of their lengths, by the plan's figures
pub record LentFor (p : Plan) (source : List ℕ) (a : Areas) : Type 0 where
  pub source_long : length source ≡ p.cells
  pub memories : length a.memories ≡ p.processors * p.cells
  pub buffer : length a.buffer ≡ words p
  pub records : length a.progress ≡ p.processors
  pub status : length a.status ≡ count p

pub record Begins (bytes : List ℕ) (route : ℕ) : Type 0 where
  pub one : first_of (lines_for (route_of route) bytes) ≡ 0 → (source : List ℕ) (a b : Areas) (n : ℕ) → LentFor (recipe bytes route) source a
      → FreshGave bytes route source a n b → n ≡ 0
  -- two tenants, each with areas of its own, and a shared word a processor
  pub two : first_of (lines_for (route_of route) bytes) ≡ 0 → (sources : Sources) (a b : SharingAreas) (n : ℕ)
      → LentFor (recipe bytes route) sources.first a.first → LentFor (recipe bytes route) sources.second a.second
      → length a.engaged ≡ (recipe bytes route).processors → FreshBothGave bytes route sources a n b → n ≡ 0
  -- the driver by rounds, on the direct route
  pub rounds : first_of (lines_for (route_of 0) bytes) ≡ 0 → (source : List ℕ) (a b : Areas) (d : Driven) → LentFor (recipe bytes 0) source a
      → RoundsGave bytes source a d b → d.number ≡ 0
