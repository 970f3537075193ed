-- Read this. Which route a caller names by a word, whatever the call: 0 the direct one, every other word the indirect one.
-- Renders document 02, W-204: "a user of either route"; every call that is given a route reads its word by `route_of`.
use Rattle.std.specs.Prelude.{ℕ, zero, suc, ◌≡◌, ◌≢◌, ◌↔◌}
use Rattle.plan.specs.declared.Route.{Route}
use Rattle.plan.specs.declared.Route.TheVariants.{Direct, Indirect}

-- the route that a caller names by a word: 0 direct, any other indirect
unfoldable pub route_of : ℕ → Route
route_of zero = Direct
route_of (suc word) = Indirect

pub record RouteWords : Type 0 where
  pub direct : (w : ℕ) → (route_of w ≡ Direct) ↔ (w ≡ 0)
  pub indirect : (w : ℕ) → (route_of w ≡ Indirect) ↔ (w ≢ 0)
  -- so two words other than 0 name the same route, and one of them never that of 0
  pub alike : (v w : ℕ) → v ≢ 0 → w ≢ 0 → route_of v ≡ route_of w
  pub apart : (w : ℕ) → w ≢ 0 → route_of w ≢ route_of 0
