-- Read this.
-- What the view of a processor's memory tells: where its part begins in the named tenant's memories, and how many words it has; both 0 at a refusal.
-- Renders request W-208, where a user looks at a processor's memory; the lines are those of `crates/sharing/specs/Calls`.
use Rattle.std.specs.Prelude.{ℕ, zero, suc, ◌*◌, List}
use Rattle.machine.specs.Plan.{Plan}
use Rattle.engine.specs.Calls.{recipe}
use Rattle.sharing.specs.Calls.{view_number}
use Rattle.calls.specs.declared.tenant.Viewed.{Viewed}

abbrev pub no_view : ℕ → Viewed
no_view n = record { number = n; begin = 0; length = 0 }

-- of processor b
abbrev pub view_at : Plan → ℕ → Viewed
view_at p b = record { number = 0; begin = b * p.cells; length = p.cells }

unfoldable pub view_if : ℕ → Plan → ℕ → Viewed
view_if zero p b = view_at p b
view_if (suc n) p b = no_view (suc n)

unfoldable pub view_of : List ℕ → List ℕ → List ℕ → ℕ → ℕ → Viewed
view_of bytes first second o b = view_if (view_number bytes first second o b) (recipe bytes 0) b
