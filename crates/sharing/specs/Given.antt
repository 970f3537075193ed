-- For contracts below the calls: no reader needs it.
-- What the code below the calls for a tenant is given: lengths, lines 9 to 10; and the shared words after a turn.
-- No sentence of a paper.
use Rattle.std.specs.Prelude.{◌≡◌, ℕ, ◌*◌, List, [], ◌∷◌, ◌++◌, length, nat_le, nat_lt, slice_set, Result, Ok, Err}
use Rattle.base.specs.declared.refusal.Refusal.{Refusal}
use Rattle.base.specs.Tests.{not}
use Rattle.base.specs.Numbers.{Line, line}
use Rattle.machine.specs.Plan.{Plan}
use Rattle.tenants.specs.Tenants.{TenantAreas, word_for, fit_for, held_by_other}
use Rattle.records.specs.declared.Progress.{Progress}
use Rattle.engine.specs.Given.{AreaLengths}
use Rattle.sharing.specs.Calls.{area_lines_for}

-- all that is lent has its length
pub record LengthsFor (p : Plan) (source : List ℕ) (l : TenantAreas) (others : List ℕ) : Type 0 where
  pub own : AreaLengths p source l.own
  pub engaged : length l.engaged ≡ p.processors
  pub theirs : length others ≡ 3 * p.processors

-- lines 9, 11 for the tenant, and 10, which a turn, a delivery and collecting share
abbrev pub unfit_lines_for : Plan → List ℕ → ℕ → TenantAreas → List ℕ → List Line
unfit_lines_for p source o l theirs =
    area_lines_for p source l theirs ++ (line 11 (not (nat_le o 1)) ∷ line 10 (not (fit_for p o l theirs)) ∷ [])

-- and those of a turn up to the machine's: no such processor, held by the other tenant
abbrev pub barred_lines_for : Plan → List ℕ → ℕ → TenantAreas → List ℕ → ℕ → List Line
barred_lines_for p source o l theirs b =
    unfit_lines_for p source o l theirs ++ (line 11 (not (nat_lt b p.processors)) ∷ line 19 (held_by_other p o l b) ∷ [])

-- the shared words after a turn of processor b for tenant o that gave this answer
abbrev pub words_after : List ℕ → ℕ → ℕ → Result Progress Refusal → List ℕ
words_after engaged o b (Ok p) = slice_set engaged b (word_for o p.stage)
words_after engaged o b (Err _) = engaged
