-- Read this. When all that a call of one of two tenants is lent is fit, and when its processor is engaged, clause by clause.
-- Renders request W-208's sentences on numbers 10 and 19. Tenants has the tests by which the calls refuse. proofs/ proves of everything that can
-- be lent, whether a run reaches it or not, that a test holds exactly where its clauses do.
use Rattle.std.specs.Prelude.{ℕ, ◌≤◌, ◌<◌, ◌≡◌, ◌⊎◌, ◌≢◌, List, length}
use Rattle.machine.specs.Plan.{Plan, tiles_of}
use Rattle.machine.specs.Machine.{progress_only, finished_of, stage_of}
use Rattle.machine.specs.Fit.{FitRecord, Fit, Waits, Exactly}
use Rattle.tenants.specs.Tenants.{TenantAreas, holder_of, other_than, fit_for, held_by_other, turn_for}

-- the shared word of a processor, this tenant's stage there and the other's
pub record FitWord (o word own-stage other-stage : ℕ) : Type 0 where
  pub word_low : word ≤ 2  -- not above 2
  -- the engaged tenant's stage is 1 or 2
  pub own_engaged : word ≡ o → (own-stage ≡ 1) ⊎ (own-stage ≡ 2)
  pub other_engaged : word ≡ other_than o → (other-stage ≡ 1) ⊎ (other-stage ≡ 2)
  -- every other is 0
  pub own_free : word ≢ o → own-stage ≡ 0
  pub other_free : word ≢ other_than o → other-stage ≡ 0

-- number 10 is tested over the tenant's own records and marks, the shared words and the other's records
pub record FitFor (p : Plan) (o : ℕ) (l : TenantAreas) (theirs : List ℕ) : Type 0 where
  pub own : Fit p l.own
  pub others : (b : ℕ) → b < p.processors → FitRecord p (progress_only theirs) b
  pub shared : (b : ℕ) → b < p.processors → FitWord o (holder_of l.engaged b) (stage_of l.own b) (stage_of (progress_only theirs) b)

-- line 19: the processor has tiles left for this tenant and is held by the other
pub record Engaged (p : Plan) (o : ℕ) (l : TenantAreas) (b : ℕ) : Type 0 where
  pub left : finished_of l.own b < length (tiles_of p b)
  pub held : holder_of l.engaged b ≡ other_than o

pub record TestsFor (p : Plan) (o : ℕ) (l : TenantAreas) (theirs : List ℕ) : Type 0 where
  pub all_fit : Exactly (fit_for p o l theirs) (FitFor p o l theirs)
  pub engaged : (b : ℕ) → Exactly (held_by_other p o l b) (Engaged p o l b)

-- a turn's number, whatever is lent: the first of its lines that is true, each by its clauses, or 0
pub data TurnNumberFor (p : Plan) (o : ℕ) (l : TenantAreas) (theirs : List ℕ) (b : ℕ) : ℕ → Type 0 where
  no_tenant : 1 < o → TurnNumberFor p o l theirs b 11
  unfit : o ≤ 1 → (FitFor p o l theirs → ⊥) → TurnNumberFor p o l theirs b 10
  no_such : o ≤ 1 → FitFor p o l theirs → p.processors ≤ b → TurnNumberFor p o l theirs b 11
  engaged : o ≤ 1 → FitFor p o l theirs → b < p.processors → Engaged p o l b → TurnNumberFor p o l theirs b 19
  waits : o ≤ 1 → FitFor p o l theirs → b < p.processors → (Engaged p o l b → ⊥) → Waits p l.own b → TurnNumberFor p o l theirs b 12
  over : o ≤ 1 → FitFor p o l theirs → b < p.processors → finished_of l.own b ≡ length (tiles_of p b) → TurnNumberFor p o l theirs b 13
  done : o ≤ 1 → FitFor p o l theirs → b < p.processors → finished_of l.own b < length (tiles_of p b) → (Engaged p o l b → ⊥)
      → (Waits p l.own b → ⊥) → TurnNumberFor p o l theirs b 0

pub record NumbersFor (p : Plan) (source : List ℕ) (o : ℕ) (l : TenantAreas) (theirs : List ℕ) : Type 0 where
  pub of_turn : (b : ℕ) → TurnNumberFor p o l theirs b (turn_for p source o l theirs b).number
  pub turn_refused : (b : ℕ) → (turn_for p source o l theirs b).number ≢ 0 → (turn_for p source o l theirs b).after ≡ l
