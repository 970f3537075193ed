-- Read this. Fit states and the numbers of a call, clause by clause as document 01 writes them, with no test in it.
-- Renders document 01, "The machine", last paragraph, and lines 10 to 15 of "Numbers a call gives". Machine has the tests by which the calls
-- refuse. proofs/ proves of every state, whether a run reaches it or not, that a test holds exactly where its clauses do.
use Rattle.std.specs.Prelude.{ℕ, ◌≤◌, ◌<◌, ◌≡◌, ◌≢◌, Bool, true, List, length, get_or}
use Rattle.machine.specs.Plan.{Plan, count, taker_of, tiles_of, sends_of}
use Rattle.machine.specs.Machine.{State, finished_of, stage_of, sent_of, current_tile, fit_record, fit, waiting, turn, deliver, collect}

-- the record of processor b
pub record FitRecord (p : Plan) (s : State) (b : ℕ) : Type 0 where
  pub finished : finished_of s b ≤ length (tiles_of p b)  -- at most the processor's tile count
  -- if equal, the rest are 0
  pub over_stage : finished_of s b ≡ length (tiles_of p b) → stage_of s b ≡ 0
  pub over_sent : finished_of s b ≡ length (tiles_of p b) → sent_of s b ≡ 0
  pub stage : stage_of s b ≤ 2  -- 0 to 2
  pub early : stage_of s b < 2 → sent_of s b ≡ 0  -- sent is 0 in stages 0 and 1
  pub sending : stage_of s b ≡ 2 → sent_of s b < length (sends_of p (current_tile p s b))  -- in stage 2 it is below the tile's message count

pub record Fit (p : Plan) (s : State) : Type 0 where
  pub records : (b : ℕ) → b < p.processors → FitRecord p s b
  pub marks : (m : ℕ) → m < count p → get_or s.status m 0 ≤ 3  -- 0 to 3

-- line 12
pub record Waits (p : Plan) (s : State) (b : ℕ) : Type 0 where
  pub stage : stage_of s b ≡ 0
  pub left : finished_of s b < length (tiles_of p b)
  -- a due message not marked 2
  pub message : ℕ
  pub low : message < count p
  pub due : taker_of p message ≡ current_tile p s b
  pub unmarked : get_or s.status message 0 ≢ 2

-- ---- a test holds exactly where this is so
pub record Exactly (test : Bool) (A : Type 0) : Type 0 where
  pub only : test ≡ true → A
  pub whenever : A → test ≡ true

pub record Tests (p : Plan) (s : State) : Type 0 where
  pub record_fit : (b : ℕ) → Exactly (fit_record p s b) (FitRecord p s b)
  pub state_fit : Exactly (fit p s) (Fit p s)
  pub waits : (b : ℕ) → Exactly (waiting p s b) (Waits p s b)

-- ---- a call's number, in any state: the first of its lines that is true, each by its clauses, or 0

pub data TurnNumber (p : Plan) (s : State) (b : ℕ) : ℕ → Type 0 where
  unfit : (Fit p s → ⊥) → TurnNumber p s b 10
  no_such : Fit p s → p.processors ≤ b → TurnNumber p s b 11
  waits : Fit p s → b < p.processors → Waits p s b → TurnNumber p s b 12
  over : Fit p s → b < p.processors → finished_of s b ≡ length (tiles_of p b) → TurnNumber p s b 13
  done : Fit p s → b < p.processors → finished_of s b < length (tiles_of p b) → (Waits p s b → ⊥) → TurnNumber p s b 0

pub data DeliveryNumber (p : Plan) (s : State) (m : ℕ) : ℕ → Type 0 where
  unfit : (Fit p s → ⊥) → DeliveryNumber p s m 10
  no_such : Fit p s → count p ≤ m → DeliveryNumber p s m 11
  not_flying : Fit p s → m < count p → get_or s.status m 0 ≢ 1 → DeliveryNumber p s m 14
  done : Fit p s → m < count p → get_or s.status m 0 ≡ 1 → DeliveryNumber p s m 0

pub data CollectNumber (p : Plan) (s : State) : ℕ → Type 0 where
  unfit : (Fit p s → ⊥) → CollectNumber p s 10
  early : Fit p s → (b : ℕ) → b < p.processors → finished_of s b < length (tiles_of p b) → CollectNumber p s 15
  done : Fit p s → ((b : ℕ) → b < p.processors → finished_of s b ≡ length (tiles_of p b)) → CollectNumber p s 0

pub record Numbers (p : Plan) (source : List ℕ) (s : State) : Type 0 where
  pub of_turn : (b : ℕ) → TurnNumber p s b (turn p source s b).number
  pub of_delivery : (m : ℕ) → DeliveryNumber p s m (deliver p s m).number
  pub of_collecting : (grid : List ℕ) → CollectNumber p s (collect p s grid).number
  -- and nothing lent is written unless it is 0
  pub turn_refused : (b : ℕ) → (turn p source s b).number ≢ 0 → (turn p source s b).after ≡ s
  pub delivery_refused : (m : ℕ) → (deliver p s m).number ≢ 0 → (deliver p s m).after ≡ s
  pub collecting_refused : (grid : List ℕ) → (collect p s grid).number ≢ 0 → (collect p s grid).after ≡ grid
