-- Read this.
-- Request W-213 for the calls as exported, board records as structs, by the relations that are their contracts (`Gave`); a run by rounds against
-- runs of single calls. Document 01, "Numbers a call gives", "Runs"; W-213.
use Rattle.std.specs.Prelude.{ℕ, ◌≤◌, ◌<◌, ◌≡◌, ◌≢◌, Bool, List, [], ◌∷◌, length, get_or, replicate}
use Rattle.base.specs.Lists.{Bytes}
use Rattle.machine.specs.Machine as machine
use Rattle.machine.specs.Runs.{total, steps_in}
use Rattle.rounds.specs.Rounds.{told, drive, rounds, rounds_to, tile_round, rounds_from, rounds_of_other, state_then, RoundsHold}
use Rattle.engine.specs.Calls.{answer, recipe, fresh_call_lines, collect_call}
use Rattle.engine.specs.Demands.{Fixed, calls}
use Rattle.schedule.specs.declared.Driven.{Driven}
use Rattle.schedule.specs.Calls.{rounds_of_lines}
use Rattle.calls.specs.Gave.{Areas, in_words, FreshGave, CollectGave, RoundsGave, RoundsOfGave}
use Rattle.guarantees.specs.OverRecords.{EventsGave}

-- ---- demand 1

pub record FixedRounds (bytes : List ℕ) : Type 0 where
  pub run : (source : List ℕ) (a b : Areas) (d : Driven) → RoundsGave bytes source a d b
      → Fixed (answer d.number (told d.rounds (in_words b))) (fresh_call_lines bytes 0 source (in_words a))
      (drive (calls bytes 0 source) (recipe bytes 0) (recipe bytes 0).tiles 0 (machine.fresh (recipe bytes 0))) (told 0 (in_words a))
  -- a refusal tells no rounds and leaves the very records
  pub as_before : (source : List ℕ) (a b : Areas) (d : Driven) → RoundsGave bytes source a d b → d.number ≢ 0 → (d.rounds ≡ 0) × (b ≡ a)
  pub rounds_of : (old out : List ℕ) (n : ℕ) → RoundsOfGave bytes old n out
      → Fixed (answer n out) (rounds_of_lines bytes old) (rounds_to (recipe bytes 0) (recipe bytes 0).tiles) old
  -- it refuses as a fresh start on the direct route does
  pub as_fresh : (source : List ℕ) (a b : Areas) (c : Areas) (d : Driven) (k : ℕ) → RoundsGave bytes source a d b → FreshGave bytes 0 source a k c
      → d.number ≡ k
  -- the contract can be kept, and in one way only
  pub can_run : (source : List ℕ) (a : Areas) → (d : Driven) × ((b : Areas) × RoundsGave bytes source a d b)
  pub one_run : (source : List ℕ) (a b c : Areas) (d e : Driven) → RoundsGave bytes source a d b → RoundsGave bytes source a e c → (d ≡ e) × (b ≡ c)

-- ---- a driver that gave 0, lent `a`: it told d and left `b`

module _ (bytes source : List ℕ) (a b : Areas) (d : Driven) where
  pub record DrivenRun : Type 0 where
    -- it tells the greatest round of a tile, and the areas are those after so many rounds of the calls over words, of which all that is
    -- said of rounds holds
    pub tells : d.rounds ≡ rounds (recipe bytes 0)
    pub words_are : in_words b
        ≡ state_then (calls bytes 0 source) (collect_call bytes 0 source) (recipe bytes 0) source (rounds (recipe bytes 0))
    pub demand : RoundsHold (calls bytes 0 source) (collect_call bytes 0 source) (recipe bytes 0) source
    -- the same rounds as single calls from a fresh start: each gives 0, and they leave the very areas
    pub as_calls : (start c : Areas) (numbers : List ℕ) → FreshGave bytes 0 source a 0 start
        → EventsGave bytes 0 source start (rounds_from (calls bytes 0 source) (recipe bytes 0) (rounds (recipe bytes 0))) numbers c
        → (numbers ≡ replicate (length numbers) 0) × (c ≡ b)
    -- another driver by whole tiles, with single calls, that ends the run takes no fewer rounds
    pub no_sooner : (who : ℕ → ℕ → Bool) (r : ℕ) (start c : Areas) (numbers : List ℕ) → FreshGave bytes 0 source a 0 start
        → EventsGave bytes 0 source start (rounds_of_other (calls bytes 0 source) (recipe bytes 0) who r) numbers c
        → steps_in numbers ≡ total (recipe bytes 0) → rounds (recipe bytes 0) ≤ r
    -- collecting then gives the sweep
    pub collects : (old grid : List ℕ) (n : ℕ) → length old ≡ (recipe bytes 0).cells → CollectGave bytes 0 source b old n grid
        → (n ≡ 0) × (grid ≡ machine.sweep (recipe bytes 0) source)

pub record OverRounds (bytes : List ℕ) : Type 0 where
  pub one : FixedRounds bytes
  pub run : Bytes bytes → (source : List ℕ) (a b : Areas) (d : Driven) → RoundsGave bytes source a d b → d.number ≡ 0
      → DrivenRun bytes source a b d
  -- the word of a tile is its round
  pub round_of : (old out : List ℕ) → RoundsOfGave bytes old 0 out
      → (t : ℕ) → t < (recipe bytes 0).tiles → get_or out t 0 ≡ tile_round (recipe bytes 0) t
