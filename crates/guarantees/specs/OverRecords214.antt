-- Read this.
-- Two steps, either way round, for the calls as exported, board records as structs: what the contracts of crates/calls say of two calls.
-- Renders request W-214. `Step a e n b` says that the call e, lent the areas a, gave n and left b.
use Rattle.std.specs.Prelude.{ℕ, ◌≡◌, ◌≢◌, List}
use Rattle.base.specs.Lists.{Bytes}
use Rattle.machine.specs.Plan.{Plan}
use Rattle.machine.specs.Runs.{Event, turn_of}
use Rattle.tenants.specs.Tenants.{Sources, Call}
use Rattle.calendar.specs.Windows.{event_of, call_of}
use Rattle.swaps.specs.Swaps.{Swapped}
use Rattle.swaps.specs.OneTenant.{Different, plainly}
use Rattle.swaps.specs.TwoTenants.{TwoGathers, DifferentFor, wholly}
use Rattle.engine.specs.Calls.{recipe}
use Rattle.calls.specs.Gave.{Areas, SharingAreas, sharing_words, FreshGave, EventGave, FreshBothGave, TimedGave}
use Rattle.guarantees.specs.OverRecords.{Gave}
use Rattle.guarantees.specs.OverSharing.{CallGave}
use Rattle.guarantees.specs.OverCalendar.{TimedCallGave}

-- ---- any calls in a row

module _ {A E : Type 0} (Step : A → E → ℕ → A → Type 0) where
  -- the call e, lent a, can give 0
  abbrev pub CanGive : A → E → Type 0
  CanGive a e = (b : A) × Step a e 0 b

  -- after either call the other gives 0, and both orders leave the same areas, the very records
  pub record EitherOrder (a : A) (e f : E) : Type 0 where
    pub then_second : (b c : A) (n : ℕ) → Step a e 0 b → Step b f n c → n ≡ 0
    pub then_first : (b c : A) (n : ℕ) → Step a f 0 b → Step b e n c → n ≡ 0
    pub same_areas : (b c b' c' : A) (n k : ℕ) → Step a e 0 b → Step b f n c → Step a f 0 b' → Step b' e k c' → c ≡ c'

  -- Apart a e f: the claim speaks of these two, lent a
  module _ (Apart : A → E → E → Type 0) where
    pub record SwapsGave (a : A) : Type 0 where
      pub either_way : (e f : E) → Apart a e f → CanGive a e → CanGive a f → EitherOrder a e f

    module _ (start : A) where
      -- after the calls `before` the two could both give 0
      pub record CanSwapGave (before : List E) (e f : E) : Type 0 where
        pub numbers : List ℕ
        pub areas : A
        pub gave : Gave Step start before numbers areas
        pub apart : Apart areas e f
        pub first : CanGive areas e
        pub second : CanGive areas f

      -- lists that such swaps turn into each other get the same numbers and leave the same areas
      pub record RewindsGave : Type 0 where
        pub same_run : (es fs : List E) (ns ks : List ℕ) (b c : A) → Swapped CanSwapGave es fs
            → Gave Step start es ns b → Gave Step start fs ks c → (ns ≡ ks) × (b ≡ c)

-- ---- one tenant; event_of: what the machine reads of a call

pub record Demand214Gave {X : Type 0} (event_of : X → Event) (Step : Areas → X → ℕ → Areas → Type 0) (start : Areas) : Type 0 where
  -- lent any areas that a run left
  pub swaps : (events : List X) (numbers : List ℕ) (a : Areas) → Gave Step start events numbers a → SwapsGave Step (Different event_of) a
  pub rewinds : RewindsGave Step (Different event_of) start

-- ---- two tenants; call_of: what the sharing without hours reads of a call

module _ {C : Type 0} (call_of : C → Call) (p : Plan) (Step : SharingAreas → C → ℕ → SharingAreas → Type 0) where
  abbrev pub DifferentAreas : SharingAreas → C → C → Type 0
  DifferentAreas a = DifferentFor call_of p (sharing_words a)

  pub record SwapsForGave (a : SharingAreas) : Type 0 where
    pub swaps : SwapsGave Step DifferentAreas a
    -- two turns of one processor by two tenants that can both give 0 are both gathers
    pub both_gather : (c d : C) (b : ℕ) → (call_of c).tenant ≢ (call_of d).tenant → (call_of c).event ≡ turn_of b → (call_of d).event ≡ turn_of b
        → CanGive Step a c → CanGive Step a d → TwoGathers p (sharing_words a) (call_of c) (call_of d)
    -- and after either of them the other is refused, engaged
    pub only_one : (c d : C) (x y : SharingAreas) (n : ℕ) → TwoGathers p (sharing_words a) (call_of c) (call_of d) → CanGive Step a d
        → Step a c 0 x → Step x d n y → n ≡ 19

  pub record Demand214ForGave (start : SharingAreas) : Type 0 where
    -- lent any areas that a run left
    pub swaps : (calls : List C) (numbers : List ℕ) (a : SharingAreas) → Gave Step start calls numbers a → SwapsForGave a
    pub rewinds : RewindsGave Step DifferentAreas start

-- ---- the calls of crates/calls, from a fresh start that gave 0

pub record OverRecords214 (bytes : List ℕ) (route : ℕ) : Type 0 where
  pub one : Bytes bytes → (source : List ℕ) (a start : Areas) → FreshGave bytes route source a 0 start
      → Demand214Gave plainly (EventGave bytes route source) start
  pub two : Bytes bytes → (sources : Sources) (a start : SharingAreas) → FreshBothGave bytes route sources a 0 start
      → Demand214ForGave wholly (recipe bytes route) (CallGave bytes route sources) start
  -- with hours
  pub one_at : Bytes bytes → (source : List ℕ) (a start : Areas) → FreshGave bytes route source a 0 start
      → Demand214Gave event_of (TimedGave bytes route source) start
  pub two_at : Bytes bytes → (sources : Sources) (a start : SharingAreas) → FreshBothGave bytes route sources a 0 start
      → Demand214ForGave call_of (recipe bytes route) (TimedCallGave bytes route sources) start
