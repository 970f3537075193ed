-- For contracts below the calls: no reader needs it.
-- A round as one change of the lent areas after another, each tile whole: what code does, without the tests that every call makes anew.
-- No sentence of document 02; the contracts of the code of a round cite it, and proofs/ByState proves that it is what a round's events do.
use Rattle.std.specs.Prelude.{ℕ, zero, suc, ◌*◌, ◌<◌, ◌≡◌, Bool, List, [], length, get_or, eqb}
use Rattle.base.specs.Tests.{◌and◌, pick, keep}
use Rattle.base.specs.Lists.{set_all, all_at}
use Rattle.machine.specs.Plan.{Plan, count, words, sends_of, dues_of}
use Rattle.machine.specs.Machine.{State, state_of, finished_of, stage_of, sent_of, tiles_left, current_tile, gather, calculate, send, carry_out}

-- tile t's first j messages sent
unfoldable pub sent_to : Plan → State → ℕ → ℕ → ℕ → State
sent_to p s b t zero = s
sent_to p s b t (suc j) = carry_out p [] (sent_to p s b t j) b (send (get_or (sends_of p t) j 0))

-- it gathered and calculated
abbrev pub calculated_tile : Plan → List ℕ → State → ℕ → ℕ → State
calculated_tile p source s b t = carry_out p source (carry_out p [] s b (gather t)) b (calculate t)

-- the whole of it
unfoldable pub tile_done : Plan → List ℕ → State → ℕ → ℕ → State
tile_done p source s b t = sent_to p (calculated_tile p source s b t) b t (length (sends_of p t))

-- at stage 0 processor b has tiles left, and the mail of the next is there
unfoldable pub may_gather : Plan → State → ℕ → Bool
may_gather p s b = tiles_left p s b and all_at s.status 2 (dues_of p (current_tile p s b))

unfoldable pub after_tile : Plan → List ℕ → State → ℕ → State
after_tile p source s b = pick (may_gather p s b) (tile_done p source s b (current_tile p s b)) s

-- the marks once all mail in flight is delivered
unfoldable pub delivered : List ℕ → List ℕ
delivered status = set_all status (keep (λ m. eqb (get_or status m 0) 1) (length status)) 2

abbrev pub with_mail : State → State
with_mail s = state_of s.memories s.buffer s.progress (delivered s.status)

-- each of the first n processors, when its place comes
unfoldable pub after_tiles : Plan → List ℕ → State → ℕ → State
after_tiles p source s zero = s
after_tiles p source s (suc n) = after_tile p source (after_tiles p source s n) n

unfoldable pub after_round : Plan → List ℕ → State → State
after_round p source s = with_mail (after_tiles p source s p.processors)

-- each lent area but the source has exactly its length
pub record PlanAreas (p : Plan) (s : State) : Type 0 where
  pub memories : length s.memories ≡ p.processors * p.cells
  pub buffer : length s.buffer ≡ words p
  pub progress : length s.progress ≡ 3 * p.processors
  pub status : length s.status ≡ count p

-- processor b, with f tiles finished, has sent j messages of tile t: where there are more, its record says so
pub record Sending (p : Plan) (b t f j : ℕ) (s : State) : Type 0 where
  pub long : length s.progress ≡ 3 * p.processors
  pub finished : j < length (sends_of p t) → finished_of s b ≡ f
  pub stage : j < length (sends_of p t) → stage_of s b ≡ 2
  pub sent : j < length (sends_of p t) → sent_of s b ≡ j
