-- Laws of a pass over the slots of the table: the messages passed, and the one found at a slot.
use Prim.Native.Nat.{ℕ, ◌+◌, ◌*◌, ◌≤◌, ◌<◌}
use mathlib.Core.Path.{◌≡◌, sym, ap, ◌∙◌}
use mathlib.Core.Logic.{◌⊎◌, inl, inr, ◌≢◌}
use mathlib.Core.List.{List}
use native.Mathlib.Omega.{arith}
use lib.ListN.{length, get_or}
use Rattle.machine.specs.Plan.{Message, count}
use Rattle.nest.specs.declared.Nest.{Nest}
use Rattle.plan.specs.declared.Route.{Route}
use Rattle.plan.specs.Messages.{messages_of}
use Rattle.plan.specs.Shaped.{plan_of}
use Rattle.tables.specs.scans.Scans.{Lengths, Summing}
use Rattle.tables.proofs.scans.Laws as scans
use Rattle.tables.specs.Tables.{FoundIn}
use Rattle.tables.proofs.Slotted.{Slotted}

-- the slots before s are passed: so many messages with so many words
pub record Past (lens : List ℕ) (n s m o : ℕ) : Type 0 where
  pub low : s ≤ n
  pub few : m ≤ s
  pub small : o ≤ 16384 * s
  pub sums : (f : ℕ → Message) → Lengths f n lens → Summing f s m o

pub past_start : (lens : List ℕ) (n : ℕ) → Past lens n 0 0 0
past_start lens n = record { low = omega arith; few = omega arith; small = omega arith; sums = λ f h. scans.sum_start f }

-- a slot with a message, or an empty one
abbrev pub Met : ℕ → ℕ → ℕ → Type 0
Met w m m' = ((w ≢ 0) × (m' ≡ m + 1)) ⊎ ((w ≡ 0) × (m' ≡ m))

module _ (r : Route) (x : Nest) (lens : List ℕ) (n s m o : ℕ) (g : Past lens n s m o) (t : Slotted r x lens n) where
  module _ (l : s < n) (w : ℕ) (e : w ≡ get_or lens s 0) where
    pub here : w ≢ 0 → FoundIn r x m (record { slot = s; number = m; offset = o; words = w })
    here h = t.found m _ (scans.found t.slot n s m o w (g.sums t.slot t.lengths) l (e ∙ t.lengths.each s l) (scans.positive w h))

    pub short : w ≤ 16384
    short = omega (arith, e, t.sheet.short s l)

    pub past_next : (m' : ℕ) → Met w m m' → Past lens n (s + 1) m' (o + w)
    past_next m' h =
        record {
          low = omega arith;
          few = fewer h;
          small = omega (arith, g.small, short);
          sums = λ f i. scans.sum_turn f s m o w m' (g.sums f i) (e ∙ i.each s l) h;
        }
      where
        fewer : Met w m m' → m' ≤ s + 1
        fewer (inl (a, b)) = omega (arith, g.few, b)
        fewer (inr (a, b)) = omega (arith, g.few, b)

  pub past_all : n ≤ s → m ≡ count (plan_of r x)
  past_all k =
      let z : s ≡ n = omega (arith, g.low) in
      (g.sums t.slot t.lengths).number ∙ ap (λ (i : ℕ). length (messages_of t.slot i)) z ∙ sym (ap (λ (ms : List Message). length ms) t.all)
