-- Laws of the calls over records: what is stored has the words of the call over words, and a call's number is that of its answer.
use Rattle.std.specs.Prelude.{◌≡◌, ℕ, List, Result, Ok, Err}
use mathlib.Core.Path.{refl}
use Rattle.base.specs.declared.refusal.Refusal.{Refusal}
use Rattle.base.specs.Refusals.{number_of}
use Rattle.machine.specs.Machine.{Answered}
use Rattle.records.specs.declared.Progress.{Progress}
use Rattle.records.specs.Records.{flat_words, put_at, clear_all}
use Rattle.engine.specs.Calls.{answer}
use Rattle.engine.specs.Given.{records_after, zeros_after}
use Rattle.engine.proofs.Reading.{stored_after, cleared_after}

stored : (rs : List Progress) (b : ℕ) (r : Result Progress Refusal) → flat_words (put_at r b rs) ≡ records_after (flat_words rs) b r
stored rs b (Ok p) = stored_after rs b p
stored rs b (Err why) = refl

-- a turn's, its record stored
pub turn_stored : {A : Type 0} (f : List ℕ → A) (rs ss : List Progress) (b n : ℕ) (r : Result Progress Refusal) (x : Answered A)
    → ss ≡ put_at r b rs → n ≡ number_of r → answer (number_of r) (f (records_after (flat_words rs) b r)) ≡ x → answer n (f (flat_words ss)) ≡ x
turn_stored f rs ss b n r x s e q = rw (s, e, stored rs b r) q

-- a fresh start's, its records cleared
pub start_cleared : {A : Type 0} (f : List ℕ → A) (rs ss : List Progress) (n k : ℕ) (x : Answered A)
    → ss ≡ clear_all n rs → n ≡ k → answer k (f (zeros_after (flat_words rs) k)) ≡ x → answer n (f (flat_words ss)) ≡ x
start_cleared f rs ss n k x s e q = rw (s, e, cleared_after rs k) q

-- and of two tenants
pub both_cleared : {A : Type 0} (f : List ℕ → List ℕ → A) (rs rs' ss ss' : List Progress) (n k : ℕ) (x : Answered A)
    → rs' ≡ clear_all n rs → ss' ≡ clear_all n ss → n ≡ k
    → answer k (f (zeros_after (flat_words rs) k) (zeros_after (flat_words ss) k)) ≡ x → answer n (f (flat_words rs') (flat_words ss')) ≡ x
both_cleared f rs rs' ss ss' n k x s t e q = rw (s, t, e, cleared_after rs k, cleared_after ss k) q
