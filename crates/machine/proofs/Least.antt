-- The least tile that is not done, by each processor's record: its processor stands there. `at b` are the areas that have processor b's record, shared
-- by all or its own.
use Prim.Native.Nat.{ℕ, zero, suc, ◌≤◌, ◌<◌}
use mathlib.Core.Path.{◌≡◌, refl, sym, ap, ◌∙◌}
use mathlib.Core.Logic.{◌⊎◌, inl, inr}
use native.Mathlib.Nat.{eq-or-lt_of_le, le_of_suc-le-suc, lt_of_not-le}
use native.Mathlib.Omega.{arith}
use native.Mathlib.Decide.{dec_lt}
use lib.ListN.{length, get_or}
use Rattle.base.specs.Tests.{those}
use Rattle.base.proofs.Select.{rank_in, those_at, those_lt, those_mono}
use Rattle.machine.specs.Plan.{Plan, Sound, tiles_of}
use Rattle.machine.specs.Machine.{State, finished_of, current_tile}
use Rattle.machine.proofs.Progress.{prog, prog_is, prog_before, work, full, Shape, here_is, here_rank, here_prog}
use Rattle.machine.proofs.Kept.{sending}

work_less : (g n k : ℕ) → (2 ≤ g → n < k) → work g n < suc (suc k)
work_less zero n k f = omega arith
work_less (suc zero) n k f = omega arith
work_less (suc (suc g)) n k f = let h = f (omega arith) in omega arith

module _ (p : Plan) (at : ℕ → State) where
  -- how far a tile is, by its processor's record
  abbrev pub done : ℕ → ℕ
  done t = prog p (at (p.processor_of t)) t

  abbrev pub AllDone : ℕ → Type 0
  AllDone n = (u : ℕ) → u < n → full p u ≤ done u

  abbrev pub Least : ℕ → Type 0
  Least n = (t : ℕ) × (t < n) × (done t < full p t) × AllDone t

  pub least : (n : ℕ) → AllDone n ⊎ Least n
  least zero = inl (λ u h. absurd (omega arith))
  least (suc n) = go (least n) (dec_lt (done n) (full p n))
    where
      each : AllDone n → full p n ≤ done n → (u : ℕ) → (u ≡ n) ⊎ (u < n) → full p u ≤ done u
      each f q u (inl e) = rw e q
      each f q u (inr k) = f u k

      go : AllDone n ⊎ Least n → Dec (done n < full p n) → AllDone (suc n) ⊎ Least (suc n)
      go (inl f) (yes h) = inr (n, omega arith, h, f)
      go (inl f) (no h) = inl (λ u k. each f (omega arith) u (eq-or-lt_of_le (le_of_suc-le-suc k)))
      go (inr r) d = inr (r.0, omega arith, r.2, r.3)

  module _ (shape : (b : ℕ) → b < p.processors → Shape p (at b)) where
    pub here_less : (b : ℕ) → b < p.processors → finished_of (at b) b < length (tiles_of p b)
        → prog p (at b) (current_tile p (at b) b) < full p (current_tile p (at b) b)
    here_less b low h = rw (here_prog p (at b) b h) (work_less _ _ _ (sending p (at b) b low (shape b low) h))

    module _ (so : Sound p) (t : ℕ) (low : t < p.tiles) (less : done t < full p t) (earlier : AllDone t) where
      abbrev b : ℕ
      b = p.processor_of t

      abbrev s : State
      s = at b

      stands : rank_in p.processor_of t ≡ finished_of s b
      stands = go (dec_lt (rank_in p.processor_of t) (finished_of s b)) (dec_lt (finished_of s b) (rank_in p.processor_of t))
        where
          go : Dec (rank_in p.processor_of t < finished_of s b) → Dec (finished_of s b < rank_in p.processor_of t)
              → rank_in p.processor_of t ≡ finished_of s b
          go (yes h) d = absurd (omega (arith, prog_is p s t b refl ∙ prog_before _ _ _ _ h))
          go (no h) (yes k) =
              let in_reach : finished_of s b < length (tiles_of p b) = omega (arith, those_lt p.processor_of b p.tiles t low refl) in
              let u : ℕ = current_tile p s b in
              let e : p.processor_of u ≡ b = here_is p s b in_reach in
              let r : length (those p.processor_of b u) ≡ finished_of s b = rw e at (here_rank p s b in_reach) in
              let q : u < t = lt_of_not-le (λ x. omega (arith, those_mono p.processor_of b u t x)) in
              let f = earlier u q in
              let g : done u ≡ prog p s u = ap (λ (c : ℕ). prog p (at c) u) e in
              absurd (omega (arith, here_less b (so.processor_low t low) in_reach))
          go (no h) (no k) = omega arith

      pub reach : finished_of s b < length (tiles_of p b)
      reach = omega (arith, stands, those_lt p.processor_of b p.tiles t low refl)

      pub is_t : current_tile p s b ≡ t
      is_t = ap (λ (k : ℕ). get_or (tiles_of p b) k 0) (sym stands) ∙ those_at p.processor_of b p.tiles t low refl
