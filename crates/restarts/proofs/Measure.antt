-- What is left to do on all processors' own areas: deeds of tiles, messages to post, and messages of others to receive; and how an event changes it.
use Prim.Native.Nat.{ℕ, zero, suc, ◌+◌, ◌-◌, ◌≤◌, ◌<◌}
use mathlib.Core.Path.{◌≡◌, refl, sym, ap, ◌∙◌}
use mathlib.Core.Logic.{◌≢◌}
use mathlib.Core.Bool.{Bool, true, false}
use mathlib.Core.List.{List, [], ◌∷◌, ◌++◌, map}
use native.Mathlib.Omega.{arith}
use native.Mathlib.Decide.{ℕ_discrete}
use lib.ListN.{length, length-append, length-map}
use lib.Dec.{eqb}
use borrow.Author.Tests.{eq-eqb, ne_eqb}
use Rattle.base.specs.Tests.{◌and◌, not, pick, one, sum, keep, keep_if, those}
use Rattle.base.proofs.Tests.{and_true, not-false, pick_true, pick_false, one_true, sum_same, sum_most, sum_less, sum_add, sum_const}
use Rattle.base.proofs.Select.{sum_those}
use Rattle.machine.specs.Plan.{Plan, Sound, count, sender_of, taker_of, sends_of}
use Rattle.machine.specs.Machine.{State, send}
use Rattle.machine.specs.Runs.{total, program_over}
use Rattle.machine.proofs.Progress.{prog, full}
use Rattle.machine.proofs.Invariant.{Step, left, pending, left_turn, sender_low}
use Rattle.machine.proofs.Kept.{status_of}
use Rattle.network.specs.Apart.{AreasApart, replaced, sender_at, taker_at}
use Rattle.network.specs.Packets.{status_at, mailed}
use Rattle.network.proofs.Letters.{replaced_same, replaced_other}
use Rattle.restarts.specs.Restarts.{work_of}

-- the processors between which a message goes are there
pub sender_at_lem : (p : Plan) → Sound p → (m : ℕ) → m < count p → sender_at p m < p.processors
sender_at_lem p so m lo = so.processor_low (sender_of p m) (sender_low p so m lo)

pub taker_at_lem : (p : Plan) → Sound p → (m : ℕ) → m < count p → taker_at p m < p.processors
taker_at_lem p so m lo = so.processor_low (taker_of p m) (so.taker_low m lo)

module _ (p : Plan) (a : AreasApart) where
  -- how far each tile is by its own processor's record; each message's status at its sender's
  abbrev pub prog_here : ℕ → ℕ
  prog_here t = prog p (a (p.processor_of t)) t

  abbrev pub status_here : ℕ → ℕ
  status_here m = status_at a (sender_at p m) m

  -- a message of another processor that is not yet received
  abbrev pub awaited : ℕ → ℕ
  awaited m = pick (eqb (sender_at p m) (taker_at p m)) 0 (pending (status_at a (taker_at p m) m))

  abbrev pub left_here : ℕ
  left_here = left p prog_here status_here + sum awaited (count p)

-- ---- it is never more than at the start
pending_most : (n : ℕ) → pending n ≤ 1
pending_most zero = omega arith
pending_most (suc zero) = omega arith
pending_most (suc (suc n)) = omega arith

kept_one : (t : Bool) (n : ℕ) → length (keep_if t n) ≡ one t
unfolding one
kept_one true n = refl
kept_one false n = refl

kept_sum : (f : ℕ → Bool) (n : ℕ) → length (keep f n) ≡ sum (λ i. one (f i)) n
unfolding keep sum
kept_sum f zero = refl
kept_sum f (suc n) = length-append (keep f n) (keep_if (f n) n) ∙ (let a = kept_sum f n in let b = kept_one (f n) n in omega arith)

-- a processor's program, counted by tiles
module _ (p : Plan) where
  program_both : (ts us : List ℕ) → length (program_over p (ts ++ us)) ≡ length (program_over p ts) + length (program_over p us)
  unfolding program_over
  program_both [] us = omega arith
  program_both (t ∷ ts) us =
      let x = program_both ts us in
      let y = length-append (map send (sends_of p t)) (program_over p (ts ++ us)) in
      let z = length-append (map send (sends_of p t)) (program_over p ts) in
      omega arith

  program_one : (t : Bool) (n : ℕ) → length (program_over p (keep_if t n)) ≡ pick t (full p n) 0
  unfolding program_over pick
  program_one true n =
      let x = length-append (map send (sends_of p n)) (program_over p []) in
      let y = length-map (sends_of p n) send in
      omega arith
  program_one false n = refl

  program_length : (b n : ℕ) → length (program_over p (those p.processor_of b n)) ≡ sum (λ t. pick (eqb (p.processor_of t) b) (full p t) 0) n
  unfolding those keep sum program_over
  program_length b zero = refl
  program_length b (suc n) =
      let x = program_both (keep (λ i. eqb (p.processor_of i) b) n) (keep_if (eqb (p.processor_of n) b) n) in
      let y = program_one (eqb (p.processor_of n) b) n in
      let z = program_length b n in
      omega arith

module _ (p : Plan) (so : Sound p) (a : AreasApart) where
  awaited_most : (m : ℕ) → Dec (sender_at p m ≡ taker_at p m) → awaited p a m ≤ one (not (eqb (sender_at p m) (taker_at p m)))
  awaited_most m (yes e) = let x = pick_true _ 0 (pending (status_at a (taker_at p m) m)) (eq-eqb _ _ e) in omega arith
  awaited_most m (no n) =
      let x = pick_false _ 0 (pending (status_at a (taker_at p m) m)) (ne_eqb _ _ n) in
      let y = one_true (not-false (ne_eqb _ _ n)) in
      omega (arith, pending_most (status_at a (taker_at p m) m))

  pub left_most : left_here p a ≤ total p + mailed p
  unfolding mailed
  left_most =
      let x = sum_most (λ t. full p t - prog_here p a t) (λ t. 2 + length (sends_of p t)) p.tiles (λ t h. omega arith) in
      let b = sum_add (λ t. 2) (λ t. length (sends_of p t)) p.tiles in
      let c = sum_const 2 p.tiles in
      let d = sum_those (sender_of p) p.tiles (count p) (λ m lo. sender_low p so m lo) in
      let e = sum_most (λ m. pending (status_here p a m)) (λ m. 1) (count p) (λ m h. pending_most (status_here p a m)) in
      let f = sum_const 1 (count p) in
      let g = sum_most (awaited p a) (λ m. one (not (eqb (sender_at p m) (taker_at p m)))) (count p)
      (λ m h. awaited_most m (ℕ_discrete (sender_at p m) (taker_at p m))) in
      let k = kept_sum (λ m. not (eqb (sender_at p m) (taker_at p m))) (count p) in
      omega arith

-- ---- one processor's areas replaced
module _ (p : Plan) (a : AreasApart) (b : ℕ) (s : State) where
  abbrev a' : AreasApart
  a' = replaced a b s

  prog_here_lem : (u : ℕ) → p.processor_of u ≡ b → prog_here p a' u ≡ prog p s u
  prog_here_lem u e = ap (λ (x : State). prog p x u) (replaced_same a b s (p.processor_of u) e)

  prog_away : (u : ℕ) → p.processor_of u ≢ b → prog_here p a' u ≡ prog_here p a u
  prog_away u n = ap (λ (x : State). prog p x u) (replaced_other a b s (p.processor_of u) n)

  pub status_here_lem : (c m : ℕ) → c ≡ b → status_at a' c m ≡ status_of s m
  status_here_lem c m e = ap (λ (x : State). status_of x m) (replaced_same a b s c e)

  pub status_away : (c m : ℕ) → c ≢ b → status_at a' c m ≡ status_at a c m
  status_away c m n = ap (λ (x : State). status_of x m) (replaced_other a b s c n)

  -- whatever they are now: at most all that this processor has to do is left anew
  pub left_any : left_here p a' ≤ left_here p a + work_of p b
  unfolding work_of
  left_any =
      let x = sum_most (λ t. full p t - prog_here p a' t) (λ t. (full p t - prog_here p a t) + pick (eqb (p.processor_of t) b) (full p t) 0) p.tiles
      (λ t h. tile t (ℕ_discrete (p.processor_of t) b)) in
      let x₁ = sum_add (λ t. full p t - prog_here p a t) (λ t. pick (eqb (p.processor_of t) b) (full p t) 0) p.tiles in
      let x₂ = program_length p b p.tiles in
      let y = sum_most (λ m. pending (status_here p a' m)) (λ m. pending (status_here p a m) + one (eqb (sender_at p m) b)) (count p)
      (λ m h. mark m (ℕ_discrete (sender_at p m) b)) in
      let y₁ = sum_add (λ m. pending (status_here p a m)) (λ m. one (eqb (sender_at p m) b)) (count p) in
      let y₂ = kept_sum (λ m. eqb (sender_at p m) b) (count p) in
      let z = sum_most (awaited p a') (λ m. awaited p a m + one (eqb (taker_at p m) b and not (eqb (sender_at p m) (taker_at p m)))) (count p)
      (λ m h. wait m (ℕ_discrete (taker_at p m) b) (ℕ_discrete (sender_at p m) (taker_at p m))) in
      let z₁ = sum_add (awaited p a) (λ m. one (eqb (taker_at p m) b and not (eqb (sender_at p m) (taker_at p m)))) (count p) in
      let z₂ = kept_sum (λ m. eqb (taker_at p m) b and not (eqb (sender_at p m) (taker_at p m))) (count p) in
      omega arith
    where
      tile : (t : ℕ) → Dec (p.processor_of t ≡ b) → full p t - prog_here p a' t ≤ (full p t - prog_here p a t) + pick (eqb (p.processor_of t) b) (full p t) 0
      tile t (yes e) = let x = pick_true _ (full p t) 0 (eq-eqb (p.processor_of t) b e) in omega arith
      tile t (no n) = let x = prog_away t n in omega arith

      mark : (m : ℕ) → Dec (sender_at p m ≡ b) → pending (status_here p a' m) ≤ pending (status_here p a m) + one (eqb (sender_at p m) b)
      mark m (yes e) = let x = one_true (eq-eqb (sender_at p m) b e) in omega (arith, pending_most (status_here p a' m))
      mark m (no n) = let x = ap pending (status_away (sender_at p m) m n) in omega arith

      wait : (m : ℕ) → Dec (taker_at p m ≡ b) → Dec (sender_at p m ≡ taker_at p m)
          → awaited p a' m ≤ awaited p a m + one (eqb (taker_at p m) b and not (eqb (sender_at p m) (taker_at p m)))
      wait m d (yes h) = let x = pick_true _ 0 (pending (status_at a' (taker_at p m) m)) (eq-eqb _ _ h) in omega arith
      wait m (yes e) (no k) =
          let x = pick_false _ 0 (pending (status_at a' (taker_at p m) m)) (ne_eqb _ _ k) in
          let y = one_true (and_true (eq-eqb (taker_at p m) b e) (not-false (ne_eqb _ _ k))) in
          omega (arith, pending_most (status_at a' (taker_at p m) m))
      wait m (no n) (no k) =
          let x = ap (λ (i : ℕ). pick (eqb (sender_at p m) (taker_at p m)) 0 (pending i)) (status_away (taker_at p m) m n) in omega arith

  -- by areas that are no different
  module _ (same : s ≡ a b) where
    each : (c : ℕ) → Dec (c ≡ b) → a' c ≡ a c
    each c (yes e) = replaced_same a b s c e ∙ same ∙ ap a (sym e)
    each c (no n) = replaced_other a b s c n

    pub left_same : left_here p a' ≡ left_here p a
    left_same =
        let x = sum_same (λ t. full p t - prog_here p a' t) (λ t. full p t - prog_here p a t) p.tiles
        (λ t h. ap (λ (z : State). full p t - prog p z t) (each (p.processor_of t) (ℕ_discrete _ b))) in
        let y = sum_same (λ m. pending (status_here p a' m)) (λ m. pending (status_here p a m)) (count p)
        (λ m h. ap (λ (z : State). pending (status_of z m)) (each (sender_at p m) (ℕ_discrete _ b))) in
        let z = sum_same (awaited p a') (awaited p a) (count p)
        (λ m h. ap (λ (z : State). pick (eqb (sender_at p m) (taker_at p m)) 0 (pending (status_of z m))) (each (taker_at p m) (ℕ_discrete _ b))) in
        omega arith

  -- by one deed of one of its tiles
  module _ (t : ℕ) (home : p.processor_of t ≡ b) (st : Step p t (prog p (a b)) (prog p s)) (fits : prog p s t ≤ full p t)
      (same : (m : ℕ) → m < count p → pending (status_of s m) ≡ pending (status_of (a b) m)) where
    step_here : Step p t (prog_here p a) (prog_here p a')
    step_here = record {
      low = st.low;
      others = λ u h n. others u h n (ℕ_discrete (p.processor_of u) b);
      own = prog_here_lem t home ∙ st.own ∙ ap (λ (c : ℕ). suc (prog p (a c) t)) (sym home);
    }
      where
        others : (u : ℕ) → u < p.tiles → u ≢ t → Dec (p.processor_of u ≡ b) → prog_here p a' u ≡ prog_here p a u
        others u h n (yes e) = prog_here_lem u e ∙ st.others u h n ∙ ap (λ (c : ℕ). prog p (a c) u) (sym e)
        others u h n (no k) = prog_away u k

    same_at : (c m : ℕ) → m < count p → Dec (c ≡ b) → pending (status_at a' c m) ≡ pending (status_at a c m)
    same_at c m lo (yes e) = ap pending (status_here_lem c m e) ∙ same m lo ∙ ap (λ (d : ℕ). pending (status_at a d m)) (sym e)
    same_at c m lo (no n) = ap pending (status_away c m n)

    pub left_deed : suc (left_here p a') ≡ left_here p a
    left_deed =
        let x = left_turn p (prog_here p a) (prog_here p a') (status_here p a) (status_here p a') t step_here (rw (prog_here_lem t home) fits)
        (λ m h. same_at (sender_at p m) m h (ℕ_discrete _ b)) in
        let z = sum_same (awaited p a') (awaited p a) (count p)
        (λ m h. ap (λ (k : ℕ). pick (eqb (sender_at p m) (taker_at p m)) 0 k) (same_at (taker_at p m) m h (ℕ_discrete _ b))) in
        omega arith

  -- by the mark of one message
  module _ (m : ℕ) (lo : m < count p) (done : (u : ℕ) → prog p s u ≡ prog p (a b) u) (now : status_of s m ≡ 2)
      (rest : (k : ℕ) → k ≢ m → status_of s k ≡ status_of (a b) k) where
    tiles_same : sum (λ t. full p t - prog_here p a' t) p.tiles ≡ sum (λ t. full p t - prog_here p a t) p.tiles
    tiles_same = sum_same _ _ p.tiles (λ u h. ap (λ (x : ℕ). full p u - x) (go u (ℕ_discrete (p.processor_of u) b)))
      where
        go : (u : ℕ) → Dec (p.processor_of u ≡ b) → prog_here p a' u ≡ prog_here p a u
        go u (yes e) = prog_here_lem u e ∙ done u ∙ ap (λ (c : ℕ). prog p (a c) u) (sym e)
        go u (no n) = prog_away u n

    untouched : (c k : ℕ) → (c ≡ b → k ≢ m) → status_at a' c k ≡ status_at a c k
    untouched c k f = go (ℕ_discrete c b)
      where
        go : Dec (c ≡ b) → status_at a' c k ≡ status_at a c k
        go (yes e) = status_here_lem c k e ∙ rest k (f e) ∙ ap (λ (d : ℕ). status_at a d k) (sym e)
        go (no n) = status_away c k n

    await_same : (k : ℕ) → (sender_at p k ≢ taker_at p k → taker_at p k ≡ b → k ≢ m) → Dec (sender_at p k ≡ taker_at p k) → awaited p a' k ≡ awaited p a k
    await_same k f (yes e) = pick_true _ _ _ (eq-eqb _ _ e) ∙ sym (pick_true _ _ _ (eq-eqb _ _ e))
    await_same k f (no n) = ap (λ (x : ℕ). pick (eqb (sender_at p k) (taker_at p k)) 0 (pending x)) (untouched (taker_at p k) k (f n))

    -- its sender posts it
    pub left_post : sender_at p m ≡ b → status_of (a b) m ≡ 1 → suc (left_here p a') ≡ left_here p a
    left_post own was =
        let x = tiles_same in
        let y = sum_less (λ k. pending (status_here p a k)) (λ k. pending (status_here p a' k)) (count p) m lo
        (λ k h n. ap pending (untouched (sender_at p k) k (λ e. n)))
        (ap (λ (i : ℕ). suc (pending i)) (status_here_lem (sender_at p m) m own ∙ now)
        ∙ sym (ap pending (ap (λ (c : ℕ). status_at a c m) own ∙ was))) in
        let z = sum_same (awaited p a') (awaited p a) (count p)
        (λ k h. await_same k (λ n e q. n (ap (sender_at p) q ∙ own ∙ sym e)) (ℕ_discrete _ _)) in
        omega arith

    -- its taker, another processor, receives it
    pub left_arrival : taker_at p m ≡ b → sender_at p m ≢ taker_at p m → status_of (a b) m ≡ 0 → suc (left_here p a') ≡ left_here p a
    left_arrival own away was =
        let x = tiles_same in
        let y = sum_same (λ k. pending (status_here p a' k)) (λ k. pending (status_here p a k)) (count p)
        (λ k h. ap pending (untouched (sender_at p k) k (λ e q. away (ap (sender_at p) (sym q) ∙ e ∙ sym own)))) in
        let z = sum_less (awaited p a) (awaited p a') (count p) m lo
        (λ k h n. await_same k (λ d e. n) (ℕ_discrete _ _))
        (ap suc (pick_false _ _ _ (ne_eqb _ _ away) ∙ ap pending (status_here_lem (taker_at p m) m own ∙ now))
        ∙ sym (pick_false _ _ _ (ne_eqb _ _ away) ∙ ap pending (ap (λ (c : ℕ). status_at a c m) own ∙ was))) in
        omega arith
