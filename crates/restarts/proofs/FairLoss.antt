-- A fair run finishes: what is left to do becomes less again and again, until no processor has tiles left.
use Prim.Native.Nat.{ℕ, zero, suc, ◌+◌, ◌-◌, ◌≤◌, ◌<◌}
use mathlib.Core.Path.{◌≡◌, refl, ap, ◌∙◌}
use mathlib.Core.Logic.{◌⊎◌, inl, inr, ◌≢◌}
use mathlib.Core.Bool.{Bool, true, false, true≢false}
use mathlib.Core.List.{List}
use native.Mathlib.Omega.{arith}
use native.Mathlib.Decide.{dec_le, ℕ_discrete}
use Rattle.base.specs.Tests.{some}
use Rattle.base.proofs.Tests.{some_at, none_some}
use Rattle.machine.specs.Plan.{Plan, Sound, count}
use Rattle.machine.specs.Machine.{Answered, tiles_left, turn, collect}
use Rattle.machine.proofs.RunLaws.{number_of, after_of, after_one}
use Rattle.network.specs.Apart.{AreasApart, sender_at, taker_at, collect_apart}
use Rattle.network.specs.Packets.{Network, status_at, NetworkEvent, turn_by, post_of, arrival_of, act_network}
use Rattle.network.proofs.Theorem.{both_are}
use Rattle.network.proofs.Network.{arrive_gives}
use Rattle.restarts.specs.Restarts.{LifeEvent, plain, repost_of, restart_of, repost, act_lives, Finished}
use Rattle.restarts.specs.FairLoss.{Endless, firsts, new_start, Later, Awaited, when, Arrives, Fair, FairLoss, Ends}
use Rattle.restarts.proofs.Measure.{left_here}
use Rattle.restarts.proofs.Lives.{Alive, two_stays, over_stays, repost_gives, repost_zero, lives_stay, run_alive}
use Rattle.restarts.proofs.Ways.{Way, way}
use Rattle.restarts.proofs.Theorem.{turn_number, post_number, number_is, less, by_lives}

module _ (p : Plan) (so : Sound p) (source : List ℕ) (acts : Network → LifeEvent → Answered Network)
    (same : (n : Network) → Alive p source n → (e : LifeEvent) → acts n e ≡ act_lives p source n e) where
  -- ---- an event that is no new start
  module _ (n : Network) (al : Alive p source n) where
    again_areas : (m : ℕ) → (act_lives p source n (repost_of m)).after.areas ≡ n.areas
    unfolding act_lives
    again_areas m = go (ℕ_discrete (repost p n m).number 0)
      where
        go : Dec ((repost p n m).number ≡ 0) → (repost p n m).after.areas ≡ n.areas
        go (yes z) = ap (λ (a : Answered Network). a.after.areas) (repost_zero p so source n al m z)
        go (no k) = ap (λ (x : Network). x.areas) (lives_stay p source n (repost_of m) k)

    -- it leaves less to do, or all areas as they are
    moves : (e : LifeEvent) → new_start e ≡ false
        → (left_here p (acts n e).after.areas < left_here p n.areas) ⊎ ((acts n e).after.areas ≡ n.areas)
    unfolding new_start
    moves (plain e) z = go (ℕ_discrete (acts n (plain e)).number 0)
      where
        go : Dec ((acts n (plain e)).number ≡ 0)
            → (left_here p (acts n (plain e)).after.areas < left_here p n.areas) ⊎ ((acts n (plain e)).after.areas ≡ n.areas)
        go (yes q) = inl (omega (arith, less p so source acts same n al e q))
        go (no q) =
            inr (ap (λ (x : Network). x.areas) (after_of (same n al (plain e))
            ∙ lives_stay p source n (plain e) (λ y. q (number_of (same n al (plain e)) ∙ y))))
    moves (repost_of m) z = inr (ap (λ (x : Network). x.areas) (after_of (same n al (repost_of m))) ∙ again_areas m)
    moves (restart_of b) z = absurd (true≢false z)

    -- and what was posted or received stays so
    two_next : (c m : ℕ) → m < count p → (e : LifeEvent) → new_start e ≡ false → 2 ≤ status_at n.areas c m → 2 ≤ status_at (acts n e).after.areas c m
    unfolding new_start act_lives
    two_next c m lo (plain e) z two = rw (same n al (plain e)) (two_stays p so source n al c m lo two e)
    two_next c m lo (repost_of k) z two = rw (same n al (repost_of k), again_areas k) two
    two_next c m lo (restart_of b) z two = absurd (true≢false z)

    -- who has no tiles left has none then
    over_next : (b : ℕ) (e : LifeEvent) → new_start e ≡ false → tiles_left p (n.areas b) b ≡ false → tiles_left p ((acts n e).after.areas b) b ≡ false
    unfolding new_start act_lives
    over_next b (plain e) z o = rw (same n al (plain e)) (over_stays p source n b o e)
    over_next b (repost_of k) z o = rw (same n al (repost_of k), again_areas k) o
    over_next b (restart_of c) z o = absurd (true≢false z)

  module _ (start : Network) (begins : Alive p source start) (es : Endless) where
    abbrev at : ℕ → Network
    at k = when acts start es k

    alive_at : (k : ℕ) → Alive p source (at k)
    alive_at k = run_alive p so source acts same (firsts es k) start begins

    at_next : (k : ℕ) → at (suc k) ≡ (acts (at k) (es k)).after
    unfolding firsts
    at_next k = after_one acts start (firsts es k) (es k)

    abbrev left_at : ℕ → ℕ
    left_at k = left_here p (at k).areas

    -- less is left at time k than at time n, or nothing was done in between
    Fell : ℕ → ℕ → Type 0
    Fell n k = (left_at k < left_at n) ⊎ ((at k).areas ≡ (at n).areas)

    fell_one : (k : ℕ) → new_start (es k) ≡ false → Fell k (suc k)
    unfolding Fell
    fell_one k z = rw (at_next k) (moves (at k) (alive_at k) (es k) z)

    fell_both : (i j k : ℕ) → Fell i j → Fell j k → Fell i k
    unfolding Fell
    fell_both i j k (inl x) (inl y) = inl (omega arith)
    fell_both i j k (inl x) (inr y) = inl (let z = ap (left_here p) y in omega arith)
    fell_both i j k (inr x) (inl y) = inl (let z = ap (left_here p) x in omega arith)
    fell_both i j k (inr x) (inr y) = inr (y ∙ x)

    module _ (calm : ℕ) (no_start : (k : ℕ) → calm ≤ k → new_start (es k) ≡ false) where
      fell_in : (d n : ℕ) → calm ≤ n → Fell n (n + d)
      unfolding Fell
      fell_in zero n h = inr (let e : n + 0 ≡ n = omega arith in ap (λ (i : ℕ). (at i).areas) e)
      fell_in (suc d) n h =
          let e : n + suc d ≡ suc (n + d) = omega arith in
          rw e (fell_both n (n + d) (suc (n + d)) (fell_in d n h) (fell_one (n + d) (no_start (n + d) (omega arith))))

      fell : (n k : ℕ) → calm ≤ n → n ≤ k → Fell n k
      fell n k h l = let e : n + (k - n) ≡ k = omega arith in rw e at (fell_in (k - n) n h)

      two_in : (d n c m : ℕ) → calm ≤ n → m < count p → 2 ≤ status_at (at n).areas c m → 2 ≤ status_at (at (n + d)).areas c m
      two_in zero n c m h lo q = let e : n + 0 ≡ n = omega arith in rw e q
      two_in (suc d) n c m h lo q =
          let e : n + suc d ≡ suc (n + d) = omega arith in
          rw (e, at_next (n + d))
          (two_next (at (n + d)) (alive_at (n + d)) c m lo (es (n + d)) (no_start (n + d) (omega arith)) (two_in d n c m h lo q))

      two_later : (n k c m : ℕ) → calm ≤ n → n ≤ k → m < count p → 2 ≤ status_at (at n).areas c m → 2 ≤ status_at (at k).areas c m
      two_later n k c m h l lo q = let e : n + (k - n) ≡ k = omega arith in rw e at (two_in (k - n) n c m h lo q)

      over_in : (d n b : ℕ) → calm ≤ n → tiles_left p ((at n).areas b) b ≡ false → tiles_left p ((at (n + d)).areas b) b ≡ false
      over_in zero n b h o = let e : n + 0 ≡ n = omega arith in rw e o
      over_in (suc d) n b h o =
          let e : n + suc d ≡ suc (n + d) = omega arith in
          rw (e, at_next (n + d)) (over_next (at (n + d)) (alive_at (n + d)) b (es (n + d)) (no_start (n + d) (omega arith)) (over_in d n b h o))

      over_later : (n k b : ℕ) → calm ≤ n → n ≤ k → tiles_left p ((at n).areas b) b ≡ false → tiles_left p ((at k).areas b) b ≡ false
      over_later n k b h l o = let e : n + (k - n) ≡ k = omega arith in rw e at (over_in (k - n) n b h o)

    -- ---- nothing is put off for ever
    module _ (fair : Fair acts start es p) where
      Falls : ℕ → Type 0
      Falls n = Later n (λ k. left_at k < left_at n)

      falls_by : (n k : ℕ) → n ≤ k → (at k).areas ≡ (at n).areas → (e : NetworkEvent) → es k ≡ plain e → (acts (at k) (plain e)).number ≡ 0 → Falls n
      unfolding Falls
      falls_by n k h x e i z =
          let w : at (suc k) ≡ (acts (at k) (plain e)).after = at_next k ∙ ap (λ (y : LifeEvent). (acts (at k) y).after) i in
          let u = ap (λ (y : Network). left_here p y.areas) w in
          let v = ap (left_here p) x in
          let y = less p so source acts same (at k) (alive_at k) e z in
          (suc k, omega arith, omega arith)

      -- what could be done at time n is done later, or something else was before
      by_turn : (n c : ℕ) → c < p.processors → tiles_left p ((at n).areas c) c ≡ true → (turn p source ((at n).areas c) c).number ≡ 0
          → (k : ℕ) → n ≤ k → (tiles_left p ((at k).areas c) c ≡ true → es k ≡ plain (turn_by c)) → Fell n k → Falls n
      unfolding Fell Falls
      by_turn n c lo l z k h f (inl x) = (k, h, x)
      by_turn n c lo l z k h f (inr x) =
          falls_by n k h x (turn_by c) (f (ap (λ (a : AreasApart). tiles_left p (a c) c) x ∙ l))
          (number_is p so source acts same (at k) (alive_at k) (plain (turn_by c)) ∙ turn_number p so source (at k) (alive_at k) c lo
          ∙ ap (λ (a : AreasApart). (turn p source (a c) c).number) x ∙ z)

      by_post : (n m : ℕ) → m < count p → status_at (at n).areas (sender_at p m) m ≡ 1
          → (k : ℕ) → n ≤ k → (status_at (at k).areas (sender_at p m) m ≡ 1 → es k ≡ plain (post_of m)) → Fell n k → Falls n
      unfolding Fell Falls
      by_post n m lo y k h f (inl x) = (k, h, x)
      by_post n m lo y k h f (inr x) =
          let w : status_at (at k).areas (sender_at p m) m ≡ 1 = ap (λ (a : AreasApart). status_at a (sender_at p m) m) x ∙ y in
          falls_by n k h x (post_of m) (f w)
          (number_is p so source acts same (at k) (alive_at k) (plain (post_of m)) ∙ post_number p so source (at k) (alive_at k) m lo w)

      arrival_number : (k m : ℕ) (a : Arrives acts start es m k) → status_at (at k).areas (taker_at p m) m ≡ 0
          → (acts (at k) (plain (arrival_of a.packet))).number ≡ 0
      unfolding act_lives act_network
      arrival_number k m a none =
          number_is p so source acts same (at k) (alive_at k) (plain (arrival_of a.packet))
          ∙ arrive_gives p (at k) a.packet a.low (ap (λ (i : ℕ). status_at (at k).areas (taker_at p i) i) a.is ∙ none)

      by_arrival : (n m : ℕ) → 2 ≤ status_at (at n).areas (sender_at p m) m → status_at (at n).areas (taker_at p m) m ≡ 0
          → (k : ℕ) → n ≤ k → (Awaited p (at k) m → Arrives acts start es m k) → Fell n k → Falls n
      unfolding Fell Falls
      by_arrival n m two none k h f (inl x) = (k, h, x)
      by_arrival n m two none k h f (inr x) =
          let u : status_at (at k).areas (sender_at p m) m ≡ status_at (at n).areas (sender_at p m) m = ap (λ (a : AreasApart). status_at a (sender_at p m) m) x in
          let w : status_at (at k).areas (taker_at p m) m ≡ 0 = ap (λ (a : AreasApart). status_at a (taker_at p m) m) x ∙ none in
          let a : Arrives acts start es m k = f (omega arith, w) in
          falls_by n k h x (arrival_of a.packet) a.event (arrival_number k m a w)

      falls : (n : ℕ) → fair.tries.calm ≤ n → Way p source (at n).areas → Falls n
      falls n h (Way.turns c lo l z) =
          let r = fair.tries.turns c n lo in by_turn n c lo l z r.0 r.1 r.2 (fell fair.tries.calm fair.tries.no_start n r.0 h r.1)
      falls n h (Way.posts m lo y) =
          let r = fair.tries.posts m n lo in by_post n m lo y r.0 r.1 r.2 (fell fair.tries.calm fair.tries.no_start n r.0 h r.1)
      falls n h (Way.waits m lo away two none) =
          let r = fair.arrivals m n lo in by_arrival n m two none r.0 r.1 r.2 (fell fair.tries.calm fair.tries.no_start n r.0 h r.1)

      Finishes : Type 0
      Finishes = (k : ℕ) × (fair.tries.calm ≤ k) × Finished p (at k).areas

      finishes : (f n : ℕ) → fair.tries.calm ≤ n → left_at n ≤ f → Finishes
      unfolding Finishes Falls
      finishes zero n h l = go (some (λ b. tiles_left p ((at n).areas b) b) p.processors) refl
        where
          go : (t : Bool) → some (λ b. tiles_left p ((at n).areas b) b) p.processors ≡ t → Finishes
          go false e = (n, h, none_some (λ b. tiles_left p ((at n).areas b) b) p.processors e)
          go true e =
              let r = some_at (λ b. tiles_left p ((at n).areas b) b) p.processors e in
              let x = falls n h (way p so source (at n).areas (alive_at n).each r.0 r.1 r.2) in
              absurd (omega (arith, x.2))
      finishes (suc f) n h l = go (some (λ b. tiles_left p ((at n).areas b) b) p.processors) refl (finishes f)
        where
          go : (t : Bool) → some (λ b. tiles_left p ((at n).areas b) b) p.processors ≡ t
              → ((k : ℕ) → fair.tries.calm ≤ k → left_at k ≤ f → Finishes) → Finishes
          go false e ih = (n, h, none_some (λ b. tiles_left p ((at n).areas b) b) p.processors e)
          go true e ih =
              let r = some_at (λ b. tiles_left p ((at n).areas b) b) p.processors e in
              let x = falls n h (way p so source (at n).areas (alive_at n).each r.0 r.1 r.2) in
              ih x.0 (omega (arith, x.1)) (omega (arith, x.2))

      pub fair_ends : Ends acts start es p source
      unfolding Finishes
      fair_ends =
          let r : Finishes = finishes (left_at fair.tries.calm) fair.tries.calm (omega arith) (omega arith) in
          record {
            at = r.0;
            finished = λ k h. over r k h;
            grid = λ k h old.
                let by = by_lives p so source acts same start begins (firsts es k) (collect p) (λ s sh grid len. refl) in
                let z = by.can_collect (over r k h) old in
                both_are (collect_apart p (at k).areas old) z (by.grid old z);
          }
        where
          over : (r : Finishes) (k : ℕ) → r.0 ≤ k → Finished p (at k).areas
          over r k h b low = over_later fair.tries.calm fair.tries.no_start r.0 k b r.1 h (r.2 b low)

    -- ---- what is posted again and again is not all lost
    module _ (fl : FairLoss acts start es p) where
      again_gives : (n m : ℕ) → fl.tries.calm ≤ n → m < count p → 2 ≤ status_at (at n).areas (sender_at p m) m → (k : ℕ) → n ≤ k
          → (acts (at k) (repost_of m)).number ≡ 0
      unfolding act_lives
      again_gives n m h lo two k l =
          number_is p so source acts same (at k) (alive_at k) (repost_of m)
          ∙ repost_gives p so source (at k) (alive_at k) m lo (two_later fl.tries.calm fl.tries.no_start n k (sender_at p m) m h l lo two)

      again : (n m : ℕ) → fl.tries.calm ≤ n → m < count p → sender_at p m ≢ taker_at p m → 2 ≤ status_at (at n).areas (sender_at p m) m
          → (i : ℕ) → Later i (λ k. (es k ≡ repost_of m) × ((acts (at k) (repost_of m)).number ≡ 0))
      again n m h lo away two i =
          let r = fl.asked m (i + n) lo away in
          (r.0, omega (arith, r.1), (r.2, again_gives n m h lo two r.0 (omega (arith, r.1))))

      comes : (m n : ℕ) → m < count p → Later n (λ k. Awaited p (at k) m → Arrives acts start es m k)
      comes m n lo = go (ℕ_discrete (sender_at p m) (taker_at p m)) (dec_le 2 (status_at (at (n + fl.tries.calm)).areas (sender_at p m) m))
        where
          go : Dec (sender_at p m ≡ taker_at p m) → Dec (2 ≤ status_at (at (n + fl.tries.calm)).areas (sender_at p m) m)
              → Later n (λ k. Awaited p (at k) m → Arrives acts start es m k)
          go (yes e) d =
              (n, omega arith, λ aw. let x = ap (λ (c : ℕ). status_at (at n).areas c m) e in absurd (omega (arith, aw.0, aw.1)))
          go (no q) (no k) = (n + fl.tries.calm, omega arith, λ aw. absurd (k aw.0))
          go (no q) (yes two) =
              let r = fl.not_all_lost m lo q (again (n + fl.tries.calm) m (omega arith) lo q two) n in
              (r.0, r.1, λ aw. r.2)

      pub loss_fair : Fair acts start es p
      loss_fair = record { tries = fl.tries; arrivals = comes }
