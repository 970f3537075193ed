-- What a round's events do to the lent areas, tile by tile, is what specs/ByState says; so the driver's rounds are such changes.
use Prim.Native.Nat.{ℕ, zero, suc, ◌+◌, ◌*◌, ◌≤◌, ◌<◌}
use mathlib.Core.Path.{◌≡◌, refl, sym, ap, ◌∙◌}
use mathlib.Core.Bool.{Bool, true, false}
use mathlib.Core.List.{List, [], ◌∷◌, map}
use native.Mathlib.Omega.{arith}
use native.Mathlib.Decide.{dec_lt}
use lib.ListN.{length, get_or, set, replicate}
use lib.Dec.{ltb, eqb}
use borrow.Author.Tests.{eq-eqb, ltb-true, ltb-false, lt-ltb}
use Rattle.base.specs.Tests.{pick, keep, some}
use Rattle.base.specs.Lists.{set_all}
use Rattle.base.proofs.Tests.{both, and_true, same_test, is_true, pick_true, never_both}
use Rattle.base.proofs.Lists.{all_at_in, all_at_out}
use Rattle.base.proofs.Select.{at_is}
use Rattle.machine.specs.Plan.{Plan, Sound, count, sender_of, tiles_of, sends_of, dues_of}
use Rattle.machine.specs.Machine.{State, state_of, finished_of, stage_of, sent_of, set_progress, tiles_left, current_tile, Action, gather, calculate, send}
use Rattle.machine.specs.Machine.{after_sends, carry_out, next_action, deliver, fresh}
use Rattle.machine.specs.Runs.{Event, turn_of, delivery_of, act, state_after}
use Rattle.machine.proofs.Records.{record_length, finished_same, stage_same, sent_same}
use Rattle.machine.proofs.Turns.{next_zero, next_one, next_two, by_next}
use Rattle.machine.proofs.Kept.{Inv}
use Rattle.machine.proofs.RunLaws.{after_append}
use Rattle.rounds.specs.Rounds.{could_gather, whole_tile, tiles_by, mail_in, round_by, round_from, rounds_from, rounds, after_rounds}
use Rattle.rounds.specs.ByState.{sent_to, calculated_tile, tile_done, may_gather, after_tile, after_tiles, delivered, with_mail, after_round, PlanAreas, Sending}
use Rattle.rounds.proofs.WholeTile.{Clean, whole}
use Rattle.rounds.proofs.OneRound.{Still, Ready, could_ready, ready_could, Mid, tiles_run}
use Rattle.rounds.proofs.AsItGoes.{tiles_as_it_goes, as_it_goes}
use Rattle.rounds.proofs.Mail.{mail_all}
use Rattle.rounds.proofs.Theorem.{at, next_state, left_before, none_after}

-- k deeds of processor b, each the one that its record says is next
unfoldable carried : Plan → List ℕ → ℕ → ℕ → State → State
carried p source b zero s = s
carried p source b (suc k) s = carried p source b k (carry_out p source s b (next_action p s b))

module _ (p : Plan) (source : List ℕ) (b : ℕ) where
  clean_carried : (k : ℕ) (s : State) → Clean (act p source) s (replicate k (turn_of b))
      → state_after (act p source) s (replicate k (turn_of b)) ≡ carried p source b k s
  unfolding state_after act carried
  clean_carried zero s c = refl
  clean_carried (suc k) s c =
      ap (λ (x : State). state_after (act p source) x (replicate k (turn_of b))) (by_next p source s b c.0)
      ∙ clean_carried k (carry_out p source s b (next_action p s b)) (rw (by_next p source s b c.0) at c.1)

  -- ---- tile t of it, from the state s on
  module _ (low : b < p.processors) (t f : ℕ) (here : get_or (tiles_of p b) f 0 ≡ t) where
    after_sends_lem : (x : State) (j : ℕ) (ms bs st : List ℕ) → length x.progress ≡ 3 * p.processors → finished_of x b ≡ f
        → Sending p b t f j (state_of ms bs (after_sends p x b t j) st)
    unfolding after_sends pick
    after_sends_lem x j ms bs st len e = go (ltb j (length (sends_of p t))) refl
      where
        go : (more : Bool) → ltb j (length (sends_of p t)) ≡ more
            → Sending p b t f j (state_of ms bs (pick more (set_progress x.progress b (finished_of x b) 2 j)
            (set_progress x.progress b (finished_of x b + 1) 0 0)) st)
        go true q =
            record {
              long = record_length x.progress b (finished_of x b) 2 j ∙ len;
              finished = λ h. finished_same x.progress b p.processors len low (finished_of x b) 2 j ∙ e;
              stage = λ h. stage_same x.progress b p.processors len low (finished_of x b) 2 j;
              sent = λ h. sent_same x.progress b p.processors len low (finished_of x b) 2 j;
            }
        go false q =
            record {
              long = record_length x.progress b (finished_of x b + 1) 0 0 ∙ len;
              finished = λ h. absurd (omega (arith, ltb-false j (length (sends_of p t)) q));
              stage = λ h. absurd (omega (arith, ltb-false j (length (sends_of p t)) q));
              sent = λ h. absurd (omega (arith, ltb-false j (length (sends_of p t)) q));
            }

    -- the j-th send
    next_send : (j : ℕ) (x : State) → j < length (sends_of p t) → Sending p b t f j x → next_action p x b ≡ send (get_or (sends_of p t) j 0)
    next_send j x h d =
        next_two p (stage_of x b) (current_tile p x b) (sent_of x b) (rw (d.stage h) (omega arith))
        ∙ rw (d.finished h, d.sent h, here) refl

    pub one_sent : (j : ℕ) (x : State) → j < length (sends_of p t) → Sending p b t f j x → Sending p b t f (suc j)
        (carry_out p [] x b (send (get_or (sends_of p t) j 0)))
    unfolding carry_out
    one_sent j x h d =
        let e : sender_of p (get_or (sends_of p t) j 0) ≡ t = at_is (sender_of p) t (count p) j h in
        let k : sent_of x b + 1 ≡ suc j = rw (d.sent h) (omega arith) in
        rw (e, k) (after_sends_lem x (suc j) _ _ _ d.long (d.finished h))

    pub sending : (j : ℕ) (x : State) → j ≤ length (sends_of p t) → Sending p b t f 0 x → Sending p b t f j (sent_to p x b t j)
    unfolding sent_to
    sending zero x h d = d
    sending (suc j) x h d = one_sent j (sent_to p x b t j) (omega arith) (sending j x (omega arith) d)

    rest_sent : (k j : ℕ) (x : State) → j + k ≡ length (sends_of p t) → Sending p b t f 0 x
        → carried p source b k (sent_to p x b t j) ≡ sent_to p x b t (length (sends_of p t))
    unfolding carried sent_to carry_out
    rest_sent zero j x e d = let q : j ≡ length (sends_of p t) = omega arith in rw q refl
    rest_sent (suc k) j x e d =
        ap (λ (a : Action). carried p source b k (carry_out p source (sent_to p x b t j) b a))
        (next_send j (sent_to p x b t j) (omega arith) (sending j x (omega arith) d))
        ∙ rest_sent k (suc j) x (omega arith) d

    pub gathered_one : (s : State) → length s.progress ≡ 3 * p.processors → finished_of s b ≡ f
        → (length (carry_out p [] s b (gather t)).progress ≡ 3 * p.processors)
        × (finished_of (carry_out p [] s b (gather t)) b ≡ f) × (stage_of (carry_out p [] s b (gather t)) b ≡ 1)
    unfolding carry_out
    gathered_one s len e = (
      record_length s.progress b (finished_of s b) 1 0 ∙ len,
      finished_same s.progress b p.processors len low (finished_of s b) 1 0 ∙ e,
      stage_same s.progress b p.processors len low (finished_of s b) 1 0,
    )

    pub calculated_one : (s : State) → length s.progress ≡ 3 * p.processors → finished_of s b ≡ f → Sending p b t f 0 (calculated_tile p source s b t)
    unfolding carry_out
    calculated_one s len e =
        let g = gathered_one s len e in after_sends_lem (carry_out p [] s b (gather t)) 0 _ _ _ g.0 g.1

    tile_carried : (s : State) → length s.progress ≡ 3 * p.processors → finished_of s b ≡ f → stage_of s b ≡ 0
        → carried p source b (suc (suc (length (sends_of p t)))) s ≡ tile_done p source s b t
    unfolding carried tile_done sent_to carry_out
    tile_carried s len e z =
        ap (λ (a : Action). carried p source b (suc (length (sends_of p t))) (carry_out p source s b a))
        first
        ∙ ap (λ (a : Action). carried p source b (length (sends_of p t)) (carry_out p source (carry_out p [] s b (gather t)) b a)) second
        ∙ rest_sent (length (sends_of p t)) 0 (calculated_tile p source s b t) (omega arith) (calculated_one s len e)
      where
        first : next_action p s b ≡ gather t
        first = next_zero p (stage_of s b) (current_tile p s b) (sent_of s b) z ∙ ap (λ (i : ℕ). gather (get_or (tiles_of p b) i 0)) e ∙ ap gather here

        second : next_action p (carry_out p [] s b (gather t)) b ≡ calculate t
        second =
            let g = gathered_one s len e in
            next_one p (stage_of (carry_out p [] s b (gather t)) b) (current_tile p (carry_out p [] s b (gather t)) b) (sent_of (carry_out p [] s b (gather t)) b)
            g.2
            ∙ ap (λ (i : ℕ). calculate (get_or (tiles_of p b) i 0)) g.1 ∙ ap calculate here

module _ (p : Plan) (so : Sound p) (source : List ℕ) where
  -- ---- a whole tile
  tile_is : (s : State) (b : ℕ) → Still p so source s → b < p.processors → Ready p so source s b
      → state_after (act p source) s (whole_tile (act p source) p s b) ≡ tile_done p source s b (current_tile p s b)
  tile_is s b still low ready =
      let t = current_tile p s b in
      let n = length (sends_of p t) in
      let c = (whole p so source b low s t n still.inv ready.more (still.stage b low) ready.mail refl refl).0 in
      let e : 2 + n ≡ suc (suc n) = omega arith in
      clean_carried p source b (2 + n) s c
      ∙ ap (λ (k : ℕ). carried p source b k s) e
      ∙ tile_carried p source b low t (finished_of s b) refl s still.inv.shape.progress refl (still.stage b low)

  could_is : (s : State) (b : ℕ) → Still p so source s → b < p.processors → could_gather (act p source) p s b ≡ may_gather p s b
  unfolding may_gather tiles_left
  could_is s b still low =
      same_test
      (λ e. let r = could_ready p so source s b e in
      and_true (lt-ltb (finished_of s b) (length (tiles_of p b)) r.more)
      (is_true (λ q. let o = all_at_out s.status 2 (dues_of p (current_tile p s b)) q in o.2 (r.mail o.0 o.1))))
      (λ e. ready_could p so source s still b low (record {
        more = ltb-true _ _ (both e).0;
        mail = all_at_in s.status 2 (dues_of p (current_tile p s b))
            (both e).1;
      }))

  one_tile : (s : State) (b : ℕ) → Still p so source s → b < p.processors
      → state_after (act p source) s (pick (could_gather (act p source) p s b) (whole_tile (act p source) p s b) []) ≡ after_tile p source s b
  unfolding after_tile pick state_after
  one_tile s b still low = rw (sym (could_is s b still low)) (go (could_gather (act p source) p s b) refl)
    where
      go : (t : Bool) → could_gather (act p source) p s b ≡ t
          → state_after (act p source) s (pick t (whole_tile (act p source) p s b) []) ≡ pick t (tile_done p source s b (current_tile p s b)) s
      go true e = tile_is s b still low (could_ready p so source s b e)
      go false e = refl

  module _ (s : State) (start : Still p so source s) where
    mid : (n : ℕ) → n ≤ p.processors
        → Mid p so source (could_gather (act p source) p s) s (state_after (act p source) s (tiles_as_it_goes (act p source) p s n)) n
    mid n h = rw (as_it_goes p so source s start n h) (tiles_run p so source (could_gather (act p source) p s) s start (λ c e. e) n h).1

    tiles_are : (n : ℕ) → n ≤ p.processors → state_after (act p source) s (tiles_as_it_goes (act p source) p s n) ≡ after_tiles p source s n
    unfolding tiles_as_it_goes after_tiles state_after
    tiles_are zero h = refl
    tiles_are (suc n) h =
        after_append (act p source) s (tiles_as_it_goes (act p source) p s n)
        (pick (could_gather (act p source) p (state_after (act p source) s (tiles_as_it_goes (act p source) p s n)) n)
        (whole_tile (act p source) p (state_after (act p source) s (tiles_as_it_goes (act p source) p s n)) n) [])
        ∙ one_tile (state_after (act p source) s (tiles_as_it_goes (act p source) p s n)) n (mid n (omega arith)).still (omega arith)
        ∙ ap (λ (x : State). after_tile p source x n) (tiles_are n (omega arith))

  -- ---- the mail
  delivered_one : (s : State) (m : ℕ) → (deliver p s m).number ≡ 0 → (deliver p s m).after ≡ state_of s.memories s.buffer s.progress (set s.status m 2)
  unfolding deliver
  delivered_one s m e = pick_true _ _ _ (eq-eqb _ 0 e)

  mail_is : (ms : List ℕ) (s : State) → Clean (act p source) s (map delivery_of ms)
      → state_after (act p source) s (map delivery_of ms) ≡ state_of s.memories s.buffer s.progress (set_all s.status ms 2)
  unfolding state_after act set_all
  mail_is [] s c = refl
  mail_is (m ∷ ms) s c =
      ap (λ (x : State). state_after (act p source) x (map delivery_of ms)) (delivered_one s m c.0)
      ∙ mail_is ms (state_of s.memories s.buffer s.progress (set s.status m 2)) (rw (delivered_one s m c.0) at c.1)

  all_mail : (s : State) → Inv p source s → state_after (act p source) s (mail_in (act p source) p s) ≡ with_mail s
  unfolding mail_in delivered
  all_mail s inv =
      mail_is (keep (λ m. eqb (get_or s.status m 0) 1) (count p)) s (mail_all p so source s inv).0
      ∙ ap (λ (k : ℕ). state_of s.memories s.buffer s.progress (set_all s.status (keep (λ m. eqb (get_or s.status m 0) 1) k) 2))
      (sym inv.shape.status)

  -- ---- a round
  round_is : (s : State) → Still p so source s → state_after (act p source) s (round_from (act p source) p s) ≡ after_round p source s
  unfolding round_by after_round
  round_is s start =
      after_append (act p source) s turns (mail_in (act p source) p (state_after (act p source) s turns))
      ∙ all_mail (state_after (act p source) s turns) (tiles_run p so source (could_gather (act p source) p s) s start (λ c e. e) p.processors
      (omega arith)).1.still.inv
      ∙ ap with_mail (ap (state_after (act p source) s) (sym (as_it_goes p so source s start p.processors (omega arith))) ∙ tiles_are s start
      p.processors (omega arith))
    where
      turns : List Event
      turns = tiles_by (act p source) p (could_gather (act p source) p s) s p.processors

  -- ---- the driver's rounds
  pub next_round : (r : ℕ) → after_rounds p source (suc r) ≡ after_round p source (after_rounds p source r)
  next_round r = next_state p so source r ∙ round_is (after_rounds p source r) (at p so source r).late.still

  pub no_round : after_rounds p source 0 ≡ fresh p
  unfolding rounds_from state_after
  no_round = refl

  pub lent_then : (r : ℕ) → PlanAreas p (after_rounds p source r)
  lent_then r =
      let sh = (at p so source r).late.still.inv.shape in
      record { memories = sh.memories; buffer = sh.buffer; progress = sh.progress; status = sh.status }

  pub left_then : (r : ℕ) → some (tiles_left p (after_rounds p source r)) p.processors ≡ true → r < rounds p
  left_then r e = go (dec_lt r (rounds p))
    where
      go : Dec (r < rounds p) → r < rounds p
      go (yes q) = q
      go (no q) = absurd (never_both e (none_after p so source r (omega arith)))

  pub over_then : (r : ℕ) → some (tiles_left p (after_rounds p source r)) p.processors ≡ false → rounds p ≤ r
  over_then r e = go (dec_lt r (rounds p))
    where
      go : Dec (r < rounds p) → rounds p ≤ r
      go (yes q) = absurd (never_both (left_before p so source r q) e)
      go (no q) = omega arith
