-- Each call for one processor by the line that counts.
use Rattle.std.specs.Prelude.{◌≡◌, ℕ, zero, suc, ◌+◌, ◌-◌, ◌*◌, ◌<◌, ◌≤◌, Bool, true, false, eqb, ltb, ◌≢◌, List, [], ◌∷◌, ◌++◌, length, get_or, take, drop, set, replicate, Ok, Err}
use mathlib.Core.Path.{refl, sym, ap, ◌∙◌}
use mathlib.Core.Logic.{inl, inr}
use native.Mathlib.Omega.{arith}
use native.Mathlib.Decide.{dec_lt}
use native.Mathlib.Numerals.{add-one}
use lib.ListN.{replicate-append-replicate}
use borrow.Author.Tests.{eqb-true, eq-eqb, ne_eqb, lt-ltb, le-ltb, ltb-true}
use Rattle.base.specs.Tests.{not}
use Rattle.base.specs.Lists.{In, put, pack}
use Rattle.base.specs.declared.refusal.Refusal.{Refusal}
use Rattle.base.specs.Numbers.{Line, line, first_of}
use Rattle.base.specs.Refusals.{code}
use Rattle.base.proofs.Codes.{code_some}
use Rattle.base.proofs.Tests.{both, never_both, and_true, and_false, and_no, or_right, not-true, not-false, true_not, pick_true, pick_false}
use Rattle.base.proofs.Numbers.{first_true, first_false, none_first, first_some}
use Rattle.base.proofs.Select.{keep_more, keep_none, keep_lt}
use Rattle.machine.specs.Plan.{Plan, count, held_by, offset, words}
use Rattle.machine.specs.Machine.{State, state_of, finished_of, stage_of, sent_of, place_of, fit, Answered, answered, deliver_lines, fresh}
use Rattle.machine.proofs.Values.{offset_apart}
use Rattle.layout.specs.declared.Layout.{Layout}
use Rattle.layout.specs.Laid.{plan_of_layout}
use Rattle.engine.specs.Calls.{answer, recipe}
use Rattle.engine.specs.Given.{zeros_after}
use Rattle.engine.proofs.Lines.{and_right}
use Rattle.engine.proofs.Reading.{zeros_after_no, zeros_after_yes, part_carries}
use Rattle.engine.proofs.Turns.{answered_no, answered_yes}
use Rattle.records.specs.declared.Flat.{Flat}
use Rattle.records.specs.Records.{Flattens}
use Rattle.summary.specs.declared.MessageLine.{MessageLine}
use Rattle.summary.specs.Summary.{line_of}
use Rattle.network.specs.Apart.{taker_at, marked, received}
use Rattle.network.specs.Own.{handles, kept_cells, handled, mail_of}
use Rattle.network.specs.Brought.{taken_by, as_long}
use Rattle.transport.proofs.arrivals.Taking.{long_here}
use Rattle.part.specs.Part.{words_of, rank_of, mail_at, part_fits}
use Rattle.part_calls.specs.front.Calls.{from_part, to_part, lengths_of, no_lengths, lengths_if, part_sizes_call, part_fresh_call, part_post_call, part_arrive_call}
use Rattle.part_calls.specs.declared.AreaLengths.{AreaLengths}
use Rattle.part_calls.specs.front.Calls.{part_rows, part_messages_call, part_collected, part_collect_call}
use Rattle.part_calls.specs.front.Given.{OpensFor, unfit_lines}
use Rattle.part_calls.specs.Given.{fresh_or, post_lines, posted_or, arrive_lines, arrives_or, mark_in, handed_over, MayArrive, arrived_or}
use Rattle.part_calls.specs.Given.{collect_lines, collected_or, rows_or}
use Rattle.part_calls.specs.front.Given.{PartLengths}
use Rattle.part_calls.proofs.front.Part.{words_room}
use Rattle.part_calls.proofs.front.Front.{unfit_none}
use Rattle.part_calls.proofs.front.Answers.{closed, opened}
use Rattle.part_calls.proofs.front.Wide.{fits_are, handled_low, part_zeros, zeros_at, zero_memory, state_is, narrow_is, wide_memory}
use Rattle.part_calls.proofs.front.Wide.{words_back, wide_mail, wide_finished, wide_stage, wide_sent, mark_at, mark_set, words_put, mark_none, three}

-- nothing is told at a refusal
none_told : (n : ℕ) (p : Plan) (b : ℕ) → n ≢ 0 → lengths_if n p b ≡ no_lengths n
unfolding lengths_if
none_told zero p b h = absurd (h refl)
none_told (suc n) p b h = refl

-- ---- past the first lines

module _ (bytes : List ℕ) (route b : ℕ) where
  -- how long the areas are
  pub sizes_read : (r : Refusal) → OpensFor bytes route b (Err r) → no_lengths (code r) ≡ part_sizes_call bytes route b
  unfolding part_sizes_call
  sizes_read r o =
      sym (none_told (code r) (recipe bytes route) b (code_some r)) ∙ ap (λ (n : ℕ). lengths_if n (recipe bytes route) b) o.number

  pub sizes_done : (l : Layout) → OpensFor bytes route b (Ok l) → (new : AreaLengths) → new ≡ lengths_of (plan_of_layout l) b
      → new ≡ part_sizes_call bytes route b
  unfolding part_sizes_call lengths_if
  sizes_done l o new e =
      e ∙ ap (λ (p : Plan). lengths_of p b) o.board.plan ∙ ap (λ (n : ℕ). lengths_if n (recipe bytes route) b) o.number

  module _ (s : State) where
    pub fresh_read : (r : Refusal) → OpensFor bytes route b (Err r) → answer (code r) s ≡ part_fresh_call bytes route s b
    unfolding part_fresh_call
    fresh_read = closed bytes route b (λ p. line 9 (not (part_fits p b s)) ∷ []) (λ p. to_part p b (fresh p)) s

    pub fresh_past : (l : Layout) → OpensFor bytes route b (Ok l) → (a : Answered State) → a ≡ fresh_or (plan_of_layout l) b s
        → a ≡ part_fresh_call bytes route s b
    unfolding part_fresh_call
    fresh_past = opened bytes route b (λ p. line 9 (not (part_fits p b s)) ∷ []) (λ p. to_part p b (fresh p)) s

    module _ (m : ℕ) where
      pub post_read : (r : Refusal) → OpensFor bytes route b (Err r) → answer (code r) s ≡ part_post_call bytes route s b m
      unfolding part_post_call
      post_read = closed bytes route b (λ p. post_lines p b s m) (λ p. to_part p b (marked (from_part p b s) m)) s

      pub post_past : (l : Layout) → OpensFor bytes route b (Ok l) → (a : Answered State) → a ≡ posted_or (plan_of_layout l) b s m
          → a ≡ part_post_call bytes route s b m
      unfolding part_post_call
      post_past = opened bytes route b (λ p. post_lines p b s m) (λ p. to_part p b (marked (from_part p b s) m)) s

      module _ (ws : List ℕ) where
        pub arrive_read : (r : Refusal) → OpensFor bytes route b (Err r) → answer (code r) s ≡ part_arrive_call bytes route s b m ws
        unfolding part_arrive_call
        arrive_read = closed bytes route b (λ p. arrive_lines p b s m ws) (λ p. to_part p b (received p (from_part p b s) m ws)) s

        pub arrive_past : (l : Layout) → OpensFor bytes route b (Ok l) → (a : Answered State) → a ≡ arrives_or (plan_of_layout l) b s m ws
            → a ≡ part_arrive_call bytes route s b m ws
        unfolding part_arrive_call
        arrive_past = opened bytes route b (λ p. arrive_lines p b s m ws) (λ p. to_part p b (received p (from_part p b s) m ws)) s

-- ---- answers of the same number, and of the same words where that is 0

answered_same : {A : Type 0} (n k : ℕ) (x y old : A) → n ≡ k → (n ≡ 0 → x ≡ y) → answered n x old ≡ answered k y old
answered_same {A} n k x y old e h = go (eqb n 0) refl
  where
    go : (t : Bool) → eqb n 0 ≡ t → answered n x old ≡ answered k y old
    go true q =
        ap (λ (z : A). answered n z old) (h (eqb-true n 0 q)) ∙ ap (λ (i : ℕ). answered i y old) e
    go false q =
        let f : n ≢ 0 = λ z. never_both (eq-eqb n 0 z) q in
        sym (answered_no n x old f) ∙ answered_no n y old f ∙ ap (λ (i : ℕ). answered i y old) e

refuse : {A : Type 0} (n k : ℕ) (x old : A) → n ≢ 0 → n ≡ k → answer n old ≡ answered k x old
refuse n k x old h e = answered_no n x old h ∙ ap (λ (i : ℕ). answered i x old) e

-- ---- a fresh start

pack_zeros : (n : ℕ) (cs : List ℕ) → pack (replicate n 0) cs ≡ replicate (length cs) 0
unfolding pack
pack_zeros n [] = refl
pack_zeros n (c ∷ cs) = rw (zeros_at n c, pack_zeros n cs)

mail_zeros : (p : Plan) (ms : List ℕ) → ((m : ℕ) → In m ms → m < count p) → mail_of p (replicate (words p) 0) ms ≡ replicate (words_of p ms) 0
unfolding mail_of words_of
mail_zeros p [] low = refl
mail_zeros p (m ∷ ms) low =
    let lo = low m (inl refl) in
    let a : place_of p (replicate (words p) 0) m ≡ replicate (length (held_by p m)) 0 =
    part_zeros (words p) (offset p.messages m) (length (held_by p m)) (offset_apart p.messages m (count p) lo lo) in
    rw (a, mail_zeros p ms (λ k i. low k (inr i))) (replicate-append-replicate (length (held_by p m)) (words_of p ms) 0)

module _ (p : Plan) (b : ℕ) (low : b < p.processors) (m u l t : List ℕ) (r : Bool) (is : r ≡ part_fits p b (state_of m u l t)) where
  abbrev s : State
  s = state_of m u l t

  pub fresh_nine : r ≡ false → answer 9 (state_of m u (zeros_after l 9) t) ≡ fresh_or p b s
  fresh_nine h =
      ap (λ (k : List ℕ). answer 9 (state_of m u k t)) (sym (zeros_after_no l 9 (λ q. omega arith)))
      ∙ refuse 9 _ (to_part p b (fresh p)) s (λ q. omega arith) (sym (first_true 9 _ [] (not-false (sym is ∙ h))))

  module _ (yes : r ≡ true) where
    g : PartLengths p b s
    g = fits_are p b s (sym is ∙ yes)

    fresh_is : to_part p b (fresh p) ≡ state_of (replicate (length m) 0) (replicate (length u) 0) (replicate (length l) 0) (replicate (length t) 0)
    unfolding fresh
    fresh_is =
        narrow_is p b s low g (fresh p)
        ∙ state_is
        (ap (λ (z : List ℕ). pack z (kept_cells p b)) (zero_memory p b s low g) ∙ pack_zeros p.cells (kept_cells p b)
        ∙ ap (λ (n : ℕ). replicate n 0) (sym g.memory))
        (mail_zeros p (handled p b) (handled_low p b) ∙ ap (λ (n : ℕ). replicate n 0) (sym g.mail))
        (let x = zeros_at (3 * p.processors) (3 * b) in
        let y = zeros_at (3 * p.processors) (3 * b + 1) in
        let z = zeros_at (3 * p.processors) (3 * b + 2) in
        (let w : get_or (replicate (3 * p.processors) 0) (3 * b) 0 ∷ get_or (replicate (3 * p.processors) 0) (3 * b + 1) 0
        ∷ get_or (replicate (3 * p.processors) 0) (3 * b + 2) 0 ∷ [] ≡ replicate 3 0 = cc in w)
        ∙ ap (λ (n : ℕ). replicate n 0) (sym g.progress))
        (pack_zeros (count p) (handled p b) ∙ ap (λ (n : ℕ). replicate n 0) (sym g.marks))

    pub fresh_done : (m' u' t' : List ℕ) → m' ≡ replicate (length m) 0 → u' ≡ replicate (length u) 0 → t' ≡ replicate (length t) 0
        → answer 0 (state_of m' u' (zeros_after l 0) t') ≡ fresh_or p b s
    unfolding first_of
    fresh_done m' u' t' x y z =
        ap (answer 0) (state_is x y (sym (zeros_after_yes l)) z ∙ sym fresh_is)
        ∙ answered_yes _ (to_part p b (fresh p)) s (first_false 9 _ [] (not-true (sym is ∙ yes)))

-- ---- the part of areas whose mail and marks are changed

module _ (p : Plan) (b : ℕ) (s : State) (low : b < p.processors) (g : PartLengths p b s) where
  narrow_changed : (u t : List ℕ) → to_part p b (state_of (from_part p b s).memories u (from_part p b s).progress t)
      ≡ state_of s.memories (mail_of p u (handled p b)) s.progress (pack t (handled p b))
  narrow_changed u t =
      narrow_is p b s low g (state_of (from_part p b s).memories u (from_part p b s).progress t)
      ∙ state_is (ap (λ (z : List ℕ). pack z (kept_cells p b)) (wide_memory p b s low g) ∙ words_back p b s low g) refl
      ((let x = wide_finished p b s low g in let y = wide_stage p b s low g in let z = wide_sent p b s low g in
      let w : finished_of (from_part p b s) b ∷ stage_of (from_part p b s) b ∷ sent_of (from_part p b s) b ∷ [] ≡ finished_of s 0 ∷ stage_of s 0 ∷ sent_of s 0 ∷ [] = cc
      in w)
      ∙ sym (three s.progress g.progress)) refl

  -- the machine's mark is the part's
  mark_is : (m : ℕ) → m < count p → get_or (from_part p b s).status m 0 ≡ mark_in p b s.status m
  mark_is m lo = go (handles p b m) refl
    where
      go : (h : Bool) → handles p b m ≡ h → get_or (from_part p b s).status m 0 ≡ mark_in p b s.status m
      go true e = sym (mark_at p b s low g m lo e) ∙ sym (pick_true _ _ _ e)
      go false e = mark_none p b s low g m e ∙ sym (pick_false _ _ _ e)

  -- a mark that is not 0 is that of a handled message
  handles_marked : (m v : ℕ) → v ≢ 0 → mark_in p b s.status m ≡ v → handles p b m ≡ true
  handles_marked m v n e = go (handles p b m) refl
    where
      go : (h : Bool) → handles p b m ≡ h → handles p b m ≡ true
      go true q = q
      go false q = absurd (n (sym e ∙ pick_false _ _ _ q))

  module _ (m : ℕ) (lo : m < count p) (h : handles p b m ≡ true) where
    posted_is : to_part p b (marked (from_part p b s) m) ≡ state_of s.memories s.buffer s.progress (set s.status (rank_of p b m) 2)
    posted_is =
        narrow_changed (from_part p b s).buffer (set (from_part p b s).status m 2)
        ∙ state_is refl (wide_mail p b s low g) refl (mark_set p b s low g m lo h 2)

    arrived_is : (ws : List ℕ) → length ws ≡ length (held_by p m)
        → to_part p b (received p (from_part p b s) m ws)
        ≡ state_of s.memories (put s.buffer (mail_at p b m) ws) s.progress (set s.status (rank_of p b m) 2)
    arrived_is ws n =
        narrow_changed (put (from_part p b s).buffer (offset p.messages m) ws) (set (from_part p b s).status m 2)
        ∙ state_is refl (words_put p b s low g m lo h ws n) refl (mark_set p b s low g m lo h 2)

-- ---- ranks tell what is handled

module _ (p : Plan) (b m : ℕ) where
  pub same_rank : (at next : ℕ) → at ≡ rank_of p b m → next ≡ rank_of p b (m + 1) → next ≡ at → handles p b m ≡ false
  same_rank at next a n e = go (handles p b m) refl
    where
      go : (h : Bool) → handles p b m ≡ h → handles p b m ≡ false
      go false q = q
      go true q = absurd (omega (arith, e, a, n, ap (rank_of p b) (add-one m), keep_more (handles p b) m q))

  pub other_rank : (at next : ℕ) → at ≡ rank_of p b m → next ≡ rank_of p b (m + 1) → next ≢ at → handles p b m ≡ true
  other_rank at next a n e = go (handles p b m) refl
    where
      go : (h : Bool) → handles p b m ≡ h → handles p b m ≡ true
      go true q = q
      go false q = absurd (e (n ∙ ap (rank_of p b) (add-one m) ∙ ap length (keep_none (handles p b) m q) ∙ sym a))

-- ---- a message handed over, by the part's own marks

module _ (p : Plan) (b : ℕ) (s : State) (m : ℕ) where
  abbrev after : State
  after = state_of s.memories s.buffer s.progress (set s.status (rank_of p b m) 2)

  abbrev over_lines : List Line
  over_lines = line 11 (not (ltb m (count p))) ∷ line 14 (not (eqb (mark_in p b s.status m) 1)) ∷ []

  pub over_beyond : count p ≤ m → answer 11 s ≡ handed_over p b s m
  over_beyond h = refuse 11 _ after s (λ q. omega arith) (sym (first_true 11 _ _ (not-false (le-ltb m (count p) h))))

  module _ (lo : m < count p) where
    behind : first_of over_lines ≡ first_of (line 14 (not (eqb (mark_in p b s.status m) 1)) ∷ [])
    behind = first_false 11 _ _ (not-true (lt-ltb m (count p) lo))

    not_sent : mark_in p b s.status m ≢ 1 → answer 14 s ≡ handed_over p b s m
    not_sent h = refuse 14 _ after s (λ q. omega arith) (sym (behind ∙ first_true 14 _ _ (not-false (ne_eqb _ _ h))))

    pub over_anothers : handles p b m ≡ false → answer 14 s ≡ handed_over p b s m
    over_anothers h = not_sent (λ q. omega (arith, sym (pick_false (handles p b m) (get_or s.status (rank_of p b m) 0) 0 h) ∙ q))

    module _ (h : handles p b m ≡ true) (at : ℕ) (e : at ≡ rank_of p b m) where
      mark : mark_in p b s.status m ≡ get_or s.status at 0
      mark = pick_true (handles p b m) (get_or s.status (rank_of p b m) 0) 0 h ∙ ap (λ (i : ℕ). get_or s.status i 0) (sym e)

      pub over_not : get_or s.status at 0 ≢ 1 → answer 14 s ≡ handed_over p b s m
      over_not k = not_sent (λ q. k (sym mark ∙ q))

      pub over_done : get_or s.status at 0 ≡ 1
          → answer 0 (state_of s.memories s.buffer s.progress (set s.status at 2)) ≡ handed_over p b s m
      unfolding first_of
      over_done k =
          ap (λ (i : ℕ). answer 0 (state_of s.memories s.buffer s.progress (set s.status i 2))) e
          ∙ answered_yes _ after s (behind ∙ first_false 14 (not (eqb (mark_in p b s.status m) 1)) [] (not-true (eq-eqb _ _ (mark ∙ k))))

-- where it stands among the marks
pub mark_low : (p : Plan) (b m at : ℕ) (marks : List ℕ) → length marks ≡ length (handled p b) → m < count p → handles p b m ≡ true → at ≡ rank_of p b m
    → at < length marks
mark_low p b m at marks e lo h q = omega (arith, e, q, keep_lt (handles p b) (count p) m lo h)

-- ---- a message arrives, by the part's own words

module _ (p : Plan) (b : ℕ) (s : State) (m : ℕ) (ws : List ℕ) where
  abbrev came : State
  came = state_of s.memories (put s.buffer (mail_at p b m) ws) s.progress (set s.status (rank_of p b m) 2)

  abbrev coming_lines : List Line
  coming_lines = line 11 (not (taken_by p b m)) ∷ line 14 (not (eqb (mark_in p b s.status m) 0)) ∷ []

  another : taken_by p b m ≡ false → answer 11 s ≡ arrived_or p b s m ws
  another h = refuse 11 _ came s (λ q. omega arith) (sym (first_true 11 _ _ (not-false h)))

  pub come_beyond : count p ≤ m → answer 11 s ≡ arrived_or p b s m ws
  come_beyond h = another (and_false _ _ (le-ltb m (count p) h))

  -- the code has the taker as it stands in the message's line
  module _ (r : MessageLine) (e : r ≡ line_of p m) where
    taker_is : r.to ≡ taker_at p m
    taker_is = ap (λ (x : MessageLine). x.to) e

    pub come_elsewhere : r.to ≢ b → answer 11 s ≡ arrived_or p b s m ws
    come_elsewhere h = another (and_no _ _ (ne_eqb _ _ (λ q. h (taker_is ∙ q))))

    module _ (lo : m < count p) (here : r.to ≡ b) where
      pub come_handled : handles p b m ≡ true
      unfolding handles
      come_handled = or_right _ (eq-eqb (taker_at p m) b (sym taker_is ∙ here))

      come_behind : first_of coming_lines ≡ first_of (line 14 (not (eqb (mark_in p b s.status m) 0)) ∷ [])
      come_behind = first_false 11 _ _ (not-true (and_true (lt-ltb m (count p) lo) (eq-eqb _ _ (sym taker_is ∙ here))))

      -- and whether it did not come before
      module _ (at : ℕ) (q : at ≡ rank_of p b m) (new : Bool) (is : new ≡ eqb (get_or s.status at 0) 0) where
        come_new : eqb (mark_in p b s.status m) 0 ≡ new
        come_new = ap (λ (v : ℕ). eqb v 0) (mark p b s m lo come_handled at q) ∙ sym is

        pub come_again : new ≡ false → (same : State) → same ≡ s → answer 14 same ≡ arrived_or p b s m ws
        come_again h same e =
            ap (answer 14) e ∙ refuse 14 _ came s (λ z. omega arith) (sym (come_behind ∙ first_true 14 _ _ (not-false (come_new ∙ h))))

        pub come_done : new ≡ true → (mail marks : List ℕ) → mail ≡ put s.buffer (mail_at p b m) ws → marks ≡ set s.status at 2
            → answer 0 (state_of s.memories mail s.progress marks) ≡ arrived_or p b s m ws
        unfolding first_of
        come_done h mail marks k t =
            ap (answer 0) (state_is refl k refl (t ∙ ap (λ (i : ℕ). set s.status i 2) q))
            ∙ answered_yes _ came s (come_behind ∙ first_false 14 (not (eqb (mark_in p b s.status m) 0)) [] (not-true (come_new ∙ h)))

-- its words in the mail
module _ (p : Plan) (b m from n : ℕ) (mail : List ℕ) (long : length mail ≡ words_of p (handled p b)) (lo : m < count p) (h : handles p b m ≡ true)
    (at : from ≡ mail_at p b m) (e : n ≡ length (held_by p m)) where
  pub room : from + n ≤ length mail
  room = omega (arith, long, at, e, words_room p (handles p b) m lo h)

-- ---- past lines 9 and 10

module _ (p : Plan) (b : ℕ) (low : b < p.processors) (s : State) (r : ℕ) (e : r ≡ first_of (unfit_lines p b s)) where
  module _ (m : ℕ) where
    abbrev last_lines : List Line
    last_lines = line 11 (not (ltb m (count p))) ∷ line 14 (not (eqb (get_or (from_part p b s).status m 0) 1)) ∷ []

    pub post_unfit : r ≢ 0 → answer r s ≡ posted_or p b s m
    post_unfit h =
        refuse r _ (to_part p b (marked (from_part p b s) m)) s h (e ∙ sym (first_some (unfit_lines p b s) last_lines (λ q. h (e ∙ q))))

    module _ (z : r ≡ 0) where
      lent : PartLengths p b s
      lent = fits_are p b s (unfit_none p b s r e z).0

      past : first_of (post_lines p b s m) ≡ first_of last_lines
      past =
          let q = unfit_none p b s r e z in
          first_false 9 (not (part_fits p b s)) (deliver_lines p (from_part p b s) m) (not-true q.0)
          ∙ first_false 10 (not (fit p (from_part p b s))) last_lines (not-true q.1)

      same : Dec (m < count p) → first_of (over_lines p b s m) ≡ first_of last_lines
      same (yes lo) =
          ap (λ (v : ℕ). first_of (line 11 (not (ltb m (count p))) ∷ line 14 (not (eqb v 1)) ∷ [])) (sym (mark_is p b s low lent m lo))
      same (no k) =
          first_true 11 _ _ (not-false (le-ltb m (count p) (omega arith))) ∙ sym (first_true 11 _ _ (not-false (le-ltb m (count p) (omega arith))))

      -- where no line is true it is handled
      same_words : first_of (over_lines p b s m) ≡ 0
          → state_of s.memories s.buffer s.progress (set s.status (rank_of p b m) 2) ≡ to_part p b (marked (from_part p b s) m)
      same_words q =
          let a = none_first 11 (not (ltb m (count p))) (line 14 (not (eqb (mark_in p b s.status m) 1)) ∷ []) (λ y. omega arith) q in
          let c = none_first 14 (not (eqb (mark_in p b s.status m) 1)) [] (λ y. omega arith) a.1 in
          sym (posted_is p b s low lent m (ltb-true m (count p) (true_not a.0))
          (handles_marked p b s low lent m 1 (λ y. omega arith) (eqb-true _ _ (true_not c.0))))

      pub post_over : (a : Answered State) → a ≡ handed_over p b s m → a ≡ posted_or p b s m
      post_over a t = t ∙ answered_same _ _ (after p b s m) (to_part p b (marked (from_part p b s) m)) s (same (dec_lt m (count p)) ∙ sym past) same_words

  module _ (m : ℕ) (ws : List ℕ) where
    abbrev later_lines : List Line
    later_lines = line 11 (not (taken_by p b m)) ∷ line 14 (not (eqb (get_or (from_part p b s).status m 0) 0)) ∷ []

    pub arrive_length : as_long p m ws ≡ false → answer 9 s ≡ arrives_or p b s m ws
    arrive_length h =
        refuse 9 _ (to_part p b (received p (from_part p b s) m ws)) s (λ q. omega arith) (sym (first_true 9 _ _ (not-false (and_no _ _ h))))

    module _ (long : as_long p m ws ≡ true) where
      same_lines : first_of (arrive_lines p b s m ws) ≡ first_of (unfit_lines p b s ++ later_lines)
      same_lines =
          ap (λ (t : Bool). first_of (line 9 (not t) ∷ line 10 (not (fit p (from_part p b s))) ∷ later_lines)) (and_right (part_fits p b s) (as_long p m ws) long)

      pub arrive_unfit : r ≢ 0 → answer r s ≡ arrives_or p b s m ws
      arrive_unfit h =
          refuse r _ (to_part p b (received p (from_part p b s) m ws)) s h
          (e ∙ sym (same_lines ∙ first_some (unfit_lines p b s) later_lines (λ q. h (e ∙ q))))

      module _ (z : r ≡ 0) where
        pub arrive_lent : PartLengths p b s
        arrive_lent = fits_are p b s (unfit_none p b s r e z).0

        behind_two : first_of (arrive_lines p b s m ws) ≡ first_of later_lines
        behind_two =
            let q = unfit_none p b s r e z in
            same_lines
            ∙ first_false 9 (not (part_fits p b s)) (line 10 (not (fit p (from_part p b s))) ∷ later_lines) (not-true q.0)
            ∙ first_false 10 (not (fit p (from_part p b s))) later_lines (not-true q.1)

        arrive_same : (t : Bool) → taken_by p b m ≡ t → first_of (coming_lines p b s m ws) ≡ first_of later_lines
        arrive_same true q =
            ap (λ (v : ℕ). first_of (line 11 (not (taken_by p b m)) ∷ line 14 (not (eqb v 0)) ∷ []))
            (sym (mark_is p b s low arrive_lent m (ltb-true m (count p) (both q).0)))
        arrive_same false q = first_true 11 _ _ (not-false q) ∙ sym (first_true 11 _ _ (not-false q))

        arrive_words : first_of (coming_lines p b s m ws) ≡ 0 → came p b s m ws ≡ to_part p b (received p (from_part p b s) m ws)
        unfolding handles
        arrive_words q =
            let a = none_first 11 (not (taken_by p b m)) (line 14 (not (eqb (mark_in p b s.status m) 0)) ∷ []) (λ y. omega arith) q in
            let c = both {a = ltb m (count p)} (true_not a.0) in
            let lo = ltb-true m (count p) c.0 in
            sym (arrived_is p b s low arrive_lent m lo (or_right _ c.1) ws (long_here p m ws lo long))

        pub arrive_come : (a : Answered State) → a ≡ arrived_or p b s m ws → a ≡ arrives_or p b s m ws
        arrive_come a t =
            t
            ∙ answered_same _ _ (came p b s m ws) (to_part p b (received p (from_part p b s) m ws)) s (arrive_same (taken_by p b m) refl ∙ sym behind_two)
            arrive_words

-- the lengths of areas that lines 9 and 10 let pass, by what the code knows of all records that the `Flat` carries
module _ (p : Plan) (b : ℕ) (m u t : List ℕ) (f : Flat) (room : length f.words ≡ 192) (three : f.count ≡ 3)
    (e : (l : List ℕ) → Flattens f l → 0 ≡ first_of (unfit_lines p b (state_of m u l t))) where
  part_lent : PartLengths p b (state_of m u (take (f.count - 0) (drop 0 f.words)) t)
  part_lent =
      let l = take (f.count - 0) (drop 0 f.words) in
      fits_are p b (state_of m u l t)
      (unfit_none p b (state_of m u l t) 0 (e l (part_carries f room (omega (arith, three)))) refl).0

  pub marks_lent : length t ≡ length (handled p b)
  marks_lent = part_lent.marks

  pub may_arrive : (k : ℕ) (ws : List ℕ) → as_long p k ws ≡ true → MayArrive p b u t k ws
  may_arrive k ws h = record { mail_long = part_lent.mail; marks_long = part_lent.marks; long = h }

-- ---- past the first lines: the rows and collecting

module _ (bytes : List ℕ) (route b : ℕ) where
  module _ (out : List ℕ) where
    abbrev row_lines : Plan → List Line
    row_lines p = line 9 (not (eqb (length out) (7 * length (handled p b)))) ∷ []

    pub messages_read : (r : Refusal) → OpensFor bytes route b (Err r) → answer (code r) out ≡ part_messages_call bytes route b out
    unfolding part_messages_call
    messages_read = closed bytes route b row_lines (λ p. part_rows p b (handled p b)) out

    pub messages_past : (l : Layout) → OpensFor bytes route b (Ok l) → (a : Answered (List ℕ)) → a ≡ rows_or (plan_of_layout l) b out
        → a ≡ part_messages_call bytes route b out
    unfolding part_messages_call
    messages_past = opened bytes route b row_lines (λ p. part_rows p b (handled p b)) out

  module _ (s : State) (grid : List ℕ) where
    pub collect_read : (r : Refusal) → OpensFor bytes route b (Err r) → answer (code r) grid ≡ part_collect_call bytes route s b grid
    unfolding part_collect_call
    collect_read = closed bytes route b (λ p. collect_lines p b s grid) (λ p. part_collected p b s grid) grid

    pub collect_past : (l : Layout) → OpensFor bytes route b (Ok l) → (a : Answered (List ℕ)) → a ≡ collected_or (plan_of_layout l) b s grid
        → a ≡ part_collect_call bytes route s b grid
    unfolding part_collect_call
    collect_past = opened bytes route b (λ p. collect_lines p b s grid) (λ p. part_collected p b s grid) grid
