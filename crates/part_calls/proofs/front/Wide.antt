-- Laws of the areas that have a lent part: each area, the record's words, fit, and the part of them after a stage.
use Rattle.std.specs.Prelude.{◌≡◌, ℕ, zero, suc, ◌+◌, ◌*◌, ◌<◌, ◌≤◌, Bool, true, false, eqb, leb, ◌≢◌, List, [], ◌∷◌, length, get_or, set, replicate}
use mathlib.Core.Path.{refl, sym, ap, ◌∙◌}
use native.Mathlib.Omega.{arith}
use native.Mathlib.Decide.{ℕ_discrete}
use lib.ListN.{length-replicate}
use lib.Seq.{ext_get_or}
use borrow.Author.Tests.{eqb-true, eq-eqb, leb-true, le-leb}
use Rattle.base.specs.Tests.{◌and◌, every}
use Rattle.base.specs.Lists.{In, sublist, put, unpack, pack}
use Rattle.base.proofs.Tests.{both, and_true, or_left, or_right, every_at, every_all, same_test, never_both}
use Rattle.base.proofs.Select.{keep_in, keep_rising, keep_lt, at_keep, those_in}
use Rattle.base.proofs.Lists.{part_length, piece_fits, piece_same, piece_length, unpack_length}
use Rattle.base.proofs.Entries.{part_at, unpack_other}
use Rattle.machine.specs.Plan.{Plan, count, sender_of, taker_of, held_by, offset, words, sends_of, dues_of}
use Rattle.machine.specs.Machine.{State, state_of, finished_of, stage_of, sent_of, set_progress, memory_of, place_of, fit_record, fit}
use Rattle.machine.specs.Machine.{fresh}
use Rattle.machine.proofs.Records.{SameRecord, record_other, record_length, finished_same, stage_same, sent_same, fit_at, fit_is}
use Rattle.machine.proofs.Progress.{Shape}
use Rattle.machine.proofs.Fresh.{inv_fresh, status_fresh}
use Rattle.network.specs.Apart.{sender_at, taker_at}
use Rattle.network.specs.Own.{handles, keeps, kept_cells, handled, mail_of, narrowed, widened}
use Rattle.part.specs.Part.{part_of, lent_of, rank_of, mail_at, part_fits}
use Rattle.part_calls.specs.front.Calls.{from_part, to_part}
use Rattle.part_calls.specs.front.Given.{PartLengths}
use Rattle.part_calls.proofs.front.Part.{pack_unpack, rank_at, rank_set, mail_part, mail_put, put_mail_long, mail_back, words_room}

-- ---- what a processor handles
module _ (p : Plan) (b : ℕ) where
  pub handled_low : (m : ℕ) → In m (handled p b) → m < count p
  handled_low m i = (keep_in (handles p b) (count p) m i).0

  pub kept_low : (c : ℕ) → In c (kept_cells p b) → c < p.cells
  kept_low c i = (keep_in (keeps p b) p.cells c i).0

  -- the messages of one of its tiles
  module _ (t : ℕ) (e : p.processor_of t ≡ b) where
    pub sends_handled : (m : ℕ) → In m (sends_of p t) → (m < count p) × (handles p b m ≡ true)
    unfolding handles
    sends_handled m i =
        let k = those_in (sender_of p) t (count p) m i in
        (k.0, or_left _ (eq-eqb (sender_at p m) b (ap p.processor_of k.1 ∙ e)))

    pub dues_handled : (m : ℕ) → In m (dues_of p t) → (m < count p) × (handles p b m ≡ true)
    unfolding handles
    dues_handled m i =
        let k = those_in (taker_of p) t (count p) m i in
        (k.0, or_right (eqb (sender_at p m) b) (eq-eqb (taker_at p m) b (ap p.processor_of k.1 ∙ e)))

  pub fits_are : (s : State) → part_fits p b s ≡ true → PartLengths p b s
  unfolding part_fits
  fits_are s e =
      let k = both e in
      let l = both k.1 in
      let m = both l.1 in
      record { memory = eqb-true _ _ k.0; mail = eqb-true _ _ l.0; progress = eqb-true _ _ m.0; marks = eqb-true _ _ m.1 }

-- ---- a record of three words
pub three : (l : List ℕ) → length l ≡ 3 → l ≡ get_or l 0 0 ∷ get_or l 1 0 ∷ get_or l 2 0 ∷ []
three [] e = absurd (omega arith)
three (x ∷ []) e = absurd (omega arith)
three (x ∷ y ∷ []) e = absurd (omega arith)
three (x ∷ y ∷ z ∷ []) e = refl
three (x ∷ y ∷ z ∷ w ∷ l) e = absurd (omega (arith, e))

pub three_set : (l : List ℕ) → length l ≡ 3 → (f g n : ℕ) → set_progress l 0 f g n ≡ f ∷ g ∷ n ∷ []
unfolding set_progress
three_set [] e f g n = absurd (omega arith)
three_set (x ∷ []) e f g n = absurd (omega arith)
three_set (x ∷ y ∷ []) e f g n = absurd (omega arith)
three_set (x ∷ y ∷ z ∷ []) e f g n = refl
three_set (x ∷ y ∷ z ∷ w ∷ l) e f g n = absurd (omega (arith, e))

pub state_is : {m m' u u' l l' t t' : List ℕ} → m ≡ m' → u ≡ u' → l ≡ l' → t ≡ t' → state_of m u l t ≡ state_of m' u' l' t'
state_is a b c d = rw (a, b, c, d)

pub zeros_at : (n i : ℕ) → ◌≡◌ {A = ℕ} (get_or (replicate n 0) i 0) 0
zeros_at zero i = refl
zeros_at (suc n) zero = refl
zeros_at (suc n) (suc i) = zeros_at n i

pub part_zeros : (n i k : ℕ) → i + k ≤ n → sublist (replicate n 0) i k ≡ replicate k 0
part_zeros n i k h =
    ext_get_or 0 (sublist (replicate n 0) i k) (replicate k 0)
    (part_length (replicate n 0) i k (rw (length-replicate {A = ℕ} n 0) h) ∙ sym (length-replicate k 0))
    (λ q l. let z : q < k = omega (arith, part_length (replicate n 0) i k (rw (length-replicate {A = ℕ} n 0) h)) in
    part_at (replicate n 0) i k q z ∙ zeros_at n (i + q) ∙ sym (zeros_at k q))

-- ---- the areas that have the part
module _ (p : Plan) (b : ℕ) (s : State) (low : b < p.processors) (g : PartLengths p b s) where
  fresh_shape : Shape p (fresh p)
  fresh_shape = (inv_fresh p []).shape

  -- a memory of all cells that has the part's words, and zeros else
  abbrev pub all : List ℕ
  all = unpack (replicate p.cells 0) (kept_cells p b) s.memories

  pub all_long : length all ≡ p.cells
  all_long = unpack_length (kept_cells p b) s.memories (replicate p.cells 0) ∙ length-replicate p.cells 0

  pub zero_memory : memory_of p (fresh p) b ≡ replicate p.cells 0
  unfolding fresh
  zero_memory = part_zeros (p.processors * p.cells) (b * p.cells) p.cells (piece_fits p.cells p.processors b low)

  wide_memories : (from_part p b s).memories ≡ put (fresh p).memories (b * p.cells) all
  unfolding widened part_of
  wide_memories = ap (λ (z : List ℕ). put (fresh p).memories (b * p.cells) (unpack z (kept_cells p b) s.memories)) zero_memory

  pub memories_long : length (from_part p b s).memories ≡ p.processors * p.cells
  memories_long =
      ap length wide_memories
      ∙ piece_length (fresh p).memories p.cells p.processors b all fresh_shape.memories all_long low ∙ fresh_shape.memories

  pub wide_memory : memory_of p (from_part p b s) b ≡ all
  wide_memory =
      ap (λ (z : List ℕ). sublist z (b * p.cells) p.cells) wide_memories
      ∙ piece_same (fresh p).memories p.cells p.processors b all fresh_shape.memories all_long low

  pub words_back : pack all (kept_cells p b) ≡ s.memories
  words_back =
      pack_unpack (kept_cells p b) s.memories (replicate p.cells 0) (keep_rising (keeps p b) p.cells) g.memory
      (λ c i. rw (length-replicate {A = ℕ} p.cells 0) (kept_low p b c i))

  pub wide_long : length (from_part p b s).buffer ≡ words p
  unfolding widened part_of
  wide_long = put_mail_long p (handled p b) (fresh p).buffer s.buffer (handled_low p b) fresh_shape.buffer g.mail

  pub wide_mail : mail_of p (from_part p b s).buffer (handled p b) ≡ s.buffer
  unfolding widened part_of
  wide_mail =
      mail_back p (handled p b) (fresh p).buffer s.buffer (keep_rising (handles p b) (count p)) (handled_low p b) fresh_shape.buffer g.mail

  pub status_long : length (from_part p b s).status ≡ count p
  unfolding widened part_of
  status_long = unpack_length (handled p b) s.status (fresh p).status ∙ fresh_shape.status

  pub wide_marks : pack (from_part p b s).status (handled p b) ≡ s.status
  unfolding widened part_of
  wide_marks =
      pack_unpack (handled p b) s.status (fresh p).status (keep_rising (handles p b) (count p)) g.marks
      (λ m i. rw fresh_shape.status (handled_low p b m i))

  pub progress_long : length (from_part p b s).progress ≡ 3 * p.processors
  unfolding widened part_of
  progress_long = record_length (fresh p).progress b (finished_of s 0) (stage_of s 0) (sent_of s 0) ∙ fresh_shape.progress

  pub wide_finished : finished_of (from_part p b s) b ≡ finished_of s 0
  unfolding widened part_of
  wide_finished = finished_same (fresh p).progress b p.processors fresh_shape.progress low (finished_of s 0) (stage_of s 0) (sent_of s 0)

  pub wide_stage : stage_of (from_part p b s) b ≡ stage_of s 0
  unfolding widened part_of
  wide_stage = stage_same (fresh p).progress b p.processors fresh_shape.progress low (finished_of s 0) (stage_of s 0) (sent_of s 0)

  pub wide_sent : sent_of (from_part p b s) b ≡ sent_of s 0
  unfolding widened part_of
  wide_sent = sent_same (fresh p).progress b p.processors fresh_shape.progress low (finished_of s 0) (stage_of s 0) (sent_of s 0)

  -- ---- the part of areas is their words at its places
  pub narrow_is : (r : State)
      → to_part p b r ≡ state_of (pack (memory_of p r b) (kept_cells p b)) (mail_of p r.buffer (handled p b)) (finished_of r b ∷ stage_of r b ∷ sent_of r b ∷ [])
      (pack r.status (handled p b))
  unfolding narrowed lent_of
  narrow_is r = refl

  -- the part of these areas is the part
  pub narrow_wide : to_part p b (from_part p b s) ≡ s
  narrow_wide =
      narrow_is (from_part p b s)
      ∙ state_is (ap (λ (z : List ℕ). pack z (kept_cells p b)) wide_memory ∙ words_back) wide_mail
      ((let x = wide_finished in let y = wide_stage in let z = wide_sent in
      let w : finished_of (from_part p b s) b ∷ stage_of (from_part p b s) b ∷ sent_of (from_part p b s) b ∷ [] ≡ finished_of s 0 ∷ stage_of s 0 ∷ sent_of s 0 ∷ [] = cc
      in w)
      ∙ sym (three s.progress g.progress)) wide_marks

  -- ---- a handled message, its mark and its words
  module _ (m : ℕ) (lo : m < count p) (h : handles p b m ≡ true) where
    pub mark_at : get_or s.status (rank_of p b m) 0 ≡ get_or (from_part p b s).status m 0
    mark_at = ap (λ (z : List ℕ). get_or z (rank_of p b m) 0) (sym wide_marks) ∙ rank_at (handles p b) (count p) (from_part p b s).status m lo h

    pub mark_room : rank_of p b m < length s.status
    mark_room = rw g.marks (keep_lt (handles p b) (count p) m lo h)

    pub mark_set : (v : ℕ) → pack (set (from_part p b s).status m v) (handled p b) ≡ set s.status (rank_of p b m) v
    mark_set v =
        rank_set (handles p b) (count p) (from_part p b s).status m v (omega (arith, status_long)) lo h
        ∙ ap (λ (z : List ℕ). set z (rank_of p b m) v) wide_marks

    pub words_at : sublist s.buffer (mail_at p b m) (length (held_by p m)) ≡ place_of p (from_part p b s).buffer m
    words_at =
        ap (λ (z : List ℕ). sublist z (mail_at p b m) (length (held_by p m))) (sym wide_mail)
        ∙ mail_part p (from_part p b s).buffer wide_long (handles p b) m lo h

    pub mail_room : mail_at p b m + length (held_by p m) ≤ length s.buffer
    mail_room = rw g.mail (words_room p (handles p b) m lo h)

    pub words_put : (ws : List ℕ) → length ws ≡ length (held_by p m)
        → mail_of p (put (from_part p b s).buffer (offset p.messages m) ws) (handled p b) ≡ put s.buffer (mail_at p b m) ws
    words_put ws n =
        mail_put p (from_part p b s).buffer wide_long (handles p b) m lo h ws n ∙ ap (λ (z : List ℕ). put z (mail_at p b m) ws) wide_mail

  -- a message that it doesn't handle is as at a fresh start
  pub mark_none : (m : ℕ) → handles p b m ≡ false → get_or (from_part p b s).status m 0 ≡ 0
  unfolding widened part_of
  mark_none m e =
      unpack_other (handled p b) s.status (fresh p).status m (λ i. never_both (keep_in (handles p b) (count p) m i).1 e) ∙ status_fresh p m

  -- ---- fit: the other records and marks are a fresh start's
  same_fit : (c : ℕ) (r : State) → SameRecord c r.progress (from_part p b s).progress → fit_record p r c ≡ true → fit_record p (from_part p b s) c ≡ true
  same_fit c r e q =
      let x = e.finished in
      let y = e.stage in
      let z = e.sent in
      fit_is p (from_part p b s) c
      ∙ (let w : fit_at p c (finished_of (from_part p b s) c) (stage_of (from_part p b s) c) (sent_of (from_part p b s) c) ≡ fit_at p c (finished_of r c) (stage_of r c)
      (sent_of r c)
      = cc in w)
      ∙ sym (fit_is p r c) ∙ q

  others : (c : ℕ) → c ≢ b → SameRecord c (fresh p).progress (from_part p b s).progress
  unfolding widened part_of
  others c n =
      let r = record_other (fresh p).progress b (finished_of s 0) (stage_of s 0) (sent_of s 0) c n in
      record { finished = sym r.finished; stage = sym r.stage; sent = sym r.sent }

  wide_record : fit_record p (from_part p b s) b ≡ true → (c : ℕ) → c < p.processors → Dec (c ≡ b) → fit_record p (from_part p b s) c ≡ true
  wide_record q c l (yes e) = rw e q
  wide_record q c l (no n) = same_fit c (fresh p) (others c n) (fresh_shape.records c l)

  abbrev marks_fit : Bool
  marks_fit = every (λ i. leb (get_or s.status i 0) 3) (length s.status)

  wide_mark : marks_fit ≡ true → (m : ℕ) → m < count p → (h : Bool) → handles p b m ≡ h → get_or (from_part p b s).status m 0 ≤ 3
  wide_mark q m lo true e =
      omega (
        arith,
        mark_at m lo e,
        leb-true (get_or s.status (rank_of p b m) 0) 3 (every_at (λ i. leb (get_or s.status i 0) 3) (length s.status) q (rank_of p b m) (mark_room m lo e)),
      )
  wide_mark q m lo false e = omega (arith, mark_none m e)

  -- the mark at place i is that of some message
  own_mark : every (λ m. leb (get_or (from_part p b s).status m 0) 3) (count p) ≡ true → (i : ℕ) → i < length s.status → leb (get_or s.status i 0) 3 ≡ true
  own_mark q i l =
      let r = at_keep (handles p b) (count p) i (rw (← g.marks) l) in
      ap (λ (k : ℕ). leb k 3) (ap (λ (j : ℕ). get_or s.status j 0) (sym r.4) ∙ mark_at r.0 r.2 r.3)
      ∙ every_at (λ m. leb (get_or (from_part p b s).status m 0) 3) (count p) q r.0 r.2

  pub wide_fit : fit p (from_part p b s) ≡ (fit_record p (from_part p b s) b and marks_fit)
  unfolding fit
  wide_fit =
      same_test
      (λ q. and_true (every_at (fit_record p (from_part p b s)) p.processors (both q).0 b low)
      (every_all (λ i. leb (get_or s.status i 0) 3) (length s.status) (own_mark (both q).1)))
      (λ q. and_true (every_all (fit_record p (from_part p b s)) p.processors (λ c l. wide_record (both q).0 c l (ℕ_discrete c b)))
      (every_all (λ m. leb (get_or (from_part p b s).status m 0) 3) (count p) (λ m lo. le-leb _ _ (wide_mark (both q).1 m lo (handles p b m) refl))))
