-- A turn on the processor's own part alone is the turn on the areas, seen from that part: by locality.
use Prim.Native.Nat.{ℕ, ◌+◌, ◌*◌, ◌≤◌, ◌<◌}
use mathlib.Core.Path.{◌≡◌, refl, sym, ap, ◌∙◌}
use mathlib.Core.Logic.{◌⊎◌, inl, inr, ◌≢◌}
use mathlib.Core.Bool.{Bool, true, false}
use mathlib.Core.List.{List, [], ◌∷◌, ◌++◌}
use native.Mathlib.Omega.{arith}
use native.Mathlib.Decide.{ℕ_discrete}
use lib.ListN.{length, get_or, take, drop, replicate, length-replicate}
use lib.Seq.{take-append_seam, drop-append_seam}
use lib.Dec.{leb, eqb}
use borrow.Author.Tests.{eqb-true, eq-eqb, le-leb, leb-true}
use Rattle.base.specs.Tests.{◌and◌, some}
use Rattle.base.specs.Lists.{In, Rising, put, member, unpack, pack}
use Rattle.base.proofs.Tests.{both, and_true, either, never_both, or_left, or_right, some_at, some_one, every_at, every_all}
use Rattle.base.proofs.Select.{keep_in, in_keep, keep_rising}
use Rattle.base.proofs.Lists.{in_member, member_in, part_length, length_put, piece_fits, unpack_gives, unpack_length, pack_right}
use Rattle.base.proofs.Entries.{part_at, put_same, unpack_other}
use Rattle.machine.specs.Plan.{Plan, Sound, count, held_by, offset, words}
use Rattle.machine.specs.Machine.{State, finished_of, stage_of, sent_of, memory_of, place_of, fit_record, fit, Answered, turn, fresh}
use Rattle.machine.specs.Words.{word_at}
use Rattle.machine.proofs.Records.{SameRecord, record_other, record_length, finished_same, stage_same, sent_same, fit_at, fit_is}
use Rattle.machine.proofs.Values.{offset_apart}
use Rattle.machine.proofs.Progress.{Shape}
use Rattle.machine.proofs.Kept.{memory_length}
use Rattle.machine.proofs.Fresh.{inv_fresh, status_fresh}
use Rattle.network.specs.Apart.{sender_at, taker_at}
use Rattle.network.specs.Locality.{PlanLengths, Keeps, Handles, SameTo, SameSource, Likewise, Local, ReadsOwnWord}
use Rattle.network.specs.Own.{owns, keeps, handles, own_cells, kept_cells, handled, Own, mail_of, put_mail, narrowed, widened, source_of, turn_own, OwnPart}
use Rattle.network.proofs.Letters.{words_fit, words_there, words_other}
use Rattle.network.proofs.Locality.{local}

-- ---- tests and what they say
module _ (p : Plan) (b : ℕ) where
  pub own_test : (c : ℕ) → owns p b c ≡ true → (t : ℕ) × (t < p.tiles) × (p.processor_of t ≡ b) × In c (p.cells_of t)
  unfolding owns
  own_test c e =
      let k = some_at (λ t. eqb (p.processor_of t) b and member c (p.cells_of t)) p.tiles e in
      let q = both k.2 in
      (k.0, k.1, eqb-true _ _ q.0, member_in c _ q.1)

  pub test_own : (c t : ℕ) → t < p.tiles → p.processor_of t ≡ b → In c (p.cells_of t) → owns p b c ≡ true
  unfolding owns
  test_own c t l e i = some_one _ p.tiles t l (and_true (eq-eqb _ _ e) (in_member c _ i))

  keep_test : (c : ℕ) → keeps p b c ≡ true → Keeps p b c
  unfolding keeps
  keep_test c e = go (either e)
    where
      go : (owns p b c ≡ true) ⊎ (some (λ m. eqb (taker_at p m) b and member c (held_by p m)) (count p) ≡ true) → Keeps p b c
      go (inl o) = let k = own_test c o in Keeps.own k.0 k.1 k.2 k.3
      go (inr o) =
          let k = some_at (λ m. eqb (taker_at p m) b and member c (held_by p m)) (count p) o in
          let q = both k.2 in
          Keeps.brought k.0 k.1 (eqb-true _ _ q.0) (member_in c _ q.1)

  pub test_keep : (c : ℕ) → Keeps p b c → keeps p b c ≡ true
  unfolding keeps
  test_keep c (Keeps.own t l e i) = or_left _ (test_own c t l e i)
  test_keep c (Keeps.brought m l e i) =
      or_right (owns p b c) (some_one _ (count p) m l (and_true (eq-eqb _ _ e) (in_member c _ i)))

  handle_test : (m : ℕ) → handles p b m ≡ true → Handles p b m
  unfolding handles
  handle_test m e = go (either e)
    where
      go : (eqb (sender_at p m) b ≡ true) ⊎ (eqb (taker_at p m) b ≡ true) → Handles p b m
      go (inl q) = inl (eqb-true _ _ q)
      go (inr q) = inr (eqb-true _ _ q)

  test_handle : (m : ℕ) → Handles p b m → handles p b m ≡ true
  unfolding handles
  test_handle m (inl e) = or_left _ (eq-eqb _ _ e)
  test_handle m (inr e) = or_right (eqb (sender_at p m) b) (eq-eqb _ _ e)

-- ---- words picked, and put back where they were
pack_same : (cs x y : List ℕ) → ((c : ℕ) → In c cs → get_or x c 0 ≡ get_or y c 0) → pack x cs ≡ pack y cs
pack_same cs x y h = pack_right (λ c. get_or y c 0) cs x h ∙ sym (pack_right (λ c. get_or y c 0) cs y (λ c i. refl))

back_at : (cs x y : List ℕ) → ((c : ℕ) → In c cs → c < length y) → (c : ℕ) → In c cs → get_or (unpack y cs (pack x cs)) c 0 ≡ get_or x c 0
back_at cs x y low c i = unpack_gives (λ d. get_or x d 0) cs (pack x cs) y c (pack_right (λ d. get_or x d 0) cs x (λ d j. refl)) low i

-- ---- mail
module _ (p : Plan) where
  mail_same : (ms x y : List ℕ) → ((m : ℕ) → In m ms → place_of p x m ≡ place_of p y m) → mail_of p x ms ≡ mail_of p y ms
  unfolding mail_of
  mail_same [] x y h = refl
  mail_same (m ∷ ms) x y h =
      let a = h m (inl refl) in
      let b = mail_same ms x y (λ k i. h k (inr i)) in
      cc

  -- the words of src, put into a buffer of the same length
  module _ (src : List ℕ) (long : length src ≡ words p) where
    place_long : (m : ℕ) → m < count p → length (place_of p src m) ≡ length (held_by p m)
    place_long m lo = part_length src (offset p.messages m) (length (held_by p m)) (rw long (offset_apart p.messages m (count p) lo lo))

    -- the first message of the mail, and the rest
    first : (m : ℕ) (ms : List ℕ) → m < count p → take (length (held_by p m)) (place_of p src m ++ mail_of p src ms) ≡ place_of p src m
    first m ms lo = ap (λ (n : ℕ). take n (place_of p src m ++ mail_of p src ms)) (sym (place_long m lo)) ∙ take-append_seam (place_of p src m) (mail_of p src ms)

    rest : (m : ℕ) (ms : List ℕ) → m < count p → drop (length (held_by p m)) (place_of p src m ++ mail_of p src ms) ≡ mail_of p src ms
    rest m ms lo = ap (λ (n : ℕ). drop n (place_of p src m ++ mail_of p src ms)) (sym (place_long m lo)) ∙ drop-append_seam (place_of p src m) (mail_of p src ms)

    step : (m : ℕ) (ms buffer : List ℕ) → m < count p
        → put_mail p buffer (mail_of p src (m ∷ ms)) (m ∷ ms) ≡ put_mail p (put buffer (offset p.messages m) (place_of p src m)) (mail_of p src ms) ms
    unfolding put_mail mail_of
    step m ms buffer lo =
        ap (λ (ws : List ℕ). put_mail p (put buffer (offset p.messages m) ws) (drop (length (held_by p m)) (place_of p src m ++ mail_of p src ms)) ms)
        (first m ms lo)
        ∙ ap (λ (mail : List ℕ). put_mail p (put buffer (offset p.messages m) (place_of p src m)) mail ms) (rest m ms lo)

    none : (buffer : List ℕ) → put_mail p buffer (mail_of p src []) [] ≡ buffer
    unfolding put_mail
    none buffer = refl

    put_long : (m : ℕ) (buffer : List ℕ) → m < count p → length buffer ≡ words p
        → length (put buffer (offset p.messages m) (place_of p src m)) ≡ words p
    put_long m buffer lo e =
        length_put buffer _ (place_of p src m) (words_fit p buffer m (place_of p src m) e lo (place_long m lo)) ∙ e

    mail_long : (ms buffer : List ℕ) → ((m : ℕ) → In m ms → m < count p) → length buffer ≡ words p
        → length (put_mail p buffer (mail_of p src ms) ms) ≡ words p
    mail_long [] buffer low e = rw (none buffer) e
    mail_long (m ∷ ms) buffer low e =
        rw (step m ms buffer (low m (inl refl))) (mail_long ms _ (λ k i. low k (inr i)) (put_long m buffer (low m (inl refl)) e))

    mail_other : (ms buffer : List ℕ) → ((m : ℕ) → In m ms → m < count p) → length buffer ≡ words p
        → (k : ℕ) → k < count p → (In k ms → ⊥) → place_of p (put_mail p buffer (mail_of p src ms) ms) k ≡ place_of p buffer k
    mail_other [] buffer low e k lo n = rw (none buffer) refl
    mail_other (m ∷ ms) buffer low e k lo n =
        rw (step m ms buffer (low m (inl refl)))
        (mail_other ms _ (λ j i. low j (inr i)) (put_long m buffer (low m (inl refl)) e) k lo (λ i. n (inr i))
        ∙ words_other p buffer m (place_of p src m) e (low m (inl refl)) (place_long m (low m (inl refl))) k lo (λ q. n (inl q)))

    mail_there : (ms buffer : List ℕ) → Rising ms → ((m : ℕ) → In m ms → m < count p) → length buffer ≡ words p
        → (k : ℕ) → In k ms → place_of p (put_mail p buffer (mail_of p src ms) ms) k ≡ place_of p src k
    mail_there [] buffer up low e k i = absurd i
    mail_there (m ∷ ms) buffer up low e k (inr i) =
        rw (step m ms buffer (low m (inl refl)))
        (mail_there ms _ up.1 (λ j q. low j (inr q)) (put_long m buffer (low m (inl refl)) e) k i)
    mail_there (m ∷ ms) buffer up low e k (inl q) =
        rw (q, step m ms buffer (low m (inl refl)))
        (mail_other ms _ (λ j i. low j (inr i)) (put_long m buffer (low m (inl refl)) e) m (low m (inl refl)) (λ i. omega (arith, up.0 m i))
        ∙ words_there p buffer m (place_of p src m) e (low m (inl refl)) (place_long m (low m (inl refl))))

-- ---- states that are the same to the processor have the same part
own_is : {m m' l l' k k' : List ℕ} {f f' g g' n n' : ℕ} → m ≡ m' → f ≡ f' → g ≡ g' → n ≡ n' → l ≡ l' → k ≡ k'
    → ◌≡◌ {A = Own} (record { memory = m; finished = f; stage = g; sent = n; mail = l; marks = k })
    (record { memory = m'; finished = f'; stage = g'; sent = n'; mail = l'; marks = k' })
own_is a b c d e f = rw (a, b, c, d, e, f)

module _ (p : Plan) (b : ℕ) where
  memory_at : (s : State) (c : ℕ) → c < p.cells → get_or (memory_of p s b) c 0 ≡ word_at p s b c
  memory_at s c l = part_at s.memories (b * p.cells) p.cells c l

  pub narrowed_same : (s s' : State) → SameTo p b s s' → narrowed p b s ≡ narrowed p b s'
  unfolding narrowed
  narrowed_same s s' e =
      own_is
      (pack_same (kept_cells p b) (memory_of p s b) (memory_of p s' b)
      (λ c i. let k = keep_in (keeps p b) p.cells c i in
      memory_at s c k.0 ∙ e.memory c k.0 (keep_test p b c k.1) ∙ sym (memory_at s' c k.0)))
      e.finished e.stage e.sent
      (mail_same p (handled p b) s.buffer s'.buffer
      (λ m i. let k = keep_in (handles p b) (count p) m i in e.words m k.0 (handle_test p b m k.1)))
      (pack_same (handled p b) s.status s'.status
      (λ m i. let k = keep_in (handles p b) (count p) m i in e.marks m k.0 (handle_test p b m k.1)))

  -- ---- the part of s, in areas that are else as a fresh start
  module _ (source : List ℕ) (s : State) (low : b < p.processors) (le : PlanLengths p source s) where
    fresh_shape : Shape p (fresh p)
    fresh_shape = (inv_fresh p source).shape

    abbrev wide : State
    wide = widened p b (narrowed p b s)

    abbrev zeros : List ℕ
    zeros = memory_of p (fresh p) b

    zeros_long : length zeros ≡ p.cells
    zeros_long = memory_length p (fresh p) b low fresh_shape

    abbrev kept : List ℕ
    kept = unpack zeros (kept_cells p b) (pack (memory_of p s b) (kept_cells p b))

    kept_long : length kept ≡ p.cells
    kept_long = unpack_length (kept_cells p b) (pack (memory_of p s b) (kept_cells p b)) zeros ∙ zeros_long

    kept_fits : b * p.cells + length kept ≤ length (fresh p).memories
    kept_fits = rw (kept_long, fresh_shape.memories) (piece_fits p.cells p.processors b low)

    handled_low : (m : ℕ) → In m (handled p b) → m < count p
    handled_low m i = (keep_in (handles p b) (count p) m i).0

    word_back : (c : ℕ) → c < p.cells → Keeps p b c → word_at p s b c ≡ word_at p wide b c
    unfolding widened narrowed
    word_back c l k =
        sym (memory_at s c l)
        ∙ sym (back_at (kept_cells p b) (memory_of p s b) zeros (λ d i. rw zeros_long (keep_in (keeps p b) p.cells d i).0) c
        (in_keep (keeps p b) p.cells c l (test_keep p b c k)))
        ∙ sym (put_same (fresh p).memories (b * p.cells) kept kept_fits c (rw kept_long l))

    marks_low : (m : ℕ) → In m (handled p b) → m < length (fresh p).status
    marks_low m i = rw fresh_shape.status (handled_low m i)

    mark_back : (m : ℕ) → m < count p → Handles p b m → get_or s.status m 0 ≡ get_or wide.status m 0
    unfolding widened narrowed
    mark_back m lo mine =
        sym (back_at (handled p b) s.status (fresh p).status marks_low m (in_keep (handles p b) (count p) m lo (test_handle p b m mine)))

    place_back : (m : ℕ) → m < count p → Handles p b m → place_of p s.buffer m ≡ place_of p wide.buffer m
    unfolding widened narrowed
    place_back m lo mine =
        sym (mail_there p s.buffer le.buffer (handled p b) (fresh p).buffer (keep_rising (handles p b) (count p)) handled_low fresh_shape.buffer m
        (in_keep (handles p b) (count p) m lo (test_handle p b m mine)))

    record_back : SameRecord b s.progress wide.progress
    unfolding widened narrowed
    record_back =
        record {
          finished = sym (finished_same (fresh p).progress b p.processors fresh_shape.progress low (finished_of s b) (stage_of s b) (sent_of s b));
          stage = sym (stage_same (fresh p).progress b p.processors fresh_shape.progress low (finished_of s b) (stage_of s b) (sent_of s b));
          sent = sym (sent_same (fresh p).progress b p.processors fresh_shape.progress low (finished_of s b) (stage_of s b) (sent_of s b));
        }

    pub wide_same : SameTo p b s wide
    wide_same =
        record {
          memory = word_back;
          finished = record_back.finished;
          stage = record_back.stage;
          sent = record_back.sent;
          words = place_back;
          marks = mark_back;
        }

    pub wide_lent : (source' : List ℕ) → length source' ≡ p.cells → PlanLengths p source' wide
    unfolding widened narrowed
    wide_lent source' long =
        record {
          source = long;
          memories = length_put (fresh p).memories (b * p.cells) kept kept_fits ∙ fresh_shape.memories;
          buffer = mail_long p s.buffer le.buffer (handled p b) (fresh p).buffer handled_low fresh_shape.buffer;
          progress = record_length (fresh p).progress b (finished_of s b) (stage_of s b) (sent_of s b) ∙ fresh_shape.progress;
          status = unpack_length (handled p b) (pack s.status (handled p b)) (fresh p).status ∙ fresh_shape.status;
        }

    -- fit: the other records and marks are a fresh start's
    module _ (f : fit p s ≡ true) where
      fit_records : (c : ℕ) → c < p.processors → fit_record p s c ≡ true
      unfolding fit
      fit_records = every_at (fit_record p s) p.processors (both f).0

      fit_marks : (m : ℕ) → m < count p → leb (get_or s.status m 0) 3 ≡ true
      unfolding fit
      fit_marks = every_at (λ m. leb (get_or s.status m 0) 3) (count p) (both f).1

      same_fit : (c : ℕ) (r : State) → SameRecord c r.progress wide.progress → fit_record p r c ≡ true → fit_record p wide c ≡ true
      same_fit c r e q =
          let x = e.finished in
          let y = e.stage in
          let z = e.sent in
          fit_is p wide c
          ∙ (let w : fit_at p c (finished_of wide c) (stage_of wide c) (sent_of wide c) ≡ fit_at p c (finished_of r c) (stage_of r c) (sent_of r c) = cc in w)
          ∙ sym (fit_is p r c) ∙ q

      others : (c : ℕ) → c ≢ b → SameRecord c (fresh p).progress wide.progress
      unfolding widened narrowed
      others c n =
          let r = record_other (fresh p).progress b (finished_of s b) (stage_of s b) (sent_of s b) c n in
          record { finished = sym r.finished; stage = sym r.stage; sent = sym r.sent }

      wide_record : (c : ℕ) → c < p.processors → Dec (c ≡ b) → fit_record p wide c ≡ true
      wide_record c l (yes e) = rw e (same_fit b s record_back (fit_records b low))
      wide_record c l (no n) = same_fit c (fresh p) (others c n) (fresh_shape.records c l)

      wide_mark : (m : ℕ) → m < count p → (h : Bool) → handles p b m ≡ h → get_or wide.status m 0 ≤ 3
      unfolding widened narrowed
      wide_mark m lo true e =
          let q = back_at (handled p b) s.status (fresh p).status marks_low m (in_keep (handles p b) (count p) m lo e) in
          omega (arith, q, leb-true (get_or s.status m 0) 3 (fit_marks m lo))
      wide_mark m lo false e =
          omega (
            arith,
            unpack_other (handled p b) (pack s.status (handled p b)) (fresh p).status m
                (λ i. true_false (sym (keep_in (handles p b) (count p) m i).1 ∙ e)),
            status_fresh p m,
          )
        where
          true_false : true ≡ false → ⊥
          true_false q = never_both refl q

      pub wide_fit : fit p wide ≡ true
      unfolding fit
      wide_fit =
          and_true (every_all (fit_record p wide) p.processors (λ c l. wide_record c l (ℕ_discrete c b)))
          (every_all (λ m. leb (get_or wide.status m 0) 3) (count p) (λ m lo. le-leb _ _ (wide_mark m lo (handles p b m) refl)))

  -- ---- a source that has the own cells' words
  source_long : (ws : List ℕ) → length (source_of p b ws) ≡ p.cells
  unfolding source_of
  source_long ws = unpack_length (own_cells p b) ws (replicate p.cells 0) ∙ length-replicate p.cells 0

  source_own : Sound p → (source : List ℕ) → SameSource p b source (source_of p b (pack source (own_cells p b)))
  unfolding source_of
  source_own so source t c l e i =
      sym (back_at (own_cells p b) source (replicate p.cells 0) (λ d j. rw (length-replicate {A = ℕ} p.cells 0) (keep_in (owns p b) p.cells d j).0) c
      (in_keep (owns p b) p.cells c (so.cell_low t c l i) (test_own p b c t l e i)))

module _ (p : Plan) (so : Sound p) (turns : List ℕ → State → ℕ → Answered State) (l : Local p turns) where
  answer_is : {x y : ℕ} {o q : Own} → x ≡ y → o ≡ q → ◌≡◌ {A = Answered Own} (record { number = x; after = o }) (record { number = y; after = q })
  answer_is e f = rw (e, f)

  pub own_part : OwnPart p turns
  unfolding turn_own
  own_part =
      record {
        same_turn = λ source s b low le f.
            let src : List ℕ = source_of p b (pack source (own_cells p b)) in
            let like : Likewise p source src s (widened p b (narrowed p b s)) b =
            record {
              lent = le;
              lent' = wide_lent p b source s low le src (source_long p b (pack source (own_cells p b)));
              both_fit = f ∙ sym (wide_fit p b source s low le f);
              same_source = source_own p b so source;
              same_areas = wide_same p b source s low le;
            } in
            answer_is (sym (l.same_number source src s (widened p b (narrowed p b s)) b like))
            (sym (narrowed_same p b _ _ (l.same_changes source src s (widened p b (narrowed p b s)) b like)));
      }

-- of the machine
pub own_turn : (p : Plan) → Sound p → ReadsOwnWord p → OwnPart p (turn p)
own_turn p so own = own_part p so (turn p) (local p so own)
