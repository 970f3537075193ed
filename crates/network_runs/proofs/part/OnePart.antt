-- A call on the part of a processor's areas answers as the machine does on the areas, and leaves the part of what the machine leaves.
use Prim.Native.Nat.{ℕ, ◌*◌, ◌<◌}
use mathlib.Core.Path.{◌≡◌, refl, sym, ap, ◌∙◌}
use mathlib.Core.Logic.{◌⊎◌, inl, inr, ◌≢◌}
use mathlib.Core.Bool.{Bool, true, false}
use mathlib.Core.List.{List, [], ◌∷◌, ◌++◌, append_assoc}
use native.Mathlib.Omega.{arith}
use native.Mathlib.Decide.{ℕ_discrete}
use lib.ListN.{length, get_or}
use lib.Dec.{ltb, eqb}
use borrow.Author.Tests.{lt-ltb, ltb-true, eqb-true, eq-eqb, ne_eqb}
use Rattle.base.specs.Tests.{◌and◌, not}
use Rattle.base.specs.Lists.{In, sublist, pack}
use Rattle.base.specs.Numbers.{Line, line, first_of}
use Rattle.base.proofs.Tests.{both, and_true, and_left, either, or_right, or_false, not-true, true_not, false_not, never_both, pick_true, pick_false, every_at}
use Rattle.base.proofs.Select.{keep_in}
use Rattle.base.proofs.Lists.{pack_length}
use Rattle.base.proofs.Entries.{part_at, unpack_other}
use Rattle.base.proofs.Numbers.{first_nil, first_true, first_false, first_cons, first_behind, none_first}
use Rattle.machine.specs.Plan.{Plan, Sound, count, held_by, tiles_of}
use Rattle.machine.specs.Machine.{State, memory_of, place_of, tiles_left, fit_record, fit, Answered, answered, turn_lines, turn, fresh}
use Rattle.machine.specs.Machine.{deliver_lines, deliver}
use Rattle.machine.proofs.Fresh.{status_fresh}
use Rattle.layout.specs.RouteWords.{route_of}
use Rattle.recipe.specs.Routes.{lines_for}
use Rattle.recipe.proofs.Laws.{numbered_for}
use Rattle.engine.specs.Calls.{recipe}
use Rattle.network.specs.Apart.{sender_at, taker_at, marked, received}
use Rattle.network.specs.Locality.{PlanLengths, Keeps, SameTo, ReadsOwnWord}
use Rattle.network.specs.Brought.{take_in_lines, take_in}
use Rattle.network.specs.Own.{handles, own_cells, kept_cells, handled, Own, narrowed, widened, source_of, turn_own}
use Rattle.network.proofs.Network.{zero_answer}
use Rattle.network.proofs.Own.{narrowed_same, wide_same, wide_lent, wide_fit, own_turn}
use Rattle.network.proofs.PartRuns.{Beside, marked_same, received_same}
use Rattle.network.specs.Brought.{taken_by, as_long}
use Rattle.part.specs.Part.{part_of, lent_of, words_of, mail_at, part_fits}
use Rattle.part_calls.specs.front.Calls.{from_part, to_part, board_lines, part_fresh_call, stepped, part_turn_call, part_post_call, part_arrive_call, collect_fits}
use Rattle.part_calls.specs.front.Calls.{part_collected}
use Rattle.part_calls.specs.front.Calls.{part_collect_call}
use Rattle.part_calls.proofs.front.Part.{mail_long, mail_part}

-- the same number, and the same left
answer_is : {A : Type 0} {x y : ℕ} {o q : A} → x ≡ y → o ≡ q → ◌≡◌ {A = Answered A} (record { number = x; after = o }) (record { number = y; after = q })
answer_is e f = rw (e, f)

-- ---- one processor b, its areas s of their lengths and fit
module _ (p : Plan) (b : ℕ) (low : b < p.processors) (source : List ℕ) (s : State) (le : PlanLengths p source s) where
  abbrev mine : State
  mine = to_part p b s

  abbrev again : State
  again = from_part p b (to_part p b s)

  again_is : again ≡ widened p b (narrowed p b s)
  unfolding part_of lent_of
  again_is = refl

  handled_low : (m : ℕ) → In m (handled p b) → m < count p
  handled_low m i = (keep_in (handles p b) (count p) m i).0

  memory_long : length mine.memories ≡ length (kept_cells p b)
  unfolding lent_of narrowed
  memory_long = pack_length (kept_cells p b) (memory_of p s b)

  record_long : length mine.progress ≡ 3
  unfolding lent_of
  record_long = refl

  mail_fits : length mine.buffer ≡ words_of p (handled p b)
  unfolding lent_of narrowed
  mail_fits = mail_long p s.buffer le.buffer (handled p b) handled_low

  marks_long : length mine.status ≡ length (handled p b)
  unfolding lent_of narrowed
  marks_long = pack_length (handled p b) s.status

  pub part_fits_lem : part_fits p b mine ≡ true
  unfolding part_fits
  part_fits_lem =
      and_true (eq-eqb _ _ memory_long) (and_true (eq-eqb _ _ mail_fits) (and_true (eq-eqb _ _ record_long) (eq-eqb _ _ marks_long)))

  same_again : SameTo p b s again
  same_again = rw again_is (wide_same p b source s low le)

  beside : Beside p source b s again
  beside = record { lent = le; lent' = rw again_is (wide_lent p b source s low le source le.source); view = same_again }

  narrow_same : (r r' : State) → SameTo p b r r' → to_part p b r' ≡ to_part p b r
  narrow_same r r' e = ap lent_of (sym (narrowed_same p b r r' e))

  -- a message's words lie in the part where they are looked for
  pub words_in : (m : ℕ) → m < count p → handles p b m ≡ true
      → sublist mine.buffer (mail_at p b m) (length (held_by p m)) ≡ place_of p s.buffer m
  unfolding lent_of narrowed
  words_in m lo e = mail_part p s.buffer le.buffer (handles p b) m lo e

  -- the word of an own cell
  pub own_word_in : (c : ℕ) → c < p.cells → Keeps p b c → get_or (memory_of p again b) c 0 ≡ get_or (memory_of p s b) c 0
  own_word_in c l k =
      part_at again.memories (b * p.cells) p.cells c l ∙ sym (same_again.memory c l k) ∙ sym (part_at s.memories (b * p.cells) p.cells c l)

  left_same : tiles_left p again b ≡ tiles_left p s b
  unfolding tiles_left
  left_same = ap (λ (f : ℕ). ltb f (length (tiles_of p b))) (sym same_again.finished)

  module _ (f : fit p s ≡ true) where
    fit_again : fit p again ≡ true
    fit_again = rw again_is (wide_fit p b source s low le f)

    record_fits : fit_record p again b ≡ true
    unfolding fit
    record_fits = every_at (fit_record p again) p.processors (both fit_again).0 b low

-- ---- by the calls
module _ (bytes : List ℕ) (route : ℕ) (ok : first_of (lines_for (route_of route) bytes) ≡ 0) (b : ℕ) (low : b < (recipe bytes route).processors) where
  abbrev p : Plan
  p = recipe bytes route

  -- past the first lines
  pub past : (rest : List Line) → first_of (board_lines bytes route b ++ rest) ≡ first_of rest
  past rest =
      ap first_of (append_assoc (lines_for (route_of route) bytes) (line 11 (not (ltb b p.processors)) ∷ []) rest)
      ∙ first_behind (lines_for (route_of route) bytes) (line 11 (not (ltb b p.processors)) ∷ rest) (numbered_for (route_of route) bytes) ok
      ∙ first_false 11 _ rest (not-true (lt-ltb b p.processors low))

  pub fresh_gives : (s : State) → part_fits p b s ≡ true → (part_fresh_call bytes route s b).number ≡ 0
  unfolding part_fresh_call
  fresh_gives s e = past (line 9 (not (part_fits p b s)) ∷ []) ∙ first_false 9 _ [] (not-true e) ∙ first_nil

  pub fresh_leaves : (s : State) → (part_fresh_call bytes route s b).number ≡ 0 → (part_fresh_call bytes route s b).after ≡ to_part p b (fresh p)
  unfolding part_fresh_call
  fresh_leaves s z = pick_true _ _ _ (eq-eqb _ 0 z)

  module _ (source : List ℕ) (s : State) (le : PlanLengths p source s) (f : fit p s ≡ true) where
    -- ---- a turn
    abbrev ws : List ℕ
    ws = pack source (own_cells p b)

    turn_number : first_of (board_lines bytes route b
        ++ (line 9 (not (eqb (length ws) (length (own_cells p b)) and part_fits p b (to_part p b s))) ∷ turn_lines p (again p b low source s le) b))
        ≡ first_of (turn_lines p (again p b low source s le) b)
    turn_number =
        past _ ∙ first_false 9 _ _ (not-true (and_true (eq-eqb _ _ (pack_length (own_cells p b) source)) (part_fits_lem p b low source s le)))

    -- the machine's turn on the areas that have the part
    abbrev turned : Answered State
    turned = turn p (source_of p b ws) (again p b low source s le) b

    module _ (so : Sound p) (own : ReadsOwnWord p) where
      as_own : turn_own p (turn p) ws b (narrowed p b s) ≡ record { number = (turn p source s b).number; after = narrowed p b (turn p source s b).after }
      as_own = (own_turn p so own).same_turn source s b low le f

      same_number : turned.number ≡ (turn p source s b).number
      unfolding turn_own part_of lent_of
      same_number = ap (λ (a : Answered Own). a.number) as_own

      same_after : narrowed p b turned.after ≡ narrowed p b (turn p source s b).after
      unfolding turn_own part_of lent_of
      same_after = ap (λ (a : Answered Own). a.after) as_own

      pub turn_on_part_lem : part_turn_call bytes route ws (to_part p b s) b
          ≡ record { number = (turn p source s b).number; after = to_part p b (turn p source s b).after }
      unfolding part_turn_call turn
      turn_on_part_lem =
          ap (λ (n : ℕ). answered n (to_part p b (stepped p b ws (to_part p b s))) (to_part p b s)) turn_number ∙ go (ℕ_discrete turned.number 0)
        where
          go : Dec (turned.number ≡ 0)
              → answered turned.number (to_part p b (stepped p b ws (to_part p b s))) (to_part p b s)
              ≡ record { number = (turn p source s b).number; after = to_part p b (turn p source s b).after }
          go (yes z) =
              answer_is same_number
              (pick_true _ _ _ (eq-eqb _ 0 z)
              ∙ ap lent_of (ap (narrowed p b) (sym (pick_true _ (stepped p b ws (to_part p b s)) (again p b low source s le) (eq-eqb _ 0 z))) ∙ same_after))
          go (no k) =
              answer_is same_number
              (pick_false _ _ _ (ne_eqb _ 0 k)
              ∙ ap (to_part p b) (sym (pick_false _ _ _ (ne_eqb _ 0 (λ z. k (same_number ∙ z))))))

    -- ---- message m at its sender's
    module _ (m : ℕ) (lo : m < count p) (here : sender_at p m ≡ b) where
      pub post_on_part_lem : part_post_call bytes route (to_part p b s) b m
          ≡ answered (first_of (line 14 (not (eqb (get_or s.status m 0) 1)) ∷ [])) (to_part p b (marked s m)) (to_part p b s)
      unfolding part_post_call
      post_on_part_lem =
          let a : first_of (board_lines bytes route b ++ (line 9 (not (part_fits p b (to_part p b s)))
          ∷ line 10 (not (fit p (again p b low source s le))) ∷ line 11 (not (ltb m (count p)))
          ∷ line 14 (not (eqb (get_or (again p b low source s le).status m 0) 1)) ∷ []))
          ≡ first_of (line 14 (not (eqb (get_or s.status m 0) 1)) ∷ []) =
          past _ ∙ first_false 9 _ _ (not-true (part_fits_lem p b low source s le)) ∙ first_false 10 _ _ (not-true (fit_again p b low source s le f))
          ∙ first_false 11 _ _ (not-true (lt-ltb m (count p) lo))
          ∙ ap (λ (x : ℕ). first_of (line 14 (not (eqb x 1)) ∷ [])) (sym ((same_again p b low source s le).marks m lo (inl here))) in
          let c : to_part p b (marked (again p b low source s le) m) ≡ to_part p b (marked s m) =
          narrow_same p b low source s le _ _ (marked_same p source b s (again p b low source s le) (beside p b low source s le) m lo) in
          rw (a, c) refl

    -- ---- message m at its taker's, with its words
    module _ (m : ℕ) (lo : m < count p) (here : taker_at p m ≡ b) (new : List ℕ) (long : length new ≡ length (held_by p m)) where
      pub arrive_on_part_lem : part_arrive_call bytes route (to_part p b s) b m new
          ≡ answered (first_of (line 14 (not (eqb (get_or s.status m 0) 0)) ∷ [])) (to_part p b (received p s m new)) (to_part p b s)
      unfolding part_arrive_call
      arrive_on_part_lem =
          let a : first_of (board_lines bytes route b ++ (line 9 (not (part_fits p b (to_part p b s) and as_long p m new))
          ∷ line 10 (not (fit p (again p b low source s le))) ∷ line 11 (not (taken_by p b m))
          ∷ line 14 (not (eqb (get_or (again p b low source s le).status m 0) 0)) ∷ []))
          ≡ first_of (line 14 (not (eqb (get_or s.status m 0) 0)) ∷ []) =
          past _
          ∙ first_false 9 _ _ (not-true (and_true (part_fits_lem p b low source s le) (or_right (not (ltb m (count p))) (eq-eqb _ _ long))))
          ∙ first_false 10 _ _ (not-true (fit_again p b low source s le f))
          ∙ first_false 11 _ _ (not-true (and_true (lt-ltb m (count p) lo) (eq-eqb _ _ here)))
          ∙ ap (λ (x : ℕ). first_of (line 14 (not (eqb x 0)) ∷ [])) (sym ((same_again p b low source s le).marks m lo (inr here))) in
          let c : to_part p b (received p (again p b low source s le) m new) ≡ to_part p b (received p s m new) =
          narrow_same p b low source s le _ _ (received_same p source b s (again p b low source s le) (beside p b low source s le) m lo new long) in
          rw (a, c) refl

    -- ---- its part collected
    pub collect_on_part : tiles_left p s b ≡ false → (grid : List ℕ) → length grid ≡ p.cells
        → part_collect_call bytes route (to_part p b s) b grid ≡ record { number = 0; after = part_collected p b (to_part p b s) grid }
    unfolding part_collect_call collect_fits
    collect_on_part none grid long =
        zero_answer _ _ _
        (past _ ∙ first_false 9 _ _ (not-true fits) ∙ first_false 10 _ _ (not-true (record_fits p b low source s le f))
        ∙ first_false 15 _ _ (left_same p b low source s le ∙ none) ∙ first_nil)
      where
        fits : collect_fits p b (to_part p b s) grid ≡ true
        fits = and_true (eq-eqb _ _ (memory_long p b low source s le)) (and_true (eq-eqb _ _ (record_long p b low source s le)) (eq-eqb _ _ long))

-- ---- any message, whoever sends or takes it

-- an answer seen through a part of what it leaves
through : {A B : Type 0} (f : A → B) (n k : ℕ) (new old : A) (x y : B) → n ≡ k → (k ≡ 0 → x ≡ f new) → y ≡ f old
    → answered n x y ≡ record { number = (answered k new old).number; after = f (answered k new old).after }
through {A} {B} f n k new old x y e g h = rw e (go (ℕ_discrete k 0))
  where
    go : Dec (k ≡ 0) → answered k x y ≡ record { number = k; after = f (answered k new old).after }
    go (yes z) =
        answer_is refl (pick_true _ x y (eq-eqb k 0 z) ∙ g z ∙ ap f (sym (pick_true _ new old (eq-eqb k 0 z))))
    go (no q) =
        answer_is refl (pick_false _ x y (ne_eqb k 0 q) ∙ h ∙ ap f (sym (pick_false _ new old (ne_eqb k 0 q))))

-- lines behind one that is true don't count
behind : (n : ℕ) (t : Bool) (xs ys : List Line) → (t ≡ false → first_of xs ≡ first_of ys) → first_of (line n t ∷ xs) ≡ first_of (line n t ∷ ys)
behind n true xs ys e = first_true n true xs refl ∙ sym (first_true n true ys refl)
behind n false xs ys e = first_cons n false xs ys (e refl)

module _ (bytes : List ℕ) (route : ℕ) (ok : first_of (lines_for (route_of route) bytes) ≡ 0) (b : ℕ) (low : b < (recipe bytes route).processors)
    (source : List ℕ) (s : State) (le : PlanLengths (recipe bytes route) source s) (f : fit (recipe bytes route) s ≡ true) where
  abbrev p' : Plan
  p' = recipe bytes route

  abbrev wider : State
  wider = again p' b low source s le

  -- ---- handed over: one in flight here is sent from here
  module _ (m : ℕ) (only : m < count (recipe bytes route) → sender_at (recipe bytes route) m ≢ b → get_or s.status m 0 ≢ 1) where
    -- a mark that the part does not have is as at a fresh start
    not_handled : sender_at p' m ≢ b → taker_at p' m ≢ b → get_or wider.status m 0 ≡ 0
    unfolding part_of lent_of narrowed widened handles
    not_handled ns nt =
        unpack_other (handled p' b) _ (fresh p').status m
        (λ i. never_both (keep_in (handles p' b) (count p') m i).1 (or_false (ne_eqb _ _ ns) (ne_eqb _ _ nt)))
        ∙ status_fresh p' m

    same_flight : m < count p' → eqb (get_or wider.status m 0) 1 ≡ eqb (get_or s.status m 0) 1
    same_flight lo = go (ℕ_discrete (sender_at p' m) b) (ℕ_discrete (taker_at p' m) b)
      where
        go : Dec (sender_at p' m ≡ b) → Dec (taker_at p' m ≡ b) → eqb (get_or wider.status m 0) 1 ≡ eqb (get_or s.status m 0) 1
        go (yes e) d = ap (λ (x : ℕ). eqb x 1) (sym ((same_again p' b low source s le).marks m lo (inl e)))
        go (no n) (yes e) = ap (λ (x : ℕ). eqb x 1) (sym ((same_again p' b low source s le).marks m lo (inr e)))
        go (no n) (no k) = ap (λ (x : ℕ). eqb x 1) (not_handled n k) ∙ sym (ne_eqb _ 1 (only lo n))

    post_lines : first_of (board_lines bytes route b ++ (line 9 (not (part_fits p' b (to_part p' b s))) ∷ deliver_lines p' wider m)) ≡ first_of (deliver_lines p' s m)
    post_lines =
        past bytes route ok b low _ ∙ first_false 9 _ _ (not-true (part_fits_lem p' b low source s le))
        ∙ first_false 10 _ _ (not-true (fit_again p' b low source s le f))
        ∙ behind 11 (not (ltb m (count p'))) _ _
        (λ q. ap (λ (t : Bool). first_of (line 14 (not t) ∷ [])) (same_flight (ltb-true _ _ (true_not q))))
        ∙ sym (first_false 10 _ _ (not-true f))

    asked : first_of (deliver_lines p' s m) ≡ 0 → m < count p'
    asked z =
        let x = none_first 10 _ _ (λ q. omega arith) z in
        let y = none_first 11 _ _ (λ q. omega arith) x.1 in
        ltb-true _ _ (true_not y.0)

    pub post_any : part_post_call bytes route (to_part p' b s) b m ≡ record { number = (deliver p' s m).number; after = to_part p' b (deliver p' s m).after }
    unfolding part_post_call deliver
    post_any =
        through (to_part p' b) _ _ (marked s m) s _ (to_part p' b s) post_lines
        (λ z. narrow_same p' b low source s le _ _ (marked_same p' source b s wider (beside p' b low source s le) m (asked z)))
        refl

  -- ---- taken in
  module _ (m : ℕ) (new : List ℕ) where
    arrive_lines : first_of (board_lines bytes route b
        ++ (line 9 (not (part_fits p' b (to_part p' b s) and as_long p' m new))
        ∷ line 10 (not (fit p' wider)) ∷ line 11 (not (taken_by p' b m)) ∷ line 14 (not (eqb (get_or wider.status m 0) 0)) ∷ []))
        ≡ first_of (take_in_lines p' s b m new)
    arrive_lines =
        past bytes route ok b low _
        ∙ ap (λ (t : Bool). first_of (line 9 (not t)
        ∷ line 10 (not (fit p' wider)) ∷ line 11 (not (taken_by p' b m)) ∷ line 14 (not (eqb (get_or wider.status m 0) 0)) ∷ []))
        (and_left _ (as_long p' m new) (part_fits_lem p' b low source s le))
        ∙ first_cons 9 _ _ _
        (first_false 10 _ _ (not-true (fit_again p' b low source s le f))
        ∙ behind 11 (not (taken_by p' b m)) _ _
        (λ q. let t = both (true_not q) in
        ap (λ (x : ℕ). first_of (line 14 (not (eqb x 0)) ∷ []))
        (sym ((same_again p' b low source s le).marks m (ltb-true _ _ t.0) (inr (eqb-true _ _ t.1)))))
        ∙ sym (first_false 10 _ _ (not-true f)))

    taken_asked : first_of (take_in_lines p' s b m new) ≡ 0 → (m < count p') × (length new ≡ length (held_by p' m))
    taken_asked z =
        let x = none_first 9 _ _ (λ q. omega arith) z in
        let y = none_first 10 _ _ (λ q. omega arith) x.1 in
        let w = none_first 11 _ _ (λ q. omega arith) y.1 in
        let lo = (both (true_not w.0)).0 in
        (ltb-true _ _ lo, long (either (true_not x.0)) lo)
      where
        long : (not (ltb m (count p')) ≡ true) ⊎ (eqb (length new) (length (held_by p' m)) ≡ true) → ltb m (count p') ≡ true
            → length new ≡ length (held_by p' m)
        long (inl q) lo = absurd (never_both lo (false_not q))
        long (inr q) lo = eqb-true _ _ q

    pub arrive_any : part_arrive_call bytes route (to_part p' b s) b m new
        ≡ record { number = (take_in p' s b m new).number; after = to_part p' b (take_in p' s b m new).after }
    unfolding part_arrive_call take_in
    arrive_any =
        through (to_part p' b) _ _ (received p' s m new) s _ (to_part p' b s) arrive_lines
        (λ z. let k = taken_asked z in
        narrow_same p' b low source s le _ _ (received_same p' source b s wider (beside p' b low source s le) m k.0 new k.1))
        refl

  -- ---- collected: what it asks
  pub collect_asks : (grid : List ℕ) → (part_collect_call bytes route (to_part p' b s) b grid).number ≡ 0 → (length grid ≡ p'.cells) × (tiles_left p' s b ≡ false)
  unfolding part_collect_call collect_fits
  collect_asks grid z =
      let x = none_first 9 _ _ (λ q. omega arith) (sym (past bytes route ok b low _) ∙ z) in
      let y = none_first 10 _ _ (λ q. omega arith) x.1 in
      let w = none_first 15 _ _ (λ q. omega arith) y.1 in
      (eqb-true _ _ (both (both (true_not x.0)).1).1, sym (left_same p' b low source s le) ∙ w.0)
