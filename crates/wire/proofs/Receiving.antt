-- For the proofs alone.
-- What receiving answers, line by line: a packet opened, whose it is, its chunk put to what came of its message, the whole message taken in.
use Rattle.std.specs.Prelude.{◌≡◌, ℕ, zero, suc, ◌+◌, ◌-◌, ◌<◌, ◌≤◌, Bool, true, false, eqb, ltb, ◌≢◌, List, [], ◌∷◌, ◌++◌, length, get_or, take, drop, set, Result, Ok, Err, IfOk, is_err}
use mathlib.Core.Path.{refl, sym, ap, ap₂, ◌∙◌, subst}
use mathlib.Core.Bool.{false≢true}
use mathlib.Core.Logic.{inl, inr}
use native.Mathlib.Omega.{arith}
use borrow.Author.Tests.{eq-eqb, ne_eqb, lt-ltb, le-ltb, eqb-true, ltb-true}
use borrow.Rule.Slice.PartMut.{put_mid}
use lib.ListN.{length-append}
use lib.Seq.{take_at}
use Rattle.base.specs.Tests.{◌and◌, not, pick, one}
use Rattle.base.specs.Lists.{In, Rising, sublist, put}
use Rattle.base.specs.Numbers.{Line, line, first_of}
use Rattle.base.specs.Refusals.{code, number_of}
use Rattle.base.specs.declared.refusal.Refusal.{Refusal}
use Rattle.base.proofs.Tests.{both, and_true, and_left, and_false, or_right, not-true, not-false, true_not}
use Rattle.base.proofs.Lists.{part_length, part_put_same}
use Rattle.base.proofs.Numbers.{Numbered, first_nil, first_true, first_false, first_some, first_behind, none_first}
use Rattle.machine.specs.Plan.{Plan, Sound, count, words, held_by, offset}
use Rattle.machine.specs.Machine.{State, fit, Answered, answered}
use Rattle.machine.proofs.Values.{offset_apart}
use Rattle.network.specs.Apart.{sender_at, taker_at, received}
use Rattle.nest.specs.declared.Nest.{Nest}
use Rattle.nest.specs.Nest.{cells}
use Rattle.plan.specs.declared.Route.{Route}
use Rattle.plan.specs.Shaped.{plan_of}
use Rattle.plan.proofs.ShapedSound.{sound}
use Rattle.layout.specs.declared.Layout.{Layout}
use Rattle.layout.specs.declared.Sizes.{Sizes}
use Rattle.layout.specs.Laid.{plan_of_layout}
use Rattle.layout.specs.Sizes.{Sized}
use Rattle.layout.specs.RouteWords.{route_of}
use Rattle.recipe.specs.Given.{LaidOut}
use Rattle.recipe.specs.Routes.{lines_for}
use Rattle.recipe.proofs.Laws.{numbered_for}
use Rattle.tables.specs.declared.Table.{Table}
use Rattle.tables.specs.Given.{plan_of_table}
use Rattle.tables.specs.declared.scans.MessageSlot.{MessageSlot}
use Rattle.tables.specs.Tables.{FoundIn}
use Rattle.summary.specs.declared.MessageLine.{MessageLine}
use Rattle.summary.specs.Summary.{line_of}
use Rattle.stages.proofs.Parts.{mid_is, mid_length, back}
use Rattle.engine.specs.Calls.{answer, areas}
use Rattle.engine.specs.Given.{unfit_lines}
use Rattle.engine.proofs.Turns.{answered_no, answered_yes}
use Rattle.engine.proofs.Lines.{Opened, areas_are, unfit_none, call_read}
use Rattle.transport.specs.arrivals.Taking.{MayTake, received_or}
use Rattle.network.specs.Brought.{taken_by}
use Rattle.packets.specs.declared.Header.{Header}
use Rattle.packets.specs.declared.Reading.{Reading}
use Rattle.packets.specs.declared.chunks.Taken.{Taken}
use Rattle.packets.specs.Fingerprint.{fingerprint_of}
use Rattle.packets.specs.Packet.{count_of, header_of, words_of, damaged, stale, decode_lines}
use Rattle.packets.specs.Calls.{Read, read_of, read_by, read_lines, read_call}
use Rattle.packets.specs.Cut.{Chunk, chunk_of, Assembly, assembly, complete, fits, take_lines, Taking, taking_by, taking_of, take_chunk_call}
use Rattle.base.proofs.Codes.{code_some}
use Rattle.packets.proofs.Answers.{whole_is}
use Rattle.packets.proofs.Assembling.{no_line, no_lines}
use Rattle.packets.proofs.RoundTrip.{words_long}
use Rattle.wire.specs.Wire.{Inbox, inbox_of, came_of, with_came, inbox_fits, address_lines, Received, received_as, came_now, came_with, taken_packet}
use Rattle.wire.specs.Wire.{receive_call}
use Rattle.wire.specs.Given.{ReadAs, MayReceive, taken_or}

-- ---- lengths

pub fits_no : (p : Plan) (parts masks w n : ℕ) → w ≡ words p → n ≡ count p → (parts ≡ w → ⊥)
    → eqb parts w ≡ (eqb parts (words p) and eqb masks (count p))
fits_no p parts masks w n ew en h = ne_eqb parts w h ∙ sym (and_false _ _ (ne_eqb parts (words p) (λ q. h (q ∙ sym ew))))

pub fits_by : (p : Plan) (parts masks w n : ℕ) → w ≡ words p → n ≡ count p → parts ≡ w
    → eqb masks n ≡ (eqb parts (words p) and eqb masks (count p))
fits_by p parts masks w n ew en e =
    ap (eqb masks) en ∙ sym (and_left (eqb parts (words p)) (eqb masks (count p)) (eq-eqb parts (words p) (e ∙ ew)))

-- numbers below n that rise are at most n
pub rising_few : (l : List ℕ) (n : ℕ) → Rising l → ((c : ℕ) → In c l → c < n) → length l ≤ n
rising_few l n up low = omega (arith, go l 0 n up (λ c i. omega arith) low (omega arith))
  where
    go : (l : List ℕ) (k n : ℕ) → Rising l → ((c : ℕ) → In c l → k ≤ c) → ((c : ℕ) → In c l → c < n) → k ≤ n → k + length l ≤ n
    go [] k n up least low h = omega arith
    go (x ∷ l) k n up least low h =
        let a = least x (inl refl) in
        let b = low x (inl refl) in
        let rest = go l (suc x) n up.1 (λ c i. up.0 c i) (λ c i. low c (inr i)) b in
        omega (arith, a, rest)

-- a message has at most 64 chunks
pub held_few : (x : Nest) (z : Sizes) → Sized x z → (m : ℕ) → m < count (plan_of z.route x) → length (held_by (plan_of z.route x) m) ≤ 18240
held_few x z g m low =
    let so : Sound (plan_of z.route x) = sound z.route x g.accepted in
    omega (arith, rising_few (held_by (plan_of z.route x) m) (cells x) (so.held_rising m low) (λ c i. so.held_low m c low i), g.accepted.cells_most)

-- ---- opened

-- 285 words are room for every packet
room_enough : (f n : ℕ) (q : List ℕ) → first_of (read_lines f n q 285) ≡ first_of (decode_lines f n q)
room_enough f n q = by (damaged q) refl (stale f n q) refl
  where
    by : (d : Bool) → damaged q ≡ d → (s : Bool) → stale f n q ≡ s → first_of (read_lines f n q 285) ≡ first_of (decode_lines f n q)
    by true d s e = first_true 26 _ _ d ∙ sym (first_true 26 _ _ d)
    by false d true e = first_false 26 _ _ d ∙ first_true 27 _ _ e ∙ sym (first_false 26 _ _ d ∙ first_true 27 _ _ e)
    by false d false e =
        first_false 26 _ _ d ∙ first_false 27 _ _ e ∙ first_false 9 _ _ (le-ltb 285 (count_of q) (whole_is q d).short) ∙ first_nil
        ∙ sym (first_false 26 _ _ d ∙ first_false 27 _ _ e ∙ first_nil)

pub read_number : (k : ℕ) (p ws : List ℕ) → (read_by k p ws).number ≡ k
read_number zero p ws = refl
read_number (suc k) p ws = refl

told_number : (r : Result Reading Refusal) (out : List ℕ) → number_of r ≡ (read_of r out).number
told_number (Ok x) out = refl
told_number (Err y) out = refl

pub opened_number : (f g n : ℕ) (q ws out : List ℕ) (r : Result Reading Refusal) → f ≡ g → length ws ≡ 285 → read_of r out ≡ read_call f n q ws
    → number_of r ≡ first_of (decode_lines g n q)
unfolding read_call
opened_number f g n q ws out r ef long e =
    told_number r out ∙ ap (λ (x : Read). x.number) e ∙ read_number (first_of (read_lines f n q (length ws))) q ws
    ∙ ap (λ (k : ℕ). first_of (read_lines f n q k)) long ∙ room_enough f n q
    ∙ ap (λ (x : ℕ). first_of (decode_lines x n q)) ef

pub opened : (f n : ℕ) (q ws out : List ℕ) (r : Result Reading Refusal) → read_of r out ≡ read_call f n q ws → IfOk r (λ x. ReadAs q x out)
unfolding read_call
opened f n q ws out (Err y) e = tt
opened f n q ws out (Ok x) e =
    record {
      header_is = ap (λ (x : Read). x.header) passed;
      words_are = ap (take x.count) out_is ∙ take_at (words_of q) (drop (count_of q) ws) x.count (sym count_long);
      fits = omega (arith, count_long, ap length out_is, length-append (words_of q) (drop (count_of q) ws));
    }
  where
    passed : read_of (Ok x) out ≡ read_by 0 q ws
    passed =
        e ∙ ap (λ (k : ℕ). read_by k q ws)
        (sym (read_number (first_of (read_lines f n q (length ws))) q ws) ∙ sym (ap (λ (x : Read). x.number) e))

    count_long : x.count ≡ length (words_of q)
    count_long = ap (λ (x : Read). x.count) passed ∙ sym (words_long q)

    out_is : out ≡ words_of q ++ drop (count_of q) ws
    out_is = ap (λ (x : Read). x.words) passed

-- ---- whose it is

pub some_err : {A : Type 0} (r : Result A Refusal) → is_err r ≡ true → number_of r ≢ 0
some_err (Ok x) e = absurd (false≢true e)
some_err (Err y) e = code_some y

pub no_err : {A : Type 0} (r : Result A Refusal) → is_err r ≡ false → number_of r ≡ 0
no_err (Ok x) e = refl
no_err (Err y) e = absurd (false≢true (sym e))

module _ (p : Plan) (status : List ℕ) (b : ℕ) (h : Header) (ws : List ℕ) where
  abbrev chunk : Chunk
  chunk = chunk_of h.chunk h.chunks ws

  pub other_kind : h.kind ≢ 1 → 11 ≡ first_of (address_lines p status b h ws)
  other_kind n = sym (first_true 11 _ _ (not-false (ne_eqb h.kind 1 n)))

  module _ (e : h.kind ≡ 1) where
    one_line : first_of (address_lines p status b h ws)
        ≡ first_of (line 11 (not (ltb h.item (count p))) ∷ line 11 (not (eqb h.sender (sender_at p h.item)))
        ∷ line 11 (not (eqb h.taker (taker_at p h.item))) ∷ line 11 (not (eqb (taker_at p h.item) b))
        ∷ line 11 (not (fits (length (held_by p h.item)) chunk)) ∷ line 14 (not (eqb (get_or status h.item 0) 0)) ∷ [])
    one_line = first_false 11 _ _ (not-true (eq-eqb h.kind 1 e))

    pub no_item : count p ≤ h.item → 11 ≡ first_of (address_lines p status b h ws)
    no_item n = sym (one_line ∙ first_true 11 _ _ (not-false (le-ltb h.item (count p) n)))

    module _ (l : h.item < count p) (x : MessageLine) (is : x ≡ line_of p h.item) where
      two_lines : first_of (address_lines p status b h ws)
          ≡ first_of (line 11 (not (eqb h.sender (sender_at p h.item)))
          ∷ line 11 (not (eqb h.taker (taker_at p h.item))) ∷ line 11 (not (eqb (taker_at p h.item) b))
          ∷ line 11 (not (fits (length (held_by p h.item)) chunk)) ∷ line 14 (not (eqb (get_or status h.item 0) 0)) ∷ [])
      two_lines = one_line ∙ first_false 11 _ _ (not-true (lt-ltb h.item (count p) l))

      from_is : x.from ≡ sender_at p h.item
      from_is = ap (λ (y : MessageLine). y.from) is

      to_is : x.to ≡ taker_at p h.item
      to_is = ap (λ (y : MessageLine). y.to) is

      pub other_sender : h.sender ≢ x.from → 11 ≡ first_of (address_lines p status b h ws)
      other_sender n = sym (two_lines ∙ first_true 11 _ _ (not-false (ne_eqb h.sender _ (λ q. n (q ∙ sym from_is)))))

      module _ (f : h.sender ≡ x.from) where
        three_lines : first_of (address_lines p status b h ws)
            ≡ first_of (line 11 (not (eqb h.taker (taker_at p h.item))) ∷ line 11 (not (eqb (taker_at p h.item) b))
            ∷ line 11 (not (fits (length (held_by p h.item)) chunk)) ∷ line 14 (not (eqb (get_or status h.item 0) 0)) ∷ [])
        three_lines = two_lines ∙ first_false 11 _ _ (not-true (eq-eqb h.sender _ (f ∙ from_is)))

        pub other_taker : h.taker ≢ x.to → 11 ≡ first_of (address_lines p status b h ws)
        other_taker n = sym (three_lines ∙ first_true 11 _ _ (not-false (ne_eqb h.taker _ (λ q. n (q ∙ sym to_is)))))

        module _ (g : h.taker ≡ x.to) where
          four_lines : first_of (address_lines p status b h ws)
              ≡ first_of (line 11 (not (eqb (taker_at p h.item) b))
              ∷ line 11 (not (fits (length (held_by p h.item)) chunk)) ∷ line 14 (not (eqb (get_or status h.item 0) 0)) ∷ [])
          four_lines = three_lines ∙ first_false 11 _ _ (not-true (eq-eqb h.taker _ (g ∙ to_is)))

          pub not_here : x.to ≢ b → 11 ≡ first_of (address_lines p status b h ws)
          not_here n = sym (four_lines ∙ first_true 11 _ _ (not-false (ne_eqb (taker_at p h.item) b (λ q. n (to_is ∙ q)))))

          module _ (here : x.to ≡ b) (n c : ℕ) (en : n ≡ length (held_by p h.item)) (few : length (held_by p h.item) ≤ 18240)
              (ec : c ≡ first_of (take_lines chunk n)) where
            five_lines : first_of (address_lines p status b h ws)
                ≡ first_of (line 11 (not (fits (length (held_by p h.item)) chunk)) ∷ line 14 (not (eqb (get_or status h.item 0) 0)) ∷ [])
            five_lines = four_lines ∙ first_false 11 _ _ (not-true (eq-eqb (taker_at p h.item) b (sym to_is ∙ here)))

            line_is : c ≡ first_of (take_lines chunk (length (held_by p h.item)))
            line_is = ec ∙ ap (λ (k : ℕ). first_of (take_lines chunk k)) en

            misfits : (t : Bool) → fits (length (held_by p h.item)) chunk ≡ t → c ≢ 0 → 11 ≡ first_of (address_lines p status b h ws)
            misfits true q k = absurd (k (line_is ∙ no_lines chunk _ few q))
            misfits false q k = sym (five_lines ∙ first_true 11 _ _ (not-false q))

            pub misfit : c ≢ 0 → 11 ≡ first_of (address_lines p status b h ws)
            misfit = misfits (fits (length (held_by p h.item)) chunk) refl

            module _ (z : c ≡ 0) where
              six_lines : first_of (address_lines p status b h ws) ≡ first_of (line 14 (not (eqb (get_or status h.item 0) 0)) ∷ [])
              six_lines = five_lines ∙ first_false 11 _ _ (not-true (no_line chunk (length (held_by p h.item)) (sym line_is ∙ z)))

              pub came_before : get_or status h.item 0 ≢ 0 → 14 ≡ first_of (address_lines p status b h ws)
              came_before k = sym (six_lines ∙ first_true 14 _ _ (not-false (ne_eqb (get_or status h.item 0) 0 k)))

              pub addressed_here : get_or status h.item 0 ≡ 0 → 0 ≡ first_of (address_lines p status b h ws)
              addressed_here k = sym (six_lines ∙ first_false 14 _ _ (not-true (eq-eqb (get_or status h.item 0) 0 k)) ∙ first_nil)

-- what is known where no line is true
pub record Addressed (p : Plan) (status : List ℕ) (b : ℕ) (h : Header) (ws : List ℕ) : Type 0 where
  pub low : h.item < count p
  pub here : taker_at p h.item ≡ b
  pub fit : fits (length (held_by p h.item)) (chunk_of h.chunk h.chunks ws) ≡ true
  pub free : get_or status h.item 0 ≡ 0

pub addressed : (p : Plan) (status : List ℕ) (b : ℕ) (h : Header) (ws : List ℕ) → first_of (address_lines p status b h ws) ≡ 0 → Addressed p status b h ws
addressed p status b h ws z =
    let a1 = none_first 11 _ _ (λ q. omega arith) z in
    let a2 = none_first 11 _ _ (λ q. omega arith) a1.1 in
    let a3 = none_first 11 _ _ (λ q. omega arith) a2.1 in
    let a4 = none_first 11 _ _ (λ q. omega arith) a3.1 in
    let a5 = none_first 11 _ _ (λ q. omega arith) a4.1 in
    let a6 = none_first 11 _ _ (λ q. omega arith) a5.1 in
    let a7 = none_first 14 _ _ (λ q. omega arith) a6.1 in
    record {
      low = ltb-true h.item (count p) (true_not a2.0);
      here = eqb-true (taker_at p h.item) b (true_not a5.0);
      fit = true_not a6.0;
      free = eqb-true (get_or status h.item 0) 0 (true_not a7.0);
    }

-- ---- its chunk

module _ (p : Plan) (s : State) (b : ℕ) (h : Header) (ws : List ℕ) (i : Inbox) where
  pub took_none : (j : ℕ) → j ≡ first_of (address_lines p s.status b h ws) → j ≢ 0 → answer j (received_as 0 0 i s) ≡ taken_or p s b h ws i
  took_none j e n =
      answered_no j (taken_packet p s i h ws) (received_as 0 0 i s) n
      ∙ ap (λ (x : ℕ). answered x (taken_packet p s i h ws) (received_as 0 0 i s)) e

  took_all : first_of (address_lines p s.status b h ws) ≡ 0 → (x : Received) → x ≡ taken_packet p s i h ws → answer 0 x ≡ taken_or p s b h ws i
  took_all z x e = ap (answer 0) e ∙ answered_yes (first_of (address_lines p s.status b h ws)) (taken_packet p s i h ws) (received_as 0 0 i s) z

one_zero : (t : Bool) → one t ≡ 0 → t ≡ false
unfolding one
one_zero true e = absurd (omega (arith, e))
one_zero false e = refl

one_some : (t : Bool) → one t ≢ 0 → t ≡ true
unfolding one
one_some true e = refl
one_some false e = absurd (e refl)

module _ (r : Route) (x : Nest) (z : Sizes) (sized : Sized x z) (same : z.route ≡ r) (s : State) (b : ℕ) (h : Header) (ws : List ℕ) (i : Inbox)
    (may : MayReceive (plan_of r x) s.buffer s.status i) (line_is : first_of (address_lines (plan_of r x) s.status b h ws) ≡ 0)
    (m : ℕ) (em : m ≡ h.item) (at : MessageSlot) (found : FoundIn r x m at) where
  abbrev p : Plan
  p = plan_of r x

  abbrev known : Addressed p s.status b h ws
  known = addressed p s.status b h ws line_is

  pub low : m < count p
  low = omega (arith, em, known.low)

  pub room : at.offset + at.words ≤ length i.parts
  room = omega (arith, found.room, may.parts_long)

  few : length (held_by p h.item) ≤ 18240
  few = subst (λ (q : Route). h.item < count (plan_of q x) → length (held_by (plan_of q x) h.item) ≤ 18240) same (held_few x z sized h.item) known.low

  offset_is : at.offset ≡ offset p.messages h.item
  offset_is = found.offset ∙ ap (offset p.messages) em

  words_is : at.words ≡ length (held_by p h.item)
  words_is = found.words ∙ ap (λ (k : ℕ). length (held_by p k)) em

  -- what came of the message so far
  area_is : assembly (take (at.offset + at.words - at.offset) (drop at.offset i.parts)) (get_or i.masks m 0) ≡ came_of p i h.item
  unfolding came_of
  area_is =
      ap₂ assembly
      (mid_is i.parts at.offset at.words ∙ ap₂ (λ (o w : ℕ). sublist i.parts o w) offset_is words_is)
      (ap (λ (k : ℕ). get_or i.masks k 0) em)

  came_long : length (came_of p i h.item).area ≡ length (held_by p h.item)
  unfolding came_of
  came_long =
      part_length i.parts (offset p.messages h.item) (length (held_by p h.item))
      (rw may.parts_long (offset_apart p.messages h.item (count p) known.low known.low))

  module _ (t : Taken) (ys : List ℕ) (long : length ys ≡ length (take (at.offset + at.words - at.offset) (drop at.offset i.parts)))
      (e : taking_of t ys ≡ take_chunk_call (chunk_of h.chunk h.chunks ws)
      (assembly (take (at.offset + at.words - at.offset) (drop at.offset i.parts)) (get_or i.masks m 0))) where
    abbrev a : Assembly
    a = came_with p i h ws

    taken_is : taking_of t ys ≡ taking_by 0 (chunk_of h.chunk h.chunks ws) (came_of p i h.item)
    unfolding take_chunk_call
    taken_is =
        e ∙ ap (take_chunk_call (chunk_of h.chunk h.chunks ws)) area_is
        ∙ ap (λ (k : ℕ). taking_by k (chunk_of h.chunk h.chunks ws) (came_of p i h.item))
        (no_lines (chunk_of h.chunk h.chunks ws) (length (came_of p i h.item).area) (omega (arith, came_long, few))
        (ap (λ (k : ℕ). fits k (chunk_of h.chunk h.chunks ws)) came_long ∙ known.fit))

    whole_is_one : t.whole ≡ one (complete h.chunks a.mask)
    whole_is_one = ap (λ (k : Taking). k.whole) taken_is

    ys_is : ys ≡ a.area
    ys_is = ap (λ (k : Taking). k.after.area) taken_is

    mask_is : t.mask ≡ a.mask
    mask_is = ap (λ (k : Taking). k.after.mask) taken_is

    parts_are : put_mid at.offset (at.offset + at.words - at.offset) i.parts ys ≡ put i.parts (offset p.messages h.item) a.area
    parts_are =
        back i.parts ys (λ _. a.area) at.offset at.words room long ys_is ∙ ap (λ (o : ℕ). put i.parts o a.area) offset_is

    masks_are : set i.masks m t.mask ≡ set i.masks h.item a.mask
    masks_are = ap₂ (λ (k v : ℕ). set i.masks k v) em mask_is

    inbox_is : inbox_of (put_mid at.offset (at.offset + at.words - at.offset) i.parts ys) (set i.masks m t.mask) ≡ with_came p i h.item a
    inbox_is = ap₂ inbox_of parts_are masks_are

    pub took_part : t.whole ≡ 0
        → answer 0 (received_as (one false) h.item (inbox_of (put_mid at.offset (at.offset + at.words - at.offset) i.parts ys) (set i.masks m t.mask)) s)
        ≡ taken_or p s b h ws i
    unfolding taken_packet came_now one pick
    took_part w =
        let q : complete h.chunks a.mask ≡ false = one_zero _ (sym whole_is_one ∙ w) in
        took_all p s b h ws i line_is _
        (ap (λ (k : Inbox). received_as 0 h.item k s) inbox_is ∙ sym (ap (λ (v : Bool). came_now p s i h.item a v) q))

    parts_long : length (put_mid at.offset (at.offset + at.words - at.offset) i.parts ys) ≡ length i.parts
    parts_long = ap length parts_are ∙ Rattle.base.proofs.Lists.length_put i.parts (offset p.messages h.item) a.area
        (rw (sym offset_is, sym ys_is, long, mid_length i.parts at.offset at.words room) room)

    pub room_then : at.offset + at.words ≤ length (put_mid at.offset (at.offset + at.words - at.offset) i.parts ys)
    room_then = omega (arith, parts_long, room)

    a_long : length a.area ≡ at.words
    a_long = ap length (sym ys_is) ∙ long ∙ mid_length i.parts at.offset at.words room

    -- the whole message, where it came together
    message_is : take (at.offset + at.words - at.offset) (drop at.offset (put_mid at.offset (at.offset + at.words - at.offset) i.parts ys))
        ≡ a.area
    message_is =
        mid_is (put_mid at.offset (at.offset + at.words - at.offset) i.parts ys) at.offset at.words
        ∙ ap (λ (l : List ℕ). sublist l at.offset at.words) (parts_are ∙ ap (λ (o : ℕ). put i.parts o a.area) (sym offset_is))
        ∙ ap (sublist (put i.parts at.offset a.area) at.offset) (sym a_long)
        ∙ part_put_same i.parts at.offset a.area (omega (arith, a_long, room))

    pub may_take : MayTake p s.buffer s.status m
        (take (at.offset + at.words - at.offset) (drop at.offset (put_mid at.offset (at.offset + at.words - at.offset) i.parts ys)))
    may_take =
        record {
          buffer = may.buffer_long;
          status = may.status_long;
          long = or_right _ (eq-eqb _ _ (ap length message_is ∙ a_long ∙ found.words));
        }

    no_lines_left : first_of (line 11 (not (taken_by p b m)) ∷ line 14 (not (eqb (get_or s.status m 0) 0)) ∷ []) ≡ 0
    no_lines_left =
        first_false 11 _ _ (not-true (and_true (lt-ltb m (count p) low) (eq-eqb _ _ (ap (taker_at p) em ∙ known.here))))
        ∙ first_false 14 _ _ (not-true (eq-eqb _ _ (ap (λ (k : ℕ). get_or s.status k 0) em ∙ known.free))) ∙ first_nil

    -- so it is never refused
    pub took_refused : (e : Refusal) (after : State)
        → answer (code e) after ≡ received_or p s b m
        (take (at.offset + at.words - at.offset) (drop at.offset (put_mid at.offset (at.offset + at.words - at.offset) i.parts ys)))
        → ⊥
    took_refused e after g = code_some e (ap (λ (k : Answered State). k.number) g ∙ no_lines_left)

    pub took_whole : t.whole ≢ 0 → (after : State)
        → answer 0 after ≡ received_or p s b m
        (take (at.offset + at.words - at.offset) (drop at.offset (put_mid at.offset (at.offset + at.words - at.offset) i.parts ys)))
        → answer 0 (received_as (one true) h.item (inbox_of (put_mid at.offset (at.offset + at.words - at.offset) i.parts ys) (set i.masks m t.mask))
        after) ≡ taken_or p s b h ws i
    unfolding taken_packet came_now one pick
    took_whole w after g =
        ap (λ (k : Answered State). answer k.number (received_as 1 h.item inbox k.after))
        (g ∙ sym (answered_yes _ (received p s m message) s no_lines_left)
        ∙ ap₂ (λ (k : ℕ) (l : List ℕ). answer 0 (received p s k l)) em message_is)
        ∙ took_all p s b h ws i line_is _
        (ap (λ (k : Inbox). received_as 1 h.item k (received p s h.item a.area)) inbox_is
        ∙ sym (ap (λ (v : Bool). came_now p s i h.item a v) q))
      where
        q : complete h.chunks a.mask ≡ true
        q = one_some _ (λ k. w (whole_is_one ∙ k))

        inbox : Inbox
        inbox = inbox_of (put_mid at.offset (at.offset + at.words - at.offset) i.parts ys) (set i.masks m t.mask)

        message : List ℕ
        message = take (at.offset + at.words - at.offset) (drop at.offset (put_mid at.offset (at.offset + at.words - at.offset) i.parts ys))

-- ---- the call

-- opened too with its table
pub opened_with : {bytes : List ℕ} {word : ℕ} {l : Layout} → LaidOut bytes word l → (t : Table) → t.layout ≡ l → Opened bytes word (plan_of_table t)
opened_with {bytes} {word} o t e = subst (λ (k : Layout). Opened bytes word (plan_of_layout k)) (sym e) o.opened

pub decoded_numbered : (f n : ℕ) (q : List ℕ) → Numbered (decode_lines f n q)
decoded_numbered f n q = (λ e. omega arith, (λ e. omega arith, tt))

module _ (bytes : List ℕ) (route run : ℕ) (source : List ℕ) (s : State) (b : ℕ) (q : List ℕ) (i : Inbox) where
  abbrev unchanged : Received
  unchanged = received_as 0 0 i s

  abbrev behind : Plan → List Line
  behind p = line 9 (not (inbox_fits p i)) ∷ (unfit_lines p source s ++ address_lines p s.status b (header_of q) (words_of q))

  pub receive_read : (j : ℕ) → j ≡ first_of (lines_for (route_of route) bytes) → j ≢ 0 → answer j unchanged ≡ receive_call bytes route run source s b q i
  unfolding receive_call
  receive_read j e h =
      call_read (lines_for (route_of route) bytes) (numbered_for (route_of route) bytes) _ j _ unchanged e h

  module _ (p : Plan) (o : Opened bytes route p) where
    -- past the recipe's lines
    receive_at : answered (first_of (decode_lines (fingerprint_of bytes route) run q ++ behind p)) (taken_packet p s i (header_of q) (words_of q)) unchanged
        ≡ receive_call bytes route run source s b q i
    unfolding receive_call
    receive_at =
        ap (λ (k : ℕ). answered k (taken_packet p s i (header_of q) (words_of q)) unchanged)
        (sym (first_behind (lines_for (route_of route) bytes) (decode_lines (fingerprint_of bytes route) run q ++ behind p) (numbered_for (route_of route) bytes)
        o.none))
        ∙ ap
        (λ (x : Plan). answered (first_of (lines_for (route_of route) bytes ++ (decode_lines (fingerprint_of bytes route) run q ++ behind x)))
        (taken_packet x s i (header_of q) (words_of q)) unchanged) o.is

    refused_at : (j : ℕ) → j ≡ first_of (decode_lines (fingerprint_of bytes route) run q ++ behind p) → j ≢ 0
        → answer j unchanged ≡ receive_call bytes route run source s b q i
    refused_at j e h =
        answered_no j (taken_packet p s i (header_of q) (words_of q)) unchanged h
        ∙ ap (λ (k : ℕ). answered k (taken_packet p s i (header_of q) (words_of q)) unchanged) e ∙ receive_at

    module _ (d : ℕ) (is-decoded : d ≡ first_of (decode_lines (fingerprint_of bytes route) run q)) where
      pub receive_damaged : d ≢ 0 → answer d unchanged ≡ receive_call bytes route run source s b q i
      receive_damaged h =
          refused_at d
          (is-decoded ∙ sym (first_some (decode_lines (fingerprint_of bytes route) run q) (behind p) (λ e. h (is-decoded ∙ e)))) h

      module _ (z : d ≡ 0) where
        past_packet : first_of (decode_lines (fingerprint_of bytes route) run q ++ behind p) ≡ first_of (behind p)
        past_packet =
            first_behind (decode_lines (fingerprint_of bytes route) run q) (behind p) (decoded_numbered (fingerprint_of bytes route) run q)
            (sym is-decoded ∙ z)

        pub receive_inbox : (eqb (length i.parts) (words p) and eqb (length i.masks) (count p)) ≡ false
            → answer 9 unchanged ≡ receive_call bytes route run source s b q i
        unfolding inbox_fits
        receive_inbox h = refused_at 9 (sym (past_packet ∙ first_true 9 _ _ (not-false h))) (λ e. omega arith)

        module _ (fit-in : (eqb (length i.parts) (words p) and eqb (length i.masks) (count p)) ≡ true) (j : ℕ)
            (ej : j ≡ first_of (unfit_lines p source s)) where
          past_inbox : first_of (decode_lines (fingerprint_of bytes route) run q ++ behind p)
              ≡ first_of (unfit_lines p source s ++ address_lines p s.status b (header_of q) (words_of q))
          unfolding inbox_fits
          past_inbox = past_packet ∙ first_false 9 _ _ (not-true fit-in)

          pub receive_unfit : j ≢ 0 → answer j unchanged ≡ receive_call bytes route run source s b q i
          receive_unfit h =
              refused_at j (ej ∙ sym (past_inbox ∙ first_some (unfit_lines p source s) _ (λ e. h (ej ∙ e)))) h

          module _ (none : j ≡ 0) where
            pub may_receive : MayReceive p s.buffer s.status i
            may_receive =
                let a = areas_are p source s (unfit_none p source s j ej none).0 in
                let f = both fit-in in
                record {
                  buffer_long = a.buffer;
                  status_long = a.status;
                  parts_long = eqb-true (length i.parts) (words p) f.0;
                  masks_long = eqb-true (length i.masks) (count p) f.1;
                }

            past_areas : first_of (decode_lines (fingerprint_of bytes route) run q ++ behind p) ≡ first_of (address_lines p s.status b (header_of q) (words_of q))
            past_areas =
                let y = unfit_none p source s j ej none in
                past_inbox ∙ first_false 9 (not (areas p source s)) _ (not-true y.0) ∙ first_false 10 (not (fit p s)) _ (not-true y.1)

            pub receive_packet : (k : Reading) (out : List ℕ) → ReadAs q k out → (a : Answered Received)
                → a ≡ taken_or p s b k.header (take (k.count - 0) (drop 0 out)) i
                → a ≡ receive_call bytes route run source s b q i
            receive_packet k out read a t =
                t
                ∙ ap₂ (λ (h : Header) (ws : List ℕ). taken_or p s b h ws i) read.header_is words_are
                ∙ ap (λ (x : ℕ). answered x (taken_packet p s i (header_of q) (words_of q)) unchanged) (sym past_areas)
                ∙ receive_at
              where
                words_are : take (k.count - 0) (drop 0 out) ≡ words_of q
                words_are = ap (λ (x : ℕ). take x out) (let e : k.count - 0 ≡ k.count = omega arith in e) ∙ read.words_are
