-- For the proofs alone.
-- What writing an item's chunk and sending a message's answer, line by line.
use Rattle.std.specs.Prelude.{◌≡◌, ℕ, ◌+◌, ◌-◌, ◌*◌, ◌<◌, ◌≤◌, false, eqb, ltb, ◌≢◌, List, [], ◌∷◌, ◌++◌, length, get_or, take, drop}
use mathlib.Core.Path.{refl, sym, ap, ap₂, ◌∙◌}
use native.Mathlib.Nat.{add-sub_cancel_left, sub-zero}
use native.Mathlib.Omega.{arith}
use borrow.Author.Tests.{eq-eqb, ne_eqb, lt-ltb, le-ltb, eqb-true, ltb-true, ltb-false}
use borrow.Rule.Slice.PartMut.{put_mid}
use lib.ListN.{length-take, length-drop}
use lib.Seq.{get_or-take, ext_get_or}
use Rattle.base.specs.Tests.{not}
use Rattle.base.specs.Lists.{sublist}
use Rattle.base.specs.Numbers.{line, first_of}
use Rattle.base.proofs.Tests.{not-true, not-false, true_not}
use Rattle.base.proofs.Lists.{part_length}
use Rattle.base.proofs.Numbers.{first_nil, first_true, first_false, first_behind, none_first}
use Rattle.machine.specs.Plan.{Plan, count, words, held_by, offset}
use Rattle.machine.specs.Machine.{place_of, Answered, answered}
use Rattle.machine.proofs.Values.{offset_apart}
use Rattle.nest.specs.declared.Nest.{Nest}
use Rattle.plan.specs.declared.Route.{Route}
use Rattle.plan.specs.Shaped.{plan_of}
use Rattle.layout.specs.RouteWords.{route_of}
use Rattle.recipe.specs.Routes.{lines_for}
use Rattle.recipe.proofs.Laws.{numbered_for}
use Rattle.network.specs.Apart.{sender_at}
use Rattle.tables.specs.declared.scans.MessageSlot.{MessageSlot}
use Rattle.tables.specs.Tables.{FoundIn}
use Rattle.summary.specs.declared.MessageLine.{MessageLine}
use Rattle.summary.specs.Summary.{line_of}
use Rattle.stages.proofs.Parts.{mid_is}
use Rattle.engine.specs.Calls.{answer}
use Rattle.engine.proofs.Turns.{answered_no, answered_yes}
use Rattle.engine.proofs.Lines.{Opened, call_read}
use Rattle.packets.specs.declared.Header.{Header}
use Rattle.packets.specs.Fingerprint.{fingerprint_of}
use Rattle.packets.specs.Packet.{packet_length, encode_packet, unfit}
use Rattle.packets.specs.Cut.{chunks_of, chunk_length, cut}
use Rattle.packets.specs.Calls.{Written, written_of, write_call}
use Rattle.base.specs.Refusals.{code}
use Rattle.base.specs.declared.refusal.Refusal.{Refusal}
use Rattle.packets.proofs.Answers.{header_from, fit_is, write_done}
use Rattle.base.proofs.Codes.{code_some}
use Rattle.packets.proofs.Assembling.{ends, cut_length}
use Rattle.packets.proofs.RoundTrip.{encode_length}
use Rattle.wire.specs.Wire.{Label, label, headed, item_packet, Letter, letter_of, letter, packet_lines, packet_call, message_label, packet_of, send_lines}
use Rattle.wire.specs.Wire.{sent_or, send_call}

-- ---- a packet into a space

-- written into its first n bytes, which is the packet's length
module _ (h : Header) (ws space ys : List ℕ) (n : ℕ) (e : n ≡ 60 + 4 * length ws) (few : length ws ≤ 285) (long : length space ≡ 1200) where
  many : n - 0 ≡ n
  many = sub-zero n

  fits_is : unfit (length ws) (length (take (n - 0) (drop 0 space))) ≡ false
  fits_is = fit_is (length ws) (length (take (n - 0) (drop 0 space))) few (length-take (n - 0) space ∙ least)
    where
      least : Prim.Native.Nat.min (n - 0) (length space) ≡ packet_length (length ws)
      least = omega (arith, e, few, long)

  -- it is never refused
  pub put_refused : (r : Refusal) → written_of (code r) ys ≡ write_call h ws (take (n - 0) (drop 0 space)) → ⊥
  put_refused r w =
      code_some r (ap (λ (z : Written). z.number) (w ∙ sym (write_done h ws (take (n - 0) (drop 0 space)) (encode_packet h ws) fits_is refl)))

  pub put_in : (a : ℕ) → written_of a ys ≡ write_call h ws (take (n - 0) (drop 0 space))
      → answer 0 (letter_of n (put_mid 0 (n - 0) space ys)) ≡ answer 0 (letter (encode_packet h ws) space)
  unfolding letter
  put_in a w = ap (answer 0) (ap₂ letter_of as_long_lem bytes)
    where
      is : ys ≡ encode_packet h ws
      is = ap (λ (z : Written). z.space) (w ∙ sym (write_done h ws (take (n - 0) (drop 0 space)) (encode_packet h ws) fits_is refl))

      as_long_lem : n ≡ length (encode_packet h ws)
      as_long_lem = omega (arith, e, encode_length h ws)

      bytes : put_mid 0 (n - 0) space ys ≡ encode_packet h ws ++ drop (length (encode_packet h ws)) space
      bytes = ap₂ (λ (l : List ℕ) (k : ℕ). l ++ drop k space) is (many ∙ as_long_lem)

-- ---- any item

module _ (l : Label) (ws : List ℕ) (k : ℕ) (space : List ℕ) where
  packet_no : (j : ℕ) → j ≡ first_of (packet_lines ws k space) → j ≢ 0 → answer j (letter_of 0 space) ≡ packet_call l ws k space
  unfolding packet_call
  packet_no j e h =
      answered_no j (letter (item_packet l ws k) space) (letter_of 0 space) h
      ∙ ap (λ (x : ℕ). answered x (letter (item_packet l ws k) space) (letter_of 0 space)) e

  pub packet_space : (length space ≡ 1200 → ⊥) → answer 9 (letter_of 0 space) ≡ packet_call l ws k space
  packet_space h = packet_no 9 (sym (first_true 9 _ _ (not-false (ne_eqb (length space) 1200 h)))) (λ q. omega arith)

  module _ (e : length space ≡ 1200) where
    pub packet_long : 18240 < length ws → answer 9 (letter_of 0 space) ≡ packet_call l ws k space
    packet_long h =
        packet_no 9 (sym (first_false 9 _ _ (not-true (eq-eqb (length space) 1200 e)) ∙ first_true 9 _ _ (lt-ltb 18240 (length ws) h)))
        (λ q. omega arith)

    module _ (few : length ws ≤ 18240) where
      pub packet_none : chunks_of (length ws) ≤ k → answer 11 (letter_of 0 space) ≡ packet_call l ws k space
      packet_none h =
          packet_no 11
          (sym (first_false 9 _ _ (not-true (eq-eqb (length space) 1200 e)) ∙ first_false 9 _ _ (le-ltb 18240 (length ws) few)
          ∙ first_true 11 _ _ (not-false (le-ltb k (chunks_of (length ws)) h)))) (λ q. omega arith)

      pub packet_lines_lem : k < chunks_of (length ws) → first_of (packet_lines ws k space) ≡ 0
      packet_lines_lem h =
          first_false 9 _ _ (not-true (eq-eqb (length space) 1200 e)) ∙ first_false 9 _ _ (le-ltb 18240 (length ws) few)
          ∙ first_false 11 _ _ (not-true (lt-ltb k (chunks_of (length ws)) h)) ∙ first_nil

      pub packet_done : (a : Answered Letter) → k < chunks_of (length ws) → a ≡ answer 0 (letter (item_packet l ws k) space)
          → a ≡ packet_call l ws k space
      unfolding packet_call
      packet_done a h w =
          w ∙ answered_yes (first_of (packet_lines ws k space)) (letter (item_packet l ws k) space) (letter_of 0 space) (packet_lines_lem h)

-- the chunk, as the code has it
module _ (ws : List ℕ) (k s : ℕ) (es : s ≡ chunk_length (length ws) k) (low : k < chunks_of (length ws)) where
  pub chunk_room : k * 285 + s ≤ length ws
  chunk_room = omega (arith, es, ends (length ws) k low)

  pub chunk_words : take (k * 285 + s - k * 285) (drop (k * 285) ws) ≡ (cut ws k).words
  unfolding cut sublist
  chunk_words =
      ap (λ (x : ℕ). take x (drop (k * 285) ws)) (add-sub_cancel_left (k * 285) s)
      ∙ ext_get_or 0 (take s (drop (k * 285) ws)) (take 285 (drop (k * 285) ws)) (left ∙ sym right) each
    where
      left : length (take s (drop (k * 285) ws)) ≡ s
      left = length-take s (drop (k * 285) ws) ∙ inner (length-drop (k * 285) ws)
        where
          inner : length (drop (k * 285) ws) ≡ length ws - k * 285 → Prim.Native.Nat.min s (length (drop (k * 285) ws)) ≡ s
          inner q = omega (arith, q, chunk_room)

      right : length (take 285 (drop (k * 285) ws)) ≡ s
      right = cut_length ws k ∙ sym es

      each : (i : ℕ) → i < length (take s (drop (k * 285) ws)) → get_or (take s (drop (k * 285) ws)) i 0 ≡ get_or (take 285 (drop (k * 285) ws)) i 0
      each i h =
          let below : i < s = omega (arith, h, left) in
          get_or-take s (drop (k * 285) ws) i 0 below
          ∙ sym (get_or-take 285 (drop (k * 285) ws) i 0 (omega (arith, es, below)))

  -- and its packet
  pub chunk_packet : (f n life kind from to item c : ℕ) (space : List ℕ) → c ≡ chunks_of (length ws) → (x : Answered Letter)
      → x ≡ answer 0 (letter (encode_packet (header_from f n life kind from to item k c) (take (k * 285 + s - k * 285) (drop (k * 285) ws))) space)
      → x ≡ answer 0 (letter (item_packet (label f n life kind from to item) ws k) space)
  unfolding item_packet headed
  chunk_packet f n life kind from to item c space ec x e =
      e ∙ ap₂ (λ (y : ℕ) (l : List ℕ). answer 0 (letter (encode_packet (header_from f n life kind from to item k y) l) space)) ec chunk_words

-- ---- a message: the number

module _ (p : Plan) (buffer : ℕ) (status : List ℕ) (b m k space : ℕ) where
  number : ℕ
  number = first_of (send_lines p buffer status b m k space)

  pub number_buffer : buffer ≢ words p → 9 ≡ first_of (send_lines p buffer status b m k space)
  number_buffer h = sym (first_true 9 _ _ (not-false (ne_eqb buffer (words p) h)))

  module _ (e : buffer ≡ words p) where
    pub number_status : length status ≢ count p → 9 ≡ first_of (send_lines p buffer status b m k space)
    number_status h = sym (first_false 9 _ _ (not-true (eq-eqb buffer (words p) e)) ∙ first_true 9 _ _ (not-false (ne_eqb (length status) (count p) h)))

    module _ (f : length status ≡ count p) where
      two : first_of (send_lines p buffer status b m k space)
          ≡ first_of (line 9 (not (eqb space 1200)) ∷ line 11 (not (ltb m (count p))) ∷ line 11 (not (eqb (sender_at p m) b))
          ∷ line 11 (not (ltb k (chunks_of (length (held_by p m))))) ∷ line 14 (ltb (get_or status m 0) 2) ∷ [])
      two = first_false 9 _ _ (not-true (eq-eqb buffer (words p) e)) ∙ first_false 9 _ _ (not-true (eq-eqb (length status) (count p) f))

      pub number_space : space ≢ 1200 → 9 ≡ first_of (send_lines p buffer status b m k space)
      number_space h = sym (two ∙ first_true 9 _ _ (not-false (ne_eqb space 1200 h)))

      module _ (g : space ≡ 1200) where
        three : first_of (send_lines p buffer status b m k space)
            ≡ first_of (line 11 (not (ltb m (count p))) ∷ line 11 (not (eqb (sender_at p m) b))
            ∷ line 11 (not (ltb k (chunks_of (length (held_by p m))))) ∷ line 14 (ltb (get_or status m 0) 2) ∷ [])
        three = two ∙ first_false 9 _ _ (not-true (eq-eqb space 1200 g))

        pub number_message : count p ≤ m → 11 ≡ first_of (send_lines p buffer status b m k space)
        number_message h = sym (three ∙ first_true 11 _ _ (not-false (le-ltb m (count p) h)))

        module _ (l : m < count p) (x : MessageLine) (is : x ≡ line_of p m) where
          four : first_of (send_lines p buffer status b m k space)
              ≡ first_of (line 11 (not (eqb (sender_at p m) b)) ∷ line 11 (not (ltb k (chunks_of (length (held_by p m))))) ∷ line 14 (ltb (get_or status m 0) 2) ∷ [])
          four = three ∙ first_false 11 _ _ (not-true (lt-ltb m (count p) l))

          from_is : x.from ≡ sender_at p m
          from_is = ap (λ (y : MessageLine). y.from) is

          pub number_sender : x.from ≢ b → 11 ≡ first_of (send_lines p buffer status b m k space)
          number_sender h = sym (four ∙ first_true 11 _ _ (not-false (ne_eqb (sender_at p m) b (λ q. h (from_is ∙ q)))))

          module _ (here : x.from ≡ b) where
            five : first_of (send_lines p buffer status b m k space)
                ≡ first_of (line 11 (not (ltb k (chunks_of (length (held_by p m))))) ∷ line 14 (ltb (get_or status m 0) 2) ∷ [])
            five = four ∙ first_false 11 _ _ (not-true (eq-eqb (sender_at p m) b (sym from_is ∙ here)))

            pub number_chunk : chunks_of (length (held_by p m)) ≤ k → 11 ≡ first_of (send_lines p buffer status b m k space)
            number_chunk h = sym (five ∙ first_true 11 _ _ (not-false (le-ltb k (chunks_of (length (held_by p m))) h)))

            module _ (low : k < chunks_of (length (held_by p m))) where
              six : first_of (send_lines p buffer status b m k space) ≡ first_of (line 14 (ltb (get_or status m 0) 2) ∷ [])
              six = five ∙ first_false 11 _ _ (not-true (lt-ltb k (chunks_of (length (held_by p m))) low))

              pub number_unposted : get_or status m 0 < 2 → 14 ≡ first_of (send_lines p buffer status b m k space)
              number_unposted h = sym (six ∙ first_true 14 _ _ (lt-ltb (get_or status m 0) 2 h))

              pub number_none : 2 ≤ get_or status m 0 → 0 ≡ first_of (send_lines p buffer status b m k space)
              number_none h = sym (six ∙ first_false 14 _ _ (le-ltb (get_or status m 0) 2 h) ∙ first_nil)

-- what is known where no line is true
pub record Sendable (p : Plan) (buffer : ℕ) (status : List ℕ) (b m k space : ℕ) : Type 0 where
  pub buffer_long : buffer ≡ words p
  pub space_long : space ≡ 1200
  pub low : m < count p
  pub here : sender_at p m ≡ b
  pub chunk_low : k < chunks_of (length (held_by p m))
  pub posted : 2 ≤ get_or status m 0

pub sendable : (p : Plan) (buffer : ℕ) (status : List ℕ) (b m k space : ℕ) → first_of (send_lines p buffer status b m k space) ≡ 0
    → Sendable p buffer status b m k space
sendable p buffer status b m k space z =
    let a1 = none_first 9 _ _ (λ q. omega arith) z in
    let a2 = none_first 9 _ _ (λ q. omega arith) a1.1 in
    let a3 = none_first 9 _ _ (λ q. omega arith) a2.1 in
    let a4 = none_first 11 _ _ (λ q. omega arith) a3.1 in
    let a5 = none_first 11 _ _ (λ q. omega arith) a4.1 in
    let a6 = none_first 11 _ _ (λ q. omega arith) a5.1 in
    let a7 = none_first 14 _ _ (λ q. omega arith) a6.1 in
    record {
      buffer_long = eqb-true buffer (words p) (true_not a1.0);
      space_long = eqb-true space 1200 (true_not a3.0);
      low = ltb-true m (count p) (true_not a4.0);
      here = eqb-true (sender_at p m) b (true_not a5.0);
      chunk_low = ltb-true k (chunks_of (length (held_by p m))) (true_not a6.0);
      posted = ltb-false (get_or status m 0) 2 a7.0;
    }

-- ---- a message: past the recipe's lines

module _ (p : Plan) (f n life : ℕ) (buffer status : List ℕ) (b m k : ℕ) (space : List ℕ) where
  pub sent_no : (j : ℕ) → j ≡ first_of (send_lines p (length buffer) status b m k (length space)) → j ≢ 0
      → answer j (letter_of 0 space) ≡ sent_or p f n life buffer status b m k space
  sent_no j e h =
      answered_no j (letter (packet_of p f n life buffer m k) space) (letter_of 0 space) h
      ∙ ap (λ (x : ℕ). answered x (letter (packet_of p f n life buffer m k) space) (letter_of 0 space)) e

  module _ (z : first_of (send_lines p (length buffer) status b m k (length space)) ≡ 0) (few : length (held_by p m) ≤ 18240) where
    abbrev known : Sendable p (length buffer) status b m k (length space)
    known = sendable p (length buffer) status b m k (length space) z

    pub place_long : length (place_of p buffer m) ≡ length (held_by p m)
    place_long =
        part_length buffer (offset p.messages m) (length (held_by p m))
        (rw known.buffer_long (offset_apart p.messages m (count p) known.low known.low))

    pub sent_yes : (a : Answered Letter) → a ≡ packet_call (message_label p f n life m) (place_of p buffer m) k space
        → a ≡ sent_or p f n life buffer status b m k space
    unfolding packet_call packet_of
    sent_yes a e =
        e
        ∙ sym (answered_yes (first_of (packet_lines (place_of p buffer m) k space)) new (letter_of 0 space)
        (packet_lines_lem (message_label p f n life m) (place_of p buffer m) k space known.space_long (omega (arith, place_long, few))
        (rw place_long known.chunk_low)))
        ∙ answered_yes (first_of (send_lines p (length buffer) status b m k (length space))) new (letter_of 0 space) z
      where
        new : Letter
        new = letter (item_packet (message_label p f n life m) (place_of p buffer m) k) space

-- from the place and the line that were found
pub sent_found : (r : Route) (x : Nest) (f n life : ℕ) (buffer : List ℕ) (m k : ℕ) (space : List ℕ) (at : MessageSlot) → FoundIn r x m at
    → (l : MessageLine) → l ≡ line_of (plan_of r x) at.number → (a : Answered Letter)
    → a ≡ packet_call (label f n life 1 l.from l.to m) (take (at.offset + at.words - at.offset) (drop at.offset buffer)) k space
    → a ≡ packet_call (message_label (plan_of r x) f n life m) (place_of (plan_of r x) buffer m) k space
sent_found r x f n life buffer m k space at g l is a q =
    q
    ∙ ap₂ (λ (y : MessageLine) (w : List ℕ). packet_call (label f n life 1 y.from y.to m) w k space)
    (is ∙ ap (line_of (plan_of r x)) g.number)
    (mid_is buffer at.offset at.words
    ∙ ap₂ (λ (o w : ℕ). sublist buffer o w) g.offset g.words)

-- ---- the call

module _ (bytes : List ℕ) (route run life : ℕ) (buffer status : List ℕ) (b m k : ℕ) (space : List ℕ) where
  pub send_read : (j : ℕ) → j ≡ first_of (lines_for (route_of route) bytes) → j ≢ 0
      → answer j (letter_of 0 space) ≡ send_call bytes route run life buffer status b m k space
  unfolding send_call
  send_read j e h =
      call_read (lines_for (route_of route) bytes) (numbered_for (route_of route) bytes) _ j _ (letter_of 0 space) e h

  pub send_rest : (p : Plan) → Opened bytes route p → (f : ℕ) → f ≡ fingerprint_of bytes route
      → sent_or p f run life buffer status b m k space ≡ send_call bytes route run life buffer status b m k space
  unfolding send_call
  send_rest p o f e =
      ap (λ (x : ℕ). sent_or p x run life buffer status b m k space) e
      ∙ ap (λ (x : ℕ). answered x (letter (packet_of p (fingerprint_of bytes route) run life buffer m k) space) (letter_of 0 space))
      (sym
      (first_behind (lines_for (route_of route) bytes) (send_lines p (length buffer) status b m k (length space)) (numbered_for (route_of route) bytes) o.none))
      ∙ ap
      (λ (q : Plan). answered (first_of (lines_for (route_of route) bytes ++ send_lines q (length buffer) status b m k (length space)))
      (letter (packet_of q (fingerprint_of bytes route) run life buffer m k) space) (letter_of 0 space)) o.is
