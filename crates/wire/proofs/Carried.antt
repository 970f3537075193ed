-- For the proofs alone.
-- Sending and receiving together.
use Rattle.std.specs.Prelude.{◌≡◌, ℕ, zero, suc, ◌+◌, ◌*◌, ◌^◌, ◌<◌, ◌≤◌, Bool, true, false, eqb, ◌≢◌, List, [], ◌∷◌, ◌++◌, length, get_or, take, drop}
use mathlib.Core.Path.{refl, sym, ap, ap₂, ◌∙◌}
use native.Mathlib.Omega.{arith}
use native.Mathlib.Decide.{dec_lt}
use lib.Seq.{take_at, get_or-take, get_or-drop}
use borrow.Author.Tests.{eq-eqb, ne_eqb, lt-ltb}
use Rattle.base.specs.Tests.{not}
use Rattle.base.specs.Lists.{sublist}
use Rattle.base.specs.Numbers.{Line, line, first_of}
use Rattle.base.proofs.Tests.{and_true, not-true, pick_false}
use Rattle.base.proofs.Numbers.{first_nil, first_true, first_false, first_cons, first_some, first_behind, none_front, none_behind}
use Rattle.machine.specs.Plan.{Plan, Sound, count, held_by, sender_of, taker_of}
use Rattle.machine.specs.Machine.{State, place_of, fit, Answered, answered}
use Rattle.network.specs.Apart.{sender_at, taker_at}
use Rattle.nest.specs.Accepted.{Accepted}
use Rattle.nest.specs.Reader.{nest_of}
use Rattle.nest.specs.Nest.{cells}
use Rattle.nest.proofs.Facts.{accepted}
use Rattle.plan.proofs.ShapedSound.{sound}
use Rattle.layout.specs.RouteWords.{route_of}
use Rattle.recipe.specs.Routes.{lines_for}
use Rattle.recipe.proofs.Laws.{numbered_for, reads_for}
use Rattle.engine.specs.Calls.{answer, recipe, areas}
use Rattle.engine.proofs.Turns.{answered_no, answered_yes}
use Rattle.packets.specs.declared.Header.{Header}
use Rattle.packets.specs.Fingerprint.{fingerprint_of}
use Rattle.packets.specs.Packet.{Words, Fit, encode_packet, header_of, words_of, damaged, stale, decode_lines, packet, refused, decoded_by, decode_packet}
use Rattle.packets.specs.Cut.{chunks_of, chunk_length, chunk_of, cut, fits}
use Rattle.packets.proofs.Laws.{packets_hold}
use Rattle.packets.proofs.Assembling.{few, cut_length}
use Rattle.packets.proofs.RoundTrip.{header_is, words_are, whole, fresh, decode_encode, encode_bytes}
use Rattle.packets.proofs.Bursts.{burst_damaged, damaged_refused}
use Rattle.wire.specs.Wire.{headed, item_packet, Letter, letter, letter_of, message_label, packet_of, send_lines, send_call, Inbox, inbox_fits}
use Rattle.wire.specs.Wire.{address_lines, Received, received_as, taken_packet, receive_lines, receive_call}
use Rattle.wire.specs.Carried.{Sent, sent_bytes, arrival_lines, chunk_came, WireHolds}
use Rattle.wire.proofs.Sending.{Sendable, sendable, place_long}
use Rattle.wire.proofs.Receiving.{rising_few, decoded_numbered}

-- words of a part are words
part_words : (l : List ℕ) (i n : ℕ) → Words l → Words (sublist l i n)
unfolding sublist
part_words l i n w j = go (dec_lt j n)
  where
    go : Dec (j < n) → get_or (take n (drop i l)) j 0 < 2 ^ 32
    go (yes h) = let e = get_or-take n (drop i l) j 0 h ∙ get_or-drop i l j 0 in omega (arith, e, w (i + j))
    go (no h) = let e = take_beyond n (drop i l) j (omega arith) in omega (arith, e)
      where
        take_beyond : (n : ℕ) (l : List ℕ) (j : ℕ) → n ≤ j → get_or (take n l) j 0 ≡ 0
        take_beyond zero l j h = refl
        take_beyond (suc n) [] j h = refl
        take_beyond (suc n) (x ∷ l) zero h = absurd (omega arith)
        take_beyond (suc n) (x ∷ l) (suc j) h = take_beyond n l j (omega arith)

-- ---- what was sent

module _ (bytes : List ℕ) (route run life : ℕ) (buffer status : List ℕ) (b m k : ℕ) (space : List ℕ)
    (sent : Sent bytes route run life buffer status b m k space) where
  abbrev p : Plan
  p = recipe bytes route

  abbrev f : ℕ
  f = fingerprint_of bytes route

  abbrev words : List ℕ
  words = (cut (place_of p buffer m) k).words

  abbrev header : Header
  header = headed (message_label p f run life m) k (length (held_by p m))

  numbers : first_of (lines_for (route_of route) bytes ++ send_lines p (length buffer) status b m k (length space)) ≡ 0
  unfolding send_call
  numbers = sent.done

  pub open_lines : first_of (lines_for (route_of route) bytes) ≡ 0
  open_lines = none_front (lines_for (route_of route) bytes) (send_lines p (length buffer) status b m k (length space)) numbers

  its_lines : first_of (send_lines p (length buffer) status b m k (length space)) ≡ 0
  its_lines =
      none_behind (lines_for (route_of route) bytes) (send_lines p (length buffer) status b m k (length space)) (numbered_for (route_of route) bytes) numbers

  abbrev known : Sendable p (length buffer) status b m k (length space)
  known = sendable p (length buffer) status b m k (length space) its_lines

  ok : Accepted (nest_of bytes)
  ok = accepted bytes sent.small (reads_for (route_of route) bytes open_lines)

  so : Sound p
  so = sound (route_of route) (nest_of bytes) ok

  held_few : length (held_by p m) ≤ 18240
  held_few =
      omega (arith, rising_few (held_by p m) (cells (nest_of bytes)) (so.held_rising m known.low) (λ c i. so.held_low m c known.low i), ok.cells_most)

  long : length (place_of p buffer m) ≡ length (held_by p m)
  long = place_long p f run life buffer status b m k space its_lines held_few

  low_processor : (t : ℕ) → t < p.tiles → p.processor_of t < 2 ^ 32
  low_processor t h = omega (arith, so.processor_low t h, ok.processors_most)

  chunks_few : chunks_of (length (held_by p m)) ≤ 64
  chunks_few = few (length (held_by p m)) held_few

  pub fit_sent : Fit header words
  unfolding headed cut
  fit_sent =
      record {
        fingerprint = packets_hold.marked bytes route sent.small;
        run = sent.run_fits;
        life = sent.life_fits;
        kind = omega arith;
        sender = low_processor (sender_of p m) (omega (arith, so.forward m known.low, so.taker_low m known.low));
        taker = low_processor (taker_of p m) (so.taker_low m known.low);
        item = sent.message_fits;
        chunk = omega (arith, known.chunk_low, chunks_few);
        chunks = omega (arith, chunks_few);
        count = omega (arith, cut_length (place_of p buffer m) k);
        words = part_words (place_of p buffer m) (k * 285) 285 (part_words buffer _ _ sent.words_fit);
      }

  packet_is : packet_of p f run life buffer m k ≡ encode_packet header words
  unfolding packet_of item_packet
  packet_is = ap (λ (n : ℕ). encode_packet (headed (message_label p f run life m) k n) words) long

  after_is : (send_call bytes route run life buffer status b m k space).after ≡ letter (packet_of p f run life buffer m k) space
  unfolding send_call
  after_is =
      ap (λ (a : Answered Letter). a.after)
      (sym (answered_yes (first_of (lines_for (route_of route) bytes ++ send_lines p (length buffer) status b m k (length space)))
      (letter (packet_of p f run life buffer m k) space) (letter_of 0 space) numbers))

  sent_is : sent_bytes (send_call bytes route run life buffer status b m k space) ≡ encode_packet header words
  unfolding letter
  sent_is =
      ap (λ (a : Letter). take a.long a.space) after_is
      ∙ take_at (packet_of p f run life buffer m k) (drop (length (packet_of p f run life buffer m k)) space) (length (packet_of p f run life buffer m k)) refl
      ∙ packet_is

  pub decoded : decode_packet f run (sent_bytes (send_call bytes route run life buffer status b m k space)) ≡ packet header words
  unfolding headed
  decoded = ap (decode_packet f run) sent_is ∙ decode_encode header words fit_sent

  whole_sent : damaged (encode_packet header words) ≡ false
  whole_sent = whole header words fit_sent

  fresh_sent : stale f run (encode_packet header words) ≡ false
  unfolding headed
  fresh_sent = fresh header words fit_sent

  module _ (source : List ℕ) (s : State) (c : ℕ) (i : Inbox) where
    abbrev q : List ℕ
    q = encode_packet header words

    abbrev rest : Header → List ℕ → List Line
    rest h ws = line 9 (not (inbox_fits p i)) ∷ line 9 (not (areas p source s)) ∷ line 10 (not (fit p s)) ∷ address_lines p s.status c h ws

    its_own : fits (length (held_by p m)) (chunk_of k (chunks_of (length (held_by p m))) words) ≡ true
    unfolding fits cut
    its_own =
        and_true (eq-eqb (chunks_of (length (held_by p m))) (chunks_of (length (held_by p m))) refl)
        (and_true (lt-ltb k (chunks_of (length (held_by p m))) known.chunk_low)
        (eq-eqb (length words) (chunk_length (length (held_by p m)) k) (cut_length (place_of p buffer m) k ∙ ap (λ (n : ℕ). chunk_length n k) long)))

    address_is : first_of (address_lines p s.status c header words)
        ≡ first_of (line 11 (not (eqb (taker_at p m) c)) ∷ line 14 (not (eqb (get_or s.status m 0) 0)) ∷ [])
    unfolding headed
    address_is =
        first_false 11 _ _ (not-true (eq-eqb 1 1 refl))
        ∙ first_false 11 _ _ (not-true (lt-ltb m (count p) known.low))
        ∙ first_false 11 _ _ (not-true (eq-eqb (sender_at p m) (sender_at p m) refl))
        ∙ first_false 11 _ _ (not-true (eq-eqb (taker_at p m) (taker_at p m) refl))
        ∙ first_cons 11 (not (eqb (taker_at p m) c)) _ _ (first_false 11 _ _ (not-true its_own))

    lines_are : first_of (receive_lines bytes route run source s c q i) ≡ first_of (arrival_lines p source s c m i)
    lines_are =
        first_behind (lines_for (route_of route) bytes) (decode_lines f run q ++ rest (header_of q) (words_of q)) (numbered_for (route_of route) bytes) open_lines
        ∙ first_behind (decode_lines f run q) (rest (header_of q) (words_of q)) (decoded_numbered f run q)
        (first_false 26 _ _ whole_sent ∙ first_false 27 _ _ fresh_sent ∙ first_nil)
        ∙ ap₂ (λ (h : Header) (ws : List ℕ). first_of (rest h ws)) (header_is header words fit_sent) (words_are header words fit_sent)
        ∙ first_cons 9 _ _ _ (first_cons 9 _ _ _ (first_cons 10 _ _ _ address_is))

    taken_is : taken_packet p s i (header_of q) (words_of q) ≡ chunk_came p s i m (place_of p buffer m) k
    unfolding taken_packet headed
    taken_is = ap₂ (λ (h : Header) (ws : List ℕ). taken_packet p s i h ws) (header_is header words fit_sent) (words_are header words fit_sent)

    pub carried : receive_call bytes route run source s c (sent_bytes (send_call bytes route run life buffer status b m k space)) i
        ≡ answered (first_of (arrival_lines p source s c m i)) (chunk_came p s i m (place_of p buffer m) k) (received_as 0 0 i s)
    unfolding receive_call
    carried =
        ap (λ (l : List ℕ). receive_call bytes route run source s c l i) sent_is
        ∙ ap₂ (λ (n : ℕ) (x : Received). answered n x (received_as 0 0 i s)) lines_are taken_is

-- ---- what is refused

module _ (bytes : List ℕ) (route run : ℕ) (source : List ℕ) (s : State) (b : ℕ) (q : List ℕ) (i : Inbox) where
  abbrev unchanged : Received
  unchanged = received_as 0 0 i s

  refusal : (receive_call bytes route run source s b q i).number ≢ 0 → (receive_call bytes route run source s b q i).after ≡ unchanged
  unfolding receive_call
  refusal h = pick_false _ _ _ (ne_eqb _ 0 h)

  turned : (n : ℕ) → first_of (lines_for (route_of route) bytes) ≡ 0 → decode_packet (fingerprint_of bytes route) run q ≡ refused n
      → receive_call bytes route run source s b q i ≡ answer n unchanged
  unfolding decode_packet receive_call
  turned n z e = by (damaged q) refl (stale (fingerprint_of bytes route) run q) refl
    where
      number : (k : ℕ) → first_of (decode_lines (fingerprint_of bytes route) run q) ≡ suc k → suc k ≡ n
      number k g = let y : refused (suc k) ≡ refused n = sym (ap (λ (x : ℕ). decoded_by x q) g) ∙ e in cc

      stops : (k : ℕ) → first_of (decode_lines (fingerprint_of bytes route) run q) ≡ suc k → receive_call bytes route run source s b q i ≡ answer n unchanged
      stops k g =
          ap (λ (x : ℕ). answered x (taken_packet (recipe bytes route) s i (header_of q) (words_of q)) unchanged)
          (first_behind (lines_for (route_of route) bytes) _ (numbered_for (route_of route) bytes) z
          ∙ first_some (decode_lines (fingerprint_of bytes route) run q) _ (λ y. absurd (omega (arith, g, y))) ∙ g)
          ∙ sym (answered_no (suc k) (taken_packet (recipe bytes route) s i (header_of q) (words_of q)) unchanged (λ y. absurd (omega (arith, y))))
          ∙ ap (λ (x : ℕ). answer x unchanged) (number k g)

      by : (d : Bool) → damaged q ≡ d → (t : Bool) → stale (fingerprint_of bytes route) run q ≡ t
          → receive_call bytes route run source s b q i ≡ answer n unchanged
      by true d t g = stops 25 (first_true 26 _ _ d)
      by false d true g = stops 26 (first_false 26 _ _ d ∙ first_true 27 _ _ g)
      by false d false g =
          let y : packet (header_of q) (words_of q) ≡ refused n =
          sym (ap (λ (x : ℕ). decoded_by x q) (first_false 26 _ _ d ∙ first_false 27 _ _ g ∙ first_nil)) ∙ e in
          let w : ◌≡◌ {A = ℕ} 0 1 = cc in
          absurd (omega arith)

pub wire_holds : WireHolds
wire_holds =
    record {
      decoded = decoded;
      carried = carried;
      refusal = refusal;
      turned_away = turned;
      burst = λ bytes route run life buffer status b m k space sent source s c q i g u.
          turned bytes route run source s c q i 26 (open_lines bytes route run life buffer status b m k space sent)
          (damaged_refused (fingerprint_of bytes route) run q
          (burst_damaged
          (encode_packet (header bytes route run life buffer status b m k space sent) (words bytes route run life buffer status b m k space sent)) q
          (encode_bytes _ _) g (whole_sent bytes route run life buffer status b m k space sent)
          (rw (sent_is bytes route run life buffer status b m k space sent) at u)));
    }
