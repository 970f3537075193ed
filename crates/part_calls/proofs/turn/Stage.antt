-- Laws of a stage's work on a part: what each function that it calls asks for, and what is left.
use Rattle.std.specs.Prelude.{◌≡◌, ℕ, ◌+◌, ◌<◌, ◌≤◌, true, ltb, List, [], length, get_or, set}
use mathlib.Core.Path.{sym, ap, ◌∙◌}
use native.Mathlib.Omega.{arith}
use Rattle.base.specs.Tests.{pick}
use Rattle.base.specs.Lists.{put, set_all, pack, store_all}
use Rattle.base.proofs.Entries.{at_in}
use Rattle.base.proofs.Select.{keep_lt, at_is, at_low, in_those}
use Rattle.machine.specs.Plan.{Plan, count, sender_of, held_by, tiles_of, sends_of, dues_of}
use Rattle.machine.specs.Machine.{state_of, set_progress, carry_out, gather, calculate, send}
use Rattle.plan.proofs.ShapedSound.{sound}
use Rattle.tables.specs.declared.Table.{Table}
use Rattle.tables.specs.Given.{plan_of_table}
use Rattle.tables.specs.declared.scans.MessageSlot.{MessageSlot}
use Rattle.tables.specs.Tables.{FoundIn}
use Rattle.network.specs.Own.{handles, kept_cells, handled}
use Rattle.part.specs.Part.{words_of, all_of}
use Rattle.part_calls.specs.front.Calls.{from_part, to_part}
use Rattle.part_calls.specs.front.Given.{PartLengths}
use Rattle.part_calls.specs.turn.Step.{Lengths, Tables, Ranked, Placed, Keeping, unpack_from, Stands}
use Rattle.part_calls.proofs.front.Part.{words_room}
use Rattle.part_calls.proofs.front.Wide.{dues_handled, sends_handled}
use Rattle.part_calls.proofs.turn.Kept.{due_kept, sent_kept}
use Rattle.part_calls.proofs.turn.After as after

-- ---- the tile at which a processor stands

pub stands_own : (p : Plan) (l : List ℕ) (b t : ℕ) → Stands p l b t → p.processor_of t ≡ b
stands_own p l b t s = ap p.processor_of s.tile ∙ at_is p.processor_of b p.tiles (get_or l 0 0) s.left

pub stands : (p : Plan) (l : List ℕ) (b t finished n : ℕ) → finished ≡ get_or l 0 0 → (n ≡ length (tiles_of p b)) × (n ≤ 16384) → finished < n
    → t ≡ get_or (tiles_of p b) finished 0 → t < p.tiles → Stands p l b t
stands p l b t finished n f e h i k =
    record {
      left = omega (arith, f, e.0, h);
      tile = i ∙ ap (λ (j : ℕ). get_or (tiles_of p b) j 0) f;
      low = k;
      few = omega (arith, f, h, e.1);
    }

module _ (y : Table) (b : ℕ) (kept counts ordinals starts : List ℕ) (t : Tables y b kept counts ordinals starts) where
  abbrev p : Plan
  p = plan_of_table y

  -- ---- the messages of one of its tiles
  module _ (m : ℕ) (lo : m < count p) (h : handles p b m ≡ true) where
    pub rank_room : (marks : List ℕ) → length marks ≡ length (handled p b) → get_or ordinals m 0 < length marks
    rank_room marks e = omega (arith, e, t.known.ordinals m (omega (arith, lo)), keep_lt (handles p b) (count p) m lo h)

    pub place_room : (mail : List ℕ) → length mail ≡ words_of p (handled p b) → get_or starts m 0 + length (held_by p m) ≤ length mail
    place_room mail e = omega (arith, e, t.known.starts m (omega (arith, lo)), words_room p (handles p b) m lo h)

  module _ (tile : ℕ) (mine : p.processor_of tile ≡ b) where
    pub ranked : (marks : List ℕ) → length marks ≡ length (handled p b) → Ranked p ordinals (dues_of p tile) (length marks)
    ranked marks e =
        record { few = t.known.few; low = λ m i. let k = dues_handled p b tile mine m i in rank_room m k.0 k.1 marks e }

    pub placed : (mail : List ℕ) → length mail ≡ words_of p (handled p b) → Placed p starts (dues_of p tile) (length mail)
    placed mail e =
        record { few = t.known.few; low = λ m i. let k = dues_handled p b tile mine m i in place_room m k.0 k.1 mail e }

    -- a due message that was found
    pub due_cells : (j : ℕ) (r : MessageSlot) → j < length (dues_of p tile) → FoundIn y.layout.sizes.route y.layout.nest (get_or (dues_of p tile) j 0) r → Keeping p b r.number
    due_cells j r l q =
        due_kept p (sound y.layout.sizes.route y.layout.nest y.layout.sized.accepted) b tile mine r.number (rw q.number (at_in (dues_of p tile) j l))

    -- the message to be sent
    module _ (n : ℕ) (r : MessageSlot) (few : n < length (sends_of p tile)) (q : FoundIn y.layout.sizes.route y.layout.nest (get_or (sends_of p tile) n 0) r) where
      own_message : handles p b r.number ≡ true
      own_message =
          rw q.number
          (sends_handled p b tile mine _
          (in_those (sender_of p) tile (count p) _ (at_low (sender_of p) tile (count p) n few) (at_is (sender_of p) tile (count p) n few))).1

      number_below : r.number < count p
      number_below = omega (arith, q.number, q.low)

      pub sent_cells : Keeping p b r.number
      sent_cells =
          sent_kept p (sound y.layout.sizes.route y.layout.nest y.layout.sized.accepted) b tile mine r.number number_below
          (ap (sender_of p) q.number ∙ at_is (sender_of p) tile (count p) n few)

      pub sent_low : r.number < 7169
      sent_low = omega (arith, t.known.few, q.number, q.low)

      pub sent_rank : (marks : List ℕ) (rank : ℕ) → length marks ≡ length (handled p b) → rank ≡ get_or ordinals r.number 0 → rank < length marks
      sent_rank marks rank e k = omega (arith, k, rank_room r.number number_below own_message marks e)

      pub sent_room : (mail : List ℕ) (at : ℕ) → length mail ≡ words_of p (handled p b) → at ≡ get_or starts r.number 0 → at + r.words ≤ length mail
      sent_room mail at e k =
          omega (
            arith,
            k,
            q.words ∙ ap (λ (m : ℕ). length (held_by p m)) (sym q.number),
            place_room r.number number_below own_message mail e,
          )

  -- ---- what a stage leaves
  module _ (memory mail marks l : List ℕ) (g : Lengths p b memory mail marks) (three : length l ≡ 3) (finished : ℕ) (f : finished ≡ get_or l 0 0) where
    lengths : PartLengths p b (state_of memory mail l marks)
    lengths = record { memory = g.memory; mail = g.mail; progress = three; marks = g.marks }

    pub gather_leaves : (tile : ℕ) → p.processor_of tile ≡ b → (memory' marks' : List ℕ)
        → memory' ≡ pack (unpack_from p starts mail (all_of p b memory) (dues_of p tile)) (kept_cells p b)
        → marks' ≡ set_all marks (pack ordinals (dues_of p tile)) 3
        → state_of memory' mail (set_progress l 0 finished 1 0) marks'
        ≡ to_part p b (carry_out p [] (from_part p b (state_of memory mail l marks)) b (gather tile))
    gather_leaves tile mine memory' marks' w m =
        after.gathered p b (state_of memory mail l marks) t.known.low lengths ordinals starts t.known.ordinals t.known.starts tile mine memory'
        marks'
        _ w m
        (ap (λ (k : ℕ). set_progress l 0 k 1 0) f)

    pub calculate_leaves : (tile n : ℕ) (source memory' l' : List ℕ)
        → memory' ≡ pack (store_all (p.value source) (all_of p b memory) (p.cells_of tile)) (kept_cells p b) → n ≡ length (sends_of p tile)
        → l' ≡ pick (ltb 0 n) (set_progress l 0 finished 2 0) (set_progress l 0 (finished + 1) 0 0)
        → state_of memory' mail l' marks ≡ to_part p b (carry_out p source (from_part p b (state_of memory mail l marks)) b (calculate tile))
    calculate_leaves tile n source memory' l' w e q =
        after.calculated p b (state_of memory mail l marks) t.known.low lengths tile n source memory' l' w e
        (q ∙ ap (λ (k : ℕ). pick (ltb 0 n) (set_progress l 0 k 2 0) (set_progress l 0 (k + 1) 0 0)) f)

    pub send_leaves : (tile : ℕ) → p.processor_of tile ≡ b → (sent n at rank : ℕ) (r : MessageSlot) (mail' l' : List ℕ) → sent < length (sends_of p tile)
        → FoundIn y.layout.sizes.route y.layout.nest (get_or (sends_of p tile) sent 0) r → sent ≡ get_or l 2 0 → n ≡ length (sends_of p tile)
        → at ≡ get_or starts r.number 0 → rank ≡ get_or ordinals r.number 0 → mail' ≡ put mail at (pack (all_of p b memory) (held_by p r.number))
        → l' ≡ pick (ltb (sent + 1) n) (set_progress l 0 finished 2 (sent + 1)) (set_progress l 0 (finished + 1) 0 0)
        → state_of memory mail' l' (set marks rank 1)
        ≡ to_part p b (carry_out p [] (from_part p b (state_of memory mail l marks)) b (send (get_or (sends_of p tile) sent 0)))
    send_leaves tile mine sent n at rank r mail' l' few q now e k y u w =
        after.sent_off p b (state_of memory mail l marks) t.known.low lengths ordinals starts t.known.ordinals t.known.starts tile mine r.number
        sent n
        mail' _ l' few q.number now e (u ∙ ap (λ (i : ℕ). put mail i (pack (all_of p b memory) (held_by p r.number))) k) (ap (λ (i : ℕ). set marks i 1) y)
        (w ∙ ap (λ (i : ℕ). pick (ltb (sent + 1) n) (set_progress l 0 i 2 (sent + 1)) (set_progress l 0 (i + 1) 0 0)) f)
