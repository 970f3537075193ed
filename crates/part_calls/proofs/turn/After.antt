-- The part after a stage: what the code leaves in memory, mail, record and marks is the part of the machine's areas after that stage.
use Rattle.std.specs.Prelude.{◌≡◌, ℕ, ◌+◌, ◌*◌, ◌<◌, ◌≤◌, Bool, true, false, ltb, List, [], ◌∷◌, length, get_or, set}
use mathlib.Core.Path.{refl, sym, ap, ◌∙◌}
use mathlib.Core.Logic.{inl, inr}
use native.Mathlib.Omega.{arith}
use Rattle.base.specs.Tests.{pick}
use Rattle.base.specs.Lists.{In, sublist, put, set_all, all_at, unpack, pack, store_all}
use Rattle.base.proofs.Select.{at_is, at_low, in_those}
use Rattle.base.proofs.Lists.{piece_same, pack_length, store_length}
use Rattle.machine.specs.Plan.{Plan, count, sender_of, held_by, sends_of, dues_of}
use Rattle.machine.specs.Machine.{State, state_of, finished_of, sent_of, set_progress, memory_of, place_of, unpack_all, after_sends}
use Rattle.machine.specs.Machine.{gather, calculate, send, carry_out}
use Rattle.machine.proofs.Values.{gathered_length}
use Rattle.machine.proofs.Records.{finished_same, stage_same, sent_same}
use Rattle.network.specs.Own.{handles, kept_cells}
use Rattle.part.specs.Part.{rank_of, mail_at, all_of}
use Rattle.part_calls.specs.front.Calls.{from_part, to_part}
use Rattle.part_calls.specs.front.Given.{PartLengths}
use Rattle.part_calls.specs.turn.Step.{unpack_from}
use Rattle.part_calls.proofs.front.Part.{ranks_set, ranks_all}
use Rattle.part_calls.proofs.front.Wide as has
use Rattle.part_calls.proofs.front.Wide.{sends_handled, dues_handled, three_set, state_is}

module _ (p : Plan) (b : ℕ) (s : State) (low : b < p.processors) (g : PartLengths p b s) where
  abbrev w : State
  w = from_part p b s

  -- ---- memory
  memory_after : (memory : List ℕ) → length memory ≡ p.cells → sublist (put w.memories (b * p.cells) memory) (b * p.cells) p.cells ≡ memory
  memory_after memory e = piece_same w.memories p.cells p.processors b memory (has.memories_long p b s low g) e low

  -- ---- the record
  record_after : (l : List ℕ) (f h n : ℕ) → l ≡ set_progress w.progress b f h n
      → get_or l (3 * b) 0 ∷ get_or l (3 * b + 1) 0 ∷ get_or l (3 * b + 2) 0 ∷ [] ≡ set_progress s.progress 0 f h n
  record_after l f h n e =
      let long = has.progress_long p b s low g in
      let x : get_or l (3 * b) 0 ≡ f =
      ap (λ (k : List ℕ). get_or k (3 * b) 0) e ∙ finished_same w.progress b p.processors long low f h n in
      let y : get_or l (3 * b + 1) 0 ≡ h =
      ap (λ (k : List ℕ). get_or k (3 * b + 1) 0) e ∙ stage_same w.progress b p.processors long low f h n in
      let z : get_or l (3 * b + 2) 0 ≡ n =
      ap (λ (k : List ℕ). get_or k (3 * b + 2) 0) e ∙ sent_same w.progress b p.processors long low f h n in
      (let v : get_or l (3 * b) 0 ∷ get_or l (3 * b + 1) 0 ∷ get_or l (3 * b + 2) 0 ∷ [] ≡ f ∷ h ∷ n ∷ [] = cc in v)
      ∙ sym (three_set s.progress g.progress f h n)

  -- once n of the tile's messages are sent
  sends_after : (more : Bool) (f n : ℕ) (l : List ℕ)
      → l ≡ pick more (set_progress w.progress b f 2 n) (set_progress w.progress b (f + 1) 0 0)
      → get_or l (3 * b) 0 ∷ get_or l (3 * b + 1) 0 ∷ get_or l (3 * b + 2) 0 ∷ []
      ≡ pick more (set_progress s.progress 0 f 2 n) (set_progress s.progress 0 (f + 1) 0 0)
  unfolding pick
  sends_after true f n l e = record_after l f 2 n e
  sends_after false f n l e = record_after l (f + 1) 0 0 e

  next_is : {f f' n n' k k' : ℕ} → f ≡ f' → n ≡ n' → k ≡ k'
      → pick (ltb n k) (set_progress s.progress 0 f 2 n) (set_progress s.progress 0 (f + 1) 0 0)
      ≡ pick (ltb n' k') (set_progress s.progress 0 f' 2 n') (set_progress s.progress 0 (f' + 1) 0 0)
  next_is x y z = rw (x, y, z)

  -- ---- mail and marks by the two tables
  module _ (ordinals starts : List ℕ) (rank : (m : ℕ) → m ≤ count p → get_or ordinals m 0 ≡ rank_of p b m)
      (place : (m : ℕ) → m ≤ count p → get_or starts m 0 ≡ mail_at p b m) where
    from_wide : (ms memory : List ℕ) → ((m : ℕ) → In m ms → (m < count p) × (handles p b m ≡ true))
        → unpack_all p w.buffer memory ms ≡ unpack_from p starts s.buffer memory ms
    unfolding unpack_all unpack_from
    from_wide [] memory h = refl
    from_wide (m ∷ ms) memory h =
        let k = h m (inl refl) in
        let lo = k.0 in
        let a : place_of p w.buffer m ≡ sublist s.buffer (get_or starts m 0) (length (held_by p m)) =
        sym (has.words_at p b s low g m lo k.1) ∙ ap (λ (i : ℕ). sublist s.buffer i (length (held_by p m))) (sym (place m (omega (arith, lo)))) in
        ap (λ (ws : List ℕ). unpack_all p w.buffer (unpack memory (held_by p m) ws) ms) a
        ∙ from_wide ms (unpack memory (held_by p m) (sublist s.buffer (get_or starts m 0) (length (held_by p m)))) (λ i j. h i (inr j))

    known : (ms : List ℕ) → ((m : ℕ) → In m ms → (m < count p) × (handles p b m ≡ true))
        → (m : ℕ) → In m ms → (m < count p) × (handles p b m ≡ true) × (get_or ordinals m 0 ≡ rank_of p b m)
    known ms h m i = let k = h m i in let lo = k.0 in (k.0, k.1, rank m (omega (arith, lo)))

    module _ (t : ℕ) (mine : p.processor_of t ≡ b) where
      -- all due are delivered, as the areas have it
      pub all_due : all_at s.status 2 (pack ordinals (dues_of p t)) ≡ all_at w.status 2 (dues_of p t)
      all_due =
          ap (λ (l : List ℕ). all_at l 2 (pack ordinals (dues_of p t))) (sym (has.wide_marks p b s low g))
          ∙ ranks_all (handles p b) (count p) ordinals w.status 2 (dues_of p t) (known (dues_of p t) (dues_handled p b t mine))

      pub gathered : (memory marks l : List ℕ)
          → memory ≡ pack (unpack_from p starts s.buffer (all_of p b s.memories) (dues_of p t)) (kept_cells p b)
          → marks ≡ set_all s.status (pack ordinals (dues_of p t)) 3 → l ≡ set_progress s.progress 0 (finished_of s 0) 1 0
          → state_of memory s.buffer l marks ≡ to_part p b (carry_out p [] w b (gather t))
      unfolding carry_out
      gathered memory marks l x y z =
          let all : List ℕ = unpack_all p w.buffer (memory_of p w b) (dues_of p t) in
          let long : length (unpack_all p w.buffer (memory_of p w b) (dues_of p t)) ≡ p.cells =
          gathered_length p w.buffer (dues_of p t) (memory_of p w b) ∙ ap length (has.wide_memory p b s low g) ∙ has.all_long p b s low g in
          sym
          (has.narrow_is p b s low g (carry_out p [] w b (gather t))
          ∙ state_is
          (ap (λ (k : List ℕ). pack k (kept_cells p b))
          (memory_after all long
          ∙ from_wide (dues_of p t) (memory_of p w b) (dues_handled p b t mine)
          ∙ ap (λ (k : List ℕ). unpack_from p starts s.buffer k (dues_of p t)) (has.wide_memory p b s low g))
          ∙ sym x)
          (has.wide_mail p b s low g)
          (record_after _ (finished_of w b) 1 0 refl ∙ ap (λ (f : ℕ). set_progress s.progress 0 f 1 0) (has.wide_finished p b s low g) ∙ sym z)
          (ranks_set (handles p b) (count p) ordinals 3 (dues_of p t) w.status (omega (arith, has.status_long p b s low g))
          (known (dues_of p t) (dues_handled p b t mine))
          ∙ ap (λ (k : List ℕ). set_all k (pack ordinals (dues_of p t)) 3) (has.wide_marks p b s low g) ∙ sym y))

      -- the n-th message of the tile
      pub sent_off : (m n k : ℕ) (mail marks l : List ℕ) → n < length (sends_of p t) → m ≡ get_or (sends_of p t) n 0 → n ≡ sent_of s 0 → k ≡ length (sends_of p t)
          → mail ≡ put s.buffer (get_or starts m 0) (pack (all_of p b s.memories) (held_by p m)) → marks ≡ set s.status (get_or ordinals m 0) 1
          → l ≡ pick (ltb (n + 1) k) (set_progress s.progress 0 (finished_of s 0) 2 (n + 1)) (set_progress s.progress 0 (finished_of s 0 + 1) 0 0)
          → state_of s.memories mail l marks ≡ to_part p b (carry_out p [] w b (send (get_or (sends_of p t) n 0)))
      unfolding carry_out after_sends
      sent_off m n k mail marks l few at now all x y z =
          let q : sender_of p (get_or (sends_of p t) n 0) ≡ t = at_is (sender_of p) t (count p) n few in
          let lo : m < count p = rw at (at_low (sender_of p) t (count p) n few) in
          let h : handles p b m ≡ true =
          rw at (sends_handled p b t mine _ (in_those (sender_of p) t (count p) _ (at_low (sender_of p) t (count p) n few) q)).1 in
          let words : List ℕ = pack (memory_of p w b) (held_by p m) in
          sym
          (has.narrow_is p b s low g (carry_out p [] w b (send (get_or (sends_of p t) n 0)))
          ∙ state_is
          (ap (λ (i : List ℕ). pack i (kept_cells p b)) (has.wide_memory p b s low g) ∙ has.words_back p b s low g)
          (rw (← at) (has.words_put p b s low g m lo h words (pack_length (held_by p m) (memory_of p w b)))
          ∙ ap (λ (i : ℕ). put s.buffer i (pack (memory_of p w b) (held_by p m))) (sym (place m (omega (arith, lo))))
          ∙ ap (λ (i : List ℕ). put s.buffer (get_or starts m 0) (pack i (held_by p m))) (has.wide_memory p b s low g) ∙ sym x)
          (sends_after (ltb (sent_of w b + 1) (length (sends_of p (sender_of p (get_or (sends_of p t) n 0))))) (finished_of w b) (sent_of w b + 1) _ refl
          ∙ next_is (has.wide_finished p b s low g) (ap (λ (i : ℕ). i + 1) (has.wide_sent p b s low g ∙ sym now))
          (ap (λ (i : ℕ). length (sends_of p i)) q ∙ sym all)
          ∙ sym z)
          (rw (← at) (has.mark_set p b s low g m lo h 1) ∙ ap (λ (i : ℕ). set s.status i 1) (sym (rank m (omega (arith, lo)))) ∙ sym y))

  pub calculated : (t n : ℕ) (source memory l : List ℕ)
      → memory ≡ pack (store_all (p.value source) (all_of p b s.memories) (p.cells_of t)) (kept_cells p b) → n ≡ length (sends_of p t)
      → l ≡ pick (ltb 0 n) (set_progress s.progress 0 (finished_of s 0) 2 0) (set_progress s.progress 0 (finished_of s 0 + 1) 0 0)
      → state_of memory s.buffer l s.status ≡ to_part p b (carry_out p source w b (calculate t))
  unfolding carry_out after_sends
  calculated t n source memory l x e z =
      let all : List ℕ = store_all (p.value source) (memory_of p w b) (p.cells_of t) in
      let long : length (store_all (p.value source) (memory_of p w b) (p.cells_of t)) ≡ p.cells =
      store_length (p.value source) (p.cells_of t) (memory_of p w b) ∙ ap length (has.wide_memory p b s low g) ∙ has.all_long p b s low g in
      sym
      (has.narrow_is p b s low g (carry_out p source w b (calculate t))
      ∙ state_is
      (ap (λ (k : List ℕ). pack k (kept_cells p b))
      (memory_after all long ∙ ap (λ (k : List ℕ). store_all (p.value source) k (p.cells_of t)) (has.wide_memory p b s low g)) ∙ sym x)
      (has.wide_mail p b s low g)
      (sends_after (ltb 0 (length (sends_of p t))) (finished_of w b) 0 _ refl
      ∙ ap (λ (f : ℕ). pick (ltb 0 (length (sends_of p t))) (set_progress s.progress 0 f 2 0) (set_progress s.progress 0 (f + 1) 0 0))
      (has.wide_finished p b s low g)
      ∙ ap (λ (k : ℕ). pick (ltb 0 k) (set_progress s.progress 0 (finished_of s 0) 2 0) (set_progress s.progress 0 (finished_of s 0 + 1) 0 0)) (sym e)
      ∙ sym z)
      (has.wide_marks p b s low g))
