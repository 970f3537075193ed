-- Laws of the scans: numbers and offsets of messages, one slot more at a time; messages that have a tile at one end.
use Prim.Native.Nat.{ℕ, zero, suc, ◌+◌, ◌≤◌, ◌<◌}
use mathlib.Core.Path.{◌≡◌, refl, sym, ap, ◌∙◌}
use mathlib.Core.Logic.{◌⊎◌, inl, inr, ◌≢◌, ⊎_elim}
use mathlib.Core.List.{List, [], ◌∷◌}
use native.Mathlib.Nat.{eq-or-lt_of_le}
use native.Mathlib.Omega.{arith}
use lib.ListN.{length, get_or, length-append}
use Rattle.base.specs.Tests.{keep, those}
use Rattle.base.proofs.Select.{those_more, those_none}
use Rattle.machine.specs.Plan.{Message, offset, no_message}
use Rattle.plan.specs.Messages.{messages_of}
use Rattle.plan.proofs.Listed.{total, total_append, total_one, step_none, step_one, at_number, number_low, offset_is, room_is}
use Rattle.std.specs.Prelude.{Option, Some, None, IsSome, IsSomeAnd}
use Rattle.std.proofs.Common.{rules}
use Rattle.tables.specs.declared.scans.MessageSlot.{MessageSlot}
use Rattle.tables.specs.scans.Scans.{Lengths, Summing, Found}

module _ (f : ℕ → Message) where
  number_none : (s : ℕ) → length (f s).cells ≡ 0 → length (messages_of f (s + 1)) ≡ length (messages_of f s)
  number_none s e = rw (step_none f s e)

  number_more : (s : ℕ) → 0 < length (f s).cells → length (messages_of f (s + 1)) ≡ suc (length (messages_of f s))
  number_more s h = rw (step_one f s h) (simp length-append (omega arith))

  total_next : (s : ℕ) → total (messages_of f (s + 1)) ≡ total (messages_of f s) + length (f s).cells
  total_next s = go (length (f s).cells) refl
    where
      go : (k : ℕ) → length (f s).cells ≡ k → total (messages_of f (s + 1)) ≡ total (messages_of f s) + length (f s).cells
      go zero e = ap total (step_none f s e) ∙ omega arith
      go (suc k) e =
          ap total (step_one f s (omega arith))
          ∙ total_append (messages_of f s) (f s ∷ [])
          ∙ ap (λ (x : ℕ). total (messages_of f s) + x) (total_one (f s))

  pub sum_start : Summing f 0 0 0
  unfolding messages_of offset
  sum_start = record { number = refl; offset = refl }

  pub sum_turn : (s m o w m' : ℕ) → Summing f s m o → w ≡ length (f s).cells → ((w ≢ 0) × (m' ≡ m + 1)) ⊎ ((w ≡ 0) × (m' ≡ m)) → Summing f (s + 1) m' (o + w)
  sum_turn s m o w m' x e (inl (h, q)) =
      record { number = omega (arith, x.number, number_more s (omega arith)); offset = omega (arith, x.offset, total_next s) }
  sum_turn s m o w m' x e (inr (h, q)) =
      record { number = omega (arith, x.number, number_none s (omega arith)); offset = omega (arith, x.offset, total_next s) }

  -- the message of a slot is found there
  pub found : (n s m o w : ℕ) → Summing f s m o → s < n → w ≡ length (f s).cells → 0 < w → Found f n m (record { slot = s; number = m; offset = o; words = w })
  found n s m o w x l e h =
      let full : 0 < length (f s).cells = omega arith in
      rw x.number (record {
        number = refl;
        low = number_low f n s l full;
        offset = x.offset ∙ sym (offset_is f n s l full);
        slot = l;
        is = at_number f n s l full;
        words = e;
        full = h;
        room = rw (x.offset, e) (room_is f n s l full);
      })

  pub found_here : (n s m o w : ℕ) → Summing f s m o → s < n → w ≡ length (f s).cells → 0 < length (f s).cells
      → Found f n (length (messages_of f s)) (record { slot = s; number = m; offset = o; words = w })
  found_here n s m o w x l e h = let is = x.number in rw (← is) (found n s m o w x l e (omega arith))

  pub shorter : (n s : ℕ) (lens : List ℕ) → s < n → Lengths f n lens → Lengths f s lens
  shorter n s lens l h = record { each = λ i k. h.each i (omega arith) }

  -- ---- message m

  pub seek_nowhere : (n m s k o : ℕ) → Summing f s k o → k ≤ m → s ≤ n → n ≤ s → m < length (messages_of f n) → ⊥
  seek_nowhere n m s k o x b h l q = let z : s ≡ n = omega arith in omega (arith, x.number, ap (λ (i : ℕ). length (messages_of f i)) z)

  -- ---- messages with a tile at one end: `end` says which of a message's tiles

  module _ (n : ℕ) (end : Message → ℕ) (tile : ℕ) where
    abbrev pub seen : ℕ → ℕ
    seen s = length (those (λ m. end (get_or (messages_of f n) m no_message)) tile (length (messages_of f s)))

    pub seen_start : seen 0 ≡ 0
    unfolding messages_of those keep
    seen_start = refl

    module _ (s : ℕ) where
      pub seen_none : length (f s).cells ≡ 0 → seen (s + 1) ≡ seen s
      seen_none e = rw (step_none f s e)

      module _ (l : s < n) (h : 0 < length (f s).cells) where
        pub seen_hit : end (f s) ≡ tile → seen (s + 1) ≡ seen s + 1
        seen_hit e =
            ap (λ (k : ℕ). length (those (λ m. end (get_or (messages_of f n) m no_message)) tile k)) (number_more s h)
            ∙ those_more _ tile (length (messages_of f s)) (ap end (at_number f n s l h) ∙ e)
            ∙ omega arith

        pub seen_miss : end (f s) ≢ tile → seen (s + 1) ≡ seen s
        seen_miss e =
            ap (λ (k : ℕ). length (those (λ m. end (get_or (messages_of f n) m no_message)) tile k)) (number_more s h)
            ∙ ap length (those_none _ tile (length (messages_of f s)) (λ q. e (ap end (sym (at_number f n s l h)) ∙ q)))

pub not_yet : (k m k' : ℕ) → k ≤ m → k ≢ m → k' ≡ k + 1 → k' ≤ m
not_yet k m k' h ne e = ⊎_elim (λ q. absurd (ne q)) (λ q. omega arith) (eq-or-lt_of_le h)

pub positive : (w : ℕ) → w ≢ 0 → 0 < w
positive w h = omega arith

-- ---- what may not be there

pub is_some : (o : Option MessageSlot) (P : MessageSlot → Type 0) → IsSomeAnd o P → IsSome o
is_some None P h = absurd h
is_some (Some x) P h = search rules

pub value_of : (o : Option MessageSlot) (x : MessageSlot) (P : MessageSlot → Type 0) → o ≡ Some x → IsSomeAnd o P → P x
value_of None x P e h = absurd h
value_of (Some y) x P e h = let q : y ≡ x = cc in rw q at h
