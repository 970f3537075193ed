-- Storing to the cells of the shape alone: a row, row by row a tile, the sweep and the collected grid.
use Prim.Native.Nat.{ℕ, zero, suc, ◌+◌, ◌*◌, ◌-◌, ◌≤◌, ◌<◌}
use mathlib.Core.Path.{◌≡◌, refl, sym, ap, ◌∙◌, subst}
use mathlib.Core.Logic.{inl, inr}
use mathlib.Core.Bool.{Bool, true, false}
use mathlib.Core.List.{List, [], ◌∷◌, ◌++◌, append_assoc, append-nil}
use native.Mathlib.Nat.{add-zero, zero-mul}
use native.Mathlib.Numerals.{add-one}
use native.Mathlib.Omega.{arith}
use lib.ListN.{length, get_or, drop, set, length-append, get_or-append, replicate, length-replicate, get_or-replicate}
use lib.Seq.{drop-cons, drop-length, set-append_seam, set-get_or, get_or-append_seam}
use Rattle.base.specs.Tests.{◌and◌, pick, keep, keep_if, tabulate}
use Rattle.base.specs.Lists.{In, sublist, put, store_all}
use Rattle.base.proofs.Tests.{pick_true, pick_false, tabulate_same}
use Rattle.base.proofs.Lists.{store_length}
use Rattle.base.proofs.Copies.{copied_none, copied_more}
use Rattle.machine.specs.Machine.{state_of, memory_of, sweep_to, sweep, collected}
use Rattle.nest.specs.declared.Nest.{Nest}
use Rattle.nest.specs.Accepted.{Accepted}
use Rattle.nest.specs.Nest.{cells, box_tiles}
use Rattle.nest.specs.Shape.{in_shape}
use Rattle.plan.specs.declared.Route.TheVariants.{Direct}
use Rattle.plan.specs.Geometry.{cells_of, processor_of}
use Rattle.plan.specs.Shaped.{plan_of, box_tile, tile_of, shaped_cells, shaped_value}
use Rattle.plan.specs.Box.{box_size, box_cell}
use Rattle.plan.proofs.Box.{cells_of_box}
use Rattle.plan.proofs.ShapedTiles.{box_tile_tile_of}
use Rattle.plan.proofs.ShapedSound.{sound}
use Rattle.layout.specs.CellRows.{row_of}
use Rattle.layout.proofs.CellRows.{row_next}
use Rattle.kernels.proofs.Orders.{store_append}
use Rattle.kernels.proofs.Sums.{rows_join, Rowing, rowing_none, rowing_more, rowing_end}
use Rattle.values.proofs.row_values.Words.{in_row_of}
use Rattle.values.specs.shaped_values.Rows.{inside_only, held_word}

-- ---- cells outside stay as they are

module _ (x : Nest) (f : List ℕ → ℕ → ℕ) where
  in_word : (l : List ℕ) (c : ℕ) → in_shape x c ≡ true → inside_only x f l c ≡ f l c
  unfolding inside_only
  in_word l c h = pick_true _ _ _ h

  out_word : (l : List ℕ) (c : ℕ) → in_shape x c ≡ false → inside_only x f l c ≡ get_or l c 0
  unfolding inside_only
  out_word l c h = pick_false _ _ _ h

  store_out : (cs l : List ℕ) → ((c : ℕ) → In c cs → in_shape x c ≡ false) → store_all (inside_only x f) l cs ≡ l
  unfolding store_all
  store_out [] l h = refl
  store_out (c ∷ cs) l h =
      store_out cs (set l c (inside_only x f l c)) (λ d i. h d (inr i)) ∙ ap (set l c) (out_word l c (h c (inl refl))) ∙ set-get_or l c 0

  -- a row of w cells: p outside, m stored by a rule that gives the same, the rest outside
  pub row_cut : (g : List ℕ → ℕ → ℕ) (l l' : List ℕ) (c p m w : ℕ) → p + m ≤ w → ((y : ℕ) → y < p → in_shape x (c + y) ≡ false)
      → ((y : ℕ) → p + m ≤ y → y < w → in_shape x (c + y) ≡ false)
      → ((k : List ℕ) (y : ℕ) → y < m → (in_shape x (c + p + y) ≡ true) × (g k (c + p + y) ≡ f k (c + p + y)))
      → l' ≡ store_all g l (row_of (c + p) m) → l' ≡ store_all (inside_only x f) l (row_of c w)
  row_cut g l l' c p m w h before after same e =
      let first : l ≡ store_all (inside_only x f) l (row_of c p) =
      sym (store_out (row_of c p) l (λ z i. let q = in_row_of c p z i in let k : c + (z - c) ≡ z = omega (arith, q.0) in
      rw k at (before (z - c) (omega (arith, q.0, q.1))))) in
      let two : l' ≡ store_all (inside_only x f) l (row_of c (p + m)) =
      e ∙ rows_join (inside_only x f) g l l c p first m (λ k y i. let s = same k y i in s.1 ∙ sym (in_word k (c + p + y) s.0)) in
      let all : p + m + (w - (p + m)) ≡ w = omega arith in
      let end : store_all (inside_only x f) l' (row_of (c + (p + m)) (w - (p + m))) ≡ l' =
      store_out (row_of (c + (p + m)) (w - (p + m))) l' (λ z i. let q = in_row_of (c + (p + m)) (w - (p + m)) z i in
      let k : c + (z - c) ≡ z = omega (arith, q.0) in rw k at (after (z - c) (omega (arith, q.0)) (omega (arith, q.0, q.1)))) in
      rw all at (sym end ∙ rows_join (inside_only x f) (inside_only x f) l l' c (p + m) two (w - (p + m)) (λ k y i. refl))

  -- no cell of the row is in the shape
  pub row_out : (l : List ℕ) (c w : ℕ) → ((y : ℕ) → y < w → in_shape x (c + y) ≡ false) → l ≡ store_all (inside_only x f) l (row_of c w)
  row_out l c w h =
      sym (store_out (row_of c w) l (λ z i. let q = in_row_of c w z i in let k : c + (z - c) ≡ z = omega (arith, q.0) in
      rw k at (h (z - c) (omega (arith, q.0, q.1)))))

  -- of the cells that a test keeps, those in the shape
  pub store_kept : (h : ℕ → Bool) (n : ℕ) (l : List ℕ) → store_all (inside_only x f) l (keep h n) ≡ store_all f l (keep (λ c. in_shape x c and h c) n)
  unfolding keep store_all ◌and◌
  store_kept h zero l = refl
  store_kept h (suc n) l =
      store_append (inside_only x f) l (keep h n) (keep_if (h n) n)
      ∙ ap (λ (k : List ℕ). store_all (inside_only x f) k (keep_if (h n) n)) (store_kept h n l)
      ∙ one (store_all f l (keep (λ c. in_shape x c and h c) n)) (h n) (in_shape x n) refl
      ∙ sym (store_append f l (keep (λ c. in_shape x c and h c) n) (keep_if (in_shape x n and h n) n))
    where
      one : (m : List ℕ) (t u : Bool) → in_shape x n ≡ u → store_all (inside_only x f) m (keep_if t n) ≡ store_all f m (keep_if (u and t) n)
      one m true true e = ap (set m n) (in_word m n e)
      one m true false e = ap (set m n) (out_word m n e) ∙ set-get_or m n 0
      one m false true e = refl
      one m false false e = refl

-- ---- cells stored one after the other: the first q of g

pub record Storing (f : List ℕ → ℕ → ℕ) (g : ℕ → ℕ) (l₀ l : List ℕ) (q : ℕ) : Type 0 where
  pub is : l ≡ store_all f l₀ (tabulate g q)

tabulate_more : (g : ℕ → ℕ) (q n : ℕ) → tabulate g (q + n) ≡ tabulate g q ++ tabulate (λ y. g (q + y)) n
unfolding tabulate
tabulate_more g q zero = rw (add-zero q) (sym (append-nil _))
tabulate_more g q (suc n) =
    let z : q + suc n ≡ suc (q + n) = omega arith in
    rw z (ap (λ (l : List ℕ). l ++ (g (q + n) ∷ [])) (tabulate_more g q n) ∙ append_assoc (tabulate g q) (tabulate (λ y. g (q + y)) n) (g (q + n) ∷ []))

module _ (f : List ℕ → ℕ → ℕ) (g : ℕ → ℕ) (l₀ : List ℕ) where
  storing_none : Storing f g l₀ l₀ 0
  unfolding store_all tabulate
  storing_none = record { is = refl }

  pub storing_start : (w : ℕ) → Storing f g l₀ l₀ (0 * w)
  storing_start w = rw (zero-mul w) storing_none

  module _ (l : List ℕ) (q : ℕ) (p : Storing f g l₀ l q) where
    pub storing_long : length l ≡ length l₀
    storing_long = ap length p.is ∙ store_length f (tabulate g q) l₀

    storing_more : (c n : ℕ) (l' : List ℕ) → ((y : ℕ) → y < n → c + y ≡ g (q + y)) → l' ≡ store_all f l (row_of c n) → Storing f g l₀ l' (q + n)
    storing_more c n l' h e =
        record {
          is = e
              ∙ ap (store_all f l) (tabulate_same (λ y. c + y) (λ y. g (q + y)) n h)
              ∙ ap (λ (k : List ℕ). store_all f k (tabulate (λ y. g (q + y)) n)) p.is
              ∙ sym (store_append f l₀ (tabulate g q) (tabulate (λ y. g (q + y)) n))
              ∙ ap (store_all f l₀) (sym (tabulate_more g q n));
        }

  -- one row more
  pub storing_turn : (l : List ℕ) (r w c : ℕ) (l' : List ℕ) → Storing f g l₀ l (r * w) → ((y : ℕ) → y < w → c + y ≡ g (r * w + y)) → l' ≡ store_all f l
      (row_of c w)
      → Storing f g l₀ l' ((r + 1) * w)
  storing_turn l r w c l' p h e = rw (row_next w r r) (storing_more l (r * w) p c w l' h e)

-- ---- a list filled with one word

pub filled_long : (n v : ℕ) (l : List ℕ) → l ≡ replicate n v → length l ≡ n
filled_long n v l e = ap length e ∙ length-replicate n v

pub filled_at : (n v m : ℕ) (l : List ℕ) → l ≡ replicate n v → n ≡ m → (i : ℕ) → i < m → get_or l i 0 ≡ v
filled_at n v m l e k i h = ap (λ (z : List ℕ). get_or z i 0) e ∙ get_or-replicate n i v 0 (omega arith)

-- ---- words copied: a part of the memories to cells side by side

module _ (memories grid : List ℕ) (from to n : ℕ) (fits : to + n ≤ length grid) (there : from + n ≤ length memories) where
  copied_rowing : (y : ℕ) → y ≤ n → Rowing (λ l c. get_or memories (from + (c - to)) 0) grid (put grid to (sublist memories from y)) to n y
  copied_rowing zero l = rw (copied_none grid memories to from) (rowing_none _ grid to n)
  copied_rowing (suc y) l =
      let z : from + (to + y - to) ≡ from + y = omega arith in
      subst (λ (i : ℕ). Rowing (λ l c. get_or memories (from + (c - to)) 0) grid (put grid to (sublist memories from i)) to n i) (add-one y)
      (rowing_more (copied_rowing y (omega arith)) _ (omega arith) (sym (copied_more grid memories to from y (omega arith) (omega arith))
      ∙ ap (λ (i : ℕ). set (put grid to (sublist memories from y)) (to + y) (get_or memories i 0)) (sym z)))

  pub copied_row : put grid to (sublist memories from n) ≡ store_all (λ l c. get_or memories (from + (c - to)) 0) grid (row_of to n)
  copied_row = rowing_end (copied_rowing n (omega arith)) (omega arith)

-- ---- a tile

module _ (x : Nest) (ok : Accepted x) (t : ℕ) (low : t < box_tiles x) (f : List ℕ → ℕ → ℕ) (l₀ l : List ℕ) where
  pub tile_stored : (q : ℕ) → q ≡ box_size x t → Storing (inside_only x f) (box_cell x t) l₀ l q → l ≡ store_all f l₀ (shaped_cells x t)
  unfolding shaped_cells cells_of
  tile_stored q e p =
      p.is
      ∙ ap (λ (a : ℕ). store_all (inside_only x f) l₀ (tabulate (box_cell x t) a)) e
      ∙ ap (store_all (inside_only x f) l₀) (sym (cells_of_box x ok t low))
      ∙ store_kept x f _ (cells x) l₀

-- ---- all cells, from a grid of the boundary's words

push : (k o : List ℕ) (n v : ℕ) → length k ≡ n → n < length o → set (k ++ drop n o) n v ≡ (k ++ (v ∷ [])) ++ drop (suc n) o
push k o n v e l =
    let a : length k < length o = omega (arith, e) in
    rw (sym e) (ap (λ (z : List ℕ). set (k ++ z) (length k) v) (drop-cons o (length k) 0 a) ∙ set-append_seam k _ _ v
    ∙ sym (append_assoc k (v ∷ []) (drop (suc (length k)) o)))

front_at : (k o : List ℕ) (n : ℕ) → length k ≡ n → n < length o → get_or (k ++ drop n o) n 0 ≡ get_or o n 0
front_at k o n e l = rw (sym e) (rw (drop-cons o (length k) 0 (omega arith)) (get_or-append_seam k (get_or o (length k) 0) (drop (suc (length k)) o) 0))

module _ (x : Nest) (f : List ℕ → ℕ → ℕ) (w : ℕ → List ℕ) (g : ℕ → ℕ) (b n : ℕ) (l₀ : List ℕ) (long : length l₀ ≡ n) (every : (c : ℕ) → c < n → get_or l₀ c 0 ≡ b)
    (none : w 0 ≡ []) (more : (c : ℕ) → w (suc c) ≡ w c ++ (pick (in_shape x c) (g c) b ∷ []))
    (same : (c : ℕ) → c < n → length (w c) ≡ c → f (w c ++ drop c l₀) c ≡ g c) where
  w_long : (c : ℕ) → length (w c) ≡ c
  w_long zero = ap length none
  w_long (suc c) = ap length (more c) ∙ length-append (w c) _ ∙ omega (arith, w_long c)

  front : (c : ℕ) → c ≤ n → store_all (inside_only x f) l₀ (tabulate (λ y. y) c) ≡ w c ++ drop c l₀
  unfolding tabulate store_all
  front zero h = rw none refl
  front (suc c) h =
      store_append (inside_only x f) l₀ (tabulate (λ y. y) c) (c ∷ [])
      ∙ ap (λ (k : List ℕ). set k c (inside_only x f k c)) (front c (omega arith))
      ∙ ap (set (w c ++ drop c l₀) c) (word (in_shape x c) refl)
      ∙ push (w c) l₀ c _ (w_long c) (omega arith)
      ∙ ap (λ (k : List ℕ). k ++ drop (suc c) l₀) (sym (more c))
    where
      word : (t : Bool) → in_shape x c ≡ t → inside_only x f (w c ++ drop c l₀) c ≡ pick (in_shape x c) (g c) b
      word true e = in_word x f _ c e ∙ same c (omega arith) (w_long c) ∙ sym (pick_true _ _ _ e)
      word false e = out_word x f _ c e ∙ front_at (w c) l₀ c (w_long c) (omega arith) ∙ every c (omega arith) ∙ sym (pick_false _ _ _ e)

  pub whole : (l : List ℕ) (q : ℕ) → q ≡ n → Storing (inside_only x f) (λ y. y) l₀ l q → l ≡ w n
  whole l q e p =
      p.is
      ∙ ap (λ (a : ℕ). store_all (inside_only x f) l₀ (tabulate (λ y. y) a)) e
      ∙ front n (omega arith)
      ∙ ap (λ (a : ℕ). w n ++ drop a l₀) (sym long)
      ∙ ap (λ (k : List ℕ). w n ++ k) (drop-length l₀)
      ∙ append-nil (w n)

module _ (x : Nest) (ok : Accepted x) (l₀ : List ℕ) (long : length l₀ ≡ cells x) (filled : (c : ℕ) → c < cells x → get_or l₀ c 0 ≡ x.boundary) where
  pub swept : (source l : List ℕ) (q : ℕ) → q ≡ cells x → Storing (inside_only x (shaped_value x source)) (λ y. y) l₀ l q → l ≡ sweep (plan_of Direct x) source
  unfolding sweep_to
  swept source l q e p =
      whole x (shaped_value x source) (sweep_to (plan_of Direct x) source) (λ c. shaped_value x source (sweep_to (plan_of Direct x) source c) c) x.boundary
      (cells x) l₀ long filled
      refl (λ c. refl)
      (λ c h k. (sound Direct x ok).local source (sweep_to (plan_of Direct x) source c ++ drop c l₀) (sweep_to (plan_of Direct x) source c) c h
      (λ r i. get_or-append (sweep_to (plan_of Direct x) source c) (drop c l₀) 0 r (omega (arith, k, (sound Direct x ok).earlier c r h i))))
      l q e p

  pub gathered : (memories l : List ℕ) (q : ℕ) → q ≡ cells x → Storing (inside_only x (held_word x memories)) (λ y. y) l₀ l q
      → l ≡ collected (plan_of Direct x) (state_of memories [] [] [])
  unfolding collected tabulate held_word
  gathered memories l q e p =
      whole x (held_word x memories) (tabulate (λ c. pick (in_shape x c) (held_word x memories [] c) x.boundary)) (held_word x memories []) x.boundary
      (cells x) l₀ long filled
      refl (λ c. refl) (λ c h k. refl) l q e p
      ∙ tabulate_same _ _ (cells x) (λ c h. owner c h (in_shape x c) refl)
    where
      owner : (c : ℕ) → c < cells x → (t : Bool) → in_shape x c ≡ t → pick (in_shape x c) (held_word x memories [] c) x.boundary
          ≡ pick (in_shape x c) (get_or (memory_of (plan_of Direct x) (state_of memories [] [] []) (processor_of x (box_tile x (tile_of x c)))) c 0) x.boundary
      owner c h true e =
          ap (λ (u : ℕ). pick (in_shape x c) (get_or (memory_of (plan_of Direct x) (state_of memories [] [] []) (processor_of x u)) c 0) x.boundary)
          (sym (box_tile_tile_of x ok c h e))
      owner c h false e = pick_false _ _ _ e ∙ sym (pick_false _ _ _ e)
