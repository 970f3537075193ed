-- Each tile's round from those before it: what the loops over a tile's dues and over the tiles keep, and the returns of the call.
use Rattle.std.specs.Prelude.{◌≡◌, ℕ, suc, ◌+◌, ◌*◌, ◌/◌, ◌<◌, ◌≤◌, eqb, ◌≢◌, ◌⊎◌, List, [], ◌∷◌, ◌++◌, map, length, get_or, take, set, replicate}
use mathlib.Core.Path.{refl, sym, ap, ◌∙◌, subst}
use mathlib.Core.Logic.{inl, inr}
use native.Mathlib.Omega.{arith}
use native.Mathlib.Nat.{mul-zero}
use native.Mathlib.Decide.{ℕ_discrete}
use lib.ListN.{get_or-replicate, length-set, length-replicate}
use lib.Seq.{get_or-set_same, get_or-set_other, take-suc, take_all, ext_get_or}
use borrow.Author.Tests.{eq-eqb, ne_eqb}
use Rattle.base.specs.Tests.{not, keep, those}
use Rattle.base.specs.Numbers.{line, first_of}
use Rattle.base.proofs.Tests.{not-true, not-false}
use Rattle.base.proofs.Numbers.{first_true, first_false}
use Rattle.base.proofs.Select.{rank_in, keep_hit, those_none, at_low, at_is}
use Rattle.machine.specs.Plan.{Plan, Sound, Message, count, sender_of, taker_of, dues_of}
use Rattle.machine.specs.Machine.{answered}
use Rattle.nest.specs.declared.Nest.{Nest}
use Rattle.nest.specs.Accepted.{Accepted}
use Rattle.nest.specs.Nest.{box_tiles}
use Rattle.nest.specs.Shape.{tiles}
use Rattle.nest.specs.Reader.{read_lines}
use Rattle.nest.proofs.Numbered.{numbered}
use Rattle.plan.specs.declared.Route.{Route}
use Rattle.plan.specs.declared.Route.TheVariants.{Direct}
use Rattle.plan.specs.Geometry.{processor_of}
use Rattle.plan.specs.Messages.{ways}
use Rattle.plan.specs.Shaped.{plan_of, box_tile}
use Rattle.plan.proofs.ShapedBox.{plan_of_box}
use Rattle.recipe.proofs.Laws.{reads_for}
use Rattle.layout.specs.RouteWords.{route_of}
use Rattle.tables.specs.declared.scans.MessageSlot.{MessageSlot}
use Rattle.tables.specs.Tables.{FoundIn}
use Rattle.rounds.specs.Rounds.{larger, greatest, last_of, waits_for, rounds_to, tile_round}
use Rattle.rounds.proofs.Lists.{larger_is, larger_most, larger_join, larger_zero, greatest_append, last_append, map-append, map-map}
use Rattle.rounds.proofs.Tiles.{table_length, round_is, within_rounds, few}
use Rattle.engine.specs.Calls.{answer}
use Rattle.engine.proofs.Lines.{Opened, call_read, call_later, call_done}
use Rattle.schedule.proofs.Chains.{walk_low, walk_over, walk_at, walk_tile, walk_next}
use Rattle.schedule.specs.Given.{TellsTo, last_before, Lasts}
use Rattle.schedule.specs.Calls.{rounds_of_call}

-- ---- processor_at
module _ (x : Nest) (ok : Accepted x) (r : Route) (t : ℕ) where
  pub box_low : x.bounds ≡ 0 → t < (plan_of r x).tiles → t < box_tiles x
  box_low none h = subst (λ (k : ℕ). t < k) (ap (λ (q : Plan). q.tiles) (plan_of_box r x ok none)) h

  pub box_owner : x.bounds ≡ 0 → (b : ℕ) → b ≡ processor_of x t → b ≡ (plan_of r x).processor_of t
  box_owner none b e = e ∙ ap (λ (q : Plan). q.processor_of t) (sym (plan_of_box r x ok none))

  pub shape_low : r ≡ Direct → t < (plan_of r x).tiles → t < tiles x
  shape_low e h = subst (λ (q : Route). t < (plan_of q x).tiles) e h

  pub shape_owner : r ≡ Direct → (b : ℕ) → b ≡ processor_of x (box_tile x t) → b ≡ (plan_of r x).processor_of t
  shape_owner e b k = k ∙ ap (λ (q : Route). (plan_of q x).processor_of t) (sym e)

-- ---- sender_at
module _ (x : Nest) (r : Route) (p : MessageSlot) (f : FoundIn r x p.number p) (w : ℕ) (is : w ≡ ways r x) where
  some_slot : (n q : ℕ) → q < n * w → 0 < w
  some_slot n q h = go (ℕ_discrete w 0)
    where
      go : Dec (w ≡ 0) → 0 < w
      go (yes e) = let z : n * w ≡ 0 = rw e (mul-zero n) in absurd (omega arith)
      go (no e) = omega arith

  pub ways_some : (routed : x.bounds ≢ 0 → r ≡ Direct) → 0 < w
  ways_some routed = go (ℕ_discrete x.bounds 0)
    where
      go : Dec (x.bounds ≡ 0) → 0 < w
      go (yes e) = some_slot (box_tiles x) p.slot (subst (λ (k : ℕ). p.slot < box_tiles x * k) (sym is) (f.box e).0)
      go (no e) = some_slot (tiles x) p.slot (subst (λ (k : ℕ). p.slot < tiles x * k) (sym (is ∙ ap (λ (q : Route). ways q x) (routed e))) (f.shape e).0)

  pub sender_is : (routed : x.bounds ≢ 0 → r ≡ Direct) → p.slot / w ≡ sender_of (plan_of r x) p.number
  sender_is routed = go (ℕ_discrete x.bounds 0)
    where
      go : Dec (x.bounds ≡ 0) → p.slot / w ≡ sender_of (plan_of r x) p.number
      go (yes e) = ap (λ (k : ℕ). p.slot / k) is ∙ sym (ap (λ (m : Message). m.sender) (f.box e).1)
      go (no e) = ap (λ (k : ℕ). p.slot / k) (is ∙ ap (λ (q : Route). ways q x) (routed e)) ∙ sym (ap (λ (m : Message). m.sender) (f.shape e).1)

pub found_self : (r : Route) (x : Nest) (m : ℕ) (p : MessageSlot) → FoundIn r x m p → FoundIn r x p.number p
found_self r x m p f = subst (λ (k : ℕ). FoundIn r x k p) (sym f.number) f

-- ---- round_at: the latest round so far
pub record DuesLoop (p : Plan) (t last n latest j : ℕ) : Type 0 where
  pub low : j ≤ n
  pub is : latest ≡ larger last (greatest (map (λ m. tile_round p (sender_of p m)) (take j (dues_of p t))))

pub record DuesWalk (p : Plan) (t last latest m : ℕ) : Type 0 where
  pub j : ℕ
  pub spot : m ≡ get_or (dues_of p t) j (count p)
  pub dues : DuesLoop p t last (length (dues_of p t)) latest j

module _ (p : Plan) (so : Sound p) (t : ℕ) (low : t < p.tiles) (last : ℕ) where
  pub dues_start : (n : ℕ) → DuesLoop p t last n last 0
  unfolding greatest
  dues_start n = record { low = omega arith; is = sym (larger_zero last) }

  module _ (n latest j : ℕ) (all : n ≡ length (dues_of p t)) (x : DuesLoop p t last n latest j) where
    pub due_low : j < n → j < length (dues_of p t)
    due_low h = omega arith

    -- a sender comes before, so its round is in the table
    pub sender_low : j < n → sender_of p (get_or (dues_of p t) j 0) < t
    sender_low h =
        let l = due_low h in
        let a = so.forward (get_or (dues_of p t) j 0) (at_low (taker_of p) t (count p) j l) in
        let b = at_is (taker_of p) t (count p) j l in
        omega arith

    later : (a b c : ℕ) → ((a < b) × (c ≡ b)) ⊎ ((b ≤ a) × (c ≡ a)) → c ≡ larger a b
    later a b c (inl w) = let k = larger_is a b in let h = larger_most a b b (omega (arith, w.0)) (omega arith) in omega (arith, w.1, k.1)
    later a b c (inr w) = let k = larger_is a b in let h = larger_most a b a (omega arith) w.0 in omega (arith, w.1, k.0)

    pub dues_next : j < n → (round next : ℕ) → round ≡ tile_round p (sender_of p (get_or (dues_of p t) j 0))
        → ((latest < round) × (next ≡ round)) ⊎ ((round ≤ latest) × (next ≡ latest)) → DuesLoop p t last n next (j + 1)
    unfolding greatest
    dues_next h round next e w =
        let k : j + 1 ≡ suc j = omega arith in
        record {
          low = omega arith;
          is = later latest round next w ∙ ap (λ (a : ℕ). larger a round) x.is
              ∙ larger_join last (greatest (map (λ m. tile_round p (sender_of p m)) (take j (dues_of p t)))) round
              ∙ ap (λ (b : ℕ). larger last (larger (greatest (map (λ m. tile_round p (sender_of p m)) (take j (dues_of p t)))) b))
              (e ∙ sym (larger_zero (tile_round p (sender_of p (get_or (dues_of p t) j 0)))))
              ∙ ap (larger last) (sym (greatest_append (map (λ m. tile_round p (sender_of p m)) (take j (dues_of p t)))
              (tile_round p (sender_of p (get_or (dues_of p t) j 0)) ∷ [])))
              ∙ ap (λ (l : List ℕ). larger last (greatest l)) (sym (map-append (λ m. tile_round p (sender_of p m)) (take j (dues_of p t))
              (get_or (dues_of p t) j 0 ∷ [])))
              ∙ ap (λ (l : List ℕ). larger last (greatest (map (λ m. tile_round p (sender_of p m)) l))) (sym (take-suc (dues_of p t) j 0 (due_low h)))
              ∙ ap (λ (i : ℕ). larger last (greatest (map (λ m. tile_round p (sender_of p m)) (take i (dues_of p t))))) (sym k);
        }

    pub dues_done : n ≤ j → last ≡ last_before p (p.processor_of t) t → latest + 1 ≡ tile_round p t
    unfolding waits_for last_before
    dues_done h e =
        let a : latest ≡ larger last (greatest (map (λ m. tile_round p (sender_of p m)) (dues_of p t))) =
        x.is ∙ ap (λ (l : List ℕ). larger last (greatest (map (λ m. tile_round p (sender_of p m)) l))) (take_all j (dues_of p t) (omega arith)) in
        let b : greatest (map (tile_round p) (waits_for p t)) ≡ latest =
        ap greatest (map-append (tile_round p) (last_of (those p.processor_of (p.processor_of t) t)) (map (sender_of p) (dues_of p t)))
        ∙ greatest_append (map (tile_round p) (last_of (those p.processor_of (p.processor_of t) t))) (map (tile_round p) (map (sender_of p) (dues_of p t)))
        ∙ ap (λ (l : List ℕ). larger (greatest (map (tile_round p) (last_of (those p.processor_of (p.processor_of t) t)))) (greatest l))
        (map-map (tile_round p) (sender_of p) (dues_of p t))
        ∙ ap (λ (k : ℕ). larger k (greatest (map (λ m. tile_round p (sender_of p m)) (dues_of p t)))) (sym e) ∙ sym a in
        let r = round_is p so t low in
        omega arith

  -- along the chain: m is the j-th message due, or as many as there are
  module _ (latest m : ℕ) (x : DuesWalk p t last latest m) where
    pub walk_dues_next : m < count p → (round after v : ℕ) → round ≡ tile_round p (sender_of p m)
        → ((latest < round) × (after ≡ round)) ⊎ ((round ≤ latest) × (after ≡ latest))
        → v ≡ get_or (dues_of p t) (suc (rank_in (taker_of p) m)) (count p) → DuesWalk p t last after v
    walk_dues_next h round after v e w k =
        record {
          j = x.j + 1;
          spot = walk_next (taker_of p) (count p) t x.j m x.spot h v k;
          dues = dues_next (length (dues_of p t)) latest x.j refl x.dues (walk_low (taker_of p) (count p) t x.j m x.spot h) round after
              (e ∙ ap (λ (i : ℕ). tile_round p (sender_of p i)) (walk_at (taker_of p) (count p) t x.j m x.spot h)) w;
        }

    pub walk_sender_low : m < count p → sender_of p m < t
    walk_sender_low h =
        let a = so.forward m h in
        let b = walk_tile (taker_of p) (count p) t x.j m x.spot h in
        omega arith

    pub walk_dues_done : count p ≤ m → last ≡ last_before p (p.processor_of t) t → latest + 1 ≡ tile_round p t
    walk_dues_done h = dues_done (length (dues_of p t)) latest x.j refl x.dues (walk_over (taker_of p) (count p) t x.j m x.spot h)

  pub walk_dues_start : (m : ℕ) → m ≡ get_or (dues_of p t) 0 (count p) → DuesWalk p t last last m
  walk_dues_start m e = record { j = 0; spot = e; dues = dues_start (length (dues_of p t)) }

  pub round_few : tile_round p t ≤ p.tiles
  round_few = let a = within_rounds p so t low in let b = few p so in omega arith

-- ---- tell_rounds
module _ (p : Plan) where
  pub tells_start : (table : List ℕ) → length table ≡ p.tiles → TellsTo p table 0
  tells_start table e = record { long = e; low = omega arith; each = λ u h. absurd (omega arith) }

  pub lasts_start : (n : ℕ) → p.processors ≤ n → Lasts p (replicate n 0) 0
  unfolding last_before those keep last_of greatest
  lasts_start n wide = record { each = λ b h. get_or-replicate n b 0 0 (omega arith) }

  -- with tile t the last of its own processor is t, the others' are the same
  last_mine : (t b : ℕ) → b ≡ p.processor_of t → last_before p b (suc t) ≡ tile_round p t
  unfolding last_before those greatest
  last_mine t b own =
      ap (λ (k : List ℕ). greatest (map (tile_round p) (last_of k))) (keep_hit (λ u. eqb (p.processor_of u) b) t (eq-eqb (p.processor_of t) b (sym own)))
      ∙ ap (λ (k : List ℕ). greatest (map (tile_round p) k)) (last_append (keep (λ u. eqb (p.processor_of u) b) t) t) ∙ larger_zero (tile_round p t)

  last_other : (t c : ℕ) → c ≢ p.processor_of t → last_before p c (suc t) ≡ last_before p c t
  unfolding last_before
  last_other t c e = ap (λ (k : List ℕ). greatest (map (tile_round p) (last_of k))) (those_none p.processor_of c t (λ q. e (sym q)))

  module _ (table lasts : List ℕ) (t b : ℕ) (i : TellsTo p table t) (l : Lasts p lasts t) (wide : p.processors ≤ length lasts)
      (low : t < p.tiles) (own : b ≡ p.processor_of t) (few : b < p.processors) (round : ℕ) (is : round ≡ tile_round p t) where
    pub tells_next : TellsTo p (set table t round) (t + 1)
    tells_next =
        record {
          long = rw length-set i.long;
          low = omega arith;
          each = λ u h. at_u u h (ℕ_discrete u t);
        }
      where
        at_u : (u : ℕ) → u < t + 1 → Dec (u ≡ t) → get_or (set table t round) u 0 ≡ tile_round p u
        at_u u h (yes e) = ap (λ (k : ℕ). get_or (set table t round) k 0) e ∙ get_or-set_same table t round 0 (omega (arith, i.long)) ∙ is ∙ ap
            (tile_round p) (sym e)
        at_u u h (no e) = get_or-set_other table t u round 0 e ∙ i.each u (omega arith)

    pub lasts_next : Lasts p (set lasts b round) (t + 1)
    lasts_next = record { each = λ c h. at_c c h (ℕ_discrete c b) }
      where
        more : t + 1 ≡ suc t
        more = omega arith

        at_c : (c : ℕ) → c < p.processors → Dec (c ≡ b) → get_or (set lasts b round) c 0 ≡ last_before p c (t + 1)
        at_c c h (yes e) =
            ap (λ (k : ℕ). get_or (set lasts b round) k 0) e ∙ get_or-set_same lasts b round 0 (omega arith) ∙ is
            ∙ sym (last_mine t b own) ∙ ap (λ (k : ℕ). last_before p k (suc t)) (sym e) ∙ ap (last_before p c) (sym more)
        at_c c h (no e) =
            get_or-set_other lasts b c round 0 e ∙ l.each c h ∙ sym (last_other t c (λ q. e (q ∙ sym own))) ∙ ap (last_before p c) (sym more)

  pub tells_done : (table : List ℕ) (t : ℕ) → length table ≤ t → TellsTo p table t → table ≡ rounds_to p p.tiles
  unfolding tile_round
  tells_done table t h i =
      ext_get_or 0 table (rounds_to p p.tiles) (i.long ∙ sym (table_length p p.tiles)) (λ u q. i.each u (omega arith))

  -- after the first t tiles
  pub record TableLoop (before table lasts : List ℕ) (t : ℕ) : Type 0 where
    pub long : length table ≡ length before
    pub wide : length lasts ≡ 64
    pub tells : TellsTo p table t
    pub last : Lasts p lasts t

  pub table_start : (before : List ℕ) → length before ≡ p.tiles → p.processors ≤ 64 → TableLoop before before (replicate 64 0) 0
  table_start before e wide =
      record { long = refl; wide = length-replicate {A = ℕ} 64 0; tells = tells_start before e; last = lasts_start 64 wide }

  pub table_next : (before table lasts : List ℕ) (t : ℕ) → TableLoop before table lasts t → p.processors ≤ 64 → t < p.tiles
      → (b : ℕ) → b ≡ p.processor_of t → b < p.processors → (round : ℕ) → round ≡ tile_round p t
      → TableLoop before (set table t round) (set lasts b round) (t + 1)
  table_next before table lasts t x wide low b own few round is =
      record {
        long = rw length-set x.long;
        wide = rw length-set x.wide;
        tells = tells_next table lasts t b x.tells x.last (omega (arith, x.wide)) low own few round is;
        last = lasts_next table lasts t b x.tells x.last (omega (arith, x.wide)) low own few round is;
      }

  -- the round of the processor's previous tile
  pub last_is : (lasts : List ℕ) (t b : ℕ) → Lasts p lasts t → b ≡ p.processor_of t → b < p.processors
      → get_or lasts b 0 ≡ last_before p (p.processor_of t) t
  last_is lasts t b l own low = l.each b low ∙ ap (λ (k : ℕ). last_before p k t) own

  pub less_by : (u v t : ℕ) → u ≡ v → v < t → u < t
  less_by u v t e h = omega arith

  pub in_table : (t : ℕ) (table : List ℕ) → TellsTo p table t → t < p.tiles → (u v : ℕ) → u ≡ v → v < t → u < length table
  in_table t table i low u v e h = omega (arith, i.long)

-- ---- the call's returns
module _ (l area : List ℕ) where
  pub told_read : (r : ℕ) → r ≡ first_of (read_lines l) → r ≢ 0 → answer r area ≡ rounds_of_call l area
  unfolding rounds_of_call
  told_read r e h = call_read (read_lines l) (numbered l) _ r _ area e h

  module _ (p : Plan) (o : Opened l 0 p) where
    told_at : answered (first_of (read_lines l ++ (line 9 (not (eqb (length area) p.tiles)) ∷ []))) (rounds_to p p.tiles) area ≡ rounds_of_call l area
    unfolding rounds_of_call
    told_at = ap (λ (q : Plan). answered (first_of (read_lines l ++ (line 9 (not (eqb (length area) q.tiles)) ∷ []))) (rounds_to q q.tiles) area) o.is

    pub told_area : length area ≢ p.tiles → answer 9 area ≡ rounds_of_call l area
    told_area h =
        call_later (read_lines l) (numbered l) _ 9 _ area (reads_for (route_of 0) l o.none) (sym (first_true 9 _ _ (not-false (ne_eqb _ _ h))))
        (λ q. omega arith) ∙ told_at

    right : length area ≡ p.tiles → first_of (line 9 (not (eqb (length area) p.tiles)) ∷ []) ≡ 0
    unfolding first_of
    right e = first_false 9 (not (eqb (length area) p.tiles)) [] (not-true (eq-eqb _ _ e))

    pub told_done : length area ≡ p.tiles → (new : List ℕ) → new ≡ rounds_to p p.tiles → answer 0 new ≡ rounds_of_call l area
    told_done e new c = ap (answer 0) c ∙ call_done (read_lines l) (numbered l) _ 0 _ area (reads_for (route_of 0) l o.none) (right e) ∙ told_at
