-- Two networks that are the same to every processor answer alike, and stay so; hence a run on the processors' parts alone.
use Prim.Native.Nat.{ℕ, ◌*◌, ◌<◌}
use mathlib.Core.Path.{◌≡◌, refl, sym, ap, ◌∙◌}
use mathlib.Core.Logic.{inl, inr}
use mathlib.Core.Bool.{Bool, true, false}
use mathlib.Core.List.{List, [], ◌∷◌, ◌++◌}
use native.Mathlib.Omega.{arith}
use native.Mathlib.Decide.{dec_lt, ℕ_discrete}
use lib.ListN.{length, get_or, set, length-map}
use lib.Seq.{get_or-set_same, get_or-set_other}
use lib.Dec.{ltb, eqb}
use borrow.Author.Tests.{ltb-true, eq-eqb, ne_eqb}
use Rattle.base.specs.Tests.{not, pick, some}
use Rattle.base.specs.Numbers.{line, first_of}
use Rattle.base.proofs.Tests.{pick_true, pick_false, some_same, tabulate_same}
use Rattle.base.proofs.Entries.{part_at}
use Rattle.machine.specs.Plan.{Plan, Sound, count, sender_of, taker_of, held_by, tiles_of}
use Rattle.machine.specs.Machine.{State, memory_of, place_of, tiles_left, fit, Answered, fresh}
use Rattle.machine.specs.Runs.{act, state_after, answers_to}
use Rattle.machine.proofs.Invariant.{sender_low}
use Rattle.network.specs.Apart.{AreasApart, replaced, sender_at, taker_at, marked, received, sent_off, arrived, turn_apart, assembled}
use Rattle.network.specs.Apart.{collect_apart}
use Rattle.network.specs.Packets.{Packet, Network, network_of, packet_at, status_at, NetworkEvent, turn_by, post_of, arrival_of, posted, post, arrive}
use Rattle.network.specs.Packets.{turn_network, act_network, start_network, machine_events}
use Rattle.network.specs.Locality.{PlanLengths, Keeps, Handles, SameTo, Likewise, ReadsOwnWord}
use Rattle.network.specs.Own.{narrowed, widened}
use Rattle.network.specs.PartRuns.{PartNetwork, wide_network, part_network, act_own, PartRun}
use Rattle.network.proofs.Letters.{replaced_same, replaced_other, words_there, words_other}
use Rattle.network.proofs.Agrees.{agrees_fit}
use Rattle.network.proofs.Together.{turn_here, turn_nowhere}
use Rattle.network.proofs.Network.{Follows, two_lines, start_follows, event_steps}
use Rattle.network.proofs.Locality.{local}
use Rattle.network.proofs.Fine.{FineNetwork, fit_fine, follows_fine}
use Rattle.network.proofs.Own.{narrowed_same, wide_same, wide_lent, wide_fit}

-- ---- one processor's areas r beside others r' that are the same to it
pub record Beside (p : Plan) (source : List ℕ) (b : ℕ) (r r' : State) : Type 0 where
  pub lent : PlanLengths p source r
  pub lent' : PlanLengths p source r'
  pub view : SameTo p b r r'

-- a message marked, and its words received
module _ (p : Plan) (source : List ℕ) (b : ℕ) (r r' : State) (be : Beside p source b r r') (m : ℕ) (lo : m < count p) where
  mark_same : (k : ℕ) → k < count p → Handles p b k → get_or (set r.status m 2) k 0 ≡ get_or (set r'.status m 2) k 0
  mark_same k l mine = go (ℕ_discrete k m)
    where
      go : Dec (k ≡ m) → get_or (set r.status m 2) k 0 ≡ get_or (set r'.status m 2) k 0
      go (yes e) =
          rw e (get_or-set_same r.status m 2 0 (rw be.lent.status lo) ∙ sym (get_or-set_same r'.status m 2 0 (rw be.lent'.status lo)))
      go (no n) = get_or-set_other r.status m k 2 0 n ∙ be.view.marks k l mine ∙ sym (get_or-set_other r'.status m k 2 0 n)

  pub marked_same : SameTo p b (marked r m) (marked r' m)
  marked_same =
      record {
        memory = be.view.memory;
        finished = be.view.finished;
        stage = be.view.stage;
        sent = be.view.sent;
        words = be.view.words;
        marks = mark_same;
      }

  pub received_same : (ws : List ℕ) → length ws ≡ length (held_by p m) → SameTo p b (received p r m ws) (received p r' m ws)
  received_same ws e =
      record {
        memory = be.view.memory;
        finished = be.view.finished;
        stage = be.view.stage;
        sent = be.view.sent;
        words = λ k l mine. go k l mine (ℕ_discrete k m);
        marks = mark_same;
      }
    where
      go : (k : ℕ) → k < count p → Handles p b k → Dec (k ≡ m) → place_of p (received p r m ws).buffer k ≡ place_of p (received p r' m ws).buffer k
      go k l mine (yes q) =
          rw q (words_there p r.buffer m ws be.lent.buffer lo e ∙ sym (words_there p r'.buffer m ws be.lent'.buffer lo e))
      go k l mine (no n) =
          words_other p r.buffer m ws be.lent.buffer lo e k l n ∙ be.view.words k l mine
          ∙ sym (words_other p r'.buffer m ws be.lent'.buffer lo e k l n)

-- ---- all processors'
abbrev pub Views : Plan → AreasApart → AreasApart → Type 0
Views p a a' = (c : ℕ) → c < p.processors → SameTo p c (a c) (a' c)

replaced_view : (p : Plan) (a a' : AreasApart) (b : ℕ) (x x' : State) → Views p a a' → (b < p.processors → SameTo p b x x')
    → Views p (replaced a b x) (replaced a' b x')
replaced_view p a a' b x x' v e c l = go (ℕ_discrete c b)
  where
    go : Dec (c ≡ b) → SameTo p c (replaced a b x c) (replaced a' b x' c)
    go (yes q) = rw (replaced_same a b x c q, replaced_same a' b x' c q, q) (e (rw (sym q) l))
    go (no n) = rw (replaced_other a b x c n, replaced_other a' b x' c n) (v c l)

-- two answers that are alike
pub record Alike (p : Plan) (x y : Answered Network) : Type 0 where
  pub number : x.number ≡ y.number
  pub packets : x.after.packets ≡ y.after.packets
  pub views : Views p x.after.areas y.after.areas

alike_by : (p : Plan) (x y : ℕ) (new new' old old' : Network) → x ≡ y
    → (x ≡ 0 → (new.packets ≡ new'.packets) × Views p new.areas new'.areas)
    → (old.packets ≡ old'.packets) × Views p old.areas old'.areas
    → Alike p (record { number = x; after = pick (eqb x 0) new old }) (record { number = y; after = pick (eqb y 0) new' old' })
alike_by p x y new new' old old' e yes-so no-so = rw (sym e) (go (ℕ_discrete x 0))
  where
    go : Dec (x ≡ 0) → Alike p (record { number = x; after = pick (eqb x 0) new old }) (record { number = x; after = pick (eqb x 0) new' old' })
    go (yes z) =
        rw (pick_true _ new old (eq-eqb x 0 z), pick_true _ new' old' (eq-eqb x 0 z))
        (record { number = refl; packets = (yes-so z).0; views = (yes-so z).1 })
    go (no n) =
        rw (pick_false _ new old (ne_eqb x 0 n), pick_false _ new' old' (ne_eqb x 0 n))
        (record { number = refl; packets = no-so.0; views = no-so.1 })

lines_same : (l x y : Bool) → (l ≡ true → x ≡ y) → first_of (line 11 (not l) ∷ line 14 (not x) ∷ []) ≡ first_of (line 11 (not l) ∷ line 14 (not y) ∷ [])
unfolding first_of not pick
lines_same true x y e = rw (e refl)
lines_same false x y e = refl

-- ---- an event in both
module _ (p : Plan) (so : Sound p) (own : ReadsOwnWord p) (source : List ℕ) (long : length source ≡ p.cells) (s : State) (n : Network)
    (fo : Follows p source s n) where
  pub lent_here : (b : ℕ) → b < p.processors → PlanLengths p source (n.areas b)
  lent_here b h =
      let sh = (fo.to.each b h).shape in
      record { source = long; memories = sh.memories; buffer = sh.buffer; progress = sh.progress; status = sh.status }

  pub fit_here : (b : ℕ) → b < p.processors → fit p (n.areas b) ≡ true
  fit_here b h = agrees_fit p source s b (n.areas b) fo.to.inv (fo.to.each b h)

  pub from_low : (m : ℕ) → m < count p → sender_at p m < p.processors
  from_low m lo = so.processor_low (sender_of p m) (sender_low p so m lo)

  pub to_low : (m : ℕ) → m < count p → taker_at p m < p.processors
  to_low m lo = so.processor_low (taker_of p m) (so.taker_low m lo)

  -- other areas that are the same to every processor
  module _ (a : AreasApart) (views : Views p n.areas a) (lent : (b : ℕ) → b < p.processors → PlanLengths p source (a b))
      (fits : (b : ℕ) → b < p.processors → fit p (a b) ≡ true) where
    beside : (b : ℕ) → b < p.processors → Beside p source b (n.areas b) (a b)
    beside b h = record { lent = lent_here b h; lent' = lent b h; view = views b h }

    -- a turn
    like : (b : ℕ) → b < p.processors → Likewise p source source (n.areas b) (a b) b
    like b h =
        record {
          lent = lent_here b h;
          lent' = lent b h;
          both_fit = fit_here b h ∙ sym (fits b h);
          same_source = λ t c l e i. refl;
          same_areas = views b h;
        }

    turn_alike : (b : ℕ) → Alike p (turn_network p source n b) (turn_network p source (network_of a n.packets) b)
    unfolding turn_network
    turn_alike b = go (dec_lt b p.processors)
      where
        go : Dec (b < p.processors)
            → Alike p (record { number = (turn_apart p source n.areas b).number; after = network_of (turn_apart p source n.areas b).after n.packets })
            (record { number = (turn_apart p source a b).number; after = network_of (turn_apart p source a b).after n.packets })
        go (yes h) =
            rw (turn_here p source n.areas b h, turn_here p source a b h)
            (record {
              number = (local p so own).same_number source source (n.areas b) (a b) b (like b h);
              packets = refl;
              views = replaced_view p n.areas a b _ _ views
                  (λ l. (local p so own).same_changes source source (n.areas b) (a b) b (like b h));
            })
        go (no k) =
            rw (turn_nowhere p source n.areas b (omega arith), turn_nowhere p source a b (omega arith))
            (record { number = refl; packets = refl; views = views })

    -- a post
    posted_same : (m : ℕ) → m < count p → n.packets ++ posted p n.areas m ≡ n.packets ++ posted p a m
    unfolding posted
    posted_same m lo =
        ap (λ (ws : List ℕ). n.packets ++ pick (eqb (sender_at p m) (taker_at p m)) [] (record { message = m; words = ws } ∷ []))
        ((views (sender_at p m) (from_low m lo)).words m lo (inl refl))

    off_views : (m : ℕ) → m < count p → Views p (sent_off p n.areas m) (sent_off p a m)
    unfolding sent_off
    off_views m lo =
        replaced_view p n.areas a (sender_at p m) _ _ views
        (λ l. marked_same p source (sender_at p m) (n.areas (sender_at p m)) (a (sender_at p m)) (beside (sender_at p m) l) m lo)

    post_alike : (m : ℕ) → Alike p (post p n m) (post p (network_of a n.packets) m)
    unfolding post
    post_alike m =
        alike_by p _ _ _ _ n (network_of a n.packets)
        (lines_same (ltb m (count p)) _ _
        (λ h. ap (λ (x : ℕ). eqb x 1) ((views (sender_at p m) (from_low m (ltb-true _ _ h))).marks m (ltb-true _ _ h) (inl refl))))
        (λ z. (posted_same m (asked z), off_views m (asked z))) (refl, views)
      where
        asked : first_of (line 11 (not (ltb m (count p))) ∷ line 14 (not (eqb (status_at n.areas (sender_at p m) m) 1)) ∷ []) ≡ 0 → m < count p
        asked z = ltb-true _ _ (two_lines _ _ z).0

    -- an arrival
    module _ (k : ℕ) where
      abbrev it : Packet
      it = packet_at n.packets k

      words_long : k < length n.packets → length it.words ≡ length (held_by p it.message)
      words_long h = ap length (fo.right k h).words ∙ length-map (held_by p it.message) _

      come_views : k < length n.packets → Views p (arrived p n.areas it.message it.words) (arrived p a it.message it.words)
      unfolding arrived
      come_views h =
          replaced_view p n.areas a (taker_at p it.message) _ _ views
          (λ l. received_same p source (taker_at p it.message) (n.areas (taker_at p it.message)) (a (taker_at p it.message))
          (beside (taker_at p it.message) l) it.message (fo.right k h).low it.words (words_long h))

      status_same : k < length n.packets
          → status_at n.areas (taker_at p it.message) it.message ≡ status_at a (taker_at p it.message) it.message
      status_same h =
          (views (taker_at p it.message) (to_low it.message (fo.right k h).low)).marks it.message (fo.right k h).low (inr refl)

      arrive_alike : Alike p (arrive p n k) (arrive p (network_of a n.packets) k)
      unfolding arrive
      arrive_alike =
          alike_by p _ _ _ _ n (network_of a n.packets)
          (lines_same (ltb k (length n.packets)) _ _ (λ h. ap (λ (x : ℕ). eqb x 0) (status_same (ltb-true _ _ h))))
          (λ z. (refl, come_views (ltb-true _ _ (two_lines _ _ z).0))) (refl, views)

    pub event_alike : (e : NetworkEvent) → Alike p (act_network p source n e) (act_network p source (network_of a n.packets) e)
    unfolding act_network
    event_alike (turn_by b) = turn_alike b
    event_alike (post_of m) = post_alike m
    event_alike (arrival_of k) = arrive_alike k

-- ---- a run on the parts beside a run on whole areas
-- of calls that answer as the network does wherever areas have their lengths and are fit
module _ (p : Plan) (so : Sound p) (own : ReadsOwnWord p) (source : List ℕ) (long : length source ≡ p.cells)
    (acts : Network → NetworkEvent → Answered Network)
    (same : (n : Network) → FineNetwork p n → (e : NetworkEvent) → acts n e ≡ act_network p source n e) where
  record Relates (s : State) (n : Network) (o : PartNetwork) : Type 0 where
    follows : Follows p source s n
    packets : o.packets ≡ n.packets
    parts : (b : ℕ) → b < p.processors → o.parts b ≡ narrowed p b (n.areas b)

  module _ (s : State) (n : Network) (o : PartNetwork) (re : Relates s n o) where
    abbrev wide : AreasApart
    wide b = widened p b (o.parts b)

    wide_is : wide_network p o ≡ network_of wide n.packets
    unfolding wide_network
    wide_is = ap (network_of wide) re.packets

    abbrev here : (b : ℕ) → b < p.processors → PlanLengths p source (n.areas b)
    here b h = lent_here p so own source long s n re.follows b h

    same_here : (b : ℕ) → b < p.processors → SameTo p b (n.areas b) (wide b)
    same_here b h = rw (re.parts b h) (wide_same p b source (n.areas b) h (here b h))

    -- collecting from the parts
    left_same : some (λ b. tiles_left p (wide b) b) p.processors ≡ some (λ b. tiles_left p (n.areas b) b) p.processors
    unfolding tiles_left
    left_same = some_same _ _ p.processors (λ b h. ap (λ (f : ℕ). ltb f (length (tiles_of p b))) (sym (same_here b h).finished))

    word_same : (c : ℕ) → c < p.cells → p.inside c ≡ true
        → get_or (memory_of p (wide (p.processor_of (p.tile_of c))) (p.processor_of (p.tile_of c))) c 0
        ≡ get_or (memory_of p (n.areas (p.processor_of (p.tile_of c))) (p.processor_of (p.tile_of c))) c 0
    word_same c l i =
        let b = p.processor_of (p.tile_of c) in
        let t = so.tile_low c l i in
        part_at (wide b).memories (b * p.cells) p.cells c l
        ∙ sym ((same_here b (so.processor_low (p.tile_of c) t)).memory c l (Keeps.own (p.tile_of c) t refl (so.cell_in c l i)))
        ∙ sym (part_at (n.areas b).memories (b * p.cells) p.cells c l)

    grid_same : assembled p wide ≡ assembled p n.areas
    unfolding assembled pick
    grid_same = tabulate_same _ _ p.cells (λ c l. go c l (p.inside c) refl)
      where
        go : (c : ℕ) → c < p.cells → (i : Bool) → p.inside c ≡ i
            → pick i (get_or (memory_of p (wide (p.processor_of (p.tile_of c))) (p.processor_of (p.tile_of c))) c 0) p.boundary
            ≡ pick i (get_or (memory_of p (n.areas (p.processor_of (p.tile_of c))) (p.processor_of (p.tile_of c))) c 0) p.boundary
        go c l true i = word_same c l i
        go c l false i = refl

    collect_same : (grid : List ℕ) → collect_apart p (wide_network p o).areas grid ≡ collect_apart p n.areas grid
    unfolding collect_apart wide_network
    collect_same grid = rw (left_same, grid_same) refl

    wide_lent_here : (b : ℕ) → b < p.processors → PlanLengths p source (wide b)
    wide_lent_here b h = rw (re.parts b h) (wide_lent p b source (n.areas b) h (here b h) source long)

    wide_fit_here : (b : ℕ) → b < p.processors → fit p (wide b) ≡ true
    wide_fit_here b h = rw (re.parts b h) (wide_fit p b source (n.areas b) h (here b h) (fit_here p so own source long s n re.follows b h))

    fine : FineNetwork p n
    fine = follows_fine p source s n re.follows

    wide_fine : FineNetwork p (network_of wide n.packets)
    wide_fine = record { areas = fit_fine p source wide wide_lent_here wide_fit_here; low = fine.low; long = fine.long }

    alike : (e : NetworkEvent) → Alike p (acts n e) (acts (network_of wide n.packets) e)
    alike e =
        rw (same n fine e, same (network_of wide n.packets) wide_fine e)
        (event_alike p so own source long s n re.follows wide same_here wide_lent_here wide_fit_here e)

    own_number : (e : NetworkEvent) → (act_own p acts o e).number ≡ (acts n e).number
    unfolding act_own
    own_number e = ap (λ (w : Network). (acts w e).number) wide_is ∙ sym (alike e).number

    follows_next : (e : NetworkEvent)
        → Follows p source (state_after (act p source) s (machine_events p n e (act_network p source n e).number)) (acts n e).after
    follows_next e = rw (same n fine e) (event_steps p so source s n re.follows e).follows

    relates_next : (e : NetworkEvent)
        → Relates (state_after (act p source) s (machine_events p n e (act_network p source n e).number)) (acts n e).after (act_own p acts o e).after
    unfolding act_own part_network
    relates_next e =
        record {
          follows = follows_next e;
          packets = ap (λ (w : Network). (acts w e).after.packets) wide_is ∙ sym (alike e).packets;
          parts = λ b h.
              ap (λ (w : Network). narrowed p b ((acts w e).after.areas b)) wide_is ∙ sym (narrowed_same p b _ _ ((alike e).views b h));
        }

  relates_end : (es : List NetworkEvent) (s : State) (n : Network) (o : PartNetwork) → Relates s n o
      → (t : State) × Relates t (state_after acts n es) (state_after (act_own p acts) o es)
  unfolding state_after
  relates_end [] s n o re = (s, re)
  relates_end (e ∷ es) s n o re = relates_end es _ _ _ (relates_next s n o re e)

  relates_answers : (es : List NetworkEvent) (s : State) (n : Network) (o : PartNetwork) → Relates s n o
      → answers_to (act_own p acts) o es ≡ answers_to acts n es
  unfolding answers_to
  relates_answers [] s n o re = refl
  relates_answers (e ∷ es) s n o re =
      let a = own_number s n o re e in
      let b = relates_answers es _ _ _ (relates_next s n o re e) in
      cc

  module _ (start : Network) (begins : Follows p source (fresh p) start) where
    relates_start : Relates (fresh p) start (part_network p start)
    unfolding part_network
    relates_start = record { follows = begins; packets = refl; parts = λ b h. refl }

    pub own_run : (events : List NetworkEvent) → PartRun p acts start events
    own_run events =
        let e = relates_end events (fresh p) start (part_network p start) relates_start in
        let r = e.1 in
        record {
          same_answers = relates_answers events (fresh p) start (part_network p start) relates_start;
          same_packets = r.packets;
          same_parts = r.parts;
          same_collecting = collect_same e.0 _ _ r;
        }

-- of the machine
pub machine_own_run : (p : Plan) → Sound p → ReadsOwnWord p → (source : List ℕ) → length source ≡ p.cells → (events : List NetworkEvent)
    → PartRun p (act_network p source) (start_network p) events
machine_own_run p so own source long =
    own_run p so own source long (act_network p source) (λ n fine e. refl) (start_network p) (start_follows p so source)
