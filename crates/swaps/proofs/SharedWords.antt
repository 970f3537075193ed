-- What a call that gives 0 does to the shared words: it may set the word of its own processor, by its own record there, and no other.
use Prim.Native.Nat.{ℕ, zero, suc, ◌+◌}
use mathlib.Core.Path.{◌≡◌, refl, sym, ap, ◌∙◌}
use mathlib.Core.Logic.{◌≢◌}
use mathlib.Core.Bool.{Bool, true, false}
use mathlib.Core.List.{List}
use lib.ListN.{length, get_or, set}
use lib.Seq.{set_comm, get_or-set_other}
use lib.Dec.{ltb}
use Rattle.base.specs.Tests.{pick}
use Rattle.machine.specs.Plan.{Plan, sender_of, tiles_of, sends_of}
use Rattle.machine.specs.Machine.{State, finished_of, stage_of, sent_of, action_at}
use Rattle.machine.specs.Runs.{Event, turn_of, delivery_of, act}
use Rattle.machine.proofs.Records.{SameRecord}
use Rattle.machine.proofs.Deeds.{turn_away, delivery_away}
use Rattle.tenants.specs.Tenants.{TenantAreas, holder_of, freed_after, engaged_after, carry_out_for, Sharing, Sources, source_for, own_of, other_of, lent_to}
use Rattle.tenants.specs.Tenants.{returned, act_for, act_on}
use Rattle.tenants.proofs.OneCall.{turn_done, deliver_words}

-- by the tenant, the processor, and the tenant's record there: tiles finished, stage, messages sent
unfoldable pub touch_at : Plan → ℕ → ℕ → ℕ → ℕ → ℕ → List ℕ → List ℕ
touch_at p o b f zero n l = set l b o
touch_at p o b f (suc zero) n l = freed_after p l b (get_or (tiles_of p b) f 0) 0
touch_at p o b f (suc (suc g)) n l = freed_after p l b (sender_of p (get_or (sends_of p (get_or (tiles_of p b) f 0)) n 0)) (n + 1)

unfoldable pub words_by : Plan → ℕ → State → Event → List ℕ → List ℕ
words_by p o s (turn_of b) l = touch_at p o b (finished_of s b) (stage_of s b) (sent_of s b) l
words_by p o s (delivery_of m) l = l

is_touch : (p : Plan) (o : ℕ) (l : TenantAreas) (b f g : ℕ)
    → engaged_after p o l b (action_at p g (get_or (tiles_of p b) f 0) (sent_of l.own b)) ≡ touch_at p o b f g (sent_of l.own b) l.engaged
unfolding engaged_after action_at touch_at
is_touch p o l b f zero = refl
is_touch p o l b f (suc zero) = refl
is_touch p o l b f (suc (suc g)) = refl

pub words_after : (p : Plan) (sources : Sources) (r : Sharing) (o : ℕ) (e : Event)
    → (act_on p sources r (record { tenant = o; event = e })).number ≡ 0
    → (act_on p sources r (record { tenant = o; event = e })).after.engaged ≡ words_by p o (own_of r o) e r.engaged
unfolding act_on act_for returned carry_out_for words_by
words_after p sources r o (turn_of b) z =
    ap (λ (l : TenantAreas). l.engaged) (turn_done p o (lent_to r o) (other_of r o).progress (source_for sources o) b z)
    ∙ is_touch p o (lent_to r o) b (finished_of (own_of r o) b) (stage_of (own_of r o) b)
words_after p sources r o (delivery_of m) z = deliver_words p o (lent_to r o) (other_of r o).progress m

-- a gather engages its processor
pub words_gather : (p : Plan) (o : ℕ) (s : State) (b : ℕ) (l : List ℕ) → stage_of s b ≡ 0 → words_by p o s (turn_of b) l ≡ set l b o
unfolding words_by touch_at
words_gather p o s b l e = rw e

-- ---- another processor's word
freed_away : (p : Plan) (l : List ℕ) (b t n c : ℕ) → c ≢ b → holder_of (freed_after p l b t n) c ≡ holder_of l c
unfolding freed_after pick
freed_away p l b t n c ne = go (ltb n (length (sends_of p t)))
  where
    go : (more : Bool) → holder_of (pick more l (set l b 2)) c ≡ holder_of l c
    go true = refl
    go false = get_or-set_other l b c 2 0 ne

touch_away : (p : Plan) (o b f g n : ℕ) (l : List ℕ) (c : ℕ) → c ≢ b → holder_of (touch_at p o b f g n l) c ≡ holder_of l c
unfolding touch_at
touch_away p o b f zero n l c ne = get_or-set_other l b c o 0 ne
touch_away p o b f (suc zero) n l c ne = freed_away p l b _ _ c ne
touch_away p o b f (suc (suc g)) n l c ne = freed_away p l b _ _ c ne

pub words_away : (p : Plan) (o : ℕ) (s : State) (e : Event) (l : List ℕ) (c : ℕ) → e ≢ turn_of c
    → holder_of (words_by p o s e l) c ≡ holder_of l c
unfolding words_by
words_away p o s (turn_of b) l c ne = touch_away p o b _ _ _ l c (λ q. ne (ap turn_of (sym q)))
words_away p o s (delivery_of m) l c ne = refl

-- ---- two processors' words, in either order
freed_set : (p : Plan) (l : List ℕ) (b t n c v : ℕ) → c ≢ b → freed_after p (set l c v) b t n ≡ set (freed_after p l b t n) c v
unfolding freed_after pick
freed_set p l b t n c v ne = go (ltb n (length (sends_of p t)))
  where
    go : (more : Bool) → pick more (set l c v) (set (set l c v) b 2) ≡ set (pick more l (set l b 2)) c v
    go true = refl
    go false = set_comm l c b v 2 ne

touch_set : (p : Plan) (o b f g n : ℕ) (l : List ℕ) (c v : ℕ) → c ≢ b → touch_at p o b f g n (set l c v) ≡ set (touch_at p o b f g n l) c v
unfolding touch_at
touch_set p o b f zero n l c v ne = set_comm l c b v o ne
touch_set p o b f (suc zero) n l c v ne = freed_set p l b _ _ c v ne
touch_set p o b f (suc (suc g)) n l c v ne = freed_set p l b _ _ c v ne

touch_freed : (p : Plan) (o b f g n : ℕ) (l : List ℕ) (c t k : ℕ) → c ≢ b
    → touch_at p o b f g n (freed_after p l c t k) ≡ freed_after p (touch_at p o b f g n l) c t k
unfolding freed_after pick
touch_freed p o b f g n l c t k ne = go (ltb k (length (sends_of p t)))
  where
    go : (more : Bool) → touch_at p o b f g n (pick more l (set l c 2)) ≡ pick more (touch_at p o b f g n l) (set (touch_at p o b f g n l) c 2)
    go true = refl
    go false = touch_set p o b f g n l c 2 ne

touch_touch : (p : Plan) (o b f g n q c i j k : ℕ) (l : List ℕ) → c ≢ b
    → touch_at p o b f g n (touch_at p q c i j k l) ≡ touch_at p q c i j k (touch_at p o b f g n l)
unfolding touch_at
touch_touch p o b f g n q c i zero k l ne = touch_set p o b f g n l c q ne
touch_touch p o b f g n q c i (suc zero) k l ne = touch_freed p o b f g n l c _ _ ne
touch_touch p o b f g n q c i (suc (suc j)) k l ne = touch_freed p o b f g n l c _ _ ne

pub words_swap : (p : Plan) (o q : ℕ) (s t : State) (e f : Event) (l : List ℕ) → ((b : ℕ) → e ≡ turn_of b → f ≡ turn_of b → ⊥)
    → words_by p q t f (words_by p o s e l) ≡ words_by p o s e (words_by p q t f l)
unfolding words_by
words_swap p o q s t (turn_of b) (turn_of c) l n = touch_touch p q c _ _ _ o b _ _ _ l (λ h. n b refl (ap turn_of (sym h)))
words_swap p o q s t (turn_of b) (delivery_of m) l n = refl
words_swap p o q s t (delivery_of m) f l n = refl

-- ---- who has the same record does the same to the words
pub words_same : (p : Plan) (o : ℕ) (s s' : State) (e : Event) (l : List ℕ)
    → ((b : ℕ) → e ≡ turn_of b → SameRecord b s'.progress s.progress) → words_by p o s' e l ≡ words_by p o s e l
unfolding words_by
words_same p o s s' (turn_of b) l h = let r = h b refl in rw (r.finished, r.stage, r.sent)
words_same p o s s' (delivery_of m) l h = refl

-- an event of the single tenant leaves the record of every processor but the one it turns
pub record_kept : (p : Plan) (source : List ℕ) (s : State) (e : Event) (b : ℕ) → e ≢ turn_of b
    → SameRecord b (act p source s e).after.progress s.progress
unfolding act
record_kept p source s (turn_of c) b ne = turn_away p s c source b (λ q. ne (ap turn_of (sym q)))
record_kept p source s (delivery_of m) b ne = delivery_away p s m b
