-- One processor's own areas since its last start: the invariant, kept by every turn, post, arrival and new start.
use Prim.Native.Nat.{ℕ, ◌≤◌, ◌<◌}
use mathlib.Core.Path.{◌≡◌, refl, sym, ap, ◌∙◌}
use mathlib.Core.Logic.{◌⊎◌, inl, inr, ◌≢◌}
use mathlib.Core.Bool.{true}
use mathlib.Core.List.{List, map}
use native.Mathlib.Omega.{arith}
use native.Mathlib.Decide.{ℕ_discrete}
use lib.ListN.{length, length-map}
use Rattle.base.proofs.Lists.{length_put}
use Rattle.machine.specs.Plan.{Plan, Sound, count, sender_of, held_by}
use Rattle.machine.specs.Machine.{State, place_of, current_tile, fit, turn, fresh}
use Rattle.machine.proofs.Progress.{prog, full}
use Rattle.machine.proofs.Invariant.{Step, pending, status_two}
use Rattle.machine.proofs.Kept.{Held, Moves, swept, status_of, shape_fit}
use Rattle.machine.proofs.Events.{Refused, turn_moves}
use Rattle.machine.proofs.Fresh.{inv_fresh, status_fresh}
use Rattle.network.specs.Apart.{sender_at, marked, received}
use Rattle.network.proofs.Letters.{words_fit, words_there, words_other}
use Rattle.network.proofs.Carry.{status_two as marked-two, status_rest, shape_marked}

-- processor b's messages: only of these does a mark in b's areas tell how far their senders are by b's records
abbrev pub Own : Plan → ℕ → ℕ → Type 0
Own p b m = sender_at p m ≡ b

pub record Life (p : Plan) (source : List ℕ) (b : ℕ) (s : State) : Type 0 where
  pub held : Held (Own p b) p source s
  -- another's message is never in flight here
  pub no_flight : (m : ℕ) → m < count p → sender_at p m ≢ b → status_of s m ≢ 1

pub life_fit : (p : Plan) (source : List ℕ) (b : ℕ) (s : State) → Life p source b s → fit p s ≡ true
life_fit p source b s li = shape_fit p s li.held.shape li.held.statuses.high

-- what a turn that gives 0 leaves: one deed of the tile at which the processor stands, and no message posted or received
pub record Lived (p : Plan) (source : List ℕ) (b : ℕ) (s s' : State) : Type 0 where
  pub life : Life p source b s'
  pub home : p.processor_of (current_tile p s b) ≡ b
  pub step : Step p (current_tile p s b) (prog p s) (prog p s')
  pub within : prog p s' (current_tile p s b) ≤ full p (current_tile p s b)
  pub same : (m : ℕ) → m < count p → pending (status_of s' m) ≡ pending (status_of s m)

module _ (p : Plan) (so : Sound p) (source : List ℕ) (s : State) (b : ℕ) (li : Life p source b s) where
  -- ---- a turn
  lived : (s' : State) → Moves (Own p b) p source s b s' → Lived p source b s s'
  lived s' mo =
      record {
        life = record { held = mo.held; no_flight = λ m lo k e. flies m k (mo.flies m lo e) lo };
        home = mo.home;
        step = mo.step;
        within = mo.within;
        same = mo.same;
      }
    where
      flies : (m : ℕ) → sender_at p m ≢ b → (sender_of p m ≡ current_tile p s b) ⊎ (status_of s m ≡ 1) → m < count p → ⊥
      flies m k (inl e) lo = k (ap p.processor_of e ∙ mo.home)
      flies m k (inr e) lo = li.no_flight m lo k e

  pub turn_lives : (((turn p source s b).number ≡ 0) × Lived p source b s (turn p source s b).after) ⊎ Refused s (turn p source s b)
  turn_lives = go (turn_moves p so source s li.held b (λ m lo e. e))
    where
      go : (((turn p source s b).number ≡ 0) × Moves (Own p b) p source s b (turn p source s b).after) ⊎ Refused s (turn p source s b)
          → (((turn p source s b).number ≡ 0) × Lived p source b s (turn p source s b).after) ⊎ Refused s (turn p source s b)
      go (inl k) = inl (k.0, lived _ k.1)
      go (inr k) = inr k

  -- ---- a post, and an arrival
  module _ (m : ℕ) (lo : m < count p) where
    two : status_of (marked s m) m ≡ 2
    two = marked-two p b s m lo li.held.shape

    rest : (k : ℕ) → k < count p → k ≢ m → status_of (marked s m) k ≡ status_of s k
    rest k l n = status_rest p b s m lo k n

    still : (k : ℕ) → k < count p → sender_at p k ≢ b → status_of (marked s m) k ≡ 1 → Dec (k ≡ m) → ⊥
    still k l o q (yes e) = let x = ap (status_of (marked s m)) e in omega (arith, two)
    still k l o q (no n) = li.no_flight k l o (sym (rest k l n) ∙ q)

    one_before : (k : ℕ) → k < count p → Dec (k ≡ m) → 1 ≤ status_of (marked s m) k → 1 ≤ status_of s m → 1 ≤ status_of s k
    one_before k l (yes e) q o = rw e o
    one_before k l (no n) q o = omega (arith, rest k l n)

    pub post_lives : status_of s m ≡ 1 → Life p source b (marked s m)
    unfolding prog
    post_lives one =
        record {
          held = record {
            shape = shape_marked p b s m lo li.held.shape s.buffer refl;
            statuses = status_two (Own p b) p so (prog p s) (prog p s) (status_of s) (status_of (marked s m)) m li.held.statuses (λ e. omega arith)
                (λ o. omega arith) two rest;
            right = record {
              own = li.held.right.own;
              got = li.held.right.got;
              buffered = λ k l q. li.held.right.buffered k l (one_before k l (ℕ_discrete k m) q (omega arith));
            };
          };
          no_flight = λ k l o q. still k l o q (ℕ_discrete k m);
        }

    module _ (ws : List ℕ) (right : ws ≡ map (swept p source) (held_by p m)) where
      long : length ws ≡ length (held_by p m)
      long = ap length right ∙ length-map (held_by p m) _

      there : (k : ℕ) → k < count p → Dec (k ≡ m) → 1 ≤ status_of (marked s m) k
          → place_of p (received p s m ws).buffer k ≡ map (swept p source) (held_by p k)
      there k l (yes e) q = rw e (words_there p s.buffer m ws li.held.shape.buffer lo long ∙ right)
      there k l (no n) q =
          words_other p s.buffer m ws li.held.shape.buffer lo long k l n ∙ li.held.right.buffered k l (omega (arith, rest k l n))

      pub arrival_lives : sender_at p m ≢ b → status_of s m ≡ 0 → Life p source b (received p s m ws)
      unfolding prog
      arrival_lives away none =
          record {
            held = record {
              shape = shape_marked p b s m lo li.held.shape _
                  (length_put s.buffer _ ws (words_fit p s.buffer m ws li.held.shape.buffer lo long));
              statuses = status_two (Own p b) p so (prog p s) (prog p s) (status_of s) (status_of (marked s m)) m li.held.statuses (λ e. omega arith)
                  (λ o. absurd (away o)) two rest;
              right = record { own = li.held.right.own; got = li.held.right.got; buffered = λ k l q. there k l (ℕ_discrete k m) q };
            };
            no_flight = λ k l o q. still k l o q (ℕ_discrete k m);
          }

-- ---- a new start
pub fresh_lives : (p : Plan) (source : List ℕ) (b : ℕ) → Life p source b (fresh p)
fresh_lives p source b =
    record {
      held = record {
        shape = (inv_fresh p source).shape;
        statuses = record {
          high = (inv_fresh p source).statuses.high;
          status_sent = λ m h o k. (inv_fresh p source).statuses.status_sent m h k;
          sent_status = (inv_fresh p source).statuses.sent_status;
          taken_begun = (inv_fresh p source).statuses.taken_begun;
          begun_taken = (inv_fresh p source).statuses.begun_taken;
        };
        right = (inv_fresh p source).right;
      };
      no_flight = λ m h o k. omega (arith, status_fresh p m);
    }
