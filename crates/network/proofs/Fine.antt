-- AreasApart of which each processor's have their lengths and are fit: all that the calls ask of them; and networks with packets of their messages' lengths.
use Prim.Native.Nat.{ℕ, ◌≤◌, ◌<◌}
use mathlib.Core.Path.{◌≡◌, ap, ◌∙◌}
use mathlib.Core.Bool.{true}
use mathlib.Core.List.{List}
use lib.ListN.{length, length-map}
use lib.Dec.{leb}
use borrow.Author.Tests.{le-leb, leb-true}
use Rattle.base.proofs.Tests.{both, and_true, every_at, every_all}
use Rattle.machine.specs.Plan.{Plan, count, held_by}
use Rattle.machine.specs.Machine.{State, fit_record, fit}
use Rattle.machine.proofs.Progress.{Shape}
use Rattle.machine.proofs.Kept.{status_of}
use Rattle.network.specs.Apart.{AreasApart}
use Rattle.network.specs.Packets.{Network, packet_at}
use Rattle.network.specs.Locality.{PlanLengths}
use Rattle.network.proofs.Together.{Together}
use Rattle.network.proofs.Network.{Follows}
use Rattle.network.proofs.Locality.{shape_of}

pub record Fine (p : Plan) (a : AreasApart) : Type 0 where
  pub shape : (b : ℕ) → b < p.processors → Shape p (a b)
  pub high : (b : ℕ) → b < p.processors → (m : ℕ) → m < count p → status_of (a b) m ≤ 3

pub record FineNetwork (p : Plan) (n : Network) : Type 0 where
  pub areas : Fine p n.areas
  pub low : (k : ℕ) → k < length n.packets → (packet_at n.packets k).message < count p
  pub long : (k : ℕ) → k < length n.packets → length (packet_at n.packets k).words ≡ length (held_by p (packet_at n.packets k).message)

pub fine_fit : (p : Plan) (a : AreasApart) → Fine p a → (b : ℕ) → b < p.processors → fit p (a b) ≡ true
unfolding fit
fine_fit p a fine b h =
    and_true (every_all (fit_record p (a b)) p.processors (fine.shape b h).records)
    (every_all (λ m. leb (status_of (a b) m) 3) (count p) (λ m lo. le-leb _ _ (fine.high b h m lo)))

fit_marks : (p : Plan) (s : State) → fit p s ≡ true → (m : ℕ) → m < count p → leb (status_of s m) 3 ≡ true
unfolding fit
fit_marks p s f = every_at (λ m. leb (status_of s m) 3) (count p) (both f).1

pub fit_fine : (p : Plan) (source : List ℕ) (a : AreasApart) → ((b : ℕ) → b < p.processors → PlanLengths p source (a b))
    → ((b : ℕ) → b < p.processors → fit p (a b) ≡ true) → Fine p a
fit_fine p source a lent fits = record { shape = λ b h. shape_of p source (a b) (lent b h) (fits b h); high = λ b h. marks (a b) (fits b h) }
  where
    marks : (s : State) → fit p s ≡ true → (m : ℕ) → m < count p → status_of s m ≤ 3
    marks s f m lo = leb-true (status_of s m) 3 (fit_marks p s f m lo)

-- areas that agree with shared ones
pub together_fine : {Q : ℕ → Type 0} (p : Plan) (source : List ℕ) (s : State) (a : AreasApart) → Together Q p source s a → Fine p a
together_fine p source s a to = record { shape = λ b h. (to.each b h).shape; high = λ b h. (to.each b h).high }

pub follows_fine : (p : Plan) (source : List ℕ) (s : State) (n : Network) → Follows p source s n → FineNetwork p n
follows_fine p source s n fo =
    record {
      areas = together_fine p source s n.areas fo.to;
      low = λ k h. (fo.right k h).low;
      long = λ k h. ap length (fo.right k h).words ∙ length-map (held_by p (packet_at n.packets k).message) _;
    }
