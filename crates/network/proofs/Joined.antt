-- AreasApart joined from the processors' own parts and records: collecting them is collecting from the processors; and where shared areas are beside these,
-- both are collecting from the shared ones.
use Prim.Native.Nat.{ℕ, zero, suc, ◌*◌, ◌≤◌, ◌<◌}
use mathlib.Core.Path.{◌≡◌, refl, sym, ap, ◌∙◌}
use mathlib.Core.Bool.{Bool, true, false}
use mathlib.Core.List.{List, []}
use native.Mathlib.Omega.{arith}
use native.Mathlib.Decide.{ℕ_discrete}
use lib.ListN.{length, get_or}
use lib.Dec.{ltb, leb}
use borrow.Author.Tests.{le-leb}
use Rattle.base.specs.Tests.{pick}
use Rattle.base.specs.Lists.{put}
use Rattle.base.proofs.Tests.{and_true, every_all, some_same, tabulate_same, not-true}
use Rattle.base.proofs.Lists.{piece_length, piece_same, piece_other}
use Rattle.base.proofs.Numbers.{first_false}
use Rattle.machine.specs.Plan.{Plan, Sound, count, tiles_of, words}
use Rattle.machine.specs.Machine.{State, state_of, set_progress, finished_of, stage_of, sent_of, memory_of, tiles_left, fit_record, fit, answered, collected, collect}
use Rattle.machine.proofs.Records.{SameRecord, same_then, record_other, record_length, finished_same, stage_same, sent_same, fit_at, fit_is}
use Rattle.machine.proofs.Progress.{Shape}
use Rattle.machine.proofs.Kept.{inv_fit, status_of, memory_length}
use Rattle.machine.proofs.Fresh.{inv_fresh, status_fresh}
use Rattle.network.specs.Apart.{AreasApart, join_to, joined, assembled, collect_apart}
use Rattle.network.proofs.Agrees.{left_same}
use Rattle.network.proofs.Together.{Together}

-- the parts of the first n processors are there
record Parts (p : Plan) (areas : AreasApart) (n : ℕ) (j : State) : Type 0 where
  memories : length j.memories ≡ p.processors * p.cells
  progress : length j.progress ≡ 3 * p.processors
  buffer : length j.buffer ≡ words p
  status : length j.status ≡ count p
  memory : (b : ℕ) → b < n → memory_of p j b ≡ memory_of p (areas b) b
  recorded : (b : ℕ) → b < n → SameRecord b j.progress (areas b).progress
  unsent : (m : ℕ) → status_of j m ≡ 0

-- one processor's parts more
module _ (p : Plan) (areas : AreasApart) (n : ℕ) (j : State) (low : n < p.processors) (long : length (memory_of p (areas n) n) ≡ p.cells)
    (q : Parts p areas n j) where
  abbrev added : State
  added =
      state_of (put j.memories (n * p.cells) (memory_of p (areas n) n)) j.buffer
      (set_progress j.progress n (finished_of (areas n) n) (stage_of (areas n) n) (sent_of (areas n) n)) j.status

  memory_is : (b : ℕ) → b < suc n → Dec (b ≡ n) → memory_of p added b ≡ memory_of p (areas b) b
  memory_is b h (yes e) = rw e (piece_same j.memories p.cells p.processors n (memory_of p (areas n) n) q.memories long low)
  memory_is b h (no k) =
      piece_other j.memories p.cells p.processors n (memory_of p (areas n) n) q.memories long low b k ∙ q.memory b (omega arith)

  record_is : (b : ℕ) → b < suc n → Dec (b ≡ n) → SameRecord b added.progress (areas b).progress
  record_is b h (yes e) =
      rw e (record {
        finished = finished_same j.progress n p.processors q.progress low (finished_of (areas n) n) (stage_of (areas n) n) (sent_of (areas n) n);
        stage = stage_same j.progress n p.processors q.progress low (finished_of (areas n) n) (stage_of (areas n) n) (sent_of (areas n) n);
        sent = sent_same j.progress n p.processors q.progress low (finished_of (areas n) n) (stage_of (areas n) n) (sent_of (areas n) n);
      })
  record_is b h (no k) =
      same_then (q.recorded b (omega arith)) (record_other j.progress n (finished_of (areas n) n) (stage_of (areas n) n) (sent_of (areas n) n) b k)

  with_one : Parts p areas (suc n) added
  with_one =
      record {
        memories = piece_length j.memories p.cells p.processors n (memory_of p (areas n) n) q.memories long low ∙ q.memories;
        progress = record_length j.progress n (finished_of (areas n) n) (stage_of (areas n) n) (sent_of (areas n) n) ∙ q.progress;
        buffer = q.buffer;
        status = q.status;
        memory = λ b h. memory_is b h (ℕ_discrete b n);
        recorded = λ b h. record_is b h (ℕ_discrete b n);
        unsent = q.unsent;
      }

module _ (p : Plan) (areas : AreasApart) (shapes : (b : ℕ) → b < p.processors → Shape p (areas b)) where
  parts : (n : ℕ) → n ≤ p.processors → Parts p areas n (join_to p areas n)
  unfolding join_to
  parts zero h =
      record {
        memories = (inv_fresh p []).shape.memories;
        progress = (inv_fresh p []).shape.progress;
        buffer = (inv_fresh p []).shape.buffer;
        status = (inv_fresh p []).shape.status;
        memory = λ b k. absurd (omega arith);
        recorded = λ b k. absurd (omega arith);
        unsent = status_fresh p;
      }
  parts (suc n) h =
      with_one p areas n (join_to p areas n) (omega arith) (memory_length p (areas n) n (omega arith) (shapes n (omega arith))) (parts n (omega arith))

  abbrev j : State
  j = joined p areas

  all : Parts p areas p.processors j
  all = parts p.processors (omega arith)

  fit_one : (b : ℕ) → b < p.processors → fit_record p j b ≡ true
  fit_one b h =
      let a = (all.recorded b h).finished in
      let c = (all.recorded b h).stage in
      let d = (all.recorded b h).sent in
      fit_is p j b
      ∙ (let e : fit_at p b (finished_of j b) (stage_of j b) (sent_of j b)
      ≡ fit_at p b (finished_of (areas b) b) (stage_of (areas b) b) (sent_of (areas b) b) = cc in e)
      ∙ sym (fit_is p (areas b) b) ∙ (shapes b h).records b h

  pub joined_shape : Shape p j
  joined_shape = record { memories = all.memories; buffer = all.buffer; progress = all.progress; status = all.status; records = fit_one }

  fit_joined : fit p j ≡ true
  unfolding fit
  fit_joined =
      and_true (every_all (fit_record p j) p.processors fit_one)
      (every_all (λ m. leb (status_of j m) 3) (count p) (λ m lo. le-leb _ _ (low_status m)))
    where
      low_status : (m : ℕ) → status_of j m ≤ 3
      low_status m = omega (arith, all.unsent m)

  left_joined : (b : ℕ) → b < p.processors → tiles_left p j b ≡ tiles_left p (areas b) b
  unfolding tiles_left
  left_joined b h = ap (λ (f : ℕ). ltb f (length (tiles_of p b))) (all.recorded b h).finished

module _ (p : Plan) (so : Sound p) (areas : AreasApart) (shapes : (b : ℕ) → b < p.processors → Shape p (areas b)) where
  collected_joined : collected p (joined p areas) ≡ assembled p areas
  unfolding collected assembled pick
  collected_joined = tabulate_same _ _ p.cells (λ c h. same_cell c h (p.inside c) refl)
    where
      same_cell : (c : ℕ) → c < p.cells → (i : Bool) → p.inside c ≡ i
          → pick i (get_or (memory_of p (joined p areas) (p.processor_of (p.tile_of c))) c 0) p.boundary
          ≡ pick i (get_or (memory_of p (areas (p.processor_of (p.tile_of c))) (p.processor_of (p.tile_of c))) c 0) p.boundary
      same_cell c h true i = ap (λ (l : List ℕ). get_or l c 0)
          ((all p areas shapes).memory (p.processor_of (p.tile_of c)) (so.processor_low (p.tile_of c) (so.tile_low c h i)))
      same_cell c h false o = refl

  pub joined_collects : (grid : List ℕ) → collect p (joined p areas) grid ≡ collect_apart p areas grid
  unfolding collect collect_apart
  joined_collects grid =
      rw (collected_joined, some_same (tiles_left p (joined p areas)) (λ b. tiles_left p (areas b) b) p.processors (left_joined p areas shapes))
      (ap (λ (k : ℕ). answered k (assembled p areas) grid) (first_false 10 _ _ (not-true (fit_joined p areas shapes))))

-- ---- beside shared areas s
module _ {Q : ℕ → Type 0} (p : Plan) (so : Sound p) (source : List ℕ) (s : State) (areas : AreasApart) (to : Together Q p source s areas) where
  pub assembled_same : assembled p areas ≡ collected p s
  unfolding assembled collected pick
  assembled_same =
      tabulate_same _ _ p.cells
      (λ c h. same_cell c h (p.inside c) refl)
    where
      same_cell : (c : ℕ) → c < p.cells → (i : Bool) → p.inside c ≡ i
          → pick i (get_or (memory_of p (areas (p.processor_of (p.tile_of c))) (p.processor_of (p.tile_of c))) c 0) p.boundary
          ≡ pick i (get_or (memory_of p s (p.processor_of (p.tile_of c))) c 0) p.boundary
      same_cell c h true i =
          ap (λ (l : List ℕ). pick true (get_or l c 0) p.boundary)
          (to.each (p.processor_of (p.tile_of c)) (so.processor_low (p.tile_of c) (so.tile_low c h i))).memory
      same_cell c h false o = refl

  pub collect_same : (grid : List ℕ) → collect_apart p areas grid ≡ collect p s grid
  unfolding collect_apart collect
  collect_same grid =
      rw (
        assembled_same,
        some_same (λ b. tiles_left p (areas b) b) (tiles_left p s) p.processors (λ b h. left_same p source s b (areas b) to.inv (to.each b h)),
      )
      (ap (λ (k : ℕ). answered k (collected p s) grid) (sym (first_false 10 _ _ (not-true (inv_fit p source s to.inv)))))

  pub joined_same : (grid : List ℕ) → collect p (joined p areas) grid ≡ collect p s grid
  joined_same grid = joined_collects p so areas (λ b h. (to.each b h).shape) grid ∙ collect_same grid
