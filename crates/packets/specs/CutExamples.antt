-- Read this.
-- Chunks computed: how many there are, a message of three words, each refusal, and a message of 286 words whose chunks come last first and repeated.
use Rattle.std.specs.Prelude.{◌≡◌, true, false, List, [], ◌∷◌, ℕ, replicate}
use Rattle.base.specs.Tests.{tabulate}
use Rattle.packets.specs.Cut.{chunks_of, chunk_of, cut, Assembly, assembly, complete, take_chunk_call, take_all}

pub record Counted : Type 0 where
  pub none : chunks_of 0 ≡ 1
  pub full : chunks_of 285 ≡ 1
  pub one_more : chunks_of 286 ≡ 2
  pub most : chunks_of 18240 ≡ 64
  pub too_many : chunks_of 18241 ≡ 65
  pub both_bits : complete 2 3 ≡ true
  pub one_bit : complete 2 5 ≡ false

-- into an area of three words that has 1, 2 and 3
abbrev pub small : ℕ → Assembly
small mask = assembly (1 ∷ 2 ∷ 3 ∷ []) mask

pub record Small : Type 0 where
  pub whole : take_chunk_call (chunk_of 0 1 (7 ∷ 8 ∷ 9 ∷ [])) (small 0) ≡ record { number = 0; whole = 1; after = assembly (7 ∷ 8 ∷ 9 ∷ []) 1 }
  pub again : take_chunk_call (chunk_of 0 1 (7 ∷ 8 ∷ 9 ∷ [])) (small 1) ≡ record { number = 0; whole = 1; after = small 1 }
  pub other_chunk : take_chunk_call (chunk_of 1 1 (7 ∷ 8 ∷ 9 ∷ [])) (small 0) ≡ record { number = 11; whole = 0; after = small 0 }
  pub other_total : take_chunk_call (chunk_of 0 2 (7 ∷ 8 ∷ 9 ∷ [])) (small 0) ≡ record { number = 11; whole = 0; after = small 0 }
  pub other_count : take_chunk_call (chunk_of 0 1 (7 ∷ 8 ∷ [])) (small 0) ≡ record { number = 11; whole = 0; after = small 0 }

abbrev pub message : List ℕ
message = tabulate (λ i. i) 286

pub record Two : Type 0 where
  pub in_turn : take_all (cut message 1 ∷ cut message 1 ∷ cut message 0 ∷ cut message 1 ∷ []) (assembly (replicate 286 7) 0) ≡ assembly message 3
