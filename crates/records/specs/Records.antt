-- Read this.
-- The words of the processors' records, three a record, and the stores into a slice of records.
-- Renders document 01, "The machine": the board records.
use Rattle.std.specs.Prelude.{ℕ, zero, suc, ◌+◌, ◌*◌, ◌≤◌, ◌≡◌, List, [], ◌∷◌, ◌++◌, length, get_or, set, take, replicate, ltb, eqb, Result, Ok, Err}
use Rattle.base.specs.Tests.{pick}
use Rattle.base.specs.declared.refusal.Refusal.{Refusal}
use Rattle.records.specs.declared.Progress.{Progress}
use Rattle.records.specs.declared.Flat.{Flat}

-- the words of records, in order
unfoldable pub flat_words : List Progress → List ℕ
flat_words [] = []
flat_words (r ∷ rs) = r.finished ∷ r.stage ∷ r.sent ∷ flat_words rs

-- words fix the records
abbrev pub Injective : Type 0
Injective = (rs ss : List Progress) → flat_words rs ≡ flat_words ss → rs ≡ ss

-- ---- the words of records as a call reads them: 192 at most, since a recipe has at most 64 processors

-- f tells of the words l what a call reads of them: how many they are, and, unless they are too many for any recipe, the words
pub record Flattens (f : Flat) (l : List ℕ) : Type 0 where
  pub counted : f.count ≡ length l
  pub kept : length l ≤ 192 → take (length l) f.words ≡ l
  pub room : length f.words ≡ 192

-- n words, none of them written yet
abbrev pub blank : ℕ → Flat
blank n = record { words = replicate 192 0; count = n }

-- the words of record i written, where they are among the first 192
unfoldable pub words_at : List ℕ → ℕ → Progress → List ℕ
words_at words i r = pick (ltb i 64) (set (set (set words (3 * i) r.finished) (3 * i + 1) r.stage) (3 * i + 2) r.sent) words

abbrev pub with_record : Flat → ℕ → Progress → Flat
with_record f i r = record { words = words_at f.words i r; count = f.count }

-- ---- stores of a call that answered this, or gave this number; a refusal stores nothing

abbrev pub put_at : Result Progress Refusal → ℕ → List Progress → List Progress
put_at (Ok r) i rs = set rs i r
put_at (Err _) i rs = rs

abbrev pub zeros : Progress
zeros = record { finished = 0; stage = 0; sent = 0 }

unfoldable pub clear_all : ℕ → List Progress → List Progress
clear_all number rs = pick (eqb number 0) (replicate (length rs) zeros) rs

-- record i of these words, where it is among the first 64
unfoldable pub record_in : Flat → ℕ → Progress
record_in f i =
    pick (ltb i 64) (record { finished = get_or f.words (3 * i) 0; stage = get_or f.words (3 * i + 1) 0; sent = get_or f.words (3 * i + 2) 0 })
    zeros

unfoldable pub records_in : Flat → ℕ → List Progress
records_in f zero = []
records_in f (suc n) = records_in f n ++ (record_in f n ∷ [])

unfoldable pub put_all : ℕ → Flat → List Progress → List Progress
put_all number f rs = pick (eqb number 0) (records_in f (length rs)) rs
