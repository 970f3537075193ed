-- For the proofs alone.
-- What the calls answer, line by line.
use mathlib.Core.Path.{◌≡◌, refl, sym, ap, ap₂, ◌∙◌}
use mathlib.Core.Bool.{Bool, true, false}
use mathlib.Core.Logic.{◌≢◌}
use mathlib.Core.List.{List, [], ◌∷◌, ◌++◌}
use Prim.Native.Nat.{ℕ, zero, suc, ◌+◌, ◌*◌, ◌^◌, ◌≤◌, ◌<◌}
use native.Mathlib.Nat.{zero-add}
use native.Mathlib.Omega.{arith}
use borrow.Author.Tests.{eq-eqb, ne_eqb, lt-ltb, le-ltb, ltb-false, eqb-true}
use lib.ListN.{length, take, drop}
use lib.Seq.{take-length}
use lib.Dec.{eqb, ltb}
use Rattle.base.specs.Tests.{◌or◌, not, tabulate}
use Rattle.base.specs.Bytes.{word}
use Rattle.base.specs.Numbers.{line, first_of}
use Rattle.base.proofs.Tests.{not-true, not-false, true_not, or_left, or_right, or_false, neither}
use Rattle.base.proofs.Numbers.{first_nil, first_true, first_false, none_first}
use Rattle.packets.specs.Crc.{crc32}
use Rattle.packets.specs.Packet.{word_bytes, words_bytes, magic, packet_length, head_words, body_of, encode_packet, word_at, double_at, count_of, header_of}
use Rattle.packets.specs.Packet.{words_of, unfit, damaged, stale}
use Rattle.packets.specs.Calls.{Put, written_of, written_by, write_call, no_header, read_of, read_by, read_lines, read_call}
use Rattle.packets.specs.declared.Header.{Header}
use Rattle.std.specs.Prelude.{Ok, Err}
use Rattle.base.specs.Refusals.{code}
use Rattle.base.specs.declared.refusal.Refusal.{Refusal}
use Rattle.base.proofs.Codes.{code_some}
use Rattle.packets.proofs.Bytes.{les_append, length_les, length_le, length_body, put_join}

-- the code's "not equal" is the library's
not_same : (b : Bool) → mathlib.Core.Bool.not b ≡ not b
unfolding not
not_same true = refl
not_same false = refl

-- ---- so many words in so many bytes

pub unfit_many : (n m : ℕ) → 285 < n → ltb 285 n ≡ unfit n m
unfolding unfit
unfit_many n m h = lt-ltb 285 n h ∙ sym (or_left _ (lt-ltb 285 n h))

pub unfit_long : (n m : ℕ) → n ≤ 285 → (t : Bool) → t ≡ mathlib.Core.Bool.not (eqb m (56 + 4 * n + 4)) → t ≡ unfit n m
unfolding unfit ◌or◌
unfit_long n m h t e =
    e ∙ not_same _ ∙ ap (λ (k : ℕ). not (eqb m k)) ends ∙ sym (ap (λ (b : Bool). b or not (eqb m (packet_length n))) (le-ltb 285 n h))
  where
    ends : 56 + 4 * n + 4 ≡ packet_length n
    ends = omega arith

pub fit_short : (n m : ℕ) → unfit n m ≡ false → n ≤ 285
unfolding unfit
fit_short n m e = ltb-false 285 n (neither e).0

pub fit_long : (n m : ℕ) → unfit n m ≡ false → m ≡ packet_length n
unfolding unfit
fit_long n m e = eqb-true m (packet_length n) (true_not (neither e).1)

pub fit_is : (n m : ℕ) → n ≤ 285 → m ≡ packet_length n → unfit n m ≡ false
unfolding unfit
fit_is n m h e = or_false (le-ltb 285 n h) (not-true (eq-eqb m (packet_length n) e))

-- ---- writing

pub write_refused : (h : Header) (ws s : List ℕ) → unfit (length ws) (length s) ≡ true → written_of 9 s ≡ write_call h ws s
unfolding write_call
write_refused h ws s e = sym (ap (λ (n : ℕ). written_by n h ws s) (first_true 9 _ [] e))

pub written_all : (h : Header) (ws a b c d : List ℕ) (check : ℕ) → length a ≡ packet_length (length ws)
    → Put a 0 (words_bytes (head_words h (length ws))) b → Put b 56 (words_bytes ws) c
    → check ≡ crc32 (take (56 + 4 * length ws) c) → Put c (56 + 4 * length ws) (word_bytes check) d → d ≡ encode_packet h ws
unfolding encode_packet body_of
written_all h ws a b c d check k p q e r =
    sym (take-length d) ∙ ap (λ (n : ℕ). take n d) ends ∙ r.front
    ∙ ap₂ (λ (x : List ℕ) (y : ℕ). x ++ word_bytes y) front (e ∙ ap crc32 front)
  where
    ends : length d ≡ 56 + 4 * length ws + length (word_bytes check)
    ends = omega (arith, r.long, q.long, p.long, k, length_le check)

    both : words_bytes (head_words h (length ws)) ++ words_bytes ws ≡ body_of h ws
    both = sym (les_append (head_words h (length ws)) ws)

    body : Put a 0 (words_bytes (head_words h (length ws)) ++ words_bytes ws) c
    body = put_join p (rw (length_les (head_words h (length ws))) q)

    long : 56 + 4 * length ws ≡ 0 + length (words_bytes (head_words h (length ws)) ++ words_bytes ws)
    long = sym (ap length both ∙ length_body h ws) ∙ sym (zero-add _)

    front : take (56 + 4 * length ws) c ≡ body_of h ws
    front = ap (λ (n : ℕ). take n c) long ∙ body.front ∙ both

pub write_done : (h : Header) (ws a d : List ℕ) → unfit (length ws) (length a) ≡ false → d ≡ encode_packet h ws → written_of 0 d ≡ write_call h ws a
unfolding write_call
write_done h ws a d l e = ap (written_of 0) e ∙ sym (ap (λ (n : ℕ). written_by n h ws a) (first_false 9 _ [] l ∙ first_nil))

-- ---- damaged

pub damaged_short : (p : List ℕ) → length p < 60 → true ≡ damaged p
unfolding damaged unfit
damaged_short p h = sym (or_left _ (or_right (ltb 285 (count_of p)) (not-false (ne_eqb (length p) (packet_length (count_of p)) (λ e. omega arith)))))

pub damaged_unfit : (p : List ℕ) (n : ℕ) → n ≡ count_of p → unfit n (length p) ≡ true → true ≡ damaged p
unfolding damaged
damaged_unfit p n k h = sym (or_left _ (ap (λ (x : ℕ). unfit x (length p)) (sym k) ∙ h))

pub damaged_magic : (p : List ℕ) (m : ℕ) → m ≡ word_at p 0 → (m ≡ magic → ⊥) → mathlib.Core.Bool.not (eqb m magic) ≡ damaged p
unfolding damaged
damaged_magic p m k h = not_same _ ∙ not-false (ne_eqb m magic h) ∙ sym (or_right (unfit (count_of p) (length p)) (or_left _ (not-false (ne_eqb (word_at p 0) magic (λ e. h (k ∙ e))))))

-- the check word alone is left to be tested
pub damaged_check : (p : List ℕ) (n c w m : ℕ) (t : Bool) → n ≡ count_of p → unfit n (length p) ≡ false → m ≡ word_at p 0 → m ≡ magic
    → c ≡ crc32 (take (56 + 4 * n) p) → w ≡ word_at p (14 + n) → t ≡ mathlib.Core.Bool.not (eqb w c) → t ≡ damaged p
unfolding damaged ◌or◌
damaged_check p n c w m t k l mw mm e f g =
    g ∙ not_same _ ∙ ap₂ (λ (x y : ℕ). not (eqb x y)) (f ∙ ap (λ (x : ℕ). word_at p (14 + x)) k) (e ∙ ap (λ (x : ℕ). crc32 (take x p)) ends)
    ∙ sym (ap₂ (λ (a b : Bool). a or (b or not (eqb (word_at p (14 + count_of p)) (crc32 (take (4 * (14 + count_of p)) p)))))
    (ap (λ (x : ℕ). unfit x (length p)) (sym k) ∙ l) (not-true (eq-eqb (word_at p 0) magic (sym mw ∙ mm))))
  where
    ends : 56 + 4 * n ≡ 4 * (14 + count_of p)
    ends = omega arith

-- what is known of a packet that is not damaged
pub record Whole (p : List ℕ) : Type 0 where
  pub short : count_of p ≤ 285
  pub long : length p ≡ packet_length (count_of p)
  pub first : word_at p 0 ≡ magic
  pub check : word_at p (14 + count_of p) ≡ crc32 (take (4 * (14 + count_of p)) p)

pub whole_is : (p : List ℕ) → damaged p ≡ false → Whole p
unfolding damaged
whole_is p d =
    let a = neither d in
    let b = neither a.1 in
    record {
      short = fit_short (count_of p) (length p) a.0;
      long = fit_long (count_of p) (length p) a.0;
      first = eqb-true (word_at p 0) magic (true_not b.0);
      check = eqb-true (word_at p (14 + count_of p)) (crc32 (take (4 * (14 + count_of p)) p)) (true_not b.1);
    }

pub is_whole : (p : List ℕ) → Whole p → damaged p ≡ false
unfolding damaged
is_whole p w =
    or_false (fit_is (count_of p) (length p) w.short w.long) (or_false (not-true (eq-eqb (word_at p 0) magic w.first))
    (not-true (eq-eqb (word_at p (14 + count_of p)) (crc32 (take (4 * (14 + count_of p)) p)) w.check)))

-- ---- stale

pub stale_recipe : (p : List ℕ) (f n w : ℕ) → w ≡ double_at p 1 → (w ≡ f → ⊥) → mathlib.Core.Bool.not (eqb w f) ≡ stale f n p
unfolding stale
stale_recipe p f n w k h = not_same _ ∙ not-false (ne_eqb w f h) ∙ sym (or_left _ (not-false (ne_eqb (double_at p 1) f (λ e. h (k ∙ e)))))

-- the run alone is left to be tested
pub stale_run : (p : List ℕ) (f n v w : ℕ) (t : Bool) → v ≡ double_at p 1 → v ≡ f → w ≡ double_at p 3 → t ≡ mathlib.Core.Bool.not (eqb w n) → t ≡ stale f n p
unfolding stale ◌or◌
stale_run p f n v w t k h l g =
    g ∙ not_same _ ∙ ap (λ (x : ℕ). not (eqb x n)) l
    ∙ sym (ap (λ (b : Bool). b or not (eqb (double_at p 3) n)) (not-true (eq-eqb (double_at p 1) f (sym k ∙ h))))

-- ---- reading: the number

module _ (f n : ℕ) (p : List ℕ) (room : ℕ) where
  pub number_damaged : damaged p ≡ true → 26 ≡ first_of (read_lines f n p room)
  number_damaged d = sym (first_true 26 _ _ d)

  pub number_stale : damaged p ≡ false → stale f n p ≡ true → 27 ≡ first_of (read_lines f n p room)
  number_stale d e = sym (first_false 26 _ _ d ∙ first_true 27 _ _ e)

  pub number_short : damaged p ≡ false → stale f n p ≡ false → room < count_of p → 9 ≡ first_of (read_lines f n p room)
  number_short d e h = sym (first_false 26 _ _ d ∙ first_false 27 _ _ e ∙ first_true 9 _ _ (lt-ltb room (count_of p) h))

  pub number_none : damaged p ≡ false → stale f n p ≡ false → count_of p ≤ room → 0 ≡ first_of (read_lines f n p room)
  number_none d e h =
      sym (first_false 26 _ _ d ∙ first_false 27 _ _ e ∙ first_false 9 _ _ (le-ltb room (count_of p) h) ∙ first_nil)

-- what is known where no line is true
pub record Readable (p : List ℕ) (room : ℕ) : Type 0 where
  pub whole : Whole p
  pub fits : count_of p ≤ room

pub readable : (f n : ℕ) (p : List ℕ) (room : ℕ) → first_of (read_lines f n p room) ≡ 0 → Readable p room
readable f n p room z =
    let d = none_first 26 (damaged p) (line 27 (stale f n p) ∷ line 9 (ltb room (count_of p)) ∷ []) (λ q. omega arith) z in
    let s = none_first 27 (stale f n p) (line 9 (ltb room (count_of p)) ∷ []) (λ q. omega arith) d.1 in
    let r = none_first 9 (ltb room (count_of p)) [] (λ q. omega arith) s.1 in
    record { whole = whole_is p d.0; fits = ltb-false room (count_of p) r.0 }

-- ---- reading: the answer

pub refused_as : (r : Refusal) (f n : ℕ) (p ws : List ℕ) → code r ≡ first_of (read_lines f n p (length ws)) → read_of (Err r) ws ≡ read_call f n p ws
unfolding read_call
refused_as r f n p ws e = go (code r) (code_some r) ∙ ap (λ (x : ℕ). read_by x p ws) e
  where
    go : (x : ℕ) → x ≢ 0 → record { number = x; header = no_header; count = 0; words = ws } ≡ read_by x p ws
    go zero h = absurd (h refl)
    go (suc x) h = refl

pub read_all : (f n : ℕ) (p ws out : List ℕ) (h : Header) (count : ℕ) → 0 ≡ first_of (read_lines f n p (length ws))
    → h ≡ header_of p → count ≡ count_of p → out ≡ tabulate (λ i. word_at p (14 + i)) count ++ drop count ws
    → read_of (Ok (record { header = h; count = count })) out ≡ read_call f n p ws
unfolding read_call words_of
read_all f n p ws out h count z eh ec eo =
    ap₂ (λ (g : Header) (o : List ℕ). read_of (Ok (record { header = g; count = count })) o) eh eo
    ∙ ap (λ (x : ℕ). read_of (Ok (record { header = header_of p; count = x })) (tabulate (λ i. word_at p (14 + i)) x ++ drop x ws)) ec
    ∙ ap (λ (x : ℕ). read_by x p ws) z

-- two words side by side
pub double_words : (p : List ℕ) (i a b r : ℕ) → a ≡ word p (4 * i) → b ≡ word p (4 * i + 4) → r ≡ a + 2 ^ 32 * b → r ≡ double_at p i
unfolding double_at word_at
double_words p i a b r ea eb e =
    e ∙ ap₂ (λ (x y : ℕ). x + 2 ^ 32 * y) ea (eb ∙ ap (word p) (let k : 4 * i + 4 ≡ 4 * (i + 1) = omega arith in k))

-- a word behind the header
pub word_behind : (p : List ℕ) (i w : ℕ) → w ≡ word p (56 + 4 * i) → w ≡ word_at p (14 + i)
unfolding word_at
word_behind p i w e = e ∙ ap (word p) (let k : 56 + 4 * i ≡ 4 * (14 + i) = omega arith in k)

pub count_at : (p : List ℕ) (w : ℕ) → w ≡ word p 52 → w ≡ count_of p
unfolding word_at
count_at p w e = e

pub first_at : (p : List ℕ) (w : ℕ) → w ≡ word p 0 → w ≡ word_at p 0
unfolding word_at
first_at p w e = e

abbrev pub header_from : ℕ → ℕ → ℕ → ℕ → ℕ → ℕ → ℕ → ℕ → ℕ → Header
header_from a b c d e f g h i =
    record { fingerprint = a; run = b; life = c; kind = d; sender = e; taker = f; item = g; chunk = h; chunks = i }

pub header_fields : (p : List ℕ) (a b c d e f g h i : ℕ) → a ≡ double_at p 1 → b ≡ double_at p 3 → c ≡ double_at p 5
    → d ≡ word p 28 → e ≡ word p 32 → f ≡ word p 36 → g ≡ word p 40 → h ≡ word p 44 → i ≡ word p 48
    → header_from a b c d e f g h i ≡ header_of p
unfolding header_of word_at
header_fields p a b c d e f g h i ea eb ec ed ee ef eg eh ei = rw (ea, eb, ec, ed, ee, ef, eg, eh, ei)
