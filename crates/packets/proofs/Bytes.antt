-- For the proofs alone.
-- Laws of words as bytes, of CRC-32 and FNV-1a over bytes, and of bytes put behind others.
use mathlib.Core.Path.{◌≡◌, refl, sym, ap, ap₂, ◌∙◌}
use mathlib.Core.List.{List, [], ◌∷◌, ◌++◌, append-nil, append_assoc}
use Prim.Native.Nat.{ℕ, suc, ◌+◌, ◌*◌, ◌/◌, ◌%◌, ◌^◌, ◌≤◌, ◌<◌}
use native.Mathlib.Nat.{add-zero}
use native.Mathlib.Numerals.{add-one}
use native.Mathlib.Omega.{arith}
use borrow.Rule.Slice.PartMut.{put_mid, same_len_mid}
use lib.ListN.{length, get_or, take, drop, set, length-append, length-take, length-drop, drop_of_length-le}
use lib.Seq.{take-suc, take_all, drop-cons, set_at, append_snoc}
use lib.Bits.{bit_xor}
use Rattle.std.proofs.lemmas.Slice.{take-put_mid}
use Rattle.base.specs.Tests.{tabulate}
use Rattle.base.proofs.Tests.{length_tabulate}
use Rattle.packets.specs.Crc.{feed, feed_all, crc32}
use Rattle.packets.specs.Fingerprint.{mix, mix_all, fnv1a, fingerprint_of}
use Rattle.packets.specs.Packet.{word_bytes, words_bytes, magic, head_words, body_of}
use Rattle.packets.specs.declared.Header.{Header}
use Rattle.packets.specs.Calls.{Put}

pub les_append : (a b : List ℕ) → words_bytes (a ++ b) ≡ words_bytes a ++ words_bytes b
unfolding words_bytes
les_append [] b = refl
les_append (w ∷ ws) b = rw (les_append ws b) (sym (append_assoc (word_bytes w) (words_bytes ws) (words_bytes b)))

pub les_one : (w : ℕ) → words_bytes (w ∷ []) ≡ word_bytes w
unfolding words_bytes
les_one w = append-nil (word_bytes w)

pub length_le : (w : ℕ) → length (word_bytes w) ≡ 4
unfolding word_bytes
length_le w = refl

pub length_les : (ws : List ℕ) → length (words_bytes ws) ≡ 4 * length ws
unfolding words_bytes
length_les [] = refl
length_les (w ∷ ws) = let a = length_les ws in let b = length_le w in simp length-append (omega arith)

pub length_body : (h : Header) (ws : List ℕ) → length (body_of h ws) ≡ 56 + 4 * length ws
unfolding body_of
length_body h ws =
    let a = length_les (head_words h (length ws) ++ ws) in let b = length-append (head_words h (length ws)) ws in omega (arith, a, b)

-- ---- the register after bytes

pub feed_append : (a b : List ℕ) (r : ℕ) → feed_all r (a ++ b) ≡ feed_all (feed_all r a) b
unfolding feed_all
feed_append [] b r = refl
feed_append (x ∷ xs) b r = feed_append xs b (feed r x)

-- a loop's turn: the byte at i and those behind it
pub feed_turn : (bs : List ℕ) (i r s t : ℕ) → i < length bs → feed_all r (drop i bs) ≡ t → s ≡ feed r (get_or bs i 0) → feed_all s (drop (i + 1) bs) ≡ t
unfolding feed_all
feed_turn bs i r s t h e k = rw (k, add-one i) (rw (drop-cons bs i 0 h) at e)

pub feed_end : (bs : List ℕ) (i r t : ℕ) → length bs ≤ i → feed_all r (drop i bs) ≡ t → r ≡ t
unfolding feed_all
feed_end bs i r t h e = rw (drop_of_length-le bs h) at e

pub mix_append : (a b : List ℕ) (r : ℕ) → mix_all r (a ++ b) ≡ mix_all (mix_all r a) b
unfolding mix_all
mix_append [] b r = refl
mix_append (x ∷ xs) b r = mix_append xs b (mix r x)

pub mix_turn : (bs : List ℕ) (i r s t : ℕ) → i < length bs → mix_all r (drop i bs) ≡ t → s ≡ mix r (get_or bs i 0) → mix_all s (drop (i + 1) bs) ≡ t
unfolding mix_all
mix_turn bs i r s t h e k = rw (k, add-one i) (rw (drop-cons bs i 0 h) at e)

pub mix_end : (bs : List ℕ) (i r t : ℕ) → length bs ≤ i → mix_all r (drop i bs) ≡ t → r ≡ t
unfolding mix_all
mix_end bs i r t h e = rw (drop_of_length-le bs h) at e

-- ---- bytes put behind others

pub put_four : (s bs : List ℕ) (n k w : ℕ) → n + 4 ≤ length s → k ≡ 4 → bs ≡ word_bytes w → Put s n (word_bytes w) (put_mid n k s bs)
put_four s bs n k w h e is =
    let long : length bs ≡ 4 = ap length is ∙ length_le w in
    record {
      long = same_len_mid n k s bs (simp (length-take, length-drop) (omega arith));
      front = take-put_mid n k s bs (n + length (word_bytes w)) (omega (arith, length_le w)) (omega arith) ∙ ap (λ (l : List ℕ). take n s ++ l) is;
    }

pub put_join : {a b c : List ℕ} {n : ℕ} {bs cs : List ℕ} → Put a n bs b → Put b (n + length bs) cs c → Put a n (bs ++ cs) c
put_join {a} {b} {c} {n} {bs} {cs} p q =
    record {
      long = q.long ∙ p.long;
      front =
          ap (λ (k : ℕ). take k c) ends ∙ q.front ∙ ap (λ (l : List ℕ). l ++ cs) p.front
          ∙ append_assoc (take n a) bs cs;
    }
  where
    ends : n + length (bs ++ cs) ≡ n + length bs + length cs
    ends = let e = length-append bs cs in omega arith

pub put_none : (s : List ℕ) (n : ℕ) → Put s n [] s
put_none s n = record { long = refl; front = ap (λ (k : ℕ). take k s) (add-zero n) ∙ sym (append-nil (take n s)) }

put_at : {a b bs : List ℕ} {n m : ℕ} → n ≡ m → Put a n bs b → Put a m bs b
put_at {a} {b} {bs} e p = rw e at p

put_as : {a b : List ℕ} {n : ℕ} (bs cs : List ℕ) → bs ≡ cs → Put a n bs b → Put a n cs b
put_as bs cs e p = rw e at p

-- four bytes put into four are all
pub put_whole : (a b : List ℕ) (w : ℕ) → length a ≡ 4 → Put a 0 (word_bytes w) b → b ≡ word_bytes w
put_whole a b w k p = sym (take_all (0 + length (word_bytes w)) b (omega (arith, p.long, length_le w))) ∙ p.front

pub words_none : (s : List ℕ) (n : ℕ) (ws : List ℕ) → Put s n (words_bytes (take 0 ws)) s
unfolding words_bytes
words_none s n ws = put_none s n

pub words_more : (a b c : List ℕ) (n i : ℕ) (ws : List ℕ) → i < length ws → Put a n (words_bytes (take i ws)) b → Put b (n + 4 * i) (word_bytes (get_or ws i 0)) c
    → Put a n (words_bytes (take (i + 1) ws)) c
words_more a b c n i ws h p q =
    put_as (words_bytes (take i ws) ++ word_bytes (get_or ws i 0)) (words_bytes (take (i + 1) ws)) is
    (put_join p (put_at {m = n + length (words_bytes (take i ws))} at_end_lem q))
  where
    at_end_lem : n + 4 * i ≡ n + length (words_bytes (take i ws))
    at_end_lem = let e = length_les (take i ws) in let k : length (take i ws) ≡ i = simp length-take (omega arith) in omega arith

    is : words_bytes (take i ws) ++ word_bytes (get_or ws i 0) ≡ words_bytes (take (i + 1) ws)
    is = rw (add-one i) (sym (ap words_bytes (take-suc ws i 0 h) ∙ les_append (take i ws) (get_or ws i 0 ∷ [])
        ∙ ap (λ (x : List ℕ). words_bytes (take i ws) ++ x) (les_one (get_or ws i 0))))

pub words_all : (a b : List ℕ) (n i : ℕ) (ws : List ℕ) → length ws ≤ i → Put a n (words_bytes (take i ws)) b → Put a n (words_bytes ws) b
words_all a b n i ws h p = put_as (words_bytes (take i ws)) (words_bytes ws) (ap words_bytes (take_all i ws h)) p

pub head_put : (h : Header) (n a b c d e f : ℕ) (s t : List ℕ)
    → a ≡ h.fingerprint % 2 ^ 32 → b ≡ h.fingerprint / 2 ^ 32 → c ≡ h.run % 2 ^ 32 → d ≡ h.run / 2 ^ 32 → e ≡ h.life % 2 ^ 32 → f ≡ h.life / 2 ^ 32
    → Put s 0 (words_bytes (magic ∷ a ∷ b ∷ c ∷ d ∷ e ∷ f ∷ h.kind ∷ h.sender ∷ h.taker ∷ h.item ∷ h.chunk ∷ h.chunks ∷ n ∷ [])) t
    → Put s 0 (words_bytes (head_words h n)) t
head_put h n a b c d e f s t ea eb ec ed ee ef p = rw (ea, eb, ec, ed, ee, ef) at p

-- a recipe, and then the four bytes of its route
pub fingerprint_is : (recipe last : List ℕ) (route a b c d r : ℕ) → last ≡ word_bytes route → a ≡ feed_all 0xFFFF_FFFF recipe → b ≡ feed_all a last
    → c ≡ mix_all 0x811C9DC5 recipe → d ≡ mix_all c last → r ≡ bit_xor b 0xFFFF_FFFF + 2 ^ 32 * d → r ≡ fingerprint_of recipe route
unfolding fingerprint_of crc32 fnv1a
fingerprint_is recipe last route a b c d r el ea eb ec ed er =
    er ∙ ap₂ (λ (x y : ℕ). bit_xor x 0xFFFF_FFFF + 2 ^ 32 * y)
    (eb ∙ ap₂ feed_all ea el ∙ sym (feed_append recipe (word_bytes route) 0xFFFF_FFFF))
    (ed ∙ ap₂ mix_all ec el ∙ sym (mix_append recipe (word_bytes route) 0x811C9DC5))

-- ---- words stored one after the other

pub store_none : (f : ℕ → ℕ) (ws : List ℕ) → ws ≡ tabulate f 0 ++ drop 0 ws
unfolding tabulate
store_none f ws = refl

pub store_more : (f : ℕ → ℕ) (ws now : List ℕ) (i v : ℕ) → i < length ws → now ≡ tabulate f i ++ drop i ws → v ≡ f i
    → set now i v ≡ tabulate f (i + 1) ++ drop (i + 1) ws
unfolding tabulate
store_more f ws now i v h e k =
    ap (λ (l : List ℕ). set l i v) (e ∙ ap (λ (l : List ℕ). tabulate f i ++ l) (drop-cons ws i 0 h))
    ∙ set_at (tabulate f i) (get_or ws i 0) (drop (suc i) ws) v i (length_tabulate f i)
    ∙ rw (k, add-one i) (sym (append_snoc (tabulate f i) (f i) (drop (suc i) ws)))

pub stored_length : (f : ℕ → ℕ) (ws now : List ℕ) (i : ℕ) → now ≡ tabulate f i ++ drop i ws → i ≤ length ws → length now ≡ length ws
stored_length f ws now i e h =
    ap length e ∙ (let a = length_tabulate f i in simp (length-append, length-drop) (omega arith))

pub stored_all : (f : ℕ → ℕ) (ws now : List ℕ) (n i : ℕ) → i ≤ n → n ≤ i → now ≡ tabulate f i ++ drop i ws → now ≡ tabulate f n ++ drop n ws
stored_all f ws now n i h k e = let z : i ≡ n = omega arith in rw z at e
