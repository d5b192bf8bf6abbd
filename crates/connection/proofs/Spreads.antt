-- Words give back the bytes that they were made of.
use Rattle.std.proofs.Common.{◌≡◌, ℕ, ◌+◌, ◌-◌, ◌*◌, ◌/◌, ◌%◌, ◌<◌, ◌≤◌, List, [], ◌∷◌, ◌++◌, length, get_or, drop, map, replicate, append-nil, sym, refl, ap, ◌∙◌, arith}
use lib.Arith.{digits_div, digits_mod}
use Rattle.std.proofs.lemmas.List.{take_all, drop_more, drop_all, length-append}
use Rattle.std.specs.List.{flat_map, range_with_len}
use Rattle.std.proofs.lemmas.List.FromFn.{fill_by_all}
use Rattle.text.specs.Padding.{padded}
use Rattle.connection.specs.Words.{word_at, words_of, bytes_of_word, bytes_of}

-- the digit at m of a number of which q stands above it and r below
digit : (w q c r m : ℕ) → w ≡ (q * 256 + c) * m + r → r < m → c < 256 → w / m % 256 ≡ c
digit w q c r m e h k = ap (λ x. x / m % 256) e ∙ ap (λ x. x % 256) (digits_div (q * 256 + c) h) ∙ digits_mod q k

bytes_of_eight : (a b c d e f g h : ℕ) → a < 256 → b < 256 → c < 256 → d < 256 → e < 256 → f < 256 → g < 256 → h < 256
    → bytes_of_word (a + b * 256 + c * 65536 + d * 16777216 + e * 4294967296 + f * 1099511627776 + g * 281474976710656 + h * 72057594037927936)
    ≡ a ∷ b ∷ c ∷ d ∷ e ∷ f ∷ g ∷ h ∷ []
unfolding bytes_of_word
bytes_of_eight a b c d e f g h ha hb hc hd he hf hg hh =
    let r1 : ℕ = a in
    let r2 : ℕ = a + b * 256 in
    let r3 : ℕ = r2 + c * 65536 in
    let r4 : ℕ = r3 + d * 16777216 in
    let r5 : ℕ = r4 + e * 4294967296 in
    let r6 : ℕ = r5 + f * 1099511627776 in
    let r7 : ℕ = r6 + g * 281474976710656 in
    let w : ℕ = r7 + h * 72057594037927936 in
    let e0 : w % 256 ≡ a = omega arith in
    let e1 : w / 256 % 256 ≡ b = digit w (c + d * 256 + e * 65536 + f * 16777216 + g * 4294967296 + h * 1099511627776) b r1 256 (omega arith) (omega arith) hb in
    let e2 : w / 65536 % 256 ≡ c = digit w (d + e * 256 + f * 65536 + g * 16777216 + h * 4294967296) c r2 65536 (omega arith) (omega arith) hc in
    let e3 : w / 16777216 % 256 ≡ d = digit w (e + f * 256 + g * 65536 + h * 16777216) d r3 16777216 (omega arith) (omega arith) hd in
    let e4 : w / 4294967296 % 256 ≡ e = digit w (f + g * 256 + h * 65536) e r4 4294967296 (omega arith) (omega arith) he in
    let e5 : w / 1099511627776 % 256 ≡ f = digit w (g + h * 256) f r5 1099511627776 (omega arith) (omega arith) hf in
    let e6 : w / 281474976710656 % 256 ≡ g = digit w h g r6 281474976710656 (omega arith) (omega arith) hg in
    let e7 : w / 72057594037927936 % 256 ≡ h = digit w 0 h r7 72057594037927936 (omega arith) (omega arith) hh in
    λ i. e0 i ∷ e1 i ∷ e2 i ∷ e3 i ∷ e4 i ∷ e5 i ∷ e6 i ∷ e7 i ∷ []

module _ (bs : List ℕ) (bytes : (i : ℕ) → get_or bs i 0 < 256) where
  next : (k m : ℕ) → k < length bs → k + 1 ≡ m → drop k bs ≡ get_or bs k 0 ∷ drop m bs
  next k m h e = drop_more bs k 0 h ∙ ap (λ n. get_or bs k 0 ∷ drop n bs) e

  -- from place k on stand the bytes of the word there
  word_first : (k m : ℕ) → k + 8 ≡ m → m ≤ length bs → drop k bs ≡ bytes_of_word (word_at bs k) ++ drop m bs
  unfolding word_at
  word_first k m e h =
      let s0 = next k (k + 1) (omega arith) refl in
      let s1 = next (k + 1) (k + 2) (omega arith) (omega arith) in
      let s2 = next (k + 2) (k + 3) (omega arith) (omega arith) in
      let s3 = next (k + 3) (k + 4) (omega arith) (omega arith) in
      let s4 = next (k + 4) (k + 5) (omega arith) (omega arith) in
      let s5 = next (k + 5) (k + 6) (omega arith) (omega arith) in
      let s6 = next (k + 6) (k + 7) (omega arith) (omega arith) in
      let s7 = next (k + 7) m (omega arith) (omega arith) in
      s0
      ∙ ap (λ t. get_or bs k 0 ∷ t) (s1
      ∙ ap (λ t. get_or bs (k + 1) 0 ∷ t) (s2
      ∙ ap (λ t. get_or bs (k + 2) 0 ∷ t) (s3
      ∙ ap (λ t. get_or bs (k + 3) 0 ∷ t) (s4
      ∙ ap (λ t. get_or bs (k + 4) 0 ∷ t) (s5
      ∙ ap (λ t. get_or bs (k + 5) 0 ∷ t) (s6
      ∙ ap (λ t. get_or bs (k + 6) 0 ∷ t) s7))))))
      ∙ ap (λ t. t ++ drop m bs)
      (sym
      (bytes_of_eight (get_or bs k 0) (get_or bs (k + 1) 0) (get_or bs (k + 2) 0) (get_or bs (k + 3) 0) (get_or bs (k + 4) 0) (get_or bs (k + 5) 0)
      (get_or bs (k + 6) 0) (get_or bs (k + 7) 0) (bytes k) (bytes (k + 1)) (bytes (k + 2)) (bytes (k + 3)) (bytes (k + 4)) (bytes (k + 5))
      (bytes (k + 6)) (bytes (k + 7))))

  then_words : (k m : ℕ) (ws : List ℕ) → k + 8 ≡ m → m ≤ length bs → bytes_of ws ≡ drop m bs → bytes_of (word_at bs k ∷ ws) ≡ drop k bs
  unfolding bytes_of
  then_words k m ws e h r = ap (λ t. bytes_of_word (word_at bs k) ++ t) r ∙ sym (word_first k m e h)

  no_words : length bs ≡ 64 → bytes_of [] ≡ drop 64 bs
  unfolding bytes_of
  no_words l = sym (drop_all 64 bs (omega arith))

  pub bytes_back : length bs ≡ 64 → bytes_of (words_of bs) ≡ bs
  bytes_back l =
      then_words 0 8 _ refl (omega arith)
      (then_words 8 16 _ refl (omega arith)
      (then_words 16 24 _ refl (omega arith)
      (then_words 24 32 _ refl (omega arith)
      (then_words 32 40 _ refl (omega arith)
      (then_words 40 48 _ refl (omega arith)
      (then_words 48 56 _ refl (omega arith) (then_words 56 64 _ refl (omega arith) (no_words l))))))))

eight : (w : ℕ) → length (bytes_of_word w) ≡ 8
unfolding bytes_of_word
eight w = refl

pub bytes_length : (ws : List ℕ) → length (bytes_of ws) ≡ 8 * length ws
unfolding bytes_of
bytes_length [] = refl
bytes_length (w ∷ ws) = let a = length-append (bytes_of_word w) (bytes_of ws) in let b = eight w in let c = bytes_length ws in omega arith

flat : (ws : List ℕ) → flat_map (λ x. x) (map bytes_of_word ws) ≡ bytes_of ws
unfolding bytes_of
flat [] = refl
flat (w ∷ ws) = ap (λ t. bytes_of_word w ++ t) (flat ws)

-- no room is left for zeros
exactly : (n : ℕ) (bs : List ℕ) → length bs ≡ n → padded n bs ≡ bs
unfolding padded
exactly n bs e = let z : n - length bs ≡ 0 = omega arith in (λ i. take_all n bs (omega arith) i ++ replicate {A = ℕ} (z i) 0) ∙ append-nil bs

-- the bytes of each word, end to end
pub spread_is : (ws : List ℕ) (made : List (List ℕ)) → length ws ≡ 8 → length made ≡ 8 → ((k : ℕ) → k < 8 → get_or made k [] ≡ bytes_of_word (get_or ws k 0))
    → padded 64 (flat_map (λ x. x) made) ≡ bytes_of ws
spread_is ws made l m each =
    let by : ℕ → List ℕ = λ k. bytes_of_word (get_or ws k 0) in
    let made_is : made ≡ map by (range_with_len 0 8) = fill_by_all by made 8 [] m each in
    let words_are : ws ≡ map (λ k. get_or ws k 0) (range_with_len 0 8) = fill_by_all (λ k. get_or ws k 0) ws 8 0 l (λ k h. refl) in
    let same : made ≡ map bytes_of_word ws = made_is ∙ sym (ap (map bytes_of_word) words_are) in
    let n = bytes_length ws in
    ap (λ t. padded 64 (flat_map (λ x. x) t)) same ∙ ap (padded 64) (flat ws) ∙ exactly 64 (bytes_of ws) (omega arith)
