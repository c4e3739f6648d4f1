-- The bytes of a word, the number of its digits, and its first byte that is no continuation byte.
use Rattle.multihash.proofs.Common.{common_steps, ◌≡◌, ℕ, zero, suc, ◌+◌, ◌-◌, ◌*◌, ◌/◌, ◌%◌, ◌^◌, ◌<◌, ◌≤◌, List, [], ◌∷◌, length, get_or, take, drop, sym, ap, ◌∙◌, arith, bit_and, replicate, refl, inl, inr, mul-suc, mul_assoc, lt_of_not-le, shr-shr, shr_high, mod_low, pow-add, pow_pos, and_le_r, shr_split, get_or-replicate, All-head, All-tail, All-replicate, IsBytes, place_value, digits_low, cases_lt}
use Rattle.std.proofs.lemmas.Nat.Bits.{bit_at-zero, bit_at_and, bit_at_cat_low, bit_at_not, bit_at-pow_other}
use Rattle.std.proofs.lemmas.Nat.Bits.{bit_at-trailing_zeros}
use Rattle.multihash.proofs.DigitLemmas.{place_value-nil, place_value-cons, low_digits}
use Prim.Native.Nat.{min}
use Rattle.std.specs.Int.{w128, bit_at, bit_not, trailing_zeros}
use Rattle.std.specs.Int.Count.{trailing_of_zero}

-- ---- bytes

abbrev pub byte_at : ℕ → ℕ → ℕ
byte_at n i = n / 2 ^ (8 * i) % 2 ^ 8

byte_more : (y : ℕ) (ys : List ℕ) → place_value 256 (y ∷ ys) ≡ place_value 256 ys * 2 ^ 8 + y
byte_more y ys = place_value-cons 256 y ys ∙ omega arith

-- the lowest n bytes, and those above them
pub halves : (ys : List ℕ) (n : ℕ) → IsBytes ys → (place_value 256 (take n ys) < 2 ^ (8 * n))
    × (place_value 256 ys ≡ place_value 256 (drop n ys) * 2 ^ (8 * n) + place_value 256 (take n ys))
halves ys zero all = (omega (arith, place_value-nil 256), omega (arith, place_value-nil 256))
halves [] (suc n) all = (omega (arith, place_value-nil 256, pow_pos (8 * suc n)), rw (place_value-nil 256) (omega arith))
halves (y ∷ ys) (suc n) all =
    let small : y < 256 = All-head (λ b. b < 256) y ys all in
    let power : 2 ^ (8 * suc n) ≡ 2 ^ (8 * n) * 256 = rw (mul-suc 8 n) (pow-add 2 (8 * n) 8) in
    let above = place_value 256 (drop n ys) in
    let h = halves ys n (All-tail (λ b. b < 256) y ys all) in (
      omega (arith, h.0, power, byte_more y (take n ys)),
      omega (arith, h.1, ap (λ (p : ℕ). above * p) power, mul_assoc above (2 ^ (8 * n)) 256, byte_more y ys, byte_more y (take n ys)),
    )

pub low_bytes : (ys : List ℕ) (n : ℕ) → IsBytes ys → place_value 256 ys % 2 ^ (8 * n) ≡ place_value 256 (take n ys)
low_bytes ys n all = ap (λ (m : ℕ). m % 2 ^ (8 * n)) (halves ys n all).1 ∙ mod_low _ (8 * n) _ (halves ys n all).0

pub high_bytes : (ys : List ℕ) (n : ℕ) → IsBytes ys → place_value 256 ys / 2 ^ (8 * n) ≡ place_value 256 (drop n ys)
high_bytes ys n all = ap (λ (m : ℕ). m / 2 ^ (8 * n)) (halves ys n all).1 ∙ shr_high _ (8 * n) _ (halves ys n all).0

lowest_byte : (ys : List ℕ) → IsBytes ys → place_value 256 ys % 2 ^ 8 ≡ get_or ys 0 0
lowest_byte ys all = grind (arith, common_steps, place_value-nil, byte_more)

-- byte i of the value
pub byte_of : (ys : List ℕ) (i : ℕ) → IsBytes ys → byte_at (place_value 256 ys) i ≡ get_or ys i 0
byte_of ys i all = grind (arith, common_steps, high_bytes, lowest_byte)

-- ---- the number of the digits

-- the bits of a byte that are its digit
abbrev pub digit_mask : ℕ
digit_mask = 127

-- those of all nine, as the code adds them
pub digits_joined : (word : ℕ)
    → bit_and word digit_mask + bit_and (word / 2 ^ 8) digit_mask * 2 ^ 7 % 2 ^ 64
    + bit_and (word / 2 ^ 16) digit_mask * 2 ^ 14 % 2 ^ 64 + bit_and (word / 2 ^ 24) digit_mask * 2 ^ 21 % 2 ^ 64
    + bit_and (word / 2 ^ 32) digit_mask * 2 ^ 28 % 2 ^ 64 + bit_and (word / 2 ^ 40) digit_mask * 2 ^ 35 % 2 ^ 64
    + bit_and (word / 2 ^ 48) digit_mask * 2 ^ 42 % 2 ^ 64 + bit_and (word / 2 ^ 56) digit_mask * 2 ^ 49 % 2 ^ 64
    + bit_and (word / 2 ^ 64) digit_mask * 2 ^ 56 % 2 ^ 64
    ≡ digits_low 9 word
unfolding digits_low
digits_joined word = grind (arith, common_steps)

-- the lowest digit first
digits_low-cons : (i word : ℕ) → digits_low (suc i) word ≡ word % 128 + 128 * digits_low i (word / 256)
unfolding digits_low
digits_low-cons zero word = omega arith
digits_low-cons (suc i) word =
    let buffer : 8 * suc i ≡ 8 + 8 * i = omega arith in
    rw (digits_low-cons i word, buffer, ← shr-shr word 8 (8 * i), mul-suc 7 i, pow-add 2 (7 * i) 7) (omega arith)

-- the low seven bits of each byte, as digits
pub digits_low_of : (i : ℕ) (ys : List ℕ) → IsBytes ys → length ys ≤ i → digits_low i (place_value 256 ys) ≡ place_value 128 (low_digits ys)
unfolding digits_low
digits_low_of zero [] all few = sym (place_value-nil 128)
digits_low_of zero (y ∷ ys) all few = absurd (omega arith)
digits_low_of (suc i) [] all few = grind (arith, place_value-nil, digits_low-cons)
digits_low_of (suc i) (y ∷ ys) all few =
    let small : y < 256 = All-head (λ b. b < 256) y ys all in
    let above : place_value 256 (y ∷ ys) / 256 ≡ place_value 256 ys = omega (arith, byte_more y ys) in
    rw (digits_low-cons i (place_value 256 (y ∷ ys)), above, place_value-cons 128 (y % 128) (low_digits ys))
    (omega (arith, byte_more y ys, digits_low_of i ys (All-tail (λ b. b < 256) y ys all) (omega arith)))

-- ---- the first byte that is no continuation byte

-- 128 in each byte
abbrev pub stop_bits : ℕ
stop_bits = 170808403787765189503184116671632670848

stop_byte : (i : ℕ) → i < 16 → byte_at stop_bits i ≡ 128
unfolding place_value
stop_byte i few = byte_of (replicate 16 128) i (All-replicate (λ b. b < 256) 16 128 (omega arith)) ∙ get_or-replicate 16 i 128 0 few

-- the highest bit of each byte of the word that is no continuation byte
abbrev pub stops : ℕ → ℕ
stops word = bit_and (bit_not w128 word) stop_bits

-- the number of continuation bytes at the front of the word
abbrev pub stop_at : ℕ → ℕ
stop_at word = trailing_zeros w128 (stops word) / 8

-- the first m bytes are continuation bytes; the next, or a zero after all sixteen, is not
pub record StopsAt (word m : ℕ) : Type 0 where
  pub before : (i : ℕ) → i < m → 128 ≤ byte_at word i
  pub here : byte_at word m < 128
  pub within : m ≤ 16

module _ (word : ℕ) (fits : word < 2 ^ 128) where
  bit_of_stops : (i r : ℕ) → i < 16 → r < 8 → bit_at (stops word) (8 * i + r) ≡ min (1 - bit_at word (8 * i + r)) (bit_at 128 r)
  bit_of_stops i r few low =
      let above = stop_bits / 2 ^ (8 * i) in
      let stop : bit_at stop_bits (8 * i + r) ≡ bit_at 128 r =
      ap (λ (n : ℕ). n % 2) (sym (shr-shr stop_bits (8 * i) r)) ∙ ap (λ (n : ℕ). bit_at n r) (sym (shr_split above 8))
      ∙ bit_at_cat_low (above / 2 ^ 8) 8 (above % 2 ^ 8) r low ∙ ap (λ (n : ℕ). bit_at n r) (stop_byte i few) in
      rw (bit_at_and (bit_not w128 word) stop_bits (8 * i + r), bit_at_not w128 word (8 * i + r) fits (omega arith), stop) refl

  stop_of : (i : ℕ) → i < 16 → bit_at (stops word) (8 * i + 7) ≡ 1 - byte_at word i / 128
  stop_of i few = bit_of_stops i 7 few (omega arith) ∙ omega (arith, shr-shr word (8 * i) 7)

  -- all sixteen bytes are continuation bytes
  none_stops : stops word ≡ 0 → StopsAt word (stop_at word)
  none_stops none =
      let all : stop_at word ≡ 16 = ap (λ (n : ℕ). trailing_zeros w128 n / 8) none ∙ ap (λ (n : ℕ). n / 8) (trailing_of_zero 128) in
      rw all (record {
        before = λ i few. omega (arith, stop_of i few, ap (λ (n : ℕ). bit_at n (8 * i + 7)) none, bit_at-zero (8 * i + 7));
        here = omega arith;
        within = omega arith;
      })

  some_stops : 0 < stops word → StopsAt word (stop_at word)
  some_stops some =
      let place = trailing_zeros w128 (stops word) in
      let m = place / 8 in
      let stops_below : stops word < 2 ^ 128 = omega (arith, and_le_r (bit_not w128 word) stop_bits) in
      let (below, set, unset) = bit_at-trailing_zeros w128 (stops word) some stops_below in
      let split : place ≡ 8 * m + place % 8 = omega arith in
      let here : bit_at (stops word) (8 * m + place % 8) ≡ 1 = ap (bit_at (stops word)) (sym split) ∙ set in
      let bit = bit_of_stops m (place % 8) (omega arith) (omega arith) in
      let highest : 6 < place % 8 = lt_of_not-le (λ low. omega (arith, here, bit, bit_at-pow_other 7 (place % 8) (λ e. omega arith))) in
      let seven : place % 8 ≡ 7 = omega arith in
      record {
        before = λ i few. omega (arith, unset (8 * i + 7) (omega arith), stop_of i (omega arith));
        here = omega (arith, rw seven at here, stop_of m (omega arith));
        within = omega arith;
      }

  pub first_unmarked : StopsAt word (stop_at word)
  first_unmarked = elim (cases_lt 0 (stops word)) [
    | inl some ↦ some_stops some
    | inr none ↦ none_stops (omega arith)
  ]
