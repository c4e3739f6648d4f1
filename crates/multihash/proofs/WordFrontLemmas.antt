-- The word of a slice's first bytes, and what it shows of the varint at their front. All for speed: no loop over the bytes of a
-- varint.
use Rattle.multihash.proofs.Common.{common_steps, ◌≡◌, ℕ, zero, suc, ◌-◌, ◌<◌, ◌≤◌, List, [], ◌++◌, length, get_or, take, drop, replicate, sym, ap, ◌∙◌, arith, length-append, add-one, ◌+◌, ◌*◌, ◌%◌, ◌^◌, ◌∷◌, bit_and, drop-replicate, length-replicate, length-take, length-take-le, take_all, get_or_past, get_or-take, take_more, take-take, take-append-drop, drop_more, All, All-from_get_or, All-nil, All-take, All-more, IsBytes, place_value, digits_low, lt_of_not-le, and_mask, pow-le-pow_right, max_continuation, IsContinuation, IsVarint, IsInsufficient, IsOverflow, IsNotMinimal}
use Rattle.std.specs.Int.{byte_worth, sum_through, from_le_bytes, w128}
use Rattle.std.proofs.Math.Seq.{take-suc}
use Rattle.multihash.proofs.DigitLemmas.{place_value-nil, place_value-cons, place_value_append, place_value_last}
use Rattle.multihash.proofs.VarintLemmas.{varint_from_bytes, overflow_after, zero_after}
use Rattle.multihash.proofs.WordLemmas.{byte_at, byte_of, halves, low_bytes, digits_low_of, stop_at, StopsAt, first_unmarked}

-- ---- filling a word

sum_of_bytes : (bs : List ℕ) (n : ℕ) → n < length bs → sum_through (λ i. byte_worth i (get_or bs i 0)) n ≡ place_value 256 (take (suc n) bs)
sum_of_bytes bs zero within = rw (take-suc bs 0 0 within, place_value-cons 256 (get_or bs 0 0) [], place_value-nil 256) (omega arith)
sum_of_bytes bs (suc n) within = grind (arith, common_steps, take-suc, place_value_last, sum_of_bytes bs n (omega arith))

pub le_word : (bs : List ℕ) → length bs ≡ 16 → from_le_bytes w128 bs ≡ place_value 256 bs
le_word bs long = sum_of_bytes bs 15 (omega arith) ∙ ap (place_value 256) (take_all 16 bs (omega arith))

zeros : (n : ℕ) → place_value 256 (replicate n 0) ≡ 0
zeros zero = place_value-nil 256
zeros (suc n) = place_value-cons 256 0 (replicate n 0) ∙ omega (arith, zeros n)

-- the word of a slice of at least sixteen bytes
pub full_word : (xs front : List ℕ) → front ≡ take 16 xs → 16 ≤ length xs → from_le_bytes w128 front ≡ place_value 256 (take 16 xs)
full_word xs front same enough = le_word front (ap length same ∙ length-take-le 16 xs enough) ∙ ap (place_value 256) same

-- the word of a slice of fewer: zeros after the bytes leave the value unchanged
pub padded_word : (xs ys : List ℕ) → ys ≡ xs → length xs ≤ 16
    → from_le_bytes w128 (ys ++ drop (length xs) (replicate 16 0)) ≡ place_value 256 (take 16 xs)
padded_word xs ys same few =
    let back = replicate (16 - length xs) 0 in
    let long : length (ys ++ back) ≡ 16 =
    omega (arith, length-append ys back, length-replicate {A = ℕ} (16 - length xs) 0, ap length same) in
    rw (drop-replicate {X = ℕ} (length xs) 16 0, le_word (ys ++ back) long, place_value_append 256 ys back, zeros (16 - length xs), same, take_all 16 xs few)
    (omega arith)

-- ---- what a word shows of the bytes whose first it holds

module _ (xs : List ℕ) {word : ℕ} (is : word ≡ place_value 256 (take 16 xs)) (each : (i : ℕ) → get_or xs i 0 < 256) where
  bytes : IsBytes xs
  bytes = All-from_get_or (λ b. b < 256) xs 0 (λ i _. each i)

  first_bytes : (n : ℕ) → IsBytes (take n xs)
  first_bytes n = All-take (λ b. b < 256) n xs bytes

  byte_is : (i : ℕ) → i < 16 → byte_at word i ≡ get_or xs i 0
  byte_is i few = ap (λ (n : ℕ). byte_at n i) is ∙ byte_of (take 16 xs) i (first_bytes 16) ∙ get_or-take 16 xs i 0 few

  fits : word < 2 ^ 128
  fits = omega (arith, is, ap (place_value 256) (take-take 16 16 xs (omega arith)), (halves (take 16 xs) 16 (first_bytes 16)).0)

  stop : StopsAt word (stop_at word)
  stop = first_unmarked word fits

  -- the bytes before the first that is no continuation byte
  continuation : (m : ℕ) → m ≤ stop_at word → (m ≤ length xs) × All IsContinuation (take m xs)
  continuation zero run = (omega arith, All-nil IsContinuation)
  continuation (suc m) run =
      let front = continuation m (omega arith) in
      let large : 128 ≤ get_or xs m 0 = omega (arith, stop.before m (omega arith), byte_is m (omega (arith, stop.within))) in
      let within : m < length xs = lt_of_not-le (λ past. omega (arith, large, get_or_past xs m 0 past)) in
      rw (← add-one) (omega arith, All-more IsContinuation xs m 0 within front.1 large)

  -- the first byte is a continuation byte
  pub past_first : 128 ≤ get_or xs 0 0 → 0 < stop_at word
  past_first large = lt_of_not-le (λ none. let zero : stop_at word ≡ 0 = omega (arith, none) in
      omega (arith, large, rw zero at stop.here, byte_is 0 (omega arith)))

  cut_at : (k : ℕ) → k < length xs → xs ≡ take k xs ++ get_or xs k 0 ∷ drop (k + 1) xs
  cut_at k below = sym (take-append-drop k xs) ∙ ap (λ (back : List ℕ). take k xs ++ back) (drop_more xs k 0 below)

  pub overflows : max_continuation < stop_at word → IsOverflow xs
  overflows many =
      let front = continuation max_continuation (omega arith) in
      let more = continuation (suc max_continuation) (omega arith) in
      rw (cut_at max_continuation (omega (arith, more.0)))
      (overflow_after (take max_continuation xs) (get_or xs max_continuation 0) (drop (max_continuation + 1) xs) front.1
      (length-take-le max_continuation xs front.0)
      (omega (arith, stop.before max_continuation (omega arith), byte_is max_continuation (omega arith))))

  module _ (few : stop_at word ≤ max_continuation) where
    pub ends_short : length xs ≤ stop_at word → IsInsufficient xs
    ends_short past = let front = continuation (stop_at word) (omega arith) in grind (arith, take_all)

    module _ (within : stop_at word < length xs) where
      long : length (take (stop_at word) xs) ≡ stop_at word
      long = length-take-le (stop_at word) xs (omega arith)

      pub stops_at_zero : get_or xs (stop_at word) 0 ≡ 0 → 0 < stop_at word → IsNotMinimal xs
      stops_at_zero null some =
          rw (cut_at (stop_at word) within, null)
          (zero_after (take (stop_at word) xs) (drop (stop_at word + 1) xs) (continuation (stop_at word) (omega arith)).1
          (omega (arith, long)) (omega (arith, long)))

      pub stops_at_number : ¬ (get_or xs (stop_at word) 0 ≡ 0)
          → IsVarint (digits_low 9 (bit_and word (1 * 2 ^ (8 * (stop_at word + 1)) % 2 ^ 128 - 1))) (take (stop_at word + 1) xs)
      stops_at_number some =
          let k = stop_at word in
          let two : 0 < 2 = omega arith in
          let small : 2 ^ (8 * (k + 1)) ≤ 2 ^ 72 = pow-le-pow_right two {j = 72} (omega arith) in
          let mask : 1 * 2 ^ (8 * (k + 1)) % 2 ^ 128 ≡ 2 ^ (8 * (k + 1)) = omega (arith, small) in
          let kept : bit_and word (2 ^ (8 * (k + 1)) - 1) ≡ place_value 256 (take (k + 1) xs) =
          and_mask word (8 * (k + 1)) ∙ ap (λ (n : ℕ). n % 2 ^ (8 * (k + 1))) is ∙ low_bytes (take 16 xs) (k + 1) (first_bytes 16)
          ∙ ap (place_value 256) (take-take (k + 1) 16 xs (omega arith)) in
          let last : get_or xs k 0 < 128 = omega (arith, stop.here, byte_is k (omega arith)) in
          rw (mask, kept, digits_low_of 9 (take (k + 1) xs) (first_bytes (k + 1)) (omega (arith, length-take (k + 1) xs)), take_more xs k 0 within)
          (varint_from_bytes (take k xs) (get_or xs k 0) (first_bytes k) (continuation k (omega arith)).1 last (omega (arith, long))
          (λ e. last) (λ z. absurd (some z)))
