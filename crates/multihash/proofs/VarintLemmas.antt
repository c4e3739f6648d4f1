-- A number has one varint, whose length is known, and an input has one front.
use Rattle.multihash.proofs.Common.{◌≡◌, ℕ, zero, suc, ◌+◌, ◌-◌, ◌%◌, cond, ltb, ◌^◌, ◌<◌, ◌≤◌, List, [], ◌∷◌, ◌++◌, length, refl, sym, ap, ◌∙◌, arith, inl, inr, append_assoc, append-nil, ◌*◌, ◌/◌, length-append, subst, All, lt_of_not-le, mod-eq_of_lt, mul-le-mul_right, pow-le-pow_right, cases_lt, lt-ltb, le-ltb, length-map, length_push, map_push, same_from_push, All-nil, All-head, All-tail, All-push, IsBytes, place_value, varint_limit, max_continuation, last_byte_limit, IsContinuation, continuation_bytes, IsVarint, IsOverflow, IsNotMinimal, VarintError, insufficient, overflow, not_minimal, BeginsMalformed, leading_top}
use Rattle.multihash.proofs.DigitLemmas.{place_value_below, place_value_last, place_value_unique, pow_power, All-append_left}
use Rattle.multihash.proofs.DigitLemmas.{All-append_right, All-continuation_bytes, IsDigit, low_digits, low_digits_below}
use Rattle.multihash.proofs.DigitLemmas.{continuation_bytes-low_digits, low_digits-continuation_bytes}
use Rattle.std.specs.Int.{w64, leading_zeros}

-- ---- the length of a varint

-- a small number has a short varint, since a last digit of zero is the only digit
pub front_within : (k n : ℕ) (bytes : List ℕ) (v : IsVarint n bytes) → n < 128 ^ suc k → length v.front ≤ k
front_within k n bytes v small =
    let base : 0 < 128 = omega arith in
    let few : length v.front < suc k = lt_of_not-le (λ long.
    let high : 128 ^ suc k ≤ 128 ^ length v.front = pow-le-pow_right base long in
    let last : 0 < v.last = lt_of_not-le (λ none. omega (arith, ap length (v.minimal (omega arith)))) in
    omega (arith, high, v.value, place_value_last 128 v.last v.front, mul-le-mul_right (128 ^ length v.front) last)) in
    omega arith

-- a varint has at most eight continuation bytes, and the last byte after as many is small
pub varint_length : (n : ℕ) (bytes : List ℕ) (v : IsVarint n bytes)
    → (length v.front ≤ max_continuation) × (length v.front ≡ max_continuation → v.last < last_byte_limit)
varint_length n bytes v = (
  front_within max_continuation n bytes v (omega (arith, v.in_range)),
  λ most. omega (arith, v.value, v.in_range, rw most at (place_value_last 128 v.last v.front)),
)

front_no_longer : (n : ℕ) (a b : List ℕ) (v : IsVarint n a) (w : IsVarint n b) → length v.front ≤ length w.front
front_no_longer n a b v w =
    let long : length (w.front ++ w.last ∷ []) ≡ suc (length w.front) = omega (arith, length_push w.front w.last) in
    front_within (length w.front) n a v (rw (w.value, long) at (place_value_below 128 (w.front ++ w.last ∷ []) w.digits))

-- a number has at most one varint
pub varint_same : (n : ℕ) (a b : List ℕ) → IsVarint n a → IsVarint n b → a ≡ b
varint_same n a b v w =
    let long : length (v.front ++ v.last ∷ []) ≡ length (w.front ++ w.last ∷ []) =
    omega (arith, length_push v.front v.last, length_push w.front w.last, front_no_longer n a b v w, front_no_longer n b a w v) in
    let digits = place_value_unique 128 (v.front ++ v.last ∷ []) (w.front ++ w.last ∷ []) v.digits w.digits long (v.value ∙ sym w.value) in
    let same : (v.front ≡ w.front) × (v.last ≡ w.last) = same_from_push v.front w.front v.last w.last digits in
    cc (v.encoded, w.encoded, same.0, same.1)

-- ---- what bytes encode

-- the digits of few enough bytes make a number in range
pub low_digits_in_range : (ms : List ℕ) (b : ℕ) → length ms ≤ max_continuation → (length ms ≡ max_continuation → b < last_byte_limit)
    → place_value 128 (low_digits (ms ++ b ∷ [])) < varint_limit
low_digits_in_range ms b few most = grind (arith, length-map, length_push, pow-le-pow_right, place_value_below, low_digits_below)

-- continuation bytes that are few enough, and a last byte that may end them, are a varint
pub varint_from_bytes : (ms : List ℕ) (b : ℕ) → IsBytes ms → All IsContinuation ms → b < 128 → length ms ≤ max_continuation
    → (length ms ≡ max_continuation → b < last_byte_limit) → (b ≡ 0 → ms ≡ [])
    → IsVarint (place_value 128 (low_digits (ms ++ b ∷ []))) (ms ++ b ∷ [])
varint_from_bytes ms b bytes all small few most minimal = grind (arith, low_digits_below, map_push, low_digits_in_range, continuation_bytes-low_digits)

-- a byte after the most continuation bytes that is too large overflows
pub overflow_after : (ms : List ℕ) (b : ℕ) (rest : List ℕ) → All IsContinuation ms → length ms ≡ max_continuation → last_byte_limit ≤ b
    → IsOverflow (ms ++ b ∷ rest)
overflow_after ms b rest all most large = grind (arith)

-- a zero after continuation bytes is not minimal
pub zero_after : (ms rest : List ℕ) → All IsContinuation ms → 0 < length ms → length ms ≤ max_continuation → IsNotMinimal (ms ++ 0 ∷ rest)
zero_after ms rest all some few = record { front = ms; rest = rest; all_continuation = all; some = some; few = few; cut = refl }

-- ---- the front of an input

-- the front of an input: a varint's number and what follows, or why the varint is malformed
pub data Front : Type 0 where
  number : ℕ → List ℕ → Front
  error : VarintError → Front

-- the input has that front
abbrev pub HasFront : List ℕ → Front → Type 0
HasFront x (number n rest) = (bytes : List ℕ) × IsVarint n bytes × (x ≡ bytes ++ rest)
HasFront x (error f) = BeginsMalformed f x

-- ---- computed

-- after these continuation bytes, the last byte and what follows it
abbrev ends_with : List ℕ → ℕ → List ℕ → Front
ends_with [] b rest = number (place_value 128 (low_digits (b ∷ []))) rest
ends_with (m ∷ ms) zero rest = error not_minimal
ends_with (m ∷ ms) (suc b) rest = number (place_value 128 (low_digits ((m ∷ ms) ++ suc b ∷ []))) rest

-- after these continuation bytes, if that many more may come
abbrev front_from : ℕ → List ℕ → List ℕ → Front
front_from left ms [] = error insufficient
front_from zero ms (b ∷ rest) = cond (ltb b last_byte_limit) (ends_with ms b rest) (error overflow)
front_from (suc left) ms (b ∷ rest) = cond (ltb b 128) (ends_with ms b rest) (front_from left (ms ++ b ∷ []) rest)

-- the front of an input, computed
abbrev pub front_of : List ℕ → Front
front_of x = front_from max_continuation [] x

-- the front of continuation bytes and more is found after reading these
front_run : (ms : List ℕ) (n left : ℕ) (before y : List ℕ) → All IsContinuation ms → n ≡ length ms + left
    → front_from n before (ms ++ y) ≡ front_from left (before ++ ms) y
front_run [] n left before y all room = let same : n ≡ left = omega (arith, room) in rw (same, append-nil before) refl
front_run (m ∷ ms) zero left before y all room = absurd (omega (arith, room))
front_run (m ∷ ms) (suc n) left before y all room =
    rw (le-ltb m 128 (All-head IsContinuation m ms all))
    (front_run ms n left (before ++ m ∷ []) y (All-tail IsContinuation m ms all) (omega (arith, room))
    ∙ ap (λ z. front_from left z y) (append_assoc before (m ∷ []) ms))

front_ends : (ms : List ℕ) (b : ℕ) (rest x : List ℕ) → All IsContinuation ms → length ms ≤ max_continuation → b < 128
    → (length ms ≡ max_continuation → b < last_byte_limit) → x ≡ ms ++ b ∷ rest → front_of x ≡ ends_with ms b rest
front_ends ms b rest x all few small most cut =
    ap front_of cut ∙ front_run ms max_continuation (max_continuation - length ms) [] (b ∷ rest) all (omega (arith, few))
    ∙ last (max_continuation - length ms) (λ none. most (omega (arith, none, few)))
  where
    last : (left : ℕ) → (left ≡ 0 → b < last_byte_limit) → front_from left ms (b ∷ rest) ≡ ends_with ms b rest
    last zero low = rw (lt-ltb b last_byte_limit (low refl)) refl
    last (suc left) low = rw (lt-ltb b 128 small) refl

ends_number : (ms : List ℕ) (b : ℕ) (rest : List ℕ) → (b ≡ 0 → ms ≡ [])
    → ends_with ms b rest ≡ number (place_value 128 (low_digits (ms ++ b ∷ []))) rest
ends_number ms b rest minimal = grind arith

ends_zero : (ms rest : List ℕ) → 0 < length ms → ends_with ms 0 rest ≡ error not_minimal
ends_zero [] rest some = absurd (omega arith)
ends_zero (m ∷ ms) rest some = refl

-- an input has no front but the one that is computed
pub front_is : (x : List ℕ) (f : Front) → HasFront x f → f ≡ front_of x
front_is x (number n rest) (bytes, v, cut) =
    let few = varint_length n bytes v in
    let ms = continuation_bytes v.front in
    let long : length ms ≡ length v.front = length-map v.front (λ d. d + 128) in
    let whole : x ≡ ms ++ v.last ∷ rest = cut ∙ ap (λ b. b ++ rest) v.encoded ∙ append_assoc ms (v.last ∷ []) rest in
    let last : v.last < 128 = All-head IsDigit v.last [] (All-append_right IsDigit v.front (v.last ∷ []) v.digits) in
    let front = All-append_left IsDigit v.front (v.last ∷ []) v.digits in
    let value : place_value 128 (low_digits (ms ++ v.last ∷ [])) ≡ n =
    rw (map_push (λ b. b % 128) ms v.last, low_digits-continuation_bytes v.front front, mod-eq_of_lt last) v.value in
    sym (front_ends ms v.last rest x (All-continuation_bytes v.front) (omega (arith, few.0, long)) last
    (λ most. few.1 (sym long ∙ most)) whole
    ∙ ends_number ms v.last rest (λ z. ap continuation_bytes (v.minimal z)) ∙ ap (λ m. number m rest) value)
front_is x (error insufficient) h =
    sym (ap front_of (sym (append-nil x)) ∙ front_run x max_continuation (max_continuation - length x) [] [] h.all_continuation
    (omega (arith, h.few)))
front_is x (error overflow) h =
    sym (ap front_of h.cut ∙ front_run h.front max_continuation 0 [] (h.byte ∷ h.rest) h.all_continuation (omega (arith, h.most))
    ∙ rw (le-ltb h.byte last_byte_limit h.too_large) refl)
front_is x (error not_minimal) h =
    sym (front_ends h.front 0 h.rest x h.all_continuation h.few (omega arith) (λ _. omega arith) h.cut ∙ ends_zero h.front h.rest h.some)

-- an input has at most one front
pub front_unique : (x : List ℕ) (a b : Front) → HasFront x a → HasFront x b → a ≡ b
front_unique x a b h k = front_is x a h ∙ sym (front_is x b k)

-- an input with a varint at its front has no malformed one there
pub number_no_error : (x : List ℕ) (n : ℕ) (r : List ℕ) (f : VarintError) → HasFront x (number n r) → BeginsMalformed f x → ⊥
number_no_error x n r f h k = let same : number n r ≡ error f = front_unique x (number n r) (error f) h k in cc

-- an input of bytes has the front that is computed
ends_has : (ms : List ℕ) (b : ℕ) (rest : List ℕ) → All IsContinuation ms → b < 128 → length ms ≤ max_continuation
    → (length ms ≡ max_continuation → b < last_byte_limit) → IsBytes (ms ++ b ∷ rest) → HasFront (ms ++ b ∷ rest) (ends_with ms b rest)
ends_has [] b rest all small few most bytes =
    (b ∷ [], varint_from_bytes [] b (All-nil (λ n. n < 256)) all small few most (λ _. refl), refl)
ends_has (m ∷ ms) zero rest all small few most bytes = zero_after (m ∷ ms) rest all (omega arith) few
ends_has (m ∷ ms) (suc b) rest all small few most bytes = (
  (m ∷ ms) ++ suc b ∷ [],
  varint_from_bytes (m ∷ ms) (suc b) (All-append_left (λ n. n < 256) (m ∷ ms) (suc b ∷ rest) bytes) all small few most
      (λ z. absurd (omega (arith, z))),
  sym (append_assoc (m ∷ ms) (suc b ∷ []) rest),
)

front_has : (left : ℕ) (ms y : List ℕ) → All IsContinuation ms → length ms + left ≡ max_continuation → IsBytes (ms ++ y)
    → HasFront (ms ++ y) (front_from left ms y)
front_has left ms [] all room bytes = rw (append-nil ms) (record { few = omega (arith, room); all_continuation = all })
front_has zero ms (b ∷ rest) all room bytes = grind (arith, ends_has)
front_has (suc left) ms (b ∷ rest) all room bytes =
    elim (cases_lt b 128) [
      | inl small ↦ rw (lt-ltb b 128 small)
          (ends_has ms b rest all small (omega (arith, room)) (λ most. absurd (omega (arith, room, most))) bytes)
      | inr large ↦ rw (le-ltb b 128 large, ← append_assoc ms (b ∷ []) rest)
          (front_has left (ms ++ b ∷ []) rest (All-push IsContinuation ms b all large) (omega (arith, room, length_push ms b))
          (rw (append_assoc ms (b ∷ []) rest) bytes))
    ]

-- an input of bytes has the front that is computed
pub front_of_has : (x : List ℕ) → IsBytes x → HasFront x (front_of x)
front_of_has x bytes = front_has max_continuation [] x (All-nil IsContinuation) refl bytes

-- an input has at most one number at its front, and one rest
pub number_unique : (x : List ℕ) (m n : ℕ) (r q : List ℕ) → HasFront x (number m r) → HasFront x (number n q) → (m ≡ n) × (r ≡ q)
number_unique x m n r q h k = let same : number m r ≡ number n q = front_unique x (number m r) (number n q) h k in (cc, cc)

-- two varints at the front of one input are equal, of the same number, and so is what follows them
pub varint_unique : (m n : ℕ) (a b r s : List ℕ) → IsVarint m a → IsVarint n b → a ++ r ≡ b ++ s
    → (m ≡ n) × (a ≡ b) × (r ≡ s)
varint_unique m n a b r s is also e =
    let both = number_unique (a ++ r) m n r s (a, is, refl) (b, also, e) in
    (both.0, varint_same m a b is (subst (λ k. IsVarint k b) (sym both.0) also), both.1)

-- a varint has one byte more than its continuation bytes
pub varint_bytes : (n : ℕ) (bytes : List ℕ) (v : IsVarint n bytes) → length bytes ≡ length v.front + 1
varint_bytes n bytes v = grind (arith, length-append, length-map)

-- a varint is not empty
pub varint_some : (n : ℕ) (bytes : List ℕ) → IsVarint n bytes → 0 < length bytes
varint_some n bytes v = omega (arith, varint_bytes n bytes v)

-- a varint has at most nine bytes
pub varint_longest : (n : ℕ) (bytes : List ℕ) → IsVarint n bytes → length bytes ≤ max_continuation + 1
varint_longest n bytes v = omega (arith, varint_bytes n bytes v, (varint_length n bytes v).0)

-- a number above zero has as many bytes as its bits need, seven in each
pub length_by_bits : (n : ℕ) (bytes : List ℕ) → IsVarint n bytes → 0 < n → length bytes ≡ (70 - leading_zeros w64 n) / 7
length_by_bits n bytes v some =
    let two : 0 < 2 = omega arith in
    let top = leading_top 64 n some (omega (arith, v.in_range)) in
    let above : 2 ^ suc top.0 ≤ 2 ^ (7 * suc (top.0 / 7)) = pow-le-pow_right two (omega arith) in
    let buffer : 2 ^ (7 * suc (top.0 / 7)) ≡ 128 ^ suc (top.0 / 7) = pow_power 7 (suc (top.0 / 7)) in
    let most : length v.front ≤ top.0 / 7 = front_within (top.0 / 7) n bytes v (omega (arith, top.3, above, buffer)) in
    let long : length (v.front ++ v.last ∷ []) ≡ suc (length v.front) = omega (arith, length_push v.front v.last) in
    let under : n < 128 ^ suc (length v.front) = rw (v.value, long) at (place_value_below 128 (v.front ++ v.last ∷ []) v.digits) in
    let same : 2 ^ (7 * suc (length v.front)) ≡ 128 ^ suc (length v.front) = pow_power 7 (suc (length v.front)) in
    let least : top.0 < 7 * suc (length v.front) = lt_of_not-le (λ high.
    let large : 2 ^ (7 * suc (length v.front)) ≤ 2 ^ top.0 = pow-le-pow_right two high in
    omega (arith, large, top.2, under, same)) in
    let bits : leading_zeros w64 n + suc top.0 ≡ 64 = top.1 in
    omega (arith, varint_bytes n bytes v, bits, most, least)
