-- Numbers written in digits: bounds, one number for one list of digits, and digits as continuation bytes.
use Rattle.multihash.proofs.Common.{common_steps, ◌≡◌, ℕ, zero, suc, ◌+◌, ◌*◌, ◌^◌, ◌<◌, List, [], ◌∷◌, ◌++◌, length, refl, ◌∙◌, arith, ◌%◌, ◌≤◌, map, bit_or, length-append, sum_by, enumerate_from, All, pow-suc, pow-zero, mul_assoc, mul-suc, mul-zero, mul-le-mul_left, mod-eq_of_lt, All-head, All-tail, All-map, same_from_place, pow-add, mod_below, or_comm, or_shifted, place_value, IsBytes, get_or_append_left, get_or-append-add, length-map, map-append, IsContinuation, continuation_bytes}

-- the value of digits of which the first has the index k
abbrev value_from : ℕ → ℕ → List ℕ → ℕ
value_from base k digits = sum_by (λ (place : ℕ × ℕ). place.1 * base ^ place.0) (enumerate_from k digits)

value_from-cons : (base k d : ℕ) (ds : List ℕ) → value_from base k (d ∷ ds) ≡ d * base ^ k + value_from base (suc k) ds
value_from-cons base k d ds = grind (arith, common_steps)

value_from_next : (base k : ℕ) (ds : List ℕ) → value_from base (suc k) ds ≡ base * value_from base k ds
value_from_next base k [] = omega arith
value_from_next base k (d ∷ ds) =
    rw (value_from-cons base (suc k) d ds, value_from-cons base k d ds, value_from_next base (suc k) ds, pow-suc base k)
    (omega (arith, mul_assoc d (base ^ k) base))

pub place_value-nil : (base : ℕ) → place_value base [] ≡ 0
unfolding place_value
place_value-nil base = refl

pub place_value-cons : (base d : ℕ) (ds : List ℕ) → place_value base (d ∷ ds) ≡ d + base * place_value base ds
unfolding place_value
place_value-cons base d ds = value_from-cons base 0 d ds ∙ rw (pow-zero base, value_from_next base 0 ds) (omega arith)

-- the value is below the power of the base by the number of digits
pub place_value_below : (base : ℕ) (ds : List ℕ) → All (λ d. d < base) ds → place_value base ds < base ^ length ds
place_value_below base [] h = rw (place_value-nil base) (omega (arith, pow-zero base))
place_value_below base (d ∷ ds) h =
    let ih : place_value base ds < base ^ length ds = place_value_below base ds (All-tail (λ x. x < base) d ds h) in
    let head : d < base = All-head (λ x. x < base) d ds h in
    rw (place_value-cons base d ds, pow-suc base (length ds))
    (omega (arith, mul-le-mul_left base ih))

-- the value of two concatenated lists
pub place_value_append : (base : ℕ) (xs ys : List ℕ)
    → place_value base (xs ++ ys) ≡ place_value base xs + place_value base ys * base ^ length xs
place_value_append base [] ys = rw (place_value-nil base, pow-zero base) (omega arith)
place_value_append base (x ∷ xs) ys =
    rw (place_value-cons base x (xs ++ ys), place_value-cons base x xs, place_value_append base xs ys, pow-suc base (length xs))
    (omega (arith, mul_assoc (place_value base ys) (base ^ length xs) base))

pub place_value_last : (base last : ℕ) (front : List ℕ)
    → place_value base (front ++ last ∷ []) ≡ place_value base front + last * base ^ length front
place_value_last base last front = grind (arith, place_value_append, place_value-cons, place_value-nil)

-- powers of a power of two
pub pow_power : (k i : ℕ) → 2 ^ (k * i) ≡ (2 ^ k) ^ i
pow_power k zero = rw (mul-zero k, pow-zero (2 ^ k)) refl
pow_power k (suc i) = rw (mul-suc k i, pow-add 2 (k * i) k, pow_power k i, pow-suc (2 ^ k) i) refl

-- a number has one list of that many digits
pub place_value_unique : (base : ℕ) (ds es : List ℕ) → All (λ d. d < base) ds → All (λ d. d < base) es
    → length ds ≡ length es → place_value base ds ≡ place_value base es → ds ≡ es
place_value_unique base [] [] p q l v = refl
place_value_unique base [] (e ∷ es) p q l v = absurd (omega arith)
place_value_unique base (d ∷ ds) [] p q l v = absurd (omega arith)
place_value_unique base (d ∷ ds) (e ∷ es) p q l v =
    let same : (place_value base ds ≡ place_value base es) × (d ≡ e) = same_from_place (place_value base ds) d (place_value base es) e base
    (All-head (λ x. x < base) d ds p) (All-head (λ x. x < base) e es q)
    (omega (arith, v, place_value-cons base d ds, place_value-cons base e es)) in
    let rest : ds ≡ es = place_value_unique base ds es (All-tail (λ x. x < base) d ds p) (All-tail (λ x. x < base) e es q)
    (omega arith) same.0 in
    cc (same.1, rest)

-- what holds of each item of two concatenated lists holds of each of the first, and of the second
pub All-append_left : {X : Type 0} (P : X → Type 0) (xs ys : List X) → All P (xs ++ ys) → All P xs
All-append_left P xs ys all k d below =
    rw (← get_or_append_left xs ys d k below) (all k d (omega (arith, length-append xs ys)))

pub All-append_right : {X : Type 0} (P : X → Type 0) (xs ys : List X) → All P (xs ++ ys) → All P ys
All-append_right P xs ys all k d below =
    rw (← get_or-append-add xs ys k d) (all (length xs + k) d (omega (arith, length-append xs ys)))

abbrev pub IsDigit : ℕ → Type 0
IsDigit d = d < 128

-- digits and their continuation bytes
pub All-continuation_bytes : (ds : List ℕ) → All IsContinuation (continuation_bytes ds)
All-continuation_bytes ds = All-map IsContinuation (λ digit. digit + 128) ds (λ k d below. omega arith)

-- the low seven bits of each byte
abbrev pub low_digits : List ℕ → List ℕ
low_digits bytes = map (λ b. b % 128) bytes

pub low_digits_below : (bytes : List ℕ) → All IsDigit (low_digits bytes)
low_digits_below bytes = All-map IsDigit (λ b. b % 128) bytes (λ k d below. mod_below _ 128 (omega arith))

pub continuation_bytes-low_digits : (bytes : List ℕ) → IsBytes bytes → All IsContinuation bytes
    → continuation_bytes (low_digits bytes) ≡ bytes
continuation_bytes-low_digits [] bytes all = refl
continuation_bytes-low_digits (b ∷ bs) bytes all =
    let small : b < 256 = All-head (λ b. b < 256) b bs bytes in
    let large : 128 ≤ b = All-head IsContinuation b bs all in
    let head : b % 128 + 128 ≡ b = omega arith in
    cc (head, continuation_bytes-low_digits bs (All-tail (λ b. b < 256) b bs bytes) (All-tail IsContinuation b bs all))

pub low_digits-continuation_bytes : (ds : List ℕ) → All IsDigit ds → low_digits (continuation_bytes ds) ≡ ds
low_digits-continuation_bytes [] all = refl
low_digits-continuation_bytes (d ∷ ds) all =
    let small : d < 128 = All-head IsDigit d ds all in
    let head : (d + 128) % 128 ≡ d = omega arith in
    cc (head, low_digits-continuation_bytes ds (All-tail IsDigit d ds all))

-- the value of the digits of two concatenated lists, by the code's shift and `|`
pub or_digits : (front back : List ℕ) (i : ℕ) → length front ≡ i → place_value 128 (low_digits (front ++ back)) < 2 ^ 64
    → bit_or (place_value 128 (low_digits front)) (place_value 128 (low_digits back) * 2 ^ (7 * i) % 2 ^ 64)
    ≡ place_value 128 (low_digits (front ++ back))
or_digits front back i long fits = grind (arith, length-map, pow_power, map-append, place_value_append, place_value_below, low_digits_below, mod-eq_of_lt, or_comm, or_shifted)
