-- The bytes of a number in either order: for `Fixed`.
use Rattle.form.proofs.Common.{◌≡◌, ℕ, zero, suc, ◌+◌, ◌<◌, ◌≤◌, ◌%◌, ◌^◌, List, [], ◌∷◌, ◌++◌, length, take, replicate, refl, sym, ap, ◌∙◌, append-nil, arith}
use Rattle.std.specs.Int.{byte_at, bytes_low_first, from_le_bytes, to_le_bytes, w64}
use Rattle.std.proofs.Math.Nat.{div-one, mod-lt, one-le-pow}
use Rattle.std.proofs.lemmas.List.{reverse-append, reverse-reverse, length-reverse}
use Rattle.std.specs.Prelude.{reverse}
use Rattle.std.proofs.lemmas.Nat.{from_le_bytes-to_le_bytes_8}
use Rattle.std.proofs.lemmas.Slice.{take-put_mid, drop-put_mid}
use borrow.Rule.Slice.PartMut.{put_mid}
use Rattle.byteorder.specs.Endian.{little_from}
use Rattle.byteorder.specs.Numbers.{little_from-bytes}
use Rattle.byteorder.proofs.Bytes.{take-bytes_low_first, from_le_bytes-put_mid8}
use Rattle.form.specs.Form.{in_order, number_bytes}
use Rattle.form.specs.Lemmas.Parts.{fixed_length}

-- the last of n + 1 bytes from byte i, the lowest first
low_last : (i n x : ℕ) → bytes_low_first i (suc n) x ≡ bytes_low_first i n x ++ byte_at (i + n) x ∷ []
low_last i zero x = ap (λ (k : ℕ). byte_at k x ∷ []) (omega arith)
low_last i (suc n) x = ap (λ (l : List ℕ). byte_at i x ∷ l)
    (low_last (suc i) n x ∙ ap (λ (k : ℕ). bytes_low_first (suc i) n x ++ byte_at k x ∷ []) (omega arith))

-- the bytes of a number, the lowest first, put in order
ordered : (BIG N x : ℕ) → in_order BIG (bytes_low_first 0 N x) ≡ number_bytes BIG N x
ordered zero N x = refl
ordered (suc b) zero x = refl
ordered (suc b) (suc N) x =
    ap reverse (low_last 0 N x) ∙ reverse-append (bytes_low_first 0 N x) (byte_at (0 + N) x ∷ [])
    ∙ ap (λ (k : ℕ). byte_at k x ∷ reverse (bytes_low_first 0 N x)) (omega arith)
    ∙ ap (λ (l : List ℕ). byte_at N x ∷ l) (ordered (suc b) N x)

-- and back
order_back : (BIG : ℕ) (bytes : List ℕ) → in_order BIG (in_order BIG bytes) ≡ bytes
order_back zero bytes = refl
order_back (suc _) bytes = reverse-reverse bytes

order_length : (BIG : ℕ) (bytes : List ℕ) → length (in_order BIG bytes) ≡ length bytes
order_length zero bytes = refl
order_length (suc _) bytes = length-reverse bytes

-- the first N of 8 bytes of a number were put in order
pub written : (BIG N x : ℕ) (bytes part : List ℕ) → N ≤ 8 → bytes ≡ to_le_bytes w64 x → part ≡ in_order BIG (take N bytes)
    → take N (put_mid 0 N bytes part) ≡ number_bytes BIG N x
written BIG N x bytes part fits is turned =
    let low : take N bytes ≡ bytes_low_first 0 N x = ap (take N) is ∙ take-bytes_low_first 0 8 N x fits in
    let is_part = turned ∙ ap (in_order BIG) low ∙ ordered BIG N x in
    take-put_mid 0 N bytes part N (omega (arith, ap length is_part, fixed_length BIG N x)) (omega arith) ∙ is_part

abbrev pub zeros : List ℕ
zeros = replicate 8 0

-- N bytes were put before zeros, and then in order: no other bytes have their number
pub filled : (BIG N n : ℕ) (buf part : List ℕ) → N ≤ 8 → n < 2 ^ 64 → length buf ≡ N
    → part ≡ in_order BIG (take N (put_mid 0 N zeros buf)) → to_le_bytes w64 n ≡ put_mid 0 N (put_mid 0 N zeros buf) part
    → (buf ≡ number_bytes BIG N n) × (n < 256 ^ N)
filled BIG N n buf part fits below long turned whole =
    let is : part ≡ in_order BIG buf =
    turned ∙ ap (in_order BIG) (take-put_mid 0 N zeros buf N (omega (arith, long)) (omega arith)) in
    let size : length part ≡ N = ap length is ∙ order_length BIG buf ∙ long in
    let all : to_le_bytes w64 n ≡ put_mid 0 N zeros part =
    whole ∙ ap (λ (l : List ℕ). part ++ l) (drop-put_mid 0 N zeros buf N (omega arith) (omega arith) long) in
    let low : part ≡ bytes_low_first 0 N n =
    sym (take-put_mid 0 N zeros part N (omega (arith, size)) (omega arith)) ∙ ap (take N) (sym all) ∙ take-bytes_low_first 0 8 N n fits in
    let value : n ≡ n % 256 ^ N =
    sym (from_le_bytes-to_le_bytes_8 n below) ∙ ap (from_le_bytes w64) all ∙ from_le_bytes-put_mid8 part N fits size
    ∙ ap (little_from 0 N) (low ∙ sym (append-nil (bytes_low_first 0 N n))) ∙ little_from-bytes N 0 n []
    ∙ ap (λ (m : ℕ). m % 256 ^ N) (div-one n) in (
      sym (order_back BIG buf) ∙ ap (in_order BIG) (sym is ∙ low) ∙ ordered BIG N n,
      omega (arith, value, mod-lt n {m = 256 ^ N} (omega (arith, one-le-pow N 256 (omega arith)))),
    )
