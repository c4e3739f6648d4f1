-- Encodings: their parts and lengths; each pair has one; they are bytes. What is known of every value, also of one
-- that nothing has read yet: its digest fits the buffer. The encoding of a pair in range is `encoding_of` it.
use Rattle.multihash.proofs.Common.{◌≡◌, ℕ, ◌<◌, ◌≤◌, ◌+◌, List, [], ◌∷◌, ◌++◌, length, take, refl, sym, ap, ◌∙◌, arith, length-append, append_assoc, map, get_or, Pair, FitsBuffer, IsVarint, max_continuation, varint_limit, continuation_bytes, IsEncoding, encoding_of, take_at, append_cancel_left, append_cancel_right, drop-replicate, length-take, All-append, All-push, All-same, All-map, All-head, IsBytes, All, AreConcatenated, Fields, pair_of}
use Rattle.multihash.proofs.DigitLemmas.{All-append_left, All-append_right}
use Rattle.multihash.proofs.VarintLemmas.{varint_bytes, varint_longest, varint_same, front_within, number_unique}
use Rattle.multihash.proofs.VarintWriteLemmas.{varint_exists, is_varint_of}

-- an encoding, made of the varints of the code and of the digest's length, and the digest
pub encoding_of_parts : (p : Pair) {code size : ℕ} {digest : List ℕ} (a b : List ℕ) → code ≡ p.code → size ≡ length p.digest
    → digest ≡ p.digest
    → IsVarint code a → IsVarint size b → IsEncoding p (a ++ (b ++ digest))
encoding_of_parts p a b same_code same_size same_digest is_code is_size = grind (arith)

-- the length of three parts
pub length-parts : (a b digest : List ℕ) → length a + length b + length digest ≡ length (a ++ (b ++ digest))
length-parts a b digest = omega (arith, length-append a (b ++ digest), length-append b digest)

-- pairs with equal codes and digests are equal
pub same_pair : (p q : Pair) → p.code ≡ q.code → p.digest ≡ q.digest → p ≡ q
same_pair p q c d = λ i. record { code = c i; digest = d i }

-- two ways to split a list at the same index
pub same_cut : (a b x y : List ℕ) → length a ≡ length b → a ++ x ≡ b ++ y → (a ≡ b) × (x ≡ y)
same_cut a b x y l e =
    let fronts : a ≡ b = sym (take_at a x (length b) l) ∙ (ap (λ (z : List ℕ). take (length b) z) e ∙ take_at b y (length b) refl) in
    (fronts, append_cancel_left b x y (ap (λ (z : List ℕ). z ++ x) (sym fronts) ∙ e))

-- the parts of an encoding and of what follows it
pub encoding_cut : (p : Pair) (a x : List ℕ) (e : IsEncoding p a) → a ++ x ≡ e.code ++ (e.size ++ (p.digest ++ x))
encoding_cut p a x e = grind (arith, append_assoc)

-- two encodings at the front of one input are equal, of the same pair, and so is what follows them
pub encoding_unique : (p q : Pair) (a b x y : List ℕ) → IsEncoding p a → IsEncoding q b → a ++ x ≡ b ++ y → (p ≡ q) × (a ≡ b) × (x ≡ y)
encoding_unique p q a b x y e f same =
    let codes = number_unique (a ++ x) p.code q.code (e.size ++ (p.digest ++ x)) (f.size ++ (q.digest ++ y))
    (e.code, e.is_code, encoding_cut p a x e) (f.code, f.is_code, same ∙ encoding_cut q b y f) in
    let sizes = number_unique (e.size ++ (p.digest ++ x)) (length p.digest) (length q.digest) (p.digest ++ x) (q.digest ++ y)
    (e.size, e.is_size, refl) (f.size, f.is_size, codes.1) in
    let digests = same_cut p.digest q.digest x y sizes.0 sizes.1 in
    let fronts : a ≡ b = append_cancel_right a b x (same ∙ ap (λ (z : List ℕ). b ++ z) (sym digests.1)) in
    (same_pair p q codes.0 digests.0, fronts, digests.1)

-- a pair has at most one encoding
pub encoding_same : (p : Pair) (a b : List ℕ) → IsEncoding p a → IsEncoding p b → a ≡ b
encoding_same p a b e f =
    cc (
      e.encoded,
      f.encoded,
      varint_same p.code e.code f.code e.is_code f.is_code,
      varint_same (length p.digest) e.size f.size e.is_size f.is_size,
    )

-- a pair in range has an encoding
pub encoding_exists : (p : Pair) → p.code < varint_limit → length p.digest < varint_limit → (a : List ℕ) × IsEncoding p a
encoding_exists p code size =
    let c = varint_exists p.code code in
    let s = varint_exists (length p.digest) size in
    (c.0 ++ (s.0 ++ p.digest), record { code = c.0; size = s.0; is_code = c.1; is_size = s.1; encoded = refl })

-- an encoding is at most the code's bytes, two of the size, and the digest
pub encoding_length : (p : Pair) (bytes : List ℕ) → IsEncoding p bytes → length p.digest ≤ 255
    → length bytes ≤ (max_continuation + 1) + 2 + 255
encoding_length p bytes e fits =
    omega (
      arith,
      ap length e.encoded,
      length-append e.code (e.size ++ p.digest),
      length-append e.size p.digest,
      varint_longest p.code e.code e.is_code,
      varint_bytes (length p.digest) e.size e.is_size,
      front_within 1 (length p.digest) e.size e.is_size (omega arith),
    )

-- its numbers are bytes if the digest's are
varint_is_bytes : (n : ℕ) (bytes : List ℕ) → IsVarint n bytes → IsBytes bytes
varint_is_bytes n bytes v =
    let digits = All-append_left (λ d. d < 128) v.front (v.last ∷ []) v.digits in
    let last = All-head (λ d. d < 128) v.last [] (All-append_right (λ d. d < 128) v.front (v.last ∷ []) v.digits) in
    let front : IsBytes (continuation_bytes v.front) =
    All-map (λ b. b < 256) (λ d. d + 128) v.front (λ k d below. omega (arith, digits k d below)) in
    rw v.encoded (All-push (λ b. b < 256) (continuation_bytes v.front) v.last front (omega (arith, last)))

-- the numbers of an encoding are bytes if those of the digest are
pub encoding_bytes : (p : Pair) (bytes : List ℕ) → IsBytes p.digest → IsEncoding p bytes → IsBytes bytes
encoding_bytes p bytes digest e =
    All-same (λ b. b < 256) bytes (e.code ++ (e.size ++ p.digest)) e.encoded
    (All-append (λ b. b < 256) e.code (e.size ++ p.digest) (varint_is_bytes p.code e.code e.is_code)
    (All-append (λ b. b < 256) e.size p.digest (varint_is_bytes (length p.digest) e.size e.is_size) digest))

-- the zeros after bytes that are copied to the front of zeros
pub ruleset zeros_after = (drop-replicate)

-- ---- values

-- the digest of each value fits, also if nothing has read the value yet
pub digest_fits : {S : ℕ} (m : Fields S) → FitsBuffer S (pair_of m)
digest_fits m = omega (arith, length-take m.size m.buffer, m.fits)

-- the digests of all values of a list fit
pub all_fit : {S : ℕ} (items : List (Fields S)) → All (FitsBuffer S) (map pair_of items)
all_fit {S} items = All-map (FitsBuffer S) pair_of items (λ k d within. digest_fits (get_or items k d))

-- the pairs of a list of values have a concatenated encoding
pub have_stream : {S : ℕ} (items : List (Fields S)) → (bytes : List ℕ) × AreConcatenated (map pair_of items) bytes
have_stream [] = ([], refl)
have_stream (m ∷ items) =
    let first = encoding_exists (pair_of m) m.in_range (omega (arith, digest_fits m)) in
    let later = have_stream items in
    (_, (first.0, later.0, first.1, later.1, refl))

-- ---- an encoding as a function

-- the encoding of a pair in range is `encoding_of` the pair
pub is_encoding_of : (p : Pair) → p.code < varint_limit → length p.digest < varint_limit → IsEncoding p (encoding_of p)
unfolding encoding_of
is_encoding_of p code size = grind (arith, is_varint_of)

-- each value has an encoding, `encoding_of` its pair
pub encoding_of_value : {S : ℕ} (m : Fields S) → IsEncoding (pair_of m) (encoding_of (pair_of m))
encoding_of_value m = is_encoding_of (pair_of m) m.in_range (omega (arith, digest_fits m))
