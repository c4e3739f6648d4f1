-- A pair has one SCALE form, an input one verdict; the contract of decoding for each way to end.
use Rattle.multihash.proofs.Common.{common_steps, ◌≡◌, ℕ, zero, suc, ◌/◌, ◌%◌, ◌^◌, ◌<◌, List, length, get_or, refl, sym, ap, ◌∙◌, arith, ◌+◌, ◌≤◌, cond, ltb, [], ◌∷◌, ◌++◌, take, drop, subst, inl, inr, length-append, append_assoc, append-nil, ◌⊎◌, Option, Result, Ok, Err, IfSome, IfOk, IfErr, pow-suc, pow-zero, div-add-mod, div-div-eq-div-mul, div-one, div_below, le_bytes_8, All-nil, All-head, All-same, IsBytes, place_value, IsScaleCode, IsScale, HasScaleSize, HasScaleVerdict, ScaleMayFailWith, ConsumesAtScaleError, cases_lt, take-append-drop, length-take-le, append_cancel_left, Pair, varint_limit, Verdict, accepted, invalid_size, invalid_code, unexpected_eof, IsIncomplete, Fault, IsUnexpectedEof, IsOwnFault, Consumes, HasFewerThan, CountsReaderFailures, prepend_known, Refusal, of_io, IsReaderError, IsInvalidSize, IsInvalidCode, IsErrorOf, IsResultOf, Fields, pair_of}
use Rattle.std.specs.Int.{byte_at, bytes_low_first, to_le_bytes, from_le_bytes, w64}
use Rattle.multihash.proofs.DigitLemmas.{place_value-nil, place_value-cons, place_value_unique, All-append_left, All-append_right}
use Rattle.multihash.proofs.ReadingLemmas.{IfSome-consumed, Consumes-concatenated}
use Rattle.multihash.proofs.ReadConsumingLemmas.{error_unique, own_no_verdict}

byte_at-is : (i n : ℕ) → byte_at i n ≡ n / 256 ^ i % 256
byte_at-is i n = grind (arith, pow-zero, div-one)

are_bytes : (k i n : ℕ) → IsBytes (bytes_low_first i k n)
are_bytes zero i n = All-nil (λ b. b < 256)
are_bytes (suc k) i n = grind (arith, are_bytes k (suc i) n)

next_byte : (i n : ℕ) → n / 256 ^ suc i ≡ n / 256 ^ i / 256
next_byte i n = ap (λ (p : ℕ). n / p) (pow-suc 256 i) ∙ sym (div-div-eq-div-mul n (256 ^ i) 256)

value_of_bytes : (k i n : ℕ) → n / 256 ^ i < 256 ^ k → place_value 256 (bytes_low_first i k n) ≡ n / 256 ^ i
value_of_bytes zero i n below = place_value-nil 256 ∙ omega (arith, below, pow-zero 256)
value_of_bytes (suc k) i n below =
    let m : ℕ = n / 256 ^ i in
    let smaller : m / 256 < 256 ^ k = div_below m 256 (256 ^ k) (omega arith) (omega (arith, below, pow-suc 256 k)) in
    let rest : place_value 256 (bytes_low_first (suc i) k n) ≡ n / 256 ^ suc i =
    value_of_bytes k (suc i) n (rw (next_byte i n) smaller) in
    place_value-cons 256 (byte_at i n) (bytes_low_first (suc i) k n)
    ∙ omega (arith, rest, next_byte i n, byte_at-is i n, div-add-mod m 256)

-- the eight bytes that are written for a code
pub code_bytes : (code : ℕ) → code < 256 ^ 8 → IsScaleCode code (to_le_bytes w64 code)
code_bytes code range = record {
  eight = refl;
  are_bytes = are_bytes 8 0 code;
  value = value_of_bytes 8 0 code (rw (pow-zero 256, div-one code) (omega (arith, range)))
      ∙ (ap (λ (p : ℕ). code / p) (pow-zero 256) ∙ div-one code);
}

-- the eight bytes that a code is read from
pub code_read : (bytes : List ℕ) (code : ℕ) → length bytes ≡ 8 → ((i : ℕ) → get_or bytes i 0 < 256) → code < 256 ^ 8
    → code ≡ from_le_bytes w64 bytes → IsScaleCode code bytes
code_read bytes code eight each range read =
    rw (← le_bytes_8 bytes code eight each read) (code_bytes code range)

-- the bytes of the code, the size, and the digest
pub scale_of : (p : Pair) (size : ℕ) (a digest : List ℕ) → IsScaleCode p.code a → p.code < varint_limit
    → size ≡ length p.digest → size < 256
    → digest ≡ p.digest → IsScale p (a ++ size ∷ digest)
scale_of p size a digest is_code below long byte same = grind (arith)

pub scale_exists : (p : Pair) → p.code < varint_limit → length p.digest < 256 → (bytes : List ℕ) × IsScale p bytes
scale_exists p below size = (_, scale_of p _ _ p.digest (code_bytes p.code (omega (arith, below))) below refl size refl)

-- a pair has at most one form
pub scale_same : (p : Pair) (a b : List ℕ) → IsScale p a → IsScale p b → a ≡ b
scale_same p a b h k = grind (arith, place_value_unique)

-- eight bytes of the code, one of the size, and the digest
pub scale_length : (p : Pair) (bytes : List ℕ) → IsScale p bytes → length bytes ≡ 9 + length p.digest
scale_length p bytes h = omega (arith, ap length h.encoded, length-append h.code (length p.digest ∷ p.digest), h.is_code.eight)

-- ---- the verdict, computed

-- the verdict on what follows a code in range
abbrev scale_after : ℕ → ℕ → List ℕ → Verdict
scale_after S code [] = unexpected_eof
scale_after S code (size ∷ rest) =
    cond (ltb S size) (invalid_size size)
    (cond (ltb (length rest) size) unexpected_eof (accepted (record { code = code; digest = take size rest })))

abbrev scale_judged : ℕ → ℕ → List ℕ → Verdict
scale_judged S code rest = cond (ltb code varint_limit) (scale_after S code rest) (invalid_code code)

-- k is 8, but a variable, so that `take` is not computed
abbrev found_at : ℕ → ℕ → List ℕ → Verdict
found_at k S x = cond (ltb (length x) k) unexpected_eof (scale_judged S (place_value 256 (take k x)) (drop k x))

scale_found_is : (k S : ℕ) (x : List ℕ) (v : Verdict) → k ≡ 8 → HasScaleVerdict S x v → found_at k S x ≡ v
scale_found_is k S x v eight h = grind (arith, common_steps)

abbrev pub scale_found : ℕ → List ℕ → Verdict
scale_found S x = found_at 8 S x

-- an input has no other verdict than the computed one
pub scale_verdict_is : (S : ℕ) (x : List ℕ) (v : Verdict) → HasScaleVerdict S x v → v ≡ scale_found S x
scale_verdict_is S x v h = sym (scale_found_is 8 S x v refl h)

pub scale_verdict_unique : (S : ℕ) (x : List ℕ) (v w : Verdict) → HasScaleVerdict S x v → HasScaleVerdict S x w → v ≡ w
scale_verdict_unique S x v w h k = scale_verdict_is S x v h ∙ sym (scale_verdict_is S x w k)

-- two forms at the front of one input are equal, of the same pair
pub scale_split : (p q : Pair) (a b r s : List ℕ) → IsScale p a → IsScale q b → a ++ r ≡ b ++ s → (p ≡ q) × (a ≡ b) × (r ≡ s)
scale_split p q a b r s h k e =
    let verdicts : accepted p ≡ accepted q = scale_verdict_unique 255 (a ++ r) (accepted p) (accepted q)
    (a, r, h, omega (arith, h.size), refl) (b, s, k, omega (arith, k.size), e) in
    let pairs : p ≡ q = cc in
    let forms : a ≡ b = scale_same q a b (subst (λ x. IsScale x a) pairs h) k in
    (pairs, forms, append_cancel_left b r s (ap (λ x. x ++ r) (sym forms) ∙ e))

-- ---- a verdict exists

scale_sized : (S size : ℕ) (x rest : List ℕ) → HasScaleSize size x rest → size < 256 → (v : Verdict) × HasScaleVerdict S x v
scale_sized S size x rest h byte =
    elim (cases_lt S size) [
      | inl over ↦ (invalid_size size, (rest, h, over))
      | inr within ↦ elim (cases_lt (length rest) size) [
        | inl short ↦ (unexpected_eof, inr (inr (size, rest, h, within, short)))
        | inr full ↦
            let digest : List ℕ = take size rest in
            let left : List ℕ = drop size rest in
            let long : length digest ≡ size = length-take-le size rest full in
            let form = scale_of (record { code = h.code; digest = digest }) size h.code_bytes digest h.is_code h.in_range
            (sym long) byte refl in
            let cut = h.cut ∙ (ap (λ (z : List ℕ). h.code_bytes ++ size ∷ z) (sym (take-append-drop size rest))
            ∙ sym (append_assoc h.code_bytes (size ∷ digest) left)) in
            (accepted _, (_, left, form, omega arith, cut))
      ]
    ]

scale_in_range : (S code : ℕ) (x bytes rest : List ℕ) → IsScaleCode code bytes → x ≡ bytes ++ rest → IsBytes rest
    → code < varint_limit → (v : Verdict) × HasScaleVerdict S x v
scale_in_range S code x bytes [] is_code cut each below = grind (arith, append-nil)
scale_in_range S code x bytes (size ∷ rest) is_code cut each below =
    scale_sized S size x rest (record { code = code; code_bytes = bytes; is_code = is_code; in_range = below; cut = cut })
    (All-head (λ b. b < 256) size rest each)

-- the first k bytes, and the others
cut_after : (k : ℕ) (x : List ℕ) → k ≤ length x → (front : List ℕ) × (rest : List ℕ) × (x ≡ front ++ rest) × (length front ≡ k)
cut_after k x long = (take k x, drop k x, sym (take-append-drop k x), length-take-le k x long)

pub scale_verdict_exists : (S : ℕ) (x : List ℕ) → IsBytes x → (v : Verdict) × HasScaleVerdict S x v
scale_verdict_exists S x bytes =
    elim (cases_lt (length x) 8) [
      | inl short ↦ (unexpected_eof, inl short)
      | inr long ↦
          let (front, rest, cut, eight) = cut_after 8 x long in
          let whole = All-same (λ b. b < 256) (front ++ rest) x (sym cut) bytes in
          let is_code : IsScaleCode (place_value 256 front) front =
          record { eight = eight; are_bytes = All-append_left (λ b. b < 256) front rest whole; value = refl } in
          elim (cases_lt (place_value 256 front) varint_limit) [
            | inl below ↦ scale_in_range S _ x front rest is_code cut (All-append_right (λ b. b < 256) front rest whole) below
            | inr above ↦ (invalid_code _, (front, rest, is_code, above, cut))
          ]
    ]

-- the computed verdict holds
pub has_scale_found : (S : ℕ) (x : List ℕ) → IsBytes x → HasScaleVerdict S x (scale_found S x)
has_scale_found S x bytes = let (v, h) = scale_verdict_exists S x bytes in subst (HasScaleVerdict S x) (scale_verdict_is S x v h) h

-- one byte
pub one_item : (xs : List ℕ) → length xs ≡ 1 → xs ≡ get_or xs 0 0 ∷ []
one_item xs one = grind (arith, common_steps)

abbrev pub ScaleMeets : (S : ℕ) → Option (List ℕ) → Option (List ℕ) → ℕ → ℕ → Result (Fields S) Refusal → Type 0
ScaleMeets S old new before after r = record {
  faults : CountsReaderFailures IsReaderError (ScaleMayFailWith S) before after r;
  verdict : IfSome old (λ rest. after ≡ before → (v : Verdict) × HasScaleVerdict S rest v × IsResultOf r v);
  ok : IfOk r (λ m. (bytes : List ℕ) × IsScale (pair_of m) bytes × Consumes old bytes new);
  err : IfErr r (λ e. ConsumesAtScaleError S e old new);
}

module _ (S : ℕ) (new : Option (List ℕ)) where
  -- the consumed bytes determine that the code or the size is rejected
  scale_rejected : {old : Option (List ℕ)} {before after : ℕ} (e : Refusal) (consumed : List ℕ) (v : Verdict)
      → Consumes old consumed new → after ≡ before → ((left : List ℕ) → HasScaleVerdict S (consumed ++ left) v) → ¬ (IsIncomplete v)
      → IsErrorOf e v → ScaleMayFailWith S e
      → ((code : ℕ) → v ≡ invalid_code code → length consumed ≡ 8)
      → ((size : ℕ) → v ≡ invalid_size size → length consumed ≡ 9) → ScaleMeets S old new before after (Err e)
  scale_rejected {old = old} e consumed v consumes same has late given listed eight nine =
      let own = subst (λ x. HasScaleVerdict S x v) (append-nil consumed) (has []) in record {
        faults = inr (same, listed);
        verdict = IfSome-consumed old new consumed _ consumes (λ left _ _. (v, has left, given));
        ok = tt;
        err = record {
          consumed = consumed;
          consumes = consumes;
          code = λ k named. let is = error_unique e v (invalid_code k) given named in
              (subst (HasScaleVerdict S consumed) is own, eight k is);
          size = λ k named. let is = error_unique e v (invalid_size k) given named in
              (subst (HasScaleVerdict S consumed) is own, nine k is);
          truncated = λ io. absurd (elim io [
            | inl eof ↦ late (rw (error_unique e v unexpected_eof given eof) tt)
            | inr error ↦ own_no_verdict e v error given
          ]);
        };
      }

  module _ {code : ℕ} {a : List ℕ} (is : IsScaleCode code a) where
    pub code_rejected : {old : Option (List ℕ)} {before after : ℕ} (e : Refusal) → varint_limit ≤ code → after ≡ before
        → IsInvalidCode code e → Consumes old a new
        → ScaleMeets S old new before after (Err e)
    code_rejected e above same given consumes =
        scale_rejected e a (invalid_code code) consumes same (λ left. (a, left, is, above, refl)) (λ h. h) given (inl (code, given, above))
        (λ k named. is.eight) (λ k named. cc)

    module _ (size : ℕ) (below : code < varint_limit) where
      has_scale_size : (rest : List ℕ) → HasScaleSize size ((a ++ size ∷ []) ++ rest) rest
      has_scale_size rest = record { code = code; code_bytes = a; is_code = is; in_range = below; cut = append_assoc a (size ∷ []) rest }

      pub size_rejected : {old : Option (List ℕ)} {before after : ℕ} (e : Refusal) → S < size → after ≡ before
          → IsInvalidSize size e → Consumes old (a ++ size ∷ []) new
          → ScaleMeets S old new before after (Err e)
      size_rejected e over same given consumes =
          scale_rejected e (a ++ size ∷ []) (invalid_size size) consumes same (λ left. (left, has_scale_size left, over)) (λ h. h) given
          (inr (inl (size, given, over))) (λ k named. cc) (λ k named. omega (arith, is.eight, length-append a (size ∷ [])))

      -- the whole form
      pub scale_returned : {old : Option (List ℕ)} {before after : ℕ} (digest : List ℕ) (m : Fields S) → size ≤ S → size < 256
          → length digest ≡ size → after ≡ before → pair_of m ≡ record { code = code; digest = digest }
          → Consumes old (a ++ size ∷ digest) new
          → ScaleMeets S old new before after (Ok m)
      scale_returned {old = old} digest m fits byte long same made consumes = grind (arith, scale_of)

  -- the input ended or the reader failed within n bytes that follow others
  pub inside_rejected : {old mid : Option (List ℕ)} {before after : ℕ} (a : List ℕ) (n : ℕ)
      → ((t : List ℕ) → length t < n → HasScaleVerdict S (a ++ t) unexpected_eof)
      → (error : Fault) (front : List ℕ) → length front < n → Consumes old a mid → Consumes mid front new
      → (IsUnexpectedEof error → HasFewerThan n mid) → ((before < after) × IsOwnFault error) ⊎ ((after ≡ before) × IsUnexpectedEof error)
      → ScaleMeets S old new before after (Err (of_io error))
  inside_rejected {old = old} a n inside error front short first took few how =
      let consumes = Consumes-concatenated new a front refl first took in record {
        faults = elim how [ inl (rose, own) ↦ inl (rose, (error, refl, own)) | inr (same, eof) ↦ inr (same, inr (inr (error, refl, eof))) ];
        verdict = IfSome-consumed old new (a ++ front) _ consumes (λ left told same.
            elim how [
              | inl (rose, own) ↦ absurd (omega (arith, rose, same))
              | inr (_, eof) ↦
                  let fewer = subst (HasFewerThan n) (took ∙ ap (prepend_known front) told) (few eof) in
                  (unexpected_eof, rw (append_assoc a front left) (inside (front ++ left) fewer), (error, refl, eof))
            ]);
        ok = tt;
        err = record {
          consumed = a ++ front;
          consumes = consumes;
          code = λ k named. absurd (cc named);
          size = λ k named. absurd (cc named);
          truncated = λ _. inside front short;
        };
      }

-- a code with no size after it, and a truncated digest
pub no_size : (S : ℕ) {code : ℕ} {a : List ℕ} → IsScaleCode code a → code < varint_limit → (t : List ℕ) → length t < 1
    → HasScaleVerdict S (a ++ t) unexpected_eof
no_size S {code = code} {a = a} is below [] none = inr (inl (code, subst (IsScaleCode code) (sym (append-nil a)) is, below))
no_size S is below (b ∷ t) none = absurd (omega arith)

pub cut_scale_digest : (S : ℕ) {code : ℕ} {a : List ℕ} → IsScaleCode code a → (size : ℕ) → code < varint_limit → size ≤ S
    → (t : List ℕ) → length t < size → HasScaleVerdict S ((a ++ size ∷ []) ++ t) unexpected_eof
cut_scale_digest S {code = code} {a = a} is size below fits t short = grind (arith, append_assoc)
