-- An input has one verdict; the two varints at its front.
use Rattle.multihash.proofs.Common.{◌≡◌, ℕ, ◌<◌, ◌≤◌, cond, ltb, List, [], ◌∷◌, ◌++◌, length, take, drop, refl, sym, ap, ◌∙◌, subst, arith, inl, inr, length-append, append-nil, ◌+◌, ◌-◌, Some, get_or, cases_lt, lt-ltb, le-ltb, take_at, drop_at, take-append-drop, length-take-le, length-drop, drop-drop, All-same, IsBytes, Pair, FitsBuffer, digest_limit, IsVarint, IsEncoding, Verdict, accepted, invalid_size, invalid_code, malformed, unexpected_eof, BeginsWith, BeginsWithSize, BeginsWithCode, HasVerdict, HasWholeVerdict, HasHead, Refusal, ConsumesVarint, IsErrorOf}
use Rattle.multihash.proofs.DigitLemmas.{All-append_right}
use Rattle.multihash.proofs.VarintWriteLemmas.{one_byte}
use Rattle.multihash.proofs.VarintLemmas.{Front, number, error, HasFront, front_is, front_of, front_of_has}
use Rattle.multihash.proofs.EncodingLemmas.{encoding_cut}
use Rattle.multihash.proofs.ReadingLemmas.{Consumes-cut}

-- ---- two varints, one after the other

abbrev pub coded : (code : ℕ) (a x rest : List ℕ) → IsVarint code a → x ≡ a ++ rest → BeginsWithCode x rest
coded code a x rest is_code cut = record { code = code; code_bytes = a; is_code = is_code; cut = cut }

abbrev pub sized : (code size : ℕ) (a b x rest : List ℕ) → IsVarint code a → IsVarint size b → x ≡ a ++ (b ++ rest)
    → BeginsWithSize size x rest
sized code size a b x rest is_code is_size cut =
    record { code = code; code_bytes = a; size_bytes = b; is_code = is_code; is_size = is_size; cut = cut }

-- ---- the verdict, computed

-- the verdict on a size and what follows it; `ends` gives that on a pair and what follows it
abbrev pub judged : (Pair → List ℕ → Verdict) → ℕ → ℕ → Front → Verdict
judged ends S code (number size rest) =
    cond (ltb (digest_limit S) size) (invalid_size size)
    (cond (ltb (length rest) size) unexpected_eof (ends (record { code = code; digest = take size rest }) (drop size rest)))
judged ends S code (error f) = malformed f

abbrev follows : (Pair → List ℕ → Verdict) → ℕ → Front → Verdict
follows ends S (number code rest) = judged ends S code (front_of rest)
follows ends S (error f) = malformed f

abbrev pub found_by : (Pair → List ℕ → Verdict) → ℕ → List ℕ → Verdict
found_by ends S x = follows ends S (front_of x)

-- the verdict on a pair, whatever follows it
abbrev pub pair_alone : Pair → List ℕ → Verdict
pair_alone p rest = accepted p

abbrev pub found : ℕ → List ℕ → Verdict
found S x = found_by pair_alone S x

module _ (ends : Pair → List ℕ → Verdict) (S : ℕ) (x : List ℕ) where
  pub judged_at : (rest : List ℕ) (c : BeginsWithCode x rest) (g : Front) → HasFront rest g → judged ends S c.code g ≡ found_by ends S x
  judged_at rest c g has =
      ap (judged ends S c.code) (front_is rest g has)
      ∙ ap (follows ends S) (front_is x (number c.code rest) (c.code_bytes, c.is_code, c.cut))

  pub judged_size : (size : ℕ) (rest : List ℕ) (h : BeginsWithSize size x rest)
      → judged ends S h.code (number size rest) ≡ found_by ends S x
  judged_size size rest h =
      judged_at (h.size_bytes ++ rest) (coded h.code h.code_bytes x _ h.is_code h.cut) (number size rest) (h.size_bytes, h.is_size, refl)

  judged_pair : (p : Pair) (rest : List ℕ) → BeginsWith p x rest → FitsBuffer S p → ends p rest ≡ found_by ends S x
  judged_pair p rest b fits =
      let n = length p.digest in
      let long : n ≤ length (p.digest ++ rest) = omega (arith, length-append p.digest rest) in
      rw (
        le-ltb (digest_limit S) n fits,
        le-ltb (length (p.digest ++ rest)) n long,
        take_at p.digest rest n refl,
        drop_at p.digest rest n refl,
      ) refl
      ∙ judged_size n (p.digest ++ rest)
      (sized p.code n b.encodes.code b.encodes.size x _ b.encodes.is_code b.encodes.is_size
      (b.cut ∙ encoding_cut p b.encoding rest b.encodes))

  -- an input has no other verdict than the computed one
  found_is : (v : Verdict) → HasVerdict S x v → ((p : Pair) (rest : List ℕ) → v ≡ accepted p → v ≡ ends p rest) → v ≡ found_by ends S x
  found_is (accepted p) (rest, b, fits) own = own p rest refl ∙ judged_pair p rest b fits
  found_is (invalid_size size) (rest, h, over) own = rw (lt-ltb (digest_limit S) size over) refl ∙ judged_size size rest h
  found_is (invalid_code code) h own = absurd h
  found_is (malformed f) (inl h) own = ap (follows ends S) (front_is x (error f) h)
  found_is (malformed f) (inr (rest, c, h)) own = judged_at rest c (error f) h
  found_is unexpected_eof (size, rest, h, within, short) own =
      rw (le-ltb (digest_limit S) size within, lt-ltb (length rest) size short) refl ∙ judged_size size rest h

pub verdict_is : (S : ℕ) (x : List ℕ) (v : Verdict) → HasVerdict S x v → v ≡ found S x
verdict_is S x v h = found_is pair_alone S x v h (λ p rest same. same)

pub verdict_unique : (S : ℕ) (x : List ℕ) (v w : Verdict) → HasVerdict S x v → HasVerdict S x w → v ≡ w
verdict_unique S x v w h k = verdict_is S x v h ∙ sym (verdict_is S x w k)

-- ---- a verdict exists

-- both varints and a digest of that size are an encoding
pub pair_begins : (size : ℕ) (x rest : List ℕ) (h : BeginsWithSize size x rest) (digest after : List ℕ) → length digest ≡ size
    → rest ≡ digest ++ after → BeginsWith (record { code = h.code; digest = digest }) x after
pair_begins size x rest h digest after long split =
    let p : Pair = record { code = h.code; digest = digest } in
    let encodes : IsEncoding p (h.code_bytes ++ (h.size_bytes ++ digest)) =
    record { code = h.code_bytes; size = h.size_bytes; is_code = h.is_code; is_size = rw long h.is_size; encoded = refl } in
    record {
      encoding = h.code_bytes ++ (h.size_bytes ++ digest);
      encodes = encodes;
      cut = h.cut ∙ (ap (λ (z : List ℕ). h.code_bytes ++ (h.size_bytes ++ z)) split ∙ sym (encoding_cut p _ after encodes));
    }

has_judged : (S size : ℕ) (x rest : List ℕ) → BeginsWithSize size x rest → (v : Verdict) × HasVerdict S x v
has_judged S size x rest h =
    elim (cases_lt (digest_limit S) size) [
      | inl over ↦ (invalid_size size, (rest, h, over))
      | inr within ↦ elim (cases_lt (length rest) size) [
        | inl short ↦ (unexpected_eof, (size, rest, h, within, short))
        | inr full ↦
            let long : length (take size rest) ≡ size = length-take-le size rest full in (
              accepted _,
              (
                drop size rest,
                pair_begins size x rest h (take size rest) _ long
                    (sym (take-append-drop size rest)),
                omega arith,
              ),
            )
      ]
    ]

verdict_after_code : (S : ℕ) (x r : List ℕ) → BeginsWithCode x r → (g : Front) → HasFront r g → (v : Verdict) × HasVerdict S x v
verdict_after_code S x r c (number size rest) (b, is_size, e) =
    has_judged S size x rest (sized c.code size c.code_bytes b x rest c.is_code is_size (c.cut ∙ ap (λ (z : List ℕ). c.code_bytes ++ z) e))
verdict_after_code S x r c (error f) h = (malformed f, inr (r, c, h))

from_front : (S : ℕ) (x : List ℕ) → IsBytes x → (f : Front) → HasFront x f → (v : Verdict) × HasVerdict S x v
from_front S x bytes (number code r) (a, is_code, e) =
    verdict_after_code S x r (coded code a x r is_code e) (front_of r)
    (front_of_has r (All-append_right (λ byte. byte < 256) a r (All-same (λ byte. byte < 256) (a ++ r) x (sym e) bytes)))
from_front S x bytes (error f) h = (malformed f, inl h)

-- the computed verdict holds
pub has_found : (S : ℕ) (x : List ℕ) → IsBytes x → HasVerdict S x (found S x)
has_found S x bytes =
    let (v, h) = from_front S x bytes (front_of x) (front_of_has x bytes) in subst (HasVerdict S x) (verdict_is S x v h) h

-- ---- the verdict on the whole

-- the verdict on the whole for a pair and what follows it: trailing bytes are an invalid size
abbrev trailing : Pair → List ℕ → Verdict
trailing p [] = accepted p
trailing p (byte ∷ rest) = invalid_size (length (byte ∷ rest))

abbrev pub whole_found : ℕ → List ℕ → Verdict
whole_found S x = found_by trailing S x

pub whole_is : (S : ℕ) (x : List ℕ) (v : Verdict) → HasWholeVerdict S x v → v ≡ whole_found S x
whole_is S x (accepted p) (e, fits) =
    judged_pair trailing S x p [] (record { encoding = x; encodes = e; cut = sym (append-nil x) }) fits
whole_is S x (invalid_size size) (inl h) = found_is trailing S x (invalid_size size) h (λ p rest same. cc)
whole_is S x (invalid_size size) (inr (p, [], b, fits, len, some)) = absurd (omega arith)
whole_is S x (invalid_size size) (inr (p, byte ∷ rest, b, fits, len, some)) =
    ap invalid_size (sym len) ∙ judged_pair trailing S x p (byte ∷ rest) b fits
whole_is S x (invalid_code code) h = absurd h
whole_is S x (malformed f) h = found_is trailing S x (malformed f) h (λ p rest same. cc)
whole_is S x unexpected_eof h = found_is trailing S x unexpected_eof h (λ p rest same. cc)

pub whole_verdict_unique : (S : ℕ) (x : List ℕ) (v w : Verdict) → HasWholeVerdict S x v → HasWholeVerdict S x w → v ≡ w
whole_verdict_unique S x v w h k = whole_is S x v h ∙ sym (whole_is S x w k)

-- a pair with nothing after it
pub whole_pair : (p : Pair) (x : List ℕ) → BeginsWith p x [] → IsEncoding p x
whole_pair p x b = subst (IsEncoding p) (sym (b.cut ∙ append-nil b.encoding)) b.encodes

-- each verdict on the front gives one on the whole
whole_from : (S : ℕ) (x : List ℕ) (u : Verdict) → HasVerdict S x u → (v : Verdict) × HasWholeVerdict S x v
whole_from S x (accepted p) ([], b, fits) = (accepted p, (whole_pair p x b, fits))
whole_from S x (accepted p) (byte ∷ rest, b, fits) = (invalid_size _, inr (p, byte ∷ rest, b, fits, refl, omega arith))
whole_from S x (invalid_size size) h = (invalid_size size, inl h)
whole_from S x (invalid_code code) h = (invalid_code code, h)
whole_from S x (malformed f) h = (malformed f, h)
whole_from S x unexpected_eof h = (unexpected_eof, h)

pub has_whole_found : (S : ℕ) (x : List ℕ) → IsBytes x → HasWholeVerdict S x (whole_found S x)
has_whole_found S x bytes = let (v, h) = whole_from S x _ (has_found S x bytes) in subst (HasWholeVerdict S x) (whole_is S x v h) h

-- the error of the verdict is the error of the whole verdict
pub whole_rejected : (S : ℕ) (x : List ℕ) (e : Refusal) (v : Verdict) → HasVerdict S x v → IsErrorOf e v
    → (w : Verdict) × HasWholeVerdict S x w × IsErrorOf e w
whole_rejected S x e v has given = grind arith

-- ---- the verdict on the whole, by the two varints and what follows them

module _ {code size len : ℕ} {input : List ℕ} (h : HasHead code size len input) (S : ℕ) where
  pub whole_over : digest_limit S < size → HasWholeVerdict S input (invalid_size size)
  whole_over over = inl (drop len input, h.varints, over)

  module _ (within : size ≤ digest_limit S) (rest : List ℕ) (is : rest ≡ drop len input) where
    after : BeginsWithSize size input rest
    after = rw is h.varints

    -- bytes trail the digest
    pub whole_trailing : {n : ℕ} → size < length rest → n ≡ length rest - size → HasWholeVerdict S input (invalid_size n)
    whole_trailing more count =
        let long : length (take size rest) ≡ size = length-take-le size rest (omega arith) in
        let begins = pair_begins size input rest after (take size rest) (drop size rest) long (sym (take-append-drop size rest)) in
        inr (_, drop size rest, begins, omega arith, omega (arith, length-drop size rest, count), omega arith)

-- the two varints are a head
pub head_of : {code size : ℕ} (k m : ℕ) (input : List ℕ) {left : List ℕ} → left ≡ drop k input → k ≤ length input → m ≤ length left
    → ConsumesVarint code (Some input) (Some (drop k input)) → ConsumesVarint size (Some left) (Some (drop m left))
    → HasHead code size (k + m) input
head_of {code = code} {size = size} k m input {left = left} is within more a b =
    let second = sym is ∙ Consumes-cut left _ (drop m left) b.2 ∙ ap (λ z. b.0 ++ z) (ap (drop m) is ∙ drop-drop m k input) in
    let cut = Consumes-cut input _ (drop k input) a.2 ∙ ap (λ z. a.0 ++ z) second in
    let inside : k + m ≤ length input = omega (arith, ap length is, length-drop k input, within, more) in
    record { within = inside; varints = sized code size a.0 b.0 input _ a.1 b.1 cut; is_code = refl }

-- two varints of one byte each are a head
pub short_head : (input : List ℕ) → 2 ≤ length input → get_or input 0 0 < 128 → get_or input 1 0 < 128
    → HasHead (get_or input 0 0) (get_or input 1 0) 2 input
short_head [] long code size = absurd (omega (arith, long))
short_head (code ∷ []) long is_code is_size = absurd (omega (arith, long))
short_head (code ∷ size ∷ rest) long is_code is_size = record {
  within = long;
  varints = record {
    code = code;
    code_bytes = code ∷ [];
    size_bytes = size ∷ [];
    is_code = one_byte code is_code;
    is_size = one_byte size is_size;
    cut = refl;
  };
  is_code = refl;
}
