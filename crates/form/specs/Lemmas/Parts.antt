-- Proved lemmas, which no contract cites: the laws of encodings. One exists, is unique, is the only one of its value, and is not
-- empty; for two parts, one after the other, from those of each, and for each form.
use Rattle.std.proofs.Common.{◌≡◌, ℕ, zero, suc, ◌<◌, ◌^◌, List, [], ◌∷◌, ◌++◌, length, length-append, refl, sym, ap, ◌∙◌, append_assoc, subst, arith}
use Rattle.byteorder.specs.Endian.{big_from, little_from}
use Rattle.byteorder.specs.Numbers.{big_number-reads_back, little_number-reads_back, length-bytes_high_first, length-bytes_low_first}
use Rattle.multihash.specs.Streams.{AreParts}
use Rattle.form.specs.Form.{Then, IsBlock, AreSame, number_bytes}
use Rattle.multihash.specs.Varint.{IsVarint, varint_limit}
use Rattle.multihash.proofs.VarintLemmas.{varint_unique, varint_same, varint_some}
use Rattle.multihash.proofs.VarintWriteLemmas.{varint_exists}
use Rattle.multihash.specs.Multihash.{Fields, pair_of}
use Rattle.multihash.specs.Pair.{Pair}
use Rattle.multihash.specs.Encoding.{IsEncoding, encoding_of}
use Rattle.multihash.proofs.EncodingLemmas.{same_cut, encoding_of_value, encoding_unique, encoding_same}
use Rattle.multihash.proofs.StreamLemmas.{encoding_some}

-- ---- two parts

-- if bytes of which P holds and bytes of which Q holds start one input, S holds, and the same follows both
abbrev pub Determine : (P Q : List ℕ → Type 0) → Type 0 → Type 0
Determine P Q S = (a b r s : List ℕ) → P a → Q b → a ++ r ≡ b ++ s → S × (r ≡ s)

-- no input starts with bytes of which P holds and with bytes of which Q holds
abbrev pub Exclude : (P Q : List ℕ → Type 0) → Type 0
Exclude P Q = (a b r s : List ℕ) → P a → Q b → a ++ r ≡ b ++ s → ⊥

-- an encoding exists if one of each part exists
pub then_exists : {P Q : List ℕ → Type 0} → (a : List ℕ) × P a → (b : List ℕ) × Q b → (bytes : List ℕ) × Then P Q bytes
then_exists (a, is_a) (b, is_b) =
    (a ++ b, record { first = a; second = b; is_first = is_a; is_second = is_b; parts = refl })

-- two encodings determine S and T if their parts do
pub then_unique : {P Q P' Q' : List ℕ → Type 0} {S T : Type 0} → Determine P P' S → (S → Determine Q Q' T)
    → Determine (Then P Q) (Then P' Q') (S × T)
then_unique one two a b r s x y cut =
    let joined : x.first ++ (x.second ++ r) ≡ y.first ++ (y.second ++ s) =
    sym (append_assoc x.first x.second r) ∙ ap (λ (l : List ℕ). l ++ r) (sym x.parts) ∙ cut
    ∙ ap (λ (l : List ℕ). l ++ s) y.parts ∙ append_assoc y.first y.second s in
    let told = one x.first y.first (x.second ++ r) (y.second ++ s) x.is_first y.is_first joined in
    let rest = two told.0 x.second y.second r s x.is_second y.is_second told.1 in
    ((told.0, rest.0), rest.1)

-- and so T alone
pub next_unique : {P Q P' Q' : List ℕ → Type 0} {S T : Type 0} → Determine P P' S → (S → Determine Q Q' T)
    → Determine (Then P Q) (Then P' Q') T
next_unique one two a b r s x y cut = let told = then_unique one two a b r s x y cut in (told.0.1, told.1)

-- there is only one encoding if each part has only one
pub then_one : {P Q P' Q' : List ℕ → Type 0} (a b : List ℕ) → ((c d : List ℕ) → P c → P' d → c ≡ d)
    → ((c d : List ℕ) → Q c → Q' d → c ≡ d) → Then P Q a → Then P' Q' b → a ≡ b
then_one a b one two x y =
    cc (x.parts, y.parts, one x.first y.first x.is_first y.is_first, two x.second y.second x.is_second y.is_second)

-- the encoding is not empty if the first part's is not
pub then_some : {P Q : List ℕ → Type 0} → ((a : List ℕ) → P a → 0 < length a) → (bytes : List ℕ) → Then P Q bytes
    → 0 < length bytes
then_some some bytes x =
    omega (arith, some x.first x.is_first, ap length x.parts, length-append x.first x.second)

-- ---- each form

-- a multihash has an encoding
pub multihash_exists : {S : ℕ} (m : Fields S) → (bytes : List ℕ) × IsEncoding (pair_of m) bytes
multihash_exists m = (encoding_of (pair_of m), encoding_of_value m)

-- two at the start of one input are the same
pub multihash_unique : {S : ℕ} (m n : Fields S) → Determine (IsEncoding (pair_of m)) (IsEncoding (pair_of n)) (pair_of m ≡ pair_of n)
multihash_unique m n a b r s x y cut =
    let t = encoding_unique (pair_of m) (pair_of n) a b r s x y cut in (t.0, t.2)

-- and the same have one encoding
pub multihash_one : {S : ℕ} (m n : Fields S) (a b : List ℕ) → pair_of m ≡ pair_of n → IsEncoding (pair_of m) a
    → IsEncoding (pair_of n) b → a ≡ b
multihash_one m n a b same x y =
    encoding_same (pair_of m) a b x (subst (λ (p : Pair). IsEncoding p b) (sym same) y)

-- and it is not empty
pub multihash_some : {S : ℕ} (m : Fields S) (bytes : List ℕ) → IsEncoding (pair_of m) bytes → 0 < length bytes
multihash_some m = encoding_some (pair_of m)

-- two varints at the start of one input are equal
pub number_unique : (m n : ℕ) → Determine (IsVarint m) (IsVarint n) (m ≡ n)
number_unique m n a b r s x y cut = let t = varint_unique m n a b r s x y cut in (t.0, t.2)

-- and a number has one varint
pub number_one : (m n : ℕ) (a b : List ℕ) → m ≡ n → IsVarint m a → IsVarint n b → a ≡ b
number_one m n a b same x y = varint_same m a b x (subst (λ k. IsVarint k b) (sym same) y)

-- a tag has only one value
pub tag_unique : (n : ℕ) → Determine (IsVarint n) (IsVarint n) (Unit {0})
tag_unique n a b r s x y cut = (tt, (number_unique n n a b r s x y cut).1)

-- and a tag has one varint
pub tag_one : (n : ℕ) (a b : List ℕ) → Unit {0} → IsVarint n a → IsVarint n b → a ≡ b
tag_one n a b same = varint_same n a b

-- an array has an encoding
pub array_exists : (x : List ℕ) → (bytes : List ℕ) × (bytes ≡ x)
array_exists x = (x, refl)

-- two at the start of one input are equal
pub array_unique : (n : ℕ) (x y : List ℕ) → length x ≡ n → length y ≡ n → Determine (λ a. a ≡ x) (λ b. b ≡ y) (x ≡ y)
array_unique n x y long also a b r s is is_b cut =
    let t = same_cut a b r s (ap length is ∙ long ∙ sym also ∙ sym (ap length is_b)) cut in
    (sym is ∙ t.0 ∙ is_b, t.1)

-- and an array has one encoding
pub array_one : (x y a b : List ℕ) → x ≡ y → a ≡ x → b ≡ y → a ≡ b
array_one x y a b same is is_b = is ∙ same ∙ sym is_b

-- and it is not empty
pub array_some : (n : ℕ) (x : List ℕ) → length x ≡ n → 0 < n → (bytes : List ℕ) → bytes ≡ x → 0 < length bytes
array_some n x long some bytes is = omega (arith, long, some, ap length is)

-- a number has N bytes
pub fixed_length : (BIG N x : ℕ) → length (number_bytes BIG N x) ≡ N
fixed_length zero N x = length-bytes_low_first 0 N x
fixed_length (suc _) N x = length-bytes_high_first N x

-- and is read back from them
from_bytes : (BIG N : ℕ) → List ℕ → ℕ
from_bytes zero N l = little_from 0 N (l ++ [])
from_bytes (suc _) N l = big_from 0 N (l ++ [])

reads_back : (BIG N x : ℕ) → x < 256 ^ N → from_bytes BIG N (number_bytes BIG N x) ≡ x
unfolding from_bytes
reads_back zero N x = little_number-reads_back N x []
reads_back (suc _) N x = big_number-reads_back N x []

-- two numbers of N bytes at the start of one input are equal
pub fixed_unique : (BIG N x y : ℕ) → x < 256 ^ N → y < 256 ^ N
    → Determine (λ a. a ≡ number_bytes BIG N x) (λ b. b ≡ number_bytes BIG N y) (x ≡ y)
fixed_unique BIG N x y below below_too a b r s is is_b cut =
    let t = array_unique N _ _ (fixed_length BIG N x) (fixed_length BIG N y) a b r s is is_b cut in
    (sym (reads_back BIG N x below) ∙ ap (from_bytes BIG N) t.0 ∙ reads_back BIG N y below_too, t.1)

-- and a number has one encoding
pub fixed_one : (bytes_of : ℕ → List ℕ) (x y : ℕ) (a b : List ℕ) → x ≡ y → a ≡ bytes_of x → b ≡ bytes_of y → a ≡ b
fixed_one bytes_of x y a b same = array_one (bytes_of x) (bytes_of y) a b (ap bytes_of same)

-- a block has an encoding
pub block_exists : (block : List ℕ) (n : ℕ) → n ≡ length block → n < varint_limit → (bytes : List ℕ) × IsBlock block bytes
block_exists block n long below = then_exists (varint_exists (length block) (omega (arith, long, below))) (array_exists block)

-- two at the start of one input are the same
pub block_unique : (x y : List ℕ) → Determine (IsBlock x) (IsBlock y) (x ≡ y)
block_unique x y = next_unique (number_unique (length x) (length y)) (λ same. array_unique (length y) x y same refl)

-- and a block has one encoding
pub block_one : (x y a b : List ℕ) → x ≡ y → IsBlock x a → IsBlock y b → a ≡ b
block_one x y a b same =
    then_one a b (λ c d. number_one (length x) (length y) c d (ap length same)) (λ c d. array_one x y c d same)

-- and it is not empty
pub block_some : (block bytes : List ℕ) → IsBlock block bytes → 0 < length bytes
block_some block = then_some (varint_some (length block))

-- the same items are equally many
same_length : {A : Type 0} (Same : A → A → Type 0) (xs ys : List A) → AreSame Same xs ys → length xs ≡ length ys
same_length Same [] [] same = refl
same_length Same (x ∷ xs) (y ∷ ys) same = omega (arith, same_length Same xs ys same.1)
same_length Same _ _ same = absurd same

module _ {A : Type 0} {IsPart : A → List ℕ → Type 0} where
  -- items have encodings, one after another
  pub items_exist : ((x : A) → (bytes : List ℕ) × IsPart x bytes) → (xs : List A) → (bytes : List ℕ) × AreParts IsPart xs bytes
  items_exist exists [] = ([], refl)
  items_exist exists (x ∷ xs) =
      let (a, is_a) = exists x in
      let (b, are) = items_exist exists xs in
      (a ++ b, (a, b, is_a, are, refl))

  -- counted items have an encoding
  pub counted_exists : ((x : A) → (bytes : List ℕ) × IsPart x bytes) → (xs : List A) (n : ℕ) → n ≡ length xs → n < varint_limit
      → (bytes : List ℕ) × Then (IsVarint (length xs)) (AreParts IsPart xs) bytes
  counted_exists exists xs n long below = then_exists (varint_exists (length xs) (omega (arith, long, below))) (items_exist exists xs)

  module _ {Same : A → A → Type 0} (unique : (x y : A) → Determine (IsPart x) (IsPart y) (Same x y)) where
    -- equally many items at the start of one input are the same
    items_unique : (xs ys : List A) → length xs ≡ length ys → Determine (AreParts IsPart xs) (AreParts IsPart ys) (AreSame Same xs ys)
    items_unique [] [] long a b r s x y cut =
        (tt, sym (ap (λ (l : List ℕ). l ++ r) x) ∙ cut ∙ ap (λ (l : List ℕ). l ++ s) y)
    items_unique (x ∷ xs) (y ∷ ys) long a b r s (a1, a2, is_a, as_, cut_a) (b1, b2, is_b, bs, cut_b) cut =
        then_unique (unique x y) (λ _. items_unique xs ys (omega (arith, long))) a b r s
        (record { first = a1; second = a2; is_first = is_a; is_second = as_; parts = cut_a })
        (record { first = b1; second = b2; is_first = is_b; is_second = bs; parts = cut_b }) cut
    items_unique _ _ long a b r s g h cut = absurd (omega (arith, long))

    -- and so are counted ones
    pub counted_unique : (xs ys : List A) → Determine (Then (IsVarint (length xs)) (AreParts IsPart xs))
        (Then (IsVarint (length ys)) (AreParts IsPart ys)) (AreSame Same xs ys)
    counted_unique xs ys = next_unique (number_unique (length xs) (length ys)) (items_unique xs ys)

  module _ {Same : A → A → Type 0} (one : (x y : A) (a b : List ℕ) → Same x y → IsPart x a → IsPart y b → a ≡ b) where
    -- the same items have one encoding
    items_one : (xs ys : List A) (a b : List ℕ) → AreSame Same xs ys → AreParts IsPart xs a → AreParts IsPart ys b → a ≡ b
    items_one [] [] a b same x y = x ∙ sym y
    items_one (x ∷ xs) (y ∷ ys) a b same (a1, a2, is_a, as_, cut_a) (b1, b2, is_b, bs, cut_b) =
        cc (cut_a, cut_b, one x y a1 b1 same.0 is_a is_b, items_one xs ys a2 b2 same.1 as_ bs)
    items_one _ _ a b same g h = absurd same

    -- and so do counted ones
    pub counted_one : (xs ys : List A) (a b : List ℕ) → AreSame Same xs ys → Then (IsVarint (length xs)) (AreParts IsPart xs) a
        → Then (IsVarint (length ys)) (AreParts IsPart ys) b → a ≡ b
    counted_one xs ys a b same = then_one a b (λ c d. number_one (length xs) (length ys) c d (same_length Same xs ys same))
        (λ c d. items_one xs ys c d same)

-- the encoding of counted items is not empty
pub counted_some : {A : Type 0} (IsPart : A → List ℕ → Type 0) (xs : List A) (bytes : List ℕ)
    → Then (IsVarint (length xs)) (AreParts IsPart xs) bytes → 0 < length bytes
counted_some IsPart xs = then_some (varint_some (length xs))
