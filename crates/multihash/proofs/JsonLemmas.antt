-- The JSON form: a list has one pair; the bytes that an array's members are.
use Rattle.multihash.proofs.Common.{◌≡◌, ℕ, ◌<◌, List, [], ◌∷◌, ◌++◌, map, refl, sym, ap, ◌∙◌, Some, arith, zero, suc, true, false, length, take, drop, set, is_some, Option, None, IsBytes, Pair, IsEncoding, list_all, false≢true, and_parts, lt-ltb, All-nil, All-cons, All-head, All-tail, byte_of_data, member_bytes, is_byte}
use Rattle.serde_json.specs.Data.{Data, number, unsigned, Items}
use Rattle.serde_json.specs.View.{items_of, view, items_view}
use Rattle.multihash.specs.Json.{number_array, IsByteArray, IsJsonList}
use Rattle.multihash.proofs.EncodingLemmas.{encoding_unique, encoding_bytes}
use Rattle.serde_json.specs.Find.{as_array}
use Rattle.serde_json.specs.declared.value.Value.{Value}

abbrev pub numbers : List ℕ → Items
numbers ns = items_of (map (λ n. number (unsigned n)) ns)

numbers_unique : (a b : List ℕ) → numbers a ≡ numbers b → a ≡ b
numbers_unique [] [] e = refl
numbers_unique [] (y ∷ b) e = cc
numbers_unique (x ∷ a) [] e = cc
numbers_unique (x ∷ a) (y ∷ b) e = let heads : x ≡ y = cc in cc (heads, numbers_unique a b (cc e))

pub array_unique : (a b : List ℕ) → number_array a ≡ number_array b → a ≡ b
array_unique a b e = numbers_unique a b (cc e)

pub json_same : (p q : Pair) (d : Data) → IsJsonList p d → IsJsonList q d → p ≡ q
json_same p q d h k =
    (encoding_unique p q h.encoding k.encoding [] [] h.encodes k.encodes
    (ap (λ (z : List ℕ). z ++ []) (array_unique h.encoding k.encoding (sym h.lists ∙ k.lists)))).0

-- the bytes of the list are the encoding
pub json_bytes : (p : Pair) (d : Data) (bytes : List ℕ) → IsJsonList p d → IsByteArray d bytes → IsEncoding p bytes
json_bytes p d bytes h k = grind (arith, array_unique)

pub json_is_array : (p : Pair) (d : Data) → IsBytes p.digest → IsJsonList p d → (bytes : List ℕ) × IsByteArray d bytes
json_is_array p d digest h =
    (h.encoding, record { array = h.lists; are_bytes = encoding_bytes p h.encoding digest h.encodes })

-- what is there, is a value
pub some_value : (o : Option ℕ) → is_some o ≡ true → (b : ℕ) × (o ≡ Some b)
some_value None e = absurd (false≢true e)
some_value (Some b) e = (b, refl)

byte_first : (v : Value) (vs : List Value) → list_all is_byte (v ∷ vs) ≡ true → ((b : ℕ) × (byte_of_data (view v) ≡ Some b))
    × (list_all is_byte vs ≡ true)
byte_first v vs e = let parts = and_parts (is_byte v) (list_all is_byte vs) e in (some_value (byte_of_data (view v)) parts.0, parts.1)

-- a byte is held as its number
byte_data : (d : Data) (b : ℕ) → byte_of_data d ≡ Some b → (d ≡ number (unsigned b)) × (b < 256)
byte_data d b e = grind arith

byte_found : (b : ℕ) → b < 256 → byte_of_data (number (unsigned b)) ≡ Some b
byte_found b small = rw (lt-ltb b 256 small) refl

-- members that are all bytes are those of their array
pub all_bytes : (vs : List Value) → list_all is_byte vs ≡ true → (items_view vs ≡ numbers (member_bytes vs)) × IsBytes (member_bytes vs)
all_bytes [] e = (refl, All-nil (λ b. b < 256))
all_bytes (v ∷ vs) e =
    let (found, others) = byte_first v vs e in
    let held = byte_data (view v) found.0 found.1 in
    let rest = all_bytes vs others in
    rw found.1 (cc (held.0, rest.0), All-cons (λ b. b < 256) found.0 (member_bytes vs) held.1 rest.1)

-- the members of a byte array are all bytes
bytes_all : (vs : List Value) (bytes : List ℕ) → items_view vs ≡ numbers bytes → IsBytes bytes → list_all is_byte vs ≡ true
bytes_all [] bytes e h = refl
bytes_all (v ∷ vs) [] e h = cc
bytes_all (v ∷ vs) (b ∷ bytes) e h =
    let heads : view v ≡ number (unsigned b) = cc in
    let found : byte_of_data (view v) ≡ Some b = ap byte_of_data heads ∙ byte_found b (All-head (λ x. x < 256) b bytes h) in
    rw found (bytes_all vs bytes (cc e) (All-tail (λ x. x < 256) b bytes h))

pub byte_array : (d : Data) (vs : List Value) → as_array d ≡ Some (items_view vs) → list_all is_byte vs ≡ true
    → IsByteArray d (member_bytes vs)
byte_array d vs e all = grind (arith, all_bytes)

pub no_byte_array : (d : Data) (vs : List Value) (bytes : List ℕ) → as_array d ≡ Some (items_view vs) → list_all is_byte vs ≡ false
    → ¬ (IsByteArray d bytes)
no_byte_array d vs bytes e some h = grind (arith, bytes_all)

-- the byte of the first member, and those of the others
pub first_byte : (v : Value) (vs : List Value) (b : ℕ) → byte_of_data (view v) ≡ Some b → member_bytes (v ∷ vs) ≡ b ∷ member_bytes vs
first_byte v vs b found = rw found refl

pub take_first : (buf : List ℕ) (b : ℕ) → 0 < length buf → take 1 (set buf 0 b) ≡ b ∷ []
take_first [] b some = absurd (omega arith)
take_first (x ∷ buf) b some = refl

-- as many bytes as members
pub length-member_bytes : (vs : List Value) → list_all is_byte vs ≡ true → length (member_bytes vs) ≡ length vs
length-member_bytes [] e = refl
length-member_bytes (v ∷ vs) e =
    let (found, others) = byte_first v vs e in
    rw found.1 (ap suc (length-member_bytes vs others))

-- the bytes of the first members, and of the others
pub bytes_split : (n : ℕ) (vs : List Value) → list_all is_byte vs ≡ true
    → member_bytes vs ≡ member_bytes (take n vs) ++ member_bytes (drop n vs)
bytes_split zero vs e = refl
bytes_split (suc n) [] e = refl
bytes_split (suc n) (v ∷ vs) e =
    let (found, others) = byte_first v vs e in
    rw found.1 (ap (λ l. found.0 ∷ l) (bytes_split n vs others))

-- a read of the first member, for the tactics
pub ruleset first_member = (first_byte, take_first)
