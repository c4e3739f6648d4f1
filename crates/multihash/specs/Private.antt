-- What only contracts of private functions cite: of `word.rt`, the digits in a word; of
-- `json.rt`, the bytes that the members of a JSON array are.
use Rattle.std.specs.Prelude.{◌≡◌, ℕ, zero, suc, ◌+◌, ◌*◌, ◌/◌, ◌%◌, ◌^◌, List, [], ◌∷◌, ◌++◌, map}
use Rattle.std.specs.Prelude.{Option, Some, None, Bool, nat_lt, is_some, if◌then◌else◌}
use Rattle.multihash.specs.Bytes.{IsBytes}
use Rattle.serde_json.specs.Data.{Num, unsigned, negative, float, Data, null, boolean, number, string, array, object}
use Rattle.serde_json.specs.View.{view}
use Rattle.serde_json.specs.declared.value.Value.{Value}

-- ---- word.rt

-- the low seven bits of each of the lowest n bytes, seven bits apart
unfoldable pub digits_low : ℕ → ℕ → ℕ
digits_low zero word = 0
digits_low (suc i) word = digits_low i word + word / 2 ^ (8 * i) % 128 * 2 ^ (7 * i)

-- ---- json.rt

-- a number that is held as a whole number from 0 to 255
abbrev pub byte_of_number : Num → Option ℕ
byte_of_number (unsigned n) = if nat_lt n 256 then Some n else None
byte_of_number (negative _) = None
byte_of_number (float _) = None

-- the byte that a value is, if it is one
abbrev pub byte_of_data : Data → Option ℕ
byte_of_data null = None
byte_of_data (boolean _) = None
byte_of_data (number n) = byte_of_number n
byte_of_data (string _) = None
byte_of_data (array _) = None
byte_of_data (object _) = None

-- the byte and then the others, or nothing if there is no byte
abbrev pub byte_then : Option ℕ → List ℕ → List ℕ
byte_then None bytes = []
byte_then (Some byte) bytes = byte ∷ bytes

-- the bytes of the values up to the first that is no byte
abbrev pub leading_bytes : List Data → List ℕ
leading_bytes [] = []
leading_bytes (d ∷ ds) = byte_then (byte_of_data d) (leading_bytes ds)

-- the same of the members of an array
abbrev pub member_bytes : List Value → List ℕ
member_bytes members = leading_bytes (map view members)

-- whether a member is a byte
abbrev pub is_byte : Value → Bool
is_byte member = is_some (byte_of_data (view member))

-- the bytes follow the members, as whole numbers
pub record AppendsMembers (old : List Value) (bytes : List ℕ) (new : List Value) : Type 0 where
  pub following : map view new ≡ map view old ++ map (λ n. number (unsigned n)) bytes
  pub are_bytes : IsBytes bytes
