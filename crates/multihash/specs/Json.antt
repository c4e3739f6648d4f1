-- The JSON encoding: the bytes of the binary encoding as an array of whole numbers.
use Rattle.std.specs.Prelude.{◌≡◌, ℕ, List, map}
use Rattle.serde_json.specs.Data.{Data, number, unsigned, array}
use Rattle.serde_json.specs.View.{items_of}
use Rattle.multihash.specs.Bytes.{IsBytes}
use Rattle.multihash.specs.Pair.{Pair}
use Rattle.multihash.specs.Encoding.{IsEncoding}

-- the array of these whole numbers
abbrev pub number_array : List ℕ → Data
number_array numbers = array (items_of (map (λ n. number (unsigned n)) numbers))

-- the value is an array of whole numbers from 0 to 255, and these are its bytes
pub record IsByteArray (value : Data) (bytes : List ℕ) : Type 0 where
  pub array : value ≡ number_array bytes
  pub are_bytes : IsBytes bytes

-- the value lists the encoding of the pair
pub record IsJsonList (p : Pair) (value : Data) : Type 0 where
  pub encoding : List ℕ
  pub encodes : IsEncoding p encoding
  pub lists : value ≡ number_array encoding
