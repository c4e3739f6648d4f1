-- Unsigned varints: the base-128 digits of a number, lowest first, one a byte
-- (https://github.com/multiformats/unsigned-varint).
use Rattle.std.specs.Prelude.{◌≡◌, ℕ, ◌+◌, ◌<◌, ◌≤◌, ◌^◌, List, [], ◌∷◌, ◌++◌, length, map, All}
use Rattle.multihash.specs.Bytes.{place_value}

-- the number of a varint is below this one
abbrev pub varint_limit : ℕ
varint_limit = 2 ^ 63

-- the most continuation bytes of a varint
abbrev pub max_continuation : ℕ
max_continuation = 8

-- after that many continuation bytes the last byte is below this one
abbrev pub last_byte_limit : ℕ
last_byte_limit = 128

-- a continuation byte has 128 added to its digit
abbrev pub IsContinuation : ℕ → Type 0
IsContinuation byte = 128 ≤ byte

-- the digits with 128 added to each
abbrev pub continuation_bytes : List ℕ → List ℕ
continuation_bytes digits = map (λ digit. digit + 128) digits

-- the bytes are the varint of n, whose digits are those of the front and the last
pub record IsVarint (n : ℕ) (bytes : List ℕ) : Type 0 where
  pub front : List ℕ
  pub last : ℕ
  pub digits : All (λ digit. digit < 128) (front ++ last ∷ [])
  pub minimal : last ≡ 0 → front ≡ []
  pub value : place_value 128 (front ++ last ∷ []) ≡ n
  pub in_range : n < varint_limit
  pub encoded : bytes ≡ continuation_bytes front ++ last ∷ []

-- the ways in which the varint at the front of an input is malformed
pub data VarintError : Type 0 where
  insufficient overflow not_minimal : VarintError

-- the input ends within or before a varint
pub record IsInsufficient (input : List ℕ) : Type 0 where
  pub few : length input ≤ max_continuation
  pub all_continuation : All IsContinuation input

-- after the most continuation bytes comes a byte that is too large
pub record IsOverflow (input : List ℕ) : Type 0 where
  pub front : List ℕ
  pub byte : ℕ
  pub rest : List ℕ
  pub all_continuation : All IsContinuation front
  pub most : length front ≡ max_continuation
  pub too_large : last_byte_limit ≤ byte
  pub cut : input ≡ front ++ byte ∷ rest

-- a zero byte follows the continuation bytes
pub record IsNotMinimal (input : List ℕ) : Type 0 where
  pub front : List ℕ
  pub rest : List ℕ
  pub all_continuation : All IsContinuation front
  pub some : 0 < length front
  pub few : length front ≤ max_continuation
  pub cut : input ≡ front ++ 0 ∷ rest

-- the varint at the front of the input is malformed in that way
abbrev pub BeginsMalformed : VarintError → List ℕ → Type 0
BeginsMalformed insufficient input = IsInsufficient input
BeginsMalformed overflow input = IsOverflow input
BeginsMalformed not_minimal input = IsNotMinimal input

-- the varint at the front of the input is malformed
abbrev pub IsMalformed : List ℕ → Type 0
IsMalformed input = (error : VarintError) × BeginsMalformed error input
