-- The result of reading an input, for a capacity S, and the two varints at its front.
use Rattle.std.specs.Prelude.{◌≡◌, ℕ, ◌<◌, ◌≤◌, ◌⊎◌, ⊤, List, ◌++◌, length, drop}
use Rattle.multihash.specs.Pair.{Pair, FitsBuffer, digest_limit}
use Rattle.multihash.specs.Varint.{IsVarint, VarintError, insufficient, overflow, not_minimal, BeginsMalformed}
use Rattle.multihash.specs.Encoding.{IsEncoding}

-- a pair, or an error
pub data Verdict : Type 0 where
  accepted : Pair → Verdict
  invalid_size : ℕ → Verdict
  invalid_code : ℕ → Verdict
  malformed : VarintError → Verdict
  unexpected_eof : Verdict

-- an encoding of the pair is at the front of the input, and the rest follows
pub record BeginsWith (p : Pair) (input rest : List ℕ) : Type 0 where
  pub encoding : List ℕ
  pub encodes : IsEncoding p encoding
  pub cut : input ≡ encoding ++ rest

-- some code's varint and the size's are at the front of the input, and the rest follows
pub record BeginsWithSize (size : ℕ) (input rest : List ℕ) : Type 0 where
  pub code : ℕ
  pub code_bytes : List ℕ
  pub size_bytes : List ℕ
  pub is_code : IsVarint code code_bytes
  pub is_size : IsVarint size size_bytes
  pub cut : input ≡ code_bytes ++ (size_bytes ++ rest)

-- some code's varint is at the front of the input, and the rest follows
pub record BeginsWithCode (input rest : List ℕ) : Type 0 where
  pub code : ℕ
  pub code_bytes : List ℕ
  pub is_code : IsVarint code code_bytes
  pub cut : input ≡ code_bytes ++ rest

-- the varint of a code and the varint of a size are at the front of the input, and have that many bytes
pub record HasHead (code size len : ℕ) (input : List ℕ) : Type 0 where
  pub within : len ≤ length input
  pub varints : BeginsWithSize size input (drop len input)
  pub is_code : varints.code ≡ code

-- the verdict on the front of the input; no code is invalid, as the number of a varint is in range
abbrev pub HasVerdict : ℕ → List ℕ → Verdict → Type 0
HasVerdict S input (accepted p) = (rest : List ℕ) × BeginsWith p input rest × FitsBuffer S p
HasVerdict S input (invalid_size size) =
    (rest : List ℕ) × BeginsWithSize size input rest × (digest_limit S < size)
HasVerdict S input (invalid_code code) = ⊥
HasVerdict S input (malformed error) =
    BeginsMalformed error input ⊎ ((rest : List ℕ) × BeginsWithCode input rest × BeginsMalformed error rest)
HasVerdict S input unexpected_eof =
    (size : ℕ) × (rest : List ℕ) × BeginsWithSize size input rest × (size ≤ digest_limit S)
    × (length rest < size)

-- more input can change the verdict
abbrev pub IsIncomplete : Verdict → Type 0
IsIncomplete (accepted p) = ⊥
IsIncomplete (invalid_size size) = ⊥
IsIncomplete (invalid_code code) = ⊥
IsIncomplete (malformed insufficient) = ⊤
IsIncomplete (malformed overflow) = ⊥
IsIncomplete (malformed not_minimal) = ⊥
IsIncomplete unexpected_eof = ⊤

-- an encoding of a pair that fits is at the front of the input, and that many bytes trail it
abbrev pub HasTrailing : ℕ → List ℕ → ℕ → Type 0
HasTrailing S input left =
    (p : Pair) × (rest : List ℕ) × BeginsWith p input rest × FitsBuffer S p
    × (length rest ≡ left) × (0 < left)

-- the verdict on the input as a whole
abbrev pub HasWholeVerdict : ℕ → List ℕ → Verdict → Type 0
HasWholeVerdict S input (accepted p) = IsEncoding p input × FitsBuffer S p
HasWholeVerdict S input (invalid_size size) =
    HasVerdict S input (invalid_size size) ⊎ HasTrailing S input size
HasWholeVerdict S input (invalid_code code) = HasVerdict S input (invalid_code code)
HasWholeVerdict S input (malformed error) = HasVerdict S input (malformed error)
HasWholeVerdict S input unexpected_eof = HasVerdict S input unexpected_eof
