-- The SCALE encoding: the code as eight bytes, the digest's length as one byte, and the digest. What
-- decoding it consumed from a reader, and its errors.
use Rattle.std.specs.Prelude.{◌≡◌, ℕ, ◌<◌, ◌≤◌, ◌⊎◌, List, ◌∷◌, ◌++◌, length, Option}
use Rattle.multihash.specs.Bytes.{IsBytes, place_value}
use Rattle.multihash.specs.Pair.{Pair}
use Rattle.multihash.specs.Varint.{varint_limit}
use Rattle.multihash.specs.Verdict.{Verdict, accepted, invalid_size, invalid_code, malformed, unexpected_eof}
use Rattle.multihash.specs.Reading.{Consumes}
use Rattle.multihash.specs.Refusal.{Refusal, IsEof, IsReaderError, IsInvalidSize, IsInvalidCode}

-- the bytes are the eight bytes of the code, lowest first
pub record IsScaleCode (code : ℕ) (bytes : List ℕ) : Type 0 where
  pub eight : length bytes ≡ 8
  pub are_bytes : IsBytes bytes
  pub value : place_value 256 bytes ≡ code

-- the bytes are the SCALE encoding of the pair
pub record IsScale (p : Pair) (bytes : List ℕ) : Type 0 where
  pub code : List ℕ
  pub is_code : IsScaleCode p.code code
  pub in_range : p.code < varint_limit
  pub size : length p.digest < 256
  pub encoded : bytes ≡ code ++ length p.digest ∷ p.digest

-- the input is the eight bytes of a code in range, the size, and the rest
pub record HasScaleSize (size : ℕ) (input rest : List ℕ) : Type 0 where
  pub code : ℕ
  pub code_bytes : List ℕ
  pub is_code : IsScaleCode code code_bytes
  pub in_range : code < varint_limit
  pub cut : input ≡ code_bytes ++ size ∷ rest

-- The verdict of decoding SCALE on the front of the input.
-- No varint is read. The capacity is `S`, not `digest_limit S`, since the size is one byte, so at
-- most 255.
abbrev pub HasScaleVerdict : ℕ → List ℕ → Verdict → Type 0
HasScaleVerdict S input (accepted p) =
    (bytes : List ℕ) × (rest : List ℕ) × IsScale p bytes × (length p.digest ≤ S)
    × (input ≡ bytes ++ rest)
HasScaleVerdict S input (invalid_code code) =
    (bytes : List ℕ) × (rest : List ℕ) × IsScaleCode code bytes × (varint_limit ≤ code)
    × (input ≡ bytes ++ rest)
HasScaleVerdict S input (invalid_size size) =
    (rest : List ℕ) × HasScaleSize size input rest × (S < size)
HasScaleVerdict S input (malformed error) = ⊥
HasScaleVerdict S input unexpected_eof =
    (length input < 8)
    ⊎ ((code : ℕ) × IsScaleCode code input × (code < varint_limit))
    ⊎ ((size : ℕ) × (rest : List ℕ) × HasScaleSize size input rest × (size ≤ S)
    × (length rest < size))

-- an error of decoding: a code or a size that is too large, or truncated input
abbrev pub ScaleMayFailWith : ℕ → Refusal → Type 0
ScaleMayFailWith S e = ((code : ℕ) × IsInvalidCode code e × (varint_limit ≤ code))
    ⊎ ((size : ℕ) × IsInvalidSize size e × (S < size)) ⊎ IsEof e

-- What decoding SCALE consumed when it failed.
-- Eight bytes if the code is too large, nine if the size is; otherwise, also after a failure of the
-- reader, bytes that by themselves are truncated.
pub record ConsumesAtScaleError (S : ℕ) (e : Refusal) (old new : Option (List ℕ)) : Type 0 where
  pub consumed : List ℕ
  pub consumes : Consumes old consumed new
  pub code : (code : ℕ) → IsInvalidCode code e →
      HasScaleVerdict S consumed (invalid_code code) × (length consumed ≡ 8)
  pub size : (size : ℕ) → IsInvalidSize size e →
      HasScaleVerdict S consumed (invalid_size size) × (length consumed ≡ 9)
  pub truncated : (IsEof e ⊎ IsReaderError e) → HasScaleVerdict S consumed unexpected_eof
