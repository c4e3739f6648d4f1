-- The binary encoding of a pair.
use Rattle.std.specs.Prelude.{◌≡◌, ℕ, zero, suc, ◌+◌, ◌/◌, ◌%◌, List, [], ◌∷◌, ◌++◌, length, nat_lt, if◌then◌else◌}
use Rattle.multihash.specs.Pair.{Pair}
use Rattle.multihash.specs.Varint.{max_continuation, IsVarint}

-- The bytes are the code's varint, the varint of the digest's length, and the digest.
-- The numbers of the digest are bytes only if `IsPair` says so.
pub record IsEncoding (p : Pair) (bytes : List ℕ) : Type 0 where
  pub code : List ℕ
  pub size : List ℕ
  pub is_code : IsVarint p.code code
  pub is_size : IsVarint (length p.digest) size
  pub encoded : bytes ≡ code ++ (size ++ p.digest)

-- The base-128 digits of a number, lowest first, each but the last with 128 added.
-- At most `most` bytes come before the last.
abbrev pub varint_within : ℕ → ℕ → List ℕ
varint_within zero n = n ∷ []
varint_within (suc most) n = if nat_lt n 128 then n ∷ [] else (n % 128 + 128) ∷ varint_within most (n / 128)

-- the varint of a number in range
unfoldable pub varint_of : ℕ → List ℕ
varint_of n = varint_within max_continuation n

-- the encoding of a pair in range
unfoldable pub encoding_of : Pair → List ℕ
encoding_of p = varint_of p.code ++ (varint_of (length p.digest) ++ p.digest)
