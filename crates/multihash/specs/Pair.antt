-- What a multihash means: a code and a digest.
use Rattle.std.specs.Prelude.{ℕ, ◌<◌, ◌≤◌, min, List, length, take}
use Rattle.multihash.specs.Bytes.{IsBytes}
use Rattle.multihash.specs.Varint.{varint_limit}

-- a code and a digest
pub record Pair : Type 0 where
  pub code : ℕ
  pub digest : List ℕ

-- the code is in range, and the digest is a list of bytes
pub record IsPair (p : Pair) : Type 0 where
  pub in_range : p.code < varint_limit
  pub are_bytes : IsBytes p.digest

-- the most bytes of a digest in a buffer of this capacity
abbrev pub digest_limit : ℕ → ℕ
digest_limit S = min S 255

-- the digest fits a buffer of this capacity
abbrev pub FitsBuffer : ℕ → Pair → Type 0
FitsBuffer S p = length p.digest ≤ digest_limit S

-- the same code, and at most this many of the digest's first bytes
abbrev pub truncated : ℕ → Pair → Pair
truncated size p = record p { digest = take size p.digest }
