-- What the fields of a multihash mean.
use Rattle.std.specs.Prelude.{ℕ, ◌<◌, ◌≤◌, List, take}
use Rattle.multihash.specs.Varint.{varint_limit}
use Rattle.multihash.specs.Pair.{Pair, digest_limit}

-- The code, the digest's size, and the buffer of S bytes, which starts with the digest.
-- That the code is in range and the digest fits is part of the value, so it is known of a value that
-- nothing has read yet.
pub record Fields (S : ℕ) : Type 0 where
  pub code : ℕ
  pub size : ℕ
  pub buffer : List ℕ
  pub in_range : code < varint_limit
  pub fits : size ≤ digest_limit S

-- the pair that a multihash means
abbrev pub pair_of : {S : ℕ} → Fields S → Pair
pair_of m = record { code = m.code; digest = take m.size m.buffer }
