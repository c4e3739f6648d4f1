-- Equality and order of pairs, as they are computed, and what hashing feeds.
use Rattle.std.specs.Prelude.{◌==◌, ◌++◌, ℕ, Bool, List, length}
use Rattle.std.specs.Cmp.Lexicographic.{pointwise, slice_cmp}
use Rattle.std.specs.declared.cmp.Ordering.{Ordering}
use Rattle.std.specs.Ordering.{nat_cmp, on, eq_of_both, then_cmp}
use Rattle.std.specs.Hash as fed
use Rattle.multihash.specs.Pair.{Pair}

-- the codes, the digests' lengths and the digests are equal
abbrev pub equal_pairs : Pair → Pair → Bool
equal_pairs =
    eq_of_both (on (λ p. p.code) ◌==◌)
    (eq_of_both (on (λ p. length p.digest) ◌==◌) (on (λ p. p.digest) (pointwise ◌==◌)))

-- by the code, then by the digest's length, then by the first byte that differs
abbrev pub compare_pairs : Pair → Pair → Ordering
compare_pairs =
    then_cmp (on (λ p. p.code) nat_cmp)
    (then_cmp (on (λ p. length p.digest) nat_cmp) (on (λ p. p.digest) (slice_cmp nat_cmp)))

-- the code, then the digest as a slice of bytes
abbrev pub hashed_pair : Pair → List (List ℕ)
hashed_pair p = fed.u64 p.code ++ fed.slice fed.u8 p.digest
