-- The first `len` bytes encode the digits written so far.
use Rattle.std.proofs.Common.{◌≡◌, length, take}
use Rattle.multihash.proofs.VarintWriteLemmas.{Wrote}
use Rattle.multihash.proofs.varint.encode.Given as goal

abbrev pub invariant-loop-len : goal.invariant-loop-len
invariant-loop-len l = record { wrote : Wrote (take l.len l.buffer) l.len l.n l.rest; buffer : length l.buffer ≡ 9 }
