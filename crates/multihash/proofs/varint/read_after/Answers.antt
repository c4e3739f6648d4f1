-- The loop keeps that the bytes read so far are continuation bytes with the sum as their value; each way out is what one more
-- byte, or none, makes of these (`VarintReadLemmas`).
use Rattle.multihash.proofs.VarintReadLemmas.{read_overflow, ends_in_zero, read_last}
use Rattle.multihash.proofs.VarintReadLemmas.{first_of_two}
use Rattle.multihash.proofs.varint.read_after.Goals as goal

pub returns-then-byte-ge-LAST_BYTE_LIMIT-clause-err : goal.returns-then-byte-ge-LAST_BYTE_LIMIT-clause-err
returns-then-byte-ge-LAST_BYTE_LIMIT-clause-err g c =
    read_overflow c.loop-i.invariant.reads _ c.in-Some.byte (rw c.in-Some.is at c.in_ok-byte.ensures.byte)
    c.if-i-eq-MAX_CONTINUATION.true c.if-byte-ge-LAST_BYTE_LIMIT.true c.overflow.ensures

pub returns-then-byte-eq0-clause-err : goal.returns-then-byte-eq0-clause-err
returns-then-byte-eq0-clause-err g c =
    ends_in_zero c.loop-i.invariant.reads _ c.in-Some.byte (rw c.in-Some.is at c.in_ok-byte.ensures.byte) c.if-byte-eq0.true
    c.loop-i.invariant.some c.not_minimal.ensures

pub returns-then-byte-lt128-clause-ok : goal.returns-then-byte-lt128-clause-ok
returns-then-byte-lt128-clause-ok g c =
    rw c.from.ensures
    (read_last c.loop-i.invariant.reads _ c.in-Some.byte (rw c.in-Some.is at c.in_ok-byte.ensures.byte)
    (first_of_two c.else-i-eq-MAX_CONTINUATION.either) c.if-byte-lt128.true (λ z. absurd (c.if-byte-eq0.false z)))
