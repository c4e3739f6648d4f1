-- Before the first byte nothing has been read (`none_read`), so a failure or the end of the input there is one of a varint of no
-- bytes; a first byte below 128 is the varint.
use Rattle.multihash.proofs.Common.{arith, refl, passed_error}
use Rattle.multihash.proofs.VarintReadLemmas.{none_read, reader_failed, input_ended}
use Rattle.multihash.proofs.VarintWriteLemmas.{one_byte}
use Rattle.multihash.proofs.varint.read_next.Goals as goal

pub returns-in_err-first-clause-err : goal.returns-in_err-first-clause-err
returns-in_err-first-clause-err g c =
    rw (passed_error c.from_residual.result _ c.from_residual.ensures.1)
    (rw c.in_err-first.ensures.err (reader_failed (none_read _) c.in_err-first.field-0.0 refl))

pub returns-in-None-clause-err : goal.returns-in-None-clause-err
returns-in-None-clause-err g c =
    let ended = rw c.in-None.is at c.in_ok-first.ensures.byte in
    rw ended.1 (input_ended (none_read _) ended.0 refl)

pub returns-then-first-lt128-clause-ok : goal.returns-then-first-lt128-clause-ok
returns-then-first-lt128-clause-ok g c = grind (arith, one_byte)
