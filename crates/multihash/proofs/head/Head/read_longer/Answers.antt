-- The second varint starts where the first ends, so two varints are the head (`head_of`), and an error in the second is one after
-- a code.
use Rattle.multihash.proofs.Common.{inr, drop, take_rest, passed_error}
use Rattle.multihash.proofs.ReadingLemmas.{Consumes-cut}
use Rattle.multihash.proofs.VerdictLemmas.{coded, head_of}
use Rattle.multihash.proofs.head.Head.read_longer.Goals as goal

pub returns-in_err-digest_len-clause-err : goal.returns-in_err-digest_len-clause-err
returns-in_err-digest_len-clause-err c =
    let bytes = c.args.bytes.now in
    let k = c.in_ok-code.code_len in
    let (code, is_code, consumes) = c.in_ok-code.ensures.ok in
    let begins = coded _ code bytes (drop k bytes) is_code (Consumes-cut bytes code (drop k bytes) consumes) in
    let (error, named, malformed) = c.in_err-digest_len.ensures.err in
    rw (passed_error c.from_residual-in_err-digest_len.result _ c.from_residual-in_err-digest_len.ensures.1)
    (error, named, λ S. inr (drop k bytes, begins, rw (take_rest bytes k) at malformed))

pub returns-clause-ok : goal.returns-clause-ok
returns-clause-ok c =
    let code = c.in_ok-code.ensures in
    let size = c.in_ok-digest_len.ensures in
    head_of _ _ c.args.bytes.now (take_rest c.args.bytes.now _) code.within size.within code.ok size.ok
