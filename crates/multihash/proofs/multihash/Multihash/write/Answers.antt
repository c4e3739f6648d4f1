-- The encoding is the two varints and the digest, so three calls that succeed append it, and one that fails has appended a
-- strict prefix of it.
use Rattle.multihash.proofs.Common.{length, refl, ◌∙◌, arith, IsEncoding, pair_of, passed_error}
use Rattle.multihash.proofs.EncodingLemmas.{encoding_of_parts, length-parts}
use Rattle.multihash.proofs.VarintWriteLemmas.{varint_exists}
use Rattle.multihash.proofs.WritingLemmas.{appends_both, stops_in_first, stops_in_second, stops_in_third}
use Rattle.multihash.proofs.multihash.Multihash.write.Goals as goal

pub returns-in_err-code-clause-err : goal.returns-in_err-code-clause-err
returns-in_err-code-clause-err g c =
    let a = c.in_err-code.ensures.err in
    let b = varint_exists (length (pair_of c.args.self.now).digest) (omega (arith, c.digest-digest.ensures.fits)) in
    let form = encoding_of_parts (pair_of c.args.self.now) a.0 b.0 c.code.ensures.code refl c.digest-digest.ensures.digest a.1 b.1 in
    stops_in_first g.W.Write.appended g.met.W.Write.appends_concatenated (IsEncoding (pair_of c.args.self.now)) a.0 b.0
    c.digest-digest.result.now form _ a.2

pub returns-in_err-size-clause-err : goal.returns-in_err-size-clause-err
returns-in_err-size-clause-err g c =
    let a = c.in_ok-code.ensures.ok in
    let b = c.in_err-size.ensures.err in
    let form = encoding_of_parts (pair_of c.args.self.now) a.0 b.0 c.code.ensures.code
    (c.from.ensures ∙ c.size.ensures.size) c.digest-digest.ensures.digest a.1 b.1 in
    stops_in_second g.W.Write.appended g.met.W.Write.appends_concatenated (IsEncoding (pair_of c.args.self.now)) a.0 b.0
    c.digest-digest.result.now form _ a.3 b.2

pub returns-in_err-size-clause-faults : goal.returns-in_err-size-clause-faults
returns-in_err-size-clause-faults g c =
    rw (passed_error c.from_residual-in_err-size.result _ c.from_residual-in_err-size.ensures.1)
    (_, refl, rw c.in_ok-code.ensures.faults at c.in_err-size.ensures.faults)

pub returns-in_err-write_all-clause-err : goal.returns-in_err-write_all-clause-err
returns-in_err-write_all-clause-err g c =
    let a = c.in_ok-code.ensures.ok in
    let b = c.in_ok-size.ensures.ok in
    let form = encoding_of_parts (pair_of c.args.self.now) a.0 b.0 c.code.ensures.code
    (c.from.ensures ∙ c.size.ensures.size) c.digest-digest.ensures.digest a.1 b.1 in
    stops_in_third g.W.Write.appended g.met.W.Write.appends_concatenated (IsEncoding (pair_of c.args.self.now)) a.0 b.0
    c.digest-digest.result.now form _ a.3 b.3 c.in_err-write_all.ensures.laws.err

pub returns-clause-ok : goal.returns-clause-ok
returns-clause-ok g c =
    let a = c.in_ok-code.ensures.ok in
    let b = c.in_ok-size.ensures.ok in
    let form = encoding_of_parts (pair_of c.args.self.now) a.0 b.0 c.code.ensures.code
    (c.from.ensures ∙ c.size.ensures.size) c.digest-digest.ensures.digest a.1 b.1 in (
      _,
      form,
      omega (arith, a.2, b.2, length-parts a.0 b.0 c.digest-digest.result.now),
      appends_both g.W.Write.appended g.met.W.Write.appends_concatenated a.3
          (appends_both g.W.Write.appended g.met.W.Write.appends_concatenated b.3 c.in_ok-write_all.ensures.laws.ok),
    )
