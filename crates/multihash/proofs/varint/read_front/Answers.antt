-- An input has one number at its front (`number_unique`), so a varint that is there was found, and excludes an error.
use Rattle.multihash.proofs.Common.{◌∙◌, take_rest}
use Rattle.multihash.proofs.ReadingLemmas.{Consumes-cut}
use Rattle.multihash.proofs.VarintLemmas.{number_unique, number_no_error}
use Rattle.multihash.proofs.varint.read_front.Goals as goal

pub returns-clause-found : goal.returns-clause-found
returns-clause-found c n varint rest is cut =
    let (bytes, is_found, consumes) = c.in_ok-n.ensures.ok in
    let same = number_unique c.args.bytes.now c.in_ok-n.n n _ rest (bytes, is_found, Consumes-cut _ bytes _ consumes) (varint, is, cut) in
    (same.0, take_rest c.args.bytes.now c.in_ok-n.len ∙ same.1)

pub returns-in_err-n-clause-found : goal.returns-in_err-n-clause-found
returns-in_err-n-clause-found c n varint rest is cut =
    let (error, named, malformed) = c.in_err-n.ensures.err in
    absurd (number_no_error c.args.bytes.now n rest error (varint, is, cut) malformed)
