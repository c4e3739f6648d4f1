-- An error in the code, or the end of the input in its place, ends the call as it ends `read` (`stops_in_code`).
use Rattle.multihash.proofs.Common.{inr, refl, insufficient, passed_error}
use Rattle.multihash.proofs.ReadConsumingLemmas.{stops_in_code}
use Rattle.multihash.proofs.multihash.Multihash.read_next.Goals as goal

pub returns-in_err-code-clause-read : goal.returns-in_err-code-clause-read
returns-in_err-code-clause-read g c =
    let t = c.in_err-code.ensures in
    let old = g.R.Read.rest c.args.r.now in
    let new = g.R.Read.rest c.read_next.new.r in
    rw (passed_error c.from_residual.result _ c.from_residual.ensures.1) (stops_in_code g.row.S _ t.err t.faults t.err.consumes)

pub returns-in-None-clause-read : goal.returns-in-None-clause-read
returns-in-None-clause-read g c =
    let t = rw c.in-None.is at c.in_ok-code.ensures in
    stops_in_code g.row.S _ t.err (inr (t.faults, (insufficient, refl))) t.err.consumes
