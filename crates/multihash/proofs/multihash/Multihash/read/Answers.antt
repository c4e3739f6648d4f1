use Rattle.multihash.proofs.OutcomeLemmas.{passed_error}
use Rattle.multihash.proofs.ReadConsumingLemmas.{stops_in_code}
use Rattle.multihash.proofs.multihash.Multihash.read.Goals as goal

pub returns-in_err-code : goal.returns-in_err-code
returns-in_err-code g c =
    let t = c.in_err-code.ensures in
    rw (passed_error c.from_residual.result _ c.from_residual.ensures.1) (stops_in_code g.row.S _ t.err t.faults t.err.consumes)

pub returns : goal.returns
returns g c =
    let code = c.in_ok-code.ensures in
    rw (code.ok.2, ← code.faults) (c.read_after.ensures code.ok.0 code.ok.1)
