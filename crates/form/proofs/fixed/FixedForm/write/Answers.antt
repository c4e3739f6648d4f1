-- The first N of the 8 bytes of a number are its lowest N, and were put in order.
use Rattle.multihash.proofs.OutcomeLemmas.{OnErr-always}
use Rattle.form.proofs.FixedLemmas.{written}
use Rattle.form.proofs.fixed.FixedForm.write.Goals as goal

pub returns-in_err-write_all-clause-err : goal.returns-in_err-write_all-clause-err
returns-in_err-write_all-clause-err g c =
    let x = c.args.self.now in
    let is = written g.row.BIG g.row.N x.value c.to_le_bytes-bytes.result c.order.new.bytes x.fits c.to_le_bytes-bytes.ensures c.order.ensures in
    OnErr-always c.from_residual.result (_, is, c.in_err-write_all.ensures.laws.err)

pub returns-clause-ok : goal.returns-clause-ok
returns-clause-ok g c =
    let x = c.args.self.now in
    let is = written g.row.BIG g.row.N x.value c.to_le_bytes-bytes.result c.order.new.bytes x.fits c.to_le_bytes-bytes.ensures c.order.ensures in
    (_, is, c.in_ok-write_all.ensures.laws.ok)
