-- The loop keeps that the bytes so far were consumed; what a failure at the next chunk shows, the whole shows (`exact_after`).
use Rattle.form.proofs.Common.{inr, refl, rules, of_io}
use Rattle.multihash.proofs.CallingLemmas.{exact_fails, exact_after}
use Rattle.multihash.proofs.OutcomeLemmas.{passed_error}
use Rattle.form.specs.declared.error.FormError.TheVariants.{Failed}
use Rattle.form.proofs.block.read_bytes.Goals as goal

pub returns-in_err-read_exact-clause-err : goal.returns-in_err-read_exact-clause-err
returns-in_err-read_exact-clause-err g c =
    let so_far = c.loop-chunk.invariant in
    let met = c.in_err-read_exact.ensures.laws in
    let e = c.in_err-read_exact.field-0.0 in
    let start = g.R.Read.failures c.args.r.now in
    let middle = g.R.Read.failures c.loop-chunk.r in
    let after = g.R.Read.failures c.read_exact.new.self in
    let old = g.R.Read.rest c.args.r.now in
    let mid = g.R.Read.rest c.loop-chunk.r in
    let new = g.R.Read.rest c.read_exact.new.self in
    let fails = exact_fails _ start middle after mid new e so_far.unfailed met.faults met.eof met.err in
    rw (passed_error c.from_residual-in_err-read_exact.result (Failed (of_io e)) c.from_residual-in_err-read_exact.ensures.1)
    (inr (
      of_io e,
      refl,
      exact_after c.args.len _ start after c.loop-chunk.bytes.items old mid new (of_io e) so_far.consumes
          (search rules) fails,
    ))
