-- `read_exact` fills the first N of 8 bytes, whose number has no other bytes (`filled`); or it shows that fewer than N were left. No
-- value has size 0 or more than 8.
use Rattle.form.proofs.Common.{◌≡◌, ◌≤◌, length, inr, refl, sym, ap, ◌∙◌, arith, rules, take}
use Rattle.std.proofs.lemmas.List.{length-take-le}
use Rattle.multihash.proofs.OutcomeLemmas.{passed_error}
use Rattle.form.specs.Lemmas.Parts.{fixed_length}
use Rattle.form.proofs.FixedLemmas.{zeros, filled}
use Rattle.form.proofs.FormLemmas.{sized_stops, no_value_stops}
use Rattle.form.proofs.fixed.FixedForm.read.Goals as goal

pub returns-then-this-eq0-clause-err : goal.returns-then-this-eq0-clause-err
returns-then-this-eq0-clause-err g c =
    no_value_stops (λ x bytes is. omega (arith, x.some, x.fits, c.then-this-eq0.either))
    (_, c.into.ensures, inr (c.unexpected_eof.result, refl, c.unexpected_eof.ensures))

pub returns-in_err-read_exact-clause-err : goal.returns-in_err-read_exact-clause-err
returns-in_err-read_exact-clause-err g c =
    let met = c.in_err-read_exact.ensures.laws in
    let long : length (take g.row.N zeros) ≡ g.row.N = length-take-le g.row.N zeros (omega (arith, c.if-this-gt8.false)) in
    rw (passed_error c.from_residual.result _ c.from_residual.ensures.1)
    (sized_stops (λ x bytes is. ap length is ∙ fixed_length g.row.BIG g.row.N x.value ∙ sym long) met.faults met.eof met.err)

pub invariant_of-result : goal.invariant_of-result
invariant_of-result g c =
    let fits : g.row.N ≤ 8 = omega (arith, c.if-this-gt8.false) in
    let read = filled g.row.BIG g.row.N c.number_of.result c.read_exact.new.buf c.order.new.bytes fits (search rules) (search rules)
    c.order.ensures c.number_of.ensures in
    record { some = omega (arith, c.if-this-eq0.false); fits = fits; in_range = read.1 }

pub returns-clause-ok : goal.returns-clause-ok
returns-clause-ok g c =
    let fits : g.row.N ≤ 8 = omega (arith, c.if-this-gt8.false) in
    let read = filled g.row.BIG g.row.N c.number_of.result c.read_exact.new.buf c.order.new.bytes fits (search rules) (search rules)
    c.order.ensures c.number_of.ensures in
    (_, read.0, c.in_ok-read_exact.ensures.laws.consumes)
