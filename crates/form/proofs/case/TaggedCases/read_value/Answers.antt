use Rattle.form.proofs.Common.{◌≡◌, arith, RejectsNoCase}
use Rattle.multihash.proofs.OutcomeLemmas.{passed_error}
use Rattle.form.proofs.StopLemmas.{own_stops}
use Rattle.form.proofs.case.TaggedCases.read_value.Goals as goal

pub returns-in_err-value-clause-err : goal.returns-in_err-value-clause-err
returns-in_err-value-clause-err g c =
    let is : c.args.tag.value ≡ g.row.M = omega (arith, c.if-tag.false) in
    rw (passed_error c.from_residual.result _ c.from_residual.ensures.1)
    (own_stops {IsA = g.A.Form.is_form} RejectsNoCase (λ x bytes is_form. (x.value, is_form.1)) is c.in_err-value.ensures.err)
