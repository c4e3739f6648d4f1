-- The tag decides what is read, the value of this case or one of the others, and `StopLemmas` has what an error of either shows.
use Rattle.form.proofs.Common.{◌≡◌, ℕ, List, sym, ◌∙◌, arith, IsCase}
use Rattle.multihash.proofs.OutcomeLemmas.{passed_error}
use Rattle.form.specs.Case.{case_tag, IsCaseValue}
use Rattle.form.specs.declared.case.Case.{Case}
use Rattle.form.specs.declared.case.Case.TheVariants.{This, Other}
use Rattle.form.specs.declared.case.Others.{Others}
use Rattle.form.proofs.StopLemmas.{own_stops, other_stops}
use Rattle.form.proofs.case.CaseCases.read_value.Goals as goal

module _ {A C : Type 0} {M : ℕ} {bound : _} (n : ℕ) (tag_of : C → ℕ) (IsA : A → List ℕ → Type 0)
    (IsC : C → List ℕ → Type 0) (differs : (y : Others C M bound) → ¬ (tag_of y.case ≡ M)) where
  own_form : n ≡ M → (x : Case A M C bound) (bytes : List ℕ) → IsCase (case_tag tag_of) (IsCaseValue IsA IsC) n x bytes
      → (y : A) × IsA y bytes
  own_form is (This x) bytes (_, form) = (x.value, form)
  own_form is (Other y) bytes (tag, form) = absurd (differs y (tag ∙ is))

  other_form : ¬ (n ≡ M) → (x : Case A M C bound) (bytes : List ℕ) → IsCase (case_tag tag_of) (IsCaseValue IsA IsC) n x bytes
      → (y : C) × IsCase tag_of IsC n y bytes
  other_form not (This x) bytes (tag, form) = absurd (not (sym tag))
  other_form not (Other y) bytes (tag, form) = (y.case, (tag, form))

pub returns-in_err-value-clause-err : goal.returns-in_err-value-clause-err
returns-in_err-value-clause-err g c =
    let is : c.args.tag.value ≡ g.row.M = omega (arith, c.if-tag.true) in
    rw (passed_error c.from_residual.result _ c.from_residual.ensures.1)
    (own_stops g.C.Cases.rejects (own_form c.args.tag.value g.C.Cases.tag_of g.A.Form.is_form g.C.Cases.is_value (λ y. y.other) is)
    is c.in_err-value.ensures.err)

pub returns-in_err-case-clause-err : goal.returns-in_err-case-clause-err
returns-in_err-case-clause-err g c =
    let not = c.if-tag.false in
    rw (passed_error c.from_residual-in_err-case.result _ c.from_residual-in_err-case.ensures.1)
    (other_stops g.C.Cases.rejects (other_form c.args.tag.value g.C.Cases.tag_of g.A.Form.is_form g.C.Cases.is_value (λ y. y.other) not)
    not c.in_err-case.ensures.err)
