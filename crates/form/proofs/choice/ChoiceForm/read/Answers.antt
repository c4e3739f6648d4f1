-- A choice is its tag and then its value: reading stops in the tag or in the value, and `StopLemmas` has what each shows of the whole.
use Rattle.form.proofs.Common.{ℕ, List, refl, IsVarint, Then, IsCase}
use Rattle.multihash.proofs.OutcomeLemmas.{passed_error}
use Rattle.form.specs.declared.choice.Choice.{Choice}
use Rattle.form.proofs.BothLemmas.{number_is, then_read}
use Rattle.form.proofs.FormLemmas.{varint_stops}
use Rattle.form.proofs.StopLemmas.{first_stops, from_stops}
use Rattle.form.proofs.choice.ChoiceForm.read.Goals as goal

split : {C : Type 0} (tag_of : C → ℕ) (IsC : C → List ℕ → Type 0) (x : Choice C) (bytes : List ℕ)
    → Then (IsVarint (tag_of x.case)) (IsC x.case) bytes → (n : ℕ) × (y : C) × Then (IsVarint n) (IsCase tag_of IsC n y) bytes
split tag_of IsC x bytes t = (
  tag_of x.case,
  x.case,
  record { first = t.first; second = t.second; is_first = t.is_first; is_second = (refl, t.is_second); parts = t.parts },
)

pub returns-in_err-tag-clause-err : goal.returns-in_err-tag-clause-err
returns-in_err-tag-clause-err g c =
    rw (passed_error c.from_residual.result _ c.from_residual.ensures.1)
    (first_stops (split g.C.Cases.tag_of g.C.Cases.is_value) (varint_stops c.in_err-tag.ensures.faults c.in_err-tag.ensures.err))

pub returns-in_err-case-clause-err : goal.returns-in_err-case-clause-err
returns-in_err-case-clause-err g c =
    rw (passed_error c.from_residual-in_err-case.result _ c.from_residual-in_err-case.ensures.1)
    (from_stops (split g.C.Cases.tag_of g.C.Cases.is_value) c.in_ok-tag.tag c.in_ok-tag.ensures.faults c.in_ok-tag.ensures.ok
    c.in_err-case.ensures.err)

pub returns-clause-ok : goal.returns-clause-ok
returns-clause-ok g c =
    then_read _ (number_is _ c.in_ok-case.ensures.tag c.in_ok-tag.ensures.ok) c.in_ok-case.ensures.ok
