-- A counted list is a number and that many items: reading stops in the number, at one above MAX or in the items, and
-- `StopLemmas` has what each shows of the whole.
use Rattle.form.proofs.Common.{◌≤◌, ℕ, List, length, inl, inr, refl, sym, ◌∙◌, arith, IsVarint, AreParts, Then, AreItems}
use Rattle.multihash.proofs.OutcomeLemmas.{passed_error}
use Rattle.form.proofs.BothLemmas.{number_is, then_read}
use Rattle.form.proofs.FormLemmas.{varint_stops}
use Rattle.form.proofs.StopLemmas.{first_stops, from_stops, stops_as}
use Rattle.form.proofs.counted.CountedForm.read.Goals as goal

-- a count and that many items
split : {A : Type 0} (IsPart : A → List ℕ → Type 0) {X : Type 0} (items : X → List A) (x : X) (bytes : List ℕ)
    → Then (IsVarint (length (items x))) (AreParts IsPart (items x)) bytes
    → (n : ℕ) × (xs : List A) × Then (IsVarint n) (AreItems IsPart n xs) bytes
split IsPart items x bytes t = (
  length (items x),
  items x,
  record { first = t.first; second = t.second; is_first = t.is_first; is_second = (refl, t.is_second); parts = t.parts },
)

pub returns-in_err-count-clause-err : goal.returns-in_err-count-clause-err
returns-in_err-count-clause-err g c =
    rw (passed_error c.from_residual.result _ c.from_residual.ensures.1)
    (first_stops (split g.T.Form.is_form (λ x. x.items.items)) (varint_stops c.in_err-count.ensures.faults c.in_err-count.ensures.err))

pub returns-in_err-items-clause-faults : goal.returns-in_err-items-clause-faults
returns-in_err-items-clause-faults g c =
    rw (passed_error c.from_residual-in_err-items.result _ c.from_residual-in_err-items.ensures.1)
    (elim (rw c.in_ok-count.ensures.faults at c.in_err-items.ensures.faults) [
      | inl own ↦ inl own
      | inr (same, inl refused) ↦ inr (same, inl refused)
      | inr (same, inr memory) ↦ inr (same, inr (inl (memory.0, memory.1, inr memory.2)))
    ])

pub returns-in_err-items-clause-err : goal.returns-in_err-items-clause-err
returns-in_err-items-clause-err g c =
    let n = c.in_ok-count.count in
    let within : n ≤ g.row.MAX = omega (arith, c.if-count.false) in
    rw (passed_error c.from_residual-in_err-items.result _ c.from_residual-in_err-items.ensures.1)
    (from_stops (split g.T.Form.is_form (λ x. x.items.items)) n c.in_ok-count.ensures.faults c.in_ok-count.ensures.ok
    (stops_as (λ xs bytes are. (xs, are)) (λ e bytes item. inr (within, item))
    (λ e bytes rejects. elim rejects [ inl over ↦ absurd (omega (arith, over.0, within)) | inr item ↦ item.1 ])
    c.in_err-items.ensures.err))

pub returns-clause-ok : goal.returns-clause-ok
returns-clause-ok g c =
    let count = sym c.in_ok-items.items.ok.0 ∙ c.in_ok-items.ensures.count in
    then_read _ (number_is _ count c.in_ok-count.ensures.ok) c.in_ok-items.ensures.ok
