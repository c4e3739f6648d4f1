-- A block is a length and that many bytes: reading stops in the length, at one above MAX or in the bytes, and `StopLemmas` has
-- what each shows of the whole.
use Rattle.form.proofs.Common.{◌≡◌, ◌≤◌, ◌⊎◌, ℕ, List, length, length-append, Option, ap, inl, inr, refl, arith, IsVarint, ExactFails, IsOutOfMemory, Then, IsBlock, IsFailed, RejectsTooLong, ReadStops, FormError}
use Rattle.multihash.proofs.OutcomeLemmas.{passed_error}
use Rattle.form.specs.declared.block.Block.{Block}
use Rattle.form.proofs.BothLemmas.{number_is, then_read}
use Rattle.form.proofs.FormLemmas.{exact_stops, varint_stops}
use Rattle.form.proofs.StopLemmas.{first_stops, from_stops}
use Rattle.form.proofs.block.BlockForm.read.Goals as goal

-- n bytes, whatever they are
abbrev HasLength : ℕ → ℕ → List ℕ → Type 0
HasLength n z bytes = length bytes ≡ n

split : {MAX : ℕ} (x : Block MAX) (bytes : List ℕ) → IsBlock x.bytes.items bytes → (n : ℕ) × (z : ℕ) × Then (IsVarint n) (HasLength n z) bytes
split x bytes t = (
  length x.bytes.items,
  0,
  record { first = t.first; second = t.second; is_first = t.is_first; is_second = ap length t.is_second; parts = t.parts },
)

bytes_stop : (MAX n : ℕ) → n ≤ MAX → {before after : ℕ} {e : FormError} {old new : Option (List ℕ)}
    → IsFailed IsOutOfMemory e ⊎ IsFailed (λ cause. ExactFails n before after cause old new) e
    → ReadStops (HasLength n) (RejectsTooLong MAX n) before after e old new
bytes_stop MAX n within (inl memory) = record { why = inl memory }
bytes_stop MAX n within (inr (cause, is, fails)) = rw is (exact_stops n (λ x few. record {
  no_form = λ z front rest cut long. omega (arith, few, long, ap length cut, length-append front rest);
  no_error = λ e front rest cut rejects. omega (arith, within, rejects.0);
}) fails)

pub returns-in_err-len-clause-err : goal.returns-in_err-len-clause-err
returns-in_err-len-clause-err g c =
    rw (passed_error c.from_residual.result _ c.from_residual.ensures.1)
    (first_stops split (varint_stops c.in_err-len.ensures.faults c.in_err-len.ensures.err))

pub returns-in_err-bytes-clause-faults : goal.returns-in_err-bytes-clause-faults
returns-in_err-bytes-clause-faults g c =
    rw (passed_error c.from_residual-in_err-bytes.result _ c.from_residual-in_err-bytes.ensures.1)
    (elim (rw c.in_ok-len.ensures.faults at c.in_err-bytes.ensures.faults) [
      | inl own ↦ inl own
      | inr (same, (cause, is, listed)) ↦ inr (same, inl (cause, is, inr listed))
    ])

pub returns-in_err-bytes-clause-err : goal.returns-in_err-bytes-clause-err
returns-in_err-bytes-clause-err g c =
    let n = c.in_ok-len.len in
    let within : n ≤ g.row.MAX = omega (arith, c.if-len.false) in
    rw (passed_error c.from_residual-in_err-bytes.result _ c.from_residual-in_err-bytes.ensures.1)
    (from_stops split n c.in_ok-len.ensures.faults c.in_ok-len.ensures.ok (bytes_stop g.row.MAX n within c.in_err-bytes.ensures.err))

pub returns-clause-ok : goal.returns-clause-ok
returns-clause-ok g c =
    let read = c.in_ok-bytes.ensures.ok in
    then_read _ (number_is _ read.0 c.in_ok-len.ensures.ok) (c.in_ok-bytes.bytes.items, refl, read.1)
