-- A slice neither fails nor allocates, so `write` returns an error only when the slice is full: then the encoding is longer.
use Rattle.std.proofs.Common.{◌≤◌, ◌<◌, ℕ, length, Result, Ok, Err, IsOk, IfOk, IsErrAnd, arith, ap, length-append, length-drop}
use Rattle.multihash.proofs.WritingLemmas.{full_of_errors, length_of_not_nil}
use Rattle.examples.proofs.slices.write_to_slice.Goals as goal

-- an error is no Ok
no_ok : {T E : Type 0} (r : Result T E) (P : E → Type 0) (Q : T → Type 0) (A B : ℕ) → IsErrAnd r P → B < A
    → ((IsOk r → A ≤ B) × (A ≤ B → IsOk r)) × IfOk r Q
no_ok (Ok x) P Q A B is less = absurd is
no_ok (Err e) P Q A B is less = (((λ ok. cc), (λ fits. absurd (omega (arith, fits, less)))), tt)

pub returns-in_err-len : goal.returns-in_err-len
returns-in_err-len g c =
    let (bytes, is_form, stop) = c.in_err-len.ensures.err in
    let rest = stop.strict.0 in
    let less : length c.args.buffer.now < length bytes = omega (
      arith,
      ap length stop.strict.2,
      length-append stop.part rest,
      length_of_not_nil rest stop.strict.1,
      ap length stop.appends.left,
      ap length (full_of_errors 0 _ _ c.in_err-len.ensures.faults.2),
      length-drop (length stop.part) c.args.buffer.now,
    ) in
    let told = no_ok c.from_residual.result _ _ (length bytes) (length c.args.buffer.now) c.from_residual.ensures.1 less in
    (bytes, is_form, told.0, told.1)
