-- A tag is a number that nothing follows, so `StopLemmas` has what an error of the number shows.
use Rattle.form.proofs.Common.{◌≡◌, ℕ, List, [], refl, sym, append-nil, IsVarint, Then}
use Rattle.multihash.proofs.OutcomeLemmas.{passed_error}
use Rattle.form.proofs.FormLemmas.{varint_stops}
use Rattle.form.proofs.StopLemmas.{first_stops}
use Rattle.form.proofs.tag.TagForm.read.Goals as goal

-- the number, and nothing
split : (N : ℕ) {A : Type 0} (x : A) (bytes : List ℕ) → IsVarint N bytes → (n : ℕ) × (z : ℕ) × Then (IsVarint n) (λ rest. rest ≡ []) bytes
split N x bytes is = (N, 0, record { first = bytes; second = []; is_first = is; is_second = refl; parts = sym (append-nil bytes) })

pub returns-in_err-number-clause-err : goal.returns-in_err-number-clause-err
returns-in_err-number-clause-err g c =
    rw (passed_error c.from_residual.result _ c.from_residual.ensures.1)
    (first_stops (split g.row.N) (varint_stops c.in_err-number.ensures.faults c.in_err-number.ensures.err))
