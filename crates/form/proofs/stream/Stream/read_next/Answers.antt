-- A look for the end consumes nothing, and no value is empty, so an input that is not at its end is read as `read` reads it.
use Rattle.std.proofs.Common.{ap, inl, inr, length, length-append, sym, subst, ◌∙◌, arith}
use Rattle.std.specs.Io.KnownBytes.{IsAtEnd}
use Rattle.multihash.proofs.OutcomeLemmas.{passed_error}
use Rattle.form.proofs.StopLemmas.{nothing_stops}
use Rattle.form.proofs.stream.Stream.read_next.Goals as goal

pub returns-then-branch-clause-found : goal.returns-then-branch-clause-found
returns-then-branch-clause-found g c x bytes more is at same =
    let ended = subst IsAtEnd at (c.in_ok-is_at_end.ensures.end c.if-branch.true) in
    absurd (omega (arith, g.met.T.Form.some x bytes is, ap length ended, length-append bytes more))

pub returns-in_err-value-clause-truncated : goal.returns-in_err-value-clause-truncated
returns-in_err-value-clause-truncated g c x bytes part is strict some at same =
    let met = c.in_ok-is_at_end.ensures in
    rw (passed_error c.from_residual-in_err-value.result _ c.from_residual-in_err-value.ensures.1)
    (c.in_err-value.ensures.truncated x bytes part is strict (met.kept ∙ at) (same ∙ sym met.faults))

pub returns-clause-found : goal.returns-clause-found
returns-clause-found g c x bytes more is at same =
    let met = c.in_ok-is_at_end.ensures in
    c.in_ok-value.ensures.found x bytes more is (met.kept ∙ at) (same ∙ sym met.faults)

pub returns-clause-truncated : goal.returns-clause-truncated
returns-clause-truncated g c x bytes part is strict some at same =
    let met = c.in_ok-is_at_end.ensures in
    c.in_ok-value.ensures.truncated x bytes part is strict (met.kept ∙ at) (same ∙ sym met.faults)

pub returns-in_err-is_at_end-clause-err : goal.returns-in_err-is_at_end-clause-err
returns-in_err-is_at_end-clause-err g c =
    let met = c.in_err-is_at_end.ensures in
    rw (passed_error c.from_residual.result _ c.from_residual.ensures.1)
    (elim met.faults [
      | inl own ↦ nothing_stops g.met.T.Form.some g.met.T.Form.rejects_some own.0 met.kept
      | inr other ↦ absurd other.1
    ])
