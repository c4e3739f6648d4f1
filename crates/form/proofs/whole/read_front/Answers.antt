-- `read_front` is `read` of a reader that has the bytes and nothing more, so each clause is that of `read`, and what `read` leaves is
-- what follows the value.
use Rattle.std.proofs.Common.{Some, ap, refl}
use Rattle.multihash.proofs.OutcomeLemmas.{passed_error}
use Rattle.form.proofs.WholeLemmas.{known_is}
use Rattle.form.proofs.whole.read_front.Goals as goal

pub returns-in_err-value-clause-truncated : goal.returns-in_err-value-clause-truncated
returns-in_err-value-clause-truncated g c x front is strict =
    rw (passed_error c.from_residual.result _ c.from_residual.ensures.1)
    (c.in_err-value.ensures.truncated x front c.args.bytes.now is strict refl refl)

pub returns-clause-found : goal.returns-clause-found
returns-clause-found g c x front rest is cut =
    let found = c.in_ok-value.ensures.found x front rest is (ap Some cut) refl in
    (found.0, known_is _ rest found.1)

pub returns-clause-truncated : goal.returns-clause-truncated
returns-clause-truncated g c x front is strict =
    c.in_ok-value.ensures.truncated x front c.args.bytes.now is strict refl refl
