-- What follows the head is what was read after it.
use Rattle.std.proofs.Common.{ℕ, List, ◌++◌, inr, refl, sym, ap, ◌∙◌, append_assoc}
use Rattle.multihash.proofs.OutcomeLemmas.{passed_error}
use Rattle.form.proofs.all.head_and_all_from_bytes.Goals as goal

pub returns-in_err-items-clause-found : goal.returns-in_err-items-clause-found
returns-in_err-items-clause-found g c head xs is =
    let read = c.in_ok-head.ensures.found head is.first is.second is.is_first is.parts in
    rw (passed_error c.from_residual-in_err-items.result _ c.from_residual-in_err-items.ensures.1)
    (c.in_err-items.ensures.found xs (rw read.1 is.is_second))

pub returns-in_err-items-clause-err : goal.returns-in_err-items-clause-err
returns-in_err-items-clause-err g c =
    let (one, is_head, split) = c.in_ok-head.ensures.ok in
    let (xs, front, rest, are, cut, err) = c.in_err-items.ensures.err in
    rw (passed_error c.from_residual-in_err-items.result _ c.from_residual-in_err-items.ensures.1)
    (inr (
      c.in_ok-head.head,
      xs,
      one ++ front,
      rest,
      record { first = one; second = front; is_first = is_head; is_second = are; parts = refl },
      split ∙ ap (λ (l : List ℕ). one ++ l) cut ∙ sym (append_assoc one front rest),
      err,
    ))

pub returns-clause-found : goal.returns-clause-found
returns-clause-found g c head xs is =
    let read = c.in_ok-head.ensures.found head is.first is.second is.is_first is.parts in
    (read.0, c.in_ok-items.ensures.found xs (rw read.1 is.is_second))
