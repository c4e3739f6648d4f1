-- The head gives the two varints; the size beside the capacity, and beside the bytes that are left, decides which verdict on
-- the whole holds (`VerdictLemmas`).
use Rattle.multihash.proofs.Common.{refl, take_rest, invalid_size, malformed, passed_error}
use Rattle.multihash.proofs.VerdictLemmas.{whole_over, whole_trailing}
use Rattle.multihash.proofs.multihash.Multihash.from_bytes.Goals as goal

pub returns-in_err-head : goal.returns-in_err-head
returns-in_err-head g c =
    let (error, named, has) = c.in_err-head.ensures.err in
    rw (passed_error c.from_residual.result _ c.from_residual.ensures.1)
    (malformed error, has g.row.S, named)

pub returns-then-not-is_valid_size : goal.returns-then-not-is_valid_size
returns-then-not-is_valid_size g c = (
  invalid_size _,
  whole_over c.in_ok-head.ensures.ok g.row.S (c.is_valid_size.ensures.over c.if-not-is_valid_size.true),
  c.from_size.ensures,
)

pub returns-then-digest-len-2 : goal.returns-then-digest-len-2
returns-then-digest-len-2 g c = (
  invalid_size _,
  whole_trailing c.in_ok-head.ensures.ok g.row.S (c.is_valid_size.ensures.fits c.if-not-is_valid_size.false) _
      (take_rest c.args.bytes.now _)
      c.if-digest-len-2.true refl,
  c.from_size-then-digest-len-2.ensures,
)
