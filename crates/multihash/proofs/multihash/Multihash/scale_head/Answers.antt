use Rattle.std.proofs.Common.{arith}
use Rattle.multihash.proofs.ScaleLemmas.{code_bytes}
use Rattle.multihash.proofs.multihash.Multihash.scale_head.Goals as goal

pub returns : goal.returns
returns g c = (
  c.to_le_bytes.result,
  rw (c.to_le_bytes.ensures, ← c.code.ensures.code) (code_bytes c.code.result (omega (arith, c.code.type_inv))),
  cc (c.copy_from_slice.ensures.after, c.size-head.ensures.size),
)
