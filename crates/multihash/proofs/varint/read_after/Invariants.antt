-- Only continuation bytes have been consumed, the sum is the value of their digits, and no read failed.
use Rattle.multihash.proofs.Common.{◌≡◌, ◌<◌, [], ◌∷◌, prepend_known}
use Rattle.multihash.proofs.VarintReadLemmas.{ReadsContinuation}
use Rattle.multihash.proofs.varint.read_after.Given as goal

abbrev pub invariant-loop-i : goal.invariant-loop-i
invariant-loop-i g l = record {
  reads : ReadsContinuation (prepend_known (l.first ∷ []) (g.R.Read.rest l.initial.r)) (g.R.Read.rest l.r) l.value l.i;
  some : 0 < l.i;
  unfailed : g.R.Read.failures l.r ≡ g.R.Read.failures l.initial.r;
}
