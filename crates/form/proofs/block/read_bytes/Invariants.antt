-- The bytes so far were consumed, and the reader did not fail.
use Rattle.form.proofs.Common.{◌≡◌, ◌≤◌, ◌-◌, length, Consumes}
use Rattle.form.proofs.block.read_bytes.Given as goal

abbrev pub invariant-loop-chunk : goal.invariant-loop-chunk
invariant-loop-chunk g l = record {
  within : length l.bytes.items ≤ l.len;
  consumes : Consumes (g.R.Read.rest l.initial.r) l.bytes.items (g.R.Read.rest l.r);
  unfailed : g.R.Read.failures l.r ≡ g.R.Read.failures l.initial.r;
}

abbrev pub decreases-loop-chunk : goal.decreases-loop-chunk
decreases-loop-chunk g l = l.len - length l.bytes.items
