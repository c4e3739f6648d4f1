-- The first `filled` bytes of the buffer are those that have been consumed, and no read failed.
use Rattle.multihash.proofs.Common.{length, ◌-◌, ◌≡◌, ◌≤◌, take, Consumes}
use Rattle.multihash.proofs.no_std_io.traits.Read.read_exact.Given as goal

abbrev pub invariant-loop-filled : goal.invariant-loop-filled
invariant-loop-filled g l = record {
  in_buffer : l.filled ≤ length l.buf;
  same_length : length l.buf ≡ length l.initial.buf;
  consumes : Consumes (g.Self.Read.rest l.initial.self) (take l.filled l.buf) (g.Self.Read.rest l.self);
  unfailed : g.Self.Read.failures l.self ≡ g.Self.Read.failures l.initial.self;
}

abbrev pub decreases-loop-filled : goal.decreases-loop-filled
decreases-loop-filled g l = length l.initial.buf - l.filled
