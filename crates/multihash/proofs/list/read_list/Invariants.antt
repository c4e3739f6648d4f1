-- The pairs so far have been consumed, the capacity suffices for the others, and no read failed.
use Rattle.multihash.proofs.Common.{◌≡◌, ◌≤◌, length, map, vec_capacity, ConsumesPairs, pair_of}
use Rattle.multihash.proofs.list.read_list.Given as goal

abbrev pub invariant-loop : goal.invariant-loop
invariant-loop g l = record {
  pairs : ConsumesPairs g.row.S (map pair_of l.list.items) (g.R.Read.rest l.initial.r) (g.R.Read.rest l.r);
  count : length l.list.items ≡ l.counter;
  room : l.count ≤ vec_capacity l.list;
  buffer : vec_capacity l.list ≡ l.count;
  unfailed : g.R.Read.failures l.r ≡ g.R.Read.failures l.initial.r;
}
