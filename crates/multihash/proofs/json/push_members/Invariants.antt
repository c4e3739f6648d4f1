-- The members so far are the old ones and the first bytes, and the capacity suffices for the others.
use Rattle.std.proofs.Common.{◌≡◌, ◌+◌, ◌≤◌, ◌++◌, length, map, take, vec_len, vec_capacity}
use Rattle.serde_json.specs.Data.{number, unsigned}
use Rattle.serde_json.specs.View.{view}
use Rattle.multihash.proofs.json.push_members.Given as goal

abbrev pub invariant-loop-byte : goal.invariant-loop-byte
invariant-loop-byte l = record {
  pushed : map view l.members.items ≡ map view l.fn.members.items ++ map (λ n. number (unsigned n)) (take l.byte-index l.bytes);
  room : vec_len l.members + length l.bytes ≤ vec_capacity l.members + l.byte-index;
}
