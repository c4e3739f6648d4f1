-- The buffer's first bytes and the bytes of the members to come are the bytes of all members.
use Rattle.multihash.proofs.Common.{◌≡◌, ◌++◌, take, drop, member_bytes}
use Rattle.multihash.proofs.json.put_bytes.Given as goal

abbrev pub invariant-loop-at : goal.invariant-loop-at
invariant-loop-at l = take l.at l.buffer ++ member_bytes (drop l.at l.members) ≡ member_bytes l.members
