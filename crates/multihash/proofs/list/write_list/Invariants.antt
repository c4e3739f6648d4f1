-- The encodings of the items so far have been appended; with those of the others they are all; no write
-- failed.
use Rattle.multihash.proofs.Common.{◌≡◌, ◌++◌, ℕ, List, map, drop, AreConcatenated, pair_of}
use Rattle.multihash.proofs.list.write_list.Given as goal

abbrev pub invariant-loop-item : goal.invariant-loop-item
invariant-loop-item g l = record {
  bytes : List ℕ;
  whole : (others : List ℕ) → AreConcatenated (map pair_of (drop l.item-index l.items)) others
      → AreConcatenated (map pair_of l.items) (bytes ++ others);
  appends : g.W.Write.appended l.initial.w bytes l.w;
  unfailed : g.W.Write.failures l.w ≡ g.W.Write.failures l.initial.w;
}
