-- The bytes before `left` have been appended, and no write failed.
use Rattle.std.proofs.Common.{◌≡◌, List, ℕ, ◌++◌, length}
use Rattle.multihash.proofs.no_std_io.traits.Write.write_all.Given as goal

abbrev pub invariant-loop-left : goal.invariant-loop-left
invariant-loop-left g l = record {
  done : List ℕ;
  concatenated : l.initial.left ≡ done ++ l.left;
  appends : g.Self.Write.appended l.initial.self done l.self;
  unfailed : g.Self.Write.failures l.self ≡ g.Self.Write.failures l.initial.self;
}

abbrev pub decreases-loop-left : goal.decreases-loop-left
decreases-loop-left g l = length l.left
