-- The multihashes so far, each of one byte at least, were consumed.
use Rattle.std.proofs.Common.{◌≡◌, ◌≤◌, ℕ, List, ◌++◌, length, map}
use Rattle.multihash.specs.Pair.{Pair}
use Rattle.multihash.specs.Streams.{AreConcatenated}
use Rattle.examples.proofs.loops.codes.Given as goal

abbrev pub invariant-loop : goal.invariant-loop
invariant-loop l = (pairs : List Pair) × (front : List ℕ) × AreConcatenated pairs front
    × (l.codes.items ≡ map (λ (p : Pair). p.code) pairs)
    × (l.bytes ≡ front ++ l.left) × (l.counter ≤ length front)
