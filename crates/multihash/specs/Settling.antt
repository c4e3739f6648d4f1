-- When an input settles its verdict.
use Rattle.std.specs.Prelude.{ℕ, List, ◌++◌}
use Rattle.multihash.specs.Bytes.{IsBytes, IsPrefix, IsStrictPrefix}
use Rattle.multihash.specs.Verdict.{Verdict, HasVerdict}

-- the verdict is the same whatever bytes follow, also none
pub record Settles (S : ℕ) (input : List ℕ) : Type 0 where
  pub verdict : Verdict
  pub always : (more : List ℕ) → IsBytes more → HasVerdict S (input ++ more) verdict

-- the front settles the input's verdict, and no shorter one does
pub record IsShortestSettling (S : ℕ) (input front : List ℕ) : Type 0 where
  pub begins : IsPrefix front input
  pub settles : Settles S front
  pub shortest : (shorter : List ℕ) → IsStrictPrefix shorter front → ¬ (Settles S shorter)
