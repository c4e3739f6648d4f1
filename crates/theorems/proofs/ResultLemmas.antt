-- What the library's definitions say of results and errors, in the words of `Results`.
use Rattle.std.proofs.Common.{◌≡◌, ◌≢◌, ◌↔◌, IsOkAnd, ℕ, Bool, Some, Result, arith}
use Rattle.multihash.specs.Fault.{OutOfMemory}
use Rattle.multihash.specs.Multihash.{Fields, pair_of}
use Rattle.multihash.specs.Outcome.{IsResultOf}
use Rattle.multihash.specs.Pair.{Pair}
use Rattle.multihash.specs.Refusal.{Refusal, of_io, IsIo, IsOutOfMemory, IsReaderError}
use Rattle.multihash.specs.Varint.{insufficient}
use Rattle.multihash.specs.Verdict.{Verdict, accepted, malformed, unexpected_eof, IsIncomplete}
use Rattle.multihash.specs.Writing.{IsWriterFaultOrFull}
use Rattle.theorems.specs.Results.{verdict_of, IsOwnError, IsWriterError}

-- a result is the verdict's
pub verdict_stated : {S : ℕ} (r : Result (Fields S) Refusal) (v : Verdict) → IsResultOf r v → verdict_of r ≡ Some v
verdict_stated r v is = grind arith

-- an allocation failed
pub memory_error : (e : Refusal) → IsOutOfMemory e → e ≡ of_io OutOfMemory
memory_error e is = grind arith

-- an error of the reader itself
pub own_error : (e : Refusal) → IsReaderError e → IsOwnError e
own_error e is = grind arith

-- an error of writing
pub write_error : (allocates : Bool) (before after : ℕ) (is_full : Type 0) {e : Refusal}
    → IsIo (IsWriterFaultOrFull allocates before after is_full) e → IsWriterError allocates before after is_full e
write_error allocates before after is_full {e} is = grind (arith, own_error)

-- a verdict that is neither of the two of a truncated input is not incomplete
pub is_complete : (v : Verdict) → v ≢ malformed insufficient → v ≢ unexpected_eof → ¬ (IsIncomplete v)
is_complete v short eof incomplete = grind arith

-- if no other verdict holds, a pair is the result exactly if its verdict holds
pub returns_pair : {S : ℕ} (Has : Verdict → Type 0) (r : Result (Fields S) Refusal) (v : Verdict) → Has v → IsResultOf r v
    → ((w : Verdict) → Has w → w ≡ v) → (p : Pair) → Has (accepted p) ↔ IsOkAnd r (λ m. pair_of m ≡ p)
returns_pair Has r v has is_result only p = grind arith
