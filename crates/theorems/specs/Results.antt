-- What the theorems say of results.
use Rattle.std.specs.Prelude.{◌≡◌, ◌<◌, ◌⊎◌, Bool, IsTrue, List, ℕ, Option, Some, None, Result, Ok, Err}
use Rattle.multihash.specs.Fault.{UnexpectedEof, WriteZero, OutOfMemory, Other}
use Rattle.multihash.specs.Multihash.{Fields, pair_of}
use Rattle.multihash.specs.Refusal.{Refusal, of_io, of_size, of_code, of_varint}
use Rattle.multihash.specs.Verdict.{Verdict, accepted, invalid_size, invalid_code, malformed, unexpected_eof}

-- the verdict that a result states: its pair, or why the input has none; other errors state none
abbrev pub verdict_of : {S : ℕ} → Result (Fields S) Refusal → Option Verdict
verdict_of (Ok m) = Some (accepted (pair_of m))
verdict_of (Err (of_size size)) = Some (invalid_size size)
verdict_of (Err (of_code code)) = Some (invalid_code code)
verdict_of (Err (of_varint error)) = Some (malformed error)
verdict_of (Err (of_io UnexpectedEof)) = Some unexpected_eof
verdict_of (Err e) = None

-- an error of the reader or the writer itself
abbrev pub IsOwnError : Refusal → Type 0
IsOwnError e = (e ≡ of_io OutOfMemory) ⊎ ((text : List ℕ) × (e ≡ of_io (Other text)))

-- the writer failed with an error of its own, is full, or allocates and is out of memory; before and after the
-- call it had counted that many failures
abbrev pub IsWriterError : Bool → ℕ → ℕ → Type 0 → Refusal → Type 0
IsWriterError allocates before after is_full e = ((before < after) × IsOwnError e)
    ⊎ ((after ≡ before) × is_full × (e ≡ of_io WriteZero))
    ⊎ ((after ≡ before) × IsTrue allocates × (e ≡ of_io OutOfMemory))
