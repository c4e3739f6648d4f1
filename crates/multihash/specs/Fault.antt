-- What a contract sees of an error of readers and writers.
use Rattle.std.specs.Prelude.{◌≡◌, ℕ, List, ◌⊎◌, codes}
use Rattle.multihash.specs.declared.no_std_io.error.Kind.{Kind}
use Rattle.multihash.specs.declared.no_std_io.error.Kind.TheVariants.{UnexpectedEof as Eof, WriteZero as Full}
use Rattle.multihash.specs.declared.no_std_io.error.Kind.TheVariants.{OutOfMemory as Memory, Other as Own}

-- truncated input, a full writer, out of memory, or an error of the reader or the writer itself,
-- with its text
pub data Fault : Type 0 where
  UnexpectedEof WriteZero OutOfMemory : Fault
  Other : List ℕ → Fault

-- what a contract sees of each kind of error
abbrev pub fault_of : Kind → Fault
fault_of (Eof text) = UnexpectedEof
fault_of (Full text) = WriteZero
fault_of (Memory text) = OutOfMemory
fault_of (Own text) = Other text.now

-- the input ended before a buffer was full
abbrev pub IsUnexpectedEof : Fault → Type 0
IsUnexpectedEof e = e ≡ UnexpectedEof

-- a writer was full
abbrev pub IsWriteZero : Fault → Type 0
IsWriteZero e = e ≡ WriteZero

-- an allocation failed
abbrev pub IsOutOfMemoryFault : Fault → Type 0
IsOutOfMemoryFault e = e ≡ OutOfMemory

-- an error of the reader or the writer itself, with its own text
abbrev pub IsOther : Fault → Type 0
IsOther e = (text : List ℕ) × (e ≡ Other text)

-- an error that a reader or a writer may return by itself
abbrev pub IsOwnFault : Fault → Type 0
IsOwnFault e = IsOther e ⊎ IsOutOfMemoryFault e

-- the text that an error prints
abbrev pub printed : Fault → List ℕ
printed UnexpectedEof = codes "failed to fill whole buffer"
printed WriteZero = codes "failed to write whole buffer"
printed OutOfMemory = codes "out of memory"
printed (Other text) = text

-- the text that an error carries
abbrev pub carried : Kind → List ℕ
carried (Eof text) = text.now
carried (Full text) = text.now
carried (Memory text) = text.now
carried (Own text) = text.now
