-- What a contract sees of the library's error.
use Rattle.std.specs.Prelude.{◌≡◌, ℕ, ◌++◌, List, codes}
use Rattle.std.specs.Fmt.{decimal}
use Rattle.multihash.specs.declared.error.Kind.{Kind}
use Rattle.multihash.specs.declared.error.Kind.TheVariants.{Io, InvalidSize, InvalidCode, Insufficient, Overflow, NotMinimal, NotBytes}
use Rattle.multihash.specs.Varint.{VarintError, insufficient, overflow, not_minimal, BeginsMalformed}
use Rattle.multihash.specs.Fault.{Fault, IsUnexpectedEof, IsOutOfMemoryFault, IsOwnFault, printed}

-- why a call failed: an I/O error, a size, a code, a malformed varint, JSON that is no byte array
pub data Refusal : Type 0 where
  of_io : Fault → Refusal
  of_size : ℕ → Refusal
  of_code : ℕ → Refusal
  of_varint : VarintError → Refusal
  of_not_bytes : Refusal

-- the `Refusal` of each kind of error
abbrev pub refusal_of : Kind → Refusal
refusal_of (Io error) = of_io error
refusal_of (InvalidSize size) = of_size size
refusal_of (InvalidCode code) = of_code code
refusal_of Insufficient = of_varint insufficient
refusal_of Overflow = of_varint overflow
refusal_of NotMinimal = of_varint not_minimal
refusal_of NotBytes = of_not_bytes

-- it passes on an I/O error of which P holds
abbrev pub IsIo : (Fault → Type 0) → Refusal → Type 0
IsIo P e = (error : Fault) × (e ≡ of_io error) × P error

-- the input ended before the end of a digest or of a fixed-size part
abbrev pub IsEof : Refusal → Type 0
IsEof e = IsIo IsUnexpectedEof e

-- an allocation failed
abbrev pub IsOutOfMemory : Refusal → Type 0
IsOutOfMemory e = IsIo IsOutOfMemoryFault e

-- an error of the reader itself
abbrev pub IsReaderError : Refusal → Type 0
IsReaderError e = IsIo IsOwnFault e

-- an invalid size, with that number
abbrev pub IsInvalidSize : ℕ → Refusal → Type 0
IsInvalidSize size e = e ≡ of_size size

-- a code that is out of range
abbrev pub IsInvalidCode : ℕ → Refusal → Type 0
IsInvalidCode code e = e ≡ of_code code

-- a varint is malformed
abbrev pub IsVarintError : VarintError → Refusal → Type 0
IsVarintError error e = e ≡ of_varint error

-- an error that names why a varint is malformed
abbrev pub IsAnyVarintError : Refusal → Type 0
IsAnyVarintError e = (error : VarintError) × IsVarintError error e

-- the error names why the varint at the front of the input is malformed
abbrev pub IsFrontError : List ℕ → Refusal → Type 0
IsFrontError input e = (error : VarintError) × IsVarintError error e × BeginsMalformed error input

-- a JSON value that is no byte array
abbrev pub IsNotBytes : Refusal → Type 0
IsNotBytes e = e ≡ of_not_bytes

-- the text of each kind of malformed varint
abbrev pub varint_text : VarintError → List ℕ
varint_text insufficient = codes "not enough input bytes"
varint_text overflow = codes "input bytes exceed maximum"
varint_text not_minimal = codes "encoding is not minimal"

-- the text of an error
abbrev pub refusal_text : Refusal → List ℕ
refusal_text (of_io error) = printed error
refusal_text (of_size size) = codes "Invalid multihash size " ++ decimal size ++ codes "."
refusal_text (of_code code) = codes "Invalid multihash code " ++ decimal code ++ codes "."
refusal_text (of_varint error) = varint_text error
refusal_text of_not_bytes = codes "Failed to deserialize Multihash"
