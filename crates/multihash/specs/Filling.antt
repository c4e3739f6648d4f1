-- What a writer that keeps its slice has written between two of its states.
use Rattle.std.specs.Prelude.{◌≡◌, ◌+◌, ◌≤◌, ℕ, List, take, drop, length}
use Rattle.multihash.specs.Writing.{AdvancesPast, AppendsAtEnd}
use Rattle.multihash.specs.declared.no_std_io.slice_writer.SliceWriter.{SliceWriter}

-- The bytes have been appended to the first `filled` bytes.
-- The rest of the slice is unchanged, and `after` bytes are filled then.
pub record FillsSlice (old : List ℕ) (filled : ℕ) (bytes new : List ℕ) (after : ℕ) : Type 0 where
  pub appends : AppendsAtEnd (take filled old) bytes (take after new)
  pub advances : AdvancesPast (drop filled old) bytes (drop after new)
  pub count : after ≡ filled + length bytes

-- it keeps the same slice, and the bytes follow those written before
pub record Fills (old : SliceWriter) (bytes : List ℕ) (new : SliceWriter) : Type 0 where
  pub same_slice : new.buffer.ghost_name ≡ old.buffer.ghost_name
  pub fills : FillsSlice old.buffer.now old.filled bytes new.buffer.now new.filled

-- the slice is full
abbrev pub IsFilled : SliceWriter → Type 0
IsFilled w = length w.buffer.now ≤ w.filled
