-- What the library's calls consumed from a reader.
use Rattle.std.specs.Prelude.{◌≡◌, ◌<◌, ℕ, List, ◌⊎◌, Option, Some, None, Result, Ok, Err, IfSome, IfOk, IfErr}
use Rattle.multihash.specs.Bytes.{IsPrefix, IsStrictPrefix}
use Rattle.multihash.specs.Pair.{digest_limit, FitsBuffer}
use Rattle.multihash.specs.Varint.{VarintError, insufficient, IsVarint, IsInsufficient, BeginsMalformed}
use Rattle.multihash.specs.Encoding.{IsEncoding}
use Rattle.multihash.specs.Verdict.{Verdict, malformed, unexpected_eof, HasVerdict, IsIncomplete}
use Rattle.multihash.specs.Settling.{Settles, IsShortestSettling}
use Rattle.std.specs.Io.KnownBytes.{IsAtEnd}
use Rattle.multihash.specs.Reading.{Consumes, CountsReaderFailures, ConsumesFewerThan, HasFewerThan}
use Rattle.multihash.specs.Refusal.{Refusal, of_varint, IsEof, IsReaderError, IsInvalidSize, IsVarintError, IsAnyVarintError}
use Rattle.multihash.specs.Outcome.{IsResultOf}
use Rattle.multihash.specs.Multihash.{Fields, pair_of}

-- bytes of which P holds were consumed
abbrev pub ConsumesSome : (List ℕ → Type 0) → Option (List ℕ) → Option (List ℕ) → Type 0
ConsumesSome P old new = (bytes : List ℕ) × P bytes × Consumes old bytes new

-- a varint of the number was consumed
abbrev pub ConsumesVarint : ℕ → Option (List ℕ) → Option (List ℕ) → Type 0
ConsumesVarint n = ConsumesSome (IsVarint n)

-- the first reading found a value, and the second went on from where it ended
abbrev pub InTurn : {A : Type 0} → (First Second : A → Option (List ℕ) → Option (List ℕ) → Type 0)
    → Option (List ℕ) → Option (List ℕ) → Type 0
InTurn {A = A} First Second old new =
    (value : A) × (between : Option (List ℕ)) × First value old between × Second value between new

-- one of the two failed: the first, or the second after the first had found its value
abbrev pub FailsInTurn : {A : Type 0} → (Option (List ℕ) → Option (List ℕ) → Type 0)
    → (First SecondFails : A → Option (List ℕ) → Option (List ℕ) → Type 0)
    → Option (List ℕ) → Option (List ℕ) → Type 0
FailsInTurn FirstFails First SecondFails old new = FirstFails old new ⊎ InTurn First SecondFails old new

-- an error of reading: a size that is too large, a malformed varint, or a truncated digest
abbrev pub ReadMayFailWith : ℕ → Refusal → Type 0
ReadMayFailWith S e =
    ((size : ℕ) × IsInvalidSize size e × (digest_limit S < size)) ⊎ IsAnyVarintError e ⊎ IsEof e

-- What reading a varint consumed when it failed: bytes of which the last shows the error.
-- After a failure of the reader, the bytes are insufficient.
pub record ConsumesAtVarintError (e : Refusal) (old new : Option (List ℕ)) : Type 0 where
  pub consumed : List ℕ
  pub consumes : Consumes old consumed new
  pub shows : (error : VarintError) → IsVarintError error e → BeginsMalformed error consumed
  pub no_sooner : (shorter : List ℕ) → IsStrictPrefix shorter consumed → IsInsufficient shorter
  pub all : IsVarintError insufficient e → IsAtEnd new
  pub failed : IsReaderError e → IsInsufficient consumed

-- What `read` consumed when the input ended or the reader failed.
-- All of an insufficient input, or at least both varints of a truncated digest; after a failure of
-- the reader, bytes whose own verdict is incomplete.
pub record ConsumesAtError (S : ℕ) (e : Refusal) (old new : Option (List ℕ)) : Type 0 where
  pub consumed : List ℕ
  pub consumes : Consumes old consumed new
  pub insufficient : IsVarintError insufficient e →
      HasVerdict S consumed (malformed insufficient) × IsAtEnd new
  pub eof : IsEof e → HasVerdict S consumed unexpected_eof
  pub failed : IsReaderError e → (v : Verdict) × IsIncomplete v × HasVerdict S consumed v

-- a call consumed exactly the shortest prefix that settles the verdict
pub record ConsumesShortestSettling (S : ℕ) (rest : List ℕ) (new : Option (List ℕ)) : Type 0 where
  pub front : List ℕ
  pub shortest : IsShortestSettling S rest front
  pub consumes : Consumes (Some rest) front new

-- no prefix of what a call consumed settles a verdict
pub record ConsumesNothingSettling (S : ℕ) (rest : List ℕ) (new : Option (List ℕ)) : Type 0 where
  pub consumed : List ℕ
  pub consumes : Consumes (Some rest) consumed new
  pub unsettled : (front : List ℕ) → IsPrefix front consumed → ¬ (Settles S front)

-- the reader failed, which was counted, or the error is one of those listed
abbrev pub FailsBy : ℕ → ℕ → (Refusal → Type 0) → Refusal → Type 0
FailsBy before after IsListed e = ((before < after) × IsReaderError e) ⊎ ((after ≡ before) × IsListed e)

-- an incomplete input, or a reader that failed
abbrev pub EndsOrFails : ℕ → List ℕ → ℕ → ℕ → Type 0
EndsOrFails S rest before after = (before < after) ⊎ ((v : Verdict) × HasVerdict S rest v × IsIncomplete v)

-- The clauses of `read` for a result, while the reader's failures went from `before` to `after`.
-- If the verdict is not incomplete, exactly the shortest prefix that settles it was consumed; otherwise,
-- and if the reader failed, no prefix of what was consumed settles one.
abbrev pub ReadMeets : (S : ℕ) → Option (List ℕ) → Option (List ℕ) → ℕ → ℕ → Result (Fields S) Refusal
    → Type 0
ReadMeets S old new before after r = record {
  faults : CountsReaderFailures IsReaderError (ReadMayFailWith S) before after r;
  verdict : IfSome old (λ rest. after ≡ before → (v : Verdict) × HasVerdict S rest v × IsResultOf r v);
  ok : IfOk r (λ m. (bytes : List ℕ) × IsEncoding (pair_of m) bytes × Consumes old bytes new);
  fits : IfOk r (λ m. FitsBuffer S (pair_of m));
  err : IfErr r (λ e. ConsumesAtError S e old new);
  settled : IfSome old (λ rest. after ≡ before → (v : Verdict) → HasVerdict S rest v → ¬ (IsIncomplete v) →
      ConsumesShortestSettling S rest new);
  unsettled : IfSome old (λ rest. EndsOrFails S rest before after → ConsumesNothingSettling S rest new);
}

-- the result of `read` where `read_next` has this one: at the end of the input, an insufficient error
abbrev pub none_is_insufficient : {A : Type 0} → Result (Option A) Refusal → Result A Refusal
none_is_insufficient (Ok None) = Err (of_varint insufficient)
none_is_insufficient (Ok (Some x)) = Ok x
none_is_insufficient (Err e) = Err e

-- `read` failed with this error
abbrev pub ReadFails : ℕ → ℕ → ℕ → Refusal → Option (List ℕ) → Option (List ℕ) → Type 0
ReadFails S before after e old new = ReadMeets S old new before after (Err e)

-- `read_exact` of `n` bytes failed with this error
pub record ExactFails (n before after : ℕ) (e : Refusal) (old new : Option (List ℕ)) : Type 0 where
  pub cause : FailsBy before after IsEof e
  pub consumed : ConsumesFewerThan n old new
  pub short : after ≡ before → HasFewerThan n old
