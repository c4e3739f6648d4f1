-- What a writer's call appended, how it failed, and the laws of both calls. The effect of appending: a
-- shorter slice, or more items of a vector.
use Rattle.std.specs.Prelude.{◌≡◌, ◌<◌, ◌≤◌, ℕ, Bool, IsTrue, List, [], ◌⊎◌, length, take, Result, MatchResult, IfOk, OnOk, OnErr}
use Rattle.std.specs.Prelude.{IsOk, ◌++◌, drop}
use Rattle.multihash.specs.Fault.{Fault, IsWriteZero, IsOutOfMemoryFault, IsOwnFault}
use Rattle.multihash.specs.Bytes.{IsStrictPrefix}

-- the writer counted failures, or it allocates, is out of memory and counted none
pub record IsWriterFault (allocates : Bool) (before after : ℕ) (e : Fault) : Type 0 where
  pub kind : IsOwnFault e
  pub cause : (before < after) ⊎ (IsTrue allocates × IsOutOfMemoryFault e × (after ≡ before))

-- a strict prefix of `bytes` has been appended between the two states
pub record AppendsPrefix {W : Type 0} (appended : W → List ℕ → W → Type 0) (old : W)
    (bytes : List ℕ) (new : W) : Type 0 where
  pub part : List ℕ
  pub strict : IsStrictPrefix part bytes
  pub appends : appended old part new

-- as `IsWriterFault`, or the writer was full and counted no failure
abbrev pub IsWriterFaultOrFull : Bool → ℕ → ℕ → Type 0 → Fault → Type 0
IsWriterFaultOrFull allocates before after is_full e =
    IsWriterFault allocates before after e ⊎ (IsWriteZero e × (after ≡ before) × is_full)

-- P holds of the error: so `CountsWriterFailures` is stated of such an error as of one inside `Refusal`
abbrev pub IsFault : (Fault → Type 0) → Fault → Type 0
IsFault P error = P error

-- an Ok counts no failure; an Err is the writer's own, counted, or that it is full, not counted
abbrev pub CountsWriterFailures : {A E : Type 0} → ((Fault → Type 0) → E → Type 0) → Bool → ℕ → ℕ → Type 0
    → Result A E → Type 0
CountsWriterFailures Says allocates before after is_full outcome = MatchResult outcome (λ _. after ≡ before)
    (λ e. Says (IsWriterFaultOrFull allocates before after is_full) e)

-- the laws of `write`
abbrev pub WriteLaws : {S : Type 0} → (S → List ℕ → S → Type 0) → (S → Type 0) → (S → ℕ) → Bool
    → S → List ℕ → S → Result ℕ Fault → Type 0
WriteLaws appended full failures allocates old bytes new outcome = record {
  count : IfOk outcome (λ n. n ≤ length bytes);
  ok : IfOk outcome (λ n. appended old (take n bytes) new);
  stuck : IfOk outcome (λ n. n ≡ 0 → 0 < length bytes → full new);
  err : OnErr outcome (appended old [] new);
  faults : CountsWriterFailures IsFault allocates (failures old) (failures new) ⊥ outcome;
}

-- the laws of `write_all`
abbrev pub WriteAllLaws : {S A : Type 0} → (S → List ℕ → S → Type 0) → (S → Type 0) → (S → ℕ) → Bool
    → S → List ℕ → S → Result A Fault → Type 0
WriteAllLaws appended full failures allocates old bytes new outcome = record {
  ok : OnOk outcome (appended old bytes new);
  empty : length bytes ≡ 0 → IsOk outcome;
  err : OnErr outcome (AppendsPrefix appended old bytes new);
  faults : CountsWriterFailures IsFault allocates (failures old) (failures new) (full new) outcome;
}

-- the slice has advanced past as many bytes as `bytes` has; `new` is the rest
pub record AdvancesPast (old bytes new : List ℕ) : Type 0 where
  pub room : length bytes ≤ length old
  pub left : new ≡ drop (length bytes) old

-- `new` is `old` and then `bytes`
abbrev pub AppendsAtEnd : List ℕ → List ℕ → List ℕ → Type 0
AppendsAtEnd old bytes new = new ≡ old ++ bytes
