-- What a call consumed from a reader, and how it failed.
use Rattle.std.specs.Prelude.{◌≡◌, ◌<◌, ◌≤◌, ℕ, List, [], ◌⊎◌, length, take, drop, Option, Some, Result, MatchResult, IfSome, IfNone}
use Rattle.std.specs.Prelude.{IfOk, IfErr, OnOk, OnErr, IsOk, IsOkAnd, IsNone}
use Rattle.std.specs.Io.KnownBytes.{prepend_known, IsAtEnd}
use Rattle.multihash.specs.Fault.{Fault, IsUnexpectedEof, IsOwnFault}

-- A call consumed these bytes: the rest was these, followed by the rest now.
-- An input that is not known stays so.
abbrev pub Consumes : Option (List ℕ) → List ℕ → Option (List ℕ) → Type 0
Consumes old consumed new = old ≡ prepend_known consumed new

-- fewer than `n` bytes remain, if the input is known
abbrev pub HasFewerThan : ℕ → Option (List ℕ) → Type 0
HasFewerThan n rest = IfSome rest (λ bytes. length bytes < n)

-- a call consumed fewer than `n` bytes
pub record ConsumesFewerThan (n : ℕ) (old new : Option (List ℕ)) : Type 0 where
  pub consumed : List ℕ
  pub fewer : length consumed < n
  pub consumes : Consumes old consumed new

-- no error besides the reader's own
abbrev pub NoOtherError : {E : Type 0} → E → Type 0
NoOtherError e = ⊥

-- an Ok counts no failure; an Err is the reader's own, counted, or a listed one, not counted
abbrev pub CountsReaderFailures : {A E : Type 0} → (E → Type 0) → (E → Type 0) → ℕ → ℕ → Result A E → Type 0
CountsReaderFailures IsOwn IsListed before after outcome = MatchResult outcome (λ _. after ≡ before)
    (λ e. ((before < after) × IsOwn e) ⊎ ((after ≡ before) × IsListed e))

-- the laws of `read`
abbrev pub ReadLaws : {S : Type 0} → (S → Option (List ℕ)) → (S → ℕ) → S → S → List ℕ → List ℕ
    → Result ℕ Fault → Type 0
ReadLaws rest failures old new buffer filled outcome = record {
  count : IfOk outcome (λ n. n ≤ length buffer);
  beyond : IfOk outcome (λ n. drop n filled ≡ drop n buffer);
  faults : CountsReaderFailures IsOwnFault NoOtherError (failures old) (failures new) outcome;
  consumes : IfOk outcome (λ n. Consumes (rest old) (take n filled) (rest new));
  at_end : IfOk outcome (λ n. n ≡ 0 → 0 < length buffer → IsAtEnd (rest old));
  err : OnErr outcome (rest new ≡ rest old);
}

-- the laws of `read_exact`
abbrev pub ReadExactLaws : {S A : Type 0} → (S → Option (List ℕ)) → (S → ℕ) → S → S
    → List ℕ → List ℕ → Result A Fault → Type 0
ReadExactLaws rest failures old new buffer filled outcome = record {
  faults : CountsReaderFailures IsOwnFault IsUnexpectedEof (failures old) (failures new) outcome;
  consumes : OnOk outcome (Consumes (rest old) filled (rest new));
  empty : length buffer ≡ 0 → IsOk outcome;
  eof : IfErr outcome (λ e. IsUnexpectedEof e → HasFewerThan (length buffer) (rest old));
  err : OnErr outcome (ConsumesFewerThan (length buffer) (rest old) (rest new));
}

-- `None` means that the input has ended and nothing was consumed.
-- At the end of a known input `None` is returned unless the reader failed.
abbrev pub EndsInNone : {A E : Type 0} → Option (List ℕ) → Option (List ℕ) → ℕ → ℕ → Result (Option A) E
    → Type 0
EndsInNone old new before after outcome = record {
  none : IfOk outcome (λ next. IfNone next (IsAtEnd old × (new ≡ old)));
  always : after ≡ before → old ≡ Some [] → IsOkAnd outcome IsNone;
}
