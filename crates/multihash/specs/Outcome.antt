-- What a call returns if a verdict holds.
use Rattle.std.specs.Prelude.{◌≡◌, ℕ, Result, MatchResult}
use Rattle.multihash.specs.Multihash.{Fields, pair_of}
use Rattle.multihash.specs.Verdict.{Verdict, accepted, invalid_size, invalid_code, malformed, unexpected_eof}
use Rattle.multihash.specs.Refusal.{Refusal, IsEof, IsInvalidSize, IsInvalidCode, IsVarintError}

-- the error of a verdict
abbrev pub IsErrorOf : Refusal → Verdict → Type 0
IsErrorOf e (accepted p) = ⊥
IsErrorOf e (invalid_size size) = IsInvalidSize size e
IsErrorOf e (invalid_code code) = IsInvalidCode code e
IsErrorOf e (malformed error) = IsVarintError error e
IsErrorOf e unexpected_eof = IsEof e

-- the result is the verdict's: its pair, or its error
abbrev pub IsResultOf : {S : ℕ} → Result (Fields S) Refusal → Verdict → Type 0
IsResultOf outcome v = MatchResult outcome (λ m. v ≡ accepted (pair_of m)) (λ e. IsErrorOf e v)
