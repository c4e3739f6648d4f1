-- Where an error is.
use Rattle.std.specs.Prelude.{◌≡◌, ◌≢◌, ◌+◌, ◌⊎◌, ℕ, List, [], ◌++◌, length}
use Rattle.multihash.specs.Streams.{AreParts}
use Rattle.multihash.specs.Refusal.{IsOutOfMemory}
use Rattle.form.specs.FormError.{IsFailed, IsTruncated}
use Rattle.form.specs.Rejecting.{IsUndecided}
use Rattle.form.specs.declared.error.FormError.{FormError}
use Rattle.form.specs.declared.located.LocatedError.{LocatedError}

-- the item, its start and the offset are these
abbrev pub IsAt : LocatedError → ℕ → ℕ → ℕ → Type 0
IsAt x item start offset = (x.item ≡ item) × (x.start ≡ start) × (x.offset ≡ offset)

-- The error is the first one of reading the values that fill the input.
-- The values before it were read, and what follows them shows the error, or is truncated.
pub record IsFirstError {A : Type 0} (IsForm : A → List ℕ → Type 0) (Rejects : FormError → List ℕ → Type 0)
    (input : List ℕ) (x : LocatedError) : Type 0 where
  pub items : List A
  pub front : List ℕ
  pub rest : List ℕ
  pub are_items : AreParts IsForm items front
  pub parts : input ≡ front ++ rest
  pub some : rest ≢ []
  pub item : x.item ≡ length items
  pub start : x.start ≡ length front
  pub cause : IsFailed IsOutOfMemory x.error
      ⊎ ((shown : List ℕ) × (more : List ℕ) × Rejects x.error shown × (rest ≡ shown ++ more)
      × (x.offset ≡ length front + length shown))
      ⊎ (IsFailed IsTruncated x.error × IsUndecided IsForm Rejects rest × (x.offset ≡ length input))
