-- A reader that may have read one byte ahead, and values that were read from it.
use Rattle.std.specs.Prelude.{◌≡◌, ◌<◌, ◌⊎◌, ℕ, List, [], ◌∷◌, ◌++◌, length, Option, Some, None}
use Rattle.std.specs.Io.KnownBytes.{prepend_known, IsAtEnd}
use Rattle.multihash.specs.Streams.{AreParts}
use Rattle.multihash.specs.Consuming.{ConsumesSome}
use Rattle.form.specs.Form.{AreSame}
use Rattle.form.specs.Rejecting.{ReadStops}
use Rattle.form.specs.declared.error.FormError.{FormError}

-- the byte that was read ahead, if there is one, and the rest of the inner reader
abbrev pub rest_from : Option ℕ → Option (List ℕ) → Option (List ℕ)
rest_from None rest = rest
rest_from (Some byte) rest = prepend_known (byte ∷ []) rest

-- the encodings of these values, in order, were consumed, and the values appended to a list
pub record AppendsValues {A : Type 0} (IsForm : A → List ℕ → Type 0) (before after : List A)
    (old new : Option (List ℕ)) : Type 0 where
  pub values : List A
  pub appended : after ≡ before ++ values
  pub consumed : ConsumesSome (AreParts IsForm values) old new

-- values that are the same as these were appended to a list
abbrev pub AppendsSame : {A : Type 0} → (A → A → Type 0) → List A → List A → List A → Type 0
AppendsSame {A = A} Same xs before after =
    (values : List A) × (after ≡ before ++ values) × AreSame Same values xs

-- n values were read and appended, or all that come before the end of the input, which are fewer
pub record AppendsUpTo {A : Type 0} (IsForm : A → List ℕ → Type 0) (n : ℕ) (before after : List A)
    (old new : Option (List ℕ)) : Type 0 where
  pub reads : AppendsValues IsForm before after old new
  pub number : (length reads.values ≡ n) ⊎ ((length reads.values < n) × IsAtEnd new)

-- fewer than n values were read and appended, and then reading failed with `e`
pub record AppendsThenStops {A : Type 0} (IsForm : A → List ℕ → Type 0)
    (Rejects : FormError → List ℕ → Type 0) (n : ℕ) (before after : List A) (failures_before failures_after : ℕ) (old new : Option (List ℕ))
    (e : FormError) : Type 0 where
  pub following : Option (List ℕ)
  pub reads : AppendsValues IsForm before after old following
  pub fewer : length reads.values < n
  pub failed : ReadStops IsForm Rejects failures_before failures_after e following new
