-- Lists of bytes, prefixes, and numbers written in digits.
use Rattle.std.specs.Prelude.{◌≡◌, ◌≢◌, ℕ, ◌*◌, ◌^◌, ◌<◌, List, [], ◌++◌, All}
use Rattle.std.specs.List.{sum_by, enumerate_from}

-- each number is a byte
abbrev pub IsBytes : List ℕ → Type 0
IsBytes bytes = All (λ byte. byte < 256) bytes

-- the front is a prefix of the whole
abbrev pub IsPrefix : List ℕ → List ℕ → Type 0
IsPrefix front whole = (rest : List ℕ) × (whole ≡ front ++ rest)

-- the front is a strict prefix of the whole
abbrev pub IsStrictPrefix : List ℕ → List ℕ → Type 0
IsStrictPrefix front whole = (rest : List ℕ) × (rest ≢ []) × (whole ≡ front ++ rest)

-- the sum of the digits, lowest first, each times its power of the base
unfoldable pub place_value : ℕ → List ℕ → ℕ
place_value base digits = sum_by (λ place. place.1 * base ^ place.0) (enumerate_from 0 digits)

-- the fact holds of this value and of no other
pub record ExactlyOne {A : Type 0} (P : A → Type 0) : Type 0 where
  pub value : A
  pub holds : P value
  pub only : (other : A) → P other → other ≡ value
