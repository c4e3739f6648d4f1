-- Which bytes are rejected with which error, and what reading consumed when it failed.
use Rattle.std.specs.Prelude.{◌≡◌, ◌≢◌, ◌<◌, ◌≤◌, ◌⊎◌, ℕ, zero, suc, List, [], ◌++◌, length, Option, Some, IfSome}
use Rattle.multihash.specs.Bytes.{IsStrictPrefix}
use Rattle.multihash.specs.Varint.{IsVarint, VarintError, insufficient, BeginsMalformed}
use Rattle.multihash.specs.Verdict.{Verdict, HasVerdict, IsIncomplete}
use Rattle.multihash.specs.Outcome.{IsErrorOf}
use Rattle.multihash.specs.Reading.{Consumes}
use Rattle.multihash.specs.Streams.{AreParts}
use Rattle.multihash.specs.Refusal.{Refusal, IsVarintError, IsOutOfMemory}
use Rattle.form.specs.Form.{Then}
use Rattle.form.specs.FormError.{IsFailed, IsTruncated}
use Rattle.form.specs.declared.error.FormError.{FormError}
use Rattle.form.specs.declared.error.FormError.TheVariants.{TooMany, TooLong, OtherTag, Trailing}

-- ---- what is rejected

-- P holds of the bytes, and of no strict prefix of them
pub record IsShortest (P : List ℕ → Type 0) (bytes : List ℕ) : Type 0 where
  pub holds : P bytes
  pub shortest : (shorter : List ℕ) → IsStrictPrefix shorter bytes → ¬ (P shorter)

-- the varint at the front of the input is malformed with that error, and not only truncated
abbrev pub ShowsMalformed : Refusal → List ℕ → Type 0
ShowsMalformed e input =
    (error : VarintError) × IsVarintError error e × (error ≢ insufficient) × BeginsMalformed error input

-- the verdict on the input is that error, and no more input can change it
abbrev pub ShowsError : ℕ → Refusal → List ℕ → Type 0
ShowsError S e input = (v : Verdict) × HasVerdict S input v × (¬ (IsIncomplete v)) × IsErrorOf e v

-- the last of the bytes shows that a varint is malformed
abbrev pub RejectsNumber : FormError → List ℕ → Type 0
RejectsNumber e bytes = IsFailed (λ r. IsShortest (ShowsMalformed r) bytes) e

-- the last of the bytes shows that they start no multihash of that capacity
abbrev pub RejectsMultihash : ℕ → FormError → List ℕ → Type 0
RejectsMultihash S e bytes = IsFailed (λ r. IsShortest (ShowsError S r) bytes) e

-- the first part is rejected, or what follows it, which may depend on it
abbrev pub RejectsInTurn : {A E : Type 0} → (A → List ℕ → Type 0) → (E → List ℕ → Type 0)
    → (A → E → List ℕ → Type 0) → E → List ℕ → Type 0
RejectsInTurn {A = A} IsFirst RejectsFirst RejectsNext e bytes =
    RejectsFirst e bytes ⊎ ((x : A) × Then (IsFirst x) (RejectsNext x e) bytes)

-- a number is rejected, or what follows it, which may depend on it
abbrev pub RejectsNumberThen : (ℕ → FormError → List ℕ → Type 0) → FormError → List ℕ → Type 0
RejectsNumberThen = RejectsInTurn IsVarint RejectsNumber

-- ---- items

-- the bytes are parts of n items, one after another
abbrev pub AreItems : {A : Type 0} → (A → List ℕ → Type 0) → ℕ → List A → List ℕ → Type 0
AreItems IsPart n items bytes = (length items ≡ n) × AreParts IsPart items bytes

-- one of n items is rejected: the first, or, after it, one of the others
abbrev pub RejectsItem : {A E : Type 0} → (A → List ℕ → Type 0) → (E → List ℕ → Type 0) → ℕ → E → List ℕ
    → Type 0
RejectsItem IsPart Rejects zero e bytes = ⊥
RejectsItem IsPart Rejects (suc n) e bytes =
    RejectsInTurn IsPart Rejects (λ _. RejectsItem IsPart Rejects n) e bytes

-- ---- what is rejected after the varint of a number n: the error, and the bytes that follow the varint

-- a number other than N, which itself shows the error
abbrev pub RejectsOtherTag : ℕ → ℕ → FormError → List ℕ → Type 0
RejectsOtherTag N n e rest = (n ≢ N) × (e ≡ OtherTag n) × (rest ≡ [])

-- a length above the limit, which itself shows the error
abbrev pub RejectsTooLong : ℕ → ℕ → FormError → List ℕ → Type 0
RejectsTooLong MAX n e rest = (MAX < n) × (e ≡ TooLong n) × (rest ≡ [])

-- a number of items above the limit, which itself shows the error; otherwise one of the items
abbrev pub RejectsCounted : {A : Type 0} → (A → List ℕ → Type 0) → (FormError → List ℕ → Type 0) → ℕ → ℕ
    → FormError → List ℕ → Type 0
RejectsCounted IsPart Rejects MAX n e rest =
    ((MAX < n) × (e ≡ TooMany n) × (rest ≡ [])) ⊎ ((n ≤ MAX) × RejectsItem IsPart Rejects n e rest)

-- the value has the tag n, and the bytes follow it
abbrev pub IsCase : {A : Type 0} → (A → ℕ) → (A → List ℕ → Type 0) → ℕ → A → List ℕ → Type 0
IsCase tag_of IsValue n x bytes = (tag_of x ≡ n) × IsValue x bytes

-- what follows the tag M, or, after another tag, one of the other cases
abbrev pub RejectsCase : (FormError → List ℕ → Type 0) → (ℕ → FormError → List ℕ → Type 0) → (M n : ℕ)
    → FormError → List ℕ → Type 0
RejectsCase Rejects RejectsOther M n e rest = ((n ≡ M) × Rejects e rest) ⊎ ((n ≢ M) × RejectsOther n e rest)

-- a number that is the tag of no case, which itself shows the error
abbrev pub RejectsNoCase : ℕ → FormError → List ℕ → Type 0
RejectsNoCase n e rest = (e ≡ OtherTag n) × (rest ≡ [])

-- ---- what reading consumed

-- no prefix of the bytes is an encoding, and none is rejected
pub record IsUndecided {A E : Type 0} (IsForm : A → List ℕ → Type 0) (Rejects : E → List ℕ → Type 0)
    (bytes : List ℕ) : Type 0 where
  pub no_form : (x : A) (front rest : List ℕ) → bytes ≡ front ++ rest → ¬ (IsForm x front)
  pub no_error : (e : E) (front rest : List ℕ) → bytes ≡ front ++ rest → ¬ (Rejects e front)

-- What was consumed of a known input when reading failed with `e`.
-- They are rejected with `e`; or the reader failed before anything was decided; or `e` states that the
-- input is truncated, and nothing in it decides.
pub record StopsAt {A : Type 0} (IsForm : A → List ℕ → Type 0) (Rejects : FormError → List ℕ → Type 0)
    (Failed : Type 0) (e : FormError) (input : List ℕ) (new : Option (List ℕ)) : Type 0 where
  pub consumed : List ℕ
  pub consumes : Consumes (Some input) consumed new
  pub cause : Rejects e consumed ⊎ (Failed × IsUndecided IsForm Rejects consumed)
      ⊎ (IsFailed IsTruncated e × IsUndecided IsForm Rejects input)

-- reading failed with `e`: it is out of memory, or, if the input is known, `StopsAt` holds
pub record ReadStops {A : Type 0} (IsForm : A → List ℕ → Type 0) (Rejects : FormError → List ℕ → Type 0)
    (before after : ℕ) (e : FormError) (old new : Option (List ℕ)) : Type 0 where
  pub why : IsFailed IsOutOfMemory e ⊎ IfSome old (λ input. StopsAt IsForm Rejects (before < after) e input new)

-- the error of reading a value at the front of the input
abbrev pub IsReadError : {A : Type 0} → (A → List ℕ → Type 0) → (FormError → List ℕ → Type 0) → FormError
    → List ℕ → Type 0
IsReadError IsForm Rejects e input = (left : Option (List ℕ)) × ReadStops IsForm Rejects 0 0 e (Some input) left

-- The error of reading a value that is the whole of the input: out of memory, or one of these.
-- The input shows `e`; or it is truncated; or an encoding that has bytes after it is at its front.
abbrev pub IsWholeError : {A : Type 0} → (A → List ℕ → Type 0) → (FormError → List ℕ → Type 0) → FormError
    → List ℕ → Type 0
IsWholeError {A = A} IsForm Rejects e input = IsFailed IsOutOfMemory e
    ⊎ ((front : List ℕ) × (rest : List ℕ) × Rejects e front × (input ≡ front ++ rest))
    ⊎ (IsFailed IsTruncated e × IsUndecided IsForm Rejects input)
    ⊎ ((x : A) × (front : List ℕ) × (more : List ℕ) × IsForm x front × (more ≢ []) × (input ≡ front ++ more)
    × (e ≡ Trailing (length more)))
