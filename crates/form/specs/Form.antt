-- What the clauses of a form state.
use Rattle.std.specs.Prelude.{◌≡◌, ⊤, ℕ, zero, suc, List, [], ◌∷◌, ◌++◌, length, reverse}
use Rattle.std.specs.Int.{bytes_low_first, bytes_high_first}
use Rattle.multihash.specs.Varint.{IsVarint}
use Rattle.multihash.specs.Writing.{AppendsPrefix}

-- the bytes are one part, followed by the other
pub record Then (IsFirst IsSecond : List ℕ → Type 0) (bytes : List ℕ) : Type 0 where
  pub first : List ℕ
  pub second : List ℕ
  pub is_first : IsFirst first
  pub is_second : IsSecond second
  pub parts : bytes ≡ first ++ second

-- the varint of the number of bytes, and the bytes
abbrev pub IsBlock : List ℕ → List ℕ → Type 0
IsBlock block = Then (IsVarint (length block)) (λ rest. rest ≡ block)

-- the bytes, which are reversed if BIG is not 0
abbrev pub in_order : (BIG : ℕ) → List ℕ → List ℕ
in_order (suc _) bytes = reverse bytes
in_order zero bytes = bytes

-- the lowest N bytes of a number, the lowest of them first if BIG is 0, otherwise the highest
abbrev pub number_bytes : (BIG N : ℕ) → ℕ → List ℕ
number_bytes (suc _) N x = bytes_high_first N x
number_bytes zero N x = bytes_low_first 0 N x

-- equally many items, each the same as its counterpart
abbrev pub AreSame : {A : Type 0} → (A → A → Type 0) → List A → List A → Type 0
AreSame Same [] [] = ⊤
AreSame Same (x ∷ xs) (y ∷ ys) = Same x y × AreSame Same xs ys
AreSame Same _ _ = ⊥

-- bytes of which P holds have been appended
abbrev pub AppendsSome : {W : Type 0} → (W → List ℕ → W → Type 0) → (List ℕ → Type 0) → W → W → Type 0
AppendsSome appended P old new = (bytes : List ℕ) × P bytes × appended old bytes new

-- a strict prefix of bytes of which P holds has been appended
abbrev pub AppendsPrefixOfSome : {W : Type 0} → (W → List ℕ → W → Type 0) → (List ℕ → Type 0) → W → W → Type 0
AppendsPrefixOfSome appended P old new = (bytes : List ℕ) × P bytes × AppendsPrefix appended old bytes new
