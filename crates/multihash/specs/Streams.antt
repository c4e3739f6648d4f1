-- Many pairs in one stream, and what reading and writing them consumed and appended.
use Rattle.std.specs.Prelude.{◌≡◌, ℕ, List, [], ◌∷◌, ◌++◌, ◌<◌, length, Option, All}
use Rattle.multihash.specs.Pair.{Pair, FitsBuffer}
use Rattle.multihash.specs.Encoding.{IsEncoding}
use Rattle.multihash.specs.Reading.{Consumes}
use Rattle.multihash.specs.Refusal.{Refusal}
use Rattle.multihash.specs.Consuming.{ReadFails}

-- the bytes are parts of the items, one after another
abbrev pub AreParts : {A : Type 0} → (A → List ℕ → Type 0) → List A → List ℕ → Type 0
AreParts IsPart [] bytes = bytes ≡ []
AreParts IsPart (item ∷ items) bytes =
    (part : List ℕ) × (rest : List ℕ) × IsPart item part × AreParts IsPart items rest × (bytes ≡ part ++ rest)

-- the bytes are the encodings of the pairs, one after another
abbrev pub AreConcatenated : List Pair → List ℕ → Type 0
AreConcatenated = AreParts IsEncoding

-- the call consumed the encodings of these pairs, all of which fit, one after another
pub record ConsumesPairs (S : ℕ) (pairs : List Pair) (old new : Option (List ℕ)) : Type 0 where
  pub bytes : List ℕ
  pub concatenated : AreConcatenated pairs bytes
  pub fit : All (FitsBuffer S) pairs
  pub consumes : Consumes old bytes new

-- the call consumed the encodings of fewer pairs than requested, and then `read` failed
pub record StopsAfterPairs (S count : ℕ) (e : Refusal) (before after : ℕ)
    (old new : Option (List ℕ)) : Type 0 where
  pub pairs : List Pair
  pub following : Option (List ℕ)
  pub fewer : length pairs < count
  pub consumed : ConsumesPairs S pairs old following
  pub failed : ReadFails S before after e following new
