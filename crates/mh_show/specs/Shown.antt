-- The text that the program prints for a pair, and the line of hexadecimal that it reads.
use Rattle.std.specs.Prelude.{◌≡◌, ◌≢◌, ℕ, ◌+◌, ◌*◌, ◌⊎◌, List, [], ◌∷◌, ◌++◌, length, codes, Some}
use Rattle.std.specs.List.{AllZip, flat_map}
use Rattle.std.specs.Fmt.{decimal}
use Rattle.hex.specs.Hex.{encode_lower, hex_digit_value}
use Rattle.multihash.specs.Pair.{Pair}
use Rattle.multihash.specs.Verdict.{Verdict, accepted, HasWholeVerdict}
use Rattle.multihash.specs.Refusal.{Refusal}
use Rattle.multihash.specs.Outcome.{IsErrorOf}

-- the greatest length of a digest, in bytes: the program's capacity
abbrev pub most_bytes : ℕ
most_bytes = 64

-- a newline
abbrev pub newline : List ℕ
newline = codes "\n"

-- two lowercase digits for each byte, or a dash if there is none
abbrev pub shown_digest : List ℕ → List ℕ
shown_digest [] = codes "-"
shown_digest (byte ∷ bytes) = encode_lower (byte ∷ bytes)

-- the three lines of a pair
abbrev pub shown : Pair → List ℕ
shown p =
    codes "code " ++ decimal p.code ++ newline
    ++ codes "size " ++ decimal (length p.digest) ++ newline
    ++ codes "digest " ++ shown_digest p.digest ++ newline

-- the line is the text without the newline at its end, if there is one
abbrev pub IsLine : List ℕ → List ℕ → Type 0
IsLine line text =
    (text ≡ line ++ newline) ⊎ ((line ≡ text) × ((front : List ℕ) → text ≢ front ++ newline))

-- two hexadecimal digits of either case, the higher first, encode the byte
pub record NamesByte (digits : ℕ × ℕ) (byte : ℕ) : Type 0 where
  pub high : ℕ
  pub low : ℕ
  pub is_high : hex_digit_value digits.0 ≡ Some high
  pub is_low : hex_digit_value digits.1 ≡ Some low
  pub value : byte ≡ 16 * high + low

-- each two digits of the line encode one byte
pub record NamesBytes (line bytes : List ℕ) : Type 0 where
  pub digits : List (ℕ × ℕ)
  pub encoded : line ≡ flat_map (λ two. two.0 ∷ two.1 ∷ []) digits
  pub each : AllZip NamesByte digits bytes

-- the text encodes the bytes of a pair, and the lines are those of the pair
abbrev pub ShowsAs : List ℕ → List ℕ → Type 0
ShowsAs text lines =
    (line : List ℕ) × (bytes : List ℕ) × (p : Pair) × IsLine line text × NamesBytes line bytes
    × HasWholeVerdict most_bytes bytes (accepted p) × (lines ≡ shown p)

-- the text encodes no bytes
abbrev pub NamesNone : List ℕ → Type 0
NamesNone text = (line bytes : List ℕ) → IsLine line text → ¬ (NamesBytes line bytes)

-- the text encodes bytes that are rejected with that error
abbrev pub IsRejectedAs : List ℕ → Refusal → Type 0
IsRejectedAs text e =
    (line : List ℕ) × (bytes : List ℕ) × (v : Verdict) × IsLine line text × NamesBytes line bytes
    × HasWholeVerdict most_bytes bytes v × IsErrorOf e v
