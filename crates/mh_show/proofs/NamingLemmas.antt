-- A text has one line, a line names at most one list of bytes, and these are what `hex` decodes.
use Rattle.std.proofs.Common.{◌≡◌, ℕ, ◌+◌, ◌*◌, ◌%◌, true, List, [], ◌∷◌, length, Ok, refl, ap, subst, arith}
use Rattle.std.specs.List.{AllPass, AllZip, flat_map}
use Rattle.std.proofs.lemmas.List.{append_cancel_right}
use Rattle.std.proofs.lemmas.List.Elements.{All-head, All-tail}
use Rattle.hex.specs.Hex.{hex_digit_value, is_hex_digit, decode_pairs, decode_of}
use Rattle.hex.proofs.HexLemmas.{decode_of-ok, decode_of-same}
use Rattle.multihash.proofs.JsonLemmas.{some_value}
use Rattle.mh_show.specs.Shown.{IsLine, NamesByte, NamesBytes}

pub line_unique : (text a b : List ℕ) → IsLine a text → IsLine b text → a ≡ b
line_unique text a b e f = grind (arith, append_cancel_right)

abbrev two_digits : ℕ × ℕ → List ℕ
two_digits two = two.0 ∷ two.1 ∷ []

length-two_digits : (digits : List (ℕ × ℕ)) → length (flat_map two_digits digits) ≡ 2 * length digits
length-two_digits [] = refl
length-two_digits (two ∷ digits) = omega (arith, length-two_digits digits)

named_pairs : (i : ℕ) (digits : List (ℕ × ℕ)) (bytes : List ℕ) → AllZip NamesByte digits bytes
    → decode_pairs i (flat_map two_digits digits) ≡ Ok bytes
unfolding decode_pairs
named_pairs i [] [] h = refl
named_pairs i [] (byte ∷ bytes) h = absurd h
named_pairs i (two ∷ digits) [] h = absurd h
named_pairs i (two ∷ digits) (byte ∷ bytes) h = grind (arith, named_pairs (i + 2) digits bytes h.1)

-- `hex` decodes what a line names
pub named_decodes : (line bytes : List ℕ) → NamesBytes line bytes → decode_of line ≡ Ok bytes
named_decodes line bytes n = grind (arith, length-two_digits, named_pairs)

-- an even number of digits names bytes
digits_name : (line : List ℕ) → length line % 2 ≡ 0 → AllPass is_hex_digit line → (bytes : List ℕ) × NamesBytes line bytes
digits_name [] even h = ([], record { digits = []; encoded = refl; each = tt })
digits_name (high ∷ []) even h = absurd (omega arith)
digits_name (high ∷ low ∷ line) even h =
    let tail = All-tail (λ c. is_hex_digit c ≡ true) high (low ∷ line) h in
    let a = some_value (hex_digit_value high) (All-head (λ c. is_hex_digit c ≡ true) high (low ∷ line) h) in
    let b = some_value (hex_digit_value low) (All-head (λ c. is_hex_digit c ≡ true) low line tail) in
    let rest = digits_name line (omega arith) (All-tail (λ c. is_hex_digit c ≡ true) low line tail) in (
      (16 * a.0 + b.0) ∷ rest.0,
      record {
        digits = (high, low) ∷ rest.1.digits;
        encoded = ap (λ (l : List ℕ). high ∷ low ∷ l) rest.1.encoded;
        each = (record { high = a.0; low = b.0; is_high = a.1; is_low = b.1; value = refl }, rest.1.each);
      },
    )

-- a line names what `hex` decodes
pub decoded_names : (line bytes : List ℕ) → decode_of line ≡ Ok bytes → NamesBytes line bytes
decoded_names line bytes h =
    let parts = decode_of-ok line bytes h in
    let named = digits_name line parts.0 parts.1 in
    subst (λ (found : List ℕ). NamesBytes line found) (decode_of-same line named.0 bytes (named_decodes line named.0 named.1) h) named.1

pub bytes_unique : (line a b : List ℕ) → NamesBytes line a → NamesBytes line b → a ≡ b
bytes_unique line a b m n = decode_of-same line a b (named_decodes line a m) (named_decodes line b n)
