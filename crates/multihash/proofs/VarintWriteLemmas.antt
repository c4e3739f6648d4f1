-- The invariant of the loop that writes a varint's bytes; each number in range has a varint.
use Rattle.multihash.proofs.Common.{common_steps, ◌≡◌, ℕ, zero, suc, ◌+◌, ◌*◌, ◌/◌, ◌%◌, ◌^◌, ◌<◌, ◌≤◌, List, [], ◌∷◌, ◌++◌, length, refl, sym, ap, ◌∙◌, arith, add-one, append_assoc, inl, inr, bit_and, bit_or, All, lt_of_not-le, pow-suc, pow-zero, div-add-mod', mod_below, div_below, map_push, length_push, nil_from_length, All-push, cases_lt, lt-ltb, le-ltb, place_value, varint_limit, max_continuation, continuation_bytes, IsVarint, varint_within, varint_of}
use Rattle.multihash.proofs.DigitLemmas.{place_value-nil, place_value_last, IsDigit}

-- that many digits have been written, and the rest is the number of those still to come
pub record Wrote (now : List ℕ) (len n rest : ℕ) : Type 0 where
  pub front : List ℕ
  pub long : length front ≡ len
  pub digits : All IsDigit front
  pub more : 0 < len → 0 < rest
  pub value : n ≡ place_value 128 front + rest * 128 ^ len
  pub encoded : now ≡ continuation_bytes front

pub none_wrote : (n : ℕ) → Wrote [] 0 n n
none_wrote n = grind (arith, place_value-nil)

continuation_byte : (rest : ℕ) → bit_or (bit_and rest 127) 128 ≡ rest % 128 + 128
continuation_byte rest = grind (arith, common_steps)

module _ {now : List ℕ} {len n rest : ℕ} (h : Wrote now len n rest) where
  pub wrote_more : {next : List ℕ} → 128 ≤ rest → next ≡ now ++ bit_or (bit_and rest 127) 128 ∷ [] → Wrote next (len + 1) n (rest / 128)
  wrote_more large e = record {
    front = h.front ++ rest % 128 ∷ [];
    long = length_push h.front (rest % 128) ∙ omega (arith, h.long);
    digits = All-push IsDigit h.front (rest % 128) h.digits (mod_below rest 128 (omega arith));
    more = λ _. omega arith;
    value =
        rw (place_value_last 128 (rest % 128) h.front, h.long, add-one, pow-suc 128 len)
        (omega (arith, h.value, ap (λ (m : ℕ). m * 128 ^ len) (div-add-mod' rest 128)));
    encoded = e ∙ rw (continuation_byte rest, h.encoded) (sym (map_push (λ d. d + 128) h.front (rest % 128)));
  }

  module _ (range : n < varint_limit) where
    pub wrote_last : rest < 128 → IsVarint n (now ++ rest ∷ [])
    wrote_last small = record {
      front = h.front;
      last = rest;
      digits = All-push IsDigit h.front rest h.digits small;
      minimal = λ z. nil_from_length h.front
          (omega (arith, h.long, lt_of_not-le (λ (some : 1 ≤ len). omega (arith, h.more (omega arith), z))));
      value = rw h.long at (place_value_last 128 rest h.front) ∙ sym h.value;
      in_range = range;
      encoded = ap (λ (z : List ℕ). z ++ rest ∷ []) h.encoded;
    }

-- after eight digits of a number in range one is left
pub last_digit : {now : List ℕ} {n rest : ℕ} → Wrote now 8 n rest → n < varint_limit → rest < 128
last_digit h range = omega (arith, h.value, range)

-- a small number is its own varint
pub one_byte : (n : ℕ) → n < 128 → IsVarint n (n ∷ [])
one_byte n small = wrote_last (none_wrote n) (omega (arith, small)) small

-- the bytes written and those of `varint_within` are the varint
written_within : (most : ℕ) {now : List ℕ} {len n rest : ℕ} → Wrote now len n rest → n < varint_limit → rest < 128 ^ suc most
    → IsVarint n (now ++ varint_within most rest)
written_within zero h range below = wrote_last h range (omega (arith, below, pow-suc 128 0, pow-zero 128))
written_within (suc most) {now = now} {rest = rest} h range below =
    elim (cases_lt rest 128) [
      | inl small ↦ rw (lt-ltb rest 128 small) (wrote_last h range small)
      | inr large ↦
          let next = now ++ (rest % 128 + 128) ∷ [] in
          let more = wrote_more h {next = next} large (rw (continuation_byte rest) refl) in
          rw (le-ltb rest 128 large, ← append_assoc now ((rest % 128 + 128) ∷ []) (varint_within most (rest / 128)))
          (written_within most more range
          (div_below rest 128 (128 ^ suc most) (omega arith) (omega (arith, below, pow-suc 128 (suc most)))))
    ]

-- each number in range has its varint
pub is_varint_of : (n : ℕ) → n < varint_limit → IsVarint n (varint_of n)
unfolding varint_of
is_varint_of n below = written_within max_continuation (none_wrote n) below (omega (arith, below))

pub varint_exists : (n : ℕ) → n < varint_limit → (bytes : List ℕ) × IsVarint n bytes
varint_exists n below = (varint_of n, is_varint_of n below)
