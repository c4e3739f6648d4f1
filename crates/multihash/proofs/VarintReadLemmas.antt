-- Reading a varint byte by byte: the invariant of the loop, and what has been consumed at its end.
use Rattle.multihash.proofs.Common.{◌≡◌, ℕ, ◌+◌, ◌*◌, ◌%◌, ◌^◌, ◌<◌, ◌≤◌, ◌⊎◌, List, [], ◌∷◌, ◌++◌, length, Option, refl, sym, ap, ◌∙◌, inl, inr, arith, append_assoc, bit_and, bit_or, All, IsAtEnd, prepend_known, lt_of_not-le, and_mask, length_push, nil_from_length, All-push, IsBytes, IsStrictPrefix, place_value, max_continuation, last_byte_limit, IsContinuation, VarintError, insufficient, overflow, not_minimal, IsInsufficient, BeginsMalformed, Fault, Consumes, Refusal, of_io, of_varint, ConsumesVarint, ConsumesAtVarintError}
use Rattle.multihash.proofs.DigitLemmas.{place_value-nil, place_value-cons, low_digits, or_digits}
use Rattle.multihash.proofs.VarintLemmas.{low_digits_in_range, varint_from_bytes, overflow_after, zero_after}
use Rattle.multihash.proofs.ReadingLemmas.{Consumes-concatenated}
use Rattle.multihash.proofs.SettlingLemmas.{before_step}

-- that many bytes have been consumed, all continuation bytes, and the sum is the value of their digits
pub record ReadsContinuation (old now : Option (List ℕ)) (sum i : ℕ) : Type 0 where
  pub front : List ℕ
  pub consumes : Consumes old front now
  pub bytes : IsBytes front
  pub continuation_bytes : All IsContinuation front
  pub long : length front ≡ i
  pub few : i ≤ max_continuation
  pub value : sum ≡ place_value 128 (low_digits front)

pub none_read : (old : Option (List ℕ)) → ReadsContinuation old old 0 0
none_read old = grind (arith, place_value-nil)

-- the lowest seven bits of a byte are its digit
digit_of : (byte : ℕ) → bit_and byte 127 ≡ place_value 128 (low_digits (byte ∷ []))
digit_of byte = and_mask byte 7 ∙ omega (arith, place_value-cons 128 (byte % 128) [], place_value-nil 128)

pub one_read : (now : Option (List ℕ)) (byte : ℕ) → byte < 256 → 128 ≤ byte
    → ReadsContinuation (prepend_known (byte ∷ []) now) now (bit_and byte 127) 1
one_read now byte small large = grind (arith, digit_of)

-- the sum with the low digit of one more byte
abbrev pub with_byte : ℕ → ℕ → ℕ → ℕ
with_byte sum byte i = bit_or sum (bit_and byte 127 * 2 ^ (7 * i) % 2 ^ 64)

module _ {old now : Option (List ℕ)} {sum i : ℕ} (h : ReadsContinuation old now sum i) where
  -- a strict prefix of continuation bytes and one more byte is insufficient
  before_last : (byte : ℕ) (shorter : List ℕ) → IsStrictPrefix shorter (h.front ++ byte ∷ []) → IsInsufficient shorter
  before_last byte shorter begins =
      before_step (h.front ++ byte ∷ []) shorter
      (record {
        front = h.front;
        last = byte;
        all_continuation = h.continuation_bytes;
        few = omega (arith, h.few, h.long);
        cut = refl;
      }) begins

  before_end : (shorter : List ℕ) → IsStrictPrefix shorter h.front → IsInsufficient shorter
  before_end shorter (rest, some, cut) =
      before_last 0 shorter (
        rest ++ 0 ∷ [],
        (λ none. omega (arith, ap length none, length_push rest 0)),
        ap (λ z. z ++ 0 ∷ []) cut ∙ append_assoc shorter rest (0 ∷ []),
      )

  whole : IsInsufficient h.front
  whole = record { few = omega (arith, h.few, h.long); all_continuation = h.continuation_bytes }

  -- the consumed bytes show that the varint is malformed
  varint_rejected : (new : Option (List ℕ)) (error : VarintError) (consumed : List ℕ) {e : Refusal} → e ≡ of_varint error
      → BeginsMalformed error consumed → ((shorter : List ℕ) → IsStrictPrefix shorter consumed → IsInsufficient shorter)
      → (error ≡ insufficient → IsAtEnd new)
      → Consumes old consumed new → ConsumesAtVarintError e old new
  varint_rejected new error consumed given has no_sooner all consumes = grind (arith)

  pub reader_failed : (error : Fault) {e : Refusal} → e ≡ of_io error → ConsumesAtVarintError e old now
  reader_failed error given = grind (arith, before_end)

  pub input_ended : IsAtEnd now → {e : Refusal} → e ≡ of_varint insufficient → ConsumesAtVarintError e old now
  input_ended end given = varint_rejected now insufficient h.front given whole before_end (λ _. end) h.consumes

  module _ (new : Option (List ℕ)) (byte : ℕ) (next : Consumes now (byte ∷ []) new) where
    consumes : Consumes old (h.front ++ byte ∷ []) new
    consumes = Consumes-concatenated new h.front (byte ∷ []) refl h.consumes next

    pub read_overflow : i ≡ max_continuation → last_byte_limit ≤ byte → {e : Refusal} → e ≡ of_varint overflow
        → ConsumesAtVarintError e old new
    read_overflow most large given =
        varint_rejected new overflow (h.front ++ byte ∷ []) given
        (overflow_after h.front byte [] h.continuation_bytes (h.long ∙ most) large)
        (before_last byte) (λ same. cc) consumes

    pub ends_in_zero : byte ≡ 0 → 0 < i → {e : Refusal} → e ≡ of_varint not_minimal → ConsumesAtVarintError e old new
    ends_in_zero null some given =
        varint_rejected new not_minimal (h.front ++ byte ∷ []) given
        (rw null (zero_after h.front [] h.continuation_bytes (omega (arith, h.long)) (omega (arith, h.long, h.few))))
        (before_last byte) (λ same. cc) consumes

    module _ (most : i ≡ max_continuation → byte < last_byte_limit) where
      -- the sum that the code computes is the value with one more digit
      with_byte_is : with_byte sum byte i ≡ place_value 128 (low_digits (h.front ++ byte ∷ []))
      with_byte_is =
          let fits = low_digits_in_range h.front byte (omega (arith, h.long, h.few)) (λ e. most (sym h.long ∙ e)) in
          rw (h.value, digit_of byte) (or_digits h.front (byte ∷ []) i h.long (omega (arith, fits)))

      pub read_last : byte < 128 → (byte ≡ 0 → i ≡ 0) → ConsumesVarint (with_byte sum byte i) old new
      read_last low minimal = (
        h.front ++ byte ∷ [],
        rw with_byte_is
            (varint_from_bytes h.front byte h.bytes h.continuation_bytes low (omega (arith, h.long, h.few)) (λ e. most (sym h.long ∙ e))
            (λ z. nil_from_length h.front (h.long ∙ minimal z))),
        consumes,
      )

      pub read_more : byte < 256 → 128 ≤ byte → ReadsContinuation old new (with_byte sum byte i) (i + 1)
      read_more small large = record {
        front = h.front ++ byte ∷ [];
        consumes = consumes;
        bytes = All-push (λ b. b < 256) h.front byte h.bytes small;
        continuation_bytes = All-push IsContinuation h.front byte h.continuation_bytes large;
        long = omega (arith, length_push h.front byte, h.long);
        few = omega (arith, lt_of_not-le (λ (all : max_continuation ≤ i). omega (arith, most (omega (arith, h.few)))));
        value = with_byte_is;
      }

-- what is known after `a && b`
pub first_of_two : {A B : Type 0} → (A × B) ⊎ (A → ⊥) → A → B
first_of_two (inl both) a = both.1
first_of_two (inr none) a = absurd (none a)

-- the loop's invariant, and how the loop ends without one more byte, for the tactics
pub ruleset reading = (one_read, read_more, reader_failed, input_ended)
