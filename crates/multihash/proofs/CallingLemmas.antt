-- What callers conclude from the contracts of several calls.
use Rattle.multihash.proofs.Common.{Vec, Global, length-append, ◌≡◌, ℕ, ◌<◌, ◌≤◌, ◌⊎◌, IfOk, IfErr, OnErr, IsOk, inl, inr, List, [], ◌++◌, length, map, false, Option, Some, Result, Ok, Err, MatchResult, refl, sym, ap, ◌∙◌, subst, arith, ◌+◌, drop, length-drop, All, length-map, Pair, FitsBuffer, digest_limit, IsEncoding, AreConcatenated, ConsumesPairs, StopsAfterPairs, VarintError, Verdict, accepted, invalid_size, malformed, BeginsWithSize, HasHead, HasVerdict, HasWholeVerdict, ExactFails, Fault, IsOwnFault, IsUnexpectedEof, Consumes, ConsumesFewerThan, HasFewerThan, IsScale, HasScaleVerdict, AppendsPrefix, CountsWriterFailures, Refusal, of_io, of_varint, IsIo, IsOutOfMemory, IsInvalidSize, IsFrontError, IsErrorOf, IsResultOf, Fields, pair_of}
use Rattle.std.specs.Result.{IsErrAnd}
use Rattle.multihash.specs.Filling.{Fills, IsFilled}
use Rattle.multihash.specs.declared.no_std_io.slice_writer.SliceWriter.{SliceWriter}
use Rattle.multihash.proofs.WritingLemmas.{slice_writer_has_room}
use Rattle.multihash.proofs.ReadingLemmas.{Consumes-known, Consumes-concatenated, IfSome-consumed}
use Rattle.multihash.proofs.VerdictLemmas.{verdict_unique, whole_verdict_unique}
use Rattle.multihash.proofs.VarintLemmas.{error as wrong_front, front_unique, number_no_error, number_unique}
use Rattle.multihash.proofs.ScaleLemmas.{scale_split, scale_verdict_unique}
use Rattle.multihash.proofs.StreamLemmas.{next_part, parts_unique}
use Rattle.multihash.proofs.EncodingLemmas.{encoding_same, encoding_unique}

-- reading that many pairs of a stream did not stop at an error
pub never_stops : (S count : ℕ) (e : Refusal) (n : ℕ) (new : Option (List ℕ)) (pairs : List Pair) (bytes more : List ℕ)
    → AreConcatenated pairs bytes → All (FitsBuffer S) pairs → length pairs ≡ count
    → StopsAfterPairs S count e n n (Some (bytes ++ more)) new → ⊥
never_stops S count e n new pairs bytes more concatenated fit many stop =
    let (left, is, cut) = Consumes-known (bytes ++ more) stop.consumed.bytes stop.following stop.consumed.consumes in
    let (p, x, rest, encodes, follows, each) =
    next_part IsEncoding encoding_unique stop.pairs pairs stop.consumed.bytes bytes left more stop.consumed.concatenated concatenated
    (omega (arith, stop.fewer)) (sym cut) in
    let found = (rw is at stop.failed.verdict) refl in
    let next : HasVerdict S left (accepted p) =
    (rest, record { encoding = x; encodes = encodes; cut = follows }, each (FitsBuffer S) fit) in
    subst (IsErrorOf e) (verdict_unique S left found.0 (accepted p) found.1 next) found.2

-- reading that many pairs of a stream returns them and leaves what follows, or it is out of memory
pub read_list_of_encodings : (S : ℕ) {count before after : ℕ} {old : Option (List ℕ)} (new : Option (List ℕ)) (pairs : List Pair)
    (bytes more : List ℕ) (r : Result (Vec (Fields S) Global) Refusal) → AreConcatenated pairs bytes → All (FitsBuffer S) pairs
    → length pairs ≡ count
    → old ≡ Some (bytes ++ more) → after ≡ before
    → IfOk r (λ list. (length list.items ≡ count) × ConsumesPairs S (map pair_of list.items) old new)
    → IfErr r (λ e. (IsOutOfMemory e × (after ≡ before) × (new ≡ old)) ⊎ StopsAfterPairs S count e before after old new)
    → MatchResult r (λ list. (map pair_of list.items ≡ pairs) × (new ≡ Some more)) IsOutOfMemory
read_list_of_encodings S new pairs bytes more (Ok list) concatenated fit many rest same ok err =
    let (left, is, cut) = Consumes-known (bytes ++ more) ok.1.bytes new (sym rest ∙ ok.1.consumes) in
    let long : length (map pair_of list.items) ≡ length pairs = omega (arith, length-map list.items pair_of, ok.0) in
    let told = parts_unique IsEncoding encoding_unique (map pair_of list.items) pairs ok.1.bytes bytes left more long ok.1.concatenated
    concatenated (sym cut) in
    (told.0, is ∙ ap Some told.2)
read_list_of_encodings S new pairs bytes more (Err e) concatenated fit many rest same ok (inl memory) = memory.0
read_list_of_encodings S {count = count} {before = before} {old = old} new pairs bytes more (Err e) concatenated fit many rest same ok
    (inr stop) =
    absurd (never_stops S count e before new pairs bytes more concatenated fit many
    (subst (λ o. StopsAfterPairs S count e before before o new) rest (subst (λ n. StopsAfterPairs S count e before n old new) same stop)))

-- The facts are the clauses of `encoded_len` and `SliceWriter::new`, and `err` and `faults` of `write`.
-- `write` through a new `SliceWriter` succeeds if the slice has the capacity that `encoded_len` returns
pub write_of_encoded_len : {T : Type 0} {buffer : List ℕ} (old new : SliceWriter) (p : Pair) (len : ℕ) (r : Result T Refusal)
    → (bytes : List ℕ) × IsEncoding p bytes × (len ≡ length bytes) → len ≤ length buffer
    → old.filled ≡ 0 → old.buffer.now ≡ buffer
    → OnErr r ((bytes : List ℕ) × IsEncoding p bytes × AppendsPrefix Fills old bytes new)
    → CountsWriterFailures IsIo false 0 0 (IsFilled new) r → IsOk r
write_of_encoded_len old new p len r (own, is_own, long) room empty kept stopped errors =
    slice_writer_has_room old new (IsEncoding p) r stopped errors
    (λ bytes is_form. omega (arith, room, long, empty, ap length kept, ap length (encoding_same p own bytes is_own is_form)))

-- decoding a pair's SCALE form and more returns the pair and leaves what follows
pub scale_pair : (S : ℕ) (p q : Pair) (input bytes consumed more left : List ℕ) (v : Verdict) → input ≡ bytes ++ more → IsScale p bytes
    → FitsBuffer S p → HasScaleVerdict S input v → v ≡ accepted q → IsScale q consumed → input ≡ consumed ++ left → (q ≡ p) × (left ≡ more)
scale_pair S p q input bytes consumed more left v whole form fits found is_result is_taken cut =
    let same : (q ≡ p) × (consumed ≡ bytes) × (left ≡ more) = scale_split q p consumed bytes left more is_taken form (sym cut ∙ whole) in (same.0, same.2)

-- a SCALE form of a pair that fits, and more, is not rejected
pub scale_taken : (S : ℕ) (p : Pair) (input bytes more : List ℕ) (v : Verdict) (e : Refusal) → input ≡ bytes ++ more → IsScale p bytes
    → FitsBuffer S p → HasScaleVerdict S input v → IsErrorOf e v → ⊥
scale_taken S p input bytes more v e whole form fits found rejected =
    subst (IsErrorOf e) (scale_verdict_unique S input v (accepted p) found (bytes, more, form, omega arith, whole)) rejected

-- bytes that `from_bytes` rejects encode no pair that fits: the first fact is a clause of it
pub rejected_no_encoding : (S : ℕ) {e : Refusal} {bytes : List ℕ} → (v : Verdict) × HasWholeVerdict S bytes v × IsErrorOf e v
    → (p : Pair) → IsEncoding p bytes → FitsBuffer S p → ⊥
rejected_no_encoding S {e = e} {bytes = bytes} (v, h, names) p encodes fits =
    subst (IsErrorOf e) (whole_verdict_unique S bytes v (accepted p) h (encodes, fits)) names

-- bytes that `from_bytes` accepts are the encoding of the pair that it returns, and of no other
pub accepted_encoding : (S : ℕ) {q : Pair} {bytes : List ℕ} → (v : Verdict) × HasWholeVerdict S bytes v × (v ≡ accepted q)
    → IsEncoding q bytes × ((p : Pair) → IsEncoding p bytes → q ≡ p)
accepted_encoding S {q = q} {bytes = bytes} (v, h, is_result) =
    let own = (subst (HasWholeVerdict S bytes) is_result h).0 in
    (own, λ p encodes. (encoding_unique q p bytes bytes [] [] own encodes refl).0)

-- `from_bytes` of the encoding of a pair that fits returns the pair: the facts are its clauses
pub from_bytes_of_encoding : (S : ℕ) (p : Pair) (bytes : List ℕ) (r : Result (Fields S) Refusal) (v : Verdict) → HasWholeVerdict S bytes v
    → IsResultOf r v
    → IsEncoding p bytes → FitsBuffer S p → MatchResult r (λ m. pair_of m ≡ p) IsOutOfMemory
from_bytes_of_encoding S p bytes (Ok m) v h is_result encodes fits = (accepted_encoding S (v, h, is_result)).1 p encodes
from_bytes_of_encoding S p bytes (Err e) v h is_result encodes fits = absurd (rejected_no_encoding S (v, h, is_result) p encodes fits)

-- a size that is too large is rejected: the last fact is the clause `verdict` of `read`
pub rejected_size : (S size : ℕ) (input rest : List ℕ) (r : Result (Fields S) Refusal) → BeginsWithSize size input rest
    → digest_limit S < size
    → (v : Verdict) × HasVerdict S input v × IsResultOf r v → IsErrAnd r (IsInvalidSize size)
rejected_size S size input rest (Ok m) h over v =
    let same : v.0 ≡ invalid_size size = verdict_unique S input v.0 (invalid_size size) v.1 (rest, h, over) in
    absurd (let e : invalid_size size ≡ accepted (pair_of m) = sym same ∙ v.2 in cc)
rejected_size S size input rest (Err e) h over v =
    let same : v.0 ≡ invalid_size size = verdict_unique S input v.0 (invalid_size size) v.1 (rest, h, over) in
    subst (λ w. IsResultOf {S = S} (Err e) w) same v.2

-- ---- parts that are read one after another

-- `read_exact` failed after calls that counted no failure: the facts are its laws
pub exact_fails : (n before middle after : ℕ) (old new : Option (List ℕ)) (error : Fault) → middle ≡ before
    → ((middle < after) × IsOwnFault error) ⊎ ((after ≡ middle) × IsUnexpectedEof error)
    → (IsUnexpectedEof error → HasFewerThan n old) → ConsumesFewerThan n old new → ExactFails n before after (of_io error) old new
exact_fails n before middle after old new error same faults eof part = grind (arith)

-- `read_exact` of the last `m` of `n` bytes failed, after the others were consumed
pub exact_after : (n m before after : ℕ) (read : List ℕ) (old mid new : Option (List ℕ)) (e : Refusal) → Consumes old read mid
    → length read + m ≤ n
    → ExactFails m before after e mid new → ExactFails n before after e old new
exact_after n m before after read old mid new e consumes long fails = record {
  cause = fails.cause;
  consumed = record {
    consumed = read ++ fails.consumed.consumed;
    fewer = omega (arith, fails.consumed.fewer, length-append read fails.consumed.consumed, long);
    consumes = Consumes-concatenated new read fails.consumed.consumed refl consumes fails.consumed.consumes;
  };
  short = λ same. IfSome-consumed old mid read (λ bytes. length bytes < n) consumes
      (λ left is. omega (arith, (rw is at (fails.short same)), length-append read left, long));
}

-- ---- the two varints at the front of an input

sizes_once : (s t : ℕ) (x r q : List ℕ) (h : BeginsWithSize s x r) (g : BeginsWithSize t x q) → (h.code ≡ g.code) × (s ≡ t) × (r ≡ q)
sizes_once s t x r q h g =
    let codes = number_unique x h.code g.code (h.size_bytes ++ r) (g.size_bytes ++ q) (h.code_bytes, h.is_code, h.cut)
    (g.code_bytes, g.is_code, g.cut) in
    let sizes = number_unique (h.size_bytes ++ r) s t r q (h.size_bytes, h.is_size, refl) (g.size_bytes, g.is_size, codes.1) in
    (codes.0, sizes.0, sizes.1)

module _ (code size len : ℕ) (input : List ℕ) (h : HasHead code size len input) where
  -- an input has one head
  pub head_unique : (c s k : ℕ) → HasHead c s k input → (code ≡ c) × (size ≡ s) × (len ≡ k)
  head_unique c s k g =
      let once = sizes_once size s input (drop len input) (drop k input) h.varints g.varints in (
        sym h.is_code ∙ (once.0 ∙ g.is_code),
        once.1,
        omega (
          arith,
          ap length once.2,
          length-drop len input,
          length-drop k input,
          h.within,
          g.within,
        ),
      )

  -- an input with a head has no malformed varint at its front
  pub head_no_error : (S : ℕ) (f : VarintError) → HasVerdict S input (malformed f) → ⊥
  head_no_error S f (inl bad) =
      number_no_error input h.varints.code (h.varints.size_bytes ++ drop len input) f (
        h.varints.code_bytes,
        h.varints.is_code,
        h.varints.cut,
      ) bad
  head_no_error S f (inr (rest, c, bad)) =
      let codes = number_unique input c.code h.varints.code rest (h.varints.size_bytes ++ drop len input) (c.code_bytes, c.is_code, c.cut)
      (h.varints.code_bytes, h.varints.is_code, h.varints.cut) in
      number_no_error rest size (drop len input) f (h.varints.size_bytes, h.varints.is_size, codes.1) bad

  -- the head of an encoding: the digest follows
  pub head_of_encoding : (p : Pair) → IsEncoding p input → (code ≡ p.code) × (size ≡ length p.digest) × (drop len input ≡ p.digest)
  head_of_encoding p e =
      let own : BeginsWithSize (length p.digest) input p.digest =
      record { code = p.code; code_bytes = e.code; size_bytes = e.size; is_code = e.is_code; is_size = e.is_size; cut = e.encoded } in
      let once = sizes_once size (length p.digest) input (drop len input) p.digest h.varints own in
      (sym h.is_code ∙ once.0, once.1, once.2)

-- ---- parts at the front of an input, and their errors

-- an input has at most one error at its front
pub front_error_unique : (x : List ℕ) (e f : Refusal) → IsFrontError x e → IsFrontError x f → e ≡ f
front_error_unique x e f (a, is_a, bad) (b, is_b, also) =
    let same : wrong_front a ≡ wrong_front b = front_unique x (wrong_front a) (wrong_front b) bad also in
    let also_same : a ≡ b = cc in
    is_a ∙ (ap of_varint also_same ∙ sym is_b)

-- bytes that start with an encoding that fits have no verdict that is an error
pub encoding_no_error : (S : ℕ) (p : Pair) (a r bytes : List ℕ) (v : Verdict) (e : Refusal) → IsEncoding p a → FitsBuffer S p
    → bytes ≡ a ++ r → HasVerdict S bytes v → IsErrorOf e v → ⊥
encoding_no_error S p a r bytes v e is fits cut has names =
    subst (IsErrorOf e) (verdict_unique S bytes v (accepted p) has (r, record { encoding = a; encodes = is; cut = cut }, fits)) names

-- a verdict has at most one error
pub error_of_unique : (e f : Refusal) (v : Verdict) → IsErrorOf e v → IsErrorOf f v → e ≡ f
error_of_unique e f v h k = grind arith
