-- That the public contracts exclude what a mutant of `must-fail` returns: for one input of each, by the clauses of the call
-- alone. The name of a lemma is that of its mutant. Where the right body in the place of the wrong one is proved, the
-- prover's answer to the mutant is evidence by itself, and there is no lemma.
use Rattle.multihash.proofs.Common.{common_steps, ◌≡◌, ◌≢◌, ◌<◌, ◌⊎◌, ℕ, Bool, List, [], ◌∷◌, ◌++◌, length, true, ltb, refl, sym, ap, subst, arith, inl, inr, length-append, ◌∙◌, list_all, place_value, Other, UnexpectedEof, Refusal, of_io, of_size, of_code, IsIo, Verdict, accepted, invalid_size, unexpected_eof, HasVerdict, HasWholeVerdict, IsIncomplete, IsResultOf, Fields, pair_of, ReadMeets, Consumes, CountsWriterFailures, IsScale, HasScaleVerdict, ConsumesAtScaleError, All, ltb-true, and_parts, All-nil, All-cons, Pair, IsEof, IsReaderError}
use Rattle.std.specs.Prelude.{Some, Result, Ok, Err}
use Rattle.multihash.specs.Json.{IsJsonList, number_array}
use Rattle.multihash.proofs.JsonLemmas.{array_unique}
use Rattle.multihash.proofs.ReadingLemmas.{all_read}
use Rattle.multihash.proofs.ScaleLemmas.{scale_verdict_unique, scale_found, has_scale_found}
use Rattle.multihash.proofs.SettlingLemmas.{late_settles, verdict_kept}
use Rattle.multihash.proofs.VarintLemmas.{varint_some}
use Rattle.multihash.proofs.VerdictLemmas.{verdict_unique, whole_verdict_unique, found, has_found, whole_found, has_whole_found}

-- ---- inputs and their verdicts

-- a fact on each number of a list, computed
all_below : (bound : ℕ) (xs : List ℕ) → list_all (λ x. ltb x bound) xs ≡ true → All (λ x. x < bound) xs
all_below bound [] e = All-nil (λ x. x < bound)
all_below bound (x ∷ xs) e =
    let parts = and_parts (ltb x bound) (list_all (λ y. ltb y bound) xs) e in
    All-cons (λ y. y < bound) x xs (ltb-true x bound parts.0) (all_below bound xs parts.1)

abbrev pub pair : ℕ → List ℕ → Pair
pair code digest = record { code = code; digest = digest }

-- the eight bytes of the code 0 in SCALE, and eight bytes that are each as large as possible
abbrev pub zeros : List ℕ
zeros = 0 ∷ 0 ∷ 0 ∷ 0 ∷ 0 ∷ 0 ∷ 0 ∷ 0 ∷ []

abbrev all_255 : List ℕ
all_255 = 255 ∷ 255 ∷ 255 ∷ 255 ∷ 255 ∷ 255 ∷ 255 ∷ 255 ∷ []

-- the verdict of an input, computed
known : (S : ℕ) (x : List ℕ) → list_all (λ b. ltb b 256) x ≡ true → HasVerdict S x (found S x)
known S x bytes = has_found S x (all_below 256 x bytes)

-- ---- what a call may return

-- the clause of `from_bytes`
abbrev FromBytes : (S : ℕ) → List ℕ → Result (Fields S) Refusal → Type 0
FromBytes S bytes r = (v : Verdict) × HasWholeVerdict S bytes v × IsResultOf r v

-- `read`, whose clauses `ReadMeets` has, of a reader with this input that did not fail, and what it left
abbrev Read : (S : ℕ) → List ℕ → List ℕ → Result (Fields S) Refusal → Type 0
Read S input left r = ReadMeets S (Some input) (Some left) 0 0 r

-- so each returns the result of the computed verdict
of_bytes : (S : ℕ) (x : List ℕ) (r : Result (Fields S) Refusal) → list_all (λ b. ltb b 256) x ≡ true → FromBytes S x r
    → IsResultOf r (whole_found S x)
of_bytes S x r bytes (v, has, is) = grind (arith, whole_verdict_unique, has_whole_found, all_below)

of_input : (S : ℕ) (x : List ℕ) {left : List ℕ} (r : Result (Fields S) Refusal) → list_all (λ b. ltb b 256) x ≡ true → Read S x left r
    → IsResultOf r (found S x)
of_input S x r bytes h =
    let (v, has, is) = h.verdict refl in
    subst (IsResultOf r) (verdict_unique S x v (found S x) has (known S x bytes)) is

abbrev size_in : Refusal → ℕ
size_in (of_size size) = size
size_in e = 0

-- ---- a malformed varint, and the longest one

accepts_padded_varint : (left : List ℕ) (m : Fields 4) → ¬ (Read 4 (0x80 ∷ 0x00 ∷ 0x00 ∷ []) left (Ok m))
unfolding place_value
accepts_padded_varint left m h = let is = of_input 4 (0x80 ∷ 0x00 ∷ 0x00 ∷ []) (Ok m) refl h in cc

word_accepts_padded_varint : (m : Fields 4) → ¬ (FromBytes 4 (0x80 ∷ 0x00 ∷ 0x00 ∷ []) (Ok m))
unfolding place_value
word_accepts_padded_varint m h = let is = of_bytes 4 (0x80 ∷ 0x00 ∷ 0x00 ∷ []) (Ok m) refl h in cc

-- nine continuation bytes, and then a size of 0
loses_top_bits : (left : List ℕ) (m : Fields 4) → ¬ (Read 4 (all_255 ++ 0xff ∷ 0x00 ∷ []) left (Ok m))
unfolding place_value
loses_top_bits left m h = let is = of_input 4 (all_255 ++ 0xff ∷ 0x00 ∷ []) (Ok m) refl h in cc

word_loses_top_bits : (m : Fields 4) → ¬ (FromBytes 4 (all_255 ++ 0xff ∷ 0x00 ∷ []) (Ok m))
unfolding place_value
word_loses_top_bits m h = let is = of_bytes 4 (all_255 ++ 0xff ∷ 0x00 ∷ []) (Ok m) refl h in cc

-- the largest code, which has nine bytes, and a size of 0
rejects_longest_varint : (left : List ℕ) (e : Refusal) → ¬ (Read 4 (all_255 ++ 0x7f ∷ 0x00 ∷ []) left (Err e))
unfolding place_value
rejects_longest_varint left e h = of_input 4 (all_255 ++ 0x7f ∷ 0x00 ∷ []) (Err e) refl h

word_rejects_longest_varint : (e : Refusal) → ¬ (FromBytes 4 (all_255 ++ 0x7f ∷ 0x00 ∷ []) (Err e))
unfolding place_value
word_rejects_longest_varint e h = of_bytes 4 (all_255 ++ 0x7f ∷ 0x00 ∷ []) (Err e) refl h

-- ---- an input with one multihash, with trailing bytes, and a truncated one

rejects_all : (e : Refusal) → ¬ (FromBytes 4 (0x00 ∷ 0x00 ∷ []) (Err e))
unfolding place_value
rejects_all e h = of_bytes 4 (0x00 ∷ 0x00 ∷ []) (Err e) refl h

ignores_trailing_bytes : (m : Fields 4) → ¬ (FromBytes 4 (0x00 ∷ 0x00 ∷ 0x07 ∷ []) (Ok m))
unfolding place_value
ignores_trailing_bytes m h = let is = of_bytes 4 (0x00 ∷ 0x00 ∷ 0x07 ∷ []) (Ok m) refl h in cc

-- one byte trails a digest of two
error_has_digest_size : ¬ (FromBytes 4 (0x00 ∷ 0x02 ∷ 0x41 ∷ 0x42 ∷ 0x07 ∷ []) (Err (of_size 2)))
unfolding place_value
error_has_digest_size h =
    let is : of_size 2 ≡ of_size 1 = of_bytes 4 (0x00 ∷ 0x02 ∷ 0x41 ∷ 0x42 ∷ 0x07 ∷ []) (Err (of_size 2)) refl h in omega (arith, ap size_in is)

fails_after_whole_input : (left : List ℕ) → ¬ (Read 4 (0x00 ∷ 0x00 ∷ []) left (Err (of_io UnexpectedEof)))
unfolding place_value
fails_after_whole_input left h = of_input 4 (0x00 ∷ 0x00 ∷ []) (Err (of_io UnexpectedEof)) refl h

fails_as_reader_after_whole_input : (left text : List ℕ) → ¬ (Read 4 (0x00 ∷ 0x00 ∷ []) left (Err (of_io (Other text))))
unfolding place_value
fails_as_reader_after_whole_input left text h = of_input 4 (0x00 ∷ 0x00 ∷ []) (Err (of_io (Other text))) refl h

pads_truncated_digest : (left : List ℕ) (m : Fields 4) → ¬ (Read 4 (0x00 ∷ 0x02 ∷ 0x41 ∷ []) left (Ok m))
unfolding place_value
pads_truncated_digest left m h = let is = of_input 4 (0x00 ∷ 0x02 ∷ 0x41 ∷ []) (Ok m) refl h in cc

-- ---- bytes that `read` consumed after those that settle the verdict

consumed_more : {S : ℕ} (front more : List ℕ) (v : Verdict) (r : Result (Fields S) Refusal) → more ≢ [] → HasVerdict S front v
    → ¬ (IsIncomplete v) → ¬ (Read S (front ++ more) [] r)
consumed_more {S = S} front more v r some has late h =
    let t = h.settled refl v (verdict_kept S front more v late has) late in
    t.shortest.shortest front (more, some, sym (all_read (front ++ more) t.front (Some []) t.consumes refl)) (late_settles S front v late has)

reads_past_digest : (m : Fields 4) → ¬ (Read 4 (0x00 ∷ 0x00 ∷ 0x07 ∷ []) [] (Ok m))
unfolding place_value
reads_past_digest m =
    consumed_more (0x00 ∷ 0x00 ∷ []) (0x07 ∷ []) (accepted (pair 0 [])) (Ok m) (λ none. cc) (known 4 (0x00 ∷ 0x00 ∷ []) refl) (λ e. e)

reads_a_buffer_ahead : (more : List ℕ) (m : Fields 4) → ¬ (Read 4 (0x00 ∷ 0x00 ∷ 0x07 ∷ 0x08 ∷ more) [] (Ok m))
unfolding place_value
reads_a_buffer_ahead more m =
    consumed_more (0x00 ∷ 0x00 ∷ []) (0x07 ∷ 0x08 ∷ more) (accepted (pair 0 [])) (Ok m) (λ none. cc) (known 4 (0x00 ∷ 0x00 ∷ []) refl)
    (λ e. e)

reads_digest_before_rejecting : ¬ (Read 4 (0x00 ∷ 0x05 ∷ 0x07 ∷ []) [] (Err (of_size 5)))
unfolding place_value
reads_digest_before_rejecting =
    consumed_more (0x00 ∷ 0x05 ∷ []) (0x07 ∷ []) (invalid_size 5) (Err (of_size 5)) (λ none. cc) (known 4 (0x00 ∷ 0x05 ∷ []) refl) (λ e. e)

-- ---- a writer's failure that is counted, and an Ok

writes_again_after_failure : (allocates : Bool) (is_full : Type 0) (n : ℕ) → ¬
    (CountsWriterFailures {E = Refusal} IsIo allocates 0 1 is_full (Ok n))
writes_again_after_failure allocates is_full n h = omega (arith, h)

-- ---- SCALE

-- a byte after the size that is too large, and the size after a code that is
scale_checks_size_late : ¬ (ConsumesAtScaleError 4 (of_size 5) (Some (zeros ++ 0x05 ∷ 0x07 ∷ [])) (Some []))
scale_checks_size_late h =
    omega (arith, (h.size 5 refl).1, ap length (all_read (zeros ++ 0x05 ∷ 0x07 ∷ []) h.consumed (Some []) h.consumes refl))

scale_reads_size_before_code : ¬ (ConsumesAtScaleError 4 (of_code 18446744073709551615) (Some (all_255 ++ 0x00 ∷ [])) (Some []))
scale_reads_size_before_code h =
    omega (arith, (h.code _ refl).1, ap length (all_read (all_255 ++ 0x00 ∷ []) h.consumed (Some []) h.consumes refl))

-- the clause `ok`, for a byte after the empty digest
scale_reads_past_digest : (m : Fields 4) → length (pair_of m).digest ≡ 0
    → ¬ ((bytes : List ℕ) × IsScale (pair_of m) bytes × Consumes (Some (zeros ++ 0x00 ∷ 0x07 ∷ [])) bytes (Some []))
scale_reads_past_digest m empty (bytes, is, consumes) = grind (arith, common_steps)

-- an input that was consumed to its end before an unexpected end of file, or before the reader failed, is truncated
pub truncated_input : (x : List ℕ) (e : Refusal) → list_all (λ b. ltb b 256) x ≡ true → ConsumesAtScaleError 4 e (Some x) (Some [])
    → IsEof e ⊎ IsReaderError e → unexpected_eof ≡ scale_found 4 x
truncated_input x e bytes h io =
    let all = sym (all_read x h.consumed (Some []) h.consumes refl) in
    scale_verdict_unique 4 x unexpected_eof (scale_found 4 x) (subst (λ (z : List ℕ). HasScaleVerdict 4 z unexpected_eof) all (h.truncated io))
    (has_scale_found 4 x (all_below 256 x bytes))

-- the reader failed before the digest's one byte, which was consumed after that
scale_reads_after_failure : (text : List ℕ) → ¬
    (ConsumesAtScaleError 4 (of_io (Other text)) (Some (zeros ++ 0x01 ∷ 0x07 ∷ [])) (Some []))
unfolding place_value
scale_reads_after_failure text h =
    let same : unexpected_eof ≡ accepted (pair 0 (0x07 ∷ [])) = truncated_input (zeros ++ 0x01 ∷ 0x07 ∷ []) (of_io (Other text)) refl h (inr (Other text, refl, inl (text, refl))) in cc

-- ---- JSON

-- the array of a digest alone
json_digest_alone : ¬ (IsJsonList (pair 0 (0x41 ∷ [])) (number_array (0x41 ∷ [])))
json_digest_alone h =
    let e = h.encodes in
    omega (
      arith,
      ap length (array_unique (0x41 ∷ []) h.encoding h.lists ∙ e.encoded),
      length-append e.code (e.size ++ 0x41 ∷ []),
      length-append e.size (0x41 ∷ []),
      varint_some _ _ e.is_code,
    )
