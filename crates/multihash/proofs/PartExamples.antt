-- What parts of definitions reject by themselves, where no other proof needs the part: laws of readers and writers, which
-- are premises; how `scale_decode` fails; which slice was filled; values and pairs.
use Rattle.multihash.proofs.Common.{◌^◌, ◌≡◌, ◌≢◌, ◌<◌, ◌≤◌, ℕ, false, List, [], ◌∷◌, ◌++◌, length, get_or, refl, sym, ap, ◌∙◌, arith, inl, inr, false≢true, Fault, UnexpectedEof, WriteZero, OutOfMemory, Other, of_io, of_size, of_code, Consumes, ReadLaws, ReadExactLaws, ConsumesAtScaleError, IsWriterFault, AppendsPrefix, WriteLaws, WriteAllLaws, AppendsAtEnd, place_value, ExactlyOne, IsPair, All-head}
use Rattle.std.specs.Prelude.{Option, Some, None, Result, Ok, Err}
use Rattle.multihash.specs.Filling.{Fills}
use Rattle.multihash.specs.declared.no_std_io.slice_writer.SliceWriter.{SliceWriter}
use Rattle.multihash.proofs.MutantExamples.{pair, zeros, truncated_input}

abbrev other : Fault
other = Other []

abbrev eof : Fault
eof = UnexpectedEof

abbrev full : Fault
full = WriteZero

abbrev memory : Fault
memory = OutOfMemory

abbrev told : Option (List ℕ) → List ℕ
told None = []
told (Some bytes) = bytes

-- ---- the laws of `read`, each violated while the others hold

-- a reader with a known rest, or a writer of capacity 3 with known bytes, and the count of its failures
abbrev State : Type 0
State = List ℕ × ℕ

abbrev left : State → Option (List ℕ)
left s = Some s.0

abbrev failed : State → ℕ
failed s = s.1

counts_no_more_than_capacity : ¬
    (ReadLaws left failed (1 ∷ 2 ∷ 3 ∷ [], 0) (3 ∷ [], 0) (7 ∷ 8 ∷ []) (1 ∷ 2 ∷ []) (Ok 3))
counts_no_more_than_capacity h = omega (arith, h.count)

writes_not_beyond_count : ¬
    (ReadLaws left failed (1 ∷ 2 ∷ [], 0) (2 ∷ [], 0) (7 ∷ 8 ∷ []) (1 ∷ 9 ∷ []) (Ok 1))
writes_not_beyond_count h = omega (arith, ap (λ (z : List ℕ). get_or z 0 0) h.beyond)

reads_no_other_bytes : ¬ (ReadLaws left failed (1 ∷ 2 ∷ [], 0) (2 ∷ [], 0) (7 ∷ []) (5 ∷ []) (Ok 1))
reads_no_other_bytes h = omega (arith, ap (λ (o : Option (List ℕ)). get_or (told o) 0 0) h.consumes)

reads_nothing_at_end_alone : ¬
    (ReadLaws left failed (1 ∷ [], 0) (1 ∷ [], 0) (7 ∷ []) (7 ∷ []) (Ok 0))
reads_nothing_at_end_alone h = omega (arith, ap (λ (z : List ℕ). length z) (h.at_end refl (omega arith)))

fails_and_takes_nothing : ¬ (ReadLaws left failed (1 ∷ [], 0) ([], 1) (7 ∷ []) (7 ∷ []) (Err other))
fails_and_takes_nothing h = omega (arith, ap (λ (o : Option (List ℕ)). length (told o)) h.err)

-- `read` reports the end of the input by no error, counted or not
reads_no_end_by_eof : ¬ (ReadLaws left failed ([], 0) ([], 0) (7 ∷ []) (7 ∷ []) (Err eof))
reads_no_end_by_eof h = grind (arith)

reads_no_end_by_error : ¬ (ReadLaws left failed ([], 0) ([], 1) (7 ∷ []) (7 ∷ []) (Err eof))
reads_no_end_by_error h = grind (arith)

-- ---- the laws of `read_exact`

abbrev Filling : State → State → List ℕ → List ℕ → Result ℕ Fault → Type 0
Filling old new buffer filled outcome = ReadExactLaws left failed old new buffer filled outcome

-- the end of the input is no error of the reader itself
ends_by_no_counted_error : ¬ (Filling ([], 0) ([], 1) (7 ∷ []) (7 ∷ []) (Err eof))
ends_by_no_counted_error h = grind (arith)

fills_with_no_other_bytes : ¬ (Filling (1 ∷ 2 ∷ [], 0) (2 ∷ [], 0) (7 ∷ []) (5 ∷ []) (Ok 0))
fills_with_no_other_bytes h = omega (arith, ap (λ (o : Option (List ℕ)). get_or (told o) 0 0) h.consumes)

fills_no_bytes_always : ¬ (Filling (1 ∷ [], 0) (1 ∷ [], 1) [] [] (Err other))
fills_no_bytes_always h = false≢true (h.empty refl)

ends_at_the_end_alone : ¬ (Filling (1 ∷ [], 0) (1 ∷ [], 0) (7 ∷ []) (7 ∷ []) (Err eof))
ends_at_the_end_alone h = omega (arith, h.eof refl)

fails_before_it_is_full : ¬ (Filling (1 ∷ 2 ∷ [], 0) (2 ∷ [], 1) (7 ∷ []) (1 ∷ []) (Err other))
fails_before_it_is_full h = none h.err.consumed h.err.fewer h.err.consumes
  where
    none : (consumed : List ℕ) → length consumed < 1 → Consumes (Some (1 ∷ 2 ∷ [])) consumed (Some (2 ∷ [])) → ⊥
    none [] fewer e = omega (arith, ap (λ (o : Option (List ℕ)). length (told o)) e)
    none (b ∷ consumed) fewer e = omega arith

-- ---- the laws of `write`, each violated while the others hold

abbrev appends : State → List ℕ → State → Type 0
appends old bytes new = AppendsAtEnd old.0 bytes new.0

abbrev has_three_bytes : State → Type 0
has_three_bytes s = 3 ≤ length s.0

abbrev Writes : State → List ℕ → State → Result ℕ Fault → Type 0
Writes old bytes new outcome = WriteLaws appends has_three_bytes failed false old bytes new outcome

no_own_full : (before after : ℕ) → ¬ (IsWriterFault false before after full)
no_own_full before after h = elim h.kind [ inl e ↦ cc e.1 | inr e ↦ cc ]

counts_no_more_than_bytes : ¬ (Writes ([], 0) (1 ∷ []) (1 ∷ [], 0) (Ok 2))
counts_no_more_than_bytes h = omega (arith, h.count)

writes_no_other_bytes : ¬ (Writes ([], 0) (1 ∷ 2 ∷ []) (2 ∷ [], 0) (Ok 1))
writes_no_other_bytes h = omega (arith, ap (λ (z : List ℕ). get_or z 0 0) h.ok)

stuck_when_full_alone : ¬ (Writes ([], 0) (1 ∷ []) ([], 0) (Ok 0))
stuck_when_full_alone h = omega (arith, h.stuck refl (omega arith))

fails_and_appends_nothing : ¬ (Writes ([], 0) (1 ∷ 2 ∷ []) (1 ∷ [], 1) (Err other))
fails_and_appends_nothing h = omega (arith, ap (λ (z : List ℕ). length z) h.err)

-- a full writer returns 0
full_is_no_error : ¬ (Writes (7 ∷ 8 ∷ 9 ∷ [], 0) (1 ∷ []) (7 ∷ 8 ∷ 9 ∷ [], 0) (Err full))
full_is_no_error h = elim h.faults [ inl own ↦ no_own_full 0 0 own | inr stuck ↦ stuck.2 ]

-- this writer, which does not allocate, is not out of memory without a counted failure
write_needs_no_memory : ¬ (Writes ([], 0) (1 ∷ []) ([], 0) (Err memory))
write_needs_no_memory h = grind (arith, false≢true)

-- ---- the laws of `write_all`

abbrev WritesAll : State → List ℕ → State → Result ℕ Fault → Type 0
WritesAll old bytes new outcome = WriteAllLaws appends has_three_bytes failed false old bytes new outcome

writes_all_or_fails : ¬ (WritesAll ([], 0) (1 ∷ 2 ∷ []) (1 ∷ [], 0) (Ok 0))
writes_all_or_fails h = omega (arith, ap (λ (z : List ℕ). length z) h.ok)

writes_nothing_always : ¬ (WritesAll ([], 0) [] ([], 1) (Err other))
writes_nothing_always h = false≢true (h.empty refl)

-- a strict prefix is never the whole
appends_no_whole : ¬ (AppendsPrefix AppendsAtEnd [] (1 ∷ 2 ∷ []) (1 ∷ 2 ∷ []))
appends_no_whole h =
    none h.strict.0 h.strict.1 (h.strict.2 ∙ ap (λ (z : List ℕ). z ++ h.strict.0) (sym h.appends))
  where
    none : (rest : List ℕ) → rest ≢ [] → ¬ (1 ∷ 2 ∷ [] ≡ (1 ∷ 2 ∷ []) ++ rest)
    none [] some e = some refl
    none (r ∷ rest) some e = omega (arith, ap (λ (z : List ℕ). length z) e)

fails_before_the_end : ¬ (WritesAll ([], 0) (1 ∷ 2 ∷ []) (1 ∷ 2 ∷ [], 1) (Err other))
fails_before_the_end h = appends_no_whole (record { part = h.err.part; strict = h.err.strict; appends = h.err.appends })

write_all_needs_no_memory : ¬ (WritesAll ([], 0) (1 ∷ []) ([], 0) (Err memory))
write_all_needs_no_memory h = grind (arith, false≢true)

full_at_capacity_alone : ¬ (WritesAll ([], 0) (1 ∷ 2 ∷ []) (1 ∷ [], 0) (Err full))
full_at_capacity_alone h = elim h.faults [ inl own ↦ no_own_full 0 0 own | inr stuck ↦ omega (arith, stuck.2) ]

-- ---- how `scale_decode` fails

-- a size that fits is not rejected, nor a code in range
consumes_no_size_that_fits : ¬ (ConsumesAtScaleError 4 (of_size 3) (Some (zeros ++ 3 ∷ [])) (Some []))
consumes_no_size_that_fits h = omega (arith, (h.size 3 refl).0.2)

consumes_no_code_in_range : ¬ (ConsumesAtScaleError 4 (of_code 0) (Some zeros) (Some []))
consumes_no_code_in_range h = let (bytes, rest, is_code, above, cut) = (h.code 0 refl).0 in omega (arith, above)

-- no unexpected end of file for a complete pair
ends_not_after_pair : ¬ (ConsumesAtScaleError 4 (of_io eof) (Some (zeros ++ 0 ∷ [])) (Some []))
unfolding place_value
ends_not_after_pair h = let same = truncated_input (zeros ++ 0 ∷ []) (of_io eof) refl h (inl (eof, refl, refl)) in cc

-- ---- a writer over a slice

-- another slice is not the one that was filled
fills_no_other_slice : (old new : SliceWriter) (bytes : List ℕ) → ¬ (new.buffer.ghost_name ≡ old.buffer.ghost_name)
    → ¬ (Fills old bytes new)
fills_no_other_slice old new bytes other h = other h.same_slice

-- ---- values and pairs

none_is_not_one : ¬ (ExactlyOne (λ (n : ℕ). n < 0))
none_is_not_one h = omega (arith, h.holds)

no_code_of_64_bits : (digest : List ℕ) → ¬ (IsPair (pair (2 ^ 63) digest))
no_code_of_64_bits digest h = omega (arith, h.in_range)

no_digest_of_256 : (code : ℕ) → ¬ (IsPair (pair code (256 ∷ [])))
no_digest_of_256 code h = omega (arith, All-head (λ byte. byte < 256) 256 [] h.are_bytes)
