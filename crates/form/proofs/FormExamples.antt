-- Examples of the definitions of formats: what one field or case alone excludes. What the laws and `found`, `truncated` and
-- `rejected` of `read` exclude has none.
use Rattle.form.proofs.Common.{◌≡◌, ℕ, List, [], ◌∷◌, length, Option, Some, inl, inr, refl, sym, ap, subst, arith, ⊤, codes, of_varint, insufficient, IsFailed, form_error_text, StopsAt, ReadStops, IsReadError, IsWholeError, FormError}
use Rattle.std.specs.Fmt.{digits}
use Rattle.multihash.proofs.ReadingLemmas.{all_read, Consumes-known}
use Rattle.form.specs.Stream.{AppendsUpTo, AppendsThenStops}
use Rattle.form.specs.declared.error.FormError.TheVariants.{Failed, TooMany, TooLong, OtherTag, Trailing}

-- the reader fails only before anything was decided
failed_later : ¬ (StopsAt (λ (x : ℕ) b. b ≡ 1 ∷ []) (λ e b. ⊥) ⊤ (TooMany 7) (1 ∷ []) (Some []))
failed_later s = let cut : 1 ∷ [] ≡ s.consumed = all_read (1 ∷ []) s.consumed (Some []) s.consumes refl in
    elim s.cause [
      | inl rejects ↦ rejects
      | inr (inl (_, u)) ↦ u.no_form 0 (1 ∷ []) [] (sym cut) refl
      | inr (inr (_, u)) ↦ u.no_form 0 (1 ∷ []) [] refl refl
    ]

-- an input that starts with an encoding is not truncated
whole_is_not_truncated : ¬ (IsWholeError (λ (x : ℕ) b. b ≡ 1 ∷ []) (λ e b. ⊥) (Failed (of_varint insufficient)) (1 ∷ []))
whole_is_not_truncated (inl (cause, is, memory)) = cc
whole_is_not_truncated (inr (inl rejected)) = rejected.2
whole_is_not_truncated (inr (inr (inl (_, u)))) = u.no_form 0 (1 ∷ []) [] refl refl
whole_is_not_truncated (inr (inr (inr more))) = let is = more.6 in cc

too_many_is_not_failed : (n : ℕ) → ¬ (IsFailed (λ _. ⊤) (TooMany n))
too_many_is_not_failed n (error, is, _) = cc

texts : (form_error_text (TooMany 12) ≡ codes "too many items: 12")
    × (form_error_text (TooLong 77) ≡ codes "a block is too long, in bytes: 77")
    × (form_error_text (OtherTag 2) ≡ codes "unexpected tag: 2")
    × (form_error_text (Trailing 3) ≡ codes "trailing bytes: 3")
unfolding digits
texts = (refl, refl, refl, refl)

-- the byte that is the value
abbrev IsByte : ℕ → List ℕ → Type 0
IsByte x bytes = bytes ≡ x ∷ []

-- fewer values are read only at the end of the input
stopped_early : ¬ (AppendsUpTo IsByte 1 [] [] (Some (1 ∷ [])) (Some (1 ∷ [])))
stopped_early r = elim r.number [
  | inl all ↦ omega (arith, all, ap length r.reads.appended)
  | inr (few, ended) ↦ let none : ◌≡◌ {A = List ℕ} (1 ∷ []) [] = ended in cc
]

one_too_many : ¬ (AppendsUpTo IsByte 0 [] (1 ∷ []) (Some (1 ∷ [])) (Some []))
one_too_many r = elim r.number [
  | inl all ↦ omega (arith, all, ap length r.reads.appended)
  | inr (few, ended) ↦ omega (arith, few)
]

-- no value was asked for
nothing_to_read : (e : FormError) → ¬ (AppendsThenStops IsByte (λ f b. ⊥) 0 [] [] 0 0 (Some []) (Some []) e)
nothing_to_read e r = omega (arith, r.fewer)

-- no byte shows the error, and a slice does not fail
no_cause : (input : List ℕ) (left : Option (List ℕ)) → ¬ (ReadStops IsByte (λ f b. ⊥) 0 0 (TooMany 7) (Some input) left)
no_cause input left stops = elim stops.why [
  | inl memory ↦ too_many_is_not_failed 7 (memory.0, memory.1, tt)
  | inr s ↦ elim s.cause [
    | inl rejects ↦ rejects
    | inr (inl (failed, _)) ↦ omega (arith, failed)
    | inr (inr (ends, _)) ↦ too_many_is_not_failed 7 (ends.0, ends.1, tt)
  ]
]

no_read_error : ¬ (IsReadError IsByte (λ f b. ⊥) (TooMany 7) [])
no_read_error (left, stops) = no_cause [] left stops

no_reason : ¬ (AppendsThenStops IsByte (λ f b. ⊥) 1 [] [] 0 0 (Some []) (Some []) (TooMany 7))
no_reason r =
    let (c, _, consumes) = r.reads.consumed in
    let (left, is_left, _) = Consumes-known [] c r.following consumes in
    no_cause left (Some []) (subst (λ o. ReadStops IsByte (λ f b. ⊥) 0 0 (TooMany 7) o (Some [])) is_left r.failed)
