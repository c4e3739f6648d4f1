-- Where the first error of an input is: its place is unique, since no value comes next there.
use Rattle.form.proofs.Common.{◌≡◌, ◌≢◌, ◌⊎◌, ◌+◌, ◌-◌, ℕ, ◌<◌, inl, inr, List, [], ◌++◌, length, length-append, append-nil, Some, refl, sym, ap, subst, ◌∙◌, arith, AreParts, IsOutOfMemory, Determine, Exclude, IsFailed, IsTruncated, IsUndecided, ReadStops, FormError}
use Rattle.multihash.specs.Bytes.{IsStrictPrefix}
use Rattle.form.specs.Located.{IsAt, IsFirstError}
use Rattle.form.specs.declared.located.LocatedError.{LocatedError}
use Rattle.form.proofs.WholeLemmas.{Next, parts_compared, known_is, longer, no_bytes, stopped}

module _ {A : Type 0} {IsForm : A → List ℕ → Type 0} {Rejects : FormError → List ℕ → Type 0} {Same : A → A → Type 0}
    (unique : (x y : A) → Determine (IsForm x) (IsForm y) (Same x y))
    (some : (x : A) (bytes : List ℕ) → IsForm x bytes → 0 < length bytes)
    (not_both : (x : A) (e : FormError) → Exclude (IsForm x) (Rejects e))
    (once : (e f : FormError) → Determine (Rejects e) (Rejects f) (e ≡ f))
    (rejects_some : (e : FormError) (bytes : List ℕ) → Rejects e bytes → 0 < length bytes) where
  -- values up to where no value comes next: as many, with the same rest
  same_place : (xs ys : List A) (a b r s : List ℕ) → AreParts IsForm xs a → AreParts IsForm ys b → a ++ r ≡ b ++ s
      → ¬ (Next IsForm r) → ¬ (Next IsForm s) → (length xs ≡ length ys) × (r ≡ s)
  same_place xs ys a b r s are also cut last end = elim (parts_compared unique some xs ys a r b s are also cut) [
    | inl (_, rest, long) ↦ (long, rest)
    | inr (inl (_, next)) ↦ absurd (last next)
    | inr (inr (over, _)) ↦ elim (parts_compared unique some ys xs b s a r also are (sym cut)) [
      | inl (_, _, long) ↦ absurd (omega (arith, over, long))
      | inr (inl (_, next)) ↦ absurd (end next)
      | inr (inr (less, _)) ↦ absurd (omega (arith, over, less))
    ]
  ]

  none_next : ¬ (Next IsForm [])
  none_next (x, part, rest, is, cut) = omega (arith, some x part is, ap length cut, length-append part rest)

  rejected_last : (e : FormError) (shown more : List ℕ) → Rejects e shown → ¬ (Next IsForm (shown ++ more))
  rejected_last e shown more rejects (x, part, rest, is, cut) = not_both x e part shown rest more is rejects (sym cut)

  truncated_last : (x : A) (part whole : List ℕ) → IsForm x whole → IsStrictPrefix part whole → ¬ (Next IsForm part)
  truncated_last x part whole is (more, strict, cut) (y, c, left, is_c, split) =
      strict (no_bytes left more (unique y x c whole (left ++ more) [] is_c is (longer part c left whole more split cut)).1)

  module _ (input : List ℕ) (y : LocatedError) (first : IsFirstError IsForm Rejects input y) where
    -- the error is where no value comes next, or it is out of memory
    located : (xs : List A) (front rest : List ℕ) → AreParts IsForm xs front → input ≡ front ++ rest → ¬ (Next IsForm rest)
        → IsFailed IsOutOfMemory y.error ⊎ ((length first.items ≡ length xs) × (first.rest ≡ rest))
    located xs front rest are cut end =
        let place = same_place first.items xs first.front front first.rest rest first.are_items are (sym first.parts ∙ cut) in
        elim first.cause [
          | inl memory ↦ inl memory
          | inr (inl (shown, more, rejects, split, _)) ↦
              inr (place (λ next. rejected_last y.error shown more rejects (subst (λ (l : List ℕ). Next IsForm l) split next)) end)
          | inr (inr (_, u, _)) ↦ inr (place (λ next. u.no_form next.0 next.1 next.2 next.4 next.3) end)
        ]

    -- the clause `found`
    pub found_memory : (xs : List A) → AreParts IsForm xs input → IsFailed IsOutOfMemory y.error
    found_memory xs are = elim (located xs input [] are (sym (append-nil input)) none_next) [
      | inl memory ↦ memory
      | inr (_, none) ↦ absurd (first.some none)
    ]

    at : (xs : List A) (front rest : List ℕ) (offset : ℕ) → length first.items ≡ length xs → first.rest ≡ rest → input ≡ front ++ rest
        → y.offset ≡ offset → IsAt y (length xs) (length front) offset
    at xs front rest offset many same cut is = (
      first.item ∙ many,
      omega (arith, first.start, ap length same, ap length cut, ap length first.parts, length-append {A = ℕ}),
      is,
    )

    -- the clause `rejected`
    pub rejected_at : (xs : List A) (e : FormError) (front shown more : List ℕ) → AreParts IsForm xs front → Rejects e shown
        → input ≡ front ++ (shown ++ more)
        → ((y.error ≡ e) × IsAt y (length xs) (length front) (length front + length shown)) ⊎ IsFailed IsOutOfMemory y.error
    rejected_at xs e front shown more are rejects cut = elim (located xs front (shown ++ more) are cut (rejected_last e shown more rejects)) [
      | inl memory ↦ inr memory
      | inr (many, same) ↦ elim first.cause [
        | inl memory ↦ inr memory
        | inr (inl (also, left, is, split, offset)) ↦
            let (one, rest) = once y.error e also shown left more is rejects (sym split ∙ same) in
            inl (
              one,
              at xs front (shown ++ more) (length front + length shown) many same cut
                  (omega (arith, offset, ap length same, ap length split, ap length rest, ap length cut, ap length first.parts, length-append {A = ℕ})),
            )
        | inr (inr (_, u, _)) ↦ absurd (u.no_error e shown more same rejects)
      ]
    ]

    -- the clause `truncated`
    pub truncated_at : (xs : List A) (x : A) (front part whole : List ℕ) → AreParts IsForm xs front → IsForm x whole
        → IsStrictPrefix part whole → input ≡ front ++ part
        → (IsFailed IsTruncated y.error × IsAt y (length xs) (length front) (length input)) ⊎ IsFailed IsOutOfMemory y.error
    truncated_at xs x front part whole are is strict cut = elim (located xs front part are cut (truncated_last x part whole is strict)) [
      | inl memory ↦ inr memory
      | inr (many, same) ↦ elim first.cause [
        | inl memory ↦ inr memory
        | inr (inl (also, left, rejects, split, offset)) ↦
            absurd (not_both x y.error whole also [] (left ++ strict.0) is rejects
            (sym (longer part also left whole strict.0 (sym same ∙ split) strict.2)))
        | inr (inr (ends, u, offset)) ↦ inl (ends, at xs front part (length input) many same cut offset)
      ]
    ]

  -- values that fill the input leave no place for an error
  pub none_rejected : (input : List ℕ) (ys xs : List A) → AreParts IsForm ys input → (e : FormError) (front shown more : List ℕ)
      → AreParts IsForm xs front → Rejects e shown → input ≡ front ++ (shown ++ more) → ⊥
  none_rejected input ys xs all e front shown more are rejects cut =
      let (_, same) = same_place ys xs input front [] (shown ++ more) all are (append-nil input ∙ cut) none_next
      (rejected_last e shown more rejects) in
      omega (arith, rejects_some e shown rejects, ap length same, length-append shown more)

  pub none_truncated : (input : List ℕ) (ys xs : List A) → AreParts IsForm ys input → (x : A) (front part whole : List ℕ)
      → AreParts IsForm xs front → IsForm x whole → IsStrictPrefix part whole → part ≢ [] → input ≡ front ++ part → ⊥
  none_truncated input ys xs all x front part whole are is strict left cut =
      let (_, same) = same_place ys xs input front [] part all are (append-nil input ∙ cut) none_next
      (truncated_last x part whole is strict) in
      left (sym same)

-- why reading failed at a place, from the clause `err` of `read`, and the offset that was computed
pub cause_of : {A : Type 0} {IsForm : A → List ℕ → Type 0} {Rejects : FormError → List ℕ → Type 0}
    → ((e : FormError) (bytes : List ℕ) → Rejects e bytes → ¬ (IsFailed IsTruncated e))
    → (input front rest new : List ℕ) (e : FormError) (offset : ℕ) → input ≡ front ++ rest
    → ReadStops IsForm Rejects 0 0 e (Some rest) (Some new)
    → (IsFailed IsTruncated e × (offset ≡ length input)) ⊎ ((¬ (IsFailed IsTruncated e)) × (offset ≡ length input - length new))
    → IsFailed IsOutOfMemory e
    ⊎ ((shown : List ℕ) × (more : List ℕ) × Rejects e shown × (rest ≡ shown ++ more) × (offset ≡ length front + length shown))
    ⊎ (IsFailed IsTruncated e × IsUndecided IsForm Rejects rest × (offset ≡ length input))
cause_of late input front rest new e offset parts stops known = elim (stopped rest refl refl stops) [
  | inl memory ↦ inl memory
  | inr (inl (shown, left, rejects, is_left, cut)) ↦ elim known [
    | inl (ends, _) ↦ absurd (late e shown rejects ends)
    | inr (_, is) ↦ inr (inl (
      shown,
      left,
      rejects,
      cut,
      omega (arith, is, ap length (known_is new left is_left), ap length cut, ap length parts, length-append {A = ℕ}),
    ))
  ]
  | inr (inr (ends, u)) ↦ elim known [
    | inl (_, is) ↦ inr (inr (ends, u, is))
    | inr (other, _) ↦ absurd (other ends)
  ]
]
