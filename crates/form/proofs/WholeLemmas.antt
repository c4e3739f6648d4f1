-- Reading a value that comes next, an input that ends within it, or items, one after another: for `whole`, `all`, `located` and
-- `stream`.
use Rattle.form.proofs.Common.{◌≡◌, ℕ, ◌<◌, ◌⊎◌, inl, inr, List, [], ◌∷◌, ◌++◌, length, Option, Some, Bool, true, refl, sym, ap, subst, ◌∙◌, append_assoc, append-nil, arith, length-append, ◌==◌, false, Result, Ok, Err, IfOk, IfErr, IsErrAnd, nil_from_length, Consumes, ConsumesSome, IsOutOfMemory, Determine, Exclude, AreParts, AreSame, IsFailed, IsTruncated, IsUndecided, StopsAt, ReadStops, FormError}
use Rattle.std.proofs.lemmas.Bool.{eqb-true, eq-eqb}
use Rattle.multihash.specs.Bytes.{IsStrictPrefix}
use Rattle.multihash.proofs.ReadingLemmas.{Consumes-known}

-- a part of some bytes, and what follows it in them
pub longer : (part c left bytes more : List ℕ) → part ≡ c ++ left → bytes ≡ part ++ more → c ++ (left ++ more) ≡ bytes ++ []
longer part c left bytes more split cut =
    sym (append_assoc c left more) ∙ ap (λ (l : List ℕ). l ++ more) (sym split) ∙ sym cut ∙ sym (append-nil bytes)

pub no_bytes : (a b : List ℕ) → a ++ b ≡ [] → b ≡ []
no_bytes [] b none = none
no_bytes (y ∷ a) b none = cc

-- why reading a known input stopped, if the reader did not fail
pub stopped : {A : Type 0} {IsForm : A → List ℕ → Type 0} {Rejects : FormError → List ℕ → Type 0} {before after : ℕ} {e : FormError}
    {old new : Option (List ℕ)} (input : List ℕ) → after ≡ before → old ≡ Some input → ReadStops IsForm Rejects before after e old new
    → IsFailed IsOutOfMemory e
    ⊎ ((shown : List ℕ) × (left : List ℕ) × Rejects e shown × (new ≡ Some left) × (input ≡ shown ++ left))
    ⊎ (IsFailed IsTruncated e × IsUndecided IsForm Rejects input)
stopped {IsForm = IsForm} {Rejects = Rejects} {before = before} {after = after} {e = e} {new = new} input same at stops = elim stops.why [
  | inl memory ↦ inl memory
  | inr known ↦
      let s : StopsAt IsForm Rejects (before < after) e input new = rw at at known in
      elim s.cause [
        | inl rejects ↦ let (left, is_left, cut) = Consumes-known input s.consumed new s.consumes in
            inr (inl (s.consumed, left, rejects, is_left, cut))
        | inr (inl (failed, _)) ↦ absurd (omega (arith, failed, same))
        | inr (inr ends) ↦ inr (inr ends)
      ]
]

-- the clause `truncated` of `read`
pub form_truncated : {A : Type 0} {IsForm : A → List ℕ → Type 0} {Rejects : FormError → List ℕ → Type 0} {Same : A → A → Type 0}
    → ((x y : A) → Determine (IsForm x) (IsForm y) (Same x y)) → ((x : A) (e : FormError) → Exclude (IsForm x) (Rejects e))
    → {before after : ℕ} → after ≡ before → {old : Option (List ℕ)} (new : Option (List ℕ)) (r : Result A FormError)
    → IfOk r (λ x. ConsumesSome (IsForm x) old new) → IfErr r (λ e. ReadStops IsForm Rejects before after e old new)
    → (x : A) (bytes part : List ℕ) → IsForm x bytes → IsStrictPrefix part bytes → old ≡ Some part
    → IsErrAnd r (λ e. IsFailed IsTruncated e ⊎ IsFailed IsOutOfMemory e)
form_truncated unique not_both same new (Ok y) (c, is_c, consumes) err x bytes part is (more, some, cut) at =
    let (left, _, split) = Consumes-known part c new (subst (λ (o : Option (List ℕ)). Consumes o c new) at consumes) in
    let told = unique y x c bytes (left ++ more) [] is_c is (longer part c left bytes more split cut) in
    absurd (some (no_bytes left more told.1))
form_truncated unique not_both same new (Err e) ok err x bytes part is (more, some, cut) at = elim (stopped part same at err) [
  | inl memory ↦ inr memory
  | inr (inl (shown, left, rejects, _, split)) ↦
      absurd (not_both x e bytes shown [] (left ++ more) is rejects (sym (longer part shown left bytes more split cut)))
  | inr (inr (ends, _)) ↦ inl ends
]

-- two known inputs that are equal
pub known_is : (a b : List ℕ) → Some a ≡ Some b → a ≡ b
known_is a b is = cc

-- a list that `is_empty` is true of
pub empty_is : (l : List ℕ) (b : Bool) → b ≡ (length l == 0) → b ≡ true → l ≡ []
empty_is l b is holds = nil_from_length l (eqb-true (length l) 0 (sym is ∙ holds))

-- a list that `is_empty` is false of
pub not_empty : (l : List ℕ) (b : Bool) → b ≡ (length l == 0) → b ≡ false → l ≡ [] → ⊥
not_empty l b is fails none =
    let same : b ≡ true = is ∙ eq-eqb (length l) 0 (ap length none) in
    cc

-- ---- items, one after another

-- the part of some item comes next
abbrev pub Next : {A : Type 0} → (A → List ℕ → Type 0) → List ℕ → Type 0
Next {A = A} IsPart left = (x : A) × (part : List ℕ) × (rest : List ℕ) × IsPart x part × (left ≡ part ++ rest)

-- Items at the start of one input: they are the same, and so is what follows them; or there are more of the others, and one
-- comes next; or of these, and then something follows the others
module _ {A : Type 0} {IsPart : A → List ℕ → Type 0} {Same : A → A → Type 0}
    (unique : (x y : A) → Determine (IsPart x) (IsPart y) (Same x y))
    (some : (x : A) (bytes : List ℕ) → IsPart x bytes → 0 < length bytes) where
  pub parts_compared : (found xs : List A) (a left bytes more : List ℕ) → AreParts IsPart found a → AreParts IsPart xs bytes
      → a ++ left ≡ bytes ++ more
      → (AreSame Same found xs × (left ≡ more) × (length found ≡ length xs))
      ⊎ ((length found < length xs) × Next IsPart left) ⊎ ((length xs < length found) × (0 < length more))
  parts_compared [] [] a left bytes more none all cut =
      inl (tt, sym (ap (λ (l : List ℕ). l ++ left) none) ∙ cut ∙ ap (λ (l : List ℕ). l ++ more) all, refl)
  parts_compared [] (x ∷ xs) a left bytes more none (part, rest, is, _, split) cut =
      let follows : left ≡ part ++ (rest ++ more) =
      sym (ap (λ (l : List ℕ). l ++ left) none) ∙ cut ∙ ap (λ (l : List ℕ). l ++ more) split ∙ append_assoc part rest more in
      inr (inl (omega arith, (x, part, rest ++ more, is, follows)))
  parts_compared (f ∷ found) [] a left bytes more (part, others, is, _, split) all cut =
      inr (inr (
        omega arith,
        omega (arith, some f part is, ap length split, ap length all, ap length cut, length-append {A = ℕ}),
      ))
  parts_compared (f ∷ found) (x ∷ xs) a left bytes more (p, others, is_p, are, split) (q, rest, is_q, are_too, split_too) cut =
      let joined : p ++ (others ++ left) ≡ q ++ (rest ++ more) =
      sym (append_assoc p others left) ∙ ap (λ (l : List ℕ). l ++ left) (sym split) ∙ cut
      ∙ ap (λ (l : List ℕ). l ++ more) split_too ∙ append_assoc q rest more in
      let told = unique f x p q (others ++ left) (rest ++ more) is_p is_q joined in
      elim (parts_compared found xs others left rest more are are_too told.1) [
        | inl all ↦ inl ((told.0, all.0), all.1, omega (arith, all.2))
        | inr (inl next) ↦ inr (inl (omega (arith, next.0), next.1))
        | inr (inr over) ↦ inr (inr (omega (arith, over.0), over.1))
      ]
