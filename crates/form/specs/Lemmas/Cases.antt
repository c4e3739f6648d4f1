-- Proved lemmas, which no contract cites: the laws of cases and of a choice of them.
use Rattle.std.proofs.Common.{◌≡◌, ◌<◌, inl, inr, ℕ, List, refl, sym, ◌∙◌}
use Rattle.multihash.specs.Varint.{IsVarint, varint_limit}
use Rattle.form.specs.Form.{Then}
use Rattle.form.specs.Lemmas.Parts.{Determine, Exclude, next_unique, then_one, number_unique, number_one}
use Rattle.form.specs.Lemmas.Rejected.{IsNotTruncated, here_unique}
use Rattle.form.specs.Rejecting.{RejectsCase, RejectsNoCase}
use Rattle.form.specs.Case.{case_tag, IsCaseValue, AreSameCase}
use Rattle.form.specs.declared.error.FormError.{FormError}
use Rattle.form.specs.declared.error.FormError.TheVariants.{Failed, OtherTag}
use Rattle.form.specs.declared.case.Case.{Case}
use Rattle.form.specs.declared.case.Case.TheVariants.{This, Other}
use Rattle.form.specs.declared.case.Others.{Others}

module _ {A C : Type 0} {M : ℕ} {bound : _} where
  pub case_in_range : (tag_of : C → ℕ) → ((y : C) → tag_of y < varint_limit) → (x : Case A M C bound)
      → case_tag tag_of x < varint_limit
  case_in_range tag_of below (This x) = x.in_range
  case_in_range tag_of below (Other y) = below y.case

  module _ (SameA : A → A → Type 0) (SameC : C → C → Type 0) where
    pub case_same_tag : (tag_of : C → ℕ) → ((x y : C) → SameC x y → tag_of x ≡ tag_of y)
        → (x y : Case A M C bound) → AreSameCase SameA SameC x y → case_tag tag_of x ≡ case_tag tag_of y
    case_same_tag tag_of one (This x) (This y) same = refl
    case_same_tag tag_of one (Other x) (Other y) same = one x.case y.case same
    case_same_tag tag_of one _ _ same = absurd same

  module _ {IsA : A → List ℕ → Type 0} {IsC : C → List ℕ → Type 0} where
    pub case_exists : ((x : A) → (bytes : List ℕ) × IsA x bytes) → ((x : C) → (bytes : List ℕ) × IsC x bytes)
        → (x : Case A M C bound) → (bytes : List ℕ) × IsCaseValue IsA IsC x bytes
    case_exists this other (This x) = this x.value
    case_exists this other (Other y) = other y.case

    pub case_one : {SameA : A → A → Type 0} {SameC : C → C → Type 0}
        → ((x y : A) (a b : List ℕ) → SameA x y → IsA x a → IsA y b → a ≡ b)
        → ((x y : C) (a b : List ℕ) → SameC x y → IsC x a → IsC y b → a ≡ b)
        → (x y : Case A M C bound) (a b : List ℕ) → AreSameCase SameA SameC x y → IsCaseValue IsA IsC x a
        → IsCaseValue IsA IsC y b → a ≡ b
    case_one this other (This x) (This y) a b same = this x.value y.value a b same
    case_one this other (Other x) (Other y) a b same = other x.case y.case a b same
    case_one this other _ _ a b same = absurd same

    module _ (tag_of : C → ℕ) (differs : (y : Others C M bound) → ¬ (tag_of y.case ≡ M)) where
      pub case_unique : {SameA : A → A → Type 0} {SameC : C → C → Type 0}
          → ((x y : A) → Determine (IsA x) (IsA y) (SameA x y)) → ((x y : C) → tag_of x ≡ tag_of y → Determine (IsC x) (IsC y) (SameC x y))
          → (x y : Case A M C bound) → case_tag tag_of x ≡ case_tag tag_of y
          → Determine (IsCaseValue IsA IsC x) (IsCaseValue IsA IsC y) (AreSameCase SameA SameC x y)
      case_unique this other (This x) (This y) tags = this x.value y.value
      case_unique this other (This x) (Other y) tags = absurd (differs y (sym tags))
      case_unique this other (Other x) (This y) tags = absurd (differs x tags)
      case_unique this other (Other x) (Other y) tags = other x.case y.case tags

      pub case_not_both : (RejectsA : FormError → List ℕ → Type 0) (RejectsC : ℕ → FormError → List ℕ → Type 0)
          → ((x : A) (e : FormError) → Exclude (IsA x) (RejectsA e))
          → ((x : C) (e : FormError) → Exclude (IsC x) (RejectsC (tag_of x) e)) → (x : Case A M C bound) (e : FormError)
          → Exclude (IsCaseValue IsA IsC x) (RejectsCase RejectsA RejectsC M (case_tag tag_of x) e)
      case_not_both RejectsA RejectsC this other (This x) e a b r s is (inl (_, rejects)) cut =
          this x.value e a b r s is rejects cut
      case_not_both RejectsA RejectsC this other (This x) e a b r s is (inr (not, _)) cut = not refl
      case_not_both RejectsA RejectsC this other (Other y) e a b r s is (inl (tag, _)) cut = differs y tag
      case_not_both RejectsA RejectsC this other (Other y) e a b r s is (inr (_, rejects)) cut =
          other y.case e a b r s is rejects cut

module _ (M : ℕ) (Rejects : FormError → List ℕ → Type 0) (RejectsOther : ℕ → FormError → List ℕ → Type 0) where
  pub case_rejects_unique : ((e f : FormError) → Determine (Rejects e) (Rejects f) (e ≡ f))
      → ((n : ℕ) (e f : FormError) → Determine (RejectsOther n e) (RejectsOther n f) (e ≡ f)) → (n : ℕ) (e f : FormError)
      → Determine (RejectsCase Rejects RejectsOther M n e) (RejectsCase Rejects RejectsOther M n f) (e ≡ f)
  case_rejects_unique this other n e f a b r s (inl (_, x)) (inl (_, y)) = this e f a b r s x y
  case_rejects_unique this other n e f a b r s (inl (is, _)) (inr (not, _)) = absurd (not is)
  case_rejects_unique this other n e f a b r s (inr (not, _)) (inl (is, _)) = absurd (not is)
  case_rejects_unique this other n e f a b r s (inr (_, x)) (inr (_, y)) = other n e f a b r s x y

  pub case_not_truncated : ((e : FormError) (rest : List ℕ) → Rejects e rest → IsNotTruncated e)
      → ((n : ℕ) (e : FormError) (rest : List ℕ) → RejectsOther n e rest → IsNotTruncated e)
      → (n : ℕ) (e : FormError) (rest : List ℕ) → RejectsCase Rejects RejectsOther M n e rest → IsNotTruncated e
  case_not_truncated this other n e rest (inl (_, rejects)) = this e rest rejects
  case_not_truncated this other n e rest (inr (_, rejects)) = other n e rest rejects

-- the same of the last case, which has the tag M
pub last_not_both : (M : ℕ) {IsValue : List ℕ → Type 0} (Rejects : FormError → List ℕ → Type 0) (e : FormError)
    → Exclude IsValue (Rejects e) → Exclude IsValue (RejectsCase Rejects RejectsNoCase M M e)
last_not_both M Rejects e own a b r s is (inl (_, rejects)) cut = own a b r s is rejects cut
last_not_both M Rejects e own a b r s is (inr (not, _)) cut = not refl

pub no_case_rejects_unique : (n : ℕ) (e f : FormError) → Determine (RejectsNoCase n e) (RejectsNoCase n f) (e ≡ f)
no_case_rejects_unique n e f a b r s (is_e, none) (is_f, also_none) =
    here_unique (OtherTag n) e f a b r s is_e is_f none also_none

pub no_case_not_truncated : (n : ℕ) (e : FormError) (rest : List ℕ) → RejectsNoCase n e rest → IsNotTruncated e
no_case_not_truncated n e rest (is, _) (error, also, _) =
    let same : OtherTag n ≡ Failed error = sym is ∙ also in cc

-- ---- the tag, and what follows it

module _ {C : Type 0} (tag_of : C → ℕ) {IsC : C → List ℕ → Type 0} {Same : C → C → Type 0} where
  pub choice_unique : ((x y : C) → tag_of x ≡ tag_of y → Determine (IsC x) (IsC y) (Same x y)) → (x y : C)
      → Determine (Then (IsVarint (tag_of x)) (IsC x)) (Then (IsVarint (tag_of y)) (IsC y)) (Same x y)
  choice_unique unique x y = next_unique (number_unique (tag_of x) (tag_of y)) (unique x y)

  pub choice_one : ((x y : C) → Same x y → tag_of x ≡ tag_of y)
      → ((x y : C) (a b : List ℕ) → Same x y → IsC x a → IsC y b → a ≡ b) → (x y : C) (a b : List ℕ) → Same x y
      → Then (IsVarint (tag_of x)) (IsC x) a → Then (IsVarint (tag_of y)) (IsC y) b → a ≡ b
  choice_one same_tag one x y a b same =
      then_one a b (λ c d. number_one (tag_of x) (tag_of y) c d (same_tag x y same)) (λ c d. one x y c d same)
