-- A case of a choice: what the value is, by its tag.
use Rattle.std.specs.Prelude.{ℕ, List}
use Rattle.form.specs.declared.case.Case.{Case}
use Rattle.form.specs.declared.case.Case.TheVariants.{This, Other}

-- the tag M, or that of the other case
abbrev pub case_tag : {A C : Type 0} {M : ℕ} {b : _} → (C → ℕ) → Case A M C b → ℕ
case_tag {M = M} tag_of (This x) = M
case_tag tag_of (Other y) = tag_of y.case

-- the encoding of the value, without its tag
abbrev pub IsCaseValue : {A C : Type 0} {M : ℕ} {b : _} → (A → List ℕ → Type 0) → (C → List ℕ → Type 0)
    → Case A M C b → List ℕ → Type 0
IsCaseValue IsA IsC (This x) = IsA x.value
IsCaseValue IsA IsC (Other y) = IsC y.case

-- the same case, with the same value
abbrev pub AreSameCase : {A C : Type 0} {M : ℕ} {b : _} → (A → A → Type 0) → (C → C → Type 0)
    → Case A M C b → Case A M C b → Type 0
AreSameCase SameA SameC (This x) (This y) = SameA x.value y.value
AreSameCase SameA SameC (Other x) (Other y) = SameC x.case y.case
AreSameCase SameA SameC _ _ = ⊥
