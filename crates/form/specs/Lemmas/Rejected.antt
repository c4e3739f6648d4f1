-- Proved lemmas, which no contract cites: the laws of what is rejected. None of it is at the start of an input that starts with
-- an encoding; an input has only one error, which is shown at one place, and not before the first byte; and no such error says
-- that the input is truncated.
use Rattle.std.proofs.Common.{◌≡◌, ◌<◌, ◌≤◌, ◌⊎◌, inl, inr, ℕ, zero, suc, List, [], ◌∷◌, ◌++◌, length, refl, sym, ap, ◌∙◌}
use Rattle.std.proofs.Common.{append_assoc, append-nil, subst, arith}
use Rattle.multihash.specs.Pair.{Pair, FitsBuffer}
use Rattle.multihash.specs.Varint.{VarintError, insufficient, IsVarint, IsInsufficient}
use Rattle.multihash.specs.Verdict.{Verdict, accepted, malformed, unexpected_eof, IsIncomplete}
use Rattle.multihash.specs.Outcome.{IsErrorOf}
use Rattle.multihash.specs.Refusal.{Refusal, of_varint}
use Rattle.multihash.specs.Encoding.{IsEncoding}
use Rattle.multihash.specs.Streams.{AreParts}
use Rattle.multihash.specs.Bytes.{IsStrictPrefix}
use Rattle.multihash.proofs.VarintLemmas.{varint_some}
use Rattle.multihash.proofs.EncodingLemmas.{same_cut}
use Rattle.multihash.proofs.VerdictLemmas.{verdict_unique}
use Rattle.multihash.proofs.SettlingLemmas.{compare_prefixes, error_kept, error_of_part, verdict_kept}
use Rattle.multihash.proofs.CallingLemmas.{front_error_unique, encoding_no_error, error_of_unique}
use Rattle.form.specs.Form.{Then, IsBlock}
use Rattle.form.specs.FormError.{IsFailed, IsTruncated}
use Rattle.form.specs.Lemmas.Parts.{Determine, Exclude, next_unique, then_some, number_unique}
use Rattle.form.specs.Rejecting.{IsShortest, ShowsMalformed, ShowsError, RejectsNumber, RejectsMultihash}
use Rattle.form.specs.Rejecting.{RejectsNumberThen, RejectsItem, RejectsOtherTag, RejectsTooLong, RejectsCounted}
use Rattle.form.specs.declared.error.FormError.{FormError}
use Rattle.form.specs.declared.error.FormError.TheVariants.{Failed, TooMany, TooLong, OtherTag}

-- the error is not that the input is truncated
abbrev pub IsNotTruncated : FormError → Type 0
IsNotTruncated e = ¬ (IsFailed IsTruncated e)

-- ---- the shortest bytes that show an error

module _ (P : Refusal → List ℕ → Type 0) (kept : (e : Refusal) (x more : List ℕ) → P e x → P e (x ++ more))
    (one : (e f : Refusal) (x : List ℕ) → P e x → P f x → e ≡ f) where
  -- no strict prefix of the shortest bytes that show an error shows one
  sooner : (e f : Refusal) (a b : List ℕ) → P e a → IsShortest (P f) b → IsStrictPrefix a b → ⊥
  sooner e f a b holds y (more, some, cut) =
      let same : e ≡ f = one e f b (subst (P e) (sym cut) (kept e a more holds)) y.holds in
      y.shortest a (more, some, cut) (subst (λ (g : Refusal). P g a) same holds)

  -- are the same at the start of one input, if an error that is shown stays, and is the only one
  shown_unique : (e f : FormError) → Determine (λ a. IsFailed (λ c. IsShortest (P c) a) e) (λ b. IsFailed (λ d. IsShortest (P d) b) f) (e ≡ f)
  shown_unique e f a b r s (c, is_c, x) (d, is_d, y) cut =
      elim (compare_prefixes a b r s cut) [
        | inl same ↦
            (is_c ∙ ap Failed (one c d b (subst (P c) same x.holds) y.holds) ∙ sym is_d, (same_cut a b r s (ap length same) cut).1)
        | inr (inl strict) ↦ absurd (sooner c d a b x.holds y strict)
        | inr (inr strict) ↦ absurd (sooner d c b a y.holds x strict)
      ]

-- ---- numbers

incomplete_is : (error : VarintError) → IsIncomplete (malformed error) → error ≡ insufficient
incomplete_is insufficient ends = refl
incomplete_is _ ends = absurd ends

-- a malformed varint stays malformed
pub malformed_kept : (e : Refusal) (x more : List ℕ) → ShowsMalformed e x → ShowsMalformed e (x ++ more)
malformed_kept e x more (error, named, whole, bad) =
    (error, named, whole, error_kept error x more (λ ends. whole (incomplete_is error ends)) bad)

nothing : IsInsufficient []
nothing = record { few = omega arith; all_continuation = λ k d below. absurd (omega (arith, below)) }

malformed_once : (e f : Refusal) (x : List ℕ) → ShowsMalformed e x → ShowsMalformed f x → e ≡ f
malformed_once e f x (a, is_a, _, bad) (b, is_b, _, also) = front_error_unique x e f (a, is_a, bad) (b, is_b, also)

-- an input that ends within a varint shows no error
pub not_shown : (x : List ℕ) → IsInsufficient x → (e : Refusal) → ShowsMalformed e x → ⊥
not_shown x ends e (error, named, whole, bad) =
    let same : of_varint insufficient ≡ e =
    front_error_unique x (of_varint insufficient) e (insufficient, refl, ends) (error, named, bad) in
    let both : of_varint insufficient ≡ of_varint error = same ∙ named in
    whole (cc)

pub number_rejects_some : (e : FormError) (bytes : List ℕ) → RejectsNumber e bytes → 0 < length bytes
number_rejects_some e (x ∷ bytes) rejects = omega arith
number_rejects_some e [] (cause, _, x) = absurd (not_shown [] nothing cause x.holds)

pub number_not_both : (n : ℕ) (e : FormError) → Exclude (IsVarint n) (RejectsNumber e)
number_not_both n e a b r s is (cause, _, x) cut =
    let (error, _, whole, bad) = x.holds in whole (error_of_part n a r b s error is cut bad)

pub number_rejects_unique : (e f : FormError) → Determine (RejectsNumber e) (RejectsNumber f) (e ≡ f)
number_rejects_unique = shown_unique ShowsMalformed malformed_kept malformed_once

pub number_not_truncated : (e : FormError) (bytes : List ℕ) → RejectsNumber e bytes → IsNotTruncated e
number_not_truncated e bytes (cause, is, x) (error, also, ends) =
    let (named, is_named, whole, _) = x.holds in
    let same : Failed cause ≡ Failed error = sym is ∙ also in
    elim ends [
      | inl short ↦ whole (cc)
      | inr (fault, io, _) ↦ cc
    ]

-- ---- multihashes

verdict_not_truncated : (v : Verdict) (r : Refusal) → ¬ (IsIncomplete v) → IsErrorOf r v → ¬ (IsTruncated r)
verdict_not_truncated (accepted p) r late names ends = names
verdict_not_truncated (malformed insufficient) r late names ends = late tt
verdict_not_truncated unexpected_eof r late names ends = late tt
verdict_not_truncated _ r late names (inl short) = cc
verdict_not_truncated _ r late names (inr (fault, io, _)) = cc

module _ (S : ℕ) where
  shown_kept : (e : Refusal) (x more : List ℕ) → ShowsError S e x → ShowsError S e (x ++ more)
  shown_kept e x more (v, has, late, names) = (v, verdict_kept S x more v late has, late, names)

  shown_once : (e f : Refusal) (x : List ℕ) → ShowsError S e x → ShowsError S f x → e ≡ f
  shown_once e f x (v, has, _, names) (w, also, _, also_names) =
      error_of_unique e f w (subst (IsErrorOf e) (verdict_unique S x v w has also) names) also_names

  pub multihash_rejects_some : (e : FormError) (bytes : List ℕ) → RejectsMultihash S e bytes → 0 < length bytes
  multihash_rejects_some e (x ∷ bytes) rejects = omega arith
  multihash_rejects_some e [] (cause, _, x) =
      let (v, has, late, _) = x.holds in
      absurd (late (subst IsIncomplete (verdict_unique S [] (malformed insufficient) v (inl nothing) has) tt))

  pub multihash_not_both : (p : Pair) → FitsBuffer S p → (e : FormError) → Exclude (IsEncoding p) (RejectsMultihash S e)
  multihash_not_both p fits e a b r s is (cause, _, x) cut =
      let (v, has, late, names) = x.holds in
      encoding_no_error S p a r (b ++ s) v cause is fits (sym cut) (verdict_kept S b s v late has) names

  pub multihash_rejects_unique : (e f : FormError) → Determine (RejectsMultihash S e) (RejectsMultihash S f) (e ≡ f)
  multihash_rejects_unique = shown_unique (ShowsError S) shown_kept shown_once

  pub multihash_not_truncated : (e : FormError) (bytes : List ℕ) → RejectsMultihash S e bytes → IsNotTruncated e
  multihash_not_truncated e bytes (cause, is, x) (error, also, ends) =
      let (v, _, late, names) = x.holds in
      let same : Failed cause ≡ Failed error = sym is ∙ also in
      let one : cause ≡ error = cc in
      verdict_not_truncated v error late (subst (λ (r : Refusal). IsErrorOf r v) one names) ends

-- ---- two parts, one after the other

pub regroup : (a b r whole cut : List ℕ) → whole ≡ a ++ b → whole ++ r ≡ cut → a ++ (b ++ r) ≡ cut
regroup a b r whole cut parts is = sym (append_assoc a b r) ∙ ap (λ (l : List ℕ). l ++ r) (sym parts) ∙ is

-- `RejectsInTurn` of one error: bytes of which P holds, or a first part and then bytes of which Q holds
abbrev InTurn : {A : Type 0} → (A → List ℕ → Type 0) → (List ℕ → Type 0) → (A → List ℕ → Type 0) → List ℕ → Type 0
InTurn {A = A} IsFirst P Q bytes = P bytes ⊎ ((x : A) × Then (IsFirst x) (Q x) bytes)

module _ {A : Type 0} {IsFirst : A → List ℕ → Type 0} {P : List ℕ → Type 0} {Q : A → List ℕ → Type 0} where
  pub turn_some : ((x : A) (a : List ℕ) → IsFirst x a → 0 < length a) → ((a : List ℕ) → P a → 0 < length a)
      → (bytes : List ℕ) → InTurn IsFirst P Q bytes → 0 < length bytes
  turn_some some first bytes (inl rejects) = first bytes rejects
  turn_some some first bytes (inr (x, t)) = then_some (some x) bytes t

  pub turn_has : {T : Type 0} → ((a : List ℕ) → P a → T) → ((x : A) (a : List ℕ) → Q x a → T)
      → (bytes : List ℕ) → InTurn IsFirst P Q bytes → T
  turn_has first next bytes (inl rejects) = first bytes rejects
  turn_has first next bytes (inr (x, t)) = next x t.second t.is_second

  module _ {Same : A → A → Type 0} (unique : (x y : A) → Determine (IsFirst x) (IsFirst y) (Same x y))
      (not_both : (x : A) → Exclude (IsFirst x) P) where
    pub turn_not_both : {IsNext : List ℕ → Type 0} (x : A) → ((y : A) → Same x y → Exclude IsNext (Q y))
        → Exclude (Then (IsFirst x) IsNext) (InTurn IsFirst P Q)
    turn_not_both x next a b r s t (inl first) cut =
        not_both x t.first b (t.second ++ r) s t.is_first first (regroup t.first t.second r a (b ++ s) t.parts cut)
    turn_not_both x next a b r s t (inr (y, u)) cut =
        (next_unique {T = ⊥} (unique x y) (λ same c d q p is rejects split. absurd (next y same c d q p is rejects split)) a b r s t u cut).0

    pub turn_unique : {P' : List ℕ → Type 0} {Q' : A → List ℕ → Type 0} {T : Type 0} → ((x : A) → Exclude (IsFirst x) P')
        → Determine P P' T → ((x y : A) → Same x y → Determine (Q x) (Q' y) T)
        → Determine (InTurn IsFirst P Q) (InTurn IsFirst P' Q') T
    turn_unique also first next a b r s (inl x) (inl y) cut = first a b r s x y cut
    turn_unique also first next a b r s (inl x) (inr (y, u)) cut =
        absurd (not_both y u.first a (u.second ++ s) r u.is_first x (regroup u.first u.second s b (a ++ r) u.parts (sym cut)))
    turn_unique also first next a b r s (inr (x, t)) (inl y) cut =
        absurd (also x t.first b (t.second ++ r) s t.is_first y (regroup t.first t.second r a (b ++ s) t.parts cut))
    turn_unique also first next a b r s (inr (x, t)) (inr (y, u)) cut = next_unique (unique x y) (next x y) a b r s t u cut

-- ---- a number, and what follows it

module _ (e : FormError) {Q : ℕ → List ℕ → Type 0} where
  pub from_some : (bytes : List ℕ) → InTurn IsVarint (RejectsNumber e) Q bytes → 0 < length bytes
  from_some = turn_some varint_some (number_rejects_some e)

  pub from_not_truncated : ((n : ℕ) (a : List ℕ) → Q n a → IsNotTruncated e) → (bytes : List ℕ)
      → InTurn IsVarint (RejectsNumber e) Q bytes → IsNotTruncated e
  from_not_truncated = turn_has (number_not_truncated e)

  pub from_not_both : {IsNext : List ℕ → Type 0} (n : ℕ) → Exclude IsNext (Q n)
      → Exclude (Then (IsVarint n) IsNext) (InTurn IsVarint (RejectsNumber e) Q)
  from_not_both n next = turn_not_both number_unique (λ m. number_not_both m e) n
      (λ m same a b r s is rejects. next a b r s is (subst (λ (k : ℕ). Q k b) (sym same) rejects))

  pub from_unique : (f : FormError) {Q' : ℕ → List ℕ → Type 0} → ((n : ℕ) → Determine (Q n) (Q' n) (e ≡ f))
      → Determine (InTurn IsVarint (RejectsNumber e) Q) (InTurn IsVarint (RejectsNumber f) Q') (e ≡ f)
  from_unique f next = turn_unique number_unique (λ n. number_not_both n e) (λ n. number_not_both n f) (number_rejects_unique e f)
      (λ m n same a b r s x y. next n a b r s (subst (λ (k : ℕ). Q k a) same x) y)

-- ---- the parts

-- one error at the same place
pub here_unique : (g e f : FormError) (a b r s : List ℕ) → e ≡ g → f ≡ g → a ≡ [] → b ≡ [] → a ++ r ≡ b ++ s → (e ≡ f) × (r ≡ s)
here_unique g e f a b r s is also none empty cut =
    (is ∙ sym also, sym (ap (λ (l : List ℕ). l ++ r) none) ∙ cut ∙ ap (λ (l : List ℕ). l ++ s) empty)

module _ (N : ℕ) where
  pub tag_not_both : (e : FormError) → Exclude (IsVarint N) (RejectsNumberThen (RejectsOtherTag N) e)
  tag_not_both e a b r s is =
      from_not_both e {IsNext = λ c. c ≡ []} N (λ c d p q _ rejects _. rejects.0 refl) a b r s
      (record { first = a; second = []; is_first = is; is_second = refl; parts = sym (append-nil a) })

  pub tag_rejects_unique : (e f : FormError)
      → Determine (RejectsNumberThen (RejectsOtherTag N) e) (RejectsNumberThen (RejectsOtherTag N) f) (e ≡ f)
  tag_rejects_unique e f = from_unique e f
      (λ n a b r s x y. here_unique (OtherTag n) e f a b r s x.1 y.1 x.2 y.2)

  pub tag_not_truncated : (e : FormError) (bytes : List ℕ) → RejectsNumberThen (RejectsOtherTag N) e bytes → IsNotTruncated e
  tag_not_truncated e = from_not_truncated e
      (λ n a rejects ends. let same : OtherTag n ≡ Failed ends.0 = sym rejects.1 ∙ ends.1 in cc)

module _ (MAX : ℕ) where
  pub block_not_both : (n : ℕ) (block : List ℕ) → n ≡ length block → n ≤ MAX → (e : FormError)
      → Exclude (IsBlock block) (RejectsNumberThen (RejectsTooLong MAX) e)
  block_not_both n block long within e = from_not_both e (length block)
      (λ c d p q _ rejects _. omega (arith, rejects.0, long, within))

  pub block_rejects_unique : (e f : FormError)
      → Determine (RejectsNumberThen (RejectsTooLong MAX) e) (RejectsNumberThen (RejectsTooLong MAX) f) (e ≡ f)
  block_rejects_unique e f = from_unique e f
      (λ n a b r s x y. here_unique (TooLong n) e f a b r s x.1 y.1 x.2 y.2)

  pub block_not_truncated : (e : FormError) (bytes : List ℕ) → RejectsNumberThen (RejectsTooLong MAX) e bytes → IsNotTruncated e
  block_not_truncated e = from_not_truncated e
      (λ n a rejects ends. let same : TooLong n ≡ Failed ends.0 = sym rejects.1 ∙ ends.1 in cc)

module _ {A : Type 0} {IsPart : A → List ℕ → Type 0} {Rejects : FormError → List ℕ → Type 0} {Same : A → A → Type 0}
    (unique : (x y : A) → Determine (IsPart x) (IsPart y) (Same x y)) (not_both : (x : A) (e : FormError) → Exclude (IsPart x) (Rejects e)) where
  items_not_both : (xs : List A) (e : FormError) → Exclude (AreParts IsPart xs) (RejectsItem IsPart Rejects (length xs) e)
  items_not_both [] e a b r s are rejects cut = rejects
  items_not_both (x ∷ xs) e a b r s (c, d, is_c, are, split) rejects cut = turn_not_both unique (λ y. not_both y e) x
      (λ _ _. items_not_both xs e) a b r s (record { first = c; second = d; is_first = is_c; is_second = are; parts = split }) rejects cut

  items_rejects_unique : (n : ℕ) (e f : FormError) → Determine (Rejects e) (Rejects f) (e ≡ f)
      → Determine (RejectsItem IsPart Rejects n e) (RejectsItem IsPart Rejects n f) (e ≡ f)
  items_rejects_unique zero e f one a b r s x y cut = absurd x
  items_rejects_unique (suc n) e f one a b r s x y cut = turn_unique unique (λ z. not_both z e) (λ z. not_both z f) one
      (λ _ _ _. items_rejects_unique n e f one) a b r s x y cut

  pub counted_not_both : (MAX : ℕ) (xs : List A) (n : ℕ) → n ≡ length xs → n ≤ MAX → (e : FormError)
      → Exclude (Then (IsVarint (length xs)) (AreParts IsPart xs)) (RejectsNumberThen (RejectsCounted IsPart Rejects MAX) e)
  counted_not_both MAX xs n long within e = from_not_both e (length xs) (λ a b r s are rejects cut. elim rejects [
    | inl over ↦ omega (arith, over.0, long, within)
    | inr item ↦ items_not_both xs e a b r s are item.1 cut
  ])

  pub counted_rejects_unique : (MAX : ℕ) → ((e f : FormError) → Determine (Rejects e) (Rejects f) (e ≡ f)) → (e f : FormError)
      → Determine (RejectsNumberThen (RejectsCounted IsPart Rejects MAX) e) (RejectsNumberThen (RejectsCounted IsPart Rejects MAX) f) (e ≡ f)
  counted_rejects_unique MAX one e f = from_unique e f next
    where
      next : (n : ℕ) → Determine (RejectsCounted IsPart Rejects MAX n e) (RejectsCounted IsPart Rejects MAX n f) (e ≡ f)
      next n a b r s (inl x) (inl y) cut = here_unique (TooMany n) e f a b r s x.1 y.1 x.2 y.2 cut
      next n a b r s (inl x) (inr y) cut = absurd (omega (arith, x.0, y.0))
      next n a b r s (inr x) (inl y) cut = absurd (omega (arith, x.0, y.0))
      next n a b r s (inr x) (inr y) cut = items_rejects_unique n e f (one e f) a b r s x.1 y.1 cut

module _ {A : Type 0} (IsPart : A → List ℕ → Type 0) {Rejects : FormError → List ℕ → Type 0}
    (late : (e : FormError) (bytes : List ℕ) → Rejects e bytes → IsNotTruncated e) where
  items_not_truncated : (n : ℕ) (e : FormError) (bytes : List ℕ) → RejectsItem IsPart Rejects n e bytes → IsNotTruncated e
  items_not_truncated zero e bytes rejects = absurd rejects
  items_not_truncated (suc n) e bytes rejects = turn_has (late e) (λ _. items_not_truncated n e) bytes rejects

  pub counted_not_truncated : (MAX : ℕ) (e : FormError) (bytes : List ℕ) → RejectsNumberThen (RejectsCounted IsPart Rejects MAX) e bytes
      → IsNotTruncated e
  counted_not_truncated MAX e = from_not_truncated e (λ n a rejects ends. elim rejects [
    | inl over ↦ let same : TooMany n ≡ Failed ends.0 = sym over.1 ∙ ends.1 in cc
    | inr item ↦ items_not_truncated n e a item.1 ends
  ])
