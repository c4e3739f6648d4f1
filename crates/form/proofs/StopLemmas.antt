-- Reading stopped in a part of a value: what this shows of the part, it shows of the whole. For `read` of the parts, and for `Stream`.
use Rattle.form.proofs.Common.{◌≡◌, ℕ, zero, suc, ◌<◌, inl, inr, List, [], ◌∷◌, ◌++◌, length, length-append, Option, Some, refl, sym, ap, subst, ◌∙◌, arith, None, IfSome, IsVarint, AreParts, Consumes, ConsumesSome, Determine, Exclude, number_unique, Then, RejectsInTurn, RejectsNumberThen, AreItems, RejectsItem, RejectsCase, IsUndecided, StopsAt, ReadStops, FormError}
use Rattle.std.specs.Io.KnownBytes.{prepend_known}
use Rattle.multihash.proofs.ReadingLemmas.{Consumes-known, Consumes-none, Consumes-concatenated, prepend_known-append}
use Rattle.form.specs.Lemmas.Rejected.{number_not_both, regroup}

module _ {A B : Type 0} {IsA : A → List ℕ → Type 0} {IsB : B → List ℕ → Type 0} {RejectsA RejectsB : FormError → List ℕ → Type 0} where
  -- after the bytes `c`, what the part rejects, the whole rejects, and it is undecided if the part is
  pub stops_after : (c : List ℕ) → ((e : FormError) (a : List ℕ) → RejectsA e a → RejectsB e (c ++ a))
      → ((x : List ℕ) → IsUndecided IsA RejectsA x → IsUndecided IsB RejectsB (c ++ x))
      → {before middle after : ℕ} {e : FormError} {old mid new : Option (List ℕ)} → middle ≡ before → Consumes old c mid
      → ReadStops IsA RejectsA middle after e mid new → ReadStops IsB RejectsB before after e old new
  stops_after c rejected undecided {before = before} {middle = middle} {after = after} {e = e} {old = old} {mid = mid} {new = new} same consumes stops =
      record { why = elim stops.why [ inl memory ↦ inl memory | inr s ↦ inr (known old consumes s) ] }
    where
      known : (old : Option (List ℕ)) → Consumes old c mid → IfSome mid (λ input. StopsAt IsA RejectsA (middle < after) e input new)
          → IfSome old (λ input. StopsAt IsB RejectsB (before < after) e input new)
      known None consumes s = tt
      known (Some input) consumes s =
          let (left, is_left, cut) = Consumes-known input c mid consumes in
          let part : StopsAt IsA RejectsA (middle < after) e left new =
          subst (λ (o : Option (List ℕ)). IfSome o (λ rest. StopsAt IsA RejectsA (middle < after) e rest new)) is_left s in
          record {
            consumed = c ++ part.consumed;
            consumes = Consumes-concatenated new c part.consumed refl
                (subst (λ (o : Option (List ℕ)). Consumes (Some input) c o) is_left consumes) part.consumes;
            cause = elim part.cause [
              | inl rejects ↦ inl (rejected e part.consumed rejects)
              | inr (inl (failed, u)) ↦ inr (inl (omega (arith, failed, same), undecided part.consumed u))
              | inr (inr (ends, u)) ↦ inr (inr (ends, subst (IsUndecided IsB RejectsB) (sym cut) (undecided left u)))
            ];
          }

  -- the same in other words
  pub stops_as : ((y : B) (bytes : List ℕ) → IsB y bytes → (x : A) × IsA x bytes)
      → ((e : FormError) (bytes : List ℕ) → RejectsA e bytes → RejectsB e bytes)
      → ((e : FormError) (bytes : List ℕ) → RejectsB e bytes → RejectsA e bytes)
      → {before after : ℕ} {e : FormError} {old new : Option (List ℕ)}
      → ReadStops IsA RejectsA before after e old new → ReadStops IsB RejectsB before after e old new
  stops_as form to of {old = old} stops = stops_after [] to
      (λ bytes u. record {
        no_form = λ y front rest cut is. let (x, also) = form y front is in u.no_form x front rest cut also;
        no_error = λ e front rest cut rejects. u.no_error e front rest cut (of e front rejects);
      }) refl (Consumes-none old) stops

-- `IsForm` is a first part and what follows it
module _ {A B C : Type 0} {IsFirst : A → List ℕ → Type 0} {RejectsFirst : FormError → List ℕ → Type 0}
    {RejectsNext : A → FormError → List ℕ → Type 0} {IsNext : A → C → List ℕ → Type 0} {IsForm : B → List ℕ → Type 0}
    (split : (y : B) (bytes : List ℕ) → IsForm y bytes → (x : A) × (z : C) × Then (IsFirst x) (IsNext x z) bytes) where
  first_undecided : (bytes : List ℕ) → IsUndecided IsFirst RejectsFirst bytes
      → IsUndecided IsForm (RejectsInTurn IsFirst RejectsFirst RejectsNext) bytes
  first_undecided bytes u = record {
    no_form = λ y front rest cut is. let (x, z, t) = split y front is in
        u.no_form x t.first (t.second ++ rest) (sym (regroup t.first t.second rest front bytes t.parts (sym cut))) t.is_first;
    no_error = λ e front rest cut rejects. elim rejects [
      | inl first ↦ u.no_error e front rest cut first
      | inr (x, t) ↦ u.no_form x t.first (t.second ++ rest) (sym (regroup t.first t.second rest front bytes t.parts (sym cut))) t.is_first
    ];
  }

  -- the first part was not read
  pub first_stops : {before after : ℕ} {e : FormError} {old new : Option (List ℕ)} → ReadStops IsFirst RejectsFirst before after e old new
      → ReadStops IsForm (RejectsInTurn IsFirst RejectsFirst RejectsNext) before after e old new
  first_stops {old = old} stops = stops_after [] (λ e a rejects. inl rejects) first_undecided refl (Consumes-none old) stops

  module _ {Same : A → A → Type 0}
      (unique : (x y : A) → Determine (IsFirst x) (IsFirst y) (Same x y))
      (not_both : (x : A) (e : FormError) → Exclude (IsFirst x) (RejectsFirst e))
      (respects : (x y : A) (bytes : List ℕ) → Same x y → IsUndecided (IsNext x) (RejectsNext x) bytes
      → IsUndecided (IsNext y) (RejectsNext y) bytes) where
    next_undecided : (x : A) (c : List ℕ) → IsFirst x c → (bytes : List ℕ) → IsUndecided (IsNext x) (RejectsNext x) bytes
        → IsUndecided IsForm (RejectsInTurn IsFirst RejectsFirst RejectsNext) (c ++ bytes)
    next_undecided x c is_c bytes u = record {
      no_form = λ y front rest cut is. let (x2, z, t) = split y front is in
          let told = unique x x2 c t.first bytes (t.second ++ rest) is_c t.is_first
          (sym (regroup t.first t.second rest front (c ++ bytes) t.parts (sym cut))) in
          (respects x x2 bytes told.0 u).no_form z t.second rest told.1 t.is_second;
      no_error = λ e front rest cut rejects. elim rejects [
        | inl first ↦ not_both x e c front bytes rest is_c first cut
        | inr (x2, t) ↦
            let told = unique x x2 c t.first bytes (t.second ++ rest) is_c t.is_first
            (sym (regroup t.first t.second rest front (c ++ bytes) t.parts (sym cut))) in
            (respects x x2 bytes told.0 u).no_error e t.second rest told.1 t.is_second
      ];
    }

    -- the first part was read, and what follows it was not
    pub next_stops : {before middle after : ℕ} {e : FormError} {old mid new : Option (List ℕ)} (x : A) → middle ≡ before
        → ConsumesSome (IsFirst x) old mid → ReadStops (IsNext x) (RejectsNext x) middle after e mid new
        → ReadStops IsForm (RejectsInTurn IsFirst RejectsFirst RejectsNext) before after e old new
    next_stops x same (c, is_c, consumes) stops = stops_after c
        (λ e a rejects. inr (x, record { first = c; second = a; is_first = is_c; is_second = rejects; parts = refl }))
        (next_undecided x c is_c) same consumes stops

-- a number was read, and what follows it was not
pub from_stops : {B C : Type 0} {RejectsNext : ℕ → FormError → List ℕ → Type 0} {IsNext : ℕ → C → List ℕ → Type 0}
    {IsForm : B → List ℕ → Type 0}
    → ((y : B) (bytes : List ℕ) → IsForm y bytes → (n : ℕ) × (z : C) × Then (IsVarint n) (IsNext n z) bytes)
    → {before middle after : ℕ} {e : FormError} {old mid new : Option (List ℕ)} (n : ℕ) → middle ≡ before → ConsumesSome (IsVarint n) old mid
    → ReadStops (IsNext n) (RejectsNext n) middle after e mid new → ReadStops IsForm (RejectsNumberThen RejectsNext) before after e old new
from_stops {RejectsNext = RejectsNext} {IsNext = IsNext} split n same consumed stops = next_stops split number_unique number_not_both
    (λ m n bytes same. subst (λ (k : ℕ). IsUndecided (IsNext k) (RejectsNext k) bytes) same) n same consumed stops

-- the same before calls that counted no failure and consumed nothing
pub stops_later : {A : Type 0} {IsForm : A → List ℕ → Type 0} {Rejects : FormError → List ℕ → Type 0}
    {before middle after : ℕ} {e : FormError} {old mid new : Option (List ℕ)} → middle ≡ before → mid ≡ old
    → ReadStops IsForm Rejects middle after e mid new → ReadStops IsForm Rejects before after e old new
stops_later {mid = mid} same kept stops =
    stops_after [] (λ e a rejects. rejects) (λ x u. u) same (sym kept ∙ Consumes-none mid) stops

-- an item and the others
items_split : {A : Type 0} (IsPart : A → List ℕ → Type 0) (n : ℕ) (xs : List A) (bytes : List ℕ) → AreItems IsPart (suc n) xs bytes
    → (x : A) × (ys : List A) × Then (IsPart x) (AreItems IsPart n ys) bytes
items_split IsPart n [] bytes (long, _) = absurd (omega (arith, long))
items_split IsPart n (x ∷ xs) bytes (long, (a, b, is_a, are_b, cut)) =
    (x, xs, record { first = a; second = b; is_first = is_a; is_second = (omega (arith, long), are_b); parts = cut })

-- some items were read, and the next one was not
module _ {A : Type 0} {IsPart : A → List ℕ → Type 0} {Rejects : FormError → List ℕ → Type 0} {Same : A → A → Type 0}
    (unique : (x y : A) → Determine (IsPart x) (IsPart y) (Same x y))
    (not_both : (x : A) (e : FormError) → Exclude (IsPart x) (Rejects e)) where
  pub items_stop : {before middle after : ℕ} {e : FormError} {old mid new : Option (List ℕ)} (found : List A) (n : ℕ) (c : List ℕ)
      → AreParts IsPart found c → length found < n → middle ≡ before → Consumes old c mid
      → ReadStops IsPart Rejects middle after e mid new → ReadStops (AreItems IsPart n) (RejectsItem IsPart Rejects n) before after e old new
  items_stop found zero c are few same consumes stops = absurd (omega (arith, few))
  items_stop {mid = mid} [] (suc n) c none few same consumes stops =
      first_stops (items_split IsPart n) (stops_later same
      (sym (consumes ∙ ap (λ (l : List ℕ). prepend_known l mid) none ∙ sym (Consumes-none mid))) stops)
  items_stop {mid = mid} (f ∷ found) (suc n) c (p, others, is_p, are, cut) few same consumes stops =
      next_stops (items_split IsPart n) unique not_both (λ x y bytes _ u. u) {mid = prepend_known others mid} f refl
      (p, is_p, consumes ∙ ap (λ (l : List ℕ). prepend_known l mid) cut ∙ sym (prepend_known-append p others mid))
      (items_stop found n others are (omega (arith, few)) same refl stops)

-- the reader failed, and nothing was consumed
pub nothing_stops : {A : Type 0} {IsForm : A → List ℕ → Type 0} {Rejects : FormError → List ℕ → Type 0}
    → ((x : A) (bytes : List ℕ) → IsForm x bytes → 0 < length bytes)
    → ((e : FormError) (bytes : List ℕ) → Rejects e bytes → 0 < length bytes)
    → {before after : ℕ} {e : FormError} {old new : Option (List ℕ)} → before < after → new ≡ old
    → ReadStops IsForm Rejects before after e old new
nothing_stops some rejects_some {old = None} failed kept = record { why = inr tt }
nothing_stops some rejects_some {old = Some input} {new = new} failed kept = record {
  why = inr (record {
    consumed = [];
    consumes = sym kept ∙ Consumes-none new;
    cause = inr (inl (
      failed,
      record {
        no_form = λ x front rest cut is. omega (arith, some x front is, ap length cut, length-append front rest);
        no_error = λ e front rest cut rejects. omega (arith, rejects_some e front rejects, ap length cut, length-append front rest);
      },
    ));
  });
}

-- what follows the tag of a case, if the tag is that of the case, and if it is another one
module _ {A B : Type 0} {M n : ℕ} {IsA : A → List ℕ → Type 0} {IsB : B → List ℕ → Type 0} {Rejects : FormError → List ℕ → Type 0}
    (RejectsOther : ℕ → FormError → List ℕ → Type 0) {before after : ℕ} {e : FormError} {old new : Option (List ℕ)}
    (form : (y : B) (bytes : List ℕ) → IsB y bytes → (x : A) × IsA x bytes) where
  pub own_stops : n ≡ M → ReadStops IsA Rejects before after e old new
      → ReadStops IsB (RejectsCase Rejects RejectsOther M n) before after e old new
  own_stops is = stops_as form (λ f bytes rejects. inl (is, rejects))
      (λ f bytes rejects. elim rejects [ inl own ↦ own.1 | inr other ↦ absurd (other.0 is) ])

  pub other_stops : ¬ (n ≡ M) → ReadStops IsA (RejectsOther n) before after e old new
      → ReadStops IsB (RejectsCase Rejects RejectsOther M n) before after e old new
  other_stops not = stops_as form (λ f bytes rejects. inr (not, rejects))
      (λ f bytes rejects. elim rejects [ inl own ↦ absurd (not own.0) | inr other ↦ other.1 ])
