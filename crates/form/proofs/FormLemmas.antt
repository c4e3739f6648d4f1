-- What `err` of `read` states, from the contracts of the library's calls: for `read` of each part.
use Rattle.form.proofs.Common.{◌≡◌, ℕ, ◌<◌, ◌⊎◌, ap, inl, inr, List, [], length, length-append, Option, Some, refl, sym, subst, append-nil, arith, None, VarintError, insufficient, overflow, not_minimal, IsVarint, IsInsufficient, Refusal, of_io, IsAnyVarintError, IsVarintError, HasFewerThan, ConsumesFewerThan, FailsBy, ExactFails, ReadFails, ConsumesAtVarintError, IsFailed, IsTruncated, ShowsMalformed, RejectsNumber, RejectsMultihash, IsUndecided, ReadStops, FormError}
use Rattle.multihash.specs.Bytes.{IsPrefix}
use Rattle.multihash.specs.Encoding.{IsEncoding}
use Rattle.multihash.specs.Verdict.{Verdict, accepted, malformed, unexpected_eof, HasVerdict, IsIncomplete}
use Rattle.multihash.specs.Settling.{Settles, IsShortestSettling}
use Rattle.multihash.specs.Outcome.{IsErrorOf}
use Rattle.multihash.specs.Multihash.{Fields, pair_of}
use Rattle.multihash.proofs.EncodingLemmas.{digest_fits}
use Rattle.multihash.proofs.VerdictLemmas.{verdict_unique}
use Rattle.multihash.proofs.VarintLemmas.{number_no_error}
use Rattle.multihash.proofs.SettlingLemmas.{late_settles, none_settles, incomplete_not_settles, verdict_kept}
use Rattle.multihash.proofs.ReadConsumingLemmas.{incomplete_error}
use Rattle.multihash.proofs.CallingLemmas.{exact_fails}
use Rattle.multihash.specs.Fault.{Fault, IsOwnFault, IsUnexpectedEof}
use Rattle.multihash.proofs.ReadingLemmas.{all_read, Consumes-none}
use Rattle.form.specs.Lemmas.Rejected.{malformed_kept, not_shown}
use Rattle.form.specs.declared.error.FormError.TheVariants.{Failed}

-- ---- numbers

insufficient_undecided : (x : List ℕ) → IsInsufficient x → IsUndecided IsVarint RejectsNumber x
insufficient_undecided x ends = record {
  no_form = λ n front rest cut is. number_no_error x n rest insufficient (front, is, cut) ends;
  no_error = λ e front rest cut rejects. let (cause, _, shown) = rejects in
      not_shown x ends cause (subst (ShowsMalformed cause) (sym cut) (malformed_kept cause front rest shown.holds));
}

-- a varint is malformed, and not only truncated
rejects_malformed : (error : VarintError) (e : Refusal) (old new : Option (List ℕ)) (c : ConsumesAtVarintError e old new)
    → IsVarintError error e → (error ≡ insufficient → ⊥) → RejectsNumber (Failed e) c.consumed
rejects_malformed error e old new c named whole = (
  e,
  refl,
  record {
    holds = (error, named, whole, c.shows error named);
    shortest = λ shorter strict shown. not_shown shorter (c.no_sooner shorter strict) e shown;
  },
)

-- `varint::read` failed
pub varint_stops : {before after : ℕ} {e : Refusal} {old new : Option (List ℕ)} → FailsBy before after IsAnyVarintError e
    → ConsumesAtVarintError e old new → ReadStops IsVarint RejectsNumber before after (Failed e) old new
varint_stops {old = None} cause c = record { why = inr tt }
varint_stops {e = e} {old = Some input} {new = new} cause c = record {
  why = inr (record {
    consumed = c.consumed;
    consumes = c.consumes;
    cause = elim cause [
      | inl (up, own) ↦ inr (inl (up, insufficient_undecided c.consumed (c.failed own)))
      | inr (same, (insufficient, named)) ↦ inr (inr (
        (e, refl, inl named),
        insufficient_undecided input
            (subst IsInsufficient (sym (all_read input c.consumed new c.consumes (c.all named))) (c.shows insufficient named)),
      ))
      | inr (same, (overflow, named)) ↦ inl (rejects_malformed overflow e (Some input) new c named (λ is. cc))
      | inr (same, (not_minimal, named)) ↦ inl (rejects_malformed not_minimal e (Some input) new c named (λ is. cc))
    ];
  });
}

-- ---- multihashes

-- a verdict is incomplete, or it is not
incomplete_or_not : (v : Verdict) → IsIncomplete v ⊎ (¬ (IsIncomplete v))
incomplete_or_not (malformed insufficient) = inl tt
incomplete_or_not unexpected_eof = inl tt
incomplete_or_not _ = inr (λ h. h)

module _ (S : ℕ) where
  -- if no prefix settles a verdict, none decides
  unsettled_undecided : (x : List ℕ) → ((front : List ℕ) → IsPrefix front x → ¬ (Settles S front))
      → IsUndecided (λ (m : Fields S). IsEncoding (pair_of m)) (RejectsMultihash S) x
  unsettled_undecided x none = record {
    no_form = λ m front rest cut is. none front (rest, cut) (late_settles S front (accepted (pair_of m)) (λ h. h)
        ([], record { encoding = front; encodes = is; cut = sym (append-nil front) }, digest_fits m));
    no_error = λ e front rest cut rejects. let (_, _, shown) = rejects in
        let (v, has, late, _) = shown.holds in none front (rest, cut) (late_settles S front v late has);
  }

  -- the shortest prefix that settles an error shows it
  settled_shows : (input front : List ℕ) (e : Refusal) (v : Verdict) → HasVerdict S input v → ¬ (IsIncomplete v) → IsErrorOf e v
      → IsShortestSettling S input front → RejectsMultihash S (Failed e) front
  settled_shows input front e v has late names x =
      let (rest, cut) = x.begins in
      let own = subst (λ (z : List ℕ). HasVerdict S z x.settles.verdict) (append-nil front)
      (x.settles.always [] (λ k d few. absurd (omega (arith, few)))) in
      let stays : ¬ (IsIncomplete x.settles.verdict) = λ soon. incomplete_not_settles S front x.settles.verdict soon own x.settles in
      let same : x.settles.verdict ≡ v = verdict_unique S input x.settles.verdict v
      (subst (λ (z : List ℕ). HasVerdict S z x.settles.verdict) (sym cut) (verdict_kept S front rest x.settles.verdict stays own)) has in (
        e,
        refl,
        record {
          holds = (v, subst (HasVerdict S front) same own, late, names);
          shortest = λ shorter strict shown. let (w, also, whole, _) = shown in
              x.shortest shorter strict (late_settles S shorter w whole also);
        },
      )

  -- `Multihash::read` failed
  pub multihash_stops : {before after : ℕ} {e : Refusal} {old new : Option (List ℕ)} → ReadFails S before after e old new
      → ReadStops (λ (m : Fields S). IsEncoding (pair_of m)) (RejectsMultihash S) before after (Failed e) old new
  multihash_stops {old = None} r = record { why = inr tt }
  multihash_stops {before = before} {after = after} {e = e} {old = Some input} {new = new} r = record {
    why = inr (elim r.faults [
      | inl (up, own) ↦ let none = r.unsettled (inl up) in record {
        consumed = none.consumed;
        consumes = none.consumes;
        cause = inr (inl (up, unsettled_undecided none.consumed none.unsettled));
      }
      | inr (same, _) ↦ let (v, has, names) = r.verdict same in
          elim (incomplete_or_not v) [
            | inl ends ↦ let none = r.unsettled (inr (v, has, ends)) in record {
              consumed = none.consumed;
              consumes = none.consumes;
              cause = inr (inr ((e, refl, incomplete_error e v names ends), unsettled_undecided input (none_settles S input v has ends)));
            }
            | inr late ↦ let found = r.settled same v has late in record {
              consumed = found.front;
              consumes = found.consumes;
              cause = inl (settled_shows input found.front e v has late names found.shortest);
            }
          ]
    ]);
  }

-- ---- bytes

-- `read_exact` of `n` bytes failed, of a form that no fewer bytes decide
pub exact_stops : {A : Type 0} {IsForm : A → List ℕ → Type 0} {Rejects : FormError → List ℕ → Type 0} (n : ℕ) {before after : ℕ} {e : Refusal}
    {old new : Option (List ℕ)} → ((x : List ℕ) → length x < n → IsUndecided IsForm Rejects x) → ExactFails n before after e old new
    → ReadStops IsForm Rejects before after (Failed e) old new
exact_stops n {old = None} undecided f = record { why = inr tt }
exact_stops n {e = e} {old = Some input} undecided f = record {
  why = inr (record {
    consumed = f.consumed.consumed;
    consumes = f.consumed.consumes;
    cause = elim f.cause [
      | inl (up, own) ↦ inr (inl (up, undecided f.consumed.consumed f.consumed.fewer))
      | inr (same, ends) ↦ inr (inr ((e, refl, inr ends), undecided input (f.short same)))
    ];
  });
}

module _ {A : Type 0} {IsForm : A → List ℕ → Type 0} where
  -- `read_exact` of `n` bytes failed, of a form whose encodings have `n` bytes, and which rejects nothing
  pub sized_stops : {n before after : ℕ} {error : Fault} {old new : Option (List ℕ)}
      → ((x : A) (bytes : List ℕ) → IsForm x bytes → length bytes ≡ n)
      → ((before < after) × IsOwnFault error) ⊎ ((after ≡ before) × IsUnexpectedEof error)
      → (IsUnexpectedEof error → HasFewerThan n old) → ConsumesFewerThan n old new
      → ReadStops IsForm (λ _ _. ⊥) before after (Failed (of_io error)) old new
  sized_stops {n = n} {before = before} {after = after} {error = error} {old = old} {new = new} long faults eof part = exact_stops n
      (λ x few. record {
        no_form = λ y front rest cut is. omega (arith, few, long y front is, ap length cut, length-append front rest);
        no_error = λ e front rest cut rejects. rejects;
      })
      (exact_fails n before before after old new error refl faults eof part)

  -- the form has no value, and rejects nothing
  pub no_value_stops : {before : ℕ} {e : FormError} {old : Option (List ℕ)}
      → ((x : A) (bytes : List ℕ) → IsForm x bytes → ⊥) → IsFailed IsTruncated e
      → ReadStops IsForm (λ _ _. ⊥) before before e old old
  no_value_stops {old = None} none ends = record { why = inr tt }
  no_value_stops {old = Some input} none ends = record {
    why = inr (record {
      consumed = [];
      consumes = Consumes-none (Some input);
      cause = inr (inr (ends, record { no_form = λ x front rest cut is. none x front is; no_error = λ e front rest cut rejects. rejects }));
    });
  }
