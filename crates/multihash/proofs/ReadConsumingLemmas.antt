-- The contract of `read` for each way to end: in the code, the size or the digest.
use Rattle.multihash.proofs.Common.{◌∙◌, ◌≡◌, ◌<◌, ◌⊎◌, ℕ, List, [], ◌++◌, Option, Some, Result, Ok, Err, IfSome, refl, sym, ap, subst, inl, inr, arith, append-nil, ◌≤◌, length, append_assoc, IsStrictPrefix, digest_limit, insufficient, VarintError, overflow, not_minimal, IsVarint, BeginsMalformed, IsEncoding, Verdict, accepted, invalid_size, invalid_code, malformed, unexpected_eof, HasVerdict, IsIncomplete, BeginsWithSize, IsAtEnd, prepend_known, Consumes, HasFewerThan, Fault, IsUnexpectedEof, IsOwnFault, Refusal, of_io, of_size, of_code, of_varint, IsReaderError, IsEof, IsInvalidSize, IsVarintError, IsAnyVarintError, ReadMayFailWith, ConsumesShortestSettling, ConsumesNothingSettling, EndsOrFails, ReadMeets, ConsumesAtVarintError, IsErrorOf, IsResultOf, Fields, pair_of}
use Rattle.multihash.proofs.EncodingLemmas.{digest_fits}
use Rattle.multihash.proofs.ReadingLemmas.{IfSome-consumed, Consumes-concatenated}
use Rattle.multihash.proofs.VerdictLemmas.{verdict_unique, coded, sized}
use Rattle.multihash.proofs.SettlingLemmas.{verdict_kept, none_settles, IsIncompleteInput, before_digest, shortest_from, before_second}
use Rattle.multihash.proofs.SettlingLemmas.{before_both}

-- ---- errors and verdicts

-- the verdict of an error
abbrev error_verdict : Refusal → Verdict
error_verdict (of_size size) = invalid_size size
error_verdict (of_code code) = invalid_code code
error_verdict (of_varint error) = malformed error
error_verdict e = unexpected_eof

verdict_of_error : (e : Refusal) (v : Verdict) → IsErrorOf e v → v ≡ error_verdict e
verdict_of_error e v given = grind arith

-- so an error is that of one verdict only
pub error_unique : (e : Refusal) (v w : Verdict) → IsErrorOf e v → IsErrorOf e w → v ≡ w
error_unique e v w h k = verdict_of_error e v h ∙ sym (verdict_of_error e w k)

-- no verdict has an error of the reader's own
pub own_no_verdict : (e : Refusal) (v : Verdict) → IsReaderError e → IsErrorOf e v → ⊥
own_no_verdict e v own given = grind (arith)

-- the error of an incomplete verdict
pub incomplete_error : (e : Refusal) (v : Verdict) → IsErrorOf e v → IsIncomplete v → IsVarintError insufficient e ⊎ IsEof e
incomplete_error e v given soon = grind arith

-- the error of a verdict is one that `read` lists
listed : (S : ℕ) (e : Refusal) (consumed : List ℕ) (v : Verdict) → IsErrorOf e v → HasVerdict S consumed v → ReadMayFailWith S e
listed S e consumed v given has = grind arith

-- ---- for each verdict

module _ (S : ℕ) (consumed : List ℕ) {old : Option (List ℕ)} (new : Option (List ℕ)) (before after : ℕ)
    (consumes : Consumes old consumed new) (v : Verdict) (has : HasVerdict S consumed v) where
  -- a verdict that is not incomplete, while every strict prefix is incomplete
  module _ (unrisen : after ≡ before) (late : ¬ (IsIncomplete v)) (no_sooner : (p : List ℕ) → IsStrictPrefix p consumed
      → IsIncompleteInput S p) where
    kept : (left : List ℕ) → HasVerdict S (consumed ++ left) v
    kept left = verdict_kept S consumed left v late has

    told : (r : Result (Fields S) Refusal) → IsResultOf r v
        → IfSome old (λ rest. after ≡ before → (w : Verdict) × HasVerdict S rest w × IsResultOf r w)
    told r is_result = IfSome-consumed old new consumed _ consumes (λ left is _. (v, kept left, is_result))

    shortest : IfSome old (λ rest. after ≡ before → (w : Verdict) → HasVerdict S rest w → ¬ (IsIncomplete w)
        → ConsumesShortestSettling S rest new)
    shortest = IfSome-consumed old new consumed _ consumes (λ left is _ w holds stays. record {
      front = consumed;
      shortest = shortest_from S (consumed ++ left) consumed left v refl has late no_sooner;
      consumes = ap (prepend_known consumed) (sym is);
    })

    never : IfSome old (λ rest. EndsOrFails S rest before after → ConsumesNothingSettling S rest new)
    never = IfSome-consumed old new consumed _ consumes (λ left is why.
        elim why [
          | inl rose ↦ absurd (omega (arith, rose, unrisen))
          | inr (w, holds, soon) ↦ absurd (late (subst IsIncomplete (verdict_unique S (consumed ++ left) w v holds (kept left)) soon))
        ])

    pub at_settled : (e : Refusal) → IsErrorOf e v → ReadMeets S old new before after (Err e)
    at_settled e given = record {
      faults = inr (unrisen, listed S e consumed v given has);
      verdict = told (Err e) given;
      ok = tt;
      fits = tt;
      err = record {
        consumed = consumed;
        consumes = consumes;
        insufficient = λ h. absurd (late (rw (error_unique e v (malformed insufficient) given h) tt));
        eof = λ h. absurd (late (rw (error_unique e v unexpected_eof given h) tt));
        failed = λ h. absurd (own_no_verdict e v h given);
      };
      settled = shortest;
      unsettled = never;
    }

    pub at_pair : (m : Fields S) → v ≡ accepted (pair_of m) → IsEncoding (pair_of m) consumed → ReadMeets S old new before after (Ok m)
    at_pair m is encodes = record {
      faults = unrisen;
      verdict = told (Ok m) is;
      ok = (consumed, encodes, consumes);
      fits = digest_fits m;
      err = tt;
      settled = shortest;
      unsettled = never;
    }

  module _ (soon : IsIncomplete v) where
    none : IfSome old (λ rest. EndsOrFails S rest before after → ConsumesNothingSettling S rest new)
    none = IfSome-consumed old new consumed _ consumes (λ left is why.
        record { consumed = consumed; consumes = ap (prepend_known consumed) (sym is); unsettled = none_settles S consumed v has soon })

    -- an incomplete verdict, which is that of the whole input too
    pub at_incomplete : (e : Refusal) → after ≡ before → IsErrorOf e v → (v ≡ malformed insufficient → IsAtEnd new)
        → ((left : List ℕ) → new ≡ Some left → HasVerdict S (consumed ++ left) v) → ReadMeets S old new before after (Err e)
    at_incomplete e unrisen given all whole = record {
      faults = inr (unrisen, listed S e consumed v given has);
      verdict = IfSome-consumed old new consumed _ consumes (λ left is _. (v, whole left is, given));
      ok = tt;
      fits = tt;
      err = record {
        consumed = consumed;
        consumes = consumes;
        insufficient = λ h.
            let same : v ≡ malformed insufficient = error_unique e v (malformed insufficient) given h in (subst (HasVerdict S consumed) same has, all same);
        eof = λ h. subst (HasVerdict S consumed) (error_unique e v unexpected_eof given h) has;
        failed = λ _. (v, soon, has);
      };
      settled = IfSome-consumed old new consumed _ consumes (λ left is _ w holds later.
          absurd (later (subst IsIncomplete (verdict_unique S (consumed ++ left) v w (whole left is) holds) soon)));
      unsettled = none;
    }

    -- the reader failed
    pub at_failure : (e : Refusal) → before < after → IsReaderError e → ReadMeets S old new before after (Err e)
    at_failure e rose own = grind (arith, none)

pub read_returned : (S : ℕ) {consumed : List ℕ} {old : Option (List ℕ)} (new : Option (List ℕ)) {before after : ℕ} (m : Fields S)
    → after ≡ before → IsEncoding (pair_of m) consumed → Consumes old consumed new → ReadMeets S old new before after (Ok m)
read_returned S {consumed = consumed} new {before = before} {after = after} m unrisen encodes consumes =
    let fits = digest_fits m in
    at_pair S consumed new before after consumes (accepted (pair_of m))
    ([], record { encoding = consumed; encodes = encodes; cut = sym (append-nil consumed) }, fits) unrisen (λ e. e)
    (λ p before. before_digest S (pair_of m) consumed p encodes fits before) m refl encodes

-- at the end of the input, the consumed bytes are all of it
whole_at_end : (P : List ℕ → Type 0) (consumed : List ℕ) (new : Option (List ℕ)) → IsAtEnd new → P consumed
    → (left : List ℕ) → new ≡ Some left → P (consumed ++ left)
whole_at_end P consumed new ends p left is = grind (arith, append-nil)

-- ---- in the code or the size

module _ (S : ℕ) {e : Refusal} (old : Option (List ℕ)) {mid new : Option (List ℕ)} {before after : ℕ} (t : ConsumesAtVarintError e mid new)
    (how : ((before < after) × IsReaderError e) ⊎ ((after ≡ before) × IsAnyVarintError e)) where
  module _ (a : List ℕ) (consumes : Consumes old (a ++ t.consumed) new)
      (shows : (f : VarintError) → BeginsMalformed f t.consumed → HasVerdict S (a ++ t.consumed) (malformed f))
      (no_sooner : (p : List ℕ) → IsStrictPrefix p (a ++ t.consumed) → IsIncompleteInput S p) where
    rejected : (f : VarintError) → after ≡ before → IsVarintError f e → HasVerdict S (a ++ t.consumed) (malformed f)
        → ReadMeets S old new before after (Err e)
    rejected insufficient same given has =
        at_incomplete S (a ++ t.consumed) new before after consumes (malformed insufficient) has tt e same given (λ _. t.all given)
        (whole_at_end (λ x. HasVerdict S x (malformed insufficient)) (a ++ t.consumed) new (t.all given) has)
    rejected overflow same given has = at_settled S (a ++ t.consumed) new before after consumes (malformed overflow) has same
        (λ h. h) no_sooner e given
    rejected not_minimal same given has = at_settled S (a ++ t.consumed) new before after consumes (malformed not_minimal) has same
        (λ h. h) no_sooner e given

    stops_in_varint : ReadMeets S old new before after (Err e)
    stops_in_varint =
        elim how [
          | inl (rose, own) ↦ at_failure S (a ++ t.consumed) new before after consumes (malformed insufficient)
              (shows insufficient (t.failed own)) tt e rose own
          | inr (same, (f, given)) ↦ rejected f same given (shows f (t.shows f given))
        ]

  pub stops_in_code : Consumes old t.consumed new → ReadMeets S old new before after (Err e)
  stops_in_code consumes = stops_in_varint [] consumes (λ f h. inl h) (λ p b. (malformed insufficient, inl (t.no_sooner p b), tt))

  pub stops_in_size : {code : ℕ} (a : List ℕ) → IsVarint code a → Consumes old a mid → ReadMeets S old new before after (Err e)
  stops_in_size {code = code} a is_code first =
      stops_in_varint a (Consumes-concatenated new a t.consumed refl first t.consumes)
      (λ f h. inr (t.consumed, coded code a _ t.consumed is_code refl, h))
      (λ p b. before_second S code a t.consumed p is_code t.no_sooner b)

-- ---- after both varints

module _ (S : ℕ) {code size : ℕ} {a b : List ℕ} (is_code : IsVarint code a) (is_size : IsVarint size b) where
  has_size : (rest : List ℕ) → BeginsWithSize size (a ++ (b ++ rest)) rest
  has_size rest = sized code size a b _ rest is_code is_size refl

  pub stops_at_size : {old : Option (List ℕ)} (new : Option (List ℕ)) {before after : ℕ} (e : Refusal) → after ≡ before
      → digest_limit S < size → IsInvalidSize size e → Consumes old (a ++ b) new
      → ReadMeets S old new before after (Err e)
  stops_at_size new {before = before} {after = after} e same over given consumes =
      at_settled S (a ++ b) new before after consumes (invalid_size size)
      ([], subst (λ z. BeginsWithSize size (a ++ z) []) (append-nil b) (has_size []), over) same (λ h. h)
      (λ p begins. before_both S code size a b p is_code is_size begins) e given

  module _ (new : Option (List ℕ)) (within : size ≤ digest_limit S) where
    cut_digest : (rest : List ℕ) → length rest < size → HasVerdict S (a ++ (b ++ rest)) unexpected_eof
    cut_digest rest short = (size, rest, has_size rest, within, short)

    pub stops_in_digest : {old mid : Option (List ℕ)} {before after : ℕ} (error : Fault) (front : List ℕ) → length front < size
        → Consumes mid front new
        → (IsUnexpectedEof error → HasFewerThan size mid)
        → ((before < after) × IsOwnFault error) ⊎ ((after ≡ before) × IsUnexpectedEof error) → Consumes old (a ++ (b ++ front)) new
        → ReadMeets S old new before after (Err (of_io error))
    stops_in_digest {before = before} {after = after} error front short last few how consumes =
        elim how [
          | inl (rose, own) ↦
              at_failure S _ new before after consumes unexpected_eof (cut_digest front short) tt (of_io error) rose (error, refl, own)
          | inr (same, ended) ↦
              at_incomplete S _ new before after consumes unexpected_eof (cut_digest front short) tt (of_io error) same
              (error, refl, ended)
              (λ no. cc) (λ left is. rw (append_assoc a (b ++ front) left, append_assoc b front left)
              (cut_digest (front ++ left) (subst (HasFewerThan size) (last ∙ ap (prepend_known front) is) (few ended))))
        ]
