-- A text is shown by one list of lines, names no bytes or is rejected with the error of one verdict, and no two
-- of these; and what runs did where the bytes of the input and the outputs are known. With a weaker part of a
-- definition two may hold, or less is known.
use Rattle.std.proofs.Common.{◌≡◌, ◌≤◌, ℕ, List, [], ◌++◌, codes, sym, ap, ◌∙◌, subst, inl, inr, append-nil, arith}
use Rattle.std.proofs.lemmas.Grind.{common_steps}
use Rattle.std.specs.Prelude.{⊤, ◌⊎◌, Option, Some, length}
use Rattle.multihash.specs.Bytes.{IsPrefix, IsStrictPrefix}
use Rattle.multihash.specs.Verdict.{Verdict, accepted, HasWholeVerdict}
use Rattle.multihash.specs.Refusal.{Refusal}
use Rattle.multihash.specs.Outcome.{IsErrorOf}
use Rattle.multihash.proofs.VerdictLemmas.{whole_verdict_unique}
use Rattle.mh_show.specs.declared.run.RunError.{RunError}
use Rattle.mh_show.specs.declared.run.RunError.TheVariants.{NotShown, Output}
use Rattle.mh_show.specs.declared.show.ShowError.TheVariants.{NotHex, Refused}
use Rattle.mh_show.specs.Shown.{most_bytes, shown, IsLine, NamesBytes, ShowsAs, NamesNone, IsRejectedAs}
use Rattle.mh_show.specs.Run.{run_error_text, error_line, ReadsWhole, TriesToAppend, ShowsInput, EndsRun, ReportsError}
use Rattle.mh_show.proofs.NamingLemmas.{line_unique, bytes_unique}

module _ (text : List ℕ) where
  -- the whole verdict on the bytes that a text names
  verdict_once : (l b m c : List ℕ) (v w : Verdict) → IsLine l text → NamesBytes l b → HasWholeVerdict most_bytes b v
      → IsLine m text → NamesBytes m c → HasWholeVerdict most_bytes c w → v ≡ w
  verdict_once l b m c v w is names has at others given =
      let same = bytes_unique m b c (subst (λ (z : List ℕ). NamesBytes z b) (line_unique text l m is at) names) others in
      whole_verdict_unique most_bytes c v w (subst (λ (z : List ℕ). HasWholeVerdict most_bytes z v) same has) given

  shows_once : (a b : List ℕ) → ShowsAs text a → ShowsAs text b → a ≡ b
  shows_once a b (l, bytes, p, is, names, has, e) (m, others, q, at, named, given, f) =
      let same : accepted p ≡ accepted q = verdict_once l bytes m others (accepted p) (accepted q) is names has at named given in
      let of : p ≡ q = cc in
      e ∙ ap shown of ∙ sym f

  shown_is_named : (a : List ℕ) → ShowsAs text a → ¬ (NamesNone text)
  shown_is_named a (l, bytes, p, is, names, has, e) none = none l bytes is names

  shown_is_not_rejected : (a : List ℕ) (e : Refusal) → ShowsAs text a → ¬ (IsRejectedAs text e)
  shown_is_not_rejected a e (l, bytes, p, is, names, has, _) (m, others, v, at, named, given, rejects) =
      subst (IsErrorOf e) (sym (verdict_once l bytes m others (accepted p) v is names has at named given)) rejects

  rejected_is_named : (e : Refusal) → IsRejectedAs text e → ¬ (NamesNone text)
  rejected_is_named e (l, bytes, v, is, names, has, rejects) none = none l bytes is names

  rejected_once : (e f : Refusal) → IsRejectedAs text e → IsRejectedAs text f → (v : Verdict) × IsErrorOf e v × IsErrorOf f v
  rejected_once e f (l, bytes, v, is, names, has, rejects) (m, others, w, at, named, given, too) =
      (w, subst (IsErrorOf e) (verdict_once l bytes m others v w is names has at named given) rejects, too)

-- ---- runs

-- the text is all of the input, which has 65536 bytes at most
whole : (input text : List ℕ) (left : Option (List ℕ)) → ReadsWhole (Some input) left text
    → (text ≡ input) × (left ≡ Some []) × (length text ≤ 65536)
whole input text left h = grind (arith, append-nil)

module _ (input out new : List ℕ) (left : Option (List ℕ)) where
  -- all lines of the input were appended, and nothing else
  shows_input : ShowsInput (Some input) left (Some out) (Some new)
      → (lines : List ℕ) × ShowsAs input lines × (left ≡ Some []) × (new ≡ out ++ lines)
  shows_input (text, lines, reads, shows, appends) =
      let all = whole input text left reads in
      (lines, subst (λ (z : List ℕ). ShowsAs z lines) all.0 shows, all.1, appends)

  -- the run ended in writing them
  fails_in_output : EndsRun ⊥ (Some input) left (Some out) (Some new) Output
      → (lines part : List ℕ) × ShowsAs input lines × (left ≡ Some []) × IsStrictPrefix part lines × (new ≡ out ++ part)
  fails_in_output (text, lines, reads, shows, some) =
      let all = whole input text left reads in
      (lines, some.part, subst (λ (z : List ℕ). ShowsAs z lines) all.0 shows, all.1, some.strict, some.appends)

  names_none : EndsRun ⊤ (Some input) left (Some out) (Some new) (NotShown NotHex) → NamesNone input × (left ≡ Some [])
  names_none (kept, text, reads, none) =
      let all = whole input text left reads in (subst NamesNone all.0 none, all.1)

  is_rejected : (e : Refusal) → EndsRun ⊤ (Some input) left (Some out) (Some new) (NotShown (Refused e))
      → IsRejectedAs input e × (left ≡ Some [])
  is_rejected e (kept, text, reads, rejected) = grind (arith, common_steps)

-- no other error changes the output
keeps_output : (e : RunError) (kept : Type 0) (input left out new : Option (List ℕ)) → EndsRun kept input left out new e
    → kept ⊎ (e ≡ Output)
keeps_output e kept input left out new h = grind arith

-- a prefix of the error's line, or of that of out of memory
tried : (new line : List ℕ) → TriesToAppend (Some []) (Some new) line → IsPrefix new line
tried new line tries = grind (arith, append-nil)

reports : (new : List ℕ) (e : RunError) → ReportsError (Some []) (Some new) e
    → IsPrefix new (error_line (run_error_text e)) ⊎ IsPrefix new (error_line (codes "out of memory"))
reports new e report = grind (arith, tried)
