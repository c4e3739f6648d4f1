-- A text has one line (`line_unique`), so what the calls say of the line that was found holds of each line of the text.
use Rattle.std.proofs.Common.{◌≡◌, ℕ, ◌%◌, ◌⊎◌, List, length, Result, Err, sym, ap, ◌∙◌, subst, inl, inr, arith}
use Rattle.std.specs.Result.{IsErrAnd}
use Rattle.hex.specs.declared.error.FromHexError.{FromHexError}
use Rattle.hex.specs.declared.error.FromHexError.TheVariants.{OutOfMemory}
use Rattle.hex.specs.Hex.{decode_of}
use Rattle.mh_show.specs.declared.show.ShowError.{ShowError}
use Rattle.mh_show.specs.declared.show.ShowError.TheVariants.{NotHex}
use Rattle.mh_show.specs.Shown.{IsLine, NamesBytes}
use Rattle.mh_show.specs.ShowError.{decoding_error}
use Rattle.mh_show.proofs.NamingLemmas.{line_unique, decoded_names, named_decodes}
use Rattle.mh_show.proofs.show.show.Goals as goal

-- a text has one line, so its length is odd or it is not
odd_line : (text a b : List ℕ) → IsLine a text → IsLine b text → length a % 2 ≡ 1 → length b % 2 ≡ 1
odd_line text a b e f odd = ap (λ (l : List ℕ). length l % 2) (sym (line_unique text a b e f)) ∙ odd

-- a line that names bytes is not rejected as not hexadecimal
not_rejected : (line bytes : List ℕ) (e : FromHexError) → (e ≡ OutOfMemory) ⊎ (decode_of line ≡ Err e)
    → NamesBytes line bytes → ¬ (NotHex ≡ decoding_error e)
not_rejected line bytes e (inl full) named gives = cc (gives ∙ ap decoding_error full)
not_rejected line bytes e (inr rejected) named gives = cc (sym rejected ∙ named_decodes line bytes named)

-- the error that is returned is the one that was made
same_error : {T : Type 0} (r : Result T ShowError) (e made : ShowError) → r ≡ Err e → IsErrAnd r (λ x. x ≡ made) → e ≡ made
same_error r e made same given = grind arith

pub returns-in_err-bytes-clause-not_hex : goal.returns-in_err-bytes-clause-not_hex
returns-in_err-bytes-clause-not_hex c line bytes same is_line named =
    let found = line_unique _ line _ is_line c.line_of.ensures in
    not_rejected _ bytes _ c.in_err-bytes.ensures.err (subst (λ (l : List ℕ). NamesBytes l bytes) found named)
    (same_error c.from_residual.result _ _ same c.from_residual.ensures.1)

pub returns-in_err-multihash-clause-rejected : goal.returns-in_err-multihash-clause-rejected
returns-in_err-multihash-clause-rejected c e same = grind (arith, decoded_names)

pub returns-clause-ok : goal.returns-clause-ok
returns-clause-ok c = grind (arith, decoded_names)

pub returns-clause-odd : goal.returns-clause-odd
returns-clause-odd c line is_line odd =
    cc (c.in_ok-bytes.ensures.odd (odd_line _ line c.line_of.result.now is_line c.line_of.ensures odd))
