-- What a contract sees of an error.
use Rattle.std.specs.Prelude.{◌≡◌, ◌⊎◌, ℕ, List, ◌++◌, codes}
use Rattle.std.specs.Fmt.{decimal}
use Rattle.multihash.specs.Refusal.{Refusal, IsVarintError, IsEof, refusal_text}
use Rattle.multihash.specs.Varint.{insufficient}
use Rattle.form.specs.declared.error.FormError.{FormError}
use Rattle.form.specs.declared.error.FormError.TheVariants.{Failed, TooMany, TooLong, OtherTag, Trailing}

-- the error is `Failed` with an error of which P holds
abbrev pub IsFailed : (Refusal → Type 0) → FormError → Type 0
IsFailed P e = (error : Refusal) × (e ≡ Failed error) × P error

-- the input is truncated
abbrev pub IsTruncated : Refusal → Type 0
IsTruncated e = IsVarintError insufficient e ⊎ IsEof e

-- the text of an error
abbrev pub form_error_text : FormError → List ℕ
form_error_text (Failed error) = refusal_text error
form_error_text (TooMany n) = codes "too many items: " ++ decimal n
form_error_text (TooLong n) = codes "a block is too long, in bytes: " ++ decimal n
form_error_text (OtherTag n) = codes "unexpected tag: " ++ decimal n
form_error_text (Trailing n) = codes "trailing bytes: " ++ decimal n
