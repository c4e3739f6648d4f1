-- What an error of `show` prints.
use Rattle.std.specs.Prelude.{ℕ, List, codes}
use Rattle.hex.specs.declared.error.FromHexError.{FromHexError}
use Rattle.hex.specs.declared.error.FromHexError.TheVariants.{InvalidHexCharacter, OddLength, InvalidStringLength, OutOfMemory}
use Rattle.multihash.specs.Refusal.{refusal_text}
use Rattle.mh_show.specs.declared.show.ShowError.{ShowError}
use Rattle.mh_show.specs.declared.show.ShowError.TheVariants.{NotHex, Refused, Memory}

-- the text that an error prints
abbrev pub show_error_text : ShowError → List ℕ
show_error_text NotHex = codes "not hexadecimal"
show_error_text (Refused error) = refusal_text error
show_error_text Memory = codes "out of memory"

-- the error that an error of `hex` becomes
abbrev pub decoding_error : FromHexError → ShowError
decoding_error (InvalidHexCharacter c index) = NotHex
decoding_error OddLength = NotHex
decoding_error InvalidStringLength = NotHex
decoding_error OutOfMemory = Memory
